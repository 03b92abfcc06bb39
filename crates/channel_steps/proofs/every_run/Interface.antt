-- What a layer above may use: each that waits in a channel that was just opened is answered for, and stays so over every entry
-- of a run; and what is over stays over.
use Rattle.std.proofs.Common.{ℕ, List, Option}
use Rattle.channel_steps.proofs.every_run.Words.{Next, new_configuration, Shut, Spent, Configuration, Steps, Entry, Step, GivesMessage, SaysTheEnd, Replies, AllSpent, WakeInvariant}
use Rattle.channel_steps.proofs.every_run.Closed.{next_keeps}
use Rattle.channel_steps.proofs.every_run.Closings as closings
use Rattle.channel_steps.proofs.every_run.Notices.{tellings_new}
use Rattle.channel_steps.proofs.every_run.Receives.{receives_next, receives_new}
use Rattle.channel_steps.proofs.every_run.Sends.{sends_next, sends_new}
use Rattle.channel_steps.proofs.every_run.Over as over
pub use Rattle.channel_steps.proofs.every_run.Over.{stays_over}
use Rattle.channel_steps.proofs.every_run.Streams as streams
use Rattle.channel_steps.proofs.every_run.Unlisted.{unlisted_new, unlisted_next}

module _ {T W : Type 0} where
  pub all_sound_new : (cap : Option ℕ) → WakeInvariant (new_configuration {T = T} {W = W} cap)
  all_sound_new cap =
      record {
        streams = streams.new_sound cap;
        closing = closings.new_sound cap;
        receives = receives_new cap;
        sends = sends_new cap;
        tellings = (let h = tellings_new {T = T} {W = W} cap in h.fit);
        ends = over.end_new cap;
        unlisted = unlisted_new cap;
      }

  pub all_sound_next : (s : Configuration T W) (x : Step T W) (e : Entry T) (names : List W) (t : Configuration T W) → WakeInvariant s
      → Next s x e names t → WakeInvariant t
  all_sound_next s x e names t sound n =
      let receives = receives_next s x e names t n sound.receives in
      record {
        streams = streams.sound_next s x e names t n sound.streams;
        closing = closings.sound_next s x e names t n sound.closing;
        receives = receives;
        sends = sends_next s x e names t n sound.sends;
        tellings = receives.tellings.fit;
        ends = over.end_next s x e names t n sound.streams.known sound.ends;
        unlisted = unlisted_next s x e names t n sound.streams.known sound.unlisted;
      }

  -- what is closed stays closed
  pub stays_closed : (s : Configuration T W) (x : Step T W) (e : Entry T) (names : List W) (t : Configuration T W) → Next s x e names t → Shut s.now
      → Shut t.now
  stays_closed s x e names t n shut = let h = next_keeps s x e names t n shut in h.0

  -- a reply that says the end found the channel over
  pub says_over : (s : Configuration T W) (p : ℕ) (e : Entry T) (names : List W) (t : Configuration T W) (st : Steps s p e names t) → WakeInvariant s
      → Replies SaysTheEnd e.reply → Spent t.now
  says_over s p e names t st sound end = over.says_over s p e names t st sound.ends end

  -- a call that saw nothing else gives no message
  pub late_gives : (s : Configuration T W) (p : ℕ) (e : Entry T) (names : List W) (t : Configuration T W) (st : Steps s p e names t) → WakeInvariant s
      → AllSpent st.mine.seen → Replies GivesMessage e.reply → ⊥
  late_gives s p e names t st sound all g = over.late_gives s p e names t st sound.streams.known sound.ends all g
