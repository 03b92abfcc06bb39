-- A history is a run of the channel, of which the headline holds.
use Rattle.std.proofs.Common.{ℕ, List, [], length, sym, subst}
use Rattle.std.specs.Prelude.{None}
use Rattle.concurrent_queue.specs.Bridge.{HasCells}
use Rattle.concurrent_queue.specs.Contents.{Contents}
use Rattle.concurrent_queue.specs.declared.cells.QueueForm.{QueueForm}
use Rattle.channel_calls.specs.declared.whole.Completed.{Completed}
use Rattle.channel_steps.specs.every_run.Bridge.{ActsTo, LastsFor, just_opened, own, steps_of}
use Rattle.channel_steps.proofs.every_run.BridgeHeadline.{keeps_the_headline}
use Rattle.channel_history.specs.History.{appends, parts_of, IsChannelHistory}
use Rattle.channel_history.specs.Party.{standing_of}
use Rattle.channel_history.specs.Says.{HaveEnded, HistorySays, HistoriesAreRuns}
use Rattle.channel_history.specs.declared.party.Standing.{Standing}
use Rattle.channel_history.proofs.Replying.{have_ended}

module _ {T W : Type 0} (form : QueueForm) (views : List (Standing T W)) (cells : Contents T) (senders receivers : ℕ) (has : HasCells form) (h : IsChannelHistory form views cells senders receivers)
    (lasts : LastsFor (length h.events) form) where
  -- each party's part is what its machine does, up to where its view says
  acts : (p : ℕ) → ActsTo form None (own p h.events) (standing_of views p).given (standing_of views p).stage
  acts p =
      let l = h.each p in
      subst (λ (gs : List (Completed T)). ActsTo form None (own p h.events) gs (standing_of views p).stage) (sym l.given) l.acts

  pub history_says : HistorySays form views cells senders receivers h
  history_says =
      let run = keeps_the_headline T W (List W) appends form h.events (λ p. (standing_of views p).given) (λ p. (standing_of views p).stage) []
      (parts_of cells h.listening senders receivers) h.woken has lasts acts h.order in
      let keeps = run.0 in let is = keeps.is in let r = is.run in
      record {
        keeps = keeps;
        stands = run.1;
        replies = λ p. subst (λ (cs : List (Completed T)). HaveEnded p cs (just_opened form []) (steps_of h.events) is.trace r.moments) (is.answers p)
            (have_ended p (just_opened form []) h.events is.trace r.moments keeps.each);
      }

pub histories_are_runs : (T W : Type 0) → HistoriesAreRuns T W
histories_are_runs T W = history_says
