-- What a trace saw of a call that was made over cells which show it their deeds.
use Rattle.std.proofs.Common.{◌≡◌, inl, inr, ℕ, zero, suc, false, Bool, true, List, Option, None, Some, Result, Ok, Err, ◌++◌, refl, sym, ap, subst, ◌∙◌, append-nil}
use Rattle.std.specs.Global.{Vec}
use Rattle.concurrent_queue.specs.Deeds as cell
use Rattle.concurrent_queue.specs.declared.cells.QueueForm.{QueueForm}
use Rattle.concurrent_queue.specs.declared.queue_call.QueueCall.{QueueCall}
use Rattle.event_listener.specs.declared.key.Key.{Key}
use Rattle.event_listener.specs.declared.error.ListenError.{ListenError}
use Rattle.event_listener.specs.declared.waking.Task.{Task}
use Rattle.async_channel.specs.Handles.{Handle, form_of}
use Rattle.async_channel.specs.Counts.{CloneRefused, UpgradeRefused, Clones, Upgrades}
use Rattle.async_channel.specs.Polls.{Polls, PollsSend}
use Rattle.async_channel.specs.Saw.{Saw, SeenOn, DidBeside}
use Rattle.async_channel.specs.Several.{ReceivesMany}
use Rattle.std.specs.Prelude.{MatchOption}
use Rattle.atomic_table.specs.Seated.{TableId}
use Rattle.async_channel.specs.Watched.{WasSeen}
use Rattle.async_channel.proofs.Forms.{without}
use Rattle.async_channel.specs.declared.cells.SharedWords.{SharedWords}
use Rattle.async_channel.specs.declared.seen.Seen.{Seen}
use Rattle.channel_calls.proofs.Interface.{carried}
use Rattle.channel_calls.specs.Asks.{first}
use Rattle.channel_calls.specs.Blocks.{waiting_of, poll_woken, Asked, Slept, Looks, AnswersAtFirst, Listens, Round, Rounds, Wakens, Blocks}
use Rattle.channel_calls.specs.Deeds.{Deed, Done, taken_off}
use Rattle.channel_calls.specs.Filling.{Fills, StandsBehind}
use Rattle.channel_calls.specs.Taking.{WaitsForNext}
use Rattle.channel_calls.specs.Turns.{again, leaving, line_of, message_of}
use Rattle.channel_calls.specs.Walks.{Leaves, WorkMakes, ChannelMakes, Leads, Walked, WalkedFrom, WalkedTo}
use Rattle.channel_calls.specs.Calls.{send_ask}
use Rattle.channel_calls.specs.declared.ask.ChannelAsk.{ChannelAsk}
use Rattle.channel_calls.specs.declared.ask.ChannelAsk.TheVariants as ask
use Rattle.channel_calls.specs.declared.error.HandleError.{HandleError}
use Rattle.channel_calls.specs.declared.stage.WaitList.{WaitList}
use Rattle.channel_calls.specs.declared.stage.Side.{Side}
use Rattle.channel_calls.specs.declared.blocked.Blocked.{Blocked}
use Rattle.channel_calls.specs.declared.error.Refused.{Refused}
use Rattle.channel_calls.specs.declared.error.TryRecvError.{TryRecvError}
use Rattle.channel_calls.specs.declared.reply.Reply.{Reply}
use Rattle.channel_calls.specs.declared.reply.Reply.TheVariants as reply
use Rattle.channel_calls.specs.declared.mark.Mark.{Mark}
use Rattle.channel_calls.specs.declared.stage.ListenerRef.{ListenerRef}
use Rattle.channel_calls.specs.declared.stage.Returned.{Returned}
use Rattle.channel_calls.specs.declared.stage.Stage.{Stage}
use Rattle.channel_calls.specs.declared.stage.Stage.TheVariants.{Trying, Working, Finished}
use Rattle.channel_calls.specs.declared.stage.NextStep.{NextStep}
use Rattle.channel_calls.specs.declared.stage.ListStep.{ListStep}
use Rattle.channel_calls.specs.declared.stage.ListStep.TheVariants.{TellReceive, TellStreams, TellSend, TellSends, TakeRoom, TellAll, Insert, Register, Leave, Lower, Count, Load, Raise}

-- what is done by the one relation is done by the other as it is seen, from a state of which this is so; no deed changes it
module _ {T W X Y F : Type 0} (did : Deed T W → X → X → Type 0) (seen : Deed T W → Y → Y → Type 0) (view : X → Y) (of : X → F) (f : F)
    (keeps : (d : Deed T W) (s t : X) → did d s t → of t ≡ of s) (shows : (d : Deed T W) (s t : X) → of s ≡ f → did d s t → seen d (view s) (view t)) where
  left_keeps : (held : Option ListenerRef) (s t : X) → Leaves did held s t → of t ≡ of s
  left_keeps None s t e = ap of e
  left_keeps (Some held) s t (names, d) = keeps (taken_off held.line held.key names) s t d

  work_keeps : (w : ListStep T W) (s t : X) (m : Mark) (next : Stage (QueueCall T) T W) (r : Option (Reply T)) → WorkMakes did w s t m next r → of t ≡ of s
  work_keeps (TellReceive e) s t m next r h = keeps _ s t h.1
  work_keeps (TellStreams e) s t m next r h = keeps _ s t h.1
  work_keeps (TellSend e) s t m next r h = keeps _ s t h.1
  work_keeps (TellSends n e) s t m next r h = keeps _ s t h.1
  work_keeps (TakeRoom n) s t m next r h = ap of h.1
  work_keeps (TellAll line c) s t m next r h = keeps _ s t h.1
  work_keeps (Insert w task) s t m next r h = keeps _ s t h.1
  work_keeps (Register w key task) s t m next r h = keeps _ s t h.1
  work_keeps (Leave e) s t m next r h = left_keeps e.held s t h.0
  work_keeps (Lower side key) s t m next r h = keeps _ s t h.1
  work_keeps (Count side) s t m next r h = keeps _ s t h.1
  work_keeps (Load side making) s t m next r h = keeps _ s t h.1
  work_keeps (Raise side n making) s t m next r h = keeps _ s t h.1

  step_keeps : (a : Stage (QueueCall T) T W) (s t : X) (m : Mark) (next : Stage (QueueCall T) T W) (r : Option (Reply T)) → ChannelMakes did a s t m next r → of t ≡ of s
  step_keeps (Trying call purpose) s t m next r h = keeps _ s t h.2
  step_keeps (Working w) s t m next r d = work_keeps w s t m next r d
  step_keeps (Finished kept) s t m next r h = ap of h.0

  step_seen : (a : Stage (QueueCall T) T W) (s t : X) (m : Mark) (next : Stage (QueueCall T) T W) (r : Option (Reply T)) → of s ≡ f → ChannelMakes did a s t m next r → ChannelMakes seen a (view s) (view t) m next r
  step_seen a s t m next r h d = carried did seen s t (view s) (view t) (λ e done. shows e s t h done) (λ e. ap view e) m next r a d

  leads_keep : (n : ℕ) (s : X) (a : Stage (QueueCall T) T W) (t : X) (b : Stage (QueueCall T) T W) → Leads did n s a t b → of t ≡ of s
  leads_keep zero s a t b (e, g) = ap of e
  leads_keep (suc n) s a t b (x, y, m, step, path) = leads_keep n x y t b path ∙ step_keeps a s x m y None step

  leads_seen : (n : ℕ) (s : X) (a : Stage (QueueCall T) T W) (t : X) (b : Stage (QueueCall T) T W) → of s ≡ f → Leads did n s a t b → Leads seen n (view s) a (view t) b
  leads_seen zero s a t b h (e, g) = (ap view e, g)
  leads_seen (suc n) s a t b h (x, y, m, step, path) = (view x, y, m, step_seen a s x m y None h step, leads_seen n x y t b (step_keeps a s x m y None step ∙ h) path)

  walked_keeps : (a : Stage (QueueCall T) T W) (s : X) (r : Reply T) (kept : Returned T) (t : X) → Walked did a s r kept t → of t ≡ of s
  walked_keeps a s r kept t (n, x, b, m, c, path, last, left) = step_keeps b x t m c (Some r) last ∙ leads_keep n s a x b path

  walked_seen : (a : Stage (QueueCall T) T W) (s : X) (r : Reply T) (kept : Returned T) (t : X) → of s ≡ f → Walked did a s r kept t → Walked seen a (view s) r kept (view t)
  walked_seen a s r kept t h (n, x, b, m, c, path, last, left) =
      (n, view x, b, m, c, leads_seen n s a x b h path, step_seen b x t m c (Some r) (leads_keep n s a x b path ∙ h) last, left)

  from_keeps : (turn : NextStep T W) (s : X) (r : Reply T) (kept : Returned T) (t : X) → WalkedFrom did turn s r kept t → of t ≡ of s
  from_keeps turn s r kept t (a, takes, walked) = walked_keeps a s r kept t walked

  pub from_seen : (turn : NextStep T W) (s : X) (r : Reply T) (kept : Returned T) (t : X) → of s ≡ f → WalkedFrom did turn s r kept t → WalkedFrom seen turn (view s) r kept (view t)
  from_seen turn s r kept t h (a, takes, walked) = (a, takes, walked_seen a s r kept t h walked)

  to_keeps : (turn : NextStep T W) (s : X) (r : Reply T) (t : X) → WalkedTo did turn s r t → of t ≡ of s
  to_keeps turn s r t (kept, walked) = from_keeps turn s r kept t walked

  pub to_seen : (turn : NextStep T W) (s : X) (r : Reply T) (t : X) → of s ≡ f → WalkedTo did turn s r t → WalkedTo seen turn (view s) r (view t)
  to_seen turn s r t h (kept, walked) = (kept, from_seen turn s r kept t h walked)

  pub fills_seen : (room : ℕ) (before : List T) (s : X) (r : Result ℕ TryRecvError) (after : List T) (t : X) → of s ≡ f → Fills did room before s r after t → Fills seen room before (view s) r after (view t)
  fills_seen room before s (Ok n) after t h (taken, stands, (count, walked)) = (taken, stands, (count, to_seen (first (ask.RecvMany room)) s _ t h walked))
  fills_seen room before s (Err e) after t h (taken, stands, (none, walked)) = (taken, stands, (none, to_seen (first (ask.RecvMany room)) s _ t h walked))

  looks_keep : (n : ℕ) (b : Blocked T) (s t : X) → Looks did n b s t → of t ≡ of s
  looks_keep zero b s t e = ap of e
  looks_keep (suc n) b s t (x, looks, walked) = to_keeps _ x _ t walked ∙ looks_keep n b s x looks

  looks_seen : (n : ℕ) (b : Blocked T) (s t : X) → of s ≡ f → Looks did n b s t → Looks seen n b (view s) (view t)
  looks_seen zero b s t h e = ap view e
  looks_seen (suc n) b s t h (x, looks, walked) = (view x, looks_seen n b s x h looks, to_seen _ x _ t (looks_keep n b s x looks ∙ h) walked)

  begins_seen : (b : Blocked T) (s : X) (r : Reply T) (kept : Returned T) (t : X) → of s ≡ f → AnswersAtFirst did b s r kept t → AnswersAtFirst seen b (view s) r kept (view t)
  begins_seen b s r kept t h begins task = from_seen (again (waiting_of b) None task) s r kept t h (begins task)

  listens_seen : (b : Blocked T) (s : X) (key : Key) (t : X) → of s ≡ f → Listens did b s key t → Listens seen b (view s) key (view t)
  listens_seen b s key t h listens task = let (a, takes, n, path) = listens task in (a, takes, n, leads_seen n s a t _ h path)

  -- where no task was given it is known of the state behind, so it is of that before
  module _ (asked : Option W → X → X → Type 0) (asked_seen : Option W → Y → Y → Type 0) (asked_keeps : (o : Option W) (s t : X) → asked o s t → of t ≡ of s) (shows_asked : (o : Option W) (s t : X) → asked o s t → asked_seen o (view s) (view t))
      (slept : X → X → Type 0) (slept_seen : Y → Y → Type 0) (slept_keeps : (s t : X) → slept s t → of t ≡ of s) (shows_slept : (s t : X) → slept s t → slept_seen (view s) (view t)) where
    round_keeps : (b : Blocked T) (key : Key) (s : X) (next : Key) (t : X) → Round did asked slept b key s next t → of t ≡ of s
    round_keeps b key s next t (task, x, y, asks, walked, sleeps) =
        slept_keeps y t sleeps ∙ from_keeps (first (poll_woken b key task)) x _ _ y walked ∙ asked_keeps (Some task) s x asks

    round_seen : (b : Blocked T) (key : Key) (s : X) (next : Key) (t : X) → of s ≡ f → Round did asked slept b key s next t → Round seen asked_seen slept_seen b key (view s) next (view t)
    round_seen b key s next t h (task, x, y, asks, walked, sleeps) =
        (task, view x, view y, shows_asked (Some task) s x asks, from_seen (first (poll_woken b key task)) x _ _ y (asked_keeps (Some task) s x asks ∙ h) walked, shows_slept y t sleeps)

    rounds_keep : (n : ℕ) (b : Blocked T) (key : Key) (s : X) (next : Key) (t : X) → Rounds did asked slept n b key s next t → of t ≡ of s
    rounds_keep zero b key s next t (e, g) = ap of g
    rounds_keep (suc n) b key s next t (k, x, rounds, round) = round_keeps b k x next t round ∙ rounds_keep n b key s k x rounds

    rounds_seen : (n : ℕ) (b : Blocked T) (key : Key) (s : X) (next : Key) (t : X) → of s ≡ f → Rounds did asked slept n b key s next t → Rounds seen asked_seen slept_seen n b key (view s) next (view t)
    rounds_seen zero b key s next t h (e, g) = (e, ap view g)
    rounds_seen (suc n) b key s next t h (k, x, rounds, round) =
        (k, view x, rounds_seen n b key s k x h rounds, round_seen b k x next t (rounds_keep n b key s k x rounds ∙ h) round)

    wakens_keep : (b : Blocked T) (key : Key) (s : X) (r : Reply T) (kept : Returned T) (t : X) → Wakens did asked slept b key s r kept t → of t ≡ of s
    wakens_keep b key s r kept t (inl (x, asks, walked)) =
        from_keeps (first (ask.RefusePoll (line_of (waiting_of b)) (message_of (waiting_of b)) (Some key))) x r kept t walked ∙ asked_keeps None s x asks
    wakens_keep b key s r kept t (inr (task, x, asks, walked, over)) = from_keeps (first (poll_woken b key task)) x r kept t walked ∙ asked_keeps (Some task) s x asks

    wakens_seen : (b : Blocked T) (key : Key) (s : X) (r : Reply T) (kept : Returned T) (t : X) → of s ≡ f → Wakens did asked slept b key s r kept t → Wakens seen asked_seen slept_seen b key (view s) r kept (view t)
    wakens_seen b key s r kept t h (inl (x, asks, walked)) =
        inl (view x, shows_asked None s x asks, from_seen (first (ask.RefusePoll (line_of (waiting_of b)) (message_of (waiting_of b)) (Some key))) x r kept t (asked_keeps None s x asks ∙ h) walked)
    wakens_seen b key s r kept t h (inr (task, x, asks, walked, over)) =
        inr (task, view x, shows_asked (Some task) s x asks, from_seen (first (poll_woken b key task)) x r kept t (asked_keeps (Some task) s x asks ∙ h) walked, over)

    pub blocks_seen : (b : Blocked T) (s : X) (r : Reply T) (kept : Returned T) (t : X) → of s ≡ f → of t ≡ f → Blocks did asked slept b s r kept t → Blocks seen asked_seen slept_seen b (view s) r kept (view t)
    blocks_seen b s r kept t h end (n, x, looks, inl begins) = (n, view x, looks_seen n b s x h looks, inl (begins_seen b x r kept t (looks_keep n b s x looks ∙ h) begins))
    blocks_seen b s r kept t h end (n, x, looks, inr (key, y, listens, (m, k, z, rounds, wakens))) =
        let late : of z ≡ f = sym (wakens_keep b k z r kept t wakens) ∙ end in
        let woken : of y ≡ f = sym (rounds_keep m b key y k z rounds) ∙ late in
        (n, view x, looks_seen n b s x h looks, inr (key, view y, listens_seen b x key y (looks_keep n b s x looks ∙ h) listens, (m, k, view z, rounds_seen m b key y k z woken rounds, wakens_seen b k z r kept t late wakens)))

    pub waits_seen : (ended : Bool) (s : X) (item : Option (Result T ListenError)) (t : X) → of s ≡ f → of t ≡ f → WaitsForNext did asked slept ended s item t → WaitsForNext seen asked_seen slept_seen ended (view s) item (view t)
    waits_seen true s item t h end (none, e) = (none, ap view e)
    waits_seen false s item t h end blocks = blocks_seen _ s _ _ t h end blocks

-- what holds between two values holds between those that are these
between : {S : Type 0} (P : S → S → Type 0) (a b x y : S) → a ≡ x → y ≡ b → P a b → P x y
between {S = S} P a b x y from to h = subst (λ (z : S). P z y) from (subst (λ (z : S). P a z) (sym to) h)

module _ {T C S : Type 0} (form : C → QueueForm) (beside : Deed T Task → C → C → Type 0) (did : cell.Deed T → S → S → Type 0) (shown : Deed T Task → S → S → Type 0) where
  -- the cells of a channel, and a trace
  abbrev tells : Deed T Task → Seen C S → Seen C S → Type 0
  tells d a b = (form b.cells ≡ form a.cells) × DidBeside beside d a.cells b.cells × Saw did shown (form a.cells) d a.trace b.trace

  told : (f : QueueForm) (d : Deed T Task) (a b : Seen C S) → form a.cells ≡ f → tells d a b → Saw did shown f d a.trace b.trace
  told f d a b e h = subst (λ (g : QueueForm). Saw did shown g d a.trace b.trace) e h.2

  -- a question made over words, from the trace that was given to the one that is given back
  asked_of : (f : QueueForm) (turn : NextStep T Task) (s t : Seen C S) (r : Reply T) (x y : S) → form s.cells ≡ f → s.trace ≡ x → y ≡ t.trace → WalkedTo tells turn s r t → WalkedTo (Saw did shown f) turn x r y
  asked_of f turn s t r x y is from to walked =
      between (λ a b. WalkedTo (Saw did shown f) turn a r b) s.trace t.trace x y from to
      (to_seen tells (Saw did shown f) (λ (z : Seen C S). z.trace) (λ (z : Seen C S). form z.cells) f (λ d a b h. h.0) (told f) turn s r t is walked)

-- the words that threads share
module _ {T S : Type 0} (did : cell.Deed T → S → S → Type 0) (shown : Deed T Task → S → S → Type 0) where
  abbrev words_form : SharedWords T → QueueForm
  words_form c = form_of c.shared.now

  abbrev answers : Deed T Task → SharedWords T → SharedWords T → Type 0
  answers d a b = Unit {0}

  pub asked : (f : QueueForm) (turn : NextStep T Task) (s t : Seen (SharedWords T) S) (r : Reply T) (x y : S) → form_of s.cells.shared.now ≡ f → s.trace ≡ x → y ≡ t.trace → WalkedTo (tells words_form answers did shown) turn s r t → WalkedTo (Saw did shown f) turn x r y
  asked f turn s t r x y is from to walked = asked_of words_form answers did shown f turn s t r x y is from to walked

-- likewise cells of any kind, with a sink that wakes at once
module _ {T C K S : Type 0} (form : C → QueueForm) (beside : Deed T Task → C → C → Type 0) (did : cell.Deed T → S → S → Type 0) (shown : Deed T Task → S → S → Type 0) where
  abbrev sees : Deed T Task → Seen C S × K → Seen C S × K → Type 0
  sees = Done (tells form beside did shown) (λ (k : K) (task : Task) (l : K). Unit {0})

  abbrev trace_of : Seen C S × K → S
  trace_of z = z.0.trace

  abbrev of : Seen C S × K → QueueForm
  of z = form z.0.cells

  kept_by : (d : Deed T Task) (a b : Seen C S × K) → sees d a b → of b ≡ of a
  kept_by d a b h = h.0.0

  showed : (f : QueueForm) (d : Deed T Task) (a b : Seen C S × K) → of a ≡ f → sees d a b → (Saw did shown f) d (trace_of a) (trace_of b)
  showed f d a b e h = told form beside did shown f d a.0 b.0 e h.0

  -- from these cells with their trace to the trace that is given back
  module _ (s t : Seen C S × K) (y : S) (to : y ≡ t.0.trace) where
    abbrev saw : Deed T Task → S → S → Type 0
    saw = Saw did shown (of s)

    given : (P : S → Type 0) → P t.0.trace → P y
    given P h = subst P (sym to) h

    pub walked_from : (turn : NextStep T Task) (r : Reply T) (kept : Returned T) → WalkedFrom sees turn s r kept t → WalkedFrom saw turn s.0.trace r kept y
    walked_from turn r kept walked = given (WalkedFrom saw turn s.0.trace r kept) (from_seen sees saw trace_of of (of s) kept_by (showed (of s)) turn s r kept t refl walked)

    pub walked_to : (turn : NextStep T Task) (r : Reply T) → WalkedTo sees turn s r t → WalkedTo saw turn s.0.trace r y
    walked_to turn r walked = given (WalkedTo saw turn s.0.trace r) (to_seen sees saw trace_of of (of s) kept_by (showed (of s)) turn s r t refl walked)

    pub filled : (room : ℕ) (before after : List T) (r : Result ℕ TryRecvError) → Fills sees room before s r after t → Fills saw room before s.0.trace r after y
    filled room before after r fills = given (Fills saw room before s.0.trace r after) (fills_seen sees saw trace_of of (of s) kept_by (showed (of s)) room before s r after t refl fills)

    pub several : (limit : ℕ) (r : Result (Vec T) (Refused TryRecvError Unit)) → ReceivesMany sees limit s r t → ReceivesMany saw limit s.0.trace r y
    several limit (Ok messages) walked = walked_to (first (ask.RecvMany limit)) (reply.RecvMany (Ok messages.items)) walked
    several limit (Err e) walked = walked_to (first (ask.RecvMany limit)) (reply.RecvMany (Err e)) walked

    -- of calls that block their thread
    module _ (asked_bed : Option Task → C → C → Type 0) (slept_bed : C → C → Type 0) (parked : Option Task → S → S → Type 0) (slept : S → S → Type 0) (end : of t ≡ of s) where
      abbrev asks : Option Task → Seen C S × K → Seen C S × K → Type 0
      asks = Asked (λ o a b. (form b.cells ≡ form a.cells) × asked_bed o a.cells b.cells × parked o a.trace b.trace)

      abbrev sleeps : Seen C S × K → Seen C S × K → Type 0
      sleeps = Slept (λ a b. (form b.cells ≡ form a.cells) × slept_bed a.cells b.cells × slept a.trace b.trace)

      pub blocked : (call : Blocked T) (r : Reply T) (kept : Returned T) → Blocks sees asks sleeps call s r kept t → Blocks saw parked slept call s.0.trace r kept y
      blocked call r kept blocks =
          given (Blocks saw parked slept call s.0.trace r kept)
          (blocks_seen sees saw trace_of of (of s) kept_by (showed (of s)) asks parked (λ o a b h. h.0.0) (λ o a b h. h.0.2) sleeps slept (λ a b h. h.0.0) (λ a b h. h.0.2) call s r kept t refl end blocks)

      pub waited : (ended : Bool) (item : Option (Result T ListenError)) → WaitsForNext sees asks sleeps ended s item t → WaitsForNext saw parked slept ended s.0.trace item y
      waited ended item waits =
          given (WaitsForNext saw parked slept ended s.0.trace item)
          (waits_seen sees saw trace_of of (of s) kept_by (showed (of s)) asks parked (λ o a b h. h.0.0) (λ o a b h. h.0.2) sleeps slept (λ a b h. h.0.0) (λ a b h. h.0.2) ended s item t refl end waits)

-- what was seen of a call on cells of this form was seen on the channel that has it, once the trace was shown whose they are
module _ {T W X A : Type 0} (did : cell.Deed T → X → X → Type 0) (shown : Deed T W → X → X → Type 0) (entered : ℕ → X → X → Type 0) (Does : (Deed T W → X → X → Type 0) → X → A → X → Type 0) where
  pub on_channel : (channel : Handle) (form : QueueForm) (before here : X) (answer : A) (after : X) → form ≡ channel.form → entered channel.seal before here
      → Does (Saw did shown form) here answer after → SeenOn did shown entered channel Does before answer after
  unfolding SeenOn
  on_channel channel form before here answer after is enters does = (here, enters, subst (λ (f : QueueForm). Does (Saw did shown f) here answer after) is does)

  -- and so it is said of a channel without a bound
  pub seen_of : (P : TableId → Type 0) (channel : Handle) (form : QueueForm) (before here : X) (answer : A) (after : X) → channel.table ≡ None → form ≡ channel.form → entered channel.seal before here
      → Does (Saw did shown form) here answer after → MatchOption channel.table (WasSeen did shown entered channel Does answer) P
  seen_of P channel form before here answer after none is enters does = without _ P channel.table none (before, after, on_channel channel form before here answer after is enters does)

-- what was seen on a channel was seen on one that is equal
module _ {T W X A : Type 0} (did : cell.Deed T → X → X → Type 0) (shown : Deed T W → X → X → Type 0) (entered : ℕ → X → X → Type 0) (Does : (Deed T W → X → X → Type 0) → X → A → X → Type 0) where
  pub of_equal : (f g : Handle) (s : X) (r : A) (t : X) → f ≡ g → SeenOn did shown entered f Does s r t → SeenOn did shown entered g Does s r t
  of_equal f g s r t e seen = subst (λ (h : Handle). SeenOn did shown entered h Does s r t) e seen

  pub watched : (f g : Handle) (s : X) (r : A) (t : X) → f ≡ g → SeenOn did shown entered f Does s r t → WasSeen did shown entered g Does r
  watched f g s r t e seen = (s, t, of_equal f g s r t e seen)

module _ {T W X : Type 0} where
  -- a poll that was left this listener, from one that it had
  pub poll_kept : (saw : Deed T W → X → X → Type 0) (asks : Option Key → Option W → ChannelAsk T W) (k l : Option Key) (task : Option W) (s : X) (r : Reply T) (kept : Returned T) (next : Option Key) (t : X)
      → k ≡ l → next ≡ kept.key → WalkedFrom saw (first (asks k task)) s r kept t → PollsSend saw (asks l) s r next kept.message t
  poll_kept saw asks k l task s r kept next t is left walked =
      (task, subst (λ (n : Option Key). WalkedFrom saw (first (asks l task)) s r (leaving n kept.message) t) (sym left) (subst (λ (x : Option Key). WalkedFrom saw (first (asks x task)) s r kept t) is walked))

module _ {T W X : Type 0} (did : cell.Deed T → X → X → Type 0) (shown : Deed T W → X → X → Type 0) (entered : ℕ → X → X → Type 0) where
  -- of a receive of several: what was taken stands behind what was there
  pub stands_behind : (channel : Handle) (room : ℕ) (before : List T) (s : X) (r : Result ℕ TryRecvError) (after : List T) (t : X)
      → SeenOn did shown entered channel (λ saw begin a end. Fills saw room before begin a after end) s r t → StandsBehind before r after
  unfolding SeenOn
  stands_behind channel room before s (Ok n) after t (here, enters, (taken, stands, (count, walked))) = (taken, stands, count)
  stands_behind channel room before s (Err e) after t (here, enters, (taken, stands, (none, walked))) =
      stands ∙ ap (λ (l : List T). before ++ l) none ∙ append-nil before

  -- a clone and an upgrade, whatever is made of what was counted
  module _ {A : Type 0} (f g : Handle) (side : Side) (s t : X) (is : f ≡ g) where
    pub clone_made : {B : Type 0} (r : Result A HandleError) (a : A) (b : B) → r ≡ Ok a → SeenOn did shown entered f (λ saw. Clones saw side) s r t → SeenOn did shown entered g (λ saw. Clones saw side) s (Ok b) t
    unfolding SeenOn
    clone_made r a b ok h =
        subst (λ (x : Handle). (here : X) × entered x.seal s here × WalkedTo (Saw did shown x.form) (first (ask.CloneHandle side)) here reply.Made t) is
        (h.0, h.1, subst (λ (x : Result A HandleError). Clones (Saw did shown f.form) side h.0 x t) ok h.2)

    pub clone_not : (B : Type 0) (r : Result A HandleError) (e : HandleError) → r ≡ Err e → SeenOn did shown entered f (λ saw. Clones saw side) s r t → SeenOn {A = Result B HandleError} did shown entered g (λ saw. Clones saw side) s (Err e) t
    unfolding SeenOn
    clone_not B r e err h =
        subst (λ (x : Handle). (here : X) × entered x.seal s here × CloneRefused (Saw did shown x.form) side here e t) is
        (h.0, h.1, subst (λ (x : Result A HandleError). Clones (Saw did shown f.form) side h.0 x t) err h.2)

    pub upgrade_made : {B : Type 0} (r : Result (Option A) HandleError) (a : A) (b : B) → r ≡ Ok (Some a) → SeenOn did shown entered f (λ saw. Upgrades saw side) s r t → SeenOn did shown entered g (λ saw. Upgrades saw side) s (Ok (Some b)) t
    unfolding SeenOn
    upgrade_made r a b ok h =
        subst (λ (x : Handle). (here : X) × entered x.seal s here × WalkedTo (Saw did shown x.form) (first (ask.Upgrade side)) here reply.Made t) is
        (h.0, h.1, subst (λ (x : Result (Option A) HandleError). Upgrades (Saw did shown f.form) side h.0 x t) ok h.2)

    pub upgrade_none : (B : Type 0) (r : Result (Option A) HandleError) → r ≡ Ok None → SeenOn did shown entered f (λ saw. Upgrades saw side) s r t → SeenOn {A = Result (Option B) HandleError} did shown entered g (λ saw. Upgrades saw side) s (Ok None) t
    unfolding SeenOn
    upgrade_none B r ok h =
        subst (λ (x : Handle). (here : X) × entered x.seal s here × WalkedTo (Saw did shown x.form) (first (ask.Upgrade side)) here reply.NotMade t) is
        (h.0, h.1, subst (λ (x : Result (Option A) HandleError). Upgrades (Saw did shown f.form) side h.0 x t) ok h.2)

    pub upgrade_not : (B : Type 0) (r : Result (Option A) HandleError) (e : HandleError) → r ≡ Err e → SeenOn did shown entered f (λ saw. Upgrades saw side) s r t → SeenOn {A = Result (Option B) HandleError} did shown entered g (λ saw. Upgrades saw side) s (Err e) t
    unfolding SeenOn
    upgrade_not B r e err h =
        subst (λ (x : Handle). (here : X) × entered x.seal s here × UpgradeRefused (Saw did shown x.form) side here e t) is
        (h.0, h.1, subst (λ (x : Result (Option A) HandleError). Upgrades (Saw did shown f.form) side h.0 x t) err h.2)

  -- a poll and a giving up, by the listener and the message that the operation has
  module _ (f g : Handle) (s : X) (r : Reply T) (t : X) (is : f ≡ g) where
    pub polls_of : (asks : Option Key → Option W → ChannelAsk T W) (k l next : Option Key) → k ≡ l
        → SeenOn did shown entered f (λ saw begin a end. Polls saw (asks k) begin a next end) s r t → SeenOn did shown entered g (λ saw begin a end. Polls saw (asks l) begin a next end) s r t
    polls_of asks k l next e h =
        subst (λ (x : Handle). SeenOn did shown entered x (λ saw begin a end. Polls saw (asks l) begin a next end) s r t) is
        (subst (λ (x : Option Key). SeenOn did shown entered f (λ saw begin a end. Polls saw (asks x) begin a next end) s r t) e h)

    pub sends_of : (m n : Option T) (k l next : Option Key) (left kept : Option T) → m ≡ n → k ≡ l → left ≡ kept
        → SeenOn did shown entered f (λ saw begin a end. PollsSend saw (send_ask m k) begin a next left end) s r t → SeenOn did shown entered g (λ saw begin a end. PollsSend saw (send_ask n l) begin a next kept end) s r t
    sends_of m n k l next left kept same e stays h =
        subst (λ (x : Handle). SeenOn did shown entered x (λ saw begin a end. PollsSend saw (send_ask n l) begin a next kept end) s r t) is
        (subst (λ (x : Option T). SeenOn did shown entered f (λ saw begin a end. PollsSend saw (send_ask n l) begin a next x end) s r t) stays
        (subst (λ (x : Option Key). SeenOn did shown entered f (λ saw begin a end. PollsSend saw (send_ask n x) begin a next left end) s r t) e
        (subst (λ (x : Option T). SeenOn did shown entered f (λ saw begin a end. PollsSend saw (send_ask x k) begin a next left end) s r t) same h)))

    pub left_of : (line : WaitList) (m n : Option T) (k l : Option Key) → m ≡ n → k ≡ l
        → SeenOn did shown entered f (λ saw. WalkedTo saw (first (ask.GiveUp line m k))) s r t → SeenOn did shown entered g (λ saw. WalkedTo saw (first (ask.GiveUp line n l))) s r t
    left_of line m n k l same e h =
        subst (λ (x : Handle). SeenOn did shown entered x (λ saw. WalkedTo saw (first (ask.GiveUp line n l))) s r t) is
        (subst (λ (x : Option Key). SeenOn did shown entered f (λ saw. WalkedTo saw (first (ask.GiveUp line n x))) s r t) e
        (subst (λ (x : Option T). SeenOn did shown entered f (λ saw. WalkedTo saw (first (ask.GiveUp line x k))) s r t) same h))
