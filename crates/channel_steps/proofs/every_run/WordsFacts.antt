-- What a channel's words say, of what its cells and its calls under way show.
use Rattle.std.proofs.Common.{◌≡◌, ℕ, ◌<◌, List, [], ◌∷◌, ◌++◌, map, length, None, Some, slice_get, ◌⊎◌, ⊎_elim, inl, inr, refl, sym, ap, ◌∙◌, subst}
use Rattle.channel_steps.proofs.every_run.Words.{Contents, slot_at, Queue, Phase, appended, message, ActiveQueueCall, HasBrought, QueueAsk, QueueForm, Slot, CallState, QueueCall, Channel, Parts, ChannelAsk, Purpose, Stage, Trying, Working, Finished, TriesFor, TryAt, TriesAt, StageAt, ToldAt, MarkedMoment, Appended, Replaced, Displaced, ActiveCall, Configuration, ActiveCallWitness, MayHave, Known, AllKnown, Represents, active_call_of, brought, Telling, Party, phases, closed_in, length_in, items_in, seats, phase, all_seats, IsInState, SomeCall, ChainBy, IsAtQueue, HasLetIn, IsWith, IsWithOne, WordsSay}
use Rattle.concurrent_queue.specs.Step.{slot_in}
use Rattle.concurrent_queue.specs.Step.{FitsAt}
use Rattle.concurrent_queue.specs.Queue as queue
use Rattle.concurrent_queue.specs.declared.call.QueueAsk.TheVariants as q
use Rattle.concurrent_queue.proofs.FitsFacts as fits_facts
use Rattle.concurrent_queue.proofs.Interface.{shows}
use Rattle.channel_calls.specs.declared.ask.ChannelAsk.TheVariants as ask
use Rattle.channel_calls.specs.declared.stage.Purpose.TheVariants as purpose
use Rattle.channel_steps.specs.every_run.Ends.{Each}
use Rattle.channel_steps.specs.every_run.Chained.{AreChained}
use Rattle.channel_steps.specs.every_run.Put.{yet_to_put}
use Rattle.channel_steps.proofs.SuitFacts.{brings_own}
use Rattle.channel_steps.proofs.every_run.ChainedFacts.{SomeSeat, are_chained, by_others}
use Rattle.channel_steps.proofs.every_run.PutFacts.{IsHeldFor, held}

module _ {T W : Type 0} where
  -- ---- the marks of a call that has let its message in

  appended_in : (ds : List (MarkedMoment T W)) → Appended ds → HasLetIn ds
  appended_in (d ∷ []) h = inl (inl h.0)
  appended_in x h = absurd h

  replaced_in : (ds : List (MarkedMoment T W)) (v : T) → Replaced ds v → HasLetIn ds
  replaced_in (d ∷ []) v h = inl (inr h.0)
  replaced_in x v h = absurd h

  displaced_in : (ds : List (MarkedMoment T W)) (v : T) → Displaced ds v → HasLetIn ds
  displaced_in (d ∷ e ∷ []) v h = inr (inl (inl h.1))
  displaced_in x v h = absurd h

  push_in : (now : Channel T W) (w : T) (s : queue.Stage T) (ds : List (MarkedMoment T W)) (seen : List (Channel T W)) → HasBrought s
      → TryAt now (q.Push w) s ds seen → HasLetIn ds
  push_in now w (appended None) ds seen b h = appended_in ds h
  push_in now w (appended (Some d)) ds seen b h = absurd h
  push_in now w s ds seen b h = absurd b

  force_in : (now : Channel T W) (w : T) (s : queue.Stage T) (ds : List (MarkedMoment T W)) (seen : List (Channel T W)) → HasBrought s
      → TryAt now (q.ForcePush w) s ds seen → HasLetIn ds
  force_in now w (appended None) ds seen b h = appended_in ds h
  force_in now w (appended (Some d)) ds seen b (inl h) = replaced_in ds d h
  force_in now w (appended (Some d)) ds seen b (inr h) = displaced_in ds d h
  force_in now w s ds seen b h = absurd b

  -- ---- the call that brought a message

  abbrev Brings : T → ChannelAsk T W → List (MarkedMoment T W) → Type 0
  Brings v a ds = (brought a ≡ v ∷ []) × HasLetIn ds

  let_in : (v : T) (now : Channel T W) (y : Purpose T W) (a : ChannelAsk T W) (x : QueueAsk T) (s : queue.Stage T) (ds : List (MarkedMoment T W))
      (seen : List (Channel T W)) → message x ≡ v ∷ [] → HasBrought s → TriesFor a y x ds seen → TriesAt now y x s ds seen → HasLetIn ds
  let_in v now (purpose.RecvMany g) (ask.RecvMany n) q.Pop s ds seen one b t h = absurd cc
  let_in v now (purpose.RecvMany g) a x s ds seen one b t h = absurd t
  let_in v now y a (q.Push w) s ds seen one b t h = push_in now w s ds seen b h
  let_in v now y a (q.ForcePush w) s ds seen one b t h = force_in now w s ds seen b h
  let_in v now y a x s ds seen one b t h = absurd cc

  -- the queue's call has brought the message at this stage
  abbrev Brought : T → Stage (Phase T) T W → Type 0
  Brought v (Trying f y) = (message f.ask ≡ v ∷ []) × HasBrought f.stage
  Brought v at = ⊥

  stands_with : (v : T) (now : Channel T W)
      (a : ChannelAsk T W) (at : Stage (Phase T) T W) (ds : List (MarkedMoment T W)) (seen : List (Channel T W))
      → StageAt now a at ds seen → Brought v at → Brings v a ds × IsAtQueue at
  stands_with v now a (Trying f y) ds seen k b =
      ((sym (brings_own a y ds seen f.ask k.0) ∙ b.0, let_in v now y a f.ask f.stage ds seen b.0 b.1 k.0 k.1), tt)
  stands_with v now a x ds seen k b = absurd b

  nothing_told : (told : List Telling) (at : Stage (Phase T) T W) (ds : List (MarkedMoment T W)) → ToldAt told at ds → IsAtQueue at → told ≡ []
  nothing_told told (Trying f y) ds k at_queue = k
  nothing_told told x ds k at_queue = absurd at_queue

  -- ---- all calls

  -- where a call of the queue is yet to put the message there, a call of the channel is
  of_seats : (form : QueueForm) (at : Slot) (v : T) (f : Phase T) (stage : Stage (QueueCall T) T W) (rest : List (ActiveQueueCall T))
      → IsHeldFor form at v (seats f stage ++ rest)
      → ((yet_to_put form stage ≡ Some (at, v)) × Brought v (phase f stage)) ⊎ IsHeldFor form at v rest
  unfolding yet_to_put
  of_seats form at v f (Trying call y) rest h = h
  of_seats form at v f (Working w) rest h = inr h
  of_seats form at v f (Finished kept) rest h = inr h

  is_with : (form : QueueForm) (at : Slot) (v : T) (now : Channel T W) (x : ActiveCallWitness T W) → Known now (active_call_of x)
      → (yet_to_put form x.party.call.stage ≡ Some (at, v)) × Brought v (active_call_of x).at → IsWith form at v x.party (active_call_of x)
  is_with form at v now x k b =
      let u : ActiveCall T W = active_call_of x in
      let h = stands_with v now u.ask u.at u.marks u.seen k.stands b.1 in
      record { party = refl; brings = h.0.0; let_in = h.0.1; untold = nothing_told u.told u.at u.marks k.tells h.1; puts = b.0 }

  with_one : (form : QueueForm) (at : Slot) (v : T) (now : Channel T W) (xs : List (ActiveCallWitness T W)) → AllKnown now (map active_call_of xs)
      → IsHeldFor form at v (all_seats xs) → IsWithOne form at v (map (λ (x : ActiveCallWitness T W). x.party) xs) (map active_call_of xs)
  with_one form at v now [] k h = absurd h
  with_one form at v now (x ∷ xs) k h =
      ⊎_elim (λ b. inl (is_with form at v now x k.0 b)) (λ later. inr (with_one form at v now xs k.1 later))
      (of_seats form at v x.inner x.party.call.stage (all_seats xs) h)

  -- where none is at the queue, the queue has no call under way
  no_seats : (f : Phase T) (stage : Stage (QueueCall T) T W) (rest : List (ActiveQueueCall T)) → (IsAtQueue (phase f stage) → ⊥)
      → phases (seats f stage ++ rest) ≡ phases rest
  no_seats f (Trying call y) rest none = absurd (none tt)
  no_seats f (Working w) rest none = refl
  no_seats f (Finished kept) rest none = refl

  none_at_queue : (xs : List (ActiveCallWitness T W)) → Each (λ (u : ActiveCall T W). IsAtQueue u.at → ⊥) (map active_call_of xs) → phases (all_seats xs) ≡ []
  none_at_queue [] h = refl
  none_at_queue (x ∷ xs) h = no_seats x.inner x.party.call.stage (all_seats xs) h.0 ∙ none_at_queue xs h.1

  -- ---- the blocks

  some_seat : (P : CallState T → Type 0) (f : Phase T) (stage : Stage (QueueCall T) T W) (rest : List (ActiveQueueCall T))
      → SomeSeat (seats f stage ++ rest) P
      → IsInState stage P ⊎ SomeSeat rest P
  some_seat P f (Trying call y) rest h = h
  some_seat P f (Working w) rest h = inr h
  some_seat P f (Finished kept) rest h = inr h

  some_call : (xs : List (ActiveCallWitness T W)) (P : CallState T → Type 0) → SomeSeat (all_seats xs) P
      → SomeCall (map (λ (x : ActiveCallWitness T W). x.party) xs) P
  some_call [] P h = absurd h
  some_call (x ∷ xs) P h =
      ⊎_elim (λ g. inl g) (λ g. inr (some_call xs P g)) (some_seat P x.inner x.party.call.stage (all_seats xs) h)

  are_chained_by : (chain : List ℕ) (c : Contents T) (q : Queue T) (xs : List (ActiveCallWitness T W)) (codes : List (Party T W))
      → codes ≡ map (λ (x : ActiveCallWitness T W). x.party) xs → FitsAt chain c q (all_seats xs) → MayHave c.form chain → AreChained c codes chain
  unfolding AreChained
  are_chained_by chain c q xs codes same_codes fits bare =
      subst (λ (ps : List (Party T W)). ChainBy (SomeCall ps) c.form c chain) (sym same_codes)
      (by_others (SomeSeat (all_seats xs)) (SomeCall (map
      (λ (x : ActiveCallWitness T W). x.party) xs)) c.form c chain (some_call xs)
      (are_chained chain c q (all_seats xs) fits bare))

  -- ---- the words

  of_queue : (parts : Parts T W) (codes : List (Party T W)) (s : Configuration T W) (xs : List (ActiveCallWitness T W)) (p : Queue T) → p ≡ s.now.queue
      → codes ≡ map (λ (x : ActiveCallWitness T W). x.party) xs → s.under_way ≡ map active_call_of xs
      → FitsAt s.blocks parts.cells p (all_seats xs) → MayHave parts.cells.form s.blocks → AllKnown s.now s.under_way
      → WordsSay parts.cells codes s
  of_queue parts codes s xs p same_queue same_codes calls fit bare known =
      let c : Contents T = parts.cells in
      let chain : List ℕ = s.blocks in
      let say = shows c p (all_seats xs) (chain, fit) in
      let lie = fits_facts.lies chain c p (all_seats xs) fit in
      let here : AllKnown s.now (map active_call_of xs) = subst (λ (us : List (ActiveCall T W)). AllKnown s.now us) calls known in
      let held_by : (at : Slot) (v : T) → IsHeldFor c.form at v (all_seats xs) → IsWithOne c.form at v codes s.under_way =
      λ at v h. subst (λ (ps : List (Party T W)). IsWithOne c.form at v ps s.under_way) (sym same_codes)
      (subst (λ (us : List (ActiveCall T W)). IsWithOne c.form at v (map (λ (x : ActiveCallWitness T W). x.party) xs) us) (sym calls)
      (with_one c.form at v s.now xs here h)) in
      record {
        flag = subst (λ (x : Queue T). closed_in c ≡ x.closed) same_queue say.flag;
        long = subst (λ (x : Queue T). length_in c ≡ length x.items) same_queue say.long;
        chained = are_chained_by chain c p xs codes same_codes fit bare;
        apart = subst (λ (x : Queue T). (i j : ℕ) → i < length x.items → j < length x.items → slot_in chain c i ≡ slot_in chain c j → i ≡ j)
            same_queue lie.apart;
        lies = subst (λ (x : Queue T). (i : ℕ) (v : T) → slice_get x.items i ≡ Some v
            → (slot_at c (slot_in chain c i) ≡ Some v) ⊎ IsWithOne c.form (slot_in chain c i) v codes s.under_way) same_queue
            (λ i v e. ⊎_elim (λ there. inl there) (λ h. inr (held_by (slot_in chain c i) v h)) (held chain c p (all_seats xs) fit i v e));
        at_rest = λ none.
            let none_here = subst (λ (us : List (ActiveCall T W)). Each (λ (u : ActiveCall T W). IsAtQueue u.at → ⊥) us) calls none in
            let rest = say.at_rest (none_at_queue xs none_here) in
            subst (λ (x : Queue T). x.items ≡ items_in c) same_queue rest.0;
      }

  pub words_say : (parts : Parts T W) (parties : List (Party T W)) (s : Configuration T W) → Represents parts parties s → WordsSay parts.cells parties s
  words_say parts parties s h =
      of_queue parts parties s h.witnesses h.queue (sym (ap (λ (c : Channel T W). c.queue) h.now)) h.parties_are h.under_way h.fits h.bare h.known
