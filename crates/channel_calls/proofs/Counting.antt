-- The fast paths of a clone and of a drop of a strong handle: the steps of their machine by the deeds on the count.
use Rattle.std.proofs.Common.{◌≡◌, ℕ, Bool, true, false, nat_eq, nat_lt, Option, None, Some, refl, sym, subst, if◌then◌else◌}
use Rattle.concurrent_queue.specs.declared.queue_call.QueueCall.{QueueCall}
use Rattle.event_listener.specs.declared.key.Key.{Key}
use Rattle.channel_calls.proofs.Walking.{walks_on}
use Rattle.channel_calls.specs.Asks.{kept_by}
use Rattle.channel_calls.specs.Deeds.{Deed, counted, lowered, raised}
use Rattle.channel_calls.specs.Marks.{up, down}
use Rattle.channel_calls.specs.Turns.{most, nothing_kept, dropper, closer_ending, ends_by, lowered_next}
use Rattle.channel_calls.specs.Walks.{Takes, ChannelMakes, Leads, Walked, WalkedTo}
use Rattle.channel_calls.specs.declared.mark.Mark.TheVariants.{Nothing}
use Rattle.channel_calls.specs.declared.reply.Reply.{Reply}
use Rattle.channel_calls.specs.declared.reply.Reply.TheVariants.{Made, TooMany, Unit}
use Rattle.channel_calls.specs.declared.stage.Purpose.TheVariants as purpose
use Rattle.channel_calls.specs.declared.stage.Returned.{Returned}
use Rattle.channel_calls.specs.declared.stage.Making.TheVariants.{Clone}
use Rattle.channel_calls.specs.declared.stage.Side.{Side}
use Rattle.channel_calls.specs.declared.stage.Side.TheVariants.{Senders, Receivers}
use Rattle.channel_calls.specs.declared.stage.Stage.{Stage}
use Rattle.channel_calls.specs.declared.stage.Stage.TheVariants.{Working, Finished}
use Rattle.channel_calls.specs.declared.stage.NextStep.TheVariants.{Tries, Works, Ends}
use Rattle.channel_calls.specs.declared.stage.ListStep.TheVariants.{Load, Raise, Lower}
use Rattle.concurrent_queue.specs.declared.call.QueueAsk.TheVariants as queue_ask

module _ {T W X : Type 0} (did : Deed T W → X → X → Type 0) (side : Side) (n : ℕ) where
  -- what a clone's turn is after the count was read, whether or not it is too great
  abbrev pub Reads : Bool → Stage (QueueCall T) T W → Option (Reply T) → Type 0
  Reads over next r = Takes {T = T} {W = W} (if over then Ends TooMany nothing_kept else Works (Raise side n Clone)) next r

  -- too many live
  pub too_many : (s t : X) → did (counted side n) s t → nat_lt most n ≡ true → WalkedTo did (Works (Load side Clone)) s TooMany t
  too_many s t deed over =
      let takes : Reads (nat_lt most n) (Finished nothing_kept) (Some TooMany) =
      subst (λ (b : Bool). Reads b (Finished nothing_kept) (Some TooMany)) (sym over) (refl, refl)
      in
      (nothing_kept, (Working (Load side Clone), (refl, refl), (0, s, Working (Load side Clone), Nothing, Finished nothing_kept, (refl, refl), (n, deed, (refl, takes)), refl)))

  module _ (s x t : X) (deed : did (counted side n) s x) (fits : nat_lt most n ≡ false) where
    -- the step that reads
    reads : ChannelMakes did (Working (Load side Clone)) s x Nothing (Working (Raise side n Clone)) None
    reads =
        let takes : Reads (nat_lt most n) (Working (Raise side n Clone)) None =
        subst (λ (b : Bool). Reads b (Working (Raise side n Clone)) None) (sym fits) (refl, refl)
        in
        (n, deed, (refl, takes))

    -- one more is counted
    pub made : did (raised side n true) x t → WalkedTo did (Works (Load side Clone)) s Made t
    made raises = (
      nothing_kept,
      (
        Working (Load side Clone),
        (refl, refl),
        (1, x, Working (Raise side n Clone), up side, Finished nothing_kept, (x, Working (Raise side n Clone), Nothing, reads, (refl, refl)), (true, raises, (refl, (refl, refl))), refl),
      ),
    )

    -- another handle came between, and the count is read again
    pub again : did (raised side n false) x t → (r : Reply T) (kept : Returned T) (u : X) → Walked did (Working (Load side Clone)) t r kept u
        → WalkedTo did (Works (Load side Clone)) s r u
    again raises r kept u walk =
        let leads : Leads did 2 s (Working (Load side Clone)) t (Working (Load side Clone)) =
        (x, Working (Raise side n Clone), Nothing, reads, (t, Working (Load side Clone), Nothing, (false, raises, (refl, (refl, refl))), (refl, refl)))
        in
        (kept, (Working (Load side Clone), (refl, refl), walks_on did 2 (Working (Load side Clone)) s (Working (Load side Clone)) t r kept u leads walk))

  module _ (key : Option Key) (s t : X) (deed : did (lowered side n) s t) where
    -- a drop that answers when the count is lowered
    pub lowers : (r : Reply T) (c : Stage (QueueCall T) T W) → Takes (lowered_next side key n) c (Some r) → WalkedTo did (Works (Lower side key)) s r t
    lowers r c takes =
        (kept_by c, (Working (Lower side key), (refl, refl), (0, s, Working (Lower side key), down side, c, (refl, refl), (n, deed, (refl, takes)), refl)))

    -- and one that goes on: the last one closes, and a listener leaves
    pub lowers_on : (b : Stage (QueueCall T) T W) → Takes (lowered_next side key n) b None → (r : Reply T) (kept : Returned T) (u : X) → Walked did b t r kept u
        → WalkedTo did (Works (Lower side key)) s r u
    lowers_on b takes r kept u walk = (
      kept,
      (Working (Lower side key), (refl, refl), walks_on did 1 (Working (Lower side key)) s b t r kept u (t, b, down side, (n, deed, (refl, takes)), (refl, refl)) walk),
    )

-- others of its kind live, and it has no listener
module _ (T W : Type 0) where
  pub drops : (side : Side) (n : ℕ) → nat_eq n 1 ≡ false → Takes {T = T} {W = W} (lowered_next side None n) (Finished nothing_kept) (Some Unit)
  drops Senders n more =
      subst (λ (b : Bool). Takes {T = T} {W = W} (if b then Tries queue_ask.Close (purpose.Close (dropper Senders None)) else ends_by (closer_ending (dropper Senders None) false)) (Finished nothing_kept) (Some Unit)) (sym more) (refl, refl)
  drops Receivers n more =
      subst (λ (b : Bool). Takes {T = T} {W = W} (if b then Tries queue_ask.Close (purpose.Close (dropper Receivers None)) else ends_by (closer_ending (dropper Receivers None) false)) (Finished nothing_kept) (Some Unit)) (sym more) (refl, refl)
