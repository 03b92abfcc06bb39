-- Where events lead a party, and others after them.
use Rattle.std.proofs.Common.{◌≡◌, List, [], ◌∷◌, ◌++◌, refl, sym, ap, ◌∙◌, subst, append_assoc}
use Rattle.std.specs.Prelude.{Option, None, Some}
use Rattle.concurrent_queue.specs.declared.cells.QueueForm.{QueueForm}
use Rattle.concurrent_queue.specs.declared.queue_call.QueueCall.{QueueCall}
use Rattle.channel_calls.specs.declared.ask.ChannelAsk.{ChannelAsk}
use Rattle.channel_calls.specs.declared.stage.Stage.{Stage}
use Rattle.channel_calls.specs.declared.whole.Completed.{Completed}
use Rattle.channel_steps.specs.every_run.Bridge.{Event, begins, does, ActsTo}
use Rattle.channel_history.specs.Party.{nothing, fresh, with_own, asks_of, Leads}
use Rattle.channel_history.specs.declared.party.Standing.{Standing}

module _ {T W : Type 0} where
  asks_on : (xs ys : List (Event T W)) → asks_of (xs ++ ys) ≡ asks_of xs ++ asks_of ys
  asks_on [] ys = refl
  asks_on (begins ask ∷ xs) ys = ap (λ (asks : List (ChannelAsk T W)). ask ∷ asks) (asks_on xs ys)
  asks_on (does o ∷ xs) ys = asks_on xs ys

  module _ (form : QueueForm) where
    acts_on : (at : Option (Stage (QueueCall T) T W)) (xs : List (Event T W)) (given : List (Completed T)) (mid : Option (Stage (QueueCall T) T W)) (ys : List (Event T W)) (more : List (Completed T)) (to : Option (Stage (QueueCall T) T W))
        → ActsTo form at xs given mid → ActsTo form mid ys more to → ActsTo form at (xs ++ ys) (given ++ more) to
    acts_on at [] given mid ys more to a b =
        subst (λ (gs : List (Completed T)). ActsTo form at ys (gs ++ more) to) (sym a.0) (subst (λ (x : Option (Stage (QueueCall T) T W)). ActsTo form x ys more to) a.1 b)
    acts_on None (begins ask ∷ xs) given mid ys more to (at, takes, h) b = (at, takes, acts_on (Some at) xs given mid ys more to h b)
    acts_on None (does o ∷ xs) given mid ys more to h b = absurd h
    acts_on (Some at) (begins ask ∷ xs) given mid ys more to h b = absurd h
    acts_on (Some at) (does o ∷ xs) given mid ys more to (m, next, None, makes, h) b = (m, next, None, makes, acts_on (Some next) xs given mid ys more to h b)
    acts_on (Some at) (does o ∷ xs) given mid ys more to (m, next, Some r, makes, (rest, is, h)) b =
        (m, next, Some r, makes, (rest ++ more, ap (λ (gs : List (Completed T)). gs ++ more) is, acts_on None xs rest mid ys more to h b))

    pub leads_on : (s t u : Standing T W) (xs ys : List (Event T W)) → Leads form s xs t → Leads form t ys u → Leads form s (xs ++ ys) u
    leads_on s t u xs ys a b = record {
      more = a.more ++ b.more;
      acts = acts_on s.stage xs a.more t.stage ys b.more u.stage a.acts b.acts;
      given = b.given ∙ ap (λ (gs : List (Completed T)). gs ++ b.more) a.given ∙ append_assoc s.given a.more b.more;
      asked = b.asked ∙ ap (λ (asks : List (ChannelAsk T W)). asks ++ asks_of ys) a.asked ∙ append_assoc s.asked (asks_of xs) (asks_of ys)
          ∙ ap (λ (asks : List (ChannelAsk T W)). s.asked ++ asks) (sym (asks_on xs ys));
    }

    pub leads_nowhere : Leads {T = T} {W = W} form fresh [] fresh
    leads_nowhere = record { more = []; acts = (refl, refl); given = refl; asked = refl }

    -- two that stand alike, whatever lies with them
    pub leads_same : (xs : List (Event T W)) (s t : Standing T W) → with_own nothing t ≡ with_own nothing s → Leads form fresh xs s → Leads form fresh xs t
    leads_same xs s t e h =
        let bare : Leads form fresh xs (with_own nothing s) = record { more = h.more; acts = h.acts; given = h.given; asked = h.asked } in
        let other : Leads form fresh xs (with_own nothing t) = subst (λ (u : Standing T W). Leads form fresh xs u) (sym e) bare in
        record { more = other.more; acts = other.acts; given = other.given; asked = other.asked }
