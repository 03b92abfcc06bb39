-- The end of a call: a party that was answered ends its call, and has given just this then; and who may begin one.
use Rattle.std.proofs.Common.{◌≡◌, true, List, [], ◌∷◌, ◌++◌, map, inr, refl, sym, ap, ◌∙◌, subst, append-nil}
use Rattle.std.proofs.lemmas.List.{same_from_push}
use Rattle.std.specs.Prelude.{Option, None, Some}
use Rattle.concurrent_queue.specs.Replies.{is_bounded}
use Rattle.concurrent_queue.specs.declared.cells.QueueForm.{QueueForm}
use Rattle.concurrent_queue.specs.declared.queue_call.QueueCall.{QueueCall}
use Rattle.channel_calls.specs.Asks.{kept_by}
use Rattle.channel_calls.specs.declared.ask.ChannelAsk.{ChannelAsk}
use Rattle.channel_calls.specs.declared.reply.Reply.{Reply}
use Rattle.channel_calls.specs.declared.stage.Returned.{Returned}
use Rattle.channel_calls.specs.declared.stage.Stage.{Stage}
use Rattle.channel_calls.specs.declared.whole.Completed.{Completed}
use Rattle.channel_steps.specs.every_run.Bridge.{Act, does, ActsTo}
use Rattle.channel_history.specs.CallEnds.{given_then, EndsSo, HasEnded, HasGiven, IsCall, LendsNothing, Rests}
use Rattle.channel_history.specs.InHand.{lent_by, handles_lent}
use Rattle.channel_history.specs.Machine.{turns, begins_call, ends_call, enters, rests}
use Rattle.channel_history.specs.Party.{fresh, asks_of, Ends}
use Rattle.channel_history.specs.WholeCalls.{MayAsk, asked_by, HasAnswered}
use Rattle.channel_history.proofs.WholeCalls.{calls_go_by_their_views}
use Rattle.channel_history.specs.declared.party.Belongings.{Belongings}
use Rattle.channel_history.specs.declared.party.Standing.{Standing}

module _ {T W : Type 0} where
  -- ---- what an end asks and gives

  asks_none : (os : List (Act T W)) → asks_of (map does os) ≡ []
  asks_none [] = refl
  asks_none (o ∷ os) = asks_none os

  module _ (form : QueueForm) where
    gives_nothing : (os : List (Act T W)) (more : List (Completed T)) → ActsTo form None (map does os) more None → more ≡ []
    gives_nothing [] more h = h.0
    gives_nothing (o ∷ os) more h = absurd h

    gives_one : (at : Stage (QueueCall T) T W) (os : List (Act T W)) (more : List (Completed T)) → ActsTo form (Some at) (map does os) more None → (c : Completed T) × (more ≡ c ∷ [])
    gives_one at [] more h = let no : None ≡ Some at = h.1 in absurd (cc)
    gives_one at (o ∷ os) more (m, next, None, makes, h) = gives_one next os more h
    gives_one at (o ∷ os) more (m, next, Some r, makes, (rest, is, h)) =
        let c : Completed T = record { reply = r; kept = kept_by next } in
        (c, is ∙ ap (λ (gs : List (Completed T)). c ∷ gs) (gives_nothing os rest h))

    -- by its end a call gives one answer, or none where it has answered before
    acts_give : (at : Option (Stage (QueueCall T) T W)) (os : List (Act T W)) (more given : List (Completed T)) (d : Completed T) → ActsTo form at (map does os) more None
        → (c : Completed T) × (given ++ more ≡ given_then at given c)
    acts_give None os more given d h = (d, ap (λ (gs : List (Completed T)). given ++ gs) (gives_nothing os more h) ∙ append-nil given)
    acts_give (Some at) os more given d h = let one = gives_one at os more h in (one.0, ap (λ (gs : List (Completed T)). given ++ gs) one.1)

    ends_give : (s t : Standing T W) (d : Completed T) → Ends form s t → (c : Completed T) × (t.given ≡ given_then s.stage s.given c)
    ends_give s t d (os, still, leads, idle) =
        let acts : ActsTo form s.stage (map does os) leads.more None = subst (λ (x : Option (Stage (QueueCall T) T W)). ActsTo form s.stage (map does os) leads.more x) idle leads.acts in
        let one = acts_give s.stage os leads.more s.given d acts in
        (one.0, leads.given ∙ one.1)

    ends_ask : (s t : Standing T W) → Ends form s t → t.asked ≡ s.asked
    ends_ask s t (os, still, leads, idle) = leads.asked ∙ ap (λ (asks : List (ChannelAsk T W)). s.asked ++ asks) (asks_none os) ∙ append-nil s.asked

    -- ---- the end of a call that was answered

    same_last : (at : Option (Stage (QueueCall T) T W)) (now before : List (Completed T)) (c d : Completed T) → given_then at now c ≡ before ++ d ∷ []
        → given_then at now c ≡ given_then at now d
    same_last None now before c d e = refl
    same_last (Some at) now before c d e = ap (λ (x : Completed T). now ++ x ∷ []) (same_from_push now before c d e).1

    -- one that gives something like its answer has given that, and nothing else since
    last_like : (gave : Completed T → Type 0) (at : Option (Stage (QueueCall T) T W)) (now before : List (Completed T)) (c d x : Completed T) → given_then at now c ≡ before ++ d ∷ []
        → gave d → gave x → (y : Completed T) × gave y × (given_then at now x ≡ before ++ y ∷ [])
    last_like gave None now before c d x e like other = (d, like, e)
    last_like gave (Some at) now before c d x e like other = (x, other, ap (λ (gs : List (Completed T)). gs ++ x ∷ []) (same_from_push now before c d e).0)

    module _ (s : Standing T W) (a : ChannelAsk T W) (r : Reply T) (kept : Returned T) (now : Standing T W) (h : HasAnswered form s a r kept now)
        (gave : Completed T → Type 0) (gives : gave (record { reply = r; kept = kept })) where
      abbrev answer : Completed T
      answer = record { reply = r; kept = kept }

      -- a call that was answered ends, and gives this answer
      pub answered_ends : HasEnded form gave now
      answered_ends =
          let one = ends_give now h.rests answer h.ends in (
            h.rests,
            record {
              ends = h.ends;
              own = h.own;
              asked = ends_ask now h.rests h.ends;
              completed = answer;
              gives = gives;
              given = one.1 ∙ same_last now.stage now.given s.given one.0 answer (sym one.1 ∙ h.given);
            },
          )

      -- however it ended, it has given just such an answer, and what lies with its seat is what the call left
      pub ended_so : (t : Standing T W) → EndsSo form gave now t → HasGiven gave s a r kept t
      ended_so t e =
          let one = ends_give now h.rests answer h.ends in
          let last = last_like gave now.stage now.given s.given one.0 answer e.completed (sym one.1 ∙ h.given) gives e.gives in
          let own : t.own ≡ h.rests.own = e.own ∙ sym h.own in
          record {
            idle = e.ends.3;
            asked = e.asked ∙ sym (ends_ask now h.rests h.ends) ∙ h.asked;
            completed = last.0;
            gives = last.1;
            given = e.given ∙ last.2;
            lists = ap (λ (b : Belongings W). b.lists) own ∙ h.lists;
            listeners = ap (λ (b : Belongings W). b.listeners) own ∙ h.listeners;
            handles = ap (λ (b : Belongings W). b.handles) own ∙ h.handles;
          }

    pub ends_turn : (gave : Completed T → Type 0) (s t : Standing T W) → EndsSo form gave s t → turns form s t × rests t
    ends_turn gave s t e = (ends_call e.ends e.own, e.ends.3)

    -- ---- who may ask

    module _ (bounded : is_bounded form ≡ true) where
      -- a party that rests with what the call is lent
      pub may_ask : (s : Standing T W) (a : ChannelAsk T W) → IsCall a → Rests (handles_lent a) (lent_by a) s → MayAsk form s a
      may_ask s a asks (idle, own) = record {
        bounded = bounded;
        asks = λ e. subst (λ (x : ChannelAsk T W). IsCall x) e asks;
        idle = idle;
        lists = ap (λ (b : Belongings W). b.lists) own;
        listeners = ap (λ (b : Belongings W). b.listeners) own;
        handles = ap (λ (b : Belongings W). b.handles) own;
      }

      -- and a new party, where it is lent nothing
      pub may_ask_anew : (a : ChannelAsk T W) → LendsNothing a → MayAsk form fresh a
      may_ask_anew a (asks, listeners, handles) = may_ask fresh a asks (refl, λ i. record { lists = []; handles = sym handles i; listeners = sym listeners i })

  -- ---- a beginning

  module _ (form : QueueForm) where
    pub begins_turn : (s : Standing T W) (a : ChannelAsk T W) → MayAsk form s a → turns form s (asked_by s a)
    begins_turn s a may = begins_call a ((calls_go_by_their_views T W Unit).begins form s a may).begins refl

    pub enters_so : (a : ChannelAsk T W) → MayAsk form fresh a → enters form (asked_by fresh a)
    enters_so a may = inr (a, ((calls_go_by_their_views T W Unit).begins form fresh a may).begins, refl)
