-- A look tells of one history, as what parties conclude asks it; and what three witnesses of one queue come to.
use Rattle.std.proofs.Common.{◌≡◌, inr, ℕ, List, [], ◌∷◌, ◌++◌, length, refl, sym, ap, ◌∙◌, subst}
use Rattle.concurrent_queue.specs.Bridge.{Event, begins, does, own}
use Rattle.concurrent_queue.specs.Contents.{Contents}
use Rattle.concurrent_queue.specs.declared.call.QueueAsk.{QueueAsk}
use Rattle.concurrent_queue.specs.declared.call.QueueReply.{QueueReply}
use Rattle.concurrent_queue.specs.declared.cells.QueueForm.{QueueForm}
use Rattle.concurrent_queue.specs.declared.history.party.Standing.{Standing}
use Rattle.concurrent_queue.specs.declared.history.rule.View.{View}
use Rattle.concurrent_queue.specs.history.Runs.{standing_of, IsQueueHistory, asks_of, AllDid}
use Rattle.queue_history.specs.Concluded.{party, AllStand, AllAnswered, AllReplied, InOneHistory, ThreePartiesConclude}
use Rattle.queue_history.specs.Told.{joined_three, ended_as, LooksAreOfOneHistory, ThreeAreTold}
use Rattle.queue_history.proofs.Accounted.{asked_so}
use Rattle.queue_history.proofs.PartyAccounts.{asked_in}

module _ {T : Type 0} where
  same_asks : (xs : List (Event T)) → asked_in xs ≡ asks_of xs
  same_asks [] = refl
  same_asks (begins a ∷ xs) = ap (λ (l : List (QueueAsk T)). a ∷ l) (same_asks xs)
  same_asks (does o ∷ xs) = same_asks xs

  module _ (form : QueueForm) (views : List (View T (Standing T))) (c : Contents T) (h : IsQueueHistory form views c) where
    all_stand : (ps : List (ℕ × Standing T)) → AllDid h.events (λ p. (standing_of views p).replies) ps → AllStand (λ p. standing_of views p) ps
    all_stand [] did = tt
    all_stand (x ∷ ps) ((asked, replied), did) = ((asked_so form views c h x.0 ∙ (same_asks (own x.0 h.events) ∙ asked), replied), all_stand ps did)

  all_answered : (at : ℕ → Standing T) (ps : List (ℕ × Standing T)) → AllStand at ps → AllReplied ps → AllAnswered at ps
  all_answered at [] stand replied = tt
  all_answered at (x ∷ ps) ((asked, replies), stand) (even, replied) =
      (inr (ap (λ (l : List (QueueAsk T)). length l) asked ∙ (even ∙ sym (ap (λ (l : List (QueueReply T)). length l) replies))), all_answered at ps stand replied)

  -- ---- three views in one

  two_behind : (xs ys zs : List (ℕ × Standing T)) (p q : ℕ × Standing T) → xs ≡ [] → ys ≡ [] → zs ≡ [] → (xs ++ p ∷ ys) ++ q ∷ zs ≡ p ∷ q ∷ []
  two_behind xs ys zs p q a b c = rw (a, b, c) refl

  pub all_three : (one other popper : View T (Standing T)) → (one.over ≡ []) × (other.over ≡ []) × (popper.over ≡ [])
      → party (joined_three one other popper) ∷ (joined_three one other popper).over ≡ party one ∷ party other ∷ party popper ∷ []
  all_three one other popper (a, b, c) = ap (λ (ps : List (ℕ × Standing T)). party one ∷ ps) (two_behind one.over other.over popper.over (party other) (party popper) a b c)

  pub three_replied : (one other popper : View T (Standing T)) → (one.over ≡ []) × (other.over ≡ []) × (popper.over ≡ [])
      → AllReplied (party one ∷ party other ∷ party popper ∷ []) → AllReplied (party (joined_three one other popper) ∷ (joined_three one other popper).over)
  three_replied one other popper alone replied = subst (λ (ps : List (ℕ × Standing T)). AllReplied ps) (sym (all_three one other popper alone)) replied

  -- of a party only what it asked and was answered is told
  as_ended : (form : QueueForm) (one other popper : View T (Standing T)) → InOneHistory form (party one ∷ party other ∷ party popper ∷ [])
      → InOneHistory form (ended_as one.who one.state.asked one.state.replies ∷ ended_as other.who other.state.asked other.state.replies ∷ ended_as popper.who popper.state.asked popper.state.replies ∷ [])
  as_ended form one other popper found = record {
    views = found.views;
    cells = found.cells;
    history = found.history;
    run = found.run;
    stand = found.stand;
    once = found.once;
    answered = found.answered;
  }

pub looks_are_of_one_history : (T : Type 0) → LooksAreOfOneHistory T
looks_are_of_one_history T v (views, c, history, run, there, did, once) replied =
    let stand = all_stand v.form views c history (party v ∷ v.over) did in
    record {
      views = views;
      cells = c;
      history = history;
      run = run;
      stand = stand;
      once = once;
      answered = all_answered (λ p. standing_of views p) (party v ∷ v.over) stand replied;
    }

pub three_are_told : (T : Type 0) → ThreePartiesConclude T → ThreeAreTold T
three_are_told T concluded one other popper alone have =
    let found = subst (λ (ps : List (ℕ × Standing T)). InOneHistory one.form ps) (all_three one other popper alone) have.found in
    record {
      form = one.form;
      one = one.who;
      other = other.who;
      popper = popper.who;
      concluded = concluded one.form _ _ _ (as_ended one.form one other popper found);
    }
