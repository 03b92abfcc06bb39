-- Parties of one history conclude what was accepted, what has left and what is held.
use Rattle.std.proofs.Common.{◌≡◌, inl, inr, ℕ, ◌+◌, List, [], ◌∷◌, ◌++◌, length, refl, sym, ap, ◌∙◌, subst, arith, append-nil, length-append}
use Rattle.concurrent_queue.specs.Contents.{Contents}
use Rattle.concurrent_queue.specs.declared.call.QueueAsk.{QueueAsk}
use Rattle.concurrent_queue.specs.declared.cells.QueueForm.{QueueForm}
use Rattle.concurrent_queue.proofs.Callers.{same_as}
use Rattle.queue_history.specs.Accounted.{unanswered, MayBring, MayTake, messages, of_party, pushed, popped, HasBrought, HasTaken, Accounts, RunsAreAccounted}
use Rattle.concurrent_queue.specs.history.Joined.{Lists, EachOnce}
use Rattle.queue_history.specs.Concluded.{IsLike, AllStand, IsAnswered, AllAnswered, AreOf, AllAccounted, NothingElse, Concluded, TwoPushedOnePopped, PartiesConclude, ThreePartiesConclude}
use Rattle.concurrent_queue.specs.history.Runs.{standing_of}
use Rattle.concurrent_queue.specs.declared.history.party.Standing.{Standing}
use Rattle.queue_history.proofs.NothingElse.{same_pushed, same_popped}
use Rattle.queue_history.proofs.PartyAccounts.{none_open}

module _ {T : Type 0} where
  -- a party whose calls were answered has brought and taken just what they say
  pub all_brought : (s : Standing T) (own : List T) → unanswered s.asked s.replies ≡ [] → HasBrought s own → own ≡ pushed s
  all_brought s own over (more, is, may) =
      let none : more ≡ [] = subst (λ (l : List (QueueAsk T)). MayBring l more) over may in
      is ∙ ap (λ (l : List T). pushed s ++ l) none ∙ append-nil (pushed s)

  pub all_taken : (s : Standing T) (own : List T) → unanswered s.asked s.replies ≡ [] → HasTaken s own → own ≡ popped s
  all_taken s own over (more, is, may) =
      let none : more ≡ [] = subst (λ (l : List (QueueAsk T)). MayTake l more) over may in
      is ∙ ap (λ (l : List T). popped s ++ l) none ∙ append-nil (popped s)

  -- messages of one party alone are the party's
  all_of_one : (p : ℕ × Standing T) (xs : List (ℕ × T)) → AreOf (p ∷ []) xs → messages xs ≡ of_party p.0 xs
  all_of_one p [] h = refl
  all_of_one p (x ∷ xs) (inl e, h) = rw (same_as x.0 p.0 (sym e)) (ap (λ (l : List T). x.1 ∷ l) (all_of_one p xs h))
  all_of_one p (x ∷ xs) (inr e, h) = absurd e

  messages_length : (xs : List (ℕ × T)) → length (messages xs) ≡ length xs
  messages_length [] = refl
  messages_length (x ∷ xs) = (let n = messages_length xs in omega (arith, n))

  module _ (form : QueueForm) (at : ℕ → Standing T) (c : Contents T) (a : Accounts form at c) where
    over : (p : ℕ) → IsAnswered (at p) → unanswered (at p).asked (at p).replies ≡ []
    over p (inl idle) = a.ended p idle
    over p (inr even) = none_open (at p).asked (at p).replies even

    has_pushed : (p : ℕ × Standing T) → IsLike (at p.0) p.1 → IsAnswered (at p.0) → of_party p.0 a.accepted ≡ pushed p.1
    has_pushed p here done = all_brought (at p.0) (of_party p.0 a.accepted) (over p.0 done) (a.each_brought p.0) ∙ same_pushed (at p.0) p.1 here

    has_popped : (p : ℕ × Standing T) → IsLike (at p.0) p.1 → IsAnswered (at p.0) → of_party p.0 a.gone ≡ popped p.1
    has_popped p here done = all_taken (at p.0) (of_party p.0 a.gone) (over p.0 done) (a.each_took p.0) ∙ same_popped (at p.0) p.1 here

    all_accounted : (ps : List (ℕ × Standing T)) → AllStand at ps → AllAnswered at ps → AllAccounted ps a.accepted a.gone
    all_accounted [] stand done = tt
    all_accounted (p ∷ ps) (here, stand) (answered, done) = (has_pushed p here answered, has_popped p here answered, all_accounted ps stand done)

    all_counted : length a.gone + length a.held ≡ length a.accepted
    all_counted =
        let n = ap (λ (l : List T). length l) a.in_order in
        let gone = messages_length a.gone in
        let all = messages_length a.accepted in
        let both = length-append (messages a.gone) a.held in
        omega (arith, n, gone, all, both)

    module _ (nothing : NothingElse T) where
      concluded : (ps : List (ℕ × Standing T)) → AllStand at ps → EachOnce ps → AllAnswered at ps → Concluded form c ps
      concluded ps stand once done = record {
        accepted = a.accepted;
        gone = a.gone;
        held = a.held;
        in_order = a.in_order;
        each = all_accounted ps stand done;
        nothing_else = (nothing form at c a ps stand once).0;
        nobody_else = (nothing form at c a ps stand once).1;
        long = a.long;
        counted = a.counted;
      }

      -- one party alone popped
      only_popper : (p : ℕ × Standing T) → IsLike (at p.0) p.1 → IsAnswered (at p.0) → length a.accepted ≡ length (popped p.1) + length a.held → popped p.1 ++ a.held ≡ messages a.accepted
      only_popper p here done e =
          let counts = all_counted in
          let alone : AreOf (p ∷ []) a.gone = (nothing form at c a (p ∷ []) (here, tt) ((λ h. h), tt)).1 (omega (arith, e, counts)) in
          ap (λ (l : List T). l ++ a.held) (sym (all_of_one p a.gone alone ∙ has_popped p here done)) ∙ a.in_order

      three : (one other popper : ℕ × Standing T) → AllStand at (one ∷ other ∷ popper ∷ []) → EachOnce (one ∷ other ∷ popper ∷ []) → AllAnswered at (one ∷ other ∷ popper ∷ []) → TwoPushedOnePopped form c one other popper
      three one other popper (here, (there, (last, _))) (apart, _) (done, (ended, (over, _))) = record {
        accepted = a.accepted;
        gone = a.gone;
        held = a.held;
        in_order = a.in_order;
        of_one = has_pushed one here done;
        of_other = has_pushed other there ended;
        by_popper = has_popped popper last over;
        nothing_else = λ e. (nothing form at c a (one ∷ other ∷ []) (here, (there, tt)) ((λ h. apart (only_first h)), ((λ h. h), tt))).0 (omega (arith, e));
        nobody_else = only_popper popper last over;
        long = a.long;
        counted = a.counted;
      }
        where
          only_first : Lists one.0 (other ∷ []) → Lists one.0 (other ∷ popper ∷ [])
          only_first (inl e) = inl e
          only_first (inr e) = absurd e

pub parties_conclude : (T : Type 0) → RunsAreAccounted T → NothingElse T → PartiesConclude T
parties_conclude T accounted nothing form ps found = record {
  found = found;
  so = λ counted. concluded form (λ p. standing_of found.views p) found.cells (accounted form found.views found.cells found.history found.run counted) nothing ps found.stand found.once found.answered;
}

pub three_parties_conclude : (T : Type 0) → RunsAreAccounted T → NothingElse T → ThreePartiesConclude T
three_parties_conclude T accounted nothing form one other popper found = record {
  found = found;
  so = λ counted. three form (λ p. standing_of found.views p) found.cells (accounted form found.views found.cells found.history found.run counted) nothing one other popper found.stand found.once found.answered;
}
