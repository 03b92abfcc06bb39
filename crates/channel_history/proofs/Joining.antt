-- What lies with one seat goes to another.
use Rattle.std.proofs.Common.{◌≡◌, ◌≢◌, ℕ, List, sym, ap, ◌∙◌, subst}
use Rattle.std.specs.Prelude.{slice_set}
use native.Mathlib.Decide.{ℕ_discrete}
use Rattle.concurrent_queue.specs.Contents.{Contents}
use Rattle.concurrent_queue.specs.declared.cells.QueueForm.{QueueForm}
use Rattle.channel_history.specs.History.{IsChannelHistory}
use Rattle.channel_history.specs.Keeps.{IsAt, JoinsKeep}
use Rattle.channel_history.specs.Party.{nothing, both, with_own, standing_of}
use Rattle.channel_history.specs.declared.party.Standing.{Standing}
use Rattle.channel_history.proofs.Goes.{moved}
use Rattle.channel_history.proofs.Lying.{lie_joined}
use Rattle.channel_history.proofs.Seats.{set_else, stands_at, stands_set, stands_else}

module _ {T W : Type 0} (form : QueueForm) (views : List (Standing T W)) (c : Contents T) (n m p q : ℕ) (v w : Standing T W) (h : IsChannelHistory form views c n m)
    (at_p : IsAt views p v) (at_q : IsAt views q w) (apart : q ≢ p) where
  abbrev Both : Standing T W
  Both = with_own (both v.own w.own) v

  abbrev Spent : Standing T W
  Spent = with_own nothing w

  abbrev First : List (Standing T W)
  First = slice_set views p Both

  abbrev NowOf : List (Standing T W)
  NowOf = slice_set First q Spent

  now_q : standing_of NowOf q ≡ Spent
  now_q = stands_set First q w Spent (set_else views p q Both apart ∙ at_q)

  now_p : standing_of NowOf p ≡ Both
  now_p = stands_else First q p Spent (λ e. apart (sym e)) ∙ stands_set views p v Both at_p

  now_else : (x : ℕ) → x ≢ q → x ≢ p → standing_of NowOf x ≡ standing_of views x
  now_else x a b = stands_else First q x Spent a ∙ stands_else views p x Both b

  bare : (x : ℕ) → Dec (x ≡ q) → Dec (x ≡ p) → with_own nothing (standing_of NowOf x) ≡ with_own nothing (standing_of views x)
  bare x (yes is) o =
      subst (λ (k : ℕ). with_own nothing (standing_of NowOf k) ≡ with_own nothing (standing_of views k)) (sym is)
      (ap (λ (s : Standing T W). with_own nothing s) now_q ∙ sym (ap (λ (s : Standing T W). with_own nothing s) (stands_at views q w at_q)))
  bare x (no a) (yes is) =
      subst (λ (k : ℕ). with_own nothing (standing_of NowOf k) ≡ with_own nothing (standing_of views k)) (sym is)
      (ap (λ (s : Standing T W). with_own nothing s) now_p ∙ sym (ap (λ (s : Standing T W). with_own nothing s) (stands_at views p v at_p)))
  bare x (no a) (no b) = ap (λ (s : Standing T W). with_own nothing s) (now_else x a b)

  pub joined : IsChannelHistory form NowOf c n m
  joined = moved form views NowOf c n m h (λ x. bare x (ℕ_discrete x q) (ℕ_discrete x p)) (lie_joined views p q v w at_p at_q apart h.listening n m h.lie)

pub joins_keep : (T W : Type 0) → JoinsKeep T W
joins_keep T W = joined
