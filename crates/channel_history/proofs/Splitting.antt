-- Some of what lies with a seat goes to a new one.
use Rattle.std.proofs.Common.{◌≡◌, ◌≢◌, ℕ, List, [], ◌∷◌, ◌++◌, length, sym, ap, ◌∙◌, subst}
use Rattle.std.specs.Prelude.{slice_set}
use native.Mathlib.Decide.{ℕ_discrete}
use Rattle.concurrent_queue.specs.Contents.{Contents}
use Rattle.concurrent_queue.specs.declared.cells.QueueForm.{QueueForm}
use Rattle.channel_history.specs.History.{IsChannelHistory}
use Rattle.channel_history.specs.Keeps.{IsAt, SplitsKeep}
use Rattle.channel_history.specs.Party.{nothing, both, fresh, with_own, standing_of}
use Rattle.channel_history.specs.declared.party.Belongings.{Belongings}
use Rattle.channel_history.specs.declared.party.Standing.{Standing}
use Rattle.channel_history.proofs.Goes.{moved}
use Rattle.channel_history.proofs.Lying.{lie_split}
use Rattle.channel_history.proofs.Seats.{set_not_past, stands_at, stands_set, stands_else, stands_past, stands_last, stands_before}

module _ {T W : Type 0} (form : QueueForm) (views : List (Standing T W)) (c : Contents T) (n m p : ℕ) (v : Standing T W) (stays goes : Belongings W)
    (h : IsChannelHistory form views c n m) (at_p : IsAt views p v) (cut : v.own ≡ both stays goes) where
  abbrev Stays : Standing T W
  Stays = with_own stays v

  abbrev Went : Standing T W
  Went = with_own goes fresh

  abbrev First : List (Standing T W)
  First = slice_set views p Stays

  abbrev Last : ℕ
  Last = length First

  abbrev NowOf : List (Standing T W)
  NowOf = First ++ Went ∷ []

  apart : p ≢ Last
  apart e = set_not_past views p v Stays at_p e

  now_last : standing_of NowOf Last ≡ Went
  now_last = stands_last First Went

  now_p : standing_of NowOf p ≡ Stays
  now_p = stands_before First p Went apart ∙ stands_set views p v Stays at_p

  now_else : (x : ℕ) → x ≢ Last → x ≢ p → standing_of NowOf x ≡ standing_of views x
  now_else x a b = stands_before First x Went a ∙ stands_else views p x Stays b

  was_last : standing_of views Last ≡ fresh
  was_last = sym (stands_else views p Last Stays (λ e. apart (sym e))) ∙ stands_past First

  bare : (x : ℕ) → Dec (x ≡ Last) → Dec (x ≡ p) → with_own nothing (standing_of NowOf x) ≡ with_own nothing (standing_of views x)
  bare x (yes is) o =
      subst (λ (k : ℕ). with_own nothing (standing_of NowOf k) ≡ with_own nothing (standing_of views k)) (sym is)
      (ap (λ (s : Standing T W). with_own nothing s) now_last ∙ sym (ap (λ (s : Standing T W). with_own nothing s) was_last))
  bare x (no a) (yes is) =
      subst (λ (k : ℕ). with_own nothing (standing_of NowOf k) ≡ with_own nothing (standing_of views k)) (sym is)
      (ap (λ (s : Standing T W). with_own nothing s) now_p ∙ sym (ap (λ (s : Standing T W). with_own nothing s) (stands_at views p v at_p)))
  bare x (no a) (no b) = ap (λ (s : Standing T W). with_own nothing s) (now_else x a b)

  pub parted : IsChannelHistory form NowOf c n m
  parted = moved form views NowOf c n m h (λ x. bare x (ℕ_discrete x Last) (ℕ_discrete x p)) (lie_split views p v stays goes at_p cut h.listening n m h.lie)

pub splits_keep : (T W : Type 0) → SplitsKeep T W
splits_keep T W = parted
