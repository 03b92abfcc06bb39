-- What each section and each operation on a count does to a channel that has this list, or these counts.
use Rattle.std.proofs.Common.{◌≡◌, ℕ, ◌+◌, ◌-◌, ◌^◌, ◌==◌, ◌&&◌, nat_lt, Bool, true, false, refl, sym, ap, ◌∙◌, subst, eq-eqb}
use Rattle.event_listener.specs.Lists.{kind_of, listened, registration, removed, removed_wakes}
use Rattle.channel_calls.specs.Parts.{Parts, Listeners, WaitLists, listeners, with_listeners, with_wait_lists, Registers, told_as, told_as_wakes}
use Rattle.channel_calls.specs.declared.stage.WaitList.{WaitList}
use Rattle.channel_calls.specs.declared.stage.WaitList.TheVariants.{Sends, Receives, Streams, Closings}
use Rattle.channel_history.specs.Keeps.{DeedsDo}

module _ {W : Type 0} where
  as_it_was : (line : WaitList) (a : WaitLists W) → with_listeners line (listeners line a) a ≡ a
  as_it_was Sends a = refl
  as_it_was Receives a = refl
  as_it_was Streams a = refl
  as_it_was Closings a = refl

module _ {T W : Type 0} where
  -- a list put in the place of the same one
  left : (line : WaitList) (parts : Parts T W) (l m : Listeners W) → m ≡ l → with_wait_lists (with_listeners line l parts.wait_lists) parts ≡ with_wait_lists (with_listeners line m parts.wait_lists) parts
  left line parts l m e = ap (λ (x : Listeners W). with_wait_lists (with_listeners line x parts.wait_lists) parts) (sym e)

  pub unchanged : (line : WaitList) (parts : Parts T W) (l : Listeners W) → listeners line parts.wait_lists ≡ l → with_wait_lists (with_listeners line l parts.wait_lists) parts ≡ parts
  unchanged line parts l e =
      left line parts l (listeners line parts.wait_lists) e ∙ ap (λ (a : WaitLists W). with_wait_lists a parts) (as_it_was line parts.wait_lists)

  -- with these counts
  abbrev counted_so : Parts T W → ℕ → ℕ → Parts T W
  counted_so parts n m = with_wait_lists (record parts.wait_lists { senders = n; receivers = m }) parts

  abbrev senders_of : Parts T W → ℕ
  senders_of parts = (parts.wait_lists).senders

found_so : (n k : ℕ) → n ≡ k → nat_lt k (2 ^ 64 - 1) ≡ true → true ≡ ((n == k) && nat_lt k (2 ^ 64 - 1))
found_so n k e fits = ap (λ (x : Bool). x && true) (sym (eq-eqb n k e)) ∙ ap (λ (x : Bool). (n == k) && x) (sym fits)

found_other : (n k : ℕ) → (n == k) ≡ false → false ≡ ((n == k) && nat_lt k (2 ^ 64 - 1))
found_other n k e = ap (λ (x : Bool). x && nat_lt k (2 ^ 64 - 1)) (sym e)

pub deeds_do : (T W : Type 0) → DeedsDo T W
deeds_do T W = record {
  inserts = λ line l key fresh parts e. (ap (λ (x : Listeners W). kind_of x key) e ∙ fresh, left line parts _ _ (ap (λ (x : Listeners W). listened key x) e));
  refuses = λ line l x parts e. unchanged line parts l e;
  registers = λ line l key task r h parts e. (subst (λ (x : Listeners W). Registers x key task r) (sym e) h, left line parts _ _ (ap (λ (x : Listeners W). registration key task x) e));
  removes = λ line l key parts e. (ap (λ (x : Listeners W). removed_wakes key true x) (sym e), left line parts _ _ (ap (λ (x : Listeners W). removed key true x) e));
  tells = λ line l telling parts e. (ap (λ (x : Listeners W). told_as_wakes telling x) (sym e), left line parts _ _ (ap (λ (x : Listeners W). told_as telling x) e));
  reads = λ n m. (
    λ parts e f. (sym e, ap (λ (a : ℕ). counted_so parts a m) (sym e) ∙ ap (λ (a : ℕ). counted_so parts (senders_of parts) a) (sym f)),
    λ parts e f. (sym f, ap (λ (a : ℕ). counted_so parts a m) (sym e) ∙ ap (λ (a : ℕ). counted_so parts (senders_of parts) a) (sym f)),
  );
  lowers = λ n m. (
    λ parts e f. (sym e, ap (λ (a : ℕ). counted_so parts (n - 1) a) (sym f)),
    λ parts e f. (sym f, ap (λ (a : ℕ). counted_so parts a (m - 1)) (sym e)),
  );
  raises = λ n m fits parts e f. (found_so _ n e fits, ap (λ (a : ℕ). counted_so parts (n + 1) a) (sym f));
  raises_other = λ n m fits parts e f. (found_so _ m f fits, ap (λ (a : ℕ). counted_so parts a (m + 1)) (sym e));
  finds_another = λ n m k. (
    λ differs parts e f.
        (found_other _ k (ap (λ (a : ℕ). a == k) e ∙ differs), ap (λ (a : ℕ). counted_so parts a m) (sym e) ∙ ap (λ (a : ℕ). counted_so parts (senders_of parts) a) (sym f)),
    λ differs parts e f.
        (found_other _ k (ap (λ (a : ℕ). a == k) f ∙ differs), ap (λ (a : ℕ). counted_so parts a m) (sym e) ∙ ap (λ (a : ℕ). counted_so parts (senders_of parts) a) (sym f)),
  );
}
