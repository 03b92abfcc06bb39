-- A channel that was just opened, and the number of calls under way.
use Rattle.std.proofs.Common.{◌≡◌, ℕ, ◌==◌, Bool, true, false, List, [], ◌∷◌, map, length, refl, sym, ap, ◌∙◌, arith}
use Rattle.std.proofs.lemmas.Bool.Decides.{nat_tests}
use Rattle.channel_steps.proofs.Words.{QueueForm, Bounded, Unbounded, channel, Parts, WaitLists, capacity_of, IsNew, opened, new_wait_lists, Party, new_configuration, Configuration, ActiveCallWitness, active_call_of, Represents, MayHave, IsQuietOrNot, EachConfigurationTellsQuiet}

long_as : {A B : Type 0} (g : A → B) (xs : List A) → length (map g xs) ≡ length xs
long_as g [] = refl
long_as g (x ∷ xs) = omega (arith, long_as g xs)

no_items : {A : Type 0} (xs : List A) → length xs ≡ 0 → xs ≡ []
no_items [] h = refl
no_items (x ∷ xs) h = absurd (omega arith)

none_at_first : (form : QueueForm) → MayHave form []
none_at_first (Bounded capacity) = refl
none_at_first Unbounded = tt

module _ {T W : Type 0} where
  pub new_shown : (form : QueueForm) (parts : Parts T W) (parties : List (Party T W)) → IsNew form parts.cells → parts.wait_lists ≡ new_wait_lists → parties ≡ [] → Represents parts parties (new_configuration (capacity_of form))
  new_shown form parts parties new wait_lists none =
      record {
        witnesses = [];
        queue = opened (capacity_of form);
        parties_are = none;
        under_way = refl;
        now = sym (ap (λ (a : WaitLists W). channel (opened (capacity_of form)) (record { cells = parts.cells; wait_lists = a })) wait_lists);
        fits = new.1;
        bare = none_at_first parts.cells.form;
        known = tt;
        balanced = refl;
      }

  -- as many calls are under way as there are parties
  counts : (parties : List (Party T W)) (parts : Parts T W) (s : Configuration T W) → Represents parts parties s → length parties ≡ length s.under_way
  counts parties parts s sh =
      ap length sh.parties_are ∙ (long_as (λ (x : ActiveCallWitness T W). x.party) sh.witnesses ∙ (sym (long_as active_call_of sh.witnesses) ∙ sym (ap length sh.under_way)))

  none_or_some : (n : ℕ) (b : Bool) (s : Configuration T W) → n ≡ length s.under_way → (n == 0) ≡ b → IsQuietOrNot s b
  none_or_some n true s e f = no_items s.under_way (grind (arith, nat_tests))
  none_or_some n false s e f = λ none. (let k : length s.under_way ≡ 0 = ap length none in absurd (grind (arith, nat_tests)))

  pub quiet : (parties : List (Party T W)) (b : Bool) → (length parties == 0) ≡ b → EachConfigurationTellsQuiet parties b
  quiet parties b f parts s sh = none_or_some (length parties) b s (counts parties parts s sh) f
