-- What each party has asked, event by event.
use Rattle.std.proofs.Common.{◌≡◌, ℕ, ◌==◌, Bool, true, false, List, [], ◌∷◌, ◌++◌, if◌then◌else◌, refl, sym, ap, ◌∙◌, append_assoc, append-nil}
use Rattle.channel_calls.specs.declared.ask.ChannelAsk.{ChannelAsk}
use Rattle.channel_steps.specs.every_run.Bridge.{Event, begins, does, Happening, own}
use Rattle.channel_history.specs.Party.{asks_of}

module _ {T W : Type 0} where
  -- what each party has asked after this event too
  abbrev pub asked_more : (ℕ → List (ChannelAsk T W)) → Happening T W → ℕ → List (ChannelAsk T W)
  asked_more asked x q = asked q ++ (if x.party == q then asks_of (x.event ∷ []) else [])

  abbrev pub asked_by : (ℕ → List (ChannelAsk T W)) → List (Happening T W) → ℕ → List (ChannelAsk T W)
  asked_by asked [] q = asked q
  asked_by asked (x ∷ xs) q = asked_by (asked_more asked x) xs q

  -- which is what its own events say
  one_more : (e : Event T W) (xs : List (Event T W)) → asks_of (e ∷ []) ++ asks_of xs ≡ asks_of (e ∷ xs)
  one_more (begins ask) xs = refl
  one_more (does o) xs = refl

  pub asked_own : (asked : ℕ → List (ChannelAsk T W)) (xs : List (Happening T W)) (q : ℕ) → asked_by asked xs q ≡ asked q ++ asks_of (own q xs)
  asked_own asked [] q = sym (append-nil (asked q))
  asked_own asked (x ∷ xs) q =
      asked_own (asked_more asked x) xs q ∙ append_assoc (asked q) _ (asks_of (own q xs)) ∙ ap (λ (l : List (ChannelAsk T W)). asked q ++ l) (by (x.party == q))
    where
      by : (b : Bool) → (if b then asks_of (x.event ∷ []) else []) ++ asks_of (own q xs) ≡ asks_of (if b then x.event ∷ own q xs else own q xs)
      by true = one_more x.event (own q xs)
      by false = refl
