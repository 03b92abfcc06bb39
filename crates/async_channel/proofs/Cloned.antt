-- What is said of a clone and of an upgrade, whatever is made of what was counted.
use Rattle.std.proofs.Common.{◌≡◌, ℕ, Option, None, Some, Result, Ok, Err, refl, subst}
use Rattle.std.specs.Prelude.{MatchOption}
use Rattle.atomic_table.specs.Seated.{TableId}
use Rattle.concurrent_queue.specs.Deeds as cell
use Rattle.event_listener.specs.declared.waking.Task.{Task}
use Rattle.channel_calls.specs.Deeds.{Deed}
use Rattle.channel_calls.specs.declared.error.HandleError.{HandleError}
use Rattle.channel_calls.specs.declared.error.HandleError.TheVariants.{NoMemory, TooMany}
use Rattle.channel_calls.specs.declared.stage.Side.{Side}
use Rattle.async_channel.specs.Called.{ClonedSo, HasAskedNothing, UpgradedSo, WasTold}
use Rattle.async_channel.specs.Counts.{Clones, Upgrades}
use Rattle.async_channel.specs.Handles.{Handle}
use Rattle.async_channel.specs.Parties.{Seat}
use Rattle.async_channel.specs.Watched.{WasSeen}
use Rattle.async_channel.proofs.Traces.{clone_made, clone_not, upgrade_made, upgrade_none, upgrade_not}

-- ---- on a channel with a bound

module _ {T : Type 0} (called : Seat T → Type 0) (table : TableId) (side : Side) (A B : Type 0) where
  pub refused_so : (e : HandleError) → ClonedSo called {A = A} table side (Err e) → ClonedSo called {A = B} table side (Err e)
  refused_so TooMany so = so
  refused_so NoMemory so = so

  pub refused_more : (e : HandleError) → UpgradedSo called {A = A} table side (Err e) → UpgradedSo called {A = B} table side (Err e)
  refused_more TooMany so = so
  refused_more NoMemory so = so

module _ {T : Type 0} (called : Seat T → Type 0) (table : TableId) (side : Side) (B : Type 0) where
  -- where no tie was got
  pub as_untied : (e : HandleError) → e ≡ NoMemory → WasTold called (HasAskedNothing table) → ClonedSo called {A = B} table side (Err e)
  as_untied NoMemory is told = told
  as_untied TooMany is told = absurd (let never : TooMany ≡ NoMemory = is in cc)

  pub as_untied_more : (e : HandleError) → e ≡ NoMemory → WasTold called (HasAskedNothing table) → UpgradedSo called {A = B} table side (Err e)
  as_untied_more NoMemory is told = told
  as_untied_more TooMany is told = absurd (let never : TooMany ≡ NoMemory = is in cc)

module _ {T : Type 0} (called : Seat T → Type 0) (table : TableId) (side : Side) {A : Type 0} (B : Type 0) where
  pub as_cloned : (r : Result A HandleError) (a : A) (b : B) → r ≡ Ok a → ClonedSo called table side r → ClonedSo called {A = B} table side (Ok b)
  as_cloned r a b is so = subst (λ (x : Result A HandleError). ClonedSo called table side x) is so

  pub as_refused : (r : Result A HandleError) (e : HandleError) → r ≡ Err e → ClonedSo called table side r → ClonedSo called {A = B} table side (Err e)
  as_refused r e is so = refused_so called table side A B e (subst (λ (x : Result A HandleError). ClonedSo called table side x) is so)

  pub as_upgraded : (r : Result (Option A) HandleError) (a : A) (b : B) → r ≡ Ok (Some a) → UpgradedSo called table side r → UpgradedSo called {A = B} table side (Ok (Some b))
  as_upgraded r a b is so = subst (λ (x : Result (Option A) HandleError). UpgradedSo called table side x) is so

  pub as_nobody : (r : Result (Option A) HandleError) → r ≡ Ok None → UpgradedSo called table side r → UpgradedSo called {A = B} table side (Ok None)
  as_nobody r is so = subst (λ (x : Result (Option A) HandleError). UpgradedSo called table side x) is so

  pub as_not_upgraded : (r : Result (Option A) HandleError) (e : HandleError) → r ≡ Err e → UpgradedSo called table side r → UpgradedSo called {A = B} table side (Err e)
  as_not_upgraded r e is so = refused_more called table side A B e (subst (λ (x : Result (Option A) HandleError). UpgradedSo called table side x) is so)

-- ---- on any channel

module _ {T X : Type 0} (did : cell.Deed T → X → X → Type 0) (shown : Deed T Task → X → X → Type 0) (entered : ℕ → X → X → Type 0) (called : Seat T → Type 0) (side : Side) where
  -- of a clone on this channel, by what is said of the table
  abbrev Cloned : (A : Type 0) → Handle → Option TableId → Result A HandleError → Type 0
  Cloned A h table r = MatchOption table (WasSeen did shown entered h (λ saw. Clones saw side) r) (λ t. ClonedSo called t side r)

  abbrev Upgraded : (A : Type 0) → Handle → Option TableId → Result (Option A) HandleError → Type 0
  Upgraded A h table r = MatchOption table (WasSeen did shown entered h (λ saw. Upgrades saw side) r) (λ t. UpgradedSo called t side r)

  module _ (A B : Type 0) (h : Handle) where
    made_of : (table : Option TableId) (a : A) (b : B) → Cloned A h table (Ok a) → Cloned B h table (Ok b)
    made_of None a b (s, t, seen) = (s, t, clone_made did shown entered h h side s t refl (Ok a) a b refl seen)
    made_of (Some id) a b so = so

    not_of : (table : Option TableId) (e : HandleError) → Cloned A h table (Err e) → Cloned B h table (Err e)
    not_of None e (s, t, seen) = (s, t, clone_not did shown entered h h side s t refl B (Err e) e refl seen)
    not_of (Some id) e so = refused_so called id side A B e so

    some_of : (table : Option TableId) (a : A) (b : B) → Upgraded A h table (Ok (Some a)) → Upgraded B h table (Ok (Some b))
    some_of None a b (s, t, seen) = (s, t, upgrade_made did shown entered h h side s t refl (Ok (Some a)) a b refl seen)
    some_of (Some id) a b so = so

    none_of : (table : Option TableId) → Upgraded A h table (Ok None) → Upgraded B h table (Ok None)
    none_of None (s, t, seen) = (s, t, upgrade_none did shown entered h h side s t refl B (Ok None) refl seen)
    none_of (Some id) so = so

    refused_of : (table : Option TableId) (e : HandleError) → Upgraded A h table (Err e) → Upgraded B h table (Err e)
    refused_of None e (s, t, seen) = (s, t, upgrade_not did shown entered h h side s t refl B (Err e) e refl seen)
    refused_of (Some id) e so = refused_more called id side A B e so

  module _ {A : Type 0} (B : Type 0) (f g : Handle) (same : f ≡ g) where
    pub cloned : (r : Result A HandleError) (a : A) (b : B) → r ≡ Ok a → Cloned A f f.table r → Cloned B g g.table (Ok b)
    cloned r a b is so = subst (λ (h : Handle). Cloned B h h.table (Ok b)) same (made_of A B f f.table a b (subst (λ (x : Result A HandleError). Cloned A f f.table x) is so))

    pub not_cloned : (r : Result A HandleError) (e : HandleError) → r ≡ Err e → Cloned A f f.table r → Cloned B g g.table (Err e)
    not_cloned r e is so = subst (λ (h : Handle). Cloned B h h.table (Err e)) same (not_of A B f f.table e (subst (λ (x : Result A HandleError). Cloned A f f.table x) is so))

    pub upgraded : (r : Result (Option A) HandleError) (a : A) (b : B) → r ≡ Ok (Some a) → Upgraded A f f.table r → Upgraded B g g.table (Ok (Some b))
    upgraded r a b is so = subst (λ (h : Handle). Upgraded B h h.table (Ok (Some b))) same (some_of A B f f.table a b (subst (λ (x : Result (Option A) HandleError). Upgraded A f f.table x) is so))

    pub nobody : (r : Result (Option A) HandleError) → r ≡ Ok None → Upgraded A f f.table r → Upgraded B g g.table (Ok None)
    nobody r is so = subst (λ (h : Handle). Upgraded B h h.table (Ok None)) same (none_of A B f f.table (subst (λ (x : Result (Option A) HandleError). Upgraded A f f.table x) is so))

    pub not_upgraded : (r : Result (Option A) HandleError) (e : HandleError) → r ≡ Err e → Upgraded A f f.table r → Upgraded B g g.table (Err e)
    not_upgraded r e is so = subst (λ (h : Handle). Upgraded B h h.table (Err e)) same (refused_of A B f f.table e (subst (λ (x : Result (Option A) HandleError). Upgraded A f f.table x) is so))
