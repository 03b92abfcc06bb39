-- What a channel's parties do as the machine of a queue's table keeps their history.
use Rattle.std.proofs.Common.{◌≡◌, ◌≢◌, ℕ, zero, suc, ◌+◌, ◌-◌, ◌<◌, ◌≤◌, ◌%◌, ◌^◌, ◌==◌, ◌&&◌, nat_lt, Bool, true, false, List, [], ◌∷◌, ◌++◌, length, set, if◌then◌else◌, inl, inr, refl, sym, ap, ◌∙◌, subst, arith}
use Rattle.std.proofs.lemmas.Bool.Decides.{nat_tests}
use Rattle.std.proofs.lemmas.List.{map-set, map-append}
use mathlib.Core.Option.{some, some-injective, some-ne-none}
use native.Mathlib.Decide.{ℕ_discrete}
use lib.ListN.{get_elem?}
use Rattle.concurrent_queue.proofs.Callers.{is_same}
use Rattle.concurrent_queue.specs.Contents.{Contents}
use Rattle.concurrent_queue.specs.Made.{new_cells}
use Rattle.concurrent_queue.specs.declared.cells.QueueForm.{QueueForm}
use Rattle.concurrent_queue.specs.declared.history.rule.Counter.{Counter}
use Rattle.concurrent_queue.specs.declared.history.rule.Counter.TheVariants.{First, Second, Third, Fourth, Fifth, Sixth}
use Rattle.concurrent_queue.specs.declared.history.rule.CountStep.{CountStep}
use Rattle.concurrent_queue.specs.declared.history.rule.CountStep.TheVariants.{Read, Lower, Raise, Set}
use Rattle.concurrent_queue.specs.history.Keeps.{KeepsHistory, Tally, counted_after, opening_tally}
use Rattle.concurrent_queue.specs.history.Keeps as table
use Rattle.concurrent_queue.specs.machine.Places.{Each}
use Rattle.event_listener.specs.Lists.{ListView}
use Rattle.concurrent_queue.specs.declared.history.rule.View.{View}
use Rattle.channel_calls.specs.Deeds.{Deed, lowered, raised}
use Rattle.channel_calls.specs.Parts.{count}
use Rattle.channel_calls.specs.declared.stage.Side.{Side}
use Rattle.channel_calls.specs.declared.stage.Side.TheVariants.{Senders, Receivers}
use Rattle.channel_calls.specs.declared.stage.WaitList.{WaitList}
use Rattle.channel_calls.specs.declared.stage.WaitList.TheVariants.{Sends, Receives, Streams, Closings}
use Rattle.channel_history.specs.History.{count_of, lists_of, IsChannelHistory}
use Rattle.channel_history.specs.Keeps.{IsAt, ChangesCounts, Leaves}
use Rattle.channel_history.specs.Machine.{counter_of, waiters_of, Fits, new_list, IsFlagged, AreFlagged, count_deed, state_of, states, history, opened, enters, turns, begins_call, ends_call, makes_section, is_refused, counts_handles, flags, counts, both, left, parts}
use Rattle.channel_history.specs.Party.{nothing, fresh, with_own, standing_of}
use Rattle.channel_history.specs.declared.party.Belongings.{Belongings}
use Rattle.channel_history.specs.QueueCells.{moves}
use Rattle.channel_history.specs.declared.party.Standing.{Standing}
use Rattle.channel_history.proofs.CellActs.{sections_act}
use Rattle.channel_history.proofs.Deeds.{deeds_do}
use Rattle.channel_history.proofs.Goes.{moved}
use Rattle.channel_history.proofs.Handles.{count_operations_keep, handles_are_counted}
use Rattle.channel_history.proofs.Joining.{joins_keep}
use Rattle.channel_history.proofs.Keeping.{opens_well, queue_operations_keep, beginnings_keep, arrivals_keep, endings_keep}
use Rattle.channel_history.proofs.Lying.{new_each, joined_each, split_each, lie_with_new}
use Rattle.channel_history.proofs.QueueCells.{queue_calls_move}
use Rattle.channel_history.proofs.Seats.{stands_past, stands_last, stands_before}
use Rattle.channel_history.proofs.Sections.{sections_keep}
use Rattle.channel_history.proofs.Splitting.{splits_keep}
use Rattle.channel_history.proofs.Together.{each_at, each_set}
use Rattle.channel_history.proofs.Waiting.{flagged_beside, flagged_kept, flagged_same, flagged_set, nobody_keeps}

-- a word that isn't 0 is made one less
lowered_by_one : (n : ℕ) → n ≢ 0 → n < 2 ^ 64 → (n + (2 ^ 64 - 1)) % 2 ^ 64 ≡ n - 1
lowered_by_one n more fits = omega arith

has_room : (n k : ℕ) → n ≡ k → (n ≡ k → k < 2 ^ 64 - 1) → nat_lt n (2 ^ 64 - 1) ≡ true
has_room n k is fits = let h = fits is in grind (arith, nat_tests)

never : (b : Bool) (k : ℕ) → 2 ^ 64 - 1 ≤ k → false ≡ (b && nat_lt k (2 ^ 64 - 1))
never false k over = refl
never true k over = grind (arith, nat_tests)

-- only what is counted is lowered, and a raise that finds its number has room
abbrev Can : CountStep → ℕ → Type 0
Can Lower n = n ≢ 0
Can op n = Fits op n

-- of two counts, what each is after an operation on that of this side
abbrev first_after : Side → CountStep → ℕ → ℕ
first_after Senders op n = counted_after op n
first_after Receivers op n = n

abbrev second_after : Side → CountStep → ℕ → ℕ
second_after Senders op m = m
second_after Receivers op m = counted_after op m

module _ {T W : Type 0} where
  -- ---- a new party

  module _ (form : QueueForm) (views : List (Standing T W)) (c : Contents T) (n m : ℕ) (h : IsChannelHistory form views c n m) where
    as_before : (q : ℕ) → Dec (q ≡ length views) → with_own nothing (standing_of (views ++ fresh ∷ []) q) ≡ with_own nothing (standing_of views q)
    as_before q (yes is) =
        subst (λ (k : ℕ). with_own nothing (standing_of (views ++ fresh ∷ []) k) ≡ with_own nothing (standing_of views k)) (sym is)
        (ap (λ (s : Standing T W). with_own nothing s) (stands_last views fresh ∙ sym (stands_past views)))
    as_before q (no apart) = ap (λ (s : Standing T W). with_own nothing s) (stands_before views q fresh apart)

    pub enters_keep : (t : Standing T W) → enters form t → IsChannelHistory form (views ++ t ∷ []) c n m
    enters_keep t (inl is) =
        subst (λ (s : Standing T W). IsChannelHistory form (views ++ s ∷ []) c n m) (sym is)
        (moved form views (views ++ fresh ∷ []) c n m h (λ q. as_before q (ℕ_discrete q (length views))) (lie_with_new views fresh refl h.listening n m h.lie))
    enters_keep t (inr (ask, begun, none)) = arrivals_keep T W form views c n m t ask h begun none

  -- ---- what an operation on a count does, on a channel with these counts

  is_over : (side : Side) (k n m : ℕ) → 2 ^ 64 - 1 ≤ k → ChangesCounts {T = T} {W = W} (raised side k false) n m n m
  is_over side k n m over parts e f = (never (count side parts.wait_lists == k) k over, (((deeds_do T W).reads n m).0 parts e f).1)

  raises_senders : (k n m : ℕ) (b : Bool) → (n == k) ≡ b → Can (Raise k) n → ChangesCounts {T = T} {W = W} (raised Senders k b) n m (if b then k + 1 else n) m
  raises_senders k n m true e can =
      let is : n ≡ k = is_same n k e in
      subst (λ (x : ℕ). ChangesCounts {T = T} {W = W} (raised Senders x true) n m (x + 1) m) is ((deeds_do T W).raises n m (has_room n k is can))
  raises_senders k n m false e can = ((deeds_do T W).finds_another n m k).0 e

  raises_receivers : (k n m : ℕ) (b : Bool) → (m == k) ≡ b → Can (Raise k) m → ChangesCounts {T = T} {W = W} (raised Receivers k b) n m n (if b then k + 1 else m)
  raises_receivers k n m true e can =
      let is : m ≡ k = is_same m k e in
      subst (λ (x : ℕ). ChangesCounts {T = T} {W = W} (raised Receivers x true) n m n (x + 1)) is ((deeds_do T W).raises_other n m (has_room m k is can))
  raises_receivers k n m false e can = ((deeds_do T W).finds_another n m k).1 e

  changes : (side : Side) (op : CountStep) (n m : ℕ) → Can op (count_of side n m) → count_of side n m < 2 ^ 64
      → ChangesCounts {T = T} {W = W} (count_deed side op (count_of side n m)) n m (first_after side op n) (second_after side op m)
  changes Senders Read n m can fits = ((deeds_do T W).reads n m).0
  changes Receivers Read n m can fits = ((deeds_do T W).reads n m).1
  changes Senders Lower n m can fits = subst (λ (x : ℕ). ChangesCounts {T = T} {W = W} (lowered Senders n) n m x m) (sym (lowered_by_one n can fits)) ((deeds_do T W).lowers n m).0
  changes Receivers Lower n m can fits = subst (λ (x : ℕ). ChangesCounts {T = T} {W = W} (lowered Receivers m) n m n x) (sym (lowered_by_one m can fits)) ((deeds_do T W).lowers n m).1
  changes Senders (Raise k) n m can fits = raises_senders k n m (n == k) refl can
  changes Receivers (Raise k) n m can fits = raises_receivers k n m (m == k) refl can
  changes side (Set k) n m can fits = absurd can

  module _ (form : QueueForm) (views : List (Standing T W)) (c : Contents T) (n m : ℕ) (h : IsChannelHistory form views c n m) (p : ℕ) (s t : Standing T W) (there : IsAt views p s) where
    -- ---- a step that touches no cell and no count

    pub turns_keep : turns form s t → IsChannelHistory form (set views p t) c n m
    turns_keep (begins_call ask begun own) = beginnings_keep T W form views c n m p s t ask h there begun own
    turns_keep (ends_call ended own) = endings_keep T W form views c n m p s t h there ended own
    turns_keep (makes_section line l k (o, made, has, left, leaves, changes) same) = sections_keep T W form views c n m p s t line l k o h there made has left leaves changes
    turns_keep (is_refused side k over made own) =
        count_operations_keep T W form views c n m n m p s t (raised side k false) h there made (ap (λ (b : Belongings W). b.lists) own)
        (ap (λ (b : Belongings W). b.handles) own, ap (λ (b : Belongings W). b.listeners) own) (is_over side k n m over)

    -- ---- an operation on a count

    can_be : (side : Side) (op : CountStep) → Leaves (count_deed {T = T} {W = W} side op (count_of side n m)) s t → Fits op (count_of side n m) → Can op (count_of side n m)
    can_be Senders Lower leaves fits = (handles_are_counted T W form views c n m h Senders).lowers p s t.own.handles there leaves.0
    can_be Receivers Lower leaves fits = (handles_are_counted T W form views c n m h Receivers).lowers p s t.own.handles there leaves.0
    can_be side Read leaves fits = tt
    can_be side (Raise k) leaves fits = fits
    can_be side (Set k) leaves fits = absurd fits

    handles_keep : (side : Side) (op : CountStep) → counts_handles form s t side op (count_of side n m) → count_of side n m < 2 ^ 64
        → IsChannelHistory form (set views p t) c (first_after side op n) (second_after side op m) × (t.own.lists ≡ s.own.lists)
    handles_keep side op (operation, fits) within =
        let d : Deed T W = count_deed side op (count_of side n m) in
        let acts = (sections_act T W).count_acts form d s t operation in (
          count_operations_keep T W form views c n m (first_after side op n) (second_after side op m) p s t d h there acts.0 acts.1 acts.2 (changes side op n m (can_be side op acts.2 fits) within),
          acts.1,
        )

  module _ (form : QueueForm) (views : List (Standing T W)) (c : Contents T) (a : Tally) (h : IsChannelHistory form views c a.first a.second) (flagged : AreFlagged a views)
      (p : ℕ) (s t : Standing T W) (there : IsAt views p s) where
    abbrev After : Tally → Type 0
    After u = IsChannelHistory form (set views p t) c u.first u.second × AreFlagged u (set views p t)

    -- what lies with the seat are the same lists
    lists_same : (u : Tally) → AreFlagged u views → t.own.lists ≡ s.own.lists → AreFlagged u (set views p t)
    lists_same u all same =
        each_set (λ (x : Standing T W). Each (IsFlagged u) x.own.lists) views p t all
        (subst (λ (ls : List (WaitList × ListView Unit W)). Each (IsFlagged u) ls) (sym same) (each_at (λ (x : Standing T W). Each (IsFlagged u) x.own.lists) views p s there all))

    pub turned_so : turns form s t → After a
    turned_so made = (turns_keep form views c a.first a.second h p s t there made, by made) where
      by : turns form s t → AreFlagged a (set views p t)
      by (begins_call ask begun own) = flagged_kept views a flagged p s t there own
      by (ends_call ended own) = flagged_kept views a flagged p s t there own
      by (makes_section line l k (o, made, has, left, leaves, changes) same) = flagged_same views a flagged p s t there line l k has left same
      by (is_refused side k over made own) = flagged_kept views a flagged p s t there own

    handles_so : (side : Side) (op : CountStep) → counts_handles form s t side op (table.count_of (counter_of side) a) → table.count_of (counter_of side) a < 2 ^ 64
        → After (table.with_count (counter_of side) (counted_after op (table.count_of (counter_of side) a)) a)
    handles_so Senders op made within =
        let by = handles_keep form views c a.first a.second h p s t there Senders op made within in
        let u = table.with_count (counter_of Senders) (counted_after op a.first) a in
        (by.0, lists_same u (flagged_beside Senders (counted_after op a.first) a views flagged) by.1)
    handles_so Receivers op made within =
        let by = handles_keep form views c a.first a.second h p s t there Receivers op made within in
        let u = table.with_count (counter_of Receivers) (counted_after op a.second) a in
        (by.0, lists_same u (flagged_beside Receivers (counted_after op a.second) a views flagged) by.1)

    -- the counts of handles are what they were
    beside : (line : WaitList) (n : ℕ) → IsChannelHistory form (set views p t) c a.first a.second
        → IsChannelHistory form (set views p t) c (table.with_count (waiters_of line) n a).first (table.with_count (waiters_of line) n a).second
    beside Sends n k = k
    beside Receives n k = k
    beside Streams n k = k
    beside Closings n k = k

    as_it_was : (line : WaitList) (u : Tally) → table.with_count (waiters_of line) (table.count_of (waiters_of line) u) u ≡ u
    as_it_was Sends u = refl
    as_it_was Receives u = refl
    as_it_was Streams u = refl
    as_it_was Closings u = refl

    waiting_so : (line : WaitList) (op : CountStep) → flags form s t line op (table.count_of (waiters_of line) a) → After (table.with_count (waiters_of line) (counted_after op (table.count_of (waiters_of line) a)) a)
    waiting_so line Read (none, made) =
        subst After (sym (as_it_was line a))
        (nobody_keeps form views c a h flagged p s t there line none made, flagged_kept views a flagged p s t there made.2)
    waiting_so line (Set n) (l, k, (o, made, has, left, leaves, changes), is) = (
      beside line n (sections_keep T W form views c a.first a.second p s t line l k o h there made has left leaves changes),
      flagged_set views a flagged p s t there line l k has left n is ((h.lie).lists line),
    )
    waiting_so line Lower made = absurd made
    waiting_so line (Raise k) made = absurd made

    pub counts_keep : (which : Counter) (op : CountStep) → counts form s t which op (table.count_of which a) → table.count_of which a < 2 ^ 64
        → After (table.with_count which (counted_after op (table.count_of which a)) a)
    counts_keep First op made within = handles_so Senders op made within
    counts_keep Second op made within = handles_so Receivers op made within
    counts_keep Third op made within = waiting_so Sends op made
    counts_keep Fourth op made within = waiting_so Receives op made
    counts_keep Fifth op made within = waiting_so Streams op made
    counts_keep Sixth op made within = waiting_so Closings op made

  -- ---- where the parties of views stand

  states_set : (views : List (View T (Standing T W))) (p : ℕ) (w : View T (Standing T W)) → states (set views p w) ≡ set (states views) p w.state
  states_set views p w = map-set state_of views p w

  states_more : (views : List (View T (Standing T W))) (w : View T (Standing T W)) → states (views ++ w ∷ []) ≡ states views ++ w.state ∷ []
  states_more views w = map-append state_of views (w ∷ [])

  is_at : (views : List (View T (Standing T W))) (p : ℕ) (v : View T (Standing T W)) → get_elem? views p ≡ some v → IsAt (states views) p v.state
  is_at [] p v there = absurd (some-ne-none v (sym there))
  is_at (x ∷ xs) zero v there = ap (λ (s : Standing T W). some s) (ap state_of (some-injective x v there))
  is_at (x ∷ xs) (suc p) v there = is_at xs p v there

  states_same : (views : List (View T (Standing T W))) (p : ℕ) (v w : View T (Standing T W)) → get_elem? views p ≡ some v → w.state ≡ v.state → states (set views p w) ≡ states views
  states_same [] p v w there is = absurd (some-ne-none v (sym there))
  states_same (x ∷ xs) zero v w there is = ap (λ (s : Standing T W). s ∷ states xs) (is ∙ sym (ap state_of (some-injective x v there)))
  states_same (x ∷ xs) (suc p) v w there is = ap (λ (l : List (Standing T W)). x.state ∷ l) (states_same xs p v w there is)

  states_joined : (views : List (View T (Standing T W))) (p q : ℕ) (v w : View T (Standing T W)) (s t : Standing T W) → v.state ≡ s → w.state ≡ t
      → states (set (set views p v) q w) ≡ set (set (states views) p s) q t
  states_joined views p q v w s t is so =
      states_set (set views p v) q w ∙ (ap (λ (l : List (Standing T W)). set l q w.state) (states_set views p v)
      ∙ (ap (λ (x : Standing T W). set (set (states views) p x) q w.state) is ∙ ap (λ (x : Standing T W). set (set (states views) p s) q x) so))

  states_parted : (views : List (View T (Standing T W))) (p : ℕ) (v w : View T (Standing T W)) (s t : Standing T W) → v.state ≡ s → w.state ≡ t
      → states (set views p v ++ w ∷ []) ≡ set (states views) p s ++ t ∷ []
  states_parted views p v w s t is so =
      states_more (set views p v) w ∙ (ap (λ (l : List (Standing T W)). l ++ w.state ∷ []) (states_set views p v)
      ∙ (ap (λ (x : Standing T W). set (states views) p x ++ w.state ∷ []) is ∙ ap (λ (x : Standing T W). set (states views) p s ++ x ∷ []) so))

-- ---- the laws

module _ {T W : Type 0} where
  -- what is said of where the parties stand, and of the lists that lie with them
  abbrev Of : QueueForm → Contents T → Tally → List (Standing T W) → Type 0
  Of form c t l = IsChannelHistory form l c t.first t.second × AreFlagged t l

  by_states : (form : QueueForm) (c : Contents T) (t : Tally) (l k : List (Standing T W)) → l ≡ k → Of form c t k → Of form c t l
  by_states form c t l k is h = subst (λ (x : List (Standing T W)). Of form c t x) (sym is) h

  entered : (form : QueueForm) (s : Standing T W) → enters form s → s.own ≡ nothing
  entered form s (inl is) = ap (λ (x : Standing T W). x.own) is
  entered form s (inr (ask, begun, none)) = none

  pub channel_keeps : KeepsHistory {T = T} {A = Standing T W} moves enters turns counts both left parts opened 1 history
  channel_keeps = record {
    opens = λ form v has is. subst (λ (s : Standing T W). Of form (new_cells form) (opening_tally 1) (s ∷ [])) (sym is) (opens_well T W form new_list refl, (((λ z. refl), ((λ z. refl), ((λ z. refl), ((λ z. refl), tt)))), tt));
    same = λ form views c t p v w h there is. by_states form c t _ _ (states_same views p v w there is) h;
    arrives = λ form views c t w h enters.
        by_states form c t _ _ (states_more views w)
        (enters_keep form (states views) c t.first t.second h.0 w.state enters, new_each (states views) w.state (entered form w.state enters) _ lists_of ((λ x y. refl), refl) (IsFlagged t) h.1);
    more = λ form views c d t p v w o h there done made.
        let made_so = (queue_calls_move T W).acts form v.state w.state o made in
        let at = is_at views p v there in
        by_states form d t _ _ (states_set views p w)
        (queue_operations_keep T W form (states views) c d t.first t.second p v.state w.state o h.0 at made_so.0 made_so.1 done, flagged_kept (states views) t h.1 p v.state w.state at made_so.1);
    turned = λ form views c t p v w h there turns.
        by_states form c t _ _ (states_set views p w) (turned_so form (states views) c t h.0 h.1 p v.state w.state (is_at views p v there) turns);
    counts_on = λ form views c t p v w which op h there counts within.
        by_states form c (table.with_count which (counted_after op (table.count_of which t)) t) _ _ (states_set views p w)
        (counts_keep form (states views) c t h.0 h.1 p v.state w.state (is_at views p v there) which op counts within);
    joined = λ form views c t p q v w v' w' h at_p at_q apart is so.
        let here = is_at views p v at_p in
        let there = is_at views q w at_q in
        by_states form c t _ _ (states_joined views p q v' w' (both v.state w.state) (left w.state) is so)
        (joins_keep T W form (states views) c t.first t.second p q v.state w.state h.0 here there apart, joined_each (states views) p q v.state w.state here there apart _ lists_of ((λ x y. refl), refl) (IsFlagged t) h.1);
    parted = λ form views c t p v v' w h there (a, b, stays, goes, cut).
        let here = is_at views p v there in
        by_states form c t _ _ (states_parted views p v' w (with_own a v.state) (with_own b fresh) stays goes)
        (splits_keep T W form (states views) c t.first t.second p v.state a b h.0 here cut, split_each (states views) p v.state a b here cut _ lists_of ((λ x y. refl), refl) (IsFlagged t) h.1);
  }
