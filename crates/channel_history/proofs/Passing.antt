-- What a deed changes of lists and counts, it changes of what lies with the seat of its party.
use Rattle.std.proofs.Common.{◌≡◌, ℕ, ◌+◌, ◌-◌, ◌≤◌, ◌&&◌, Bool, true, false, List, ◌∷◌, if◌then◌else◌, refl, sym, ap, ◌∙◌, subst, true≢false, arith}
use Rattle.std.proofs.lemmas.Bool.Decides.{nat_tests}
use Rattle.std.specs.Prelude.{slice_set, None, Some, Ok, Err}
use Rattle.concurrent_queue.specs.Contents.{Contents}
use Rattle.event_listener.specs.Lists.{same_key}
use Rattle.event_listener.specs.declared.key.Key.{Key}
use Rattle.channel_calls.specs.Deeds.{Deed, stepped, inserted, registered, taken_off, told, counted, lowered, raised}
use Rattle.channel_calls.specs.Effects.{Does}
use Rattle.channel_calls.specs.Parts.{Parts, Listeners, WaitLists, listeners, with_listeners, with_wait_lists, with_count}
use Rattle.channel_calls.specs.declared.stage.ListenerRef.{ListenerRef}
use Rattle.channel_calls.specs.declared.stage.Side.{Side}
use Rattle.channel_calls.specs.declared.stage.Side.TheVariants.{Senders, Receivers}
use Rattle.channel_calls.specs.declared.stage.WaitList.{WaitList}
use Rattle.channel_calls.specs.declared.stage.WaitList.TheVariants.{Sends, Receives, Streams, Closings}
use Rattle.channel_steps.specs.every_run.Bridge.{does, on_wait_lists}
use Rattle.channel_steps.specs.every_run.Closed.{one_if}
use Rattle.channel_history.specs.History.{total, is_line, is_side, count_of, is_handle, is_listener, listeners_of, handles_of, among, times, parts_of, LieWithSeats}
use Rattle.channel_history.specs.Keeps.{IsAt, LeavesHandles, LeavesListeners, Leaves}
use Rattle.channel_history.specs.Says.{counted_on}
use Rattle.channel_history.specs.declared.party.Standing.{Standing}
use Rattle.channel_history.proofs.Counting.{by_deed}
use Rattle.channel_history.proofs.Times.{same_is, told_same, listened_more, unlisted, removed_out, registered_out, registered_same}
use Rattle.channel_history.proofs.Together.{total_set, total_has}

-- ---- lists and keys

same_self : (a : Key) → same_key a a ≡ true
same_self a = grind (arith, nat_tests)

pub line_is : (x line : WaitList) → is_line x line ≡ true → x ≡ line
line_is Sends Sends e = refl
line_is Receives Receives e = refl
line_is Streams Streams e = refl
line_is Closings Closings e = refl
line_is Sends Receives e = absurd (true≢false (sym e))
line_is Sends Streams e = absurd (true≢false (sym e))
line_is Sends Closings e = absurd (true≢false (sym e))
line_is Receives Sends e = absurd (true≢false (sym e))
line_is Receives Streams e = absurd (true≢false (sym e))
line_is Receives Closings e = absurd (true≢false (sym e))
line_is Streams Sends e = absurd (true≢false (sym e))
line_is Streams Receives e = absurd (true≢false (sym e))
line_is Streams Closings e = absurd (true≢false (sym e))
line_is Closings Sends e = absurd (true≢false (sym e))
line_is Closings Receives e = absurd (true≢false (sym e))
line_is Closings Streams e = absurd (true≢false (sym e))

pub itself : (line : WaitList) → is_line line line ≡ true
itself Sends = refl
itself Receives = refl
itself Streams = refl
itself Closings = refl

abbrev listed_in : WaitList → Key → List ListenerRef → ℕ
listed_in x k ls = total (is_listener x k) ls

pub listed_at_head : (line : WaitList) (key : Key) (own rest : List ListenerRef) → own ≡ record { line = line; key = key } ∷ rest → 1 ≤ listed_in line key own
listed_at_head line key own rest e =
    let here = ap (λ (z : List ListenerRef). listed_in line key z) e ∙ ap (λ (c : Bool). one_if (c && same_key key key) + listed_in line key rest) (itself line)
    ∙ ap (λ (c : Bool). one_if c + listed_in line key rest) (same_self key) in
    omega (arith, here)

module _ {W : Type 0} where
  on_list : (x line : WaitList) (l : Listeners W) (a : WaitLists W) → listeners x (with_listeners line l a) ≡ (if is_line x line then l else listeners x a)
  on_list Sends Sends l a = refl
  on_list Sends Receives l a = refl
  on_list Sends Streams l a = refl
  on_list Sends Closings l a = refl
  on_list Receives Sends l a = refl
  on_list Receives Receives l a = refl
  on_list Receives Streams l a = refl
  on_list Receives Closings l a = refl
  on_list Streams Sends l a = refl
  on_list Streams Receives l a = refl
  on_list Streams Streams l a = refl
  on_list Streams Closings l a = refl
  on_list Closings Sends l a = refl
  on_list Closings Receives l a = refl
  on_list Closings Streams l a = refl
  on_list Closings Closings l a = refl

  on_count : (x : WaitList) (side : Side) (n : ℕ) (a : WaitLists W) → listeners x (with_count side n a) ≡ listeners x a
  on_count Sends Senders n a = refl
  on_count Receives Senders n a = refl
  on_count Streams Senders n a = refl
  on_count Closings Senders n a = refl
  on_count Sends Receivers n a = refl
  on_count Receives Receivers n a = refl
  on_count Streams Receivers n a = refl
  on_count Closings Receivers n a = refl

  -- ---- listeners

  -- as many more of each key are on a list as lie with the seat, and still no two
  abbrev pub Follows : List ListenerRef → List ListenerRef → WaitLists W → WaitLists W → Type 0
  Follows own left a b =
      (x : WaitList) (k : Key) → (times k (listeners x b) + listed_in x k own ≡ times k (listeners x a) + listed_in x k left) × (times k (listeners x b) ≤ 1)

  module _ (own left : List ListenerRef) (a b : WaitLists W) (once : (x : WaitList) (k : Key) → times k (listeners x a) ≤ 1) where
    same_lists : left ≡ own → ((x : WaitList) → listeners x b ≡ listeners x a) → Follows own left a b
    same_lists e f x k =
        let mine = ap (λ (l : List ListenerRef). listed_in x k l) e in
        let same = ap (λ (l : Listeners W). times k l) (f x) in
        let one = once x k in
        (omega (arith, mine, same), omega (arith, same, one))

    -- one list is another now
    module _ (line : WaitList) (m : Listeners W) (is : b ≡ with_listeners line m a) where
      by_line : (P : WaitList → Listeners W → Type 0) → P line m → ((x : WaitList) → is_line x line ≡ false → P x (listeners x a)) → (x : WaitList) → P x (listeners x b)
      by_line P mine others x = subst (λ (l : Listeners W). P x l) (sym (ap (λ (c : WaitLists W). listeners x c) is ∙ on_list x line m a)) (by (is_line x line) refl) where
        by : (y : Bool) → is_line x line ≡ y → P x (if y then m else listeners x a)
        by true e = subst (λ (z : WaitList). P z m) (sym (line_is x line e)) mine
        by false e = others x e

      stays : left ≡ own → ((k : Key) → times k m ≡ times k (listeners line a)) → Follows own left a b
      stays e f x k = by_line (λ y l. (times k l + listed_in y k own ≡ times k (listeners y a) + listed_in y k left) × (times k l ≤ 1)) (so line m (f k)) (λ y other. so y (listeners y a) refl) x where
        so : (y : WaitList) (l : Listeners W) → times k l ≡ times k (listeners y a) → (times k l + listed_in y k own ≡ times k (listeners y a) + listed_in y k left) × (times k l ≤ 1)
        so y l same = let mine = ap (λ (z : List ListenerRef). listed_in y k z) e in let one = once y k in (omega (arith, mine, same), omega (arith, same, one))

      comes : (key : Key) → times key (listeners line a) ≡ 0 → left ≡ record { line = line; key = key } ∷ own → ((k : Key) → times k m ≡ times k (listeners line a) + one_if (same_key k key)) → Follows own left a b
      comes key new e f x k = by_line (λ y l. (times k l + listed_in y k own ≡ times k (listeners y a) + listed_in y k left) × (times k l ≤ 1)) (here, few (same_key k key) refl) elsewhere x where
        mine : (y : WaitList) → listed_in y k left ≡ one_if (is_line y line && same_key k key) + listed_in y k own
        mine y = ap (λ (z : List ListenerRef). listed_in y k z) e

        here : times k m + listed_in line k own ≡ times k (listeners line a) + listed_in line k left
        here = let add = f k in let more = mine line ∙ ap (λ (c : Bool). one_if (c && same_key k key) + listed_in line k own) (itself line) in omega (arith, add, more)

        few : (c : Bool) → same_key k key ≡ c → times k m ≤ 1
        few true same =
            let add = f k in let none = new in let c = ap one_if same in
            let like = ap (λ (y : Key). times y (listeners line a)) (same_is k key same) in omega (arith, add, none, c, like)
        few false other = let add = f k in let c = ap one_if other in let one = once line k in omega (arith, add, c, one)

        elsewhere : (y : WaitList) → is_line y line ≡ false
            → (times k (listeners y a) + listed_in y k own ≡ times k (listeners y a) + listed_in y k left) × (times k (listeners y a) ≤ 1)
        elsewhere y other = let more = mine y ∙ ap (λ (c : Bool). one_if (c && same_key k key) + listed_in y k own) other in (omega (arith, more), once y k)

      goes : (key : Key) → own ≡ record { line = line; key = key } ∷ left → ((k : Key) → times k m + one_if (same_key k key) ≡ times k (listeners line a)) → Follows own left a b
      goes key e f x k = by_line (λ y l. (times k l + listed_in y k own ≡ times k (listeners y a) + listed_in y k left) × (times k l ≤ 1)) here elsewhere x where
        mine : (y : WaitList) → listed_in y k own ≡ one_if (is_line y line && same_key k key) + listed_in y k left
        mine y = ap (λ (z : List ListenerRef). listed_in y k z) e

        here : (times k m + listed_in line k own ≡ times k (listeners line a) + listed_in line k left) × (times k m ≤ 1)
        here =
            let sub = f k in let less = mine line ∙ ap (λ (c : Bool). one_if (c && same_key k key) + listed_in line k left) (itself line) in let one = once line k in
            (omega (arith, sub, less), omega (arith, sub, one))

        elsewhere : (y : WaitList) → is_line y line ≡ false
            → (times k (listeners y a) + listed_in y k own ≡ times k (listeners y a) + listed_in y k left) × (times k (listeners y a) ≤ 1)
        elsewhere y other = let less = mine y ∙ ap (λ (c : Bool). one_if (c && same_key k key) + listed_in y k left) other in (omega (arith, less), once y k)

  -- each that has a listener finds it on its list
  found_there : (own : List ListenerRef) (a : WaitLists W) → ((x : WaitList) (k : Key) → listed_in x k own ≤ times k (listeners x a)) → (line : WaitList) (key : Key) (rest : List ListenerRef)
      → own ≡ record { line = line; key = key } ∷ rest → 1 ≤ times key (listeners line a)
  found_there own a fits line key rest e = let here = listed_at_head line key own rest e in let fit = fits line key in omega (arith, here, fit)

module _ {T W : Type 0} where
  -- ---- a deed

  module _ (own left : List ListenerRef) (p q : Parts T W) (once : (x : WaitList) (k : Key) → times k (listeners x p.wait_lists) ≤ 1)
      (fits : (x : WaitList) (k : Key) → listed_in x k own ≤ times k (listeners x p.wait_lists)) where
    abbrev Now : Type 0
    Now = Follows own left p.wait_lists q.wait_lists

    as_before : left ≡ own → ((x : WaitList) → listeners x q.wait_lists ≡ listeners x p.wait_lists) → Now
    as_before e f = same_lists own left p.wait_lists q.wait_lists once e f

    beside : (a : WaitLists W) → q ≡ with_wait_lists a p → q.wait_lists ≡ a
    beside a e = ap (λ (x : Parts T W). x.wait_lists) e

    there : (line : WaitList) (key : Key) (rest : List ListenerRef) → own ≡ record { line = line; key = key } ∷ rest → 1 ≤ times key (listeners line p.wait_lists)
    there line key rest e = found_there own p.wait_lists fits line key rest e

    pub follows : (o : Deed T W) → LeavesListeners o own left → Does o p q → Now
    follows (stepped call after r) e h = as_before e (λ x. ap (λ (a : WaitLists W). listeners x a) h.1)
    follows (inserted line (Ok key)) e h =
        comes own left p.wait_lists q.wait_lists once line _ (beside _ h.1) key (unlisted key (listeners line p.wait_lists) h.0) e (λ k. listened_more k key (listeners line p.wait_lists))
    follows (inserted line (Err x)) e h = as_before e (λ x. ap (λ (y : Parts T W). listeners x y.wait_lists) h)
    follows (registered line key task None) (e, rest, has) h =
        stays own left p.wait_lists q.wait_lists once line _ (beside _ h.1) e
        (λ k. registered_same k key (listeners line p.wait_lists) (there line key rest has) (once line key) task h.0)
    follows (registered line key task (Some back)) e h =
        goes own left p.wait_lists q.wait_lists once line _ (beside _ h.1) key e
        (λ k. registered_out k key (listeners line p.wait_lists) (there line key left e) (once line key) task back h.0)
    follows (taken_off line key names) e h =
        goes own left p.wait_lists q.wait_lists once line _ (beside _ h.1) key e
        (λ k. removed_out k key (listeners line p.wait_lists) (there line key left e) (once line key))
    follows (told line telling names) e h =
        stays own left p.wait_lists q.wait_lists once line _ (beside _ h.1) e (λ k. told_same k telling (listeners line p.wait_lists))
    follows (counted side n) e h = as_before e (λ x. ap (λ (y : Parts T W). listeners x y.wait_lists) h.1)
    follows (lowered side n) e h =
        same_lists own left p.wait_lists q.wait_lists once e (λ x. ap (λ (a : WaitLists W). listeners x a) (beside _ h.1) ∙ on_count x side (n - 1) p.wait_lists)
    follows (raised side n true) e h =
        same_lists own left p.wait_lists q.wait_lists once e (λ x. ap (λ (a : WaitLists W). listeners x a) (beside _ h.1) ∙ on_count x side (n + 1) p.wait_lists)
    follows (raised side n false) e h = as_before e (λ x. ap (λ (y : Parts T W). listeners x y.wait_lists) h.1)

-- ---- handles

one_more : (b : Bool) (n t t' k : ℕ) → t' + k ≡ t + (one_if b + k) → t ≡ n → t' ≡ (if b then n + 1 else n)
one_more true n t t' k e is = omega (arith, e, is)
one_more false n t t' k e is = omega (arith, e, is)

one_less : (b : Bool) (n t t' k : ℕ) → t' + (one_if b + k) ≡ t + k → t ≡ n → t' ≡ (if b then n - 1 else n)
one_less true n t t' k e is = omega (arith, e, is)
one_less false n t t' k e is = omega (arith, e, is)

still : (n t t' k k' : ℕ) → t' + k ≡ t + k' → t ≡ n → k' ≡ k → t' ≡ n
still n t t' k k' sum is e = omega (arith, sum, is, e)

abbrev number : Side → List Side → ℕ
number side handles = total (is_handle side) handles

module _ {T W : Type 0} where
  module _ (side : Side) (own left : List Side) (n t t' : ℕ) (sum : t' + number side own ≡ t + number side left) (is : t ≡ n) where
    follow : (o : Deed T W) → LeavesHandles o own left → t' ≡ counted_on side (does (on_wait_lists o)) n
    follow (raised x k true) e = one_more (is_side side x) n t t' (number side own) (sum ∙ ap (λ (l : List Side). t + number side l) e) is
    follow (lowered x k) e = one_less (is_side side x) n t t' (number side left) (ap (λ (l : List Side). t' + number side l) (sym e) ∙ sum) is
    follow (raised x k false) e = still n t t' (number side own) (number side left) sum is (ap (λ (l : List Side). number side l) e)
    follow (stepped call after r) e = still n t t' (number side own) (number side left) sum is (ap (λ (l : List Side). number side l) e)
    follow (inserted line r) e = still n t t' (number side own) (number side left) sum is (ap (λ (l : List Side). number side l) e)
    follow (registered line key task r) e = still n t t' (number side own) (number side left) sum is (ap (λ (l : List Side). number side l) e)
    follow (taken_off line key names) e = still n t t' (number side own) (number side left) sum is (ap (λ (l : List Side). number side l) e)
    follow (told line telling names) e = still n t t' (number side own) (number side left) sum is (ap (λ (l : List Side). number side l) e)
    follow (counted x k) e = still n t t' (number side own) (number side left) sum is (ap (λ (l : List Side). number side l) e)

  -- ---- all seats

  abbrev Beside : Contents T → (WaitList → Listeners W) → ℕ → ℕ → WaitLists W
  Beside c f n m = let parts : Parts T W = parts_of c f n m in parts.wait_lists

  pub found : (x : WaitList) (c : Contents T) (f : WaitList → Listeners W) (n m : ℕ) → listeners x (Beside c f n m) ≡ f x
  found Sends c f n m = refl
  found Receives c f n m = refl
  found Streams c f n m = refl
  found Closings c f n m = refl

  module _ (views : List (Standing T W)) (p : ℕ) (v w : Standing T W) (there : IsAt views p v) (o : Deed T W) (leaves : Leaves o v w) (c : Contents T) (f : WaitList → Listeners W) (n m : ℕ) (f' : WaitList → Listeners W) (n' m' : ℕ)
      (did : Does o (parts_of c f n m) (parts_of c f' n' m')) (h : LieWithSeats views f n m) where
    counted_so : (side : Side) → count_of side n' m' ≡ counted_on side (does (on_wait_lists o)) (count_of side n m)
    counted_so Senders = by_deed Senders o (parts_of c f n m) (parts_of c f' n' m') did
    counted_so Receivers = by_deed Receivers o (parts_of c f n m) (parts_of c f' n' m') did

    pub handles_now : (side : Side) → among handles_of (is_handle side) (slice_set views p w) ≡ count_of side n' m'
    handles_now side =
        let set = total_set (λ (s : Standing T W). number side s.own.handles) views p v w there in
        follow side v.own.handles w.own.handles (count_of side n m) (among handles_of (is_handle side) views) (among handles_of (is_handle side) (slice_set views p w))
        set (h.handles side) o leaves.0 ∙ sym (counted_so side)

    once_before : (x : WaitList) (k : Key) → times k (listeners x (Beside c f n m)) ≤ 1
    once_before x k = subst (λ (l : Listeners W). times k l ≤ 1) (sym (found x c f n m)) (h.once x k)

    fits : (x : WaitList) (k : Key) → listed_in x k v.own.listeners ≤ times k (listeners x (Beside c f n m))
    fits x k =
        let all = h.listed x k in
        let at = ap (λ (l : Listeners W). times k l) (found x c f n m) in
        let least = total_has (λ (s : Standing T W). listed_in x k s.own.listeners) views p v there in
        omega (arith, all, at, least)

    tally : Follows v.own.listeners w.own.listeners (Beside c f n m) (Beside c f' n' m')
    tally = follows v.own.listeners w.own.listeners (parts_of c f n m) (parts_of c f' n' m') once_before fits o leaves.1 did

    pub listed_now : (x : WaitList) (k : Key) → among listeners_of (is_listener x k) (slice_set views p w) ≡ times k (f' x)
    listed_now x k =
        let set = total_set (λ (s : Standing T W). listed_in x k s.own.listeners) views p v w there in
        let all = h.listed x k in
        let before = ap (λ (l : Listeners W). times k l) (found x c f n m) in
        let after = ap (λ (l : Listeners W). times k l) (found x c f' n' m') in
        let sum = (tally x k).0 in
        omega (arith, set, all, before, after, sum)

    pub once_now : (x : WaitList) (k : Key) → times k (f' x) ≤ 1
    once_now x k = subst (λ (l : Listeners W). times k l ≤ 1) (found x c f' n' m') ((tally x k).1)
