-- An operation on a count keeps a history, with the handles; and what the counts say.
use Rattle.std.proofs.Common.{◌≡◌, ◌≢◌, ℕ, ◌≤◌, ◌<◌, ◌^◌, List, [], ◌∷◌, ◌++◌, map, refl, sym, ap, subst, arith}
use Rattle.std.specs.Prelude.{slice_set}
use Rattle.concurrent_queue.specs.machine.Places.{Each}
use Rattle.event_listener.specs.Lists.{ListView}
use Rattle.channel_calls.specs.Deeds.{woken_by}
use Rattle.channel_calls.specs.declared.stage.Side.{Side}
use Rattle.channel_calls.specs.declared.stage.Side.TheVariants.{Senders, Receivers}
use Rattle.channel_calls.specs.declared.stage.WaitList.{WaitList}
use Rattle.channel_steps.specs.every_run.Bridge.{does, on_wait_lists}
use Rattle.channel_history.specs.Handles.{HandlesAreCounted}
use Rattle.channel_history.specs.History.{total, count_of, is_handle, handles_of, is_list, IsTrue, among, parts_of, LieWithSeats}
use Rattle.channel_history.specs.Keeps.{IsAt, CountOperationsKeep}
use Rattle.channel_history.specs.declared.party.Standing.{Standing}
use Rattle.channel_history.proofs.Counting.{counts_fit}
use Rattle.channel_history.proofs.Goes.{all_woken, order_last, goes_on}
use Rattle.channel_history.proofs.Keeping.{leads_now, others_now}
use Rattle.channel_history.proofs.Passing.{handles_now, listed_now, once_now}
use Rattle.channel_history.proofs.Together.{total_set, total_has, each_at, each_set}

pub count_operations_keep : (T W : Type 0) → CountOperationsKeep T W
count_operations_keep T W form views c n m n' m' p v w o h there (os, quiet, l) same leaves changes =
    goes_on form views (slice_set views p w) c c n m n' m' h p (map does (os ++ on_wait_lists o ∷ [])) h.listening (h.woken ++ woken_by o)
    (order_last p os (on_wait_lists o) (parts_of c h.listening n m, h.woken) (parts_of c h.listening n' m', h.woken ++ woken_by o) quiet
    (changes (parts_of c h.listening n m) refl refl, all_woken h.woken (woken_by o)))
    (leads_now form views c n m h p v w there _ l) (others_now form views c n m h p v w there) lie
  where
    lie : LieWithSeats (slice_set views p w) h.listening n' m'
    lie = let before = h.lie in let did = changes (parts_of c h.listening n m) refl refl in record {
      lists = λ line.
          let set = total_set (λ (s : Standing T W). total (is_list line) s.own.lists) views p v w there in
          let e = ap (λ (l : List (WaitList × ListView Unit W)). total (is_list line) l) same in
          let one = before.lists line in
          omega (arith, set, e, one);
      true_lists = each_set (λ (s : Standing T W). Each (IsTrue h.listening) s.own.lists) views p w before.true_lists
          (subst (λ (l : List (WaitList × ListView Unit W)). Each (IsTrue h.listening) l) (sym same)
          (each_at (λ (s : Standing T W). Each (IsTrue h.listening) s.own.lists) views p v there before.true_lists));
      handles = handles_now views p v w there o leaves c h.listening n m h.listening n' m' did before;
      listed = listed_now views p v w there o leaves c h.listening n m h.listening n' m' did before;
      once = once_now views p v w there o leaves c h.listening n m h.listening n' m' did before;
    }

-- ---- what the counts say

one_here : (side : Side) (others : List Side) → 1 ≤ total (is_handle side) (side ∷ others)
one_here Senders others = omega arith
one_here Receivers others = omega arith

module _ {T W : Type 0} where
  at_least_one : (views : List (Standing T W)) (side : Side) (n p : ℕ) (v : Standing T W) (others : List Side) → among handles_of (is_handle side) views ≡ n → IsAt views p v → v.own.handles ≡ side ∷ others
      → n ≢ 0
  at_least_one views side n p v others is there has none =
      let here = one_here side others in
      let e = ap (λ (l : List Side). total (is_handle side) l) has in
      let least = total_has (λ (s : Standing T W). total (is_handle side) s.own.handles) views p v there in
      absurd (omega (arith, here, e, least, is, none))

pub handles_are_counted : (T W : Type 0) → HandlesAreCounted T W
handles_are_counted T W form views cells senders receivers h side =
    let lie = h.lie in
    record {
      is = lie.handles side;
      lowers = λ p v others there has. at_least_one views side (count_of side senders receivers) p v others (lie.handles side) there has;
      fits = by side;
    }
  where
    by : (side : Side) → count_of side senders receivers < 2 ^ 64
    by Senders = counts_fit Senders h.events _ _ h.order (omega arith)
    by Receivers = counts_fit Receivers h.events _ _ h.order (omega arith)
