-- An operation on a count, from what the cells of a call asked for.
use Rattle.std.proofs.Common.{◌≡◌, ℕ, ◌-◌, ◌≤◌, ◌^◌, false, refl, sym, subst}
use Rattle.concurrent_queue.specs.declared.cells.QueueForm.{QueueForm}
use Rattle.concurrent_queue.specs.declared.history.rule.CountStep.{CountStep}
use Rattle.concurrent_queue.specs.declared.history.rule.CountStep.TheVariants.{Read, Lower, Raise, Set}
use Rattle.concurrent_queue.specs.declared.history.rule.Counter.{Counter}
use Rattle.channel_calls.specs.Deeds.{raised}
use Rattle.channel_calls.specs.declared.stage.Side.{Side}
use Rattle.channel_calls.specs.declared.stage.Side.TheVariants.{Senders, Receivers}
use Rattle.channel_calls.specs.declared.stage.WaitList.{WaitList}
use Rattle.channel_calls.specs.declared.stage.WaitList.TheVariants.{Sends, Receives, Streams, Closings}
use Rattle.channel_history.proofs.CellActs.{sections_act}
use Rattle.channel_history.specs.Cells.{May, Did}
use Rattle.channel_history.specs.Machine.{Fits, FindsNobody, SetsFlag, counter_of, waiters_of, count_deed, counts_handles, counts, is_refused, turns}
use Rattle.channel_history.specs.Sections.{IsOnCount}
use Rattle.channel_history.specs.declared.party.Standing.{Standing}

module _ {T W : Type 0} (form : QueueForm) (s t : Standing T W) where
  -- which operation on which word it is
  of_handles : (side : Side) (op : CountStep) (n : ℕ) → counts_handles form s t side op n → counts form s t (counter_of side) op n
  of_handles Senders op n h = h
  of_handles Receivers op n h = h

  to_handles : (side : Side) (op : CountStep) (n : ℕ) → counts form s t (counter_of side) op n → counts_handles form s t side op n
  to_handles Senders op n h = h
  to_handles Receivers op n h = h

  pub passes_by : (line : WaitList) → FindsNobody form s t line → counts form s t (waiters_of line) Read 0
  passes_by Sends h = (refl, h)
  passes_by Receives h = (refl, h)
  passes_by Streams h = (refl, h)
  passes_by Closings h = (refl, h)

  pub sets_flag : (line : WaitList) (k n : ℕ) → SetsFlag form s t line k → counts form s t (waiters_of line) (Set k) n
  sets_flag Sends k n h = h
  sets_flag Receives k n h = h
  sets_flag Streams k n h = h
  sets_flag Closings k n h = h

module _ {T W : Type 0} (form : QueueForm) (s : Standing T W) (which : Counter) (side : Side) (is : which ≡ counter_of side) (op : CountStep) where
  on_count : (op : CountStep) (n : ℕ) → IsOnCount (count_deed {T = T} {W = W} side op n)
  on_count Read n = tt
  on_count Lower n = tt
  on_count (Raise k) n = tt
  on_count (Set k) n = tt

  -- it may be made, whatever it finds
  pub may_count : ((n : ℕ) → May form (count_deed side op n) s) → ((n : ℕ) → Fits op n) → (n : ℕ) → (t : Standing T W) × counts form s t which op n
  may_count may fits n =
      let goes = (sections_act T W).count_goes form (count_deed side op n) s (on_count op n) (may n) in
      (goes.0, subst (λ (x : Counter). counts form s goes.0 x op n) (sym is) (of_handles form s goes.0 side op n (goes.1, fits n)))

  -- and it was that deed
  pub counted_so : (t : Standing T W) (n : ℕ) → counts form s t which op n → Did form (count_deed side op n) s t
  counted_so t n made = ((to_handles form s t side op n (subst (λ (x : Counter). counts form s t x op n) is made)).0).1

module _ {T W : Type 0} (form : QueueForm) (s : Standing T W) (side : Side) (k : ℕ) where
  -- one that no word can hold is refused without an operation on the count
  pub refuses : 2 ^ 64 - 1 ≤ k → May form (raised side k false) s → (t : Standing T W) × turns form s t × Did form (raised side k false) s t
  refuses over may =
      let goes = (sections_act T W).count_goes form (raised side k false) s tt may in
      let acts = (sections_act T W).count_acts form (raised side k false) s goes.0 goes.1 in (
        goes.0,
        is_refused side k over acts.0 (λ i. record { lists = acts.1 i; handles = acts.2.0 i; listeners = acts.2.1 i }),
        goes.1.1,
      )
