-- What the first party of a channel has, and the party of a handle that was made, as it goes to others.
use Rattle.std.proofs.Common.{◌≡◌, ℕ, suc, [], ◌∷◌, List, refl, sym, ap}
use Rattle.concurrent_queue.specs.declared.cells.QueueForm.{QueueForm}
use Rattle.channel_calls.specs.declared.stage.Side.{Side}
use Rattle.channel_calls.specs.declared.stage.Side.TheVariants.{Senders, Receivers}
use Rattle.channel_calls.specs.declared.stage.WaitList.{WaitList}
use Rattle.channel_calls.specs.declared.stage.WaitList.TheVariants.{Sends, Receives, Streams, Closings}
use Rattle.channel_history.specs.CallEnds.{Rests}
use Rattle.channel_history.specs.Machine.{left, new_list, with_list, parts}
use Rattle.channel_history.specs.Party.{nothing, fresh, both, with_own}
use Rattle.channel_history.specs.declared.party.Belongings.{Belongings}
use Rattle.channel_history.specs.declared.party.Standing.{Standing}
use Rattle.channel_cells.specs.Lists.{index_of, lists_at, opening_at, with_handles}

module _ {W : Type 0} where
  abbrev stays_with : ℕ → Belongings W
  stays_with n = record { lists = lists_at n; handles = Senders ∷ Receivers ∷ []; listeners = [] }

  abbrev goes_with : WaitList → Belongings W
  goes_with line = record nothing { lists = (line, new_list) ∷ [] }

module _ {T W : Type 0} (form : QueueForm) where
  -- some of what a party has that has done nothing goes to a new one
  pub new_parts : (a b : Belongings W) (s : Standing T W) → s ≡ with_own (both a b) fresh → parts form s (with_own a fresh) (with_own b fresh)
  new_parts a b s is = (a, b, ap (λ (x : Standing T W). with_own a x) (sym is), refl, ap (λ (x : Standing T W). x.own) is)

  -- so does the last list
  pub list_parts : (line : WaitList) (s : Standing T W) → s ≡ opening_at (suc (index_of line)) → parts form s (opening_at (index_of line)) (with_list line new_list)
  list_parts Sends s is = new_parts (stays_with 0) (goes_with Sends) s is
  list_parts Receives s is = new_parts (stays_with 1) (goes_with Receives) s is
  list_parts Streams s is = new_parts (stays_with 2) (goes_with Streams) s is
  list_parts Closings s is = new_parts (stays_with 3) (goes_with Closings) s is

  -- all that lies with a party goes to a new one
  pub gives_own : (handles : List Side) (s : Standing T W) → Rests handles [] s → parts form s (left s) (with_handles handles)
  gives_own handles s rests = (nothing, record nothing { handles = handles }, refl, refl, rests.1)
