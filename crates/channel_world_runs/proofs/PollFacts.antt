-- A poll made alone puts those that it wakes after the names that it was given.
use Rattle.std.specs.Prelude.{◌≡◌, ◌+◌, ◌≤◌, ◌++◌}
use Rattle.channel_world_runs.proofs.Lemmas.{arith, ℕ, Bool, List, length, drop, sym, ap, ◌∙◌, subst, vec_len, vec_capacity, Vec, ChannelAsk, Alone, Call, Waiter, Answered as Done, Represents, asks, parts_in, Stands, IsQuiet, FinishesAlone, WakesAtMost, WakeOrder, Begun, NameTable, WorldState, Sink, has_position, all_heard, room_stays, drop_front}
use Rattle.channel_world_runs.proofs.LoneFacts.{no_parties}

-- what was heard stands behind the names before
pub record Heard (before after : Vec Waiter) : Type 0 where
  pub names : after.items ≡ before.items ++ drop (length before.items) after.items
  pub capacity : vec_capacity before ≤ vec_capacity after

module _ {T : Type 0} where
  pub names_heard : (c : Call T) (old new : WorldState T) (names : NameTable T) (order : WakeOrder) (begun : Begun T) (b : Bool) (before : Vec Waiter)
      (d : Done T) (room : ℕ)
      → FinishesAlone begun b before (record old { name_table = names; order = order }) d new → begun.ask ≡ asks old.name_table c
      → Stands old → IsQuiet old → length before.items + room ≤ vec_capacity before → WakesAtMost room c old → Heard before d.woken
  names_heard c old new names order begun b before d room made asked o quiet enough few =
      let empty : Sink = record { names = before } in
      let full : Sink = record { names = d.woken } in
      let shown = o.stands.shown in
      let r = made.run o.configuration 0 (has_position old o.configuration shown) (subst (λ ps. Represents (parts_in old) ps o.configuration) (no_parties old quiet) shown.shows) in
      let alone : Alone (asks old.name_table c) o.configuration.now r.outcome =
      subst (λ (x : ChannelAsk T Waiter). Alone x o.configuration.now r.outcome) asked r.does in
      let most = few o.configuration r.outcome shown o.stands.kept alone in
      let start : vec_len before ≡ length before.items = before.ok.0 in
      let fits : vec_len before + length r.outcome.woken ≤ vec_capacity before = omega (arith, most, enough, start) in
      let heard = all_heard empty r.outcome.woken full r.woken fits in
      let behind : drop (length before.items) d.woken.items ≡ r.outcome.woken =
      ap (λ (ws : List Waiter). drop (length before.items) ws) heard ∙ drop_front before.items r.outcome.woken in
      record {
        names = heard ∙ ap (λ (ws : List Waiter). before.items ++ ws) (sym behind);
        capacity = room_stays empty r.outcome.woken full r.woken fits;
      }
