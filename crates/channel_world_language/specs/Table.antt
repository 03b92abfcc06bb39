-- The names of a script.
use Rattle.std.specs.Prelude.{ℕ, List, [], Option, slice_get, option_and_then}
use Rattle.std.specs.List.{position}
use Rattle.std.specs.Option.{option_map, option_map_or}
use Rattle.std.specs.Str.{bytes_eq}
use Rattle.channel_world_language.specs.Words.{Name}
use Rattle.channel_world_model.specs.declared.name.Waiter.{Waiter}
use Rattle.channel_world_model.specs.declared.name.Waiter.TheVariants.{Op, Stream}
use Rattle.channel_world_language.specs.declared.table.Sort.{Sort}
use Rattle.channel_world_language.specs.declared.table.Named.{Named}

-- All names that accepted lines gave, in order. The place of a name is the number of its handle or operation, so these
-- are numbered together.
abbrev pub Table : Type 0
Table = List (Name × Sort)

-- the number of a name, if it was given
abbrev pub number_in : Table → Name → Option ℕ
number_in table name = position (λ e. bytes_eq name e.0) table

-- the handle, or the operation, of this number
abbrev pub numbered : Sort → ℕ → Named
numbered Sort.Handle n = Named.Handle (record { 0 = n })
numbered Sort.Op n = Named.Op (record { 0 = n })

-- what a name names, if it was given
abbrev pub named_in : Table → Name → Option Named
named_in table name = option_and_then (λ n. option_map (λ e. numbered e.1 n) (slice_get table n)) (number_in table name)

-- the number of one that is woken
abbrev pub waiter_number : Waiter → ℕ
waiter_number (Op op) = op.0
waiter_number (Stream receiver) = receiver.0

-- the name of one that is woken; a stream has its receiver's name
abbrev pub waiter_name : Table → Waiter → Name
waiter_name table w = option_map_or (λ e. e.0) (slice_get table (waiter_number w)) []
