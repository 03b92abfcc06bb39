-- The state between two calls, when calls are made one at a time.
use Rattle.std.specs.Prelude.{◌∷◌}
use Rattle.channel_world_model.specs.Words.{ℕ, [], Option, Some, ModelChannel, opened_model, Handle, Sender, Receiver}
use Rattle.channel_world_model.specs.Names.{Names, Directory}
use Rattle.channel_world_model.specs.Lines.{Waiting, nobody}

pub record State (T : Type 0) : Type 0 where
  pub channel : ModelChannel T
  pub names : Names T
  pub waiting : Waiting

-- handle 0 is the first sender, handle 1 the first receiver; nobody borrows them
abbrev pub first_two_handles : Directory Handle
first_two_handles = (1, Some (record { kind = Receiver; borrowers = 0 })) ∷ (0, Some (record { kind = Sender; borrowers = 0 })) ∷ []

-- as a channel of this capacity is opened
abbrev pub start : {T : Type 0} → Option ℕ → State T
start capacity = record {
  channel = opened_model capacity;
  names = record { handles = first_two_handles; operations = [] };
  waiting = nobody;
}

abbrev pub with_channel : {T : Type 0} → ModelChannel T → State T → State T
with_channel c s = record s { channel = c }

abbrev pub with_names : {T : Type 0} → Names T → State T → State T
with_names names s = record s { names = names }

abbrev pub with_waiting : {T : Type 0} → Waiting → State T → State T
with_waiting waiting s = record s { waiting = waiting }
