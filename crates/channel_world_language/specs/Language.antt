-- What of the language of scripts can be read.
use Rattle.std.specs.Prelude.{ℕ, List}
use Rattle.channel_world_language.specs.Command.{Command, Form, all_commands}

-- the words of its commands, each with how the words after it are read
abbrev pub Language : Type 0
Language = List (List ℕ × Form Command)

-- all of it can be read
abbrev pub today : Language
today = all_commands
