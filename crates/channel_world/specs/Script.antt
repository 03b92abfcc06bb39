-- What a script answers: a reply line for each line, up to the first one that ends it.
use Rattle.std.specs.Prelude.{◌+◌, ◌*◌, ◌/◌, ◌^◌, ◌==◌, ◌∷◌, ◌++◌, if◌then◌else◌}
use Rattle.channel_world.specs.Words.{ℕ, nat_lt, List, [], length, false, not, Option, None, Some, Result, Ok, Err, codes, slice_get, zero, suc, list_all, option_map_or, option_or, State, start, refusal, answer, poll_of, Call, Reply, Language, today, reply_text, wakes_text, refused_text, settle_text, ScriptEnd, Done, Unreadable, Capacity, Memory, Fault, Waiter, WorldRefusal}
use Rattle.channel_world_language.specs.Words.{lines_of}
use Rattle.channel_world_language.specs.Command.{Command, settle, parse, openings}
use Rattle.channel_world_language.specs.declared.command.Opening.{Opening}
use Rattle.channel_world_language.specs.Table.{Table}
use Rattle.channel_world_language.specs.Asked.{used, is_known, is_given_before, with_given, call_of}
use Rattle.channel_world_language.specs.declared.table.Sort.{Sort}

-- ---- one command

-- the channel, and the names of the script
pub record ScriptScene : Type 0 where
  pub state : State ℕ
  pub table : Table

-- what a command leaves, and its reply line
pub record Obeyed : Type 0 where
  pub after : ScriptScene
  pub line : List ℕ

-- why this call of a command is refused whose names live and are of the right sort
abbrev pub why_refused : ScriptScene → Command → Call ℕ → Option WorldRefusal
why_refused scene command c =
    option_or (refusal scene.state c) (if is_given_before scene.table command then Some WorldRefusal.NameTaken else None)

abbrev pub answered : ScriptScene → Command → Call ℕ → Obeyed
answered scene command c =
    let a = answer scene.state c in
    record {
      after = record { state = a.after; table = with_given scene.table command };
      line = reply_text a.reply ++ wakes_text scene.table a.woken;
    }

-- ---- settling

-- at most n polls, with the state after them
abbrev pub settled : ℕ → State ℕ → List (Waiter × Reply ℕ) × State ℕ
settled zero s = ([], s)
settled (suc n) s =
    option_map_or (λ (w : Waiter). let a = answer s (poll_of w) in let rest = settled n a.after in ((w, a.reply) ∷ rest.0, rest.1)) (slice_get s.waiting.woken 0) ([], s)

-- how many wait
abbrev pub waiting_count : State ℕ → ℕ
waiting_count s = length s.waiting.sends + length s.waiting.receives + length s.waiting.streams + length s.waiting.closings + length s.waiting.woken

-- settling is at rest after at most w(w+1)/2 polls, for w that wait
abbrev pub settles : ScriptScene → Obeyed
settles scene =
    let w = waiting_count scene.state in
    let done = settled (w * (w + 1) / 2) scene.state in
    record { after = record scene { state = done.1 }; line = settle_text scene.table done.0 }

-- ---- commands and scripts

-- The call of a command that is not refused; or the first of these reasons why it is: a used name that nothing living has;
-- one of the wrong sort; what the world refuses; a new name that was given before.
abbrev pub checked : ScriptScene → Command → Result (Call ℕ) WorldRefusal
checked scene command =
    if not (list_all (is_known scene.state.names scene.table) (used command)) then Err WorldRefusal.UnknownName
    else option_map_or (λ c. option_map_or (λ w. Err w) (why_refused scene command c) (Ok c)) (call_of scene.table command) (Err WorldRefusal.WrongKind)

-- a refused command changes nothing, and gives no name
abbrev pub obeyed_as : ScriptScene → Command → Result (Call ℕ) WorldRefusal → Obeyed
obeyed_as scene command (Ok c) = answered scene command c
obeyed_as scene command (Err w) = record { after = scene; line = refused_text w }

abbrev pub obeyed : ScriptScene → Command → Obeyed
obeyed scene settle = settles scene
obeyed scene command = obeyed_as scene command (checked scene command)

-- the reply lines of a script, and how it ends
pub record Script : Type 0 where
  pub replies : List (List ℕ)
  pub end : ScriptEnd

abbrev pub ending : ScriptEnd → Script
ending e = record { replies = []; end = e }

abbrev pub replying_first : List ℕ → Script → Script
replying_first line script = record script { replies = line ∷ script.replies }

-- a line past the first 1,000,000 can't be read
abbrev pub readable : Language → ℕ → List ℕ → Option Command
readable language n line = if nat_lt 1000000 n then None else parse language line

-- the rest of a script, whose next line has this number
abbrev pub followed : Language → ScriptScene → ℕ → List (List ℕ) → Script
followed language scene n [] = ending Done
followed language scene n (line ∷ lines) =
    option_map_or (λ command. let o = obeyed scene command in replying_first o.line (followed language o.after (n + 1) lines))
    (readable language n line) (ending (Unreadable n))

-- `s` is the first sender, `r` the first receiver
abbrev pub first_names : Table
first_names = (codes "s", Sort.Handle) ∷ (codes "r", Sort.Handle) ∷ []

-- a channel of this capacity, or of any number of messages, as a script begins
abbrev pub first_scene : Option ℕ → ScriptScene
first_scene size = record { state = start size; table = first_names }

-- past 2^58 there is never memory
abbrev pub opened : Language → Option ℕ → List (List ℕ) → Script
opened language size lines =
    if option_map_or (nat_lt (2 ^ 58)) size false then ending Memory else replying_first (codes "ok") (followed language (first_scene size) 2 lines)

abbrev pub opened_by : Language → Opening → List (List ℕ) → Script
opened_by language Opening.Unbounded lines = opened language None lines
opened_by language (Opening.Bounded capacity) lines = if capacity == 0 then ending Capacity else opened language (Some capacity) lines

abbrev pub script_of_lines : Language → List (List ℕ) → Script
script_of_lines language [] = ending Done
script_of_lines language (line ∷ lines) = option_map_or (λ first. opened_by language first lines) (parse openings line) (ending (Unreadable 1))

-- a script of more bytes is not read to its end
abbrev pub script_in : Language → List ℕ → Script
script_in language input = if nat_lt 16777216 (length input) then ending Fault else script_of_lines language (lines_of input)

abbrev pub script : List ℕ → Script
script input = script_in today input
