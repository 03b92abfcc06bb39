-- What a line of a script says.
use Rattle.std.specs.Prelude.{ℕ, ◌==◌, List, [], ◌∷◌, ◌++◌, length, nat_lt, Option, None, Some, codes, option_and_then, if◌then◌else◌}
use Rattle.std.specs.Str.{bytes_eq}
use Rattle.channel_world_language.specs.Words.{Name, words_of, first_name, first_number}
use Rattle.channel_world_language.specs.declared.command.Opening.{Opening}
use Rattle.channel_world_language.specs.declared.command.Doing.{Doing}
use Rattle.channel_world_language.specs.declared.command.Making.{Making}
use Rattle.channel_world_language.specs.declared.command.Question.{Question}
use Rattle.channel_world_language.specs.declared.command.Sending.{Sending}

-- a command of the language; a new name stands first
pub data Command : Type 0 where
  message : Sending → Name → ℕ → Command
  recv_many : Name → ℕ → Command
  send : Name → Name → ℕ → Command
  new : Making → Name → Name → Command
  one : Doing → Name → Command
  same_channel : Name → Name → Command
  settle : Command

-- ---- how words are read

-- how the words after the first word of a line are read
pub data Form (X : Type 0) : Type 0 where
  that_is : X → Form X
  a_name : (Name → Form X) → Form X
  a_number : (ℕ → Form X) → Form X

-- what the words say, each of which has to be used
abbrev pub read : {X : Type 0} → Form X → List (List ℕ) → Option X
read (that_is x) words = if length words == 0 then Some x else None
read (a_name form) words = option_and_then (λ p. read (form p.0) p.1) (first_name words)
read (a_number form) words = option_and_then (λ p. read (form p.0) p.1) (first_number words)

-- what stands for a word
abbrev pub for_word : {X : Type 0} → List ℕ → List (List ℕ × X) → Option X
for_word word [] = None
for_word word (e ∷ es) = if bytes_eq word e.0 then Some e.1 else for_word word es

-- what these words say, the first of which is to be the word of a form
abbrev pub parsed : {X : Type 0} → List (List ℕ × Form X) → List (List ℕ) → Option X
parsed forms [] = None
parsed forms (word ∷ words) = option_and_then (λ form. read form words) (for_word word forms)

-- what a line of at most 200 bytes says
abbrev pub parse : {X : Type 0} → List (List ℕ × Form X) → List ℕ → Option X
parse forms line = if nat_lt 200 (length line) then None else parsed forms (words_of line)

-- ---- the commands

-- how the words after the first one of a command of one kind are read
abbrev pub a_message : Sending → Form Command
a_message how = a_name (λ s. a_number (λ m. that_is (message how s m)))

abbrev pub a_new : Making → Form Command
a_new what = a_name (λ n. a_name (λ h. that_is (new what n h)))

abbrev pub a_doing : Doing → Form Command
a_doing what = a_name (λ x. that_is (one what x))

-- sends and receives that don't wait, and a receiver polled as a stream
abbrev pub message_commands : List (List ℕ × Form Command)
message_commands =
    (codes "try_send", a_message Sending.Try)
    ∷ (codes "force_send", a_message Sending.Force)
    ∷ (codes "try_recv", a_doing Doing.TryRecv)
    ∷ (codes "recv_many", a_name (λ r. a_number (λ n. that_is (recv_many r n))))
    ∷ (codes "next", a_doing Doing.Next)
    ∷ []

-- polled operations
abbrev pub operation_commands : List (List ℕ × Form Command)
operation_commands =
    (codes "send", a_name (λ o. a_name (λ s. a_number (λ m. that_is (send o s m)))))
    ∷ (codes "recv", a_new Making.Recv)
    ∷ (codes "closed", a_new Making.Closed)
    ∷ (codes "poll", a_doing Doing.Poll)
    ∷ (codes "is_terminated", a_doing Doing.IsTerminated)
    ∷ []

-- handles
abbrev pub handle_commands : List (List ℕ × Form Command)
handle_commands =
    (codes "drop", a_doing Doing.Drop)
    ∷ (codes "close", a_doing Doing.Close)
    ∷ (codes "clone", a_new Making.Clone)
    ∷ (codes "downgrade", a_new Making.Downgrade)
    ∷ (codes "upgrade", a_new Making.Upgrade)
    ∷ (codes "same_channel", a_name (λ a. a_name (λ b. that_is (same_channel a b))))
    ∷ []

-- questions
abbrev pub question_commands : List (List ℕ × Form Command)
question_commands =
    (codes "is_closed", a_doing (Doing.Ask Question.IsClosed))
    ∷ (codes "is_empty", a_doing (Doing.Ask Question.IsEmpty))
    ∷ (codes "is_full", a_doing (Doing.Ask Question.IsFull))
    ∷ (codes "len", a_doing (Doing.Ask Question.Len))
    ∷ (codes "capacity", a_doing (Doing.Ask Question.Capacity))
    ∷ (codes "sender_count", a_doing (Doing.Ask Question.SenderCount))
    ∷ (codes "receiver_count", a_doing (Doing.Ask Question.ReceiverCount))
    ∷ []

-- all that make one call
abbrev pub call_commands : List (List ℕ × Form Command)
call_commands = message_commands ++ operation_commands ++ handle_commands ++ question_commands

-- all commands of the language
abbrev pub all_commands : List (List ℕ × Form Command)
all_commands = call_commands ++ (codes "settle", that_is settle) ∷ []

-- the first line: a channel of a capacity, or of any number of messages
abbrev pub openings : List (List ℕ × Form Opening)
openings = (codes "bounded", a_number (λ n. that_is (Opening.Bounded n))) ∷ (codes "unbounded", that_is Opening.Unbounded) ∷ []
