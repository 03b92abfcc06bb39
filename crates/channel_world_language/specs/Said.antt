-- What the code's commands stand for.
use Rattle.channel_world_language.specs.Command.{Command, Form, a_name, a_number, a_message, a_new, a_doing, that_is, message, recv_many, send, new, one, same_channel, settle}
use Rattle.channel_world_language.specs.declared.command.Command.{Command as Parsed}
use Rattle.channel_world_language.specs.declared.command.Line.{Line}
use Rattle.channel_world_language.specs.declared.command.Verb.{Verb}

abbrev pub said : Parsed → Command
said (Parsed.Message how sender msg) = message how sender.now msg
said (Parsed.RecvMany receiver limit) = recv_many receiver.now limit
said (Parsed.Send op sender msg) = send op.now sender.now msg
said (Parsed.New what name handle) = new what name.now handle.now
said (Parsed.One what name) = one what name.now
said (Parsed.SameChannel a b) = same_channel a.now b.now

abbrev pub said_line : Line → Command
said_line (Line.Call command) = said command
said_line Line.Settle = settle

-- how the words after a command's first word are read
abbrev pub form_of : Verb → Form Command
form_of (Verb.Message how) = a_message how
form_of Verb.RecvMany = a_name (λ r. a_number (λ n. that_is (recv_many r n)))
form_of Verb.Send = a_name (λ o. a_name (λ s. a_number (λ m. that_is (send o s m))))
form_of (Verb.New what) = a_new what
form_of (Verb.One what) = a_doing what
form_of Verb.SameChannel = a_name (λ a. a_name (λ b. that_is (same_channel a b)))
