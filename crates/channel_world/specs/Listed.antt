-- Messages that a reply lists.
use Rattle.channel_world.specs.Words.{ℕ, List, [], Ok, Reply, Call}

module _ {T : Type 0} where
  abbrev pub listed : Reply T → List T
  listed (Reply.RecvMany (Ok ms)) = ms
  listed r = []

  -- how many the reply of a call lists at most
  abbrev pub most_listed : Call T → ℕ
  most_listed (Call.RecvMany receiver limit) = limit
  most_listed c = 0
