-- What is asked of a channel between two steps.
use Rattle.std.specs.Prelude.{◌≡◌, Bool, true, false, List, []}
use Rattle.channel_calls.specs.Parts.{Parts}
use Rattle.channel_steps.specs.declared.party.Party.{Party}
use Rattle.channel_steps.specs.Configuration.{Configuration, Represents}

module _ {T W : Type 0} where
  abbrev pub IsQuietOrNot : Configuration T W → Bool → Type 0
  IsQuietOrNot s true = s.under_way ≡ []
  IsQuietOrNot s false = s.under_way ≡ [] → ⊥

  -- in every configuration that the cells and the parties show, no call is under way, or one is
  abbrev pub EachConfigurationTellsQuiet : List (Party T W) → Bool → Type 0
  EachConfigurationTellsQuiet parties quiet = (parts : Parts T W) (s : Configuration T W) → Represents parts parties s → IsQuietOrNot s quiet
