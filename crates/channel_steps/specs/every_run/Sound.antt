-- All that every run keeps of those that wait.
use Rattle.channel_steps.specs.Configuration.{Configuration}
use Rattle.channel_steps.specs.every_run.Closings.{ClosingSound}
use Rattle.channel_steps.specs.every_run.Notices.{TellingsFit}
use Rattle.channel_steps.specs.every_run.Over.{EndSound}
use Rattle.channel_steps.specs.every_run.Receives.{ReceivesSound}
use Rattle.channel_steps.specs.every_run.Sends.{SendsSound}
use Rattle.channel_steps.specs.every_run.Streams.{StreamsSound}
use Rattle.channel_steps.specs.every_run.Unlisted.{SendsUnlisted}

module _ {T W : Type 0} where
  -- nobody that waits is forgotten, whatever it waits for, those that are told were told as they may be, what is over stays so, and without
  -- a bound no send listens
  pub record WakeInvariant (s : Configuration T W) : Type 0 where
    pub streams : StreamsSound s
    pub closing : ClosingSound s
    pub receives : ReceivesSound s
    pub sends : SendsSound s
    pub tellings : TellingsFit s
    pub ends : EndSound s
    pub unlisted : SendsUnlisted s
