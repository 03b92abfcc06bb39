use Rattle.channel_history.proofs.Handles as handles
use Rattle.channel_history.proofs.Sections as sections
use Rattle.channel_history.proofs.Keeping as keeping
use Rattle.channel_history.proofs.laws.operations_keep_the_history.Goals as goal

pub returns : goal.returns
returns g c = record { queue = keeping.queue_operations_keep _ _; list = sections.sections_keep _ _; count = handles.count_operations_keep _ _ }
