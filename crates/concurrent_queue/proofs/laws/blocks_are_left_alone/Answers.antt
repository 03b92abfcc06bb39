-- From what each call owes to the blocks that it works on.
use Rattle.concurrent_queue.proofs.BlocksTouched.{touched_blocks_are_in_use, blocks_are_given_back_alone}
use Rattle.concurrent_queue.proofs.laws.blocks_are_left_alone.Goals as goal

pub returns : goal.returns
returns g c = record { in_use = touched_blocks_are_in_use; given_back = blocks_are_given_back_alone }
