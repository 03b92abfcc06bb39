use Rattle.channel_calls.specs.Plain.{parts_of}
use Rattle.channel_steps.proofs.StartFacts.{new_shown}
use Rattle.channel_steps.proofs.start.open_channel.Goals as goal

pub returns : goal.returns
returns g c = record { shown = new_shown c.args.form (parts_of c.in_ok-new.field-0) c.new-2.result.items c.in_ok-new.ensures.queue c.in_ok-new.ensures.wait_lists c.new-2.ensures.items }
