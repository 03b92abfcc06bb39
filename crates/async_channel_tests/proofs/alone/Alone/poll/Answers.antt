use Rattle.std.proofs.Common.{◌∙◌, inl}
use Rattle.async_channel_tests.proofs.alone.Alone.poll.Goals as goal

-- src/alone.rt:38:5
pub returns : goal.returns
returns c =
    let ran = c.run_alone-done.ensures.alone c.requires.0 (inl c.requires.1) c.requires.2 in
    (ran.outcome.channel.queue, ran.capacity ∙ c.requires.1, ran.at_rest)
