use Rattle.std.proofs.Common.{rules, arith}
use Rattle.std.proofs.lemmas.Option.{slice_get_read}
use Rattle.concurrent_queue.specs.Contents.{with_written}
use Rattle.concurrent_queue.proofs.Slots.{edited}
use Rattle.concurrent_queue.proofs.pool.Pool.set_written.Goals as goal

pub returns-then-at-len-clause-blocks : goal.returns-then-at-len-clause-blocks
returns-then-at-len-clause-blocks g c =
    let blocks = c.args.self.now.blocks in
    let x = c.index_mut.result.now in
    let there = slice_get_read blocks.items blocks.len c.args.block x (omega (arith, blocks.ok.0)) (search rules) c.index_mut.ensures.value in
    edited blocks.items c.args.block x c.set_written.new.self (λ b. with_written b c.args.offset c.args.value) there c.set_written.ensures
