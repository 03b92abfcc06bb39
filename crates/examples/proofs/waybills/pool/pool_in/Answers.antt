use Rattle.std.proofs.Common.{rules, ◌*◌}
use Rattle.waybill.proofs.Parts.{made_by_two}
use Rattle.examples.proofs.waybills.pool.pool_in.Goals as goal

pub returns : goal.returns
returns g c = let m = made_by_two (λ job. job * job) _ _ c.args.all.now c.into_passes-took.result.0.received c.into_passes-took_too.result.0.received _ _ c.into_parts-gathered.result.1.items c.learn.ensures.most c.learn-2.ensures.most (search rules) (search rules) (search rules) (search rules) in record { part = m.0; each = m.1 }
