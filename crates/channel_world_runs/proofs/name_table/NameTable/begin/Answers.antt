use Rattle.channel_world_runs.proofs.Lemmas.{sym, ◌∙◌, mints, ok_where_some}
use Rattle.channel_world_runs.proofs.name_table.NameTable.begin.Goals as goal

pub returns-in-Mints-clause-ok : goal.returns-in-Mints-clause-ok
returns-in-Mints-clause-ok g c =
    ok_where_some _ _ _ _ _ c.ok_or.ensures.value
    (λ b started. mints c.args.self.now c.args.call c.in-Mints.field-0 c.in-Mints.from c.in-Mints.new c.in-Mints.kinship (sym c.of.ensures ∙ c.in-Mints.is)
    b c.mint.new.self started) c.mint.ensures.some
