use Rattle.channel_world_model.proofs.Words.{◌∙◌, ap, sym, Some, nat_eq, set_value, with_changed}
use Rattle.channel_world_model.proofs.DirectoryLemmas.{set_absent, set_twice}
use Rattle.channel_world_model.proofs.directory.Directory.set.Goals.{in-Some+in-Some-1, in-Some+in-None-1, in_default}
use Rattle.channel_world_model.proofs.directory.Directory.set.Goals as goal

pub returns-clause-set : goal.returns-clause-set
returns-clause-set g c =
    let es = c.self.inside.entries.entries in
    let seen = ap (λ l. set_value (nat_eq c.args.name) l (Some c.args.x)) c.self.view_is in
    elim c.match-peek_mut.branch [
      | in-Some+in-Some-1 x ↦ ap (λ i. i.entries.entries) x.self-inside-is ∙ seen
      | in-Some+in-None-1 x ↦ ap (λ i. i.entries.entries) x.self-inside-is ∙ seen
      | in_default x ↦ ap (λ i. i.entries.entries) x.self-inside-is ∙ (sym (set_absent c.args.name es (Some c.args.x) (sym x.in_default.ensures.value)) ∙ seen)
    ]

pub returns-clause-taken : goal.returns-clause-taken
returns-clause-taken g c before e = returns-clause-set g c ∙ (ap (λ es. with_changed c.args.name c.args.x es) e ∙ set_twice c.args.name before _ _)
