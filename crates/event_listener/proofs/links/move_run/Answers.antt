use Rattle.std.proofs.Common.{Some, refl, sym, ◌∙◌}
use Rattle.event_listener.proofs.ChainLemmas.{Chains-none, Chains-nobody, Chains-run}
use Rattle.event_listener.proofs.WriteLemmas.{Moves-by}
use Rattle.event_listener.proofs.links.move_run.Goals as goal

pub returns-in_default-clause-chains : goal.returns-in_default-clause-chains
returns-in_default-clause-chains g c = λ ks front back le ne h. Chains-none ks front back (sym c.in_default.is-1 ∙ le) h

pub returns-in_default-2-clause-chains : goal.returns-in_default-2-clause-chains
returns-in_default-2-clause-chains g c = λ ks front back le ne h. Chains-nobody ks front back c.in_default.is-0 h

pub returns-clause-chains : goal.returns-clause-chains
returns-clause-chains g c = λ ks front back le ne h.
    Chains-run ks front back c.in-Some-Some.is-0 (sym c.in-Some-Some.is-1 ∙ le) ne h
    (λ other apart. Moves-by c.args.told.now c.set_after.new.ends (record c.set_after.new.ends { last = Some c.in-Some-Some.last }) c.args.waiting.now c.set_before.new.ends (record c.set_before.new.ends { first = c.args.next }) c.args.nodes.now.slab c.set_before.new.nodes.slab c.set_after.new.nodes.slab c.set_outer.new.nodes.slab c.in-Some-Some.first c.in-Some-Some.last c.args.next other apart
    c.set_before.ensures.before c.set_before.ensures.others c.set_before.ensures.after
    c.set_after.ensures.after c.set_after.ensures.others c.set_after.ensures.before
    c.set_outer.ensures.before c.set_outer.ensures.before_others c.set_outer.ensures.after c.set_outer.ensures.after_others
    refl refl refl refl)
