-- From a settling in which no growth was refused, whose polls are written one after another.
use Rattle.std.specs.Prelude.{◌++◌}
use Rattle.channel_world.proofs.Lemmas.{◌∙◌, ap, arith, codes, length, subst, sym, take_all, decimal, polls_in, AreAmple, scene_of, parted}
use Rattle.channel_world.specs.View.{at_rest}
use Rattle.channel_world.proofs.SettleText.{scene_settles, written}
use Rattle.channel_world.proofs.script.scene.Scene.settle.Goals as goal

pub returns-clause-line : goal.returns-clause-line
returns-clause-line c =
    let e = c.in-Ok.ensures in
    let settled = c.in-Ok.settled in
    let few = e.few in
    let polls = c.as_slice-polls.result.now in
    let table = c.args.self.now.table in
    let all = take_all c.loop-k.k polls (omega arith) in
    let text = c.loop-k.invariant.text ∙ (ap (λ ps. codes "polls " ++ decimal (length polls) ++ parted table (polls_in ps)) all ∙ written table polls) in
    let whole = subst (λ ps. AreAmple ps) all c.loop-k.invariant.whole in
    rw (text, c.as_slice-polls.ensures.value)
    (scene_settles (scene_of c.args.self.now) (at_rest c.settle.new.self) settled.items (rw (sym settled.ok.0) few) e.polls
    (rw (sym c.as_slice-polls.ensures.value) whole))
