-- Each name was looked for once, and the world asked.
use Rattle.std.specs.Prelude.{◌≡◌}
use Rattle.channel_world.proofs.Lemmas.{true, false, None, rules, refusal, is_given_before, said, scene_of}
use Rattle.channel_world.specs.View.{at_rest}
use Rattle.channel_world.proofs.ScriptNames.{world_refuses, name_is_taken, nothing_refuses}
use Rattle.channel_world.proofs.script.scene.Scene.check.Goals as goal

pub returns-in-Some-refusal-clause-why : goal.returns-in-Some-refusal-clause-why
returns-in-Some-refusal-clause-why c =
    world_refuses (scene_of c.args.self.now) (said c.args.command.now) c.in-Some.call c.in-Some-refusal.why c.in-Some.ensures
    c.in-Some-refusal.ensures

pub returns-then-is_given_before-clause-why : goal.returns-then-is_given_before-clause-why
returns-then-is_given_before-clause-why c =
    let fine : refusal (at_rest c.args.self.now.world) c.in-Some.call ≡ None = search rules in
    let before : is_given_before c.args.self.now.table (said c.args.command.now) ≡ true = search rules in
    name_is_taken (scene_of c.args.self.now) (said c.args.command.now) c.in-Some.call c.in-Some.ensures fine before

pub returns-clause-call : goal.returns-clause-call
returns-clause-call c =
    let fine : refusal (at_rest c.args.self.now.world) c.in-Some.call ≡ None = search rules in
    let new : is_given_before c.args.self.now.table (said c.args.command.now) ≡ false = search rules in
    nothing_refuses (scene_of c.args.self.now) (said c.args.command.now) c.in-Some.call c.in-Some.ensures fine new
