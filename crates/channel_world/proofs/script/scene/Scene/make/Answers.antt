use Rattle.std.specs.Prelude.{◌≡◌, ◌++◌}
use Rattle.channel_world.proofs.Lemmas.{List, ℕ, ap, ◌∙◌, refl, rules, answer, with_given, said, reply_text, wakes_text, is_ample}
use Rattle.channel_world.specs.View.{at_rest}
use Rattle.channel_world.proofs.script.scene.Scene.make.Goals as goal

pub returns-clause-line : goal.returns-clause-line
returns-clause-line c =
    let done = c.in-Ok.done in
    let is : record { after = at_rest c.answer.new.self; reply = done.reply; woken = done.woken.items } ≡ answer (at_rest c.args.self.now.world) c.args.call
    = is_ample (at_rest c.args.self.now.world) c.args.call _ c.in-Ok.ensures.ok c.in_ok-add_answer.ensures.whole in
    let world : c.give.new.self.world ≡ c.answer.new.self = search rules in
    let table : c.give.new.self.table ≡ with_given c.args.self.now.table (said c.args.command.now) = search rules in
    let line : c.add_answer.new.line.items ≡ reply_text done.reply ++ wakes_text c.args.self.now.table done.woken.items =
    c.in_ok-add_answer.ensures.text ∙ ap (λ (l : List ℕ). l ++ reply_text done.reply ++ wakes_text c.args.self.now.table done.woken.items) c.clear.ensures.items in
    rw (← is, world, table, line) refl
