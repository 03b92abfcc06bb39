use Rattle.std.specs.Prelude.{◌≡◌, ◌+◌}
use Rattle.channel_world.proofs.Lemmas.{arith, rules, Some, subst, ap, codes, length, refl, lines_of, today, said_line, scene_of, Table, Script, first_scene, opened, followed, replying_first, readable, ending, Done, Memory, GoesOn, refused, stays, stays_by, is_done, goes_on, goes_on_first, followed_more, opened_fits}
use Rattle.channel_world.proofs.script.compose.run_opened.Goals as goal

pub returns-in_err-table : goal.returns-in_err-table
returns-in_err-table c =
    let whole = opened today c.args.capacity (lines_of c.args.text.now) in
    refused whole c.from_residual.result c.args.out.now.items c.args.out.now.items c.from_residual.ensures.0 (stays whole c.args.out.now.items)

pub returns-in_err-add_line : goal.returns-in_err-add_line
returns-in_err-add_line c =
    let whole = opened today c.args.capacity (lines_of c.args.text.now) in
    refused whole c.from_residual-in_err-add_line.result c.args.out.now.items c.add_line.new.out.items c.from_residual-in_err-add_line.ensures.0
    (stays_by whole c.args.out.now.items c.add_line.new.out.items c.in_err-add_line.ensures.err)

pub loop-line-init : goal.loop-line-init
loop-line-init c =
    let lines = lines_of c.args.text.now in
    let whole = opened today c.args.capacity lines in
    let old = c.args.out.now.items in
    let world = c.in-Ok.ensures in
    let names = c.in_ok-table.ensures in
    let scene : scene_of (record { world = c.in-Ok.world; table = c.in_ok-table.table }) ≡ first_scene c.args.capacity = rw (world.world, names) refl in
    record {
      said = goes_on whole _ old old (codes "ok") c.add_line.new.out.items
          (subst (λ (s : Script). GoesOn whole old s old) (opened_fits today c.args.capacity lines _ scene world.fits) (goes_on_first whole old)) c.in_ok-add_line.ensures.ok;
      few = omega (arith, ap (λ (t : Table). length t) names);
      quiet = world.quiet;
    }

pub returns-in_err-obey : goal.returns-in_err-obey
returns-in_err-obey c =
    let out = c.loop-line.out.items in
    refused (opened today c.args.capacity (lines_of c.args.text.now)) c.from_residual-in_err-obey.result c.args.out.now.items out c.from_residual-in_err-obey.ensures.0
    (c.loop-line.invariant.said.on Memory out (stays (followed today (scene_of c.loop-line.scene) c.loop-line.number (lines_of c.loop-line.rest.now)) out))

pub returns-in_err-add_line-2 : goal.returns-in_err-add_line-2
returns-in_err-add_line-2 c =
    let out = c.loop-line.out.items in
    let new = c.add_line-in-Some.new.out.items in
    refused (opened today c.args.capacity (lines_of c.args.text.now)) c.from_residual-in_err-add_line-2.result c.args.out.now.items new c.from_residual-in_err-add_line-2.ensures.0
    (c.loop-line.invariant.said.on Memory new
    (stays_by (followed today (scene_of c.loop-line.scene) c.loop-line.number (lines_of c.loop-line.rest.now)) out new c.in_err-add_line-2.ensures.err))

pub loop-line-preserved : goal.loop-line-preserved
loop-line-preserved c =
    let whole = opened today c.args.capacity (lines_of c.args.text.now) in
    let rest = followed today (scene_of c.obey.new.self) (c.loop-line.number + 1) (lines_of c.in-Some.after.now) in
    let reply = c.obey.new.reply.items in
    let command = said_line c.in-Some-readable.command in
    let says : Some command ≡ readable today c.loop-line.number c.in-Some.line.now = search rules in
    let more : followed today (scene_of c.loop-line.scene) c.loop-line.number (lines_of c.loop-line.rest.now) ≡ replying_first reply rest =
    followed_more today (scene_of c.loop-line.scene) (scene_of c.obey.new.self) c.loop-line.number (lines_of c.loop-line.rest.now) (lines_of c.in-Some.after.now) c.in-Some.line.now reply command c.in-Some.ensures.lines says c.in_ok-obey.ensures.line in
    record {
      said = goes_on whole rest c.args.out.now.items c.loop-line.out.items reply c.add_line-in-Some.new.out.items
          (subst (λ (r : Script). GoesOn whole c.args.out.now.items r c.loop-line.out.items) more c.loop-line.invariant.said)
          (search rules);
      few = omega (arith, c.in_ok-obey.ensures.names, c.loop-line.invariant.few);
      quiet = c.obey.ensures.quiet;
    }

pub returns : goal.returns
returns c =
    let here = followed today (scene_of c.loop-line.scene) c.loop-line.number in
    let none : here (lines_of c.loop-line.rest.now) ≡ ending Done = ap here c.in_default-first_line.ensures.lines in
    let whole = opened today c.args.capacity (lines_of c.args.text.now) in
    let ended : GoesOn whole c.args.out.now.items (ending Done) c.loop-line.out.items =
    subst (λ (r : Script). GoesOn whole c.args.out.now.items r c.loop-line.out.items) none c.loop-line.invariant.said in
    ended.on Done c.loop-line.out.items (is_done c.loop-line.out.items)
