use Rattle.std.proofs.Common.{◌≡◌, rules, subst, sym}
use Rattle.concurrent_queue.specs.Replies.{StateFollows}
use Rattle.concurrent_queue.specs.Stands.{StateReady}
use Rattle.concurrent_queue.specs.Walked.{StateMakes}
use Rattle.concurrent_queue.specs.declared.queue_call.CallState.{CallState}
use Rattle.concurrent_queue.proofs.Standing.{state_ready}
use Rattle.concurrent_queue.proofs.queue_call.QueueCall.step.Goals as goal

pub returns-clause-answers : goal.returns-clause-answers
returns-clause-answers g c =
    let s = c.step_state-stepped.result in
    let e : c.replace-state.result ≡ c.args.self.now.state = search rules in
    let kept : c.replace.new.dest ≡ s.action = search rules in
    subst (λ (x : CallState g.row.T.Denot). StateFollows (g.C.Cells.form_of c.args.cells.now) c.args.self.now.state x s.reply) (sym kept)
    (subst (λ (x : CallState g.row.T.Denot). StateFollows (g.C.Cells.form_of c.args.cells.now) x s.action s.reply) e c.step_state-stepped.ensures.answers)

pub returns-clause-deed : goal.returns-clause-deed
returns-clause-deed g c =
    let did = g.C.Cells.did in
    let form = g.C.Cells.form_of c.args.cells.now in
    let before = c.args.cells.now in
    let after = c.step_state-stepped.new.cells in
    let s = c.step_state-stepped.result in
    let e : c.replace-state.result ≡ c.args.self.now.state = search rules in
    let kept : c.replace.new.dest ≡ s.action = search rules in
    subst (λ (x : CallState g.row.T.Denot). StateMakes did form before c.args.self.now.state after (record { action = x; mark = s.mark; reply = s.reply })) (sym kept)
    (subst (λ (x : CallState g.row.T.Denot). StateMakes did form before x after s) e c.step_state-stepped.ensures.deed)

pub step_state-stepped-requires : goal.step_state-stepped-requires
step_state-stepped-requires g c =
    let k = g.C.Cells in
    let before = c.args.cells.now in
    let e : c.replace-state.result ≡ c.args.self.now.state = search rules in
    record { ready = subst (λ (x : CallState g.row.T.Denot). StateReady k.may (k.form_of before) x before) (sym e) (state_ready k.may k.stands k.form_of g.met.C.Cells.ready before c.args.self.now.state c.requires.stands) }
