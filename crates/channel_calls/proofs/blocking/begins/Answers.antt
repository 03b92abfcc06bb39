use Rattle.std.proofs.Common.{◌≡◌, None, Ok, Err, refl, sym, ◌∙◌, ap, subst}
use Rattle.channel_calls.specs.Blocks.{waiting_of}
use Rattle.channel_calls.specs.Deeds.{Deed, Done, inserted, taken_off}
use Rattle.channel_calls.specs.Tried.{polled, IsOver}
use Rattle.channel_calls.specs.Turns.{again, line_of, message_of, leaving, refused_reply}
use Rattle.channel_calls.specs.Walks.{WalkedFrom}
use Rattle.channel_calls.specs.declared.blocked.Blocked.{Blocked}
use Rattle.channel_calls.specs.declared.stage.WaitList.{WaitList}
use Rattle.channel_calls.specs.declared.whole.Completed.{Completed}
use Rattle.channel_calls.proofs.BlockedPolls as polls
use Rattle.channel_calls.proofs.blocking.begins.Given.{Over}
use Rattle.channel_calls.proofs.blocking.begins.Goals as goal

pub returns-in-Ok-clause-begins : goal.returns-in-Ok-clause-begins
returns-in-Ok-clause-begins g c =
    polls.begun_over (Done g.C.ChannelCells.did g.S.Wakes.wakes) c.args.call (c.args.cells.now, c.args.sink.now) c.in-Ok.given (c.tries.new.cells, c.tries.new.sink) c.in-Ok.ensures.over c.in-Ok.ensures.comes

-- it is refused a listener
unheard : (g : Over) (c : goal.After-polled g) → c.polled.result ≡ polled (refused_reply (line_of (waiting_of c.args.call)) c.in-Err-insert.error) (message_of (waiting_of c.args.call))
unheard g c =
    polls.unheard_given c.args.call c.in-Err.left c.in-Err.ensures.same c.in-Err-insert.error c.line-line.result c.line-line.ensures c.waiting.result c.waiting.ensures
    c.message-message.result c.message-message.ensures c.refused_reply.result c.refused_reply.ensures c.polled.result c.polled.ensures

pub returns-in-Err-insert-clause-begins : goal.returns-in-Err-insert-clause-begins
returns-in-Err-insert-clause-begins g c task =
    let did = Done g.C.ChannelCells.did g.S.Wakes.wakes in
    let b = c.args.call in
    let e = c.in-Err-insert.error in
    let start : g.row.C.Denot × g.row.S.Denot = (c.args.cells.now, c.args.sink.now) in
    let tried : g.row.C.Denot × g.row.S.Denot = (c.tries.new.cells, c.tries.new.sink) in
    let end : g.row.C.Denot × g.row.S.Denot = (c.insert.new.self, c.tries.new.sink) in
    let line_is : c.line-line.result ≡ line_of (waiting_of b) = c.line-line.ensures ∙ ap (λ (z : Blocked g.row.T.Denot). line_of (waiting_of z)) c.in-Err.ensures.same in
    let deed : did (inserted (line_of (waiting_of b)) (Err e)) tried end =
    subst (λ (line : WaitList). let d : Deed g.row.T.Denot g.row.W.Denot = inserted line (Err e) in did d tried end) line_is (c.in-Err-insert.ensures.deed, refl)
    in
    let turn = again (waiting_of b) None task in
    let walk = polls.comes_ends did turn start (refused_reply (line_of (waiting_of b)) e) (leaving None (message_of (waiting_of b))) end (polls.begun_unheard did b start c.in-Err.left tried c.in-Err.ensures.same c.in-Err.ensures.comes e end deed task) in
    subst (λ (z : Completed g.row.T.Denot). WalkedFrom did turn start z.reply z.kept end) (sym (unheard g c)) walk

pub returns-in-Err-insert-clause-over : goal.returns-in-Err-insert-clause-over
returns-in-Err-insert-clause-over g c = subst (λ (z : Completed g.row.T.Denot). IsOver c.args.call z) (sym (unheard g c)) (polls.unheard_over c.args.call c.in-Err-insert.error)

pub returns-in-Ok-again-clause-begins : goal.returns-in-Ok-again-clause-begins
returns-in-Ok-again-clause-begins g c =
    let did = Done g.C.ChannelCells.did g.S.Wakes.wakes in
    let b = c.args.call in
    let key = c.in-Ok-insert.key in
    let same = c.in-Err.ensures.same in
    let start : g.row.C.Denot × g.row.S.Denot = (c.args.cells.now, c.args.sink.now) in
    let tried : g.row.C.Denot × g.row.S.Denot = (c.tries.new.cells, c.tries.new.sink) in
    let listens : g.row.C.Denot × g.row.S.Denot = (c.insert.new.self, c.tries.new.sink) in
    let twice : g.row.C.Denot × g.row.S.Denot = (c.tries-again.new.cells, c.tries-again.new.sink) in
    let end : g.row.C.Denot × g.row.S.Denot = (c.remove.new.self, c.remove.new.sink) in
    let line_is : c.line-line.result ≡ line_of (waiting_of b) = c.line-line.ensures ∙ ap (λ (z : Blocked g.row.T.Denot). line_of (waiting_of z)) same in
    let deed : did (inserted (line_of (waiting_of b)) (Ok key)) tried listens =
    subst (λ (line : WaitList). let d : Deed g.row.T.Denot g.row.W.Denot = inserted line (Ok key) in did d tried listens) line_is (c.in-Ok-insert.ensures.deed, refl)
    in
    let names = c.remove.ensures.deed.0 in
    let off : did (taken_off (line_of (waiting_of b)) key names) twice end =
    subst (λ (line : WaitList). did (taken_off line key names) twice end) line_is (c.remove.ensures.deed.1, c.remove.ensures.deed.2)
    in
    polls.begun_left did b start c.in-Err.left tried same c.in-Err.ensures.comes key listens deed c.tries-again.result twice
    (subst (λ (z : Blocked g.row.T.Denot). polls.TriesSo did z listens c.tries-again.result twice) same c.tries-again.ensures.comes)
    c.in-Ok-again.given names end c.in-Ok-again.is (subst (λ (z : Blocked g.row.T.Denot). IsOver z c.in-Ok-again.given) same c.in-Ok-again.ensures.over) off

pub returns-in-Err-again-clause-begins : goal.returns-in-Err-again-clause-begins
returns-in-Err-again-clause-begins g c =
    let did = Done g.C.ChannelCells.did g.S.Wakes.wakes in
    let b = c.args.call in
    let key = c.in-Ok-insert.key in
    let same = c.in-Err.ensures.same in
    let start : g.row.C.Denot × g.row.S.Denot = (c.args.cells.now, c.args.sink.now) in
    let tried : g.row.C.Denot × g.row.S.Denot = (c.tries.new.cells, c.tries.new.sink) in
    let listens : g.row.C.Denot × g.row.S.Denot = (c.insert.new.self, c.tries.new.sink) in
    let twice : g.row.C.Denot × g.row.S.Denot = (c.tries-again.new.cells, c.tries-again.new.sink) in
    let line_is : c.line-line.result ≡ line_of (waiting_of b) = c.line-line.ensures ∙ ap (λ (z : Blocked g.row.T.Denot). line_of (waiting_of z)) same in
    let deed : did (inserted (line_of (waiting_of b)) (Ok key)) tried listens =
    subst (λ (line : WaitList). let d : Deed g.row.T.Denot g.row.W.Denot = inserted line (Ok key) in did d tried listens) line_is (c.in-Ok-insert.ensures.deed, refl)
    in
    polls.begun_listens did b start c.in-Err.left tried same c.in-Err.ensures.comes key listens deed c.tries-again.result twice
    (subst (λ (z : Blocked g.row.T.Denot). polls.TriesSo did z listens c.tries-again.result twice) same c.tries-again.ensures.comes)
    c.in-Err-again.left c.in-Err-again.is (c.in-Err-again.ensures.same ∙ same)

pub insert-requires : goal.insert-requires
insert-requires g c = record { may = λ o. g.met.C.Sleeps.free.1 _ _ }

pub remove-requires : goal.remove-requires
remove-requires g c = record { may = λ names. g.met.C.Sleeps.free.1 _ _ }
