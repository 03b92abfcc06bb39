use Rattle.std.proofs.Common.{arith, ◌≡◌, ℕ, suc, ◌+◌, ◌-◌, List, [], ◌∷◌, ◌++◌, length, Some, Ok, Err, refl, sym, ◌∙◌, ap, subst, append_assoc}
use Rattle.std.proofs.lemmas.List.{append-nil}
use Rattle.std.specs.Vec.{vec_len, vec_capacity}
use Rattle.concurrent_queue.specs.Replies.{MayCall}
use Rattle.concurrent_queue.specs.declared.call.QueueReply.{QueueReply}
use Rattle.concurrent_queue.specs.declared.call.QueueReply.TheVariants.{Pop}
use Rattle.concurrent_queue.specs.declared.queue_call.CallState.{CallState}
use Rattle.channel_calls.specs.Asks.{first}
use Rattle.channel_calls.specs.Deeds.{Done, stepped, told}
use Rattle.channel_calls.specs.Filling.{room_in, popped_as}
use Rattle.channel_calls.specs.Walks.{WalkedTo}
use Rattle.channel_calls.specs.declared.ask.ChannelAsk.{ChannelAsk}
use Rattle.channel_calls.specs.declared.ask.ChannelAsk.TheVariants as ask
use Rattle.channel_calls.specs.declared.reply.Reply.TheVariants as reply
use Rattle.channel_calls.specs.declared.stage.Telling.TheVariants.{More}
use Rattle.channel_calls.specs.declared.stage.WaitList.TheVariants.{Sends}
use Rattle.channel_calls.proofs.Gathering as gathering
use Rattle.channel_calls.specs.declared.stage.Purpose.TheVariants.{RecvMany}
use Rattle.channel_calls.proofs.Standing as standing
use Rattle.channel_calls.proofs.filling.recv_many_into.Goals as goal

pub returns-then-before-capacity-clause-deeds : goal.returns-then-before-capacity-clause-deeds
returns-then-before-capacity-clause-deeds g c =
    let did = Done g.C.ChannelCells.did g.S.Wakes.wakes in
    let start : g.row.C.Denot × g.row.S.Denot = (c.args.cells.now, c.args.sink.now) in
    let len = c.len-before.ensures in
    let cap = c.capacity.ensures in
    let full = c.if-before-capacity.true in
    let none : room_in c.args.into.now ≡ 0 = omega (arith, len, cap, full) in (
      [],
      sym (append-nil c.args.into.now.items),
      (
        refl,
        subst (λ (n : ℕ). let a : ChannelAsk g.row.T.Denot g.row.W.Denot = ask.RecvMany n in WalkedTo did (first a) start (reply.RecvMany (Ok [])) start) (sym none) (gathering.none_wanted did start),
      ),
    )

pub loop-init : goal.loop-init
loop-init g c =
    let did = Done g.C.ChannelCells.did g.S.Wakes.wakes in
    let start : g.row.C.Denot × g.row.S.Denot = (c.args.cells.now, c.args.sink.now) in
    let len = c.len-before.ensures in
    let cap = c.capacity.ensures in
    let some = c.if-before-capacity.false in
    let within = c.args.into.now.ok.1 in
    let more : ℕ = room_in c.args.into.now - 1 in
    let room : suc more ≡ room_in c.args.into.now = omega (arith, len, cap, some, within) in
    let fits : vec_len c.args.into.now + suc more ≡ vec_capacity c.args.into.now = omega (arith, len, cap, some, within) in
    let longer : vec_len c.args.into.now ≡ vec_len c.args.into.now + 0 = omega (arith) in
    let begun = gathering.begins did more start c.pop-call.result c.pop-call.ensures.starts c.pop-call.ensures.asked in (
      [],
      more,
      (sym (append-nil c.args.into.now.items), longer, fits, refl, refl, len),
      subst (λ (n : ℕ). gathering.Gathers did n start c.pop-call.result [] more start) room begun,
      λ f has. has,
      λ f has y may. subst (λ (z : CallState g.row.T.Denot). MayCall f z y) c.pop-call.ensures.asked may,
    )

pub loop-preserved-in_default : goal.loop-preserved-in_default
loop-preserved-in_default g c =
    let did = Done g.C.ChannelCells.did g.S.Wakes.wakes in
    let start : g.row.C.Denot × g.row.S.Denot = (c.args.cells.now, c.args.sink.now) in
    let here : g.row.C.Denot × g.row.S.Denot = (c.loop.cells, c.loop.sink) in
    let there : g.row.C.Denot × g.row.S.Denot = (c.step_queue.new.self, c.loop.sink) in
    let i = c.loop.invariant in
    let on = gathering.goes_on did (room_in c.args.into.now) start c.loop.call c.step_queue.new.call i.0 here there i.1 i.3 (c.in_default.ensures.deed, refl) in (
      i.0,
      i.1,
      i.2,
      on,
      λ f has. c.step_queue.ensures.form f (i.4 f has),
      λ f has y may. i.5 f has y ((c.in_default.ensures.answers f (i.4 f has)).0 f y may),
    )

pub returns-then-len-capacity-clause-deeds : goal.returns-then-len-capacity-clause-deeds
returns-then-len-capacity-clause-deeds g c =
    let did = Done g.C.ChannelCells.did g.S.Wakes.wakes in
    let start : g.row.C.Denot × g.row.S.Denot = (c.args.cells.now, c.args.sink.now) in
    let here : g.row.C.Denot × g.row.S.Denot = (c.loop.cells, c.loop.sink) in
    let there : g.row.C.Denot × g.row.S.Denot = (c.step_queue.new.self, c.loop.sink) in
    let end : g.row.C.Denot × g.row.S.Denot = (c.tells.new.cells, c.tells.new.sink) in
    let i = c.loop.invariant in
    let v = c.in-Ok.message in
    let vs = i.0 ++ v ∷ [] in
    let deed = subst (λ (y : QueueReply g.row.T.Denot). did (stepped c.loop.call c.step_queue.new.call (Some y)) here there) c.in-Ok.ensures (c.in-Some-step_queue.ensures.deed, refl) in
    let as_long = i.2.1 in
    let fits = i.2.2 in
    let before = i.2.5 in
    let pushed = c.push_reserved.ensures.len in
    let same = c.push_reserved.ensures.capacity in
    let len = c.len.ensures in
    let cap = c.capacity-in-Ok.ensures in
    let full = c.if-len-capacity.true in
    let last : i.1 ≡ 0 = omega (arith, fits, pushed, same, len, cap, full) in
    let long = gathering.one_longer i.0 v in
    let len_too = c.len-then-len-capacity.ensures in
    let count = c.tells.ensures.count in
    let number : c.len-then-len-capacity.result - c.len-before.result ≡ length vs = omega (arith, long, len_too, pushed, as_long, before) in
    let items = c.push_reserved.ensures.items ∙ (ap (λ (l : List g.row.T.Denot). l ++ v ∷ []) i.2.0 ∙ append_assoc c.args.into.now.items i.0 (v ∷ [])) in
    let heard = c.tells.ensures.deed in (
      vs,
      items,
      (
        count ∙ number,
        gathering.hands did (room_in c.args.into.now) start c.loop.call c.step_queue.new.call i.0 here there i.1 i.3 (Pop (Ok v)) deed vs (gathering.ends_full v i.0 i.1 last) heard.0 end
            (subst (λ (n : ℕ). did (told Sends (More n) heard.0) there end) number heard.1),
      ),
    )

pub loop-preserved : goal.loop-preserved
loop-preserved g c =
    let did = Done g.C.ChannelCells.did g.S.Wakes.wakes in
    let start : g.row.C.Denot × g.row.S.Denot = (c.args.cells.now, c.args.sink.now) in
    let here : g.row.C.Denot × g.row.S.Denot = (c.loop.cells, c.loop.sink) in
    let there : g.row.C.Denot × g.row.S.Denot = (c.step_queue.new.self, c.loop.sink) in
    let i = c.loop.invariant in
    let v = c.in-Ok.message in
    let vs = i.0 ++ v ∷ [] in
    let next = c.pop-call-in-Ok.result in
    let deed = subst (λ (y : QueueReply g.row.T.Denot). did (stepped c.loop.call c.step_queue.new.call (Some y)) here there) c.in-Ok.ensures (c.in-Some-step_queue.ensures.deed, refl) in
    let as_long = i.2.1 in
    let fits = i.2.2 in
    let pushed = c.push_reserved.ensures.len in
    let same = c.push_reserved.ensures.capacity in
    let len = c.len.ensures in
    let cap = c.capacity-in-Ok.ensures in
    let some = c.if-len-capacity.false in
    let less = gathering.fewer i.1 (λ (none : i.1 ≡ 0). omega (arith, none, fits, pushed, same, len, cap, some)) in
    let k = less.0 in
    let step = less.1 in
    let long = gathering.one_longer i.0 v in
    let longer : vec_len c.push_reserved.new.self ≡ vec_len c.args.into.now + length vs = omega (arith, long, pushed, as_long) in
    let fit : vec_len c.push_reserved.new.self + suc k ≡ vec_capacity c.push_reserved.new.self = omega (arith, step, fits, pushed, same) in
    let items = c.push_reserved.ensures.items ∙ (ap (λ (l : List g.row.T.Denot). l ++ v ∷ []) i.2.0 ∙ append_assoc c.args.into.now.items i.0 (v ∷ [])) in
    let gathered = subst (λ (n : ℕ). gathering.Gathers did (room_in c.args.into.now) start c.loop.call i.0 n here) step i.3 in (
      vs,
      k,
      (items, longer, fit, same ∙ i.2.3, c.push_reserved.ensures.in_place ∙ i.2.4, i.2.5),
      gathering.takes did (room_in c.args.into.now) start c.loop.call c.step_queue.new.call i.0 here there k gathered v deed next c.pop-call-in-Ok.ensures.starts c.pop-call-in-Ok.ensures.asked,
      λ f has. c.step_queue.ensures.form f (i.4 f has),
      λ f has y may. subst (λ (z : CallState g.row.T.Denot). MayCall f z y) c.pop-call-in-Ok.ensures.asked may,
    )

pub returns-then-len-before-clause-deeds : goal.returns-then-len-before-clause-deeds
returns-then-len-before-clause-deeds g c =
    let did = Done g.C.ChannelCells.did g.S.Wakes.wakes in
    let start : g.row.C.Denot × g.row.S.Denot = (c.args.cells.now, c.args.sink.now) in
    let here : g.row.C.Denot × g.row.S.Denot = (c.loop.cells, c.loop.sink) in
    let there : g.row.C.Denot × g.row.S.Denot = (c.step_queue.new.self, c.loop.sink) in
    let i = c.loop.invariant in
    let e = c.in-Err.error in
    let deed = subst (λ (y : QueueReply g.row.T.Denot). did (stepped c.loop.call c.step_queue.new.call (Some y)) here there) c.in-Err.ensures (c.in-Some-step_queue.ensures.deed, refl) in
    let as_long = i.2.1 in
    let before = i.2.5 in
    let len = c.len-in-Err.ensures in
    let still = c.if-len-before.true in
    let none : length i.0 ≡ 0 = omega (arith, as_long, before, len, still) in (
      i.0,
      i.2.0,
      (
        gathering.none_of i.0 none,
        gathering.finds_none did (room_in c.args.into.now) start c.loop.call c.step_queue.new.call i.0 here there i.1 i.3 (popped_as (Err e)) deed e (gathering.ends_empty e i.0 i.1 none),
      ),
    )

pub returns-in-Err-clause-deeds : goal.returns-in-Err-clause-deeds
returns-in-Err-clause-deeds g c =
    let did = Done g.C.ChannelCells.did g.S.Wakes.wakes in
    let start : g.row.C.Denot × g.row.S.Denot = (c.args.cells.now, c.args.sink.now) in
    let here : g.row.C.Denot × g.row.S.Denot = (c.loop.cells, c.loop.sink) in
    let there : g.row.C.Denot × g.row.S.Denot = (c.step_queue.new.self, c.loop.sink) in
    let end : g.row.C.Denot × g.row.S.Denot = (c.tells-in-Err.new.cells, c.tells-in-Err.new.sink) in
    let i = c.loop.invariant in
    let e = c.in-Err.error in
    let deed = subst (λ (y : QueueReply g.row.T.Denot). did (stepped c.loop.call c.step_queue.new.call (Some y)) here there) c.in-Err.ensures (c.in-Some-step_queue.ensures.deed, refl) in
    let as_long = i.2.1 in
    let before = i.2.5 in
    let len = c.len-in-Err.ensures in
    let len_too = c.len-in-Err-2.ensures in
    let more = c.if-len-before.false in
    let count = c.tells-in-Err.ensures.count in
    let number : c.len-in-Err-2.result - c.len-before.result ≡ length i.0 = omega (arith, as_long, before, len_too) in
    let heard = c.tells-in-Err.ensures.deed in (
      i.0,
      i.2.0,
      (
        count ∙ number,
        gathering.hands did (room_in c.args.into.now) start c.loop.call c.step_queue.new.call i.0 here there i.1 i.3 (popped_as (Err e)) deed i.0
            (gathering.ends_short e i.0 i.1 (λ (none : length i.0 ≡ 0). omega (arith, none, as_long, before, len, more))) heard.0 end
            (subst (λ (n : ℕ). did (told Sends (More n) heard.0) there end) number heard.1),
      ),
    )

pub step_queue-requires : goal.step_queue-requires
step_queue-requires g c =
    let i = c.loop.invariant in
    let start : g.row.C.Denot × g.row.S.Denot = (c.args.cells.now, c.args.sink.now) in
    let here : g.row.C.Denot × g.row.S.Denot = (c.loop.cells, c.loop.sink) in
    let stands = standing.gathers_at g.C.ChannelCells.stands g.C.ChannelCells.did g.met.C.ChannelCells.leads g.met.C.ChannelCells.rests g.S.Wakes.wakes (room_in c.args.into.now) start c.loop.call i.0 i.1 here c.requires.stands i.3 in
    record { may = standing.step_ready g.C.ChannelCells.stands g.C.ChannelCells.may g.met.C.ChannelCells.ready c.loop.cells c.loop.call (RecvMany (gathering.with_these i.0 i.1)) stands }

pub tells-requires : goal.tells-requires
tells-requires g c =
    let i = c.loop.invariant in
    let start : g.row.C.Denot × g.row.S.Denot = (c.args.cells.now, c.args.sink.now) in
    let here : g.row.C.Denot × g.row.S.Denot = (c.loop.cells, c.loop.sink) in
    let stands = standing.gathers_at g.C.ChannelCells.stands g.C.ChannelCells.did g.met.C.ChannelCells.leads g.met.C.ChannelCells.rests g.S.Wakes.wakes (room_in c.args.into.now) start c.loop.call i.0 i.1 here c.requires.stands i.3 in
    let v = c.in-Ok.message in
    let vs = i.0 ++ v ∷ [] in
    let t = c.step_queue.new.self in
    let deed = subst (λ (y : QueueReply g.row.T.Denot). g.C.ChannelCells.did (stepped c.loop.call c.step_queue.new.call (Some y)) c.loop.cells t) c.in-Ok.ensures c.in-Some-step_queue.ensures.deed in
    let as_long = i.2.1 in
    let fits = i.2.2 in
    let before = i.2.5 in
    let pushed = c.push_reserved.ensures.len in
    let same = c.push_reserved.ensures.capacity in
    let len = c.len.ensures in
    let cap = c.capacity-in-Ok.ensures in
    let full = c.if-len-capacity.true in
    let last : i.1 ≡ 0 = omega (arith, fits, pushed, same, len, cap, full) in
    let long = gathering.one_longer i.0 v in
    let len_too = c.len-then-len-capacity.ensures in
    let number : c.len-then-len-capacity.result - c.len-before.result ≡ length vs = omega (arith, long, len_too, pushed, as_long, before) in
    record { stands = standing.hands_on g.C.ChannelCells.stands g.C.ChannelCells.did g.met.C.ChannelCells.leads g.met.C.ChannelCells.rests c.loop.cells t c.loop.call c.step_queue.new.call (gathering.with_these i.0 i.1) stands (Pop (Ok v)) deed vs (gathering.ends_full v i.0 i.1 last) _ number }

pub tells-requires-in-Err : goal.tells-requires-in-Err
tells-requires-in-Err g c =
    let i = c.loop.invariant in
    let start : g.row.C.Denot × g.row.S.Denot = (c.args.cells.now, c.args.sink.now) in
    let here : g.row.C.Denot × g.row.S.Denot = (c.loop.cells, c.loop.sink) in
    let stands = standing.gathers_at g.C.ChannelCells.stands g.C.ChannelCells.did g.met.C.ChannelCells.leads g.met.C.ChannelCells.rests g.S.Wakes.wakes (room_in c.args.into.now) start c.loop.call i.0 i.1 here c.requires.stands i.3 in
    let e = c.in-Err.error in
    let t = c.step_queue.new.self in
    let deed = subst (λ (y : QueueReply g.row.T.Denot). g.C.ChannelCells.did (stepped c.loop.call c.step_queue.new.call (Some y)) c.loop.cells t) c.in-Err.ensures c.in-Some-step_queue.ensures.deed in
    let as_long = i.2.1 in
    let before = i.2.5 in
    let len = c.len-in-Err.ensures in
    let len_too = c.len-in-Err-2.ensures in
    let more = c.if-len-before.false in
    let number : c.len-in-Err-2.result - c.len-before.result ≡ length i.0 = omega (arith, as_long, before, len_too) in
    let some : length i.0 ≡ 0 → ⊥ = λ none. omega (arith, none, as_long, before, len, more) in
    record { stands = standing.hands_on g.C.ChannelCells.stands g.C.ChannelCells.did g.met.C.ChannelCells.leads g.met.C.ChannelCells.rests c.loop.cells t c.loop.call c.step_queue.new.call (gathering.with_these i.0 i.1) stands (popped_as (Err e)) deed i.0 (gathering.ends_short e i.0 i.1 some) _ number }
