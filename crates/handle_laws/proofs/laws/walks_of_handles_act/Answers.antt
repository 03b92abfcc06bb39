-- From the walk that each clause names.
use Rattle.std.proofs.Common.{ℕ, Ok, Err}
use Rattle.channel_calls.specs.Turns.{leaving}
use Rattle.channel_calls.specs.declared.ask.ChannelAsk.TheVariants.{CloneHandle, Upgrade, RecvMany}
use Rattle.channel_calls.specs.declared.error.Refused.TheVariants.{Plain}
use Rattle.channel_calls.specs.declared.reply.Reply.TheVariants as reply
use Rattle.channel_steps.proofs.every_run.BridgeBlocks.{blocks_in_calls}
use Rattle.handle_laws.specs.Events.{SeveralAct, FillsAct}
use Rattle.handle_laws.proofs.Walks.{walks_act, rested_act, stands_act}
use Rattle.concurrent_queue.specs.Deeds as cell
use Rattle.channel_calls.specs.Deeds.{Deed}
use Rattle.async_channel.specs.Saw.{Saw, SeenOn}
use Rattle.handle_laws.proofs.laws.walks_of_handles_act.Goals as goal

module _ {T W X : Type 0} (did : cell.Deed T → X → X → Type 0) (shown : Deed T W → X → X → Type 0) (entered : ℕ → X → X → Type 0) where
  several : SeveralAct did shown entered
  unfolding SeenOn
  several channel limit s (Ok v) t (here, enters, (kept, walked)) = (here, enters, Ok v.items, kept, walks_act did shown channel.form (RecvMany limit) here (reply.RecvMany (Ok v.items)) kept t walked)
  several channel limit s (Err e) t (here, enters, (kept, walked)) = (here, enters, Err e, kept, walks_act did shown channel.form (RecvMany limit) here (reply.RecvMany (Err e)) kept t walked)

  fills : FillsAct did shown entered
  unfolding SeenOn
  fills channel room before s (Ok n) after t (here, enters, (taken, stands, (count, (kept, walked)))) =
      (here, enters, Ok taken, kept, walks_act did shown channel.form (RecvMany room) here (reply.RecvMany (Ok taken)) kept t walked)
  fills channel room before s (Err e) after t (here, enters, (taken, stands, (none, (kept, walked)))) =
      (here, enters, Err (Plain e), kept, walks_act did shown channel.form (RecvMany room) here (reply.RecvMany (Err (Plain e))) kept t walked)

pub returns : goal.returns
unfolding SeenOn
returns g c =
    let act = walks_act g.S.Trace-2.did g.S.Trace-1.shown in
    record {
      walks = act;
      calls = λ channel ask s r t (here, enters, (kept, walked)). (here, enters, kept, act channel.form ask here r kept t walked);
      polls = λ channel asks s r key t (here, enters, (message, (task, walked))). (here, enters, message, task, act channel.form (asks task) here r (leaving key message) t walked);
      send_polls = λ channel asks s r key message t (here, enters, (task, walked)). (here, enters, task, act channel.form (asks task) here r (leaving key message) t walked);
      clones = λ channel side s t (here, enters, (kept, walked)). (here, enters, kept, act channel.form (CloneHandle side) here reply.Made kept t walked);
      upgrades = λ channel side s t (here, enters, (kept, walked)). (here, enters, kept, act channel.form (Upgrade side) here reply.Made kept t walked);
      several = several g.S.Trace-2.did g.S.Trace-1.shown g.S.Trace-1.entered;
      fills = fills g.S.Trace-2.did g.S.Trace-1.shown g.S.Trace-1.entered;
      blocks = λ channel b task s r kept t (here, enters, blocks). (here, enters, blocks_in_calls (Saw g.S.Trace-2.did g.S.Trace-1.shown channel.form) g.S.Trace-1.parked g.S.Trace-1.slept b task here r kept t blocks);
      rested = rested_act g.S.Trace-2.did g.S.Trace-1.shown g.S.Trace-1.parked g.S.Trace-1.slept;
      stands = stands_act g.S.Trace-2.did g.S.Trace-1.shown g.S.Trace-1.parked g.S.Trace-1.slept;
    }
