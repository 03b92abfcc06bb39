use Rattle.channel_history.specs.Machine.{states}
use Rattle.channel_cells.proofs.LastHandle.{last_handle_closes}
use Rattle.channel_cells.proofs.channel.ChannelTable.look.Goals as goal

pub returns-clause-told : goal.returns-clause-told
returns-clause-told g c =
    let v = c.args.seat.now.seat.me.0 in
    let (views, cells, tally, (history, flagged), here, has, stood, once) = c.look.ensures.history (λ never. absurd never) in
    let senders = tally.first in
    let receivers = tally.second in
    let all = states views in
    record {
      views = views;
      cells = cells;
      senders = senders;
      receivers = receivers;
      history = history;
      here = here;
      stood = stood;
      once = once;
      counts = c.handles_are_counted.ensures.counted v.form all cells senders receivers history;
      listeners = c.registrations_are_live.ensures.live v.form all cells senders receivers history;
      run = λ lasts.
          let says = c.histories_are_runs.ensures.runs v.form all cells senders receivers has history lasts in
          let moment = c.each_moment_is_said.ensures.said v.form all cells senders receivers history says in
          record {
            says = says;
            moment = moment;
            last = last_handle_closes v.form all cells senders receivers history says moment;
            accounts = c.histories_are_accounted.ensures.accounted v.form all cells senders receivers history says;
            rest = c.nobody_is_missed_at_rest.ensures.rest v.form all cells senders receivers history says;
          };
    }
