use Rattle.channel_world_runs.proofs.Lemmas.{Option, None, Some, refl, ap, ◌∙◌, Key, drop_asked}
use Rattle.channel_world_runs.proofs.BeginFacts.{drops}
use Rattle.channel_world_runs.proofs.name_table.NameTable.drop_handle.Goals.{in-Some, in-None}
use Rattle.channel_world_runs.proofs.name_table.NameTable.drop_handle.Goals as goal

pub returns : goal.returns
returns g c = rw c.new.ensures (elim c.match-take.branch [
  | in-Some w ↦ drops c.args.self.now c.args.handle (Some w.in-Some.handle_entry) w.in-Some.ensures.found c.match-take.ask _
      (w.ask-is ∙ (w.drop_ask-ask.ensures ∙ ap (λ (key : Option Key). drop_asked {T = g.row.T.Denot} key (Some w.in-Some.handle_entry.handle)) w.key.ensures)) (rw c.take.ensures.rest refl)
  | in-None w ↦ drops c.args.self.now c.args.handle None w.in-None.ensures.found c.match-take.ask _ w.ask-is (rw c.take.ensures.rest refl)
])
