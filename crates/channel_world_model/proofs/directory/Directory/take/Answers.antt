use Rattle.channel_world_model.proofs.Words.{◌∙◌, ap, sym, Option, None, nat_eq, set_value, option_map_or, at, without_name}
use Rattle.channel_world_model.proofs.DirectoryLemmas.{left_alone, set_absent}
use Rattle.channel_world_model.proofs.directory.Directory.take.Goals as goal

pub returns-in_err-peek_mut-clause-rest : goal.returns-in_err-peek_mut-clause-rest
returns-in_err-peek_mut-clause-rest g c =
    sym (set_absent c.args.name c.self.inside.entries.entries None (sym c.in_err-peek_mut.ensures.value)) ∙ ap (without_name c.args.name) c.self.view_is

pub returns-clause-none : goal.returns-clause-none
returns-clause-none g c =
    let es = c.self.inside.entries.entries in
    left_alone c.args.name c.args.self.now _ _ (c.take.ensures.value ∙ (ap (λ (o : Option (Option g.row.X.Denot)). option_map_or (λ (x : Option g.row.X.Denot). x) o None) c.in_ok-peek_mut.ensures.value ∙ ap (at c.args.name) c.self.view_is))
    (ap (set_value (nat_eq c.args.name) es) c.take.ensures.after ∙ ap (without_name c.args.name) c.self.view_is)
