use Rattle.queue_history.proofs.conclusions.conclude.Goals as goal

pub returns : goal.returns
returns g c =
    record {
      concluded = λ told. c.parties_conclude.ensures.concluded _ _ (c.looks_are_of_one_history.ensures.told _ (c.look.ensures.run told) c.requires.replied);
      kept = c.look.ensures.kept;
    }
