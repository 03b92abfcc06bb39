use Rattle.std.proofs.Common.{ap, ◌∙◌, ◌∷◌, arith}
use Rattle.std.specs.Prelude.{Some}
use Rattle.atomic_table.specs.Table.{rest}
use Rattle.keyed_lock.proofs.Steps.{gives_so}
use Rattle.keyed_lock.proofs.word.put_back.Goals as goal

pub swap-requires : goal.swap-requires
swap-requires g c =
    let lock = c.requires.lock in (
      search,
      omega (arith, lock.0, lock.1),
      gives_so g.I.Keeps.keeps c.args.locks.now.key c.args.locks.now.table_id.slots _ c.args.which _ c.args.value lock.0 c.requires.keeps
          (c.exchange-before.ensures.3 ∙ ap (λ m. (m.0, (c.args.which, Some c.args.value) ∷ rest m.1)) c.requires.seat.1),
    )
