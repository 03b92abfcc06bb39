use Rattle.channel_world.proofs.Words.{List, arith, subst, sym, start, Replays, Receipt}
use Rattle.channel_world.specs.View.{at_rest}
use Rattle.channel_world.proofs.recorded.recording.Recording.new.Goals as goal

pub invariant_of-result : goal.invariant_of-result
invariant_of-result g c =
    let all = c.requires.parts in
    let total = c.open-book.ensures.total in
    let parts = c.open-book.ensures.parts in
    let len = c.new.ensures.len in
    let a = all.0 in
    let b = all.1 in
    let opened = c.requires.opened in (
      c.requires.quiet,
      record {
        replays = subst (λ (rs : List (Receipt g.row.T.Denot)). Replays 0 (start c.args.capacity) rs (at_rest c.args.world)) (sym c.new.ensures.items) opened;
        counted = omega (arith, total, len);
        idle = c.open-book.ensures.amount;
        parts_left = omega (arith, parts, a, b);
        one_each = omega (arith, a, b);
        numbered = omega arith;
        kept = λ some. absurd (omega (arith, some));
      },
    )
