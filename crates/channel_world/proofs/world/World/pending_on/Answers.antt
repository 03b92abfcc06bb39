-- From the listeners that wait on the list, each of which stands untold in the line, and from those of the line among the woken.
use Rattle.std.specs.Prelude.{◌≡◌, ◌+◌}
use Rattle.channel_world.proofs.Lemmas.{arith, rules, ◌∙◌, Bool, List, length, ap, inl, subst, sym, length-filter, iter_rest, listeners, parts_in, WorldState, count_of, is_line, line_at, woken_of_line, Waiter, at_rest, names_of, just_it, counted, world_state_of, inside_is}
use Rattle.channel_world.proofs.Polls.{as_many_wait}
use Rattle.channel_world.proofs.world.World.pending_on.Goals as goal

pub returns : goal.returns
returns g c =
    let f = world_state_of c.args.self.now in
    let line = c.args.line in
    let s = at_rest f in
    let wait : c.waiting.result ≡ length (listeners line (parts_in f).wait_lists).waiting =
    subst (λ (x : WorldState g.row.T.Denot). c.waiting.result ≡ length (listeners line (parts_in x).wait_lists).waiting) (inside_is c.self.inside.world_state c.args.self.now c.self.view_is)
    c.waiting.ensures in
    let stand = as_many_wait f c.keeps_names.ensures.stands c.requires.quiet c.a_channel_at_rest_is_a_world.ensures.as_in_the_world line in
    let test : Waiter → Bool = λ w. is_line line (line_at (names_of c.self.inside.world_state.name_table) w) in
    let rest : c.iter.result.rest.now ≡ c.args.woken.now.items = search rules in
    let told : c.count-told.result ≡ woken_of_line line s =
    counted _ test _ _ (ap iter_rest c.filter.ensures.source ∙ rest) c.filter.ensures.closure (λ x b q k. (search rules, search rules)) c.count-told.ensures.ran
    ∙ (sym (length-filter test c.args.woken.now.items)
    ∙ (ap (λ (x : WorldState g.row.T.Denot). count_of (line_at (names_of x.name_table)) line c.args.woken.now.items) (inside_is c.self.inside.world_state c.args.self.now c.self.view_is)
    ∙ ap (λ (ws : List Waiter). count_of (line_at s.names) line ws) c.requires.woken)) in
    just_it _ c.checked_add.result _ (c.waiting.result + c.count-told.result) c.checked_add.ensures (omega (arith, wait, stand, told))

pub count-told-requires-clause-fits : goal.count-told-requires-clause-fits
count-told-requires-clause-fits g c = inl (search rules)
