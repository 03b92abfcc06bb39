use Rattle.std.proofs.Common.{rules, ◌≡◌, None, Some, Ok, Err, refl}
use Rattle.channel_cells.specs.Channel.{id_of}
use Rattle.async_channel.specs.Counts.{Clones}
use Rattle.async_channel.specs.declared.counted.Counted.{Counted}
use Rattle.async_channel.specs.Handles.{handle_of, form_of}
use Rattle.async_channel.specs.Saw.{SeenOn}
use Rattle.async_channel.proofs.Cloned.{as_cloned, as_refused, as_untied}
use Rattle.async_channel.proofs.Forms.{with_bound, without}
use Rattle.async_channel.proofs.Traces.{clone_made, clone_not, on_channel}
use Rattle.async_channel.proofs.counted.Counted.one_more.Goals as goal

pub returns-in_default-try_clone-clause-walked : goal.returns-in_default-try_clone-clause-walked
unfolding SeenOn
returns-in_default-try_clone-clause-walked g c =
    let enters : g.S.Trace-1.entered (handle_of c.args.link.now).seal c.args.watch c.cells-seen.result.trace = search rules in
    let none : (handle_of c.args.link.now).table ≡ None = search rules in
    without _ _ (handle_of c.args.link.now).table none (c.args.watch, c.cells-seen.result.trace, (c.cells-seen.result.trace, enters, refl))

pub returns-in_default-clause-walked : goal.returns-in_default-clause-walked
returns-in_default-clause-walked g c =
    let table : (handle_of c.args.link.now).table ≡ Some (id_of c.deref.result.now.table) = search rules in
    with_bound _ _ (handle_of c.args.link.now).table (id_of c.deref.result.now.table) table (as_untied g.S.Trace-1.called _ g.K.Kind.side (Counted g.row.T.Denot g.row.K.Denot g.K.Kind) c.no_memory.result c.no_memory.ensures.error c.no_memory.ensures.told)

pub returns-in-Ok-clone_handle-clause-walked : goal.returns-in-Ok-clone_handle-clause-walked
returns-in-Ok-clone_handle-clause-walked g c =
    let table : (handle_of c.args.link.now).table ≡ Some (id_of c.deref-in-Bounded.result.now.table) = search rules in
    with_bound _ _ (handle_of c.args.link.now).table (id_of c.deref-in-Bounded.result.now.table) table (as_cloned g.S.Trace-1.called _ g.K.Kind.side (Unit {0}) c.clone_handle.result _ tt c.in-Ok-clone_handle.is c.clone_handle.ensures.cloned)

pub returns-in-Err-clause-walked : goal.returns-in-Err-clause-walked
returns-in-Err-clause-walked g c =
    let table : (handle_of c.args.link.now).table ≡ Some (id_of c.deref-in-Bounded.result.now.table) = search rules in
    with_bound _ _ (handle_of c.args.link.now).table (id_of c.deref-in-Bounded.result.now.table) table (as_refused g.S.Trace-1.called _ g.K.Kind.side (Counted g.row.T.Denot g.row.K.Denot g.K.Kind) c.clone_handle.result c.in-Err.error c.in-Err.is c.clone_handle.ensures.cloned)

pub returns-in-Ok-0₀-clause-walked : goal.returns-in-Ok-0₀-clause-walked
returns-in-Ok-0₀-clause-walked g c =
    let is : form_of c.cells-seen.result.cells.shared.now ≡ (handle_of c.args.link.now).form = search rules in
    let enters : g.S.Trace-1.entered (handle_of c.args.link.now).seal c.args.watch c.cells-seen.result.trace = search rules in
    let none : (handle_of c.args.link.now).table ≡ None = search rules in
    let ok : c.clone_handle-in-Unbounded.result.0 ≡ Ok c.in-Ok-0₀.raised = search rules in
    without _ _ (handle_of c.args.link.now).table none (c.args.watch, c.clone_handle-in-Unbounded.result.1, clone_made g.S.Trace-2.did g.S.Trace-1.shown g.S.Trace-1.entered (handle_of c.args.link.now) (handle_of c.args.link.now) g.K.Kind.side _ _ refl c.clone_handle-in-Unbounded.result.0 c.in-Ok-0₀.raised _ ok (on_channel g.S.Trace-2.did g.S.Trace-1.shown g.S.Trace-1.entered (λ saw. Clones saw g.K.Kind.side) (handle_of c.args.link.now) (form_of c.cells-seen.result.cells.shared.now) c.args.watch c.cells-seen.result.trace c.clone_handle-in-Unbounded.result.0 c.clone_handle-in-Unbounded.result.1 is enters c.clone_handle-in-Unbounded.ensures.walked))

pub returns-in-Err-0₀-clause-walked : goal.returns-in-Err-0₀-clause-walked
returns-in-Err-0₀-clause-walked g c =
    let is : form_of c.cells-seen.result.cells.shared.now ≡ (handle_of c.args.link.now).form = search rules in
    let enters : g.S.Trace-1.entered (handle_of c.args.link.now).seal c.args.watch c.cells-seen.result.trace = search rules in
    let none : (handle_of c.args.link.now).table ≡ None = search rules in
    let err : c.clone_handle-in-Unbounded.result.0 ≡ Err c.in-Err-0₀.error = search rules in
    without _ _ (handle_of c.args.link.now).table none (c.args.watch, c.clone_handle-in-Unbounded.result.1, clone_not g.S.Trace-2.did g.S.Trace-1.shown g.S.Trace-1.entered (handle_of c.args.link.now) (handle_of c.args.link.now) g.K.Kind.side _ _ refl _ c.clone_handle-in-Unbounded.result.0 c.in-Err-0₀.error err (on_channel g.S.Trace-2.did g.S.Trace-1.shown g.S.Trace-1.entered (λ saw. Clones saw g.K.Kind.side) (handle_of c.args.link.now) (form_of c.cells-seen.result.cells.shared.now) c.args.watch c.cells-seen.result.trace c.clone_handle-in-Unbounded.result.0 c.clone_handle-in-Unbounded.result.1 is enters c.clone_handle-in-Unbounded.ensures.walked))
