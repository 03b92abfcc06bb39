use Rattle.std.proofs.Common.{rules, ◌≡◌, None, Some, Ok, Err, refl}
use Rattle.channel_cells.specs.Channel.{id_of}
use Rattle.async_channel.specs.Counts.{Upgrades}
use Rattle.async_channel.specs.declared.counted.Counted.{Counted}
use Rattle.async_channel.specs.Handles.{handle_of, form_of}
use Rattle.async_channel.specs.Saw.{SeenOn}
use Rattle.async_channel.proofs.Cloned.{as_nobody, as_not_upgraded, as_untied_more, as_upgraded}
use Rattle.async_channel.proofs.Forms.{with_bound, without}
use Rattle.async_channel.proofs.Traces.{upgrade_made, upgrade_none, upgrade_not, on_channel}
use Rattle.async_channel.proofs.counted.Counted.upgraded.Goals as goal

pub returns-in_default-try_clone-clause-walked : goal.returns-in_default-try_clone-clause-walked
unfolding SeenOn
returns-in_default-try_clone-clause-walked g c =
    let enters : g.S.Trace-1.entered (handle_of c.args.link.now).seal c.args.watch c.cells-seen.result.trace = search rules in
    let none : (handle_of c.args.link.now).table ≡ None = search rules in
    without _ _ (handle_of c.args.link.now).table none (c.args.watch, c.cells-seen.result.trace, (c.cells-seen.result.trace, enters, refl))

pub returns-in_default-clause-walked : goal.returns-in_default-clause-walked
returns-in_default-clause-walked g c =
    let table : (handle_of c.args.link.now).table ≡ Some (id_of c.deref.result.now.table) = search rules in
    with_bound _ _ (handle_of c.args.link.now).table (id_of c.deref.result.now.table) table (as_untied_more g.S.Trace-1.called _ g.K.Kind.side (Counted g.row.T.Denot g.row.K.Denot g.K.Kind) c.no_memory.result c.no_memory.ensures.error c.no_memory.ensures.told)

pub returns-in-Ok-Some-clause-walked : goal.returns-in-Ok-Some-clause-walked
returns-in-Ok-Some-clause-walked g c =
    let table : (handle_of c.args.link.now).table ≡ Some (id_of c.deref-in-Bounded.result.now.table) = search rules in
    let some : c.upgrade.result ≡ Ok (Some (c.in-Ok-Some.raised, c.in-Ok-Some.seat)) = search rules in
    with_bound _ _ (handle_of c.args.link.now).table (id_of c.deref-in-Bounded.result.now.table) table (as_upgraded g.S.Trace-1.called _ g.K.Kind.side (Unit {0}) c.upgrade.result _ tt some c.upgrade.ensures.upgraded)

pub returns-in-Ok-None-clause-walked : goal.returns-in-Ok-None-clause-walked
returns-in-Ok-None-clause-walked g c =
    let table : (handle_of c.args.link.now).table ≡ Some (id_of c.deref-in-Bounded.result.now.table) = search rules in
    let nothing : c.upgrade.result ≡ Ok None = search rules in
    with_bound _ _ (handle_of c.args.link.now).table (id_of c.deref-in-Bounded.result.now.table) table (as_nobody g.S.Trace-1.called _ g.K.Kind.side (Unit {0}) c.upgrade.result nothing c.upgrade.ensures.upgraded)

pub returns-in-Err-clause-walked : goal.returns-in-Err-clause-walked
returns-in-Err-clause-walked g c =
    let table : (handle_of c.args.link.now).table ≡ Some (id_of c.deref-in-Bounded.result.now.table) = search rules in
    with_bound _ _ (handle_of c.args.link.now).table (id_of c.deref-in-Bounded.result.now.table) table (as_not_upgraded g.S.Trace-1.called _ g.K.Kind.side (Counted g.row.T.Denot g.row.K.Denot g.K.Kind) c.upgrade.result c.in-Err.error c.in-Err.is c.upgrade.ensures.upgraded)

pub returns-in-Ok-Some-0₀-clause-walked : goal.returns-in-Ok-Some-0₀-clause-walked
returns-in-Ok-Some-0₀-clause-walked g c =
    let is : form_of c.cells-seen.result.cells.shared.now ≡ (handle_of c.args.link.now).form = search rules in
    let enters : g.S.Trace-1.entered (handle_of c.args.link.now).seal c.args.watch c.cells-seen.result.trace = search rules in
    let none : (handle_of c.args.link.now).table ≡ None = search rules in
    let ok : c.upgrade-in-Unbounded.result.0 ≡ Ok (Some c.in-Ok-Some-0₀.raised) = search rules in
    without _ _ (handle_of c.args.link.now).table none (c.args.watch, c.upgrade-in-Unbounded.result.1, upgrade_made g.S.Trace-2.did g.S.Trace-1.shown g.S.Trace-1.entered (handle_of c.args.link.now) (handle_of c.args.link.now) g.K.Kind.side _ _ refl c.upgrade-in-Unbounded.result.0 c.in-Ok-Some-0₀.raised _ ok (on_channel g.S.Trace-2.did g.S.Trace-1.shown g.S.Trace-1.entered (λ saw. Upgrades saw g.K.Kind.side) (handle_of c.args.link.now) (form_of c.cells-seen.result.cells.shared.now) c.args.watch c.cells-seen.result.trace c.upgrade-in-Unbounded.result.0 c.upgrade-in-Unbounded.result.1 is enters c.upgrade-in-Unbounded.ensures.walked))

pub returns-in-Ok-None-0₀-clause-walked : goal.returns-in-Ok-None-0₀-clause-walked
returns-in-Ok-None-0₀-clause-walked g c =
    let is : form_of c.cells-seen.result.cells.shared.now ≡ (handle_of c.args.link.now).form = search rules in
    let enters : g.S.Trace-1.entered (handle_of c.args.link.now).seal c.args.watch c.cells-seen.result.trace = search rules in
    let none : (handle_of c.args.link.now).table ≡ None = search rules in
    let nothing : c.upgrade-in-Unbounded.result.0 ≡ Ok None = search rules in
    without _ _ (handle_of c.args.link.now).table none (c.args.watch, c.upgrade-in-Unbounded.result.1, upgrade_none g.S.Trace-2.did g.S.Trace-1.shown g.S.Trace-1.entered (handle_of c.args.link.now) (handle_of c.args.link.now) g.K.Kind.side _ _ refl _ c.upgrade-in-Unbounded.result.0 nothing (on_channel g.S.Trace-2.did g.S.Trace-1.shown g.S.Trace-1.entered (λ saw. Upgrades saw g.K.Kind.side) (handle_of c.args.link.now) (form_of c.cells-seen.result.cells.shared.now) c.args.watch c.cells-seen.result.trace c.upgrade-in-Unbounded.result.0 c.upgrade-in-Unbounded.result.1 is enters c.upgrade-in-Unbounded.ensures.walked))

pub returns-in-Err-0₀-clause-walked : goal.returns-in-Err-0₀-clause-walked
returns-in-Err-0₀-clause-walked g c =
    let is : form_of c.cells-seen.result.cells.shared.now ≡ (handle_of c.args.link.now).form = search rules in
    let enters : g.S.Trace-1.entered (handle_of c.args.link.now).seal c.args.watch c.cells-seen.result.trace = search rules in
    let none : (handle_of c.args.link.now).table ≡ None = search rules in
    let err : c.upgrade-in-Unbounded.result.0 ≡ Err c.in-Err-0₀.error = search rules in
    without _ _ (handle_of c.args.link.now).table none (c.args.watch, c.upgrade-in-Unbounded.result.1, upgrade_not g.S.Trace-2.did g.S.Trace-1.shown g.S.Trace-1.entered (handle_of c.args.link.now) (handle_of c.args.link.now) g.K.Kind.side _ _ refl _ c.upgrade-in-Unbounded.result.0 c.in-Err-0₀.error err (on_channel g.S.Trace-2.did g.S.Trace-1.shown g.S.Trace-1.entered (λ saw. Upgrades saw g.K.Kind.side) (handle_of c.args.link.now) (form_of c.cells-seen.result.cells.shared.now) c.args.watch c.cells-seen.result.trace c.upgrade-in-Unbounded.result.0 c.upgrade-in-Unbounded.result.1 is enters c.upgrade-in-Unbounded.ensures.walked))
