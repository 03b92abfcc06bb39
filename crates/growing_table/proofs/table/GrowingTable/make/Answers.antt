use Rattle.std.proofs.Common.{◌≡◌, ℕ, ◌∙◌, sym, ap, subst}
use Rattle.std.specs.Prelude.{Option, None}
use Rattle.growing_table.specs.State.{Me, Makes, step, count}
use Rattle.growing_table.specs.Laid.{Holding, Reaches, plain_me}
use Rattle.growing_table.proofs.Entries.{count_asks, entry_asks, still}
use Rattle.growing_table.proofs.table.GrowingTable.make.Goals as goal

pub load-number-requires : goal.load-number-requires
load-number-requires g c = let t = c.args.self.now in let s = c.args.seat.now in let holds = g.P.GrowingRule.holds t.rows.key.about in
    count_asks holds t s.seat c.requires.seat.0 s.holding (λ _ m _ n. n ≡ m) (still holds s.seat.id (plain_me s.seat.me))

pub store_link-requires : goal.store_link-requires
store_link-requires g c = let t = c.args.self.now in let q = c.requires.seat in let e = c.load-number.ensures in let same = c.entry-at.ensures.same in let r = c.entry-at.result in
    entry_asks (g.P.GrowingRule.holds t.rows.key.about) t c.entry-at.new.seat.seat (same.0 ∙ (e.0 ∙ q.0.0), same.1 ∙ (e.1 ∙ q.0.1), ap (λ m. m.view.cells) same.3 ∙ (e.3.0.0.1 ∙ q.0.2)) c.load-number.result r.row r.index r.link.ptr c.in_ok-link.link.ptr
    (subst (λ m. Reaches t.cells t.top.ptr m.view.chart.places c.load-number.result r.row r.link.ptr r.index) (sym same.3) c.entry-at.ensures.entry.0) r.placed c.entry-at.ensures.entry.1
    (ap (λ m. m.view.maker) same.3 ∙ (e.3.0.0.2 ∙ q.1)) (ap (λ m. m.view.made) same.3 ∙ (e.3.0.1 ∙ sym (e.3.3 q.1)))

pub lay-requires-clause-seat : goal.lay-requires-clause-seat
lay-requires-clause-seat g c = let q = c.requires.seat in let e = c.load-number.ensures in let same = c.entry-at.ensures.same in let w = c.store_link.ensures in let s = c.entry-at.new.seat in
    (w.0 ∙ (same.0 ∙ (e.0 ∙ q.0.0)), w.1 ∙ (same.1 ∙ (e.1 ∙ q.0.1)), ap (λ m. m.view.cells) w.3 ∙ (ap (λ m. m.view.cells) same.3 ∙ (e.3.0.0.1 ∙ q.0.2)), subst (λ m. Holding m) (sym w.3) s.holding, ap (λ m. m.spare) w.3 ∙ s.bare)

pub lay-requires-clause-rule : goal.lay-requires-clause-rule
lay-requires-clause-rule g c = let t = c.args.self.now in let e = c.load-number.ensures in let same = c.entry-at.ensures.same in let w = c.store_link.ensures in
    let after = ap (λ m. plain_me m) w.3 ∙ (ap (λ m. plain_me m) same.3 ∙ e.3.4) in let id = w.2 ∙ (same.2 ∙ e.2) in
    subst (λ (x : ℕ × Me (Option g.row.T.Denot) g.row.V.Denot). Makes (g.P.GrowingRule.holds t.rows.key.about) t.cells None x.0 x.1 (g.M.Play.then (step count 0 0) x.1)) (λ i. (sym id i, sym after i)) c.requires.rule

pub returns-clause-same : goal.returns-clause-same
returns-clause-same g c = let e = c.load-number.ensures in let same = c.entry-at.ensures.same in let w = c.store_link.ensures in let l = c.lay.ensures.same in (
  (
    l.0 ∙ (w.0 ∙ (same.0 ∙ e.0)),
    l.1 ∙ (w.1 ∙ (same.1 ∙ e.1)),
    l.2 ∙ (w.2 ∙ (same.2 ∙ e.2)),
    l.3.1 ∙ (ap (λ m. m.view.cells) w.3 ∙ (ap (λ m. m.view.cells) same.3 ∙ e.3.0.0.1)),
    λ k p is. l.3.0 k p (ap (λ m. lib.ListN.get_elem? m.view.chart.places k) (w.3) ∙ (ap (λ m. lib.ListN.get_elem? m.view.chart.places k) same.3 ∙ e.3.0.0.0 k p is)),
  ),
  l.3.2 ∙ (ap (λ m. m.view.maker) w.3 ∙ (ap (λ m. m.view.maker) same.3 ∙ e.3.0.0.2)),
)
