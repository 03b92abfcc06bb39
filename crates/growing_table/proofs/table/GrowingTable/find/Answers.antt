use Rattle.std.proofs.Common.{◌≡◌, suc, ◌+◌, ◌<◌, ◌≤◌, ◌∙◌, length, sym, refl, ap, subst, arith}
use lib.ListN.{get_elem?}
use Rattle.growing_table.specs.State.{step, count}
use Rattle.growing_table.specs.Laid.{Reaches, plain_me}
use Rattle.growing_table.proofs.Entries.{count_asks, link_asks, link_found}
use Rattle.growing_table.proofs.table.GrowingTable.find.Goals as goal

pub load-found-requires : goal.load-found-requires
load-found-requires g c = count_asks (g.P.GrowingRule.holds c.args.self.now.rows.key.about) c.args.self.now c.args.seat.now.seat c.requires.seat c.args.seat.now.holding g.M.Play.then c.requires.rule

pub load_link-link-requires : goal.load_link-link-requires
load_link-link-requires g c = let t = c.args.self.now in let q = c.requires.seat in let e = c.load-found.ensures in let same = c.entry-at.ensures.same in let r = c.entry-at.result in
    link_asks (g.P.GrowingRule.holds t.rows.key.about) t c.entry-at.new.seat.seat (same.0 ∙ (e.0 ∙ q.0), same.1 ∙ (e.1 ∙ q.1), ap (λ m. m.view.cells) same.3 ∙ (e.3.0.0.1 ∙ q.2)) c.args.number r.row r.index r.link.ptr
    (subst (λ m. Reaches t.cells t.top.ptr m.view.chart.places c.args.number r.row r.link.ptr r.index) (sym same.3) c.entry-at.ensures.entry.0) r.placed c.entry-at.ensures.entry.1

pub invariant_of-result : goal.invariant_of-result
invariant_of-result g c = let t = c.args.self.now in let q = c.requires.seat in let e = c.load-found.ensures in let same = c.entry-at.ensures.same in let r = c.entry-at.result in
    let m = c.load-found.new.seat.me in let many : c.load-found.result + 2 ≡ length m.view.chart.places = e.3.1 in let few : c.load-found.result + 2 ≤ 549755813888 = e.3.2 in let less : c.args.number < c.load-found.result = c.if-number-found.false in
    record {
      placed = (link_found c.entry-at.new.seat.seat.me c.load_link-link.new.seat.me t.top.ptr c.args.number r.row r.index r.link.ptr c.load_link-link.result.ptr
          (subst (λ m'. suc (suc c.args.number) < length m'.view.chart.places) (sym same.3) (omega arith))
          (subst (λ m'. Reaches m'.view.cells t.top.ptr m'.view.chart.places c.args.number r.row r.link.ptr r.index) (sym same.3)
          (subst (λ x. Reaches x t.top.ptr m.view.chart.places c.args.number r.row r.link.ptr r.index) (sym (e.3.0.0.1 ∙ q.2)) c.entry-at.ensures.entry.0))
          c.load_link-link.ensures.3).1;
      small = omega arith;
    }

pub returns-clause-told : goal.returns-clause-told
returns-clause-told g c = let t = c.args.self.now in let q = c.requires.seat in let e = c.load-found.ensures in let same = c.entry-at.ensures.same in let r = c.entry-at.result in
    let m = c.load-found.new.seat.me in let many : c.load-found.result + 2 ≡ length m.view.chart.places = e.3.1 in let less : c.args.number < c.load-found.result = c.if-number-found.false in
    let after : c.load_link-link.new.seat.me ≡ m = c.load_link-link.ensures.3.0 ∙ same.3 in
    let found = (link_found c.entry-at.new.seat.seat.me c.load_link-link.new.seat.me t.top.ptr c.args.number r.row r.index r.link.ptr c.load_link-link.result.ptr
    (subst (λ m'. suc (suc c.args.number) < length m'.view.chart.places) (sym same.3) (omega arith))
    (subst (λ m'. Reaches m'.view.cells t.top.ptr m'.view.chart.places c.args.number r.row r.link.ptr r.index) (sym same.3)
    (subst (λ x. Reaches x t.top.ptr m.view.chart.places c.args.number r.row r.link.ptr r.index) (sym (e.3.0.0.1 ∙ q.2)) c.entry-at.ensures.entry.0))
    c.load_link-link.ensures.3).0 in (
      c.load-found.result,
      subst (λ m'. g.M.Play.then (step count 0 0) (plain_me c.args.seat.now.seat.me) c.load-found.result (plain_me m')) (sym after) e.3.4,
      (less, refl, ap (λ m'. get_elem? m'.view.chart.places (suc (suc c.args.number))) c.load_link-link.ensures.3.0 ∙ found),
    )
