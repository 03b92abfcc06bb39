-- The value comes out of the struct.
use Rattle.std.proofs.Common.{◌≡◌, List, [], ◌∷◌, ◌++◌, refl, ap, ◌∙◌}
use Rattle.std.proofs.alloc.Calls.{Goes-blank}
use Rattle.std.proofs.cell.Inside.{one, round, Good-round}
use Rattle.std.proofs.raw_atomic.Walks.{proved_at, leaves}
use mir.Syntax.{a_type}
use mir.Val.{Val, vstruct, of_list}
use mir.MapTy.{inst_fn}
use base.Logic.{SProp, emp}
use prog.Wp.{WpFn}
use contract.Monad.{fact, fact_i}
use contract.Running.{tables}
use types.Kit.{‵, raw, ◌⊛◌, prop, ◌$◌, ◌∵◌, !, qed, by, move, keep, split, fsplit, fjoin, fpick, feq_l, use0, rewrite, regoal}
use types.Part.{sub, whole}
use types.Run.{stop, fld, of_opd, returns, enter}
use types.ByLocal.{alloc_all, pass_all, free_all, look_at, get, get_in, sets}
use denote.Exit.{no}
use denote.RattleType.{RattleType, owns}
use denote.Laws.{Is, shows}
use denote.Signature.{types_at, plain}
use denote.Steps.{nothing, peeks}
use denote.Param.{param, layout, layouts}
use denote.Param.Laws.{param_laws}
use denote.Triple.Entry.{alive}
use denote.Triple.Walked.{Stays, stay_dropped, walk_of}
use Rattle.kept.specs.contracts.Kept.{the_row}
use Rattle.kept.specs.contracts.Kept.into_inner.{ended, clauses}
use Rattle.kept.specs.contracts.Kept.into_inner.Key.{name as #self}
use Rattle.kept.proofs.Kept.into_inner.Statement.{statement}
use Rattle.kept.proofs.Kept.into_inner.Code as code

pub into_inner_spec : {M : Type 1} → statement M
into_inner_spec 𝓤 𝓛 𝓜 𝓡 wired X L =
    let H = 𝓛.H in let 𝓣 = tables 𝓤 H 𝓜 𝓡 𝓡.env in let R : RattleType = param 0 X in let En = ended X in let c = clauses X 𝓛 𝓜.mem 𝓡.returns in
    let inst = layouts (a_type ∷ []) (X, tt) in let fn = inst_fn inst code.function in
    let hs : Stays En.signature.params En.kept = (stay_dropped (plain (λ _. the_row R)) no, tt) in
    proved_at 𝓛 En hs c 𝓜 𝓡 (Goes-blank 𝓛 1 (plain (λ _. the_row R)) no (λ κs x f. tt), tt) (#self inst) fn (code.unfolded 𝓤 H 𝓜 𝓡 wired (X, tt)) (λ y are.
    let x = y.0.3.0.value in let vss = y.0.4 in let Post : Val → SProp 𝓤 = (walk_of 𝓛 En hs c).post y in
    qed 𝓛 ((raw (alive 𝓛 En.signature y.0.0 y.0.1) ⊛ ‵ (owns (types_at En.signature.params y.0.0) y.0.3 vss)) ∷ raw ((c y.0.0 y.0.3).requires y.1) ∷ []) ∵ split ! $ move ! (1 ∷ []) $ fsplit ! $ keep ! (0 ∷ 2 ∷ []) $
    fsplit ! $ keep ! (0 ∷ 2 ∷ []) $ fpick ! (λ uss. fsplit ! $ feq_l ! (λ e. fsplit ! $ keep ! (0 ∷ 2 ∷ []) $
    peeks ! R (Is R) (shows 𝓛 R) x uss.0 (λ is. let got = one (layout X) uss.0 (((param_laws 0 X L).lawful 𝓛).typed x uss.0 is) in let v : Val = got.0 in let good = got.2 in
    let told : vss.0 ≡ round v ∷ [] = e ∙ ap (λ (us : List Val). vstruct (of_list (us ++ [])) ∷ []) got.1 in
    rewrite ! 0 (λ (us : List Val). ‵ (X.own_val x us)) got.1 refl $
    regoal ! (λ (us : List Val). prop (WpFn 𝓤 H 𝓣.C 𝓣.Λ fn us Post)) (λ i. told i ++ []) refl $
    -- [the value; the tokens]
    enter ! 𝓣.C 𝓣.Λ fn (round v ∷ []) Post $ alloc_all ! (λ l. pass_all ! refl (Good-round [] (layout X) v good, tt) $
    sets ! (of_opd ! (get_in ! (fld ! refl (stop !)) (sub ! 0 refl (whole !)))) refl good $ sets ! (of_opd ! (get ! refl)) refl good $
    use0 𝓛 (raw (fact 𝓤 (x ≡ x))) (fact_i 𝓤 (x ≡ x) (emp 𝓤) refl) $ nothing ! $ nothing ! $ fjoin ! $
    returns ! (look_at ! 0 refl) $ free_all ! refl $ keep ! (3 ∷ 0 ∷ 2 ∷ 1 ∷ []) $ by ! (leaves 𝓛 En hs c y v x ((tt, tt), tt) (tt, tt)))))))
