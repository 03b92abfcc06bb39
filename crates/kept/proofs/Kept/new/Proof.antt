-- The value goes into the struct.
use Rattle.std.proofs.Common.{◌≡◌, List, [], ◌∷◌, ◌++◌, refl}
use Rattle.std.proofs.cell.Inside.{one, round, Good-round}
use Rattle.std.proofs.raw_atomic.Walks.{proved_at, leaves}
use mir.Syntax.{a_type}
use mir.Val.{Val, vstruct, of_list}
use mir.MapTy.{inst_fn}
use base.Logic.{SProp, emp}
use base.Fml.{fsep, feq}
use prog.Wp.{WpFn}
use contract.Monad.{fact, fact_i}
use contract.Running.{tables}
use types.Kit.{‵, raw, ◌⊛◌, prop, ◌$◌, ◌∵◌, !, qed, by, move, keep, split, fsplit, fjoin, fpack, use0, rewrite, regoal, feq_i}
use types.Part.{agg}
use types.Run.{of_opd, no_more, and_then, returns, enter}
use types.ByLocal.{alloc_all, pass_all, free_all, look_at, get, sets}
use denote.Exit.{no}
use denote.RattleType.{RattleType, Valss, owns}
use denote.Signature.{types_at, plain}
use denote.Steps.{nothing}
use denote.Param.{param, layout, layouts}
use denote.Param.Laws.{param_laws}
use denote.Triple.Entry.{alive}
use denote.Triple.Walked.{Stays, stay_dropped, walk_of, Goes-dropped}
use Rattle.kept.specs.contracts.Kept.{the_row}
use Rattle.kept.specs.contracts.Kept.new.{ended, clauses}
use Rattle.kept.specs.contracts.Kept.new.Key.{name as #self}
use Rattle.kept.proofs.Kept.new.Statement.{statement}
use Rattle.kept.proofs.Kept.new.Code as code

pub new_spec : {M : Type 1} → statement M
new_spec 𝓤 𝓛 𝓜 𝓡 wired X L =
    let H = 𝓛.H in let 𝓣 = tables 𝓤 H 𝓜 𝓡 𝓡.env in let R : RattleType = param 0 X in let En = ended X in let c = clauses X 𝓛 𝓜.mem 𝓡.returns in
    let inst = layouts (a_type ∷ []) (X, tt) in let fn = inst_fn inst code.function in
    let hs : Stays En.signature.params En.kept = (stay_dropped (plain (λ _. R)) no, tt) in
    proved_at 𝓛 En hs c 𝓜 𝓡 (Goes-dropped 𝓛 1 (plain (λ _. R)) no (λ κs x f. refl), tt) (#self inst) fn (code.unfolded 𝓤 H 𝓜 𝓡 wired (X, tt)) (λ y are.
    let x = y.0.3.0 in let vss = y.0.4 in let Post : Val → SProp 𝓤 = (walk_of 𝓛 En hs c).post y in
    let got = one (layout X) vss.0 (((param_laws 0 X L).lawful 𝓛).typed x vss.0 are.0) in let v : Val = got.0 in let good = got.2 in
    let k : (the_row R).Denot = record { value = x } in
    qed 𝓛 ((raw (alive 𝓛 En.signature y.0.0 y.0.1) ⊛ ‵ (owns (types_at En.signature.params y.0.0) y.0.3 vss)) ∷ raw ((c y.0.0 y.0.3).requires y.1) ∷ []) ∵ split ! $ move ! (1 ∷ []) $ fsplit ! $ keep ! (0 ∷ 2 ∷ []) $
    rewrite ! 0 (λ (us : List Val). ‵ (X.own_val x us)) got.1 refl $
    regoal ! (λ (us : List Val). prop (WpFn 𝓤 H 𝓣.C 𝓣.Λ fn us Post)) (λ i. got.1 i ++ []) refl $
    -- [the value; the tokens]
    nothing ! $ move ! (1 ∷ 0 ∷ []) $ fjoin ! $ feq_i ! (List Val) (round v ∷ []) (round v ∷ []) refl $ fjoin ! $
    fpack ! (Valss (R ∷ [])) (λ us. fsep (feq (List Val) (round v ∷ []) (vstruct (of_list (us.0 ++ [])) ∷ [])) (owns (R ∷ []) (x, tt) us)) (v ∷ [], tt) $ nothing ! $ move ! (1 ∷ 0 ∷ []) $ fjoin ! $
    enter ! 𝓣.C 𝓣.Λ fn (v ∷ []) Post $ alloc_all ! (λ l. pass_all ! refl (good, tt) $
    sets ! (of_opd ! (get ! refl)) refl good $ sets ! (agg ! (and_then ! (get ! refl) (no_more !))) refl (Good-round [] (layout X) v good) $
    use0 𝓛 (raw (fact 𝓤 (x ≡ x))) (fact_i 𝓤 (x ≡ x) (emp 𝓤) refl) $ nothing ! $ nothing ! $ fjoin ! $
    returns ! (look_at ! 0 refl) $ free_all ! refl $ keep ! (3 ∷ 0 ∷ 2 ∷ 1 ∷ []) $ by ! (leaves 𝓛 En hs c y (round v) k (tt, tt) (tt, tt))))
