-- `audit` looks at both logs.
use Rattle.std.proofs.Common.{ℕ, List, [], ◌∷◌, sym, refl}
use Rattle.std.proofs.raw_atomic.Walks.{proved}
use mir.Syntax.{a_type, dnil, named}
use mir.Val.{Val, vunit, vptr}
use mir.MapTy.{inst_fn}
use base.Logic.{SProp, emp}
use base.Fml.{Fml, ftrue, fsep, flft}
use types.Kit.{‵, raw, ◌⊛◌, given, ◌$◌, ◌∵◌, !, qed, by, move, keep, drop, split, fsplit, fsplit3, fjoin, fjoin3, learn, use2, rewrite, feq_i}
use types.Run.{unit_lit, of_opd, returns, enter}
use types.ByLocal.{alloc_all, pass_all, free_all, look_at, sets}
use contract.Monad.{fact, fact_i}
use contract.Running.{tables}
use denote.RattleType.{RattleType, owns}
use denote.Signature.{types_at, plain}
use denote.Ref.{mut_vals, mut_Tells}
use denote.Steps.{nothing, opens, closes}
use denote.Param.{param, bounded}
use denote.Triple.Walked.{Stays, stay_ref, walk_of, Goes-ref}
use Rattle.sled_shared.specs.History.{HasAll, history_owns, pen_owns}
use Rattle.sled_shared.specs.contracts.history.History as History
use Rattle.sled_shared.specs.contracts.history.Pen as Pen
use Rattle.sled_shared.proofs.HistorySteps as steps
use Rattle.sled_shared.proofs.HistoryWalks.{ends}
use Rattle.sled_shared.specs.contracts.history.History.audit.{ended, clauses}
use Rattle.sled_shared.specs.contracts.history.History.audit.Key.{name as #self}
use Rattle.sled_shared.proofs.history.History.audit.Statement.{statement}
use Rattle.sled_shared.proofs.history.History.audit.Code as code

pub audit_spec : {M : Type 1} → statement M
audit_spec 𝓤 𝓛 𝓜 𝓡 wired E _ =
    let H = 𝓛.H in let 𝓣 = tables 𝓤 H 𝓜 𝓡 𝓡.env in let E' : RattleType = param 0 E in let En = ended E in let A : RattleType = History.the_row E' in let B : RattleType = Pen.the_row E' in
    let inst = bounded (a_type ∷ []) (E, tt) dnil in let fn = inst_fn inst code.function in let c = clauses E 𝓛 𝓜.mem 𝓡.returns in let cv = E'.coded in
    let hs : Stays En.signature.params En.kept = (stay_ref (0 ∷ []) tt (plain (λ _. A)), (stay_ref (1 ∷ []) tt (plain (λ _. B)), tt)) in
    proved 𝓛 En hs c 𝓜 𝓡 (Goes-ref 𝓛 3 0 tt (plain (λ _. A)), (Goes-ref 𝓛 3 1 tt (plain (λ _. B)), tt)) (#self inst) fn (code.unfolded 𝓤 H 𝓜 𝓡 wired (E, tt))
    (λ κs. (mut_vals, (mut_vals, tt))) (λ κs. (mut_Tells (named 0) κs.0 A, (mut_Tells (named 1) κs.1.0 B, tt))) (λ κs qs bounds a gh are.
    let me = a.0.now in let p = a.1.0.now in let u : Val = vptr a.0.ref_ptr.0 a.0.ref_ptr.1 in let v : Val = vptr a.1.0.ref_ptr.0 a.1.0.ref_ptr.1 in
    let y : (walk_of 𝓛 En hs c).Ghost = ((κs, qs, bounds, a, (u ∷ [], (v ∷ [], tt))), gh) in let Post : Val → SProp 𝓤 = (walk_of 𝓛 En hs c).post y in let toks : Fml = fsep (flft κs.0 qs.0) (fsep (flft κs.1.0 qs.1.0) (fsep (flft κs.1.1.0 qs.1.1.0) ftrue)) in
    qed 𝓛 ((‵ toks ⊛ ‵ (owns (types_at En.signature.params κs) a y.0.4)) ∷ raw (fact 𝓤 _) ∷ given _ (‵ ftrue) ∷ []) ∵ keep ! (2 ∷ 0 ∷ []) $ learn ! (λ asked. drop ! $ split ! $
    fsplit ! $ move ! (1 ∷ []) $ fsplit ! $ move ! (3 ∷ []) $ fsplit ! $ fsplit3 ! $ drop ! $ move ! (2 ∷ []) $ fsplit ! $ fsplit3 ! $ drop ! $ keep ! (3 ∷ 4 ∷ 7 ∷ 0 ∷ 1 ∷ 5 ∷ 6 ∷ []) $
    enter ! 𝓣.C 𝓣.Λ fn (u ∷ v ∷ []) Post $ alloc_all ! (λ l. pass_all ! refl ((tt, tt), ((tt, tt), tt)) $
    opens ! tt A a.0.ref_ptr.0 a.0.ref_ptr.1 (λ cs. move ! (5 ∷ 6 ∷ 7 ∷ []) $ opens ! tt B a.1.0.ref_ptr.0 a.1.0.ref_ptr.1 (λ ds. move ! (1 ∷ []) $ fsplit ! $ move ! (7 ∷ []) $ fsplit ! $ move ! (1 ∷ 3 ∷ []) $
    rewrite ! 1 (λ (n : ℕ). ‵ (pen_owns cv.code n p.number p.seen)) asked refl $
    use2 𝓛 (given (HasAll p.number p.seen me.log) (‵ (history_owns cv.code me.name me.log) ⊛ ‵ (pen_owns cv.code me.name p.number p.seen))) (steps.audits 𝓛 cv me.name p.number me.log p.seen) $ learn ! (λ so. split ! $
    rewrite ! 1 (λ (n : ℕ). ‵ (pen_owns cv.code n p.number p.seen)) (sym asked) refl $
    move ! (2 ∷ 0 ∷ []) $ fjoin ! $ move ! (2 ∷ 1 ∷ []) $ fjoin ! $
    move ! (2 ∷ 0 ∷ 3 ∷ 4 ∷ 5 ∷ []) $ closes ! tt B p ds a.1.0.ref_ptr.0 a.1.0.ref_ptr.1 $ move ! (4 ∷ 3 ∷ 5 ∷ 6 ∷ 7 ∷ []) $ closes ! tt A me cs a.0.ref_ptr.0 a.0.ref_ptr.1 $
    sets ! (of_opd ! (unit_lit !)) refl (tt, tt) $ feq_i ! (List Val) (vunit ∷ []) (vunit ∷ []) refl $ move ! (6 ∷ 7 ∷ []) $ fjoin ! $ move ! (4 ∷ 0 ∷ []) $ fjoin ! $
    nothing ! $ feq_i ! (List Val) (v ∷ []) (v ∷ []) refl $ move ! (0 ∷ 6 ∷ 7 ∷ []) $ fjoin3 ! $ fjoin ! $ feq_i ! (List Val) (u ∷ []) (u ∷ []) refl $ move ! (0 ∷ 4 ∷ 5 ∷ []) $ fjoin3 ! $ fjoin ! $
    returns ! (look_at ! 0 refl) $ free_all ! refl $ keep ! (1 ∷ 0 ∷ 2 ∷ []) $ by ! (ends 𝓛 En hs c y vunit tt (me, (p, tt)) (tt, (tt, tt)) (fact_i 𝓤 _ (emp 𝓤) (refl, refl, so)))))))))
