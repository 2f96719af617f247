-- The machine values of a `Loose`, whose pointer is not followed. Assumes `Logic`.
use Rattle.std.proofs.Common.{◌≡◌, List, [], ◌∷◌, ◌++◌, refl, subst}
use mathlib.Core.Bool.{Bool, true, false, ◌&&◌}
use lib.Dec.{T}
use seplogic.Ra.Ura.{Ura}
use mir.Syntax.{impl, tnil, dnil, ty_ptr}
use mir.Val.{Val, vstruct, of_list, has_ty, WT}
use types.Logic.{Logic}
use types.Kit.{Item, Goal, Seq, Step, step, ‵, ◌$◌, move, drop, fsplit, fjoin, fpick, fpack, feq_i, feq_l}
use denote.RattleType.{RattleType, Valss}
use denote.Builtin.{RawPtr}
use denote.RawPtr.{Ptr, ptr_val}
use denote.Steps.{nothing}
use denote.Param.{layout}
use denote.Param.Laws.{Laws}
use denote.Struct.Struct.{within}
use denote.Struct.Owning.{shape}
use Rattle.core.specs.declared.alloc.Allocator.{Ghosts}
use Rattle.core.proofs.alloc.Calls.{Al, handle_tells}
use Rattle.core.proofs.atomic.Steps.{Ptr-Good}
use Rattle.core.proofs.cell.Inside.{Good}
use Rattle.std_alloc.specs.Box.Ownership.{box_owns}
use Rattle.sled_handle.specs.contracts.loose.Loose as loose

-- a struct of two fields
abbrev pub both : Val → Val → Val
both v w = vstruct (of_list (v ∷ w ∷ []))

-- the first field has its type, and so has the second
both_fit : (first second : Bool) → T first → T second → T (first && (second && true))
both_fit true true _ _ = tt
both_fit true false _ wrong = absurd wrong
both_fit false second wrong _ = absurd wrong

module _ (R Z : RattleType) (L : Laws Z) (g : Ghosts Z.Denot) where
  abbrev pub Loose : RattleType
  Loose = loose.the_row R Z g

  -- what frees the block, of which no call is made
  abbrev freer : Al
  freer = record { row = Z; laws = L; g = g; d = impl [] tnil dnil; drops = impl [] tnil dnil }

  pub loose_fits : (p : Ptr) (h : Val) → Good (layout Z) h → T (has_ty ty_ptr (ptr_val p) && (has_ty (layout Z) h && true)) × WT (both (ptr_val p) h)
  loose_fits p h fits = (both_fit (has_ty ty_ptr (ptr_val p)) (has_ty (layout Z) h) (Ptr-Good p).0 fits.0, ((Ptr-Good p).1, (fits.1, tt)))

  module _ {M : Type 1} {𝓤 : Ura M} {𝓛 : Logic 𝓤} {K : Type 0} {Γ : List (Item 𝓤)} {G : Goal 𝓤 𝓛.H} where
    -- taken apart: what the box owned, what frees its block, and its machine value
    pub loose_out : K → (d : Loose.Denot) (vs : List Val)
        → ((h : Val) → vs ≡ both (ptr_val d.at) h ∷ [] → Good (layout Z) h → Seq K 𝓛 (‵ (box_owns (g.dealloc_token d.alloc) R d.at d.value) ∷ ‵ (Z.own_val d.alloc (h ∷ [])) ∷ Γ) G)
        → Seq K 𝓛 (‵ (Loose.own_val d vs) ∷ Γ) G
    loose_out t d vs rest =
        fsplit t $ fpick t (λ fields.
        fsplit t $ feq_l t (λ is_struct.
        fsplit t $ feq_l t (λ is_pointer.
        fsplit t $ handle_tells freer t d.alloc fields.1.0 (λ h is_freer fits.
        let first = subst (λ (ps : List Val). vs ≡ vstruct (of_list (ps ++ (fields.1.0 ++ []))) ∷ []) is_pointer is_struct in
        -- [what frees the block; nothing; what the box owned]
        move t (1 ∷ []) $ drop t $ move t (1 ∷ []) $
        rest h (subst (λ (us : List Val). vs ≡ vstruct (of_list (ptr_val d.at ∷ (us ++ []))) ∷ []) is_freer first) fits))))

    -- made of these
    pub loose_in : K → (p : Ptr) (h : Val) (a : Z.Denot) (x : R.Denot)
        → Step K 𝓛 (‵ (Loose.own_val (record { at = p; alloc = a; value = x }) (both (ptr_val p) h ∷ [])) ∷ Γ) G
        (‵ (box_owns (g.dealloc_token a) R p x) ∷ ‵ (Z.own_val a (h ∷ [])) ∷ Γ) G
    loose_in t p h a x = step (λ s.
        let v : Val = both (ptr_val p) h in
        nothing t $ move t (2 ∷ 0 ∷ []) $ fjoin t $
        feq_i t (List Val) (ptr_val p ∷ []) (ptr_val p ∷ []) refl $ fjoin t $
        feq_i t (List Val) (v ∷ []) (v ∷ []) refl $ fjoin t $
        fpack t (Valss (RawPtr ∷ Z ∷ [])) (within (shape (loose.the_type R Z g)) (p, (a, tt)) (v ∷ [])) (ptr_val p ∷ [], (h ∷ [], tt)) $ fjoin t $ s)
