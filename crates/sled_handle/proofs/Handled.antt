-- The machine values of a `Handle`. Assumes `Logic`.
use Rattle.std.proofs.Common.{◌≡◌, List, [], ◌∷◌, ◌++◌, refl, subst}
use Rattle.std.specs.Prelude.{Option, None, Some}
use mathlib.Core.Bool.{Bool, true, false}
use seplogic.Ra.Ura.{Ura}
use mir.Syntax.{ty_ptr, impl, tnil, dnil, Dict}
use mir.Val.{Val, vbool, vstruct, of_list, has_ty}
use types.Logic.{Logic}
use types.Kit.{Item, Goal, Seq, Step, step, ‵, ◌$◌, drop, fsplit, fjoin, fpick, fpack, feq_i, feq_l}
use denote.RattleType.{RattleType, Valss}
use denote.Builtin.{RawPtr, bool}
use denote.RawPtr.{Ptr, ptr_val}
use denote.Steps.{nothing}
use denote.Param.{layout}
use denote.Struct.Struct.{within}
use denote.Struct.Owning.{shape}
use Rattle.core.proofs.atomic.Steps.{Ptr-Good}
use Rattle.core.proofs.cell.Inside.{Good}
use Rattle.std_alloc.specs.Box.Ownership.{box_owns}
use Rattle.std_alloc.proofs.ResultValues.{and_tt}
use Rattle.std.specs.declared.alloc.Global.{Global}
use Rattle.std.specs.contracts.impls.GlobalAllocator.TheImpl.{ghosts}
use Rattle.sled_handle.specs.contracts.handle.Handle as handle
use Rattle.sled_disk.specs.contracts.disk.callers_file.UnseenFile as unseen
use Rattle.sled_disk.specs.contracts.disk.callers_file.UnseenFileCallersFile.TheImpl as caller
use Rattle.sled_disk.specs.contracts.disk.staged.StagedDiskDisk.TheImpl as disk
use Rattle.sled_disk.specs.contracts.log.calls.DiskLogLog.TheImpl as log
use Rattle.sled_handle.specs.Unseen.{disk_row, store_row}
use Rattle.sled_handle.specs.Handles.{handle_owns}
use Rattle.sled_handle.proofs.Loosened.{both}

-- the store of a handle: no member of what is known of its disk and log names an `impl`
abbrev pub no_impl : Dict
no_impl = impl [] tnil dnil

abbrev pub R : RattleType
R = store_row (disk.ghosts unseen.the_row caller.ghosts no_impl no_impl) (log.ghosts disk_row (disk.ghosts unseen.the_row caller.ghosts no_impl no_impl) no_impl no_impl)

abbrev pub word : Ptr → Bool → Val
word p b = both (ptr_val p) (vbool b)

pub word_good : (p : Ptr) (b : Bool) → Good (layout handle.the_row) (word p b)
word_good p b = (and_tt (has_ty ty_ptr (ptr_val p)) (Ptr-Good p).0, ((Ptr-Good p).1, (tt, tt)))

module _ {M : Type 1} {𝓤 : Ura M} {𝓛 : Logic 𝓤} {K : Type 0} {Γ : List (Item 𝓤)} {G : Goal 𝓤 𝓛.H} where
  -- a handle apart: what it owns beside its fields, and its machine value
  pub handle_out : K → (s : handle.the_row.Denot) (vs : List Val)
      → (vs ≡ word s.at s.is_open ∷ [] → Seq K 𝓛 (‵ (handle_owns R s.at s.is_open s.store) ∷ Γ) G)
      → Seq K 𝓛 (‵ (handle.the_row.own_val s vs) ∷ Γ) G
  handle_out t s vs k =
      fsplit t $ fpick t (λ vss. fsplit t $ feq_l t (λ ev. fsplit t $ feq_l t (λ ep. fsplit t $ feq_l t (λ eb. drop t $ k
      (subst (λ (ps : List Val). vs ≡ vstruct (of_list (ps ++ (vbool s.is_open ∷ []))) ∷ []) ep (subst (λ (bs : List Val). vs ≡ vstruct (of_list (vss.0 ++ (bs ++ []))) ∷ []) eb ev))))))

  -- and together
  pub handle_in : K → (p : Ptr) (b : Bool) (x : Option R.Denot)
      → Step K 𝓛 (‵ (handle.the_row.own_val (record { at = p; is_open = b; store = x }) (word p b ∷ [])) ∷ Γ) G (‵ (handle_owns R p b x) ∷ Γ) G
  handle_in t p b x = step (λ s.
      nothing t $ feq_i t (List Val) (vbool b ∷ []) (vbool b ∷ []) refl $ fjoin t $ feq_i t (List Val) (ptr_val p ∷ []) (ptr_val p ∷ []) refl $ fjoin t $
      feq_i t (List Val) (word p b ∷ []) (word p b ∷ []) refl $ fjoin t $
      fpack t (Valss (RawPtr ∷ bool ∷ [])) (within (shape handle.the_type) (p, (b, tt)) (word p b ∷ [])) (ptr_val p ∷ [], (vbool b ∷ [], tt)) $ fjoin t $ s)

  -- by the store that is there
  pub handle_either : K → (p : Ptr) (b : Bool) (x : Option R.Denot)
      → (x ≡ None → b ≡ false → Seq K 𝓛 Γ G) → ((y : R.Denot) → x ≡ Some y → b ≡ true → (heap : Global) → Seq K 𝓛 (‵ (box_owns (ghosts.dealloc_token heap) R p y) ∷ Γ) G)
      → Seq K 𝓛 (‵ (handle_owns R p b x) ∷ Γ) G
  handle_either t p b None none one = feq_l t (λ e. none refl e)
  handle_either t p b (Some y) none one = fsplit t $ feq_l t (λ e. fpick t (λ heap. one y refl e heap))
