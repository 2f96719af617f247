-- A root map that is changed is one.
use Rattle.std.proofs.Common.{◌≡◌, ◌<◌, ◌^◌, ℕ, cond, [], ◌∷◌, Option, None, Some, refl, sym, subst, ◌∙◌}
use Rattle.std.specs.Prelude.{IfSome, IfNone}
use Rattle.std.specs.List.{AllByRecursion}
use Rattle.std.specs.declared.cmp.Ordering.{Ordering}
use Rattle.std.specs.declared.cmp.Ordering.TheVariants.{Less, Equal, Greater}
use Rattle.std.specs.Ordering.{is_eq}
use Rattle.sled_base.specs.Order.{Bytes, bytes_cmp}
use Rattle.sled_base.specs.OrderLaws.{equal_is_same}
use Rattle.sled_node.specs.Pairs.{IsWithinLimit}
use Rattle.sled_node.specs.Meta.{Roots, IsRootMap, CanChange, root_of, with_root, changed_roots}
use Rattle.sled_node.proofs.Edits.{has_set, has_del}
use Rattle.sled_node.proofs.Roots.{fits_with}

pub changed_map : (name : Bytes) (root : Option ℕ) (roots : Roots) → IsRootMap roots → CanChange name root roots → IfSome root (λ root. root < 2 ^ 64) → IsRootMap (changed_roots name root roots)
changed_map name None roots map can small = has_del name roots map
changed_map name (Some root) roots map can small = has_set name roots map root can.0 small (fits_with name root roots map.few can.1)

-- a name that is there is within the limit
module _ (name : Bytes) (root : ℕ) where
  within_one : (pair : Bytes × ℕ) (roots : Roots) → IsWithinLimit pair.0 → (root_of name roots ≡ Some root → IsWithinLimit name) → (o : Ordering) → bytes_cmp name pair.0 ≡ o → cond (is_eq o) (Some pair.1) (root_of name roots) ≡ Some root → IsWithinLimit name
  within_one pair roots short others Less is there = others there
  within_one pair roots short others Equal is there = subst IsWithinLimit (sym (equal_is_same name pair.0 is)) short
  within_one pair roots short others Greater is there = others there

  within_there : (roots : Roots) → AllByRecursion (λ pair. IsWithinLimit pair.0) roots → root_of name roots ≡ Some root → IsWithinLimit name
  within_there [] short there = absurd cc
  within_there (pair ∷ roots) short there = within_one pair roots short.0 (within_there roots short.1) (bytes_cmp name pair.0) refl there

-- a map is left as it was, or gives a name that is there another page
pub replaced_map : (name : Bytes) (root : ℕ) (roots new : Roots) (former : Option ℕ) → IsRootMap roots → root < 2 ^ 64 → former ≡ root_of name roots → IfSome former (λ _. new ≡ with_root name root roots) → IfNone former (new ≡ roots) → IsRootMap new
replaced_map name root roots new None map small is put left = subst IsRootMap (sym left) map
replaced_map name root roots new (Some former) map small is put left =
    subst IsRootMap (sym put) (has_set name roots map root (within_there name former roots map.keys (sym is)) small (fits_with name root roots map.few (λ none. absurd (let e = is ∙ none in cc))))
