-- The names stay where another page is changed.
use Rattle.std.proofs.Common.{◌≡◌, ◌≢◌, ◌∙◌, ℕ, List, Some, slice_get, slice_set, sym, subst}
use Rattle.sled_log.specs.Contents.{Content, Node, Roots}
use Rattle.sled_node.specs.Meta as meta
use Rattle.sled_node.specs.Node.{WholeNode}
use Rattle.sled_pagecache.specs.Limits.{meta_pid}
use Rattle.sled_search.proofs.OneOfMany.{set-one}

module _ (pages : List Content) (names : meta.Roots) (are : slice_get pages meta_pid ≡ Some (Roots names)) (p : ℕ) where
  pub names-other : p ≢ meta_pid → (content : Content) → slice_get (slice_set pages p content) meta_pid ≡ Some (Roots names)
  names-other other content = set-one pages p content meta_pid (λ same. other (sym same)) ∙ are

  -- a page with a node isn't that of the names
  pub names-stay : (n : WholeNode) → slice_get pages p ≡ Some (Node n) → (content : Content) → slice_get (slice_set pages p content) meta_pid ≡ Some (Roots names)
  names-stay n at content = names-other (λ same. let e : Some (Roots names) ≡ Some (Node n) = sym are ∙ subst (λ (q : ℕ). slice_get pages q ≡ Some (Node n)) same at in cc) content
