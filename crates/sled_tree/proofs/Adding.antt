-- A page that is added.
use Rattle.std.proofs.Common.{◌≡◌, ◌≢◌, ◌⊎◌, ◌∙◌, inl, inr, ℕ, cond, List, [], ◌∷◌, ◌++◌, length, Some, slice_get, slice_set, sym, ap, subst, arith, eq-eqb}
use Rattle.std.proofs.lemmas.Bool.{ne_eqb, cases_eq}
use Rattle.sled_base.proofs.LinkedLists.Linking.{get_set_there}
use Rattle.sled_log.specs.Contents.{Content, Free, Node, Put, Roots, contents_with}
use Rattle.sled_node.specs.Node.{WholeNode}
use Rattle.sled_search.specs.Maps.{Maps, AreTrees, IsOff, ChangesOne}
use Rattle.sled_search.proofs.Off.{all-off, no-node-off, one-changes, stays-off}
use Rattle.sled_pagecache.specs.Limits.{meta_pid}
use Rattle.sled_tree.specs.Changed.{Adds}
use Rattle.sled_tree.specs.Named.{Named, AreNamed}
use Rattle.sled_tree.proofs.Lists.{behind-at}

module _ (pages : List Content) (pid : ℕ) (adds : Adds pages pid) (node : WholeNode) where
  abbrev pub added : List Content
  added = contents_with pages pid (Put (Node node))

  behind : pid ≡ length pages → added ≡ pages ++ Node node ∷ []
  behind is = ap (λ b. cond b (pages ++ Node node ∷ []) (slice_set pages pid (Node node))) (eq-eqb pid (length pages) is)

  inside : pid ≢ length pages → added ≡ slice_set pages pid (Node node)
  inside apart = ap (λ b. cond b (pages ++ Node node ∷ []) (slice_set pages pid (Node node))) (ne_eqb pid (length pages) apart)

  pub added-there : slice_get added pid ≡ Some (Node node)
  added-there = by (cases_eq pid (length pages))
    where
      by : (pid ≡ length pages) ⊎ (pid ≢ length pages) → slice_get added pid ≡ Some (Node node)
      by (inl is) = ap (λ (ps : List Content). slice_get ps pid) (behind is) ∙ subst (λ (p : ℕ). slice_get (pages ++ Node node ∷ []) p ≡ Some (Node node)) (sym is) (behind-at pages (Node node))
      by (inr apart) = ap (λ (ps : List Content). slice_get ps pid) (inside apart) ∙ get_set_there pages pid (Node node) (let le = adds.place in omega (arith, le, apart))

  pub added-one : ChangesOne pages pid added
  added-one = one-changes pages pid (Put (Node node))

  -- what was there still is
  stays-there : (p : ℕ) (content : Content) → (content ≡ Free → ⊥) → slice_get pages p ≡ Some content → slice_get added p ≡ Some content
  stays-there p content used at = added-one p (λ same. used (adds.free content (subst (λ (q : ℕ). slice_get pages q ≡ Some content) same at))) ∙ at

  pub added-keeps : (p : ℕ) (n : WholeNode) → slice_get pages p ≡ Some (Node n) → slice_get added p ≡ Some (Node n)
  added-keeps p n at = stays-there p (Node n) (λ free. let e = free in cc) at

  module _ (maps : Maps) (trees : AreTrees pages maps) where
    pub fresh-off : IsOff pages maps pid
    fresh-off = no-node-off pages maps pid trees (λ n at. let e = adds.free (Node n) at in cc)

    pub added-trees : AreTrees added maps
    added-trees = all-off pages added maps pid trees fresh-off added-one

    pub added-off : (page : ℕ) → IsOff pages maps page → IsOff added maps page
    added-off page off = stays-off pages added maps pid fresh-off added-one page off

    -- no search is at the new page
    pub new-off : IsOff added maps pid
    new-off = added-off pid fresh-off

  pub added-named : (w : Named) → AreNamed pages w → AreNamed added w
  added-named w are = record { names = stays-there meta_pid (Roots w.names) (λ free. let e = free in cc) are.names; trees = added-trees w.maps are.trees }
