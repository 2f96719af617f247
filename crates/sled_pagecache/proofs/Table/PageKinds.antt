-- The kinds of the pages of a state are those of what the table keeps.
use Rattle.sled_pagecache.proofs.Names.{◌≡◌, ℕ, suc, false, List, [], ◌∷◌, map, slice_get, refl, sym, ◌∙◌, ap, subst, Ghosts, Cache, stamps_in, resident_in, nodes_in, IsBeside, slice_get-map, IfSome, KeptPage, unplaced_state, AreOwn, IsOwnAt, arith}
use Rattle.sled_pagecache.proofs.CacheLog.ToldContents.{proper-now}
use Rattle.sled_pagecache.proofs.Table.StatePages.{IsKnown, AreKnown, known-in}
use Rattle.sled_pagecache.specs.Logged as proper
use Rattle.sled_pagecache.specs.Shapes.{Shape, kind_at, shape_of_page, Shows}
use Rattle.sled_pagecache.specs.Inside.PageKinds.{shape_of_entry}
use Rattle.sled_pagecache.specs.State.{StampedPage}
use Rattle.sled_pagecache.specs.declared.pagecache.handles.shape.PageShape.{PageShape}

one-shape : (pid : ℕ) (p : StampedPage) (q : KeptPage) → proper.IsOwnAt pid p.content → IsOwnAt pid q.kept → IsKnown p q → shape_of_page p ≡ shape_of_entry q
one-shape pid p q own kept_own known = grind arith

same-shapes : (at : ℕ → ℕ) (pages : List StampedPage) (table_pages : List KeptPage)
    → ((id : ℕ) → IfSome (slice_get (map (λ (p : StampedPage). p.content) pages) id) (proper.IsOwnAt (at id)))
    → ((id : ℕ) → IfSome (slice_get table_pages id) (λ q. IsOwnAt (at id) q.kept))
    → AreKnown pages table_pages → map shape_of_page pages ≡ map shape_of_entry table_pages
same-shapes at [] [] own kept_own known = refl
same-shapes at (p ∷ pages) [] own kept_own known = absurd known
same-shapes at [] (q ∷ others) own kept_own known = absurd known
same-shapes at (p ∷ pages) (q ∷ others) own kept_own known =
    let made : PageShape → List PageShape → List PageShape = λ x xs. x ∷ xs in
    ap (λ x. made x (map shape_of_page pages)) (one-shape (at 0) p q (own 0) (kept_own 0) known.0)
    ∙ ap (made (shape_of_entry q)) (same-shapes (λ id. at (suc id)) pages others (λ id. own (suc id)) (λ id. kept_own (suc id)) known.1)

stamps-kept : (table_pages : List KeptPage) → map (λ (s : PageShape). s.stamp) (map shape_of_entry table_pages) ≡ stamps_in table_pages
stamps-kept [] = refl
stamps-kept (q ∷ others) = ap (λ (l : List ℕ). q.stamp ∷ l) (stamps-kept others)

-- ---- what is known over any log

kinds-kept : (table_pages : List KeptPage) → AreOwn table_pages → (pid : ℕ)
    → IfSome (slice_get (map shape_of_entry table_pages) pid) (λ page. page.kind ≡ kind_at pid (slice_get (resident_in table_pages) pid) (slice_get (nodes_in table_pages) pid))
kinds-kept table_pages own pid = let own_at = own pid in grind (arith, slice_get-map)

module _ {L : Type 0} (g : Ghosts L) where
  pub shows : (cache : Cache L) (table_pages : List KeptPage) (shape : Shape)
      → cache.stamps ≡ stamps_in table_pages → cache.resident ≡ resident_in table_pages → cache.nodes ≡ nodes_in table_pages → (cache.fault ≡ false → IsBeside g.tells g.state cache.log table_pages) → AreOwn table_pages
      → shape.pages ≡ map shape_of_entry table_pages → shape.next ≡ cache.next → shape.fault ≡ cache.fault → Shows g cache shape
  shows cache table_pages shape stamps resident nodes beside own pages next fault = record {
    stamps = ap (map (λ (s : PageShape). s.stamp)) pages ∙ stamps-kept table_pages ∙ sym stamps;
    next = next;
    fault = fault;
    kinds = rw (pages, resident, nodes) (kinds-kept table_pages own);
    is = λ held s is clear.
        let known = known-in g cache table_pages held s is clear stamps (beside (sym is.fault ∙ clear)) in
        let here = subst proper.AreOwn (sym (is.known clear).contents) (proper-now (unplaced_state (g.state cache.log)) held (is.known clear).logged).own in
        let same : map shape_of_page s.pages ≡ shape.pages = same-shapes (λ id. id) s.pages table_pages here own known ∙ sym pages in
        rw (same, is.next ∙ sym next, is.fault ∙ sym fault) refl;
  }
