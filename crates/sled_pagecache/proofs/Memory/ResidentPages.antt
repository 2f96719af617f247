-- Which pages of a table lie in memory, where one of them changes.
use Rattle.sled_pagecache.proofs.Names.{Recency, eqb, eqb_tells, capped_size, is_resident, IsFreeOrNode, CacheInfo, Result, Ok, Err, ◌≡◌, ◌≢◌, ◌⊎◌, ◌≤◌, inl, inr, ℕ, Bool, true, false, List, [], ◌∷◌, ◌++◌, length, map, Option, Some, None, slice_get, slice_set, refl, sym, ◌∙◌, ap, subst, arith, length-map, none-some, same_Some, slice_get-map, slice_get_past, option_map, error_of, Refusal, IsOfLog, IsHindrance, WholeNode, Cache, is_free, nodes_in, resident_in, Config, StickyLog, PageContent, Page, IsListed, rounded, IsTouched, WasAccessed, HasNode, HasNoNode, AreListed, StaysAt, node_access_size, access_size, size_if, size_in, AllStay, IsListedAt, AccessesNode, TakesNode, TakesPage, FindsNode, LosesAtMost, Accesses, OnOk, OnErr, IfSome, MatchOption, view, map-at, set-at, other-at, other-before, last-at}
use Rattle.sled_pagecache.specs.declared.pagecache.table.page_entry.PageContent.TheVariants as page_content

-- ---- lists

pub map-other : {A B : Type 0} (f : A → B) (xs : List A) (i j : ℕ) (y : A) → j ≢ i → slice_get (map f (slice_set xs i y)) j ≡ slice_get (map f xs) j
map-other f xs i j y apart = slice_get-map f (slice_set xs i y) j ∙ ap (option_map f) (other-at xs i j y apart) ∙ sym (slice_get-map f xs j)

-- ---- nodes

pub no-node-in : (size : ℕ) (k : PageContent) → ((node : WholeNode) → k ≡ page_content.Node node → ⊥) → size_if size k ≡ None
no-node-in size k none = grind arith

free-none : (size : ℕ) (k : PageContent) → is_free k ≡ true → size_if size k ≡ None
free-none size k free = grind arith

-- ---- caches

module _ {L : Type 0} where
  pub stays-same : (cache : Cache L) (pid : ℕ) → StaysAt cache cache pid
  stays-same cache pid = record { resident = refl; node = refl }

  pub stays-then : (old mid new : Cache L) (pid : ℕ) → StaysAt old mid pid → StaysAt mid new pid → StaysAt old new pid
  stays-then old mid new pid one two = record { resident = two.resident ∙ one.resident; node = two.node ∙ one.node }

  pub stays-has : (old new : Cache L) (pid size : ℕ) → StaysAt old new pid → HasNode new pid size → HasNode old pid size
  stays-has old new pid size stays has = sym stays.node ∙ has

  -- no page is there
  pub none-past : (cache : Cache L) (pid : ℕ) → length cache.nodes ≤ pid → HasNoNode cache pid
  none-past cache pid past size has = none-some (Some size) (sym (slice_get_past cache.nodes pid past) ∙ has)

  module _ (next next_then : ℕ) (config : Config) (recovered : Bool) (lru : Recency) (before after : StickyLog L) (pages : List Page) where
    -- the same pages
    pub stay-view : (then : List Page) → then ≡ pages → AllStay (view next config recovered lru before pages) (view next_then config recovered lru after then)
    stay-view then is pid = record { resident = ap (λ (l : List Page). slice_get (resident_in l) pid) is; node = ap (λ (l : List Page). slice_get (nodes_in l) pid) is }

    pub none-at : (pid : ℕ) (q : Page) → slice_get pages pid ≡ Some q → node_access_size q ≡ None → HasNoNode (view next config recovered lru before pages) pid
    none-at pid q at none size has = none-some size (same_Some None (Some size) (ap (λ (o : Option ℕ). Some o) (sym none) ∙ sym (map-at (λ (p : Page). node_access_size p) pages pid q at) ∙ has))

    pub free-at : (pid : ℕ) (q : Page) → slice_get pages pid ≡ Some q → is_free q.kept ≡ true → HasNoNode (view next config recovered lru before pages) pid
    free-at pid q at free = none-at pid q at (free-none (access_size q) q.kept free)

    pub past-view : (pid : ℕ) → length pages ≤ pid → HasNoNode (view next config recovered lru before pages) pid
    past-view pid past = none-past (view next config recovered lru before pages) pid (let same = length-map pages (λ (p : Page). node_access_size p) in omega (arith, past, same))

    -- one more page
    module _ (page : Page) (node : WholeNode) (holds : page.kept ≡ page_content.Node node) where
      pub add-others : (other : ℕ) → other ≢ length pages → StaysAt (view next config recovered lru before pages) (view next_then config recovered lru after (pages ++ page ∷ [])) other
      add-others other apart = record { resident = before-last (λ (p : Page). is_resident p.kept) other apart; node = before-last (λ (p : Page). node_access_size p) other apart }
        where
          before-last : {B : Type 0} (f : Page → B) (other : ℕ) → other ≢ length pages → slice_get (map f (pages ++ page ∷ [])) other ≡ slice_get (map f pages) other
          before-last f other apart = slice_get-map f (pages ++ page ∷ []) other ∙ ap (option_map f) (other-before pages page other apart) ∙ sym (slice_get-map f pages other)

      pub add-node : HasNode (view next_then config recovered lru after (pages ++ page ∷ [])) (length pages) (access_size page)
      add-node = map-at (λ (p : Page). node_access_size p) (pages ++ page ∷ []) (length pages) page (last-at pages page) ∙ ap (λ (k : PageContent). Some (size_if (access_size page) k)) holds

    -- another page at an id
    module _ (pid : ℕ) (q page : Page) (at : slice_get pages pid ≡ Some q) where
      abbrev old : Cache L
      old = view next config recovered lru before pages

      abbrev new : Cache L
      new = view next_then config recovered lru after (slice_set pages pid page)

      pub set-others : (other : ℕ) → other ≢ pid → StaysAt old new other
      set-others other apart = record { resident = map-other (λ (p : Page). is_resident p.kept) pages pid other page apart; node = map-other (λ (p : Page). node_access_size p) pages pid other page apart }

      there : {B : Type 0} (f : Page → B) → slice_get (map f (slice_set pages pid page)) pid ≡ Some (f page)
      there f = map-at f (slice_set pages pid page) pid page (set-at pages pid q page at)

      pub set-size : (o : Option ℕ) → node_access_size page ≡ o → slice_get new.nodes pid ≡ Some o
      set-size o is = there (λ p. node_access_size p) ∙ ap (λ (o : Option ℕ). Some o) is

      pub set-none : node_access_size page ≡ None → HasNoNode new pid
      set-none none size has = none-some size (same_Some None (Some size) (ap (λ (o : Option ℕ). Some o) (sym none) ∙ sym (there (λ p. node_access_size p)) ∙ has))

      module _ (kept_is : page.kept ≡ q.kept) (infos : page.infos.items ≡ q.infos.items) where
        pub set-own : StaysAt old new pid
        set-own = record {
          resident = there (λ p. is_resident p.kept) ∙ ap (λ (k : PageContent). Some (is_resident k)) kept_is ∙ sym (map-at (λ (p : Page). is_resident p.kept) pages pid q at);
          node = there (λ p. node_access_size p) ∙ ap (λ (k : PageContent). Some (size_if (access_size page) k)) kept_is ∙ ap (λ (l : List CacheInfo). Some (size_if (capped_size (size_in l)) q.kept)) infos
              ∙ sym (map-at (λ (p : Page). node_access_size p) pages pid q at);
        }

        pub set-stay : AllStay old new
        set-stay other = by (eqb_tells other pid)
          where
            by : ((eqb other pid ≡ true) × (other ≡ pid)) ⊎ ((eqb other pid ≡ false) × (other ≢ pid)) → StaysAt old new other
            by (inl (_, same)) = subst (StaysAt old new) (sym same) set-own
            by (inr (_, apart)) = set-others other apart

-- ---- what is lost

hindrance-of : (refusal : Refusal) → IsOfLog refusal → IsHindrance (error_of refusal)
hindrance-of refusal of = grind arith

module _ {L : Type 0} (tells : Type 0) (old : Cache L) (accesses : Accesses) (pid : ℕ) where
  module _ (new : Cache L) (then : Accesses) (clear : old.fault ≡ false) (refusal : Refusal) (touched : IsTouched accesses pid then) where
    stuck : old.fault ≡ true → then ≡ accesses
    stuck kept = absurd cc

    -- the pages stay
    pub loses-none : AllStay old new → (tells → IsOfLog refusal ⊎ (then ≡ accesses)) → LosesAtMost old accesses pid new then tells (error_of refusal)
    loses-none stay unasked = record {
      stuck = stuck;
      others = λ other _. stay other;
      lost = inl (stay pid);
      touched = touched;
      unasked = λ told. by (unasked told);
    }
      where
        by : IsOfLog refusal ⊎ (then ≡ accesses) → IsHindrance (error_of refusal) ⊎ (AllStay old new × (then ≡ accesses))
        by (inl of) = inl (hindrance-of refusal of)
        by (inr same) = inr (stay, same)

-- The page of a refused link stays as it was, or its node is lost.
module _ {L : Type 0} (tells : Type 0) (next : ℕ) (config : Config) (recovered : Bool) (lru : Recency) (before after : StickyLog L) (pages : List Page) (pid : ℕ) (q page : Page) (at : slice_get pages pid ≡ Some q)
    (accesses then : Accesses) (clear : before.fault ≡ false) (infos : page.infos.items ≡ q.infos.items) (refusal : Refusal)
    (lost : (page.kept ≡ q.kept) ⊎ (page.kept ≡ page_content.OnLog)) (touched : IsTouched accesses pid then) (unasked : tells → IsOfLog refusal ⊎ ((page.kept ≡ q.kept) × (then ≡ accesses))) where
  abbrev was : Cache L
  was = view next config recovered lru before pages

  abbrev is : Cache L
  is = view next config recovered lru after (slice_set pages pid page)

  pub loses-page : LosesAtMost was accesses pid is then tells (error_of refusal)
  loses-page = record {
    stuck = λ kept. absurd cc;
    others = set-others next next config recovered lru before after pages pid q page at;
    lost = of lost;
    touched = touched;
    unasked = λ told. by (unasked told);
  }
    where
      of : (page.kept ≡ q.kept) ⊎ (page.kept ≡ page_content.OnLog) → StaysAt was is pid ⊎ HasNoNode is pid
      of (inl same) = inl (set-own next next config recovered lru before after pages pid q page at same infos)
      of (inr away) = inr (set-none next next config recovered lru before after pages pid q page at (ap (λ (k : PageContent). size_if (access_size page) k) away))

      by : IsOfLog refusal ⊎ ((page.kept ≡ q.kept) × (then ≡ accesses)) → IsHindrance (error_of refusal) ⊎ (AllStay was is × (then ≡ accesses))
      by (inl of_log) = inl (hindrance-of refusal of_log)
      by (inr (same, none)) = inr (set-stay next next config recovered lru before after pages pid q page at same infos, none)

-- ---- a page that is read

none-free : (size : ℕ) (k : PageContent) → size_if size k ≡ None → is_resident k ≡ true → IsFreeOrNode k → is_free k ≡ true
none-free size k none resident own = grind arith

pub free-resident : (k : PageContent) → is_free k ≡ true → is_resident k ≡ true
free-resident k free = grind arith

module _ {L : Type 0} (next : ℕ) (config : Config) (recovered : Bool) (lru : Recency) (before after : StickyLog L) (pages : List Page) (pid : ℕ) (q page : Page) (at : slice_get pages pid ≡ Some q) (accesses then : Accesses) where
  abbrev old_cache : Cache L
  old_cache = view next config recovered lru before pages

  abbrev new_cache : Cache L
  new_cache = view next config recovered lru after (slice_set pages pid page)

  -- the page is listed with its size
  pub listed-at : AreListed old_cache accesses.lru → IsListedAt pid q accesses.lru
  listed-at listed = by (node_access_size q) refl
    where
      by : (o : Option ℕ) → node_access_size q ≡ o → IfSome o (λ size. IsListed pid (rounded size) accesses.lru)
      by None same = tt
      by (Some size) same = listed pid size (map-at (λ (p : Page). node_access_size p) pages pid q at ∙ ap (λ (o : Option ℕ). Some o) same)

  pub takes-page : WasAccessed accesses pid (access_size page) then → TakesPage old_cache accesses pid new_cache then
  takes-page was = record {
    size = access_size page;
    only = λ other has. own-size page.kept other (same_Some (node_access_size page) (Some other) (sym (set-size next next config recovered lru before after pages pid q page at (node_access_size page) refl) ∙ has));
    accessed = was;
    others = set-others next next config recovered lru before after pages pid q page at;
  }
    where
      own-size : (k : PageContent) (other : ℕ) → size_if (access_size page) k ≡ Some other → other ≡ access_size page
      own-size k other is = grind arith

  pub finds-node : (result : Result (Unit {0}) Refusal) → OnOk result (AccessesNode accesses pid page then) → OnOk result (is_resident page.kept ≡ true) → IsFreeOrNode page.kept
      → is_free page.kept ≡ is_free q.kept → (is_resident q.kept ≡ true → page.kept ≡ q.kept) → page.infos.items ≡ q.infos.items → OnOk result (FindsNode old_cache accesses pid new_cache then)
  finds-node (Err refusal) accessed resident own free stays infos = tt
  finds-node (Ok done) accessed resident own free stays infos = by (node_access_size page) refl accessed
    where
      by : (o : Option ℕ) → node_access_size page ≡ o → MatchOption o (then ≡ accesses) (λ size. WasAccessed accesses pid size then) → FindsNode old_cache accesses pid new_cache then
      by None none same =
          let kept_is : page.kept ≡ q.kept = stays (free-resident q.kept (sym free ∙ none-free (access_size page) page.kept none resident own)) in
          inr (set-none next next config recovered lru before after pages pid q page at none, set-stay next next config recovered lru before after pages pid q page at kept_is infos, same)
      by (Some size) same was = inl (record {
        size = size;
        node = set-size next next config recovered lru before after pages pid q page at (Some size) same;
        accessed = was;
        others = set-others next next config recovered lru before after pages pid q page at;
      })

  pub refused-stay : (result : Result (Unit {0}) Refusal) → OnErr result (page.kept ≡ q.kept) → page.infos.items ≡ q.infos.items → OnErr result (AllStay old_cache new_cache)
  refused-stay (Ok done) same infos = tt
  refused-stay (Err refusal) same infos = set-stay next next config recovered lru before after pages pid q page at same infos

-- a page is added
pub adds-node : {L : Type 0} (next : ℕ) (config : Config) (recovered : Bool) (lru : Recency) (before after : StickyLog L) (pages pages_then : List Page) (page : Page) (node : WholeNode) → page.kept ≡ page_content.Node node
    → pages_then ≡ pages ++ page ∷ [] → (accesses then : Accesses) (pid : ℕ) → pid ≡ length pages
    → IfSome (slice_get pages_then (length pages)) (λ page. WasAccessed accesses (length pages) (access_size page) then)
    → TakesNode (view next config recovered lru before pages) accesses pid (view next config recovered lru after pages_then) then
adds-node next config recovered lru before after pages pages_then page node holds is accesses then pid last was =
    subst (λ n. TakesNode (view next config recovered lru before pages) accesses n (view next config recovered lru after pages_then) then) (sym last)
    (subst (λ (l : List Page). TakesNode (view next config recovered lru before pages) accesses (length pages) (view next config recovered lru after l) then) (sym is) (record {
      size = access_size page;
      node = add-node next next config recovered lru before after pages page node holds;
      accessed = subst (λ (o : Option Page). IfSome o (λ page. WasAccessed accesses (length pages) (access_size page) then)) (ap (λ (l : List Page). slice_get l (length pages)) is ∙ last-at pages page) was;
      others = add-others next next config recovered lru before after pages page node holds;
    }))

pub accessed-added : (accesses then : Accesses) (before mid pages : List Page) (page : Page) (pid : ℕ) → pid ≡ length before → mid ≡ before → pages ≡ mid ++ page ∷ [] → WasAccessed accesses pid (access_size page) then
    → IfSome (slice_get pages (length before)) (λ page. WasAccessed accesses (length before) (access_size page) then)
accessed-added accesses then before mid pages page pid last same is was =
    subst (λ (o : Option Page). IfSome o (λ page. WasAccessed accesses (length before) (access_size page) then))
    (sym (ap (λ (l : List Page). slice_get l (length before)) (is ∙ ap (λ (l : List Page). l ++ page ∷ []) same) ∙ last-at before page)) (subst (λ n. WasAccessed accesses n (access_size page) then) last was)

-- the page holds a node
module _ (pid : ℕ) (page : Page) (node : WholeNode) (holds : page.kept ≡ page_content.Node node) (accesses then : Accesses) where
  pub held-accessed : WasAccessed accesses pid (access_size page) then → AccessesNode accesses pid page then
  held-accessed = subst (λ (o : Option ℕ). MatchOption o (then ≡ accesses) (λ size. WasAccessed accesses pid size then)) (sym (ap (size_if (access_size page)) holds))

  pub held-listed : IsListedAt pid page accesses.lru → IsListed pid (rounded (access_size page)) accesses.lru
  held-listed = subst (λ (o : Option ℕ). IfSome o (λ size. IsListed pid (rounded size) accesses.lru)) (ap (size_if (access_size page)) holds)
