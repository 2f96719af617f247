-- The pages that a log answers, while chains grow.
use Rattle.sled_log.proofs.Names.{◌≡◌, ◌≤◌, ◌<◌, ◌+◌, ℕ, Bool, true, false, cond, ◌==◌, List, [], ◌∷◌, ◌++◌, length, map, take, get_or, sym, ◌∙◌, ap, subst, arith, slice_set, slice_index_or, set, AllZip, map-append, set_past, take_more, LogKind, chain_with_link, chains_with_new, chains_with_change, chains_from, chains_after, event_of, chains_after-append, Entry, Chain, effect_of_entry, IsPageState, zip-append, zip-set, LogItem, PageState}
use Rattle.std.proofs.lemmas.Slice.Zip.{AllZip-long}
use Rattle.sled_base.specs.declared.kinds.LogKind.TheVariants as kinds

abbrev pub Shows : List Chain → List PageState → Type 0
Shows chains pages = AllZip IsPageState chains pages

-- a new chain
pub begun-shows : (kind : LogKind) (chains : List Chain) (pages : List PageState) (id : ℕ) (entry : Entry) (page : PageState) → chains_with_change effect_of_entry kind chains id entry ≡ chains_with_new effect_of_entry chains id entry
    → Shows chains pages → IsPageState (entry ∷ []) page → Shows (chains_with_change effect_of_entry kind chains id entry) (cond (id == length pages) (pages ++ page ∷ []) (slice_set pages id page))
begun-shows kind chains pages id entry page is h r = rw (is, AllZip-long IsPageState chains pages h) (by (id == length chains))
  where
    by : (b : Bool) → Shows (cond b (chains ++ (entry ∷ []) ∷ []) (slice_set chains id (entry ∷ []))) (cond b (pages ++ page ∷ []) (slice_set pages id page))
    by true = zip-append IsPageState chains pages ((entry ∷ []) ∷ []) (page ∷ []) h (r, tt)
    by false = zip-set IsPageState id chains pages (entry ∷ []) page h r

-- a link on a page that is there
pub linked-shows : (kind : LogKind) (chains : List Chain) (pages : List PageState) (id : ℕ) (entry : Entry) (page : PageState) → kinds.Link ≡ kind → Shows chains pages
    → IsPageState (chain_with_link effect_of_entry (slice_index_or chains id []) entry) page
    → Shows (chains_with_change effect_of_entry kind chains id entry) (set pages id page)
linked-shows kind chains pages id entry page is h r =
    subst (λ k. Shows (chains_with_change effect_of_entry k chains id entry) (set pages id page)) is
    (zip-set IsPageState id chains pages (chain_with_link effect_of_entry (slice_index_or chains id []) entry) page h r)

-- and on one that isn't
pub absent-shows : (kind : LogKind) (chains : List Chain) (pages : List PageState) (id : ℕ) (entry : Entry) → kinds.Link ≡ kind → length pages ≤ id → Shows chains pages
    → Shows (chains_with_change effect_of_entry kind chains id entry) pages
absent-shows kind chains pages id entry is le h =
    subst (λ k. Shows (chains_with_change effect_of_entry k chains id entry) pages) is
    (subst (λ l. Shows l pages) (sym (set_past chains id (chain_with_link effect_of_entry (slice_index_or chains id []) entry) (let l = AllZip-long IsPageState chains pages h in omega arith))) h)

-- the pages of one item more
pub more-shows : (items : List LogItem) (i : ℕ) (item : LogItem) (pages : List PageState) → i < length items → item ≡ get_or items i item
    → Shows (chains_from effect_of_entry (chains_after effect_of_entry [] (map event_of (take i items))) (event_of item)) pages
    → Shows (chains_after effect_of_entry [] (map event_of (take (i + 1) items))) pages
more-shows items i item pages lt is h =
    subst (λ l. Shows l pages)
    (sym
    (ap (λ (l : List LogItem). chains_after effect_of_entry [] (map event_of l)) (take_more items i item lt)
    ∙ ap (chains_after effect_of_entry []) (map-append event_of (take i items) (get_or items i item ∷ []))
    ∙ chains_after-append effect_of_entry [] (map event_of (take i items)) (event_of (get_or items i item) ∷ [])
    ∙ ap (λ (x : LogItem). chains_from effect_of_entry (chains_after effect_of_entry [] (map event_of (take i items))) (event_of x)) (sym is)))
    h
