-- Pages as they are recovered are kept as their chains say, and the first of them that no cache leaves so.
use Rattle.sled_pagecache.proofs.Names.{◌≡◌, ◌+◌, ◌<◌, ℕ, true, false, List, [], ◌∷◌, ◌++◌, length, map, take, drop, get_or, Option, Some, None, refl, sym, ◌∙◌, ap, subst, arith, take_more, zip-append, AllZip, AllByRecursion, IfSome, PageState, Chain, IsPageState, said_of, freed_of, place_of, IsLoaded, IsUnread, is_free, place_of_freeing, info_at, page_content_by, IsRecovered, Page, Bool, drop_more, free_ids, append_assoc, slice_get_within, get_or_from_slice_get, if◌then◌else◌, slice_get, insert_key, nat_cmp}
use Rattle.std.proofs.lemmas.List.{map-id}
use Rattle.sled_pagecache.specs.Inside.Recovery.{places_in}
use Rattle.sled_pagecache.proofs.Table.FreeIds.{behind, later}
use Rattle.sled_pagecache.proofs.CacheLog.ProperPages.{all-append}

pub map-map : {X Y Z : Type 0} (f : Y → Z) (h : X → Y) (xs : List X) → map f (map h xs) ≡ map (λ x. f (h x)) xs
map-map f h [] = refl
map-map f h (x ∷ xs) = ap (λ l. f (h x) ∷ l) (map-map f h xs)

-- ---- a recovered page is kept as its chain says

is-loaded : (chain : Chain) (state : PageState) (page : Page) → IsRecovered state page → IsPageState chain state → IsLoaded chain page
is-loaded chain state page from is =
    let places = map-map place_of info_at (places_in state) ∙ map-id (places_in state) in
    let freed : map place_of_freeing (map info_at (map said_of chain)) ≡ map freed_of chain =
    map-map place_of_freeing info_at (map said_of chain) ∙ map-map (λ place. place_of_freeing (info_at place)) said_of chain in
    let infos = from.infos in
    let kept = from.kept in
    record {
      kept = record { places = λ full. grind arith; at = grind arith; holds = grind arith };
      stamp = from.stamp;
    }

pub all-loaded : (chains : List Chain) (states : List PageState) (pages : List Page) → AllZip IsRecovered states pages → AllZip IsPageState chains states → AllZip IsLoaded chains pages
all-loaded [] [] [] from are = tt
all-loaded (chain ∷ chains) (state ∷ states) (page ∷ pages) from are =
    (is-loaded chain state page from.0 are.0, all-loaded chains states pages from.1 are.1)
all-loaded chains states pages from are = absurd (assumption (from, are))

pub all-unread : (states : List PageState) (pages : List Page) → AllZip IsRecovered states pages → AllByRecursion (λ page. IsUnread page.kept) pages
all-unread [] [] from = tt
all-unread (state ∷ states) (page ∷ pages) from = (subst IsUnread (sym from.0.kept) (let unread : IsUnread (page_content_by state) = grind arith in unread), all-unread states pages from.1)
all-unread states pages from = absurd from

-- lists side by side so far, and one more
pub zip-more : {A B : Type 0} (R : A → B → Type 0) (xs : List A) (ys : List B) (i : ℕ) (x : A) (y : B) → i < length xs → AllZip R (take i xs) ys → R (get_or xs i x) y → AllZip R (take (i + 1) xs) (ys ++ y ∷ [])
zip-more R xs ys i x y lt all one = rw (take_more xs i x lt) (zip-append R (take i xs) ys (get_or xs i x ∷ []) (y ∷ []) all (one, tt))

-- ---- the first page that no cache leaves so

pub if-some : {X : Type 0} {P : X → Type 0} (o : Option X) → ((x : X) → o ≡ Some x → P x) → IfSome o P
if-some None all = tt
if-some (Some x) all = all x refl

-- ---- the ids of the free pages

drop-at : (pages : List Page) (pid : ℕ) (page : Page) → slice_get pages pid ≡ Some page → drop pid pages ≡ page ∷ drop (pid + 1) pages
drop-at pages pid page at = drop_more pages pid page (slice_get_within pages pid page at) ∙ ap (λ (p : Page). p ∷ drop (pid + 1) pages) (get_or_from_slice_get pages pid page page at)

module _ (pages : List Page) (ids now : List ℕ) (pid : ℕ) (less : AllByRecursion (λ id. id < pid) ids) (so_far : ids ++ free_ids pid (drop pid pages) ≡ free_ids 0 pages) where
  abbrev rest : List ℕ
  rest = free_ids (pid + 1) (drop (pid + 1) pages)

  -- those so far, with the page at this id
  pub free-taken : (page : Page) → slice_get pages pid ≡ Some page → is_free page.kept ≡ true → now ≡ insert_key nat_cmp ids pid → AllByRecursion (λ id. id < pid + 1) now × (now ++ rest ≡ free_ids 0 pages)
  free-taken page at free put =
      let is : now ≡ ids ++ pid ∷ [] = put ∙ behind pid ids less in
      let step = ap (free_ids pid) (drop-at pages pid page at) ∙ ap (λ (b : Bool). if b then pid ∷ rest else rest) free in (
        subst (AllByRecursion (λ id. id < pid + 1)) (sym is) (all-append _ ids (pid ∷ []) (later pid ids less) (omega arith, tt)),
        ap (λ (l : List ℕ). l ++ rest) is ∙ append_assoc ids (pid ∷ []) rest ∙ ap (λ (l : List ℕ). ids ++ l) (sym step) ∙ so_far,
      )

  pub free-passed : (page : Page) → slice_get pages pid ≡ Some page → is_free page.kept ≡ false → now ≡ ids → AllByRecursion (λ id. id < pid + 1) now × (now ++ rest ≡ free_ids 0 pages)
  free-passed page at full is =
      let step = ap (free_ids pid) (drop-at pages pid page at) ∙ ap (λ (b : Bool). if b then pid ∷ rest else rest) full in
      (subst (AllByRecursion (λ id. id < pid + 1)) (sym is) (later pid ids less), ap (λ (l : List ℕ). l ++ rest) is ∙ ap (λ (l : List ℕ). ids ++ l) (sym step) ∙ so_far)
