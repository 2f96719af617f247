-- The cache's own pages, as they are read from a log, and as they are made.
use Rattle.sled_pagecache.proofs.Names.{All, Any, CacheInfo, Chain, Content, Counter, DiskPtr, Entry, IsAt, IsFit, IsLoaded, IsOnly, IsReadAs, IsUpdate, LeadTo, List, Makes, MessageKind, Messages, Node, Page, Put, Refusal, RefusesMessage, RefusesOwn, Roots, Some, Update, WholeNode, [], ap, applied, arith, effect_of_entry, effect_of_update, false, freed_of, get_or, is_empty, is_free, is_freeing, is_misfit, length, length-map, map, message, messages_of, nat_tests, place_of, place_of_freeing, reads_effect, refl, said_of, slice_get, slice_get-map, subst, sym, true, ℕ, ℤ, ◌<◌, ◌∙◌, ◌∷◌, ◌≡◌}
use Rattle.sled_pagecache.proofs.Table.PageChains.{kept-long}
use Rattle.sled_pagecache.proofs.Links.LinkedChains.{full-free}
use Rattle.sled_base.specs.declared.kinds.MessageKind.TheVariants as kinds
use Rattle.sled_pagecache.proofs.Memory.Pulls.{read-is}

-- ---- what makes the named roots or the counter is one message

abbrev pub IsOwn : Content → Type 0
IsOwn (Roots roots) = Unit {0}
IsOwn (Counter n) = Unit {0}
IsOwn other = ⊥

-- what leads from a node leads to a node
node-leads : (node : WholeNode) (messages : Messages) (content : Content) → IsOwn content → LeadTo (Node node) messages content → ⊥
node-leads node [] content own h = subst IsOwn (sym h) own
node-leads node (m ∷ messages) content own h = node-leads (applied h.1 h.0) messages content own h.5

pub own-one : (chain : Chain) (content : Content) → IsOwn content → Makes (messages_of chain) content → (length chain ≡ 1) × (is_empty effect_of_entry chain ≡ false)
own-one [] content own h = absurd h
own-one (entry ∷ []) content own h =
    (refl, ap is_freeing (reads_effect entry.message.kind entry.message.payload (Put h.0) h.1) ∙ ap (λ (c : Content). is_freeing (effect_of_update (Put c))) h.2 ∙ (let e : is_freeing (effect_of_update (Put content)) ≡ false = grind arith in e))
own-one (entry ∷ next ∷ chain) content own h = absurd (node-leads (applied h.2.1 h.2.0) (messages_of chain) content own h.2.5)

-- ---- which pages are so

-- a page that no cache leaves so isn't fit
pub misfit-unfit : (pid : ℕ) (chain : Chain) (page : Page) → IsLoaded chain page → is_misfit pid page ≡ true → ¬ IsFit pid chain
misfit-unfit pid chain page is misfit fit = grind (arith, nat_tests, own-one chain, full-free chain page.kept, kept-long chain page is.kept, is.kept.holds)

-- a system page that is fit has one message, and isn't free
pub fits-one : (pid : ℕ) (page : Page) → pid < 2 → 0 < length page.infos.items → is_misfit pid page ≡ false → (length page.infos.items ≡ 1) × (is_free page.kept ≡ false)
fits-one pid page own some fits = (grind (arith, nat_tests), grind (arith, nat_tests))

-- ---- the pointer of the first message

pub first-pointer : (chain : Chain) (infos : List CacheInfo) (pointer : DiskPtr) → map freed_of chain ≡ map place_of_freeing infos
    → slice_get (map (λ (info : CacheInfo). info.pointer) infos) 0 ≡ Some pointer → slice_get (map (λ (entry : Entry). entry.place.pointer) chain) 0 ≡ Some pointer
first-pointer chain infos pointer at is =
    grind (arith, slice_get-map freed_of chain 0, slice_get-map place_of_freeing infos 0, slice_get-map (λ (info : CacheInfo). info.pointer) infos 0, slice_get-map (λ (entry : Entry). entry.place.pointer) chain 0)

-- the one message of a page is kept where the page keeps it
pub only-place : (chain : Chain) (infos : List CacheInfo) (info : CacheInfo) → map said_of chain ≡ map place_of infos → length infos ≡ 1 → slice_get infos 0 ≡ Some info → (entry : Entry) × (chain ≡ entry ∷ []) × IsAt info.lsn info.pointer entry
only-place (entry ∷ []) (first ∷ []) info known one at =
    let is : first ≡ info = cc in
    let said : said_of entry ≡ place_of first = ap (λ (l : List (ℤ × DiskPtr × ℕ)). get_or l 0 (place_of first)) known in (
      entry,
      refl,
      (ap (λ (s : ℤ × DiskPtr × ℕ). s.0) said ∙ ap (λ (i : CacheInfo). i.lsn) is, ap (λ (s : ℤ × DiskPtr × ℕ). s.1) said ∙ ap (λ (i : CacheInfo). i.pointer) is),
    )
only-place [] (first ∷ []) info known one at = absurd (cc known)
only-place (entry ∷ next ∷ chain) (first ∷ []) info known one at = absurd (let long = ap length known in omega (arith, long, length-map chain said_of))
only-place chain infos info known one at = absurd (omega (arith, one))

module _ (chain : Chain) (infos : List CacheInfo) (info : CacheInfo) (lsn : ℤ) (known : map said_of chain ≡ map place_of infos) (one : length infos ≡ 1) (first : slice_get infos 0 ≡ Some info) (is : lsn ≡ info.lsn) where
  placed : (entry : Entry) × (chain ≡ entry ∷ []) × IsAt lsn info.pointer entry
  placed = let place = only-place chain infos info known one first in (place.0, place.1, (place.2.0 ∙ sym is, place.2.1))

  pub only-known : Any (IsAt lsn info.pointer) chain
  only-known = let place = placed in subst (λ (l : Chain). Any (IsAt lsn info.pointer) l) (sym place.1) (0, place.0, omega arith, refl, place.2)

  -- so what was read there is all of it
  pub only-read : (kind : MessageKind) (payload : List ℕ) → All (λ entry. IsAt lsn info.pointer entry → IsReadAs entry kind payload) chain → IsOnly chain kind payload info.pointer
  only-read kind payload read =
      let place = placed in
      let all : All (λ entry. IsAt lsn info.pointer entry → IsReadAs entry kind payload) (place.0 ∷ []) = subst (λ (l : Chain). All (λ entry. IsAt lsn info.pointer entry → IsReadAs entry kind payload) l) place.1 read in
      (place.0, place.1, all 0 place.0 (omega arith) place.2, sym place.2.1)

-- the same payload, lent
pub only-lent : (chain : Chain) (kind : MessageKind) (payload lent : List ℕ) (pointer : DiskPtr) → IsOnly chain kind payload pointer → lent ≡ payload → IsOnly chain kind lent pointer
only-lent chain kind payload lent pointer only is = (only.0, only.1, (only.2.0, is ∙ only.2.1), only.3)

-- ---- what one message makes

module _ (chain : Chain) (kind : MessageKind) (payload : List ℕ) (pointer : DiskPtr) (only : IsOnly chain kind payload pointer) where
  only-says : (u : Update) → IsUpdate (message kind payload) u ≡ IsUpdate only.0.message u
  only-says = read-is only.0 kind payload only.2

  pub only-makes : (content : Content) → IsUpdate (message kind payload) (Put content) → Makes (messages_of chain) content
  only-makes content is =
      subst (λ (chain : Chain). Makes (messages_of chain) content) (sym only.1) (content, subst (λ (T : Type 0). T) (only-says (Put content)) is, refl)

  pub only-made : (content : Content) → Makes (messages_of chain) content → IsUpdate (message kind payload) (Put content)
  only-made content makes =
      let made : Makes (only.0.message ∷ []) content = subst (λ (chain : Chain). Makes (messages_of chain) content) only.1 makes in
      subst (λ (T : Type 0). T) (sym (only-says (Put content))) (subst (λ (c : Content). IsUpdate only.0.message (Put c)) made.2 made.1)

  only-at : slice_get (map (λ (entry : Entry). entry.place.pointer) chain) 0 ≡ Some pointer
  only-at = ap (λ (chain : Chain). slice_get (map (λ (entry : Entry). entry.place.pointer) chain) 0) only.1 ∙ ap (λ (p : DiskPtr). Some p) (sym only.3)

  -- why it was refused
  pub refuses-only : (pid : ℕ) (amiss : Type 0) → (amiss → ¬ IsFit pid chain) → (e : Refusal) → RefusesMessage pointer amiss e → RefusesOwn pid chain e
  refuses-only pid amiss unfit e r = let at = only-at in grind arith

-- one that frees its page leaves it empty
pub only-full : (chain : Chain) (kind : MessageKind) (payload : List ℕ) (pointer : DiskPtr) → IsOnly chain kind payload pointer → is_empty effect_of_entry chain ≡ false → kind ≡ kinds.Free → ⊥
only-full chain kind payload pointer (entry, is, read, at) full free =
    let full : is_empty effect_of_entry (entry ∷ []) ≡ false = ap (is_empty effect_of_entry) (sym is) ∙ full in
    grind arith
