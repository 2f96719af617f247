-- A snapshot of a cache: what it says of the log, and the call as a step of the machine.
use Rattle.sled_pagecache.proofs.Names.{◌≡◌, ℕ, Cache, true, false, Bool, List, [], ◌∷◌, Some, None, Ok, Err, refl, sym, ◌∙◌, arith, length-map, AllByRecursion, AllZip, AllZip-long, is_chain, is_empty, Chain, Entry, effect_of_entry, Ghosts, Recency, Config, StickyLog, Page, IsKept, IsBeside, IsPageState, PageState, StampedPage, Steps, TakeFuzzySnapshot, TookSnapshot, now, view}
use Rattle.sled_base.specs.declared.types.Error.TheVariants as error
use Rattle.sled_base.specs.declared.types.page_state.PageState.TheVariants as said
use Rattle.sled_pagecache.proofs.Steps.CallOutcomes.{KnowsNow, steps-uncalled}
use Rattle.sled_pagecache.proofs.Table.StatePages.{AreKnown, kept-free, known-in}
use Rattle.sled_pagecache.specs.Snapshots.{IsSnapshot}
use Rattle.sled_pagecache.specs.Step.{SaysPage}
use Rattle.sled_pagecache.specs.Table.{IsSaidBy}
use Rattle.sled_pagecache.specs.declared.pagecache.handles.snapshot.Snapshot.{Snapshot}

-- ---- a page is said as its chain is

-- a message that frees a page is alone in its chain
lone : (chain : Chain) → is_chain effect_of_entry chain ≡ true → is_empty effect_of_entry chain ≡ true → (first : Entry) × (chain ≡ first ∷ [])
lone [] is free = absurd (let h = is in cc)
lone (first ∷ []) is free = (first, refl)
lone (first ∷ next ∷ chain) is free = absurd (grind arith)

said-chain : (chain : Chain) (page : Page) (state : PageState) → IsKept chain page → is_chain effect_of_entry chain ≡ true → IsSaidBy page state → IsPageState chain state
said-chain chain page (said.Present base frags) kept is says = (kept-free chain page.kept kept.holds ∙ says.0, kept.places says.0 ∙ says.1)
said-chain chain page (said.Free lsn pointer) kept is says =
    let free = kept-free chain page.kept kept.holds ∙ says.0 in
    let alone = lone chain is free in
    let at = kept.at in
    (free, grind (arith, alone.1, says.1))

said-chains : (chains : List Chain) (table : List Page) (states : List PageState) → AllZip IsKept chains table → AllByRecursion (λ chain. is_chain effect_of_entry chain ≡ true) chains → AllZip IsSaidBy table states
    → AllZip IsPageState chains states
said-chains [] [] [] kept are says = tt
said-chains (chain ∷ chains) (page ∷ table) (state ∷ states) kept are says =
    (said-chain chain page state kept.0 are.0 says.0, said-chains chains table states kept.1 are.1 says.1)
said-chains chains table states kept are says = grind arith

-- ---- and free where the machine has it free

says-pages : (pages : List StampedPage) (table : List Page) (states : List PageState) → AreKnown pages table → AllZip IsSaidBy table states → AllZip SaysPage pages states
says-pages [] [] [] known says = tt
says-pages (p ∷ pages) (page ∷ table) (state ∷ states) known says =
    let free = known.0.free in
    let first : SaysPage p state = grind (arith, free, says.0) in
    (first, says-pages pages table states known.1 says.1)
says-pages pages table states known says = grind arith

-- ---- the call

module _ {L : Type 0} (g : Ghosts L) (next : ℕ) (config : Config) (recovered : Bool) (lru : Recency) (log : StickyLog L) (table : List Page) (ready : log.fault ≡ false) (beside : IsBeside g.tells g.state log.log table) where
  abbrev cache : Cache L
  cache = view next config recovered lru log table

  pub is-snapshot : (snapshot : Snapshot) → AllZip IsSaidBy table snapshot.pt.items → snapshot.stable_lsn ≡ Some (g.stable_bytes log.log) → snapshot.active_segment ≡ None → IsSnapshot g cache snapshot
  is-snapshot snapshot says stable segment = record {
    stable = stable;
    segment = segment;
    many = AllZip-long IsSaidBy table snapshot.pt.items says ∙ sym (length-map table (λ (page : Page). page.stamp));
    pages = λ told. said-chains (now effect_of_entry (g.state log.log)) table snapshot.pt.items (beside.kept told) (beside.chains told) says;
  }

  module _ (only : KnowsNow g log) where
    pub snaps : (snapshot : Snapshot) → AllZip IsSaidBy table snapshot.pt.items → Steps g cache TakeFuzzySnapshot (TookSnapshot (Ok snapshot)) cache
    snaps snapshot says =
        steps-uncalled g next config recovered lru log table ready TakeFuzzySnapshot (TookSnapshot (Ok snapshot)) beside.usable only
        (λ held s is clear. rw clear (says-pages s.pages table snapshot.pt.items (known-in g cache table held s is clear refl beside) says, refl))

    pub snaps-refused : Steps g cache TakeFuzzySnapshot (TookSnapshot (Err error.OutOfMemory)) cache
    snaps-refused = steps-uncalled g next config recovered lru log table ready TakeFuzzySnapshot (TookSnapshot (Err error.OutOfMemory)) beside.usable only (λ held s is clear. rw clear (refl, refl))
