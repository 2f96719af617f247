-- A flush, and the size of the log, as steps of the machine.
use Rattle.sled_pagecache.proofs.Names.{Recency, ◌≡◌, ℕ, Bool, true, false, List, [], Ok, Err, refl, ◌∙◌, Write, Ghosts, Cache, Acts, Went, Flushed, Sized, Flush, SizeOnDisk, Config, StickyLog, Page, BatchOpen, view}
use Rattle.sled_base.specs.declared.types.Error.TheVariants.{Unsupported, Io}
use Rattle.sled_pagecache.proofs.Steps.CacheSteps.{steps-went}
use Rattle.sled_pagecache.proofs.Steps.CallOutcomes.{KnowsNow, leads-fault, steps-uncalled, steps-untold}

module _ {L : Type 0} (g : Ghosts L) (next : ℕ) (config : Config) (recovered : Bool) (lru : Recency) (pages : List Page) (before : StickyLog L) (ready : before.fault ≡ false) where
  abbrev cache : StickyLog L → Cache L
  cache sticky_log = view next config recovered lru sticky_log pages

  -- a size changes nothing
  pub sizes : (n : ℕ) → (g.state before.log).usable ≡ true → KnowsNow g before → Acts g (cache before) SizeOnDisk (Sized (Ok n)) (cache before)
  sizes n usable only = steps-uncalled g next config recovered lru before pages ready SizeOnDisk (Sized (Ok n)) usable only (λ held s is clear. rw clear refl)

  -- inside a batch nothing is flushed
  pub flush_is_too_early : before.batch ≡ true → (g.state before.log).usable ≡ true → KnowsNow g before → Acts g (cache before) Flush (Flushed (Err (Unsupported BatchOpen))) (cache before)
  flush_is_too_early opened usable only =
      steps-uncalled g next config recovered lru before pages ready Flush (Flushed (Err (Unsupported BatchOpen))) usable only (λ held s is clear. rw (clear, is.batch ∙ opened) (refl, refl))

  module _ (none : before.batch ≡ false) (after : StickyLog L) (went : Went g before after []) where
    pub flushes : (n : ℕ) → after.fault ≡ false → Acts g (cache before) Flush (Flushed (Ok n)) (cache after)
    flushes n free = steps-untold g next config recovered lru before pages ready Flush after pages refl (Flushed (Ok n)) went free (λ held s is clear. rw (clear, is.batch ∙ none) refl)

    pub flush_is_refused : after.fault ≡ true → Acts g (cache before) Flush (Flushed (Err (Io Write))) (cache after)
    flush_is_refused kept =
        steps-went g (cache before) (cache after) before after Flush (Flushed (Err (Io Write))) [] (record { config = refl; recovered = refl }) refl refl refl ready went
        (λ held s is clear. leads-fault g (cache before) (cache after) held s is clear Flush (Flushed (Err (Io Write))) refl (rw (clear, is.batch ∙ none) (refl, refl)) refl kept)
