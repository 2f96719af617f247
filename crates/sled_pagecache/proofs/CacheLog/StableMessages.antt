-- A message that was written and then made stable.
use Rattle.sled_pagecache.proofs.Names.{CacheInfo, Change, Err, Ghosts, HasGrown-since, Io, IsCaused, Ok, Refusal, Result, StickyLog, Update, Went, Went-last, Write, Wrote, [], ap, effect_of_entry, false, message_of, ℕ, ◌∷◌, ◌≡◌, now, arith}

module _ {L : Type 0} (g : Ghosts L) (old mid new : StickyLog L) (pid : ℕ) (update : Update) (stamp : ℕ) (info : CacheInfo)
    (wrote : Wrote g old mid pid update stamp (Ok info))
    (went : Went g mid new [])
    (reads : (g.counts new.log).reads ≡ (g.counts mid.log).reads) where
  both : Went g old new (Change pid (message_of update) ∷ [])
  both = Went-last g old mid new (Change pid (message_of update) ∷ []) wrote.writes.went wrote.writes.cause.fault went

  pub durable-done : new.fault ≡ false → (g.tells → new.fault ≡ false → now effect_of_entry (g.state new.log) ≡ now effect_of_entry (g.state mid.log))
      → Wrote g old new pid update stamp (Ok info)
  durable-done free same =
      grind (arith, both)

  pub durable-failed : (refusal : Refusal) → refusal ≡ Io Write → (let failed : Result ℕ Refusal = Err refusal in IsCaused g mid new ⊥ failed)
      → Wrote g old new pid update stamp (Err refusal)
  durable-failed refusal is cause =
      let grown = HasGrown-since (g.counts old.log).write_faults (g.counts mid.log).write_faults (g.counts new.log).write_faults wrote.writes.went.write_faults (cause.write (ap Err is)) in
      grind (arith, both)
