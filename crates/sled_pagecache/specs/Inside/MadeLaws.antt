-- Which calls were made of a cache, by the contract of each.
use Rattle.std.proofs.Common.{◌≡◌, ◌+◌, ℕ, [], true, false, Result, Ok, Err, inl, inr}
use Rattle.std.specs.Prelude.{IfOk, OnOk}
use Rattle.sled_base.specs.declared.types.Error.{Error}
use Rattle.sled_log.specs.declared.log.Log.{Ghosts}
use Rattle.sled_pagecache.specs.Answers.{Keeps, GivesId, IsCovered}
use Rattle.sled_pagecache.specs.Batches.{CancelsBatch, OpensBatch, SealsBatch}
use Rattle.sled_pagecache.specs.Cache.{Cache}
use Rattle.sled_pagecache.specs.Calls.{IsBlamed, Steps}
use Rattle.sled_pagecache.specs.Rows.{CoversId, IsMade, ReportsBytes}
use Rattle.sled_pagecache.specs.declared.pagecache.handles.call.Answer.TheVariants.{Pinned, Sealed, Cancelled, Generated, Flushed, Sized, Amplified}
use Rattle.sled_pagecache.specs.declared.pagecache.handles.call.Call.TheVariants.{Pin, Seal, Cancel, GenerateId, Flush, SizeOnDisk, SpaceAmplification}

module _ {L : Type 0} (g : Ghosts L) (old new : Cache L) where
  opened : (answer : Result (Unit {0}) Error) → OnOk answer ((old.batch ≡ false) × (new.batch ≡ true)) → OnOk answer (new.batch ≡ true)
  opened (Ok done) h = h.1
  opened (Err e) h = tt

  pub pin-made : (answer : Result (Unit {0}) Error) → OpensBatch g old answer new → IsMade g old Pin (Pinned answer) new
  pin-made answer opens = record {
    step = opens.step;
    bytes = tt;
    faults = opens.blame;
    covered = tt;
    keeps = (record { stamps = opens.stamps; fault = opens.fault; stuck = λ kept. (opens.stuck kept).0 }, opened answer opens.done, opens.refused);
  }

  pub seal-made : (answer : Result (Unit {0}) Error) → SealsBatch g old answer new → IsMade g old Seal (Sealed answer) new
  seal-made answer closes = record {
    step = closes.step;
    bytes = tt;
    faults = closes.blame;
    covered = tt;
    keeps = (record { stamps = closes.stamps; fault = closes.fault; stuck = λ kept. (closes.stuck kept).0 }, closes.closed);
  }

  pub cancel-made : (answer : Result (Unit {0}) Error) → CancelsBatch g old answer new → IsMade g old Cancel (Cancelled answer) new
  cancel-made answer closes = record {
    step = closes.step;
    bytes = tt;
    faults = closes.blame;
    covered = tt;
    keeps = (record { stamps = closes.stamps; fault = closes.fault; stuck = λ kept. (closes.stuck kept).0 }, closes.closed);
  }

  covers : (answer : Result ℕ Error) → IfOk answer (IsCovered g new) → CoversId g (Generated answer) new
  covers (Ok id) h = h
  covers (Err e) h = tt

  leaves : (answer : Result ℕ Error) → IfOk answer (λ _. GivesId g old new) → ReportsBytes g old (Generated answer) new
  leaves (Ok id) (inl put) = inl put.1
  leaves (Ok id) (inr next) = inr next
  leaves (Err e) h = tt

  pub id-made : (answer : Result ℕ Error) → Steps g old GenerateId (Generated answer) new → IsBlamed g old new answer → IfOk answer (IsCovered g new) → Keeps old new answer (λ _. new.stamps)
      → IfOk answer (λ id. (id ≡ old.next) × (new.next ≡ old.next + 1)) → IfOk answer (λ _. GivesId g old new) → IsMade g old GenerateId (Generated answer) new
  id-made answer step blame covered keeps next gives =
      record { step = step; bytes = leaves answer gives; faults = blame; covered = covers answer covered; keeps = (keeps, next) }

  reports : (answer : Result ℕ Error) → IfOk answer (λ n. n ≡ g.to_write old.log) → OnOk answer ((g.state new.log).pending ≡ []) → ReportsBytes g old (Flushed answer) new
  reports (Ok written) number stable = (number, stable)
  reports (Err e) number stable = tt

  pub flush-made : (answer : Result ℕ Error) → Steps g old Flush (Flushed answer) new → IsBlamed g old new answer → IfOk answer (λ n. n ≡ g.to_write old.log) → OnOk answer ((g.state new.log).pending ≡ [])
      → Keeps old new answer (λ _. old.stamps) → IsMade g old Flush (Flushed answer) new
  flush-made answer step blame number stable keeps = record { step = step; bytes = reports answer number stable; faults = blame; covered = tt; keeps = keeps }

  tells-size : (answer : Result (ℕ × ℕ) Error) → IfOk answer (λ sizes. sizes.0 ≡ g.bytes old.log) → ReportsBytes g old (Amplified answer) new
  tells-size (Ok sizes) size = size
  tells-size (Err e) size = tt

  pub amplification-made : (answer : Result (ℕ × ℕ) Error) → Steps g old SpaceAmplification (Amplified answer) new → IsBlamed g old new answer → IfOk answer (λ sizes. sizes.0 ≡ g.bytes old.log)
      → Keeps old new answer (λ _. old.stamps) → IsMade g old SpaceAmplification (Amplified answer) new
  amplification-made answer step blame size keeps = record { step = step; bytes = tells-size answer size; faults = blame; covered = tt; keeps = keeps }

module _ {L : Type 0} (g : Ghosts L) (cache : Cache L) where
  sizes : (answer : Result ℕ Error) → IfOk answer (λ size. size ≡ g.bytes cache.log) → ReportsBytes g cache (Sized answer) cache
  sizes (Ok bytes) size = size
  sizes (Err e) size = tt

  pub size-made : (answer : Result ℕ Error) → Steps g cache SizeOnDisk (Sized answer) cache → IfOk answer (λ size. size ≡ g.bytes cache.log) → Keeps cache cache answer (λ _. cache.stamps)
      → IsMade g cache SizeOnDisk (Sized answer) cache
  size-made answer step size keeps = record { step = step; bytes = sizes answer size; faults = tt; covered = tt; keeps = keeps }
