use Rattle.std.proofs.Common.{◌≡◌, ℕ, ℤ, inr, [], ◌∷◌, refl, ◌∙◌, ap, arith}
use Rattle.std.specs.List.{Any}
use Rattle.sled_base.specs.declared.kinds.MessageKind.TheVariants as kinds
use Rattle.sled_base.specs.declared.types.DiskPtr.{DiskPtr}
use Rattle.sled_base.specs.declared.types.DiskPtr.TheVariants.{Inline, Blob}
use Rattle.sled_log.specs.Messages.{Chain}
use Rattle.sled_log.specs.Moves.{NamesBlob, IsBlob}
use Rattle.sled_log.specs.Pages.{IsAt}
use Rattle.sled_log.specs.declared.log.LogError.TheVariants.{Corruption}
use Rattle.sled_disk.specs.declared.recovery.head.Head.{Head}
use Rattle.sled_disk.specs.Reading.{chains_of}
use Rattle.sled_disk.specs.PendingFrame.{batch_of}
use Rattle.sled_disk.proofs.Chains.MessageLookup.{known-place}
use Rattle.sled_disk.proofs.LogCalls.CallOutcomes.{called-refused, rests-same}
use Rattle.sled_disk.proofs.log.calls.DiskLogLog.rewrite_blob_pointer.Goals as goal

no_head : Head
no_head = record { kind = kinds.Corrupted; place = 0; len = 0 }

-- a chain that is a blob has an entry whose pointer names it
named : (blob : ℤ) (chain : Chain) → IsBlob blob chain → (lsn : ℤ) × (place : ℕ) × Any (IsAt lsn (Blob place blob)) chain
named blob [] h = absurd h
named blob (entry ∷ chain) h = by entry.place.pointer refl h.1
  where
    by : (pointer : DiskPtr) → entry.place.pointer ≡ pointer → NamesBlob blob pointer → (lsn : ℤ) × (place : ℕ) × Any (IsAt lsn (Blob place blob)) (entry ∷ chain)
    by (Inline place) is names = absurd names
    by (Blob place other) is names = (entry.place.lsn, place, (0, entry, omega arith, refl, (refl, is ∙ ap (λ (n : ℤ). Blob place n) names)))

pub returns-clause-called : goal.returns-clause-called
returns-clause-called g c =
    let log = c.args.self.now in
    called-refused g.D.Disk (λ disk left told was. g.met.D.Disk.only_now disk left told was) (λ disk told i. g.met.D.Disk.are_bytes disk i told)
    log log _ _ Corruption (inr (inr refl))
    (λ told is.
    let blob = named _ _ (c.requires.holds told) in
    let k = known-place (g.D.Disk.seen log.disk) log.next.gate log.next.spilled log.next.buffer.items log.usable (batch_of log.next) (chains_of log.pages.items) (λ i. g.met.D.Disk.are_bytes log.disk i told) (log.stands told c.requires.usable) log.next.are_bytes log.next.front log.next.parsed log.next.own c.args._pid blob.0 _ no_head blob.2 in
    cc)
    (rests-same g.D.Disk.seen g.D.Disk.may_leave g.D.Disk.moment g.D.Disk.left_since g.D.Disk.tells log.disk) refl c.requires.usable refl (record { gate = refl; spilled = refl; records = refl })
    c.requires.usable
