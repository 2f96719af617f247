use Rattle.std.proofs.Common.{take}
use Rattle.std.specs.List.{AllZip}
use Rattle.sled_disk.specs.RecoveredHeads.{IsShown}
use Rattle.sled_disk.specs.Reading.{chains_of}
use Rattle.sled_disk.proofs.recovery.pages.pages_of.Given as goal

abbrev pub invariant-loop-chain : goal.invariant-loop-chain
invariant-loop-chain l = AllZip IsShown (chains_of (take l.chain-index l.chains)) l.pages.items
