-- The moment of the crash is that of the call, or the end.
use Rattle.std.proofs.Common.{◌≡◌, ◌≤◌, ◌+◌, ◌-◌, ap, arith}
use Rattle.std.proofs.Math.Nat.{le-min}
use Rattle.sled_disk.specs.DiskMemory.{clock_of}
use Rattle.sled_disk.specs.declared.disk.memory.MemDisk.{MemDisk}
use Rattle.sled_disk.specs.declared.log.DiskLog.{DiskLog}
use Rattle.sled_pagecache_move_tests.proofs.Runs.{crash_held}
use Rattle.sled_pagecache_move_tests.proofs.tests.runs.crashed.Goals as goal

pub returns-in-Ok : goal.returns-in-Ok
returns-in-Ok c =
    let log = c.in-Ok.ensures in
    let made = c.writes_and_syncs-made.ensures.moment in
    let behind = c.if-made-since.false in
    let same : clock_of c.into_log.result.disk ≡ clock_of c.args.cache.log.disk = ap (λ (l : DiskLog MemDisk _). clock_of l.disk) c.into_log.ensures.log in
    let early : c.args.since ≤ c.args.since + 1 + c.args.later - 1 = omega arith in
    let there : c.args.since ≤ clock_of c.into_log.result.disk = omega (arith, same, made, behind) in
    crash_held _ c.args.cache.log c.into_log.result c.in-Ok.log c.args.since _ c.into_log.ensures.log (le-min early there) log.usable log.pending log.left
