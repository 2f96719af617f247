use Rattle.std.proofs.Common.{List, [], sym, subst}
use Rattle.std.specs.Prelude.{Result, Ok, Err, OnOk}
use Rattle.std.specs.List.{AllZip, AllByRecursion}
use Rattle.std.proofs.lemmas.Result.{IfOk-weaker}
use Rattle.sled_log.specs.Chains.{chains_after}
use Rattle.sled_log.specs.Messages.{Chain, effect_of_entry}
use Rattle.sled_log.specs.Pages.{IsPageState}
use Rattle.sled_log.specs.Inside.ShapeLaws.{chains-are}
use Rattle.std.specs.Global.{Vec}
use Rattle.sled_disk.specs.declared.recovery.head.Head.{Head}
use Rattle.sled_disk.specs.RecoveredHeads.{AreHeads, IsShown}
use Rattle.sled_disk.specs.Reading.{chains_of}
use Rattle.sled_disk.specs.Pending.{room_after}
use Rattle.sled_disk.specs.LogContents.{events_in}
use Rattle.sled_disk.specs.PendingFrame.{pending_of, batch_of}
use Rattle.sled_disk.proofs.Frames.RecordAppend.{heads-now, bytes}
use Rattle.sled_disk.proofs.LogCalls.CallOutcomes.{called-nothing}
use Rattle.sled_disk.proofs.Chains.PageStates.{pages-in}
use Rattle.sled_disk.proofs.Chains.ChainSizes.{stands-sized, waits-small}
use Rattle.sled_disk.proofs.log.calls.DiskLogLog.recover.Goals as goal

if_any : {T E A : Type 0} (r : Result T E) → A → OnOk r A
if_any (Ok x) a = a
if_any (Err e) a = _

pub returns-clause-called : goal.returns-clause-called
returns-clause-called g c =
    let log = c.args.self.now in
    let next = log.next in
    called-nothing g.D.Disk (λ disk left told was. g.met.D.Disk.only_now disk left told was) (λ disk told i. g.met.D.Disk.are_bytes disk i told)
    log c.pages_of.result c.pages_of.ensures.only
    (λ told is. c.pages_of.ensures.sound (subst (λ (l : List (Vec Head)). AllByRecursion AreHeads (chains_of l)) (sym c.deref.ensures.value) log.heads) is)
    c.requires.usable

pub returns-clause-sized : goal.returns-clause-sized
returns-clause-sized g c = λ told.
    let log = c.args.self.now in
    let next = log.next in
    if_any c.pages_of.result
    (stands-sized (g.D.Disk.seen log.disk) next.gate next.spilled next.buffer.items log.usable (batch_of next) (chains_of log.pages.items) (λ i. g.met.D.Disk.are_bytes log.disk i told) (log.stands told c.requires.usable) next.own
    (waits-small next.gate (room_after next.batch) next.buffer.items next.are_bytes next.front next.parsed next.small next.fits))

pub returns-clause-chains : goal.returns-clause-chains
returns-clause-chains g c = λ told.
    let log = c.args.self.now in
    let next = log.next in
    if_any c.pages_of.result
    (let seen = g.D.Disk.seen log.disk in chains-are effect_of_entry (chains_after effect_of_entry [] (events_in seen)) (pending_of seen next) (chains-are effect_of_entry [] (events_in seen) tt))

pub returns-clause-pages : goal.returns-clause-pages
returns-clause-pages g c = λ told.
    let log = c.args.self.now in
    let next = log.next in
    let seen = g.D.Disk.seen log.disk in
    let heads = chains_of log.pages.items in
    let all = bytes seen next.gate next.spilled next.buffer.items (batch_of next) heads (λ i. g.met.D.Disk.are_bytes log.disk i told) (log.stands told c.requires.usable) in
    let is = heads-now seen next.gate next.spilled next.buffer.items (batch_of next) heads (λ i. g.met.D.Disk.are_bytes log.disk i told) (log.stands told c.requires.usable) log.usable next.own in
    IfOk-weaker c.pages_of.result _ _ (λ pages shown. subst (λ (l : List Chain). AllZip IsPageState l pages.items) is (pages-in all heads pages.items (subst (λ (l : List (Vec Head)). AllZip IsShown (chains_of l) pages.items) c.deref.ensures.value shown))) c.pages_of.ensures.shown
