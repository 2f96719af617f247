use Rattle.std.proofs.Common.{◌-◌, List, [], Result, Ok, Err, map, ◌∙◌, ap, subst}
use Rattle.std.specs.Prelude.{IfOk, IfErr, min}
use Rattle.sled_log.specs.Chains.{chains_after}
use Rattle.sled_log.specs.Events.{Event}
use Rattle.sled_log.specs.LogState.{LogState}
use Rattle.sled_log.specs.Messages.{Entry, messages_of, effect_of_entry}
use Rattle.sled_disk.specs.declared.disk.memory.MemDisk.{MemDisk}
use Rattle.sled_disk.specs.DiskMemory.{bytes_of, clock_of, might_have_left}
use Rattle.sled_disk.specs.AppendedFrameLaws.{one-meaning}
use Rattle.sled_disk.proofs.laws.crashes.reopen_after_a_crash.Goals as goal

if_ok : {T E : Type 0} (P Q : T → Type 0) (r : Result T E) → ((x : T) → P x → Q x) → IfOk r P → IfOk r Q
if_ok P Q (Ok x) f p = f x p
if_ok P Q (Err e) f p = _

if_err : {T E : Type 0} (P Q : E → Type 0) (r : Result T E) → ((e : E) → P e → Q e) → IfErr r P → IfErr r Q
if_err P Q (Ok x) f p = _
if_err P Q (Err e) f p = f e p

pub returns-clause-left : goal.returns-clause-left
returns-clause-left c =
    let bytes = bytes_of c.stop-left.result in
    let left = subst (λ (disk : MemDisk). might_have_left disk (min (c.args.n - 1) (clock_of disk)) bytes) c.into_disk.ensures c.stop-left.ensures.left in
    if_ok _ _ c.open.result
    (λ new opened. (
      bytes,
      left,
      λ events other. ap (λ (state : LogState Entry). map messages_of state.stable) opened.2 ∙ ap (λ (l : List (Event Entry)). map messages_of (chains_after effect_of_entry [] l)) (one-meaning bytes opened.0 events opened.1 other),
    ))
    (c.open.ensures.opened tt)

pub returns-clause-sound : goal.returns-clause-sound
returns-clause-sound c =
    let bytes = bytes_of c.stop-left.result in
    let left = subst (λ (disk : MemDisk). might_have_left disk (min (c.args.n - 1) (clock_of disk)) bytes) c.into_disk.ensures c.stop-left.ensures.left in
    if_err _ _ c.open.result (λ e corrupt is pages. (bytes, left, λ events other. absurd (corrupt is events other))) (c.open.ensures.corrupt tt)
