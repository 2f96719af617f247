-- A handle may go to another thread, as its cache may.
use Rattle.std.specs.Prelude.{Bool, Option, None, Some}
use mir.Raw.{raw}
use base.Shift.{Keyless}
use denote.Memory.{lone}
use denote.RawPtr.{Ptr}
use denote.Struct.Struct.{exits_of}
use denote.Struct.Owning.{shape, fields, to}
use denote.Param.Send.{IsSend, AllSend, owning_send, struct_send, sendable}
use Rattle.std.proofs.Crossing as heap
use Rattle.std_alloc.proofs.SendSync.{quiet, lies}
use Rattle.sled_handle.specs.Handles.{handle_owns}
use Rattle.sled_handle.specs.contracts.handle.Handle.{the_row, the_type}
use Rattle.sled_handle.proofs.Handled.{R}
use Rattle.sled_handle.proofs.store.Store.TheSendSync.{the_send as store_send}
use Rattle.sled_disk.proofs.disk.callers_file.UnseenFile.TheSendSync.{the_send as file_send}
use Rattle.sled_disk.proofs.disk.staged.StagedDisk.TheSendSync.{the_send as disk_send}
use Rattle.sled_disk.proofs.log.DiskLog.TheSendSync.{the_send as log_send}

sent : IsSend R
sent = search (sendable, store_send, file_send, disk_send, log_send)

beside : (p : Ptr) (b : Bool) (x : Option R.Denot) → Keyless (handle_owns R p b x)
beside p b None = tt
beside p b (Some y) = (tt, λ a. (lies R sent p y, heap.frees.frees a (raw (lone R.mir)) p))

pub send : IsSend the_row
send =
    let all : AllSend (fields the_type) = (search sendable, (search sendable, tt)) in
    owning_send the_type all (λ d. beside d.at d.is_open d.store)
    (λ k. quiet (to the_type) (exits_of k (fields the_type)) ((struct_send (shape the_type) all).leaving k))
