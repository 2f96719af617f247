use Rattle.std.proofs.Common.{ℕ, List, OnOk, ◌∙◌, subst, arith}
use Rattle.sled_disk.specs.Crash.{BytesLeft, IsShutOrOpened, IsWhole}
use Rattle.sled_disk.proofs.Frames.PendingBuffer.{parsed-none, none-open, none-own}
use Rattle.sled_disk.proofs.format.next_frame.NextFrame.write.Goals as goal

pub returns-then-is_ok-clause-written : goal.returns-then-is_ok-clause-written
returns-then-is_ok-clause-written g c = λ told.
    subst (λ (frame : List ℕ). OnOk c.write_frame-wrote.result (IsWhole c.args.self.now.gate frame (g.D.Disk.seen c.args.disk.now) (g.D.Disk.seen c.write_frame-wrote.new.disk))) (c.deref.ensures.value ∙ c.close.ensures.items) (c.write_frame-wrote.ensures.written told)

pub returns-then-is_ok-clause-stop : goal.returns-then-is_ok-clause-stop
returns-then-is_ok-clause-stop g c = λ told.
    subst (λ (frame : List ℕ). BytesLeft g.D.Disk.moment g.D.Disk.left_since c.args.disk.now c.write_frame-wrote.new.disk (IsShutOrOpened c.args.self.now.gate frame (g.D.Disk.seen c.args.disk.now))) (c.deref.ensures.value ∙ c.close.ensures.items) (c.write_frame-wrote.ensures.stop told)

pub invariant_of-self-clause-are_bytes : goal.invariant_of-self-clause-are_bytes
invariant_of-self-clause-are_bytes g c = c.empty.ensures.are_bytes c.close.ensures.are_bytes

pub invariant_of-self-clause-parsed : goal.invariant_of-self-clause-parsed
invariant_of-self-clause-parsed g c = parsed-none c.empty.new.buffer.items (let l = c.empty.ensures.len in omega arith)

pub returns-else-is_ok-clause-stop : goal.returns-else-is_ok-clause-stop
returns-else-is_ok-clause-stop g c = λ told.
    subst (λ (frame : List ℕ). BytesLeft g.D.Disk.moment g.D.Disk.left_since c.args.disk.now c.write_frame-wrote.new.disk (IsShutOrOpened c.args.self.now.gate frame (g.D.Disk.seen c.args.disk.now))) (c.deref.ensures.value ∙ c.close.ensures.items) (c.write_frame-wrote.ensures.stop told)

pub invariant_of-self-else-is_ok-clause-are_bytes : goal.invariant_of-self-else-is_ok-clause-are_bytes
invariant_of-self-else-is_ok-clause-are_bytes g c = c.empty.ensures.are_bytes c.close.ensures.are_bytes

pub invariant_of-self-else-is_ok-clause-parsed : goal.invariant_of-self-else-is_ok-clause-parsed
invariant_of-self-else-is_ok-clause-parsed g c = parsed-none c.empty.new.buffer.items (let l = c.empty.ensures.len in omega arith)

pub invariant_of-self-clause-batch_is : goal.invariant_of-self-clause-batch_is
invariant_of-self-clause-batch_is g c = none-open c.empty.new.buffer.items c.args.self.now.batch (let l = c.empty.ensures.len in omega arith)

pub invariant_of-self-clause-own : goal.invariant_of-self-clause-own
invariant_of-self-clause-own g c = none-own c.empty.new.buffer.items (let l = c.empty.ensures.len in omega arith)

pub invariant_of-self-else-is_ok-clause-batch_is : goal.invariant_of-self-else-is_ok-clause-batch_is
invariant_of-self-else-is_ok-clause-batch_is g c = none-open c.empty.new.buffer.items c.args.self.now.batch (let l = c.empty.ensures.len in omega arith)

pub invariant_of-self-else-is_ok-clause-own : goal.invariant_of-self-else-is_ok-clause-own
invariant_of-self-else-is_ok-clause-own g c = none-own c.empty.new.buffer.items (let l = c.empty.ensures.len in omega arith)
