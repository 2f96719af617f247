use Rattle.std.proofs.Common.{false, arith}
use Rattle.sled_disk.proofs.Frames.PendingBuffer.{parsed-none, none-open, none-own}
use Rattle.sled_disk.proofs.format.next_frame.NextFrame.new.Goals as goal

pub invariant_of-result-clause-parsed : goal.invariant_of-result-clause-parsed
invariant_of-result-clause-parsed c = parsed-none c.put.new.buffer.items (let l = c.put.ensures.len in let m = c.reserve.ensures.len in let n = c.new-buffer.ensures.len in omega arith)

pub invariant_of-result-clause-batch_is : goal.invariant_of-result-clause-batch_is
invariant_of-result-clause-batch_is c = none-open c.put.new.buffer.items false (let l = c.put.ensures.len in let m = c.reserve.ensures.len in let n = c.new-buffer.ensures.len in omega arith)

pub invariant_of-result-clause-own : goal.invariant_of-result-clause-own
invariant_of-result-clause-own c = none-own c.put.new.buffer.items (let l = c.put.ensures.len in let m = c.reserve.ensures.len in let n = c.new-buffer.ensures.len in omega arith)
