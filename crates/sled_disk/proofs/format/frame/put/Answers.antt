use Rattle.std.proofs.Common.{◌≡◌, rules, ◌++◌, sym, subst, arith}
use Rattle.sled_disk.specs.Format.{IsBytes}
use Rattle.sled_disk.proofs.Frames.PendingBuffer.{IsBytes-append}
use Rattle.sled_disk.proofs.format.frame.put.Goals as goal

pub returns-clause-are_bytes : goal.returns-clause-are_bytes
returns-clause-are_bytes c = λ h. subst IsBytes (sym (let e : c.extend_from_slice.new.self.items ≡ c.args.buffer.now.items ++ c.args.bytes.now = search rules in e)) (IsBytes-append c.args.buffer.now.items c.args.bytes.now h (λ i. omega (arith, c.type_inv.bytes i)))
