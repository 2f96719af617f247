use Rattle.std.proofs.Common.{length, take, ap, ◌∙◌}
use Rattle.sled_base.proofs.Payloads.LowBytes.{le_low, take_low}
use Rattle.sled_base.proofs.serialization.numbers.put_low_bytes.Goals as goal

pub returns : goal.returns
returns c =
    let count = length c.args.out.now in
    c.copy_from_slice.ensures.after ∙ ap (take count) (c.to_le_bytes.ensures ∙ le_low c.args.value) ∙ take_low count 8 c.args.value c.requires
