use Rattle.std.proofs.Common.{ap, ◌∙◌, ◌+◌, take, drop}
use Rattle.std.specs.Arc.{arc_value}
use Rattle.sled_base.proofs.Parts.{part_of_part}
use Rattle.sled_base.proofs.kept.Part.part.Goals as goal

-- a part of what is shared is a part of the bytes
pub returns : goal.returns
returns c =
    let part = c.args.self.now in
    let offset = c.args.offset in
    let len = c.args.len in
    ap (λ vec. take len (drop (part.offset + offset) vec.items)) c.in_ok-clone.ensures.cases
    ∙ part_of_part (arc_value part.base).items part.offset part.len offset len c.requires.within
