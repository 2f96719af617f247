use Rattle.std.proofs.Common.{ap, ◌∙◌}
use Rattle.sled_node.specs.Meta.{named}
use Rattle.sled_node.specs.Payloads.Roots.{written_roots}
use Rattle.sled_node.proofs.RootEntries.{all_between}
use Rattle.sled_node.proofs.meta.written.serialize.Goals as goal

pub returns : goal.returns
returns c =
    c.truncate.ensures.items ∙ c.in_ok-end.ensures.written
    ∙ ap (λ entries. written_roots (named entries)) (c.range.ensures.between tt) ∙ ap written_roots (all_between c.args.roots.now.entries)
