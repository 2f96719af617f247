use Rattle.sled_node.proofs.node.Node.split_behind.Goals as goal

pub split_at-requires : goal.split_at-requires
split_at-requires c = record { some = c.requires.some; others = c.requires.others; separates = c.in_ok-separator.ensures }
