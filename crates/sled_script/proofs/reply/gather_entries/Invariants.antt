use Rattle.std.proofs.Common.{take}
use Rattle.std.specs.List.{flat_map}
use Rattle.sled_lines.specs.Output.{Gathered}
use Rattle.sled_script.specs.Replies.{entry_text}
use Rattle.sled_script.proofs.reply.gather_entries.Given as goal

-- the entries so far were gathered
abbrev pub invariant-loop-i : goal.invariant-loop-i
invariant-loop-i g l = Gathered (g.W.Write.contents l.initial.writer) (g.W.Write.contents l.writer) l.initial.piece l.piece (flat_map entry_text (take l.i l.node.pairs))
