use Rattle.std.proofs.Common.{◌≡◌, rules}
use Rattle.std.specs.List.{filter}
use Rattle.std.proofs.lemmas.Fn.{filter_same}
use Rattle.sled_disk.specs.StagedReads.{is_outside}
use Rattle.sled_disk.proofs.StagedDisks.StagedReads.{pieces-left}
use Rattle.sled_disk.proofs.disk.staged.pieces.Pieces.drop_between.Goals as goal

-- what was kept lies outside
kept : (c : goal.After-retain) → c.retain.new.self.items ≡ filter (is_outside c.args.from c.args.to) c.args.self.now.pieces.items
kept c = filter_same _ (is_outside c.args.from c.args.to) _ (λ x b f' k. search rules) c.args.self.now.pieces.items c.retain.new.self.items c.retain.ensures.filtered

pub returns-then-from-to-clause-dropped : goal.returns-then-from-to-clause-dropped
returns-then-from-to-clause-dropped c less = kept c

pub returns-then-from-to-clause-stand : goal.returns-then-from-to-clause-stand
returns-then-from-to-clause-stand c old new stand same =
    pieces-left c.args.from c.args.to c.args.self.now.pieces.items c.retain.new.self.items old new (kept c) same stand
