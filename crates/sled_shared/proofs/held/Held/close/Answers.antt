use Rattle.std.proofs.Common.{rules}
use Rattle.sled_shared.specs.Held.{IsBookOf, IsHistoryOf}
use Rattle.sled_shared.proofs.Replaying.{replays}
use Rattle.sled_shared.proofs.held.Held.close.Goals as goal

pub returns-clause-legal : goal.returns-clause-legal
returns-clause-legal g c =
    let of : IsBookOf g.L.Log g.K.Tally.known c.new.result c.self.inside.cache = search rules in
    replays g.L.Log g.K.Tally.known c.new.result c.self.inside.cache of

pub returns-clause-history : goal.returns-clause-history
returns-clause-history g c =
    let of : IsHistoryOf c.self.inside.history.log c.new.result.earlier c.new.result.entries = rw c.new.ensures c.self.invariant.1.of in
    (c.self.inside.history.log, of, c.count_up.ensures.seen)
