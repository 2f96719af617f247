use Rattle.std.proofs.Common.{rules, ◌+◌}
use Rattle.sled_shared.specs.Book.{book}
use Rattle.sled_shared.specs.Held.{IsBookOf}
use Rattle.sled_shared.proofs.Replaying.{ends-before, ids-rise, sound-anew}
use Rattle.sled_shared.proofs.Replays.{kept_anew}
use Rattle.sled_shared.proofs.held.Held.take_book.Goals as goal

pub invariant_of-self : goal.invariant_of-self
invariant_of-self g c =
    (sound-anew g.L.Log g.K.Tally.known c.self.invariant.0 c.replace-opening.new.dest (c.self.inside.earlier + c.len.result) c.replace-entries.new.dest.items (rw c.replace-opening.ensures.after c.in_ok-shape.ensures) (search rules) (search rules), kept_anew c.self.invariant.1 (search rules) (search rules))

pub returns-clause-legal : goal.returns-clause-legal
returns-clause-legal g c =
    let of : IsBookOf g.L.Log g.K.Tally.known c.new-2.result c.self.inside.cache = search rules in
    ends-before g.L.Log g.K.Tally.known c.new-2.result c.self.inside.cache of (book (c.self.inside.earlier + c.len.result) c.replace-opening.new.dest c.replace-entries.new.dest.items) (rw c.replace-opening.ensures.after c.in_ok-shape.ensures)

pub returns-clause-ids : goal.returns-clause-ids
returns-clause-ids g c =
    let of : IsBookOf g.L.Log g.K.Tally.known c.new-2.result c.self.inside.cache = search rules in
    ids-rise g.L.Log g.K.Tally.known c.new-2.result c.self.inside.cache of (book (c.self.inside.earlier + c.len.result) c.replace-opening.new.dest c.replace-entries.new.dest.items) (rw c.replace-opening.ensures.after c.in_ok-shape.ensures)
