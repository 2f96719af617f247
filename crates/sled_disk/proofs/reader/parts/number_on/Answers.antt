use Rattle.std.proofs.Common.{ℕ, List, take, drop, ap, ◌∙◌}
use Rattle.std.proofs.lemmas.List.{take_rest}
use Rattle.sled_disk.specs.Format.{number}
use Rattle.sled_disk.proofs.Readers.ReadParts.{shown-at}
use Rattle.sled_disk.proofs.reader.parts.number_on.Goals as goal

pub returns-clause-number : goal.returns-clause-number
returns-clause-number g c = λ told.
    let window = c.reach.new.self in
    let from = c.in_ok-from.from in
    c.number_at.ensures
    ∙ ap (λ (l : List ℕ). number (take 8 l)) (take_rest c.bytes.result.now from)
    ∙ ap (λ (l : List ℕ). number (take 8 (drop from l))) c.bytes.ensures
    ∙ ap number (shown-at (g.D.Disk.seen c.args.disk.now) window.bytes.items window.start from 8 c.args.at (c.in_ok-from.ensures.shows told) c.in_ok-from.ensures.place c.in_ok-from.ensures.has)
