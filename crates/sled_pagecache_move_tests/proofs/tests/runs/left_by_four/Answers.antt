-- The four openings are a run, of which the law speaks.
use Rattle.std.proofs.Common.{[], ◌∷◌}
use Rattle.sled_pagecache_move_tests.proofs.Runs.{is_empty_of, run_after}
use Rattle.sled_pagecache_move_tests.proofs.tests.runs.left_by_four.Goals as goal

pub returns : goal.returns
returns c =
    let log = c.in_ok-log.log in
    let new = c.in_ok-log.ensures in
    let one = c.in_ok-log-2.ensures in
    let two = c.in_ok-log-3.ensures in
    let three = c.in_ok-log-4.ensures in
    let four = c.in_ok-log-5.ensures in
    let openings = one.opening ∷ two.1.opening ∷ three.opening ∷ four.opening ∷ [] in
    let empty = is_empty_of _ log _ _ one new.0 new.1 new.2 in
    let run = run_after _ log _ _ one _ (run_after _ _ _ _ two.1 _ (run_after _ _ _ _ three _ four.run)) in
    let ends_one = one.ends in
    let ends_two = two.1.ends in
    let ends_three = three.ends in
    let ends_four = four.ends in
    (log, openings, two.0, empty, run, cc, c.every_opening_of_a_disk_shows_a_prefix.ensures log openings empty run, four.again)
