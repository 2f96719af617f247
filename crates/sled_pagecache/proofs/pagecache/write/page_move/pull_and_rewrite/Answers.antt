use Rattle.sled_pagecache.proofs.Names.{◌≡◌, ◌∙◌, ap, arith, false, is_resident, refused-is, Page}
use Rattle.sled_pagecache.proofs.Moves.PageMoves.{moved-read, unmoved-read, unmoved-written}
use Rattle.sled_pagecache.proofs.pagecache.write.page_move.pull_and_rewrite.Goals as goal

pub returns-in_err-pull : goal.returns-in_err-pull
returns-in_err-pull g c =
    let refused = c.in_err-pull.ensures in
    let away : is_resident c.args.page.now.kept ≡ false = grind arith in
    rw (refused-is c.from_residual.result _ c.from_residual.ensures.1) (unmoved-read g.L.Log refused.pulled away c.requires.no_blob)

pub returns-in-Ok : goal.returns-in-Ok
returns-in-Ok g c = moved-read g.L.Log c.in_ok-pull.ensures.pulled c.requires.no_blob c.in-Ok.ensures

-- what was read goes
pub returns-then-was_away : goal.returns-then-was_away
returns-then-was_away g c =
    let read = c.in_ok-pull.ensures.pulled in
    let left = c.in-Err.ensures.left in
    unmoved-written g.L.Log read c.requires.no_blob c.in-Err.ensures (ap (λ (p : Page). p.stamp) left ∙ read.stamp) (ap (λ (p : Page). p.infos.items) left ∙ read.infos) (grind arith)

pub returns-else-was_away : goal.returns-else-was_away
returns-else-was_away g c =
    let read = c.in_ok-pull.ensures.pulled in
    let left = c.in-Err.ensures.left in
    unmoved-written g.L.Log read c.requires.no_blob c.in-Err.ensures (ap (λ (p : Page). p.stamp) left ∙ read.stamp) (ap (λ (p : Page). p.infos.items) left ∙ read.infos) (grind arith)
