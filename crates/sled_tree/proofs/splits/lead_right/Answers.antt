use Rattle.std.proofs.Common.{◌≡◌, ◌≢◌, Some, []}
use Rattle.sled_pagecache.specs.State.{contents_of}
use Rattle.sled_tree.proofs.Keeping.{on-deed, reads-keep}
use Rattle.sled_tree.proofs.OrderedReads.{read-first}
use Rattle.sled_tree.proofs.Reaching.{met-above}
use Rattle.sled_tree.proofs.splits.lead_right.Goals as goal

pub returns-in-Some : goal.returns-in-Some
returns-in-Some g c =
    let at = c.in-Some.at in
    let is : c.in_ok-at.field-0 ≡ Some (at, c.in-Some.page) = (let p = c.in-Some.is in let q = c.in-Some.at-is in let r = c.in-Some.page-is in cc) in
    let some : at ≢ [] = rw is at c.in_ok-at.ensures.some in
    on-deed g.L.Log
    (λ s t events has keeps. record { follows = keeps.follows; stays = λ w are met. keeps.stays w are (record { ends = has; some = some; reached = met-above c.args.above c.args.child (contents_of s) w met }) })
    (read-first g.L.Log (rw is at c.in_ok-at.ensures.end)) c.lead.ensures

pub returns-in-None : goal.returns-in-None
returns-in-None g c = reads-keep g.L.Log c.end_at.ensures.end
