use Rattle.sled_pagecache.proofs.Names.{all-at, is_chain, IsKept, slice_get-get_or, AllZip-long, [], kept-at, effect_of_entry, due_page, is_there, ap, arith, false, sym, true, same_Some, slice_get_within, ◌∙◌, ◌≡◌, now}
use Rattle.sled_pagecache.proofs.Moves.PageMoves.{since}
use Rattle.sled_pagecache.proofs.Moves.MoveAttempts.{due-is, due-past, idle, idle-settled, move-ended, stuck-attempt}
use Rattle.sled_pagecache.specs.Inside.PageMoves.{lie_in}
use Rattle.sled_pagecache.proofs.pagecache.calls.PageCache.attempt_gc.Goals as goal

pub returns-then-self : goal.returns-then-self
returns-then-self g c = rw (← c.self.view_is) (stuck-attempt g.L.Log _ c.if-self.true c.self.invariant.bounded)

pub invariant_of-self : goal.invariant_of-self
invariant_of-self g c = let told = c.to_move.ensures in idle-settled g.L.Log c.self.invariant c.if-self.false told.went told.fault told.state told.counts

-- nothing is due
pub returns-in_default : goal.returns-in_default
returns-in_default g c =
    let told = c.to_move.ensures in
    let none = sym told.named ∙ c.in_default.is in
    rw (← c.self.view_is)
    (idle g.L.Log c.self.invariant c.if-self.false told.went told.fault told.state told.counts false (sym (ap is_there none)) (λ _. ap (λ due. due_page c.self.inside.config due (now effect_of_entry (g.L.Log.state c.self.inside.writer.sticky_log.log))) none))

pub invariant_of-self-in_default-get : goal.invariant_of-self-in_default-get
invariant_of-self-in_default-get g c = let told = c.to_move.ensures in idle-settled g.L.Log c.self.invariant c.if-self.false told.went told.fault told.state told.counts

-- a message of no page is
pub returns-in_default-get : goal.returns-in_default-get
returns-in_default-get g c =
    let told = c.to_move.ensures in
    let some = sym told.named ∙ c.in-Some.is in
    rw (← c.self.view_is)
    (idle g.L.Log c.self.invariant c.if-self.false told.went told.fault told.state told.counts true (sym (ap is_there some)) (due-past g.L.Log c.self.invariant c.if-self.false c.in-Some.pid c.in-Some.place c.in_default-get.ensures some))

pub invariant_of-self-then-not-lies_in : goal.invariant_of-self-then-not-lies_in
invariant_of-self-then-not-lies_in g c = let told = c.to_move.ensures in idle-settled g.L.Log c.self.invariant c.if-self.false told.went told.fault told.state told.counts

-- or one that lies elsewhere by now
pub returns-then-not-lies_in : goal.returns-then-not-lies_in
returns-then-not-lies_in g c =
    let told = c.to_move.ensures in
    let some = sym told.named ∙ c.in-Some.is in
    let lies : lie_in c.self.inside.config c.in-Some.place c.in-Some-get.page.now.infos.items ≡ false = grind (arith, c.lies_in.ensures, c.cache_infos.ensures, c.if-not-lies_in.true) in
    rw (← c.self.view_is)
    (idle g.L.Log c.self.invariant c.if-self.false told.went told.fault told.state told.counts true (sym (ap is_there some))
    (due-is g.L.Log c.self.invariant c.if-self.false c.in-Some.pid c.in-Some.place c.in-Some-get.page.now c.in-Some-get.ensures some false lies))

pub get_mut-page-requires : goal.get_mut-page-requires
get_mut-page-requires g c = slice_get_within c.self.inside.pages.pages c.in-Some.pid c.in-Some-get.page.now c.in-Some-get.ensures

pub move_page-moved-requires-clause-kept : goal.move_page-moved-requires-clause-kept
move_page-moved-requires-clause-kept g c = λ known. rw c.to_move.ensures.state (kept-at (now effect_of_entry (g.L.Log.state c.self.inside.writer.sticky_log.log)) c.self.inside.pages.pages c.in-Some.pid _ ((c.self.invariant.whole.consistent.beside c.if-self.false).kept known) c.get_mut-page.ensures.page)

pub move_page-moved-requires-clause-chain : goal.move_page-moved-requires-clause-chain
move_page-moved-requires-clause-chain g c = λ known.
    let chains = now effect_of_entry (g.L.Log.state c.self.inside.writer.sticky_log.log) in
    let beside = c.self.invariant.whole.consistent.beside c.if-self.false in
    let within = slice_get_within c.self.inside.pages.pages c.in-Some.pid _ c.get_mut-page.ensures.page in
    let long = AllZip-long IsKept chains c.self.inside.pages.pages (beside.kept known) in
    rw c.to_move.ensures.state (all-at (λ chain. is_chain effect_of_entry chain ≡ true) chains c.in-Some.pid _ (beside.chains known) (slice_get-get_or chains c.in-Some.pid [] (omega (arith, within, long))))

pub invariant_of-self-2 : goal.invariant_of-self-2
invariant_of-self-2 g c =
    let told = c.to_move.ensures in
    let some = sym told.named ∙ c.in-Some.is in
    let at = c.get_mut-page.ensures.page in
    let same : c.in-Some-get.page.now ≡ c.get_mut-page.result.now = same_Some _ _ (sym c.in-Some-get.ensures ∙ at) in
    let lies : lie_in c.self.inside.config c.in-Some.place c.get_mut-page.result.now.infos.items ≡ true = grind (arith, same, c.lies_in.ensures, c.cache_infos.ensures, c.if-not-lies_in.false) in
    (move-ended g.L.Log c.self.invariant c.if-self.false at some lies c.move_page-moved.new.writer.sticky_log c.move_page-moved.new.page c.move_page-moved.new.writer.accesses c.move_page-moved.result
    (since g.L.Log told.went told.fault told.state told.counts told.room c.in-Some.pid c.get_mut-page.result.now c.move_page-moved.new.writer.sticky_log c.self.inside.writer.accesses c.move_page-moved.new.writer.accesses c.move_page-moved.new.page c.move_page-moved.result c.move_page-moved.ensures) c.end_move.ensures.evicts).0

pub returns : goal.returns
returns g c =
    let told = c.to_move.ensures in
    let some = sym told.named ∙ c.in-Some.is in
    let at = c.get_mut-page.ensures.page in
    let same : c.in-Some-get.page.now ≡ c.get_mut-page.result.now = same_Some _ _ (sym c.in-Some-get.ensures ∙ at) in
    let lies : lie_in c.self.inside.config c.in-Some.place c.get_mut-page.result.now.infos.items ≡ true = grind (arith, same, c.lies_in.ensures, c.cache_infos.ensures, c.if-not-lies_in.false) in
    rw (← c.self.view_is, c.end_move.ensures.answer)
    (move-ended g.L.Log c.self.invariant c.if-self.false at some lies c.move_page-moved.new.writer.sticky_log c.move_page-moved.new.page c.move_page-moved.new.writer.accesses c.move_page-moved.result
    (since g.L.Log told.went told.fault told.state told.counts told.room c.in-Some.pid c.get_mut-page.result.now c.move_page-moved.new.writer.sticky_log c.self.inside.writer.accesses c.move_page-moved.new.writer.accesses c.move_page-moved.new.page c.move_page-moved.result c.move_page-moved.ensures) c.end_move.ensures.evicts).1
