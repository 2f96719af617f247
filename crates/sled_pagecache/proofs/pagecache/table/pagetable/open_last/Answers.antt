use Rattle.std.proofs.Common.{◌≡◌, ◌++◌, ◌∙◌, false, List, ap, sym, subst, arith, append-nil, lt-ltb}
use Rattle.sled_pagecache.proofs.Table.PageChunks.{pages-push, filled-more, at_last-push}
use Rattle.sled_pagecache.proofs.Names.{Page, chunk_length, pages_in, AreFilled, at_last, is_unfilled}
use Rattle.sled_pagecache.proofs.pagecache.table.pagetable.open_last.Goals as goal

pub returns-in_ok-push-clause-same : goal.returns-in_ok-push-clause-same
returns-in_ok-push-clause-same c =
    let old = c.args.chunks.now.items in
    ap pages_in c.in_ok-push.ensures.items ∙ pages-push old c.new.result ∙ ap (λ (pages : List Page). pages_in old ++ pages) c.new.ensures.items ∙ append-nil (pages_in old)

pub returns-in_ok-push-clause-filled : goal.returns-in_ok-push-clause-filled
returns-in_ok-push-clause-filled c =
    let closed : at_last (is_unfilled chunk_length) c.args.chunks.now.items ≡ false = cc in
    let len = c.new.ensures.len in
    subst (AreFilled chunk_length) (sym c.in_ok-push.ensures.items) (filled-more chunk_length c.args.chunks.now.items c.new.result c.requires closed (omega arith))

pub returns-in_ok-push-clause-open : goal.returns-in_ok-push-clause-open
returns-in_ok-push-clause-open c =
    let len = c.new.ensures.len in
    ap (at_last (is_unfilled chunk_length)) c.in_ok-push.ensures.items ∙ at_last-push (is_unfilled chunk_length) c.args.chunks.now.items c.new.result ∙ lt-ltb _ _ (omega arith)
