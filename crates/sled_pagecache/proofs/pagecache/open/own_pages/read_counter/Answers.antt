use Rattle.sled_pagecache.proofs.Names.{IfOk-weaker, IfErr-weaker, Counter, chain_at}
use Rattle.sled_pagecache.proofs.Opening.OwnPages.{only-lent, only-made, only-makes, refuses-only}
use Rattle.sled_pagecache.proofs.Memory.Pulls.{judged-reads}
use Rattle.sled_log.specs.Payloads.{payload_in}
use Rattle.sled_pagecache.proofs.pagecache.open.own_pages.read_counter.Goals as goal

pub returns-clause-read : goal.returns-clause-read
returns-clause-read g c = λ told.
    let chain = chain_at (g.L.Log.state c.args.sticky_log.now.log) 1 in
    let only = only-lent chain c.in_ok-kind.kind (payload_in c.read_own.new.space c.in_ok-kind.payload) c.bytes.result.now c.in_ok-kind.pointer (c.in_ok-kind.ensures.found told) c.bytes.ensures in
    IfOk-weaker c.counter_of.result _ _ (λ said is. only-makes chain c.in_ok-kind.kind c.bytes.result.now c.in_ok-kind.pointer only (Counter said) is) c.counter_of.ensures.read

pub returns-clause-refused : goal.returns-clause-refused
returns-clause-refused g c = λ told.
    let chain = chain_at (g.L.Log.state c.args.sticky_log.now.log) 1 in
    let only = only-lent chain c.in_ok-kind.kind (payload_in c.read_own.new.space c.in_ok-kind.payload) c.bytes.result.now c.in_ok-kind.pointer (c.in_ok-kind.ensures.found told) c.bytes.ensures in
    IfErr-weaker c.counter_of.result _ _
    (refuses-only chain c.in_ok-kind.kind c.bytes.result.now c.in_ok-kind.pointer only 1 _ (λ amiss fit. amiss fit.0 (only-made chain c.in_ok-kind.kind c.bytes.result.now c.in_ok-kind.pointer only (Counter fit.0) fit.1)))
    c.counter_of.ensures.refused

pub returns-clause-reads : goal.returns-clause-reads
returns-clause-reads g c =
    judged-reads g.L.Log c.args.sticky_log.now c.read_own.new.sticky_log c.counter_of.result (c.in_ok-kind.kind, c.in_ok-kind.payload, c.in_ok-kind.pointer) 1 c.in_ok-kind.ensures.reads
