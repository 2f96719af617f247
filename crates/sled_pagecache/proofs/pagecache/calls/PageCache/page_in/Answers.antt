use Rattle.sled_pagecache.proofs.Names.{on_err_weaker, IsOk, ◌≡◌, inr, true, is_resident, false, [], refl, sym, ◌∙◌, ap, arith, is_reserved, behind-own, length, ◌≤◌, Went-none, false≢true, is_empty, effect_of_entry, get_or_past, now, AllZip-long, IsKept, none-some, slice_get_past, resident_in, length-map, Page, same_Some, map-at}
use Rattle.sled_pagecache.proofs.Ids.DurableCounter.{spares-none, behind-counter, other-at, whole-then}
use Rattle.sled_pagecache.proofs.Memory.Eviction.{keeps-same, settled, settles}
use Rattle.sled_pagecache.proofs.Memory.SettledCaches.{brings-moved, makes-found, reads-moved}
use Rattle.sled_pagecache.proofs.Memory.ResidentPages.{past-view, listed-at, finds-node, refused-stay}
use Rattle.sled_pagecache.proofs.CacheLog.LeftPages.{leaves-went}
use Rattle.sled_pagecache.proofs.Memory.PageIn.{page-kept-at, page-own-at, same-consistent, brings-pulled, reads-pulled}
use Rattle.sled_pagecache.proofs.pagecache.calls.PageCache.page_in.Goals as goal

pub pull_and_access-read-requires-clause-kept : goal.pull_and_access-read-requires-clause-kept
pull_and_access-read-requires-clause-kept g c =
    page-kept-at g.L.Log _ c.self.inside.writer.sticky_log _ _ c.args.pid _ c.get_mut-page.result.now c.self.invariant.whole.consistent c.if-self.false (sym c.is_reserved.ensures ∙ c.if-is_reserved.false) c.get_mut-page.ensures.page

pub invariant_of-self : goal.invariant_of-self
invariant_of-self g c =
    let q = c.get_mut-page.result.now in
    let behind : is_reserved c.args.pid ≡ false = sym c.is_reserved.ensures ∙ c.if-is_reserved.false in
    let at = c.get_mut-page.ensures.page in
    let done = c.pull_and_access-read.ensures in
    let after = c.pull_and_access-read.new.page in
    let result = c.pull_and_access-read.result in
    let own = done.pulled.own (page-own-at g.L.Log _ c.self.inside.writer.sticky_log _ _ c.args.pid q q c.self.invariant.whole.consistent c.if-self.false behind at) in
    let whole =
    whole-then g.L.Log c.self.invariant.whole c.if-self.false (spares-none g.L.Log done.pulled.went) (other-at c.self.inside.pages.pages c.args.pid after (behind-counter c.args.pid (behind-own c.args.pid behind)))
    (same-consistent g.L.Log _ _ _ _ c.args.pid q after c.self.invariant.whole.consistent c.if-self.false behind at
    [] done.pulled.went refl done.pulled.same (λ known _. done.pulled.kept known) done.pulled.infos done.pulled.free own) in
    let paged_out = settles c.self.invariant whole c.evict.ensures in
    let found = makes-found paged_out c.args.pid result (λ kept. absurd (let clear = c.if-self.false in cc))
    (finds-node _ _ _ _ _ _ _ c.args.pid q after at c.self.inside.writer.accesses c.pull_and_access-read.new.writer.accesses result done.accessed done.pulled.resident own done.pulled.free done.pulled.stays done.pulled.infos)
    (refused-stay _ _ _ _ _ _ _ c.args.pid q after at c.self.inside.writer.accesses c.pull_and_access-read.new.writer.accesses result done.pulled.err done.pulled.infos) done.left in
    settled c.self.invariant whole c.evict.ensures found.bounded

pub returns-then-pid-count-clause-brings : goal.returns-then-pid-count-clause-brings
returns-then-pid-count-clause-brings g c = λ ready.
    let inside = c.self.inside in
    let table = inside.pages.pages in
    let past : length table ≤ c.args.pid = omega (arith, c.if-pid-count.true, c.len-count.ensures.number) in
    let beside = c.self.invariant.whole.consistent.beside c.if-self.false in
    rw (← c.self.view_is) (record {
      left = leaves-went g.L.Log _ _ (record { config = refl; recovered = refl }) refl refl (Went-none g.L.Log inside.writer.sticky_log beside.usable (g.met.L.Log.only_now _)) (λ _ _. refl);
      cause = record { fault = c.if-self.false; read = λ h. cc; write = λ h. cc; full = λ h. cc };
      sound = λ known damaged.
          let long = AllZip-long IsKept _ table (beside.kept known) in
          absurd (false≢true (sym damaged.0 ∙ ap (is_empty effect_of_entry) (get_or_past (now effect_of_entry (g.L.Log.state inside.writer.sticky_log.log)) c.args.pid [] (omega (arith, past, long)))));
      in_memory = (sym c.is_reserved.ensures ∙ c.if-is_reserved.false, λ away. none-some false (sym (slice_get_past (resident_in table) c.args.pid (omega (arith, past, length-map table (λ (page : Page). is_resident page.kept)))) ∙ away));
      refused = λ _. tt;
    })

pub returns-then-pid-count-clause-accesses : goal.returns-then-pid-count-clause-accesses
returns-then-pid-count-clause-accesses g c =
    let inside = c.self.inside in
    rw (← c.self.view_is)
    (inr (keeps-same _, past-view inside.next inside.next inside.config inside.recovered inside.writer.accesses.lru inside.writer.sticky_log inside.writer.sticky_log inside.pages.pages c.args.pid (omega (arith, c.if-pid-count.true, c.len-count.ensures.number))))

pub returns-then-self-clause-same : goal.returns-then-self-clause-same
returns-then-self-clause-same g c = keeps-same c.args.self.now

pub returns-then-is_reserved-clause-same : goal.returns-then-is_reserved-clause-same
returns-then-is_reserved-clause-same g c = keeps-same c.args.self.now

pub returns-then-self-clause-bounded : goal.returns-then-self-clause-bounded
returns-then-self-clause-bounded g c = rw (← c.self.view_is) c.self.invariant.bounded

pub returns-then-is_reserved-clause-bounded : goal.returns-then-is_reserved-clause-bounded
returns-then-is_reserved-clause-bounded g c = rw (← c.self.view_is) c.self.invariant.bounded

pub returns-then-pid-count-clause-bounded : goal.returns-then-pid-count-clause-bounded
returns-then-pid-count-clause-bounded g c = rw (← c.self.view_is) c.self.invariant.bounded

pub returns : goal.returns
returns g c =
    let inside = c.self.inside in
    let table = inside.pages.pages in
    let q = c.get_mut-page.result.now in
    let behind : is_reserved c.args.pid ≡ false = sym c.is_reserved.ensures ∙ c.if-is_reserved.false in
    let at = c.get_mut-page.ensures.page in
    let done = c.pull_and_access-read.ensures in
    let after = c.pull_and_access-read.new.page in
    let result = c.pull_and_access-read.result in
    let own = done.pulled.own (page-own-at g.L.Log _ c.self.inside.writer.sticky_log _ _ c.args.pid q q c.self.invariant.whole.consistent c.if-self.false behind at) in
    let whole =
    whole-then g.L.Log c.self.invariant.whole c.if-self.false (spares-none g.L.Log done.pulled.went) (other-at table c.args.pid after (behind-counter c.args.pid (behind-own c.args.pid behind)))
    (same-consistent g.L.Log _ _ _ _ c.args.pid q after c.self.invariant.whole.consistent c.if-self.false behind at
    [] done.pulled.went refl done.pulled.same (λ known _. done.pulled.kept known) done.pulled.infos done.pulled.free own) in
    let paged_out = settles c.self.invariant whole c.evict.ensures in
    let found = makes-found paged_out c.args.pid result (λ kept. absurd (let clear = c.if-self.false in cc))
    (finds-node _ _ _ _ _ _ _ c.args.pid q after at c.self.inside.writer.accesses c.pull_and_access-read.new.writer.accesses result done.accessed done.pulled.resident own done.pulled.free done.pulled.stays done.pulled.infos)
    (refused-stay _ _ _ _ _ _ _ c.args.pid q after at c.self.inside.writer.accesses c.pull_and_access-read.new.writer.accesses result done.pulled.err done.pulled.infos) done.left in
    let listed = listed-at inside.next inside.config inside.recovered inside.writer.accesses.lru inside.writer.sticky_log inside.writer.sticky_log table c.args.pid q q at inside.writer.accesses inside.writer.accesses c.self.invariant.bounded.listed in
    let there : is_resident q.kept ≡ true → IsOk result = λ held. done.is_there held listed in
    rw (← c.self.view_is) (record {
      stuck = λ kept. absurd (let clear = c.if-self.false in cc);
      brings = λ ready. brings-moved paged_out c.args.pid result found.back (brings-pulled g.L.Log _ _ _ _ _ _ _ _ c.args.pid q after c.self.invariant.whole.consistent c.if-self.false behind at
          result done.pulled.same done.pulled.stamp done.pulled.resident there done.pulled.went done.pulled.cause done.pulled.kept own done.pulled.refused);
      always = λ ready free resident. there (same_Some (is_resident q.kept) true (sym (map-at (λ (page : Page). is_resident page.kept) table c.args.pid q at) ∙ resident));
      reads = reads-moved paged_out c.args.pid (reads-pulled g.L.Log _ _ _ _ _ _ _ _ c.args.pid q after c.self.invariant.whole.consistent c.if-self.false behind at
          result (λ held. ap (λ sticky_log. (g.L.Log.counts sticky_log.log).reads) (done.pulled.unread held)) done.pulled.reads (λ away. let err = done.pulled.err in let most = done.pulled.at_most in grind arith));
      kept_out = on_err_weaker result (λ same away. (same.stay c.args.pid).resident ∙ away) found.same;
      bounded = found.bounded;
      accesses = found.accessed;
      same = found.same;
    })
