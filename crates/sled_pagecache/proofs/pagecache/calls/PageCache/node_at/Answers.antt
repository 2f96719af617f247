use Rattle.sled_pagecache.proofs.Names.{Some, ◌∙◌, ap, PageContent, Page, node_access_size, access_size, size_if, map-at, past-end}
use Rattle.sled_pagecache.proofs.Memory.ResidentPages.{past-view, none-at, no-node-in}
use Rattle.sled_pagecache.proofs.Table.TableNodes.{no-page, no-node, a-node}
use Rattle.sled_pagecache.proofs.pagecache.calls.PageCache.node_at.Goals as goal

pub returns-in_err-page : goal.returns-in_err-page
returns-in_err-page g c =
    let inside = c.self.inside in
    let past = past-end inside.pages.pages c.args.pid c.in_err-page.ensures in
    rw (c.from_residual.ensures, ← c.self.view_is) (record {
      is = no-page g.L.Log inside.next inside.config inside.recovered inside.writer.accesses.lru inside.writer.sticky_log inside.pages.pages inside.free.ids.keys c.args.pid c.self.invariant.whole.consistent past;
      node = past-view inside.next inside.next inside.config inside.recovered inside.writer.accesses.lru inside.writer.sticky_log inside.writer.sticky_log inside.pages.pages c.args.pid past;
    })

pub returns-in_default : goal.returns-in_default
returns-in_default g c =
    let inside = c.self.inside in
    let q = c.in_ok-page.page.now in
    let at = c.in_ok-page.ensures in
    rw (← c.self.view_is) (record {
      is = no-node g.L.Log inside.next inside.config inside.recovered inside.writer.accesses.lru inside.writer.sticky_log inside.pages.pages inside.free.ids.keys c.args.pid c.self.invariant.whole.consistent q at c.in_default.not-Node;
      node = none-at inside.next inside.next inside.config inside.recovered inside.writer.accesses.lru inside.writer.sticky_log inside.writer.sticky_log inside.pages.pages c.args.pid q at (no-node-in (access_size q) q.kept c.in_default.not-Node);
    })

pub returns : goal.returns
returns g c =
    let inside = c.self.inside in
    let q = c.in_ok-page.page.now in
    let at = c.in_ok-page.ensures in
    rw (← c.self.view_is) (record {
      is = a-node g.L.Log inside.next inside.config inside.recovered inside.writer.accesses.lru inside.writer.sticky_log inside.pages.pages inside.free.ids.keys c.args.pid c.self.invariant.whole.consistent q at
          c.new-2.result c.in-Node.node c.in-Node.is (c.new-2.ensures.token ∙ c.new.ensures) (c.new-2.ensures.node ∙ c.lend-node.ensures);
      node = (access_size q, map-at (λ (p : Page). node_access_size p) inside.pages.pages c.args.pid q at ∙ ap (λ (k : PageContent). Some (size_if (access_size q) k)) c.in-Node.is);
    })
