use Rattle.sled_pagecache.proofs.Names.{◌≡◌, ◌+◌, [], ◌∷◌, ◌++◌, List, length, take, sym, ◌∙◌, ap, subst, rules, take_all, AllZip, PageState, IsRecovered, Page, length_push}
use Rattle.sled_pagecache.proofs.Opening.RecoveredPages.{all-loaded, all-unread, zip-more}
use Rattle.sled_pagecache.proofs.pagecache.open.recovered_pages.recovered_pages.Goals as goal

pub loop-pid-preserved : goal.loop-pid-preserved
loop-pid-preserved c =
    let states = c.args.states.now in
    let pid = c.loop-pid.pid in
    let grown : c.insert.new.self.pages ≡ c.loop-pid.pages.pages ++ c.in_ok-page.page ∷ [] = search rules in
    record {
      recovered = subst (λ (l : List Page). AllZip IsRecovered (take (pid + 1) states) l) (sym grown)
          (zip-more IsRecovered states c.loop-pid.pages.pages pid c.index-states-pid.result c.in_ok-page.page c.loop-pid-test.true c.loop-pid.invariant.recovered (rw c.index-states-pid.is at c.in_ok-page.ensures));
      len = ap length grown ∙ length_push c.loop-pid.pages.pages c.in_ok-page.page ∙ ap (λ n. n + 1) c.loop-pid.invariant.len;
    }

pub returns : goal.returns
returns c =
    let states = c.args.states.now in
    let pages = c.loop-pid.pages.pages in
    let all = subst (λ (l : List PageState). AllZip IsRecovered l pages) (take_all c.loop-pid.pid states c.loop-pid-test.false) c.loop-pid.invariant.recovered in
    record { recovered = all; loaded = λ chains are. all-loaded chains states pages all are; unread = all-unread states pages all }
