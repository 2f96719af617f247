use Rattle.sled_pagecache.proofs.Names.{◌≡◌, take, length, AllZip, IsRecovered}
use Rattle.sled_pagecache.proofs.pagecache.open.recovered_pages.recovered_pages.Given as goal

abbrev pub invariant-loop-pid : goal.invariant-loop-pid
invariant-loop-pid l = record {
  recovered : AllZip IsRecovered (take l.pid l.states) l.pages.pages;
  len : length l.pages.pages ≡ l.pid;
}
