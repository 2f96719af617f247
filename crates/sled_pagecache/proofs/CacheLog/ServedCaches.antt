-- What is true of a cache stays so over a log that stays in its state.
use Rattle.sled_pagecache.proofs.Names.{◌≡◌, ◌∙◌, ap, sym, subst, ℕ, Bool, true, List}
use Rattle.std.specs.List.{AllByRecursion, AllZip, sum_by}
use Rattle.sled_log.specs.Chains.{is_chain}
use Rattle.sled_log.specs.LogState.{LogState, now, unplaced_state}
use Rattle.sled_log.specs.Messages.{Entry, effect_of_entry}
use Rattle.sled_log.specs.Pages.{IsSized}
use Rattle.sled_log.specs.declared.log.Log.{Ghosts}
use Rattle.sled_disk.specs.Served.{StaysALog}
use Rattle.sled_pagecache.specs.Cache.{Cache, Represents, chain_at}
use Rattle.sled_pagecache.specs.Inside.Eviction.{IsSettled}
use Rattle.sled_pagecache.specs.Inside.Invariant.{StaysCounted}
use Rattle.sled_pagecache.specs.Inside.PageEntry.{IsKept}
use Rattle.sled_pagecache.specs.Logged.{Logged, IsLogged}
use Rattle.sled_pagecache.specs.Served.{IsServed, StaysAsItIs}
use Rattle.sled_pagecache.specs.State.{State}
use Rattle.sled_pagecache.specs.declared.pagecache.handles.config.Config.{Config}
use Rattle.sled_pagecache.specs.declared.pagecache.memory.accesses.Accesses.{Accesses}
use Rattle.sled_pagecache.specs.declared.pagecache.table.page_entry.Page.{Page}
use Rattle.sled_pagecache.specs.declared.pagecache.write.sticky_log.StickyLog.{StickyLog}

module _ {L : Type 0} (g : Ghosts L) where
  -- a cache is seen as its view
  pub stays-seen : (inside seen : Cache L) (new : L) → inside ≡ seen → StaysALog g inside.log new → StaysALog g seen.log new
  stays-seen inside seen new is stays = subst (λ (cache : Cache L). StaysALog g cache.log new) is stays

  pub settled-over : (next : ℕ) (config : Config) (recovered : Bool) (old : StickyLog L) (log : L) (pages : List Page) (free : List ℕ) (accesses : Accesses) → StaysALog g old.log log
      → IsSettled g next config recovered old pages free accesses → IsSettled g next config recovered (record old { log = log }) pages free accesses
  settled-over next config recovered old log pages free accesses stays settled =
      let whole = settled.whole in
      let was = whole.consistent in
      let is = stays.state in
      record {
        whole = record {
          consistent = record {
            beside = λ ok. record {
              usable = stays.usable ∙ (was.beside ok).usable;
              kept = λ told. subst (λ (s : LogState Entry). AllZip IsKept (now effect_of_entry s) pages) (sym (is told)) ((was.beside ok).kept told);
              chains = λ told. subst (λ (s : LogState Entry). AllByRecursion (λ chain. is_chain effect_of_entry chain ≡ true) (now effect_of_entry s)) (sym (is told)) ((was.beside ok).chains told);
              sized = λ told. subst (λ (s : LogState Entry). AllByRecursion IsSized (now effect_of_entry s)) (sym (is told)) ((was.beside ok).sized told);
            };
            opened = λ ok. stays.opened ∙ was.opened ok;
            own = was.own;
            both = was.both;
            short = was.short;
            few = was.few;
            free = was.free;
          };
          positive = whole.positive;
          counted = λ some ok told page n at kept below. subst (λ (s : LogState Entry). StaysCounted n (unplaced_state s)) (sym (is told)) (whole.counted some ok told page n at kept below);
        };
        none = settled.none;
        bounded = record {
          listed = settled.bounded.listed;
          sized = λ told ok pid size has. settled.bounded.sized told ok pid size has ∙ ap (λ (s : LogState Entry). sum_by (λ entry. entry.place.log_size) (chain_at s pid)) (sym (is told));
          sound = settled.bounded.sound;
          capacity = settled.bounded.capacity;
        };
      }

  pub represents-over : (old : Cache L) (log : L) (held : Logged) (s : State) → StaysALog g old.log log → Represents g old held s → Represents g (record old { log = log }) held s
  represents-over old log held s stays is = record {
    tells = is.tells;
    stamps = is.stamps;
    next = is.next;
    fault = is.fault;
    batch = is.batch;
    known = λ ok. record {
      usable = stays.usable ∙ (is.known ok).usable;
      logged = subst (λ (state : LogState Entry). IsLogged (unplaced_state state) held) (sym (stays.state is.tells)) (is.known ok).logged;
      contents = (is.known ok).contents;
      opened = (is.known ok).opened;
    };
  }

  pub stays-as-it-is : (old new : Cache L) → IsServed g old new → StaysAsItIs g old new
  stays-as-it-is old new served held s is = subst (λ (cache : Cache L). Represents g cache held s) (sym served.same) (represents-over old new.log held s served.stays is)
