-- A content that is put on the next new page of a log: one message, or two where the page is free.
use Rattle.sled_pagecache.proofs.Names.{◌≡◌, ℕ, true, false, List, [], ◌∷◌, Some, Result, Ok, Err, arith, sym, subst, CacheInfo, Change, Event, Free, Ghosts, IsLeft, PageContent, Messages, Node, Proceeds, Put, Refusal, StickyLog, Update, Wrote, content_of, effect_of, empty_leaf, is_free, message_of, refusal_in, unplaced_state, written-update}
use Rattle.sled_log.specs.Events.{seen_events}
use Rattle.sled_pagecache.proofs.CacheLog.LogCalls.{proceeds-first, proceeds-then, proceeds-unplaced}
use Rattle.sled_pagecache.specs.Inside.PageCopies.{PutsCopy}
use Rattle.sled_pagecache.specs.Rewriting.{changes_of_page}

one-change : (pid : ℕ) (kept : PageContent) → is_free kept ≡ false → changes_of_page pid (content_of kept) ≡ Change pid (Put (content_of kept)) ∷ []
one-change pid kept full = grind arith

module _ {M : Type 0} (h : Ghosts M) (only : (log : M) (pages : List Messages) → h.tells → (h.state log).usable ≡ true → h.left_since log (h.moment log) pages → IsLeft effect_of (unplaced_state (h.state log)) [] pages) where
  module _ (pid stamp : ℕ) (old : StickyLog M) (clear : old.fault ≡ false) (usable : (h.state old.log).usable ≡ true) where
    wrote-proceeds : (update : Update) (new : StickyLog M) (result : Result CacheInfo Refusal) → Wrote h old new pid update stamp result → Proceeds h old new (Change pid (message_of update) ∷ []) (refusal_in result)
    wrote-proceeds update new result wrote = proceeds-unplaced h old (only old.log) clear usable {T = CacheInfo} new (Change pid (message_of update)) result wrote.writes.went wrote.writes.cause

    -- a page that isn't free
    pub puts-refused : (kept : PageContent) (new : StickyLog M) (refusal : Refusal) → is_free kept ≡ false → (let err : Result CacheInfo Refusal = Err refusal in Wrote h old new pid (Put (content_of kept)) stamp err) → PutsCopy h pid (content_of kept) old new (Err refusal)
    puts-refused kept new refusal full wrote = record {
      readable = wrote.is;
      proceeds = subst (λ (l : List (Event Update)). Proceeds h old new (seen_events message_of l) (Some refusal)) (sym (one-change pid kept full)) (wrote-proceeds (Put (content_of kept)) new (Err refusal) wrote);
      of_log = wrote.writes.of_log;
    }

    -- the empty leaf that comes before a page is freed was refused
    pub leaf-refused : (new : StickyLog M) (refusal : Refusal) → (let err : Result CacheInfo Refusal = Err refusal in Wrote h old new pid (Put (Node empty_leaf)) stamp err) → PutsCopy h pid Free old new (Err refusal)
    leaf-refused new refusal wrote = record {
      readable = written-update (Put Free) tt;
      proceeds = proceeds-first h old new (Change pid (message_of (Put (Node empty_leaf))) ∷ []) (Change pid (message_of (Put Free)) ∷ []) refusal (wrote-proceeds (Put (Node empty_leaf)) new (Err refusal) wrote);
      of_log = wrote.writes.of_log;
    }

  -- the leaf was put there, and then the page was freed, or that was refused
  pub free-put : (pid stamp : ℕ) (old mid new : StickyLog M) (clear : old.fault ≡ false) (usable : (h.state old.log).usable ≡ true) (info : CacheInfo) (told : Result CacheInfo Refusal) (result : Result (Unit {0}) Refusal) → refusal_in told ≡ refusal_in result
      → (let ok : Result CacheInfo Refusal = Ok info in Wrote h old mid pid (Put (Node empty_leaf)) stamp ok) → Wrote h mid new pid (Put Free) stamp told → PutsCopy h pid Free old new result
  free-put pid stamp old mid new clear usable info told result same leaf freed =
      let free = leaf.writes.cause.fault in
      record {
        readable = freed.is;
        proceeds = subst (Proceeds h old new (seen_events message_of (changes_of_page pid Free))) same (proceeds-then h old mid new (Change pid (message_of (Put (Node empty_leaf))) ∷ []) (Change pid (message_of (Put Free)) ∷ []) (refusal_in told)
            (wrote-proceeds pid stamp old clear usable (Put (Node empty_leaf)) mid (Ok info) leaf)
            (wrote-proceeds pid stamp mid free (leaf.writes.went.usable free) (Put Free) new told freed));
        of_log = λ tells. let of_log = freed.writes.of_log tells in grind (arith, of_log, same);
      }
