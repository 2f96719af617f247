-- A book goes on by one entry, and so does what a held cache keeps.
use Rattle.std.proofs.Common.{inl, inr, ◌⊎◌, ◌||◌, ◌==◌, ℕ, Bool, true, false, MatchBool, ◌≡◌, ◌+◌, ◌-◌, ◌^◌, ◌<◌, [], ◌∷◌, ◌++◌, List, map, refl, subst, sym, ap, ◌∙◌, arith, length, length-append, append_assoc, append-nil}
use Rattle.std.proofs.lemmas.List.{map-append}
use Rattle.std.proofs.lemmas.Bool.Decides.{nat_tests}
use Rattle.std.specs.Prelude.{nat_le}
use Rattle.sled_base.specs.declared.types.Error.TheVariants.{Unsupported, OutOfMemory}
use Rattle.sled_base.specs.declared.types.Why.TheVariants.{BookFull}
use Rattle.sled_log.specs.declared.log.Log.{Ghosts}
use Rattle.sled_pagecache.specs.Cache.{Cache}
use Rattle.sled_pagecache.specs.Inside.SequenceLaws.{OnlyNow, made-row, made-then}
use Rattle.sled_pagecache.specs.Rows.{AreMade, IsMade}
use Rattle.sled_pagecache.specs.Trees.{MadeCalls}
use Rattle.sled_pagecache.specs.declared.pagecache.handles.call.Answer.{Answer}
use Rattle.sled_pagecache.specs.declared.pagecache.handles.call.Call.{Call}
use Rattle.sled_shared.proofs.HistorySteps.{counts_one}
use Rattle.sled_shared.specs.Book.{book, AreEntries}
use Rattle.sled_shared.specs.Calls.{Answered, Asked, Entry, IsEntry, IsRefusal, Reply, Request, entry}
use Rattle.sled_shared.specs.History.{written_by}
use Rattle.sled_shared.specs.Held.{Held, held, IsSound, IsBookOf, with_entry, calls_of, is_full, IsEntered, IsLeftOut, Serves, Share, HasTold, IsKept, Told, Tells, count_of}

or-second : (a b : Bool) → (a || b) ≡ false → b ≡ false
or-second true b h = absurd cc
or-second false b h = h

below-last : (n : ℕ) → n < 2 ^ 64 → (n == 2 ^ 64 - 1) ≡ false → n < 2 ^ 64 - 1
below-last n fits other = grind (arith, nat_tests)

-- a book with room has made fewer calls than can be counted
pub room_left : {L : Type 0} {g : Ghosts L} {known : Type 0} {h : Held L} {total parts amount all : ℕ} → IsSound g known h total parts amount all → is_full h ≡ false → total < 2 ^ 64 - 1
room_left {h = h} s room =
    let counted = s.counted in
    let left : calls_of h.book < 2 ^ 64 - 1 = below-last (calls_of h.book) s.fits (or-second (nat_le h.limit (length h.book.entries)) (calls_of h.book == 2 ^ 64 - 1) room) in
    omega arith

entries-more : (entries : List Entry) (calls : MadeCalls) (call : Request) (answer : Reply) (more : MadeCalls) → AreEntries entries calls → IsEntry call answer more → AreEntries (entries ++ entry call answer ∷ []) (calls ++ more)
entries-more [] calls call answer more none is = subst (λ (l : MadeCalls). AreEntries (entry call answer ∷ []) (l ++ more)) (sym none) (more, [], is, sym (append-nil more), refl)
entries-more (e ∷ entries) calls call answer more (first, rest, here, are, others) is =
    (first, rest ++ more, here, ap (λ (l : MadeCalls). l ++ more) are ∙ append_assoc first rest more, entries-more entries rest call answer more others is)

-- the history goes on by the same entry
pub kept_on : {known name name' : ℕ} {log log' : List Told} {earlier : ℕ} {entries before entries' : List Entry} (number : ℕ) (e : Entry) → IsKept known name log earlier entries
    → entries' ≡ before ++ e ∷ [] → before ≡ entries → name' ≡ name → log' ≡ log ++ (number, e) ∷ [] → IsKept known name' log' earlier entries'
kept_on {log = log} {entries = entries} {before = old} number e kept more same again line =
    let f : Told → Entry = λ line. line.1 in
    let of = kept.of in
    let here = ap (map f) line ∙ map-append f log ((number, e) ∷ []) in
    record {
      named = again ∙ kept.named;
      of = record {
        before = of.before;
        many = of.many;
        all = here ∙ (ap (λ (l : List Entry). l ++ e ∷ []) of.all ∙ (append_assoc of.before entries (e ∷ []) ∙ ap (λ (l : List Entry). of.before ++ l) (ap (λ (l : List Entry). l ++ e ∷ []) (sym same) ∙ sym more)));
      };
    }

-- before the first round
pub kept_first : {known name : ℕ} {log : List Told} {entries : List Entry} → name ≡ known → log ≡ [] → entries ≡ [] → IsKept known name log 0 entries
kept_first named log none = record { named = named; of = record { before = []; many = refl; all = ap (map (λ (line : Told). line.1)) log ∙ sym none } }

-- in a new round
pub kept_anew : {known name : ℕ} {log : List Told} {earlier earlier' : ℕ} {entries entries' : List Entry} → IsKept known name log earlier entries → earlier' ≡ earlier + length entries → entries' ≡ []
    → IsKept known name log earlier' entries'
kept_anew {entries = entries} kept later none =
    let of = kept.of in
    record {
      named = kept.named;
      of = record {
        before = of.before ++ entries;
        many = length-append of.before entries ∙ (ap (λ (n : ℕ). n + length entries) of.many ∙ sym later);
        all = of.all ∙ (sym (append-nil (of.before ++ entries)) ∙ ap (λ (l : List Entry). (of.before ++ entries) ++ l) (sym none));
      };
    }

-- what was told, as the call and its answer
pub told_as : (mine mine' : Share) {e : Entry} {call : Request} {answer : Reply} → HasTold mine e mine' → e ≡ entry call answer → HasTold mine (entry call answer) mine'
told_as mine mine' told kept = subst (λ (x : Entry). HasTold mine x mine') kept told

-- a share that was told of a call counts one more
pub tells_counts : (mine : Share) (call : Request) (answer : Reply) (mine' : Share) → Tells mine call answer mine' → (count_of mine' ≡ count_of mine + 1) ⊎ ((mine' ≡ mine) × (IsRefusal answer (Unsupported BookFull) ⊎ IsRefusal answer OutOfMemory))
tells_counts mine call answer mine' (inl (same, told)) = inl (ap (λ (n : ℕ). length (written_by n mine'.seen)) same ∙ counts_one mine.number mine.seen (entry call answer) mine'.seen told)
tells_counts mine call answer mine' (inr left) = inr left

-- what was entered, as the call and its answer
pub entered_as : {entries before old : List Entry} {e : Entry} {call : Request} {answer : Reply} → entries ≡ before ++ e ∷ [] → before ≡ old → e ≡ entry call answer → entries ≡ old ++ entry call answer ∷ []
entered_as {old = old} {e = e} is same kept = is ∙ ap (λ (l : List Entry). l ++ e ∷ []) same ∙ ap (λ (x : Entry). old ++ x ∷ []) kept

module _ {L : Type 0} (g : Ghosts L) where
  one_made : (old new : Cache L) (asked : Call) (answer : Answer) → IsMade g old asked answer new → AreMade g old ((asked, answer) ∷ []) new
  one_made old new asked answer made = (new, made, refl)

  -- ---- a call that was made is an entry

  module _ (known : Type 0) {h : Held L} {total parts amount all : ℕ} (s : IsSound g known h total parts amount all) (call : Request) (answer : Reply) (calls : MadeCalls) (cache : Cache L) (is : IsEntry call answer calls) (made : AreMade g h.cache calls cache) where
    book-on : (entries : List Entry) → entries ≡ h.book.entries ++ entry call answer ∷ [] → IsBookOf g known (book h.book.earlier h.book.opening entries) cache
    book-on entries more = record {
      opened = s.of.opened;
      shows = s.of.shows;
      closed = s.of.closed;
      state = s.of.state;
      calls = s.of.calls ++ calls;
      are = subst (λ (l : List Entry). AreEntries l (s.of.calls ++ calls)) (sym more) (entries-more h.book.entries s.of.calls call answer calls s.of.are is);
      made = made-then g s.of.opened h.cache cache s.of.calls calls s.of.made made;
    }

    pub sound_on : (entries : List Entry) (total' : ℕ) → cache.batch ≡ h.cache.batch → entries ≡ h.book.entries ++ entry call answer ∷ [] → total' ≡ total + 1 → total < 2 ^ 64 - 1
        → IsSound g known (held cache (book h.book.earlier h.book.opening entries) h.limit h.given h.left) total' parts amount all
    sound_on entries total' batch more counts fits =
        let longer : length entries ≡ length h.book.entries + 1 = ap (λ (l : List Entry). length l) more ∙ length-append h.book.entries (entry call answer ∷ []) in
        let counted = s.counted in
        record {
          of = book-on entries more;
          closed = batch ∙ s.closed;
          counted = omega arith;
          fits = omega arith;
          left = s.left;
          idle = s.idle;
          some = s.some;
          whole = s.whole;
          bounded = s.bounded;
        }

  -- the same of one call of the cache
  pub one_sound : (known : Type 0) {h : Held L} {total parts amount all : ℕ} → IsSound g known h total parts amount all → (asked : Call) (answer : Answer) (cache : Cache L) → IsMade g h.cache asked answer cache → (entries : List Entry) (total' : ℕ)
      → cache.batch ≡ h.cache.batch → entries ≡ h.book.entries ++ entry (Asked asked) (Answered answer) ∷ [] → total' ≡ total + 1 → total < 2 ^ 64 - 1
      → IsSound g known (held cache (book h.book.earlier h.book.opening entries) h.limit h.given h.left) total' parts amount all
  one_sound known {h = h} s asked answer cache made = sound_on known s (Asked asked) (Answered answer) ((asked, answer) ∷ []) cache refl (one_made h.cache cache asked answer made)

  -- ---- what is said of it

  by-room : {A : Type 0} (full : Bool) (B C : Type 0) → full ≡ false → A → MatchBool full C (A ⊎ B)
  by-room false B C is a = inl a
  by-room true B C is a = absurd cc

  -- where there is room, a call that was made is entered
  pub serves_made : OnlyNow g → (old : Held L) (mine : Share) (call : Request) (answer : Reply) (new : Held L) (mine' : Share) (calls : MadeCalls)
      → is_full old ≡ false → IsEntry call answer calls → AreMade g old.cache calls new.cache
      → new.book ≡ with_entry old.book call answer → HasTold mine (entry call answer) mine' → (new.limit ≡ old.limit) × (new.given ≡ old.given) × (new.left ≡ old.left)
      → Serves g old mine call answer new mine'
  serves_made only_now old mine call answer new mine' calls room is made entered told rest =
      by-room (is_full old) (IsLeftOut g old mine (IsRefusal answer OutOfMemory) new mine') (IsLeftOut g old mine (IsRefusal answer (Unsupported BookFull)) new mine') room
      (record { calls = calls; are = is; made = made; row = made-row g old.cache new.cache calls only_now made; entered = entered; told = told; rest = rest })

  pub served : OnlyNow g → (old : Held L) (mine : Share) (call : Request) (answer : Reply) (cache : Cache L) (entries : List Entry) (mine' : Share) (calls : MadeCalls)
      → is_full old ≡ false → IsEntry call answer calls → AreMade g old.cache calls cache → entries ≡ old.book.entries ++ entry call answer ∷ [] → HasTold mine (entry call answer) mine'
      → Serves g old mine call answer (held cache (book old.book.earlier old.book.opening entries) old.limit old.given old.left) mine'
  served only_now old mine call answer cache entries mine' calls room is made entered told =
      serves_made only_now old mine call answer (held cache (book old.book.earlier old.book.opening entries) old.limit old.given old.left) mine' calls room is made (ap (book old.book.earlier old.book.opening) entered) told (refl, refl, refl)

  pub one_served : OnlyNow g → (old : Held L) (mine : Share) (asked : Call) (answer : Answer) (cache : Cache L) (entries : List Entry) (mine' : Share)
      → is_full old ≡ false → IsMade g old.cache asked answer cache → entries ≡ old.book.entries ++ entry (Asked asked) (Answered answer) ∷ [] → HasTold mine (entry (Asked asked) (Answered answer)) mine'
      → Serves g old mine (Asked asked) (Answered answer) (held cache (book old.book.earlier old.book.opening entries) old.limit old.given old.left) mine'
  one_served only_now old mine asked answer cache entries mine' room made =
      served only_now old mine (Asked asked) (Answered answer) cache entries mine' ((asked, answer) ∷ []) room refl (one_made old.cache cache asked answer made)

  -- ---- what a caller of the shared one is told

  tells_of : (full : Bool) (mine mine' : Share) (old new : Held L) (call : Request) (answer : Reply)
      → MatchBool full (IsLeftOut g old mine (IsRefusal answer (Unsupported BookFull)) new mine') (IsEntered g old mine call answer new mine' ⊎ IsLeftOut g old mine (IsRefusal answer OutOfMemory) new mine') → Tells mine call answer mine'
  tells_of true mine mine' old new call answer h = inr (h.1, inl h.2)
  tells_of false mine mine' old new call answer (inl h) = inl h.told
  tells_of false mine mine' old new call answer (inr h) = inr (h.1, inr h.2)

  pub serves_tells : (old : Held L) (mine : Share) (call : Request) (answer : Reply) (new : Held L) (mine' : Share)
      → Serves g old mine call answer new mine' → Tells mine call answer mine'
  serves_tells old mine call answer new mine' h = tells_of (is_full old) mine mine' old new call answer h
