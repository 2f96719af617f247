-- Ids are generated: the page of their counter may change.
use Rattle.std.proofs.Common.{◌≡◌, ◌⊎◌, ◌∙◌, ◌-◌, ◌^◌, inl, inr, ℕ, true, false, cond, List, [], ◌∷◌, ◌++◌, nat_lt, Option, None, Some, Result, Ok, Err, slice_get, slice_set, refl, sym, ap, subst}
use Rattle.std.proofs.lemmas.Bool.{false≢true}
use Rattle.std.specs.Prelude.{◌==◌, ◌+◌, MatchBool}
use Rattle.sled_base.specs.declared.types.Error.{Error}
use Rattle.sled_log.specs.Contents.{Content, Counter, Free, Roots, Node, Damaged, Update, Put}
use Rattle.sled_log.specs.Events.{Event, Change}
use Rattle.sled_log.specs.declared.log.Log.{Ghosts}
use Rattle.sled_pagecache.specs.Cache.{Cache, chain_length}
use Rattle.sled_pagecache.specs.Calls.{HasNoRoom}
use Rattle.sled_pagecache.specs.Rows.{IsMade}
use Rattle.sled_pagecache.specs.State.{StampedPage, State, contents_of, page, page_at, with_page}
use Rattle.sled_pagecache.specs.Step.{Does, Generates, HoldsCounter, IsCounterAnd, Outcome, PutsCounter, interval_start, no_change, with_next_id}
use Rattle.sled_pagecache.specs.declared.pagecache.handles.call.Answer.TheVariants.{Generated}
use Rattle.sled_pagecache.specs.declared.pagecache.handles.call.Call.TheVariants.{GenerateId}
use Rattle.sled_search.proofs.Off.{all-off, no-node-off}
use Rattle.sled_search.proofs.OneOfMany.{set-one}
use Rattle.sled_tree.specs.Changed.{Ends, Makes}
use Rattle.sled_tree.specs.Maps.{KeepsMaps}
use Rattle.sled_tree.specs.Named.{Named, AreNamed}
use Rattle.sled_tree.specs.Performs.{Performs}
use Rattle.sled_tree.proofs.Keeping.{Any, change-keeps, quiet-keeps}
use Rattle.sled_tree.proofs.Lists.{map-at, map-sets, split, within}
use Rattle.sled_tree.proofs.Naming.{names-other}
use Rattle.sled_tree.proofs.Outcomes.{fails}
use Rattle.sled_tree.proofs.Performing.{Answers, Deed, Quiet, Stuck, one, weaker}

-- nothing is written; or the counter's page has another counter
abbrev Numbers : Result ℕ Error → Deed
Numbers answer s events t = Quiet s events t ⊎ ((start n : ℕ) × (slice_get (contents_of s) 1 ≡ Some (Counter n)) × Ends answer s (slice_set (contents_of s) 1 (Counter start)) events t)

module _ (s : State) (out : Outcome) where
  unchanged : (answer : Result ℕ Error) → out ≡ no_change s → Numbers answer s out.changes out.state
  unchanged answer h = inl (ap (λ (o : Outcome). o.changes) h, ap (λ (o : Outcome). contents_of o.state) h, λ _. ap (λ (o : Outcome). o.state) h)

  module _ (messages : ℕ → ℕ) (no_room : Event Update → Type 0) where
    puts : (n stamp start : ℕ) → slice_get (contents_of s) 1 ≡ Some (Counter n) → (answer : Result ℕ Error) → PutsCounter messages no_room s stamp start answer out → Numbers answer s out.changes out.state
    puts n stamp start at answer step = split s.batch step (λ _ h. unchanged answer h.1) (λ _ h. split (stamp == 2 ^ 64 - 1) h (λ _ h. unchanged answer h.1) (λ _ h. inr (start, n, at, by answer h)))
      where
        makes : (events : List (Event Update)) → events ≡ Change 1 (Put (Counter start)) ∷ [] → Makes (contents_of s) (slice_set (contents_of s) 1 (Counter start)) events
        makes events is =
            subst (Makes (contents_of s) (slice_set (contents_of s) 1 (Counter start))) (sym is)
            (ap (λ b. cond b (contents_of s ++ Counter start ∷ []) (slice_set (contents_of s) 1 (Counter start))) (within (contents_of s) 1 (Counter n) at), tt)

        wrote : (out.changes ≡ []) ⊎ ((out.changes ≡ Change 1 (Put (Counter start)) ∷ []) × (out.state.fault ≡ true)) → (out.changes ≡ []) ⊎ (Makes (contents_of s) (slice_set (contents_of s) 1 (Counter start)) out.changes × (out.state.fault ≡ true))
        wrote (inl none) = inl none
        wrote (inr it) = inr (makes out.changes it.0, it.1)

        by : (answer : Result ℕ Error) → Does messages no_room s (Change 1 (Put (Counter start))) answer out (λ id t. (id ≡ s.next) × (t ≡ with_next_id (with_page s 1 (page (stamp + 1) (Counter start)))))
            → Ends answer s (slice_set (contents_of s) 1 (Counter start)) out.changes out.state
        by (Ok id) h = (makes out.changes h.0, ap contents_of h.1.1 ∙ map-sets (λ (p : StampedPage). p.content) s.pages 1 (page (stamp + 1) (Counter start)))
        by (Err e) h = let it = fails s out messages no_room (Change 1 (Put (Counter start))) e h in (it.0, wrote it.1)

    numbers : (interval : ℕ) (answer : Result ℕ Error) → Generates messages no_room interval s answer out → Numbers answer s out.changes out.state
    numbers interval answer step = split s.fault step (λ _ h. unchanged answer h.1) (λ clear h. split (nat_lt (2 ^ 64 - 1) s.next) h (λ _ h. unchanged answer h.1) (λ _ h. by clear (page_at s 1) refl h))
      where
        next : s.fault ≡ false → out ≡ no_change (with_next_id s) → Numbers answer s out.changes out.state
        next clear h = inl (ap (λ (o : Outcome). o.changes) h, ap (λ (o : Outcome). contents_of o.state) h, λ kept. absurd (false≢true (sym clear ∙ kept)))

        of : s.fault ≡ false → (p : StampedPage) (c : Content) → p.content ≡ c → page_at s 1 ≡ Some p
            → IsCounterAnd c (λ n. MatchBool (nat_lt (interval_start interval n) (interval_start interval s.next)) (PutsCounter messages no_room s p.stamp (interval_start interval s.next) answer out) ((answer ≡ Ok s.next) × (out ≡ no_change (with_next_id s))))
            → Numbers answer s out.changes out.state
        of clear p (Counter n) is at h =
            let there : slice_get (contents_of s) 1 ≡ Some (Counter n) = map-at (λ (q : StampedPage). q.content) s.pages 1 p at ∙ ap (λ (c : Content). Some c) is in
            split (nat_lt (interval_start interval n) (interval_start interval s.next)) h (λ _ h. puts n p.stamp (interval_start interval s.next) there answer h) (λ _ h. next clear h.1)
        of clear p Free is at h = absurd h
        of clear p (Roots roots) is at h = absurd h
        of clear p (Node n) is at h = absurd h
        of clear p Damaged is at h = absurd h

        by : s.fault ≡ false → (found : Option StampedPage) → page_at s 1 ≡ found
            → HoldsCounter found (λ stamp n. MatchBool (nat_lt (interval_start interval n) (interval_start interval s.next)) (PutsCounter messages no_room s stamp (interval_start interval s.next) answer out) ((answer ≡ Ok s.next) × (out ≡ no_change (with_next_id s))))
            → Numbers answer s out.changes out.state
        by clear None at h = absurd h
        by clear (Some p) at h = of clear p p.content refl at h

-- no search is at the counter's page
numbers-keep : (answer : Result ℕ Error) (s t : State) (events : List (Event Update)) → Stuck s events t → Numbers answer s events t → KeepsMaps s events t
numbers-keep answer s t events stuck (inl quiet) = quiet-keeps Any s t events quiet
numbers-keep answer s t events stuck (inr (start, n, at, ends)) = change-keeps Any s t (slice_set (contents_of s) 1 (Counter start)) events stuck answer ends (λ w are so. by (contents_of s) at w are)
  where
    by : (pages : List Content) → slice_get pages 1 ≡ Some (Counter n) → (w : Named) → AreNamed pages w → AreNamed (slice_set pages 1 (Counter start)) w
    by pages at w are = record {
      names = names-other pages w.names are.names 1 (λ same. let e = same in cc) (Counter start);
      trees = all-off pages (slice_set pages 1 (Counter start)) w.maps 1 are.trees (no-node-off pages w.maps 1 are.trees (λ k there. let e : Some (Counter n) ≡ Some (Node k) = sym at ∙ there in cc)) (set-one pages 1 (Counter start));
    }

pub id-keeps : {L : Type 0} (g : Ghosts L) {answer : Result ℕ Error} {old new : Cache L} → IsMade g old GenerateId (Generated answer) new → Performs g KeepsMaps old new
id-keeps g {answer} {old} {new} made = weaker g (Answers g GenerateId (Generated answer)) KeepsMaps old new by (one g old new GenerateId (Generated answer) made)
  where
    by : (s t : State) (events : List (Event Update)) → Answers g GenerateId (Generated answer) s events t → KeepsMaps s events t
    by s t events (cache, out, step, is, then_is) = numbers-keep answer s t events
        (λ kept.
        let same : out ≡ no_change s = split s.fault step (λ _ h. h.1) (λ clear h. absurd (false≢true (sym clear ∙ kept))) in
        (is ∙ ap (λ (o : Outcome). o.changes) same, then_is ∙ ap (λ (o : Outcome). o.state) same))
        (subst (λ (es : List (Event Update)). Numbers answer s es t) (sym is) (subst (λ (u : State). Numbers answer s out.changes u) (sym then_is) (numbers s out (chain_length g.state cache) (HasNoRoom g cache.log) cache.config.idgen_persist_interval answer step)))
