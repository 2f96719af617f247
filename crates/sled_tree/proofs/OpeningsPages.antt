-- The pages of a cache that was opened: there is one, and none is taken away.
use Rattle.std.proofs.Common.{◌⊎◌, inl, inr, ◌≤◌, ◌==◌, Bool, true, false, cond, List, [], ◌∷◌, ◌++◌, length, take, slice_set, slice_index_or, length-append, length-set, arith}
use Rattle.sled_log.specs.Contents.{Content, Free, Update, Put, Link, after_link, contents_from, contents_after}
use Rattle.sled_log.specs.Events.{Event, Change, Pin, Seal, Cancel}
use Rattle.sled_search.specs.Calls.{Becomes}
use Rattle.sled_tree.specs.Named.{Named, AreNamed}
use Rattle.sled_tree.specs.Prefixes.{AreSoFar}

one-more : (pages : List Content) (event : Event Update) → length pages ≤ length (contents_from pages event)
one-more pages (Change id (Put content)) = by (id == length pages)
  where
    by : (new : Bool) → length pages ≤ length (cond new (pages ++ content ∷ []) (slice_set pages id content))
    by true = let sum = length-append pages (content ∷ []) in omega arith
    by false = let same = length-set pages id content in omega arith
one-more pages (Change id (Link link)) = let same = length-set pages id (after_link link (slice_index_or pages id Free)) in omega arith
one-more pages Pin = omega arith
one-more pages Seal = omega arith
one-more pages Cancel = omega arith

pub no-fewer : (pages : List Content) (events : List (Event Update)) → length pages ≤ length (contents_after pages events)
no-fewer pages [] = omega arith
no-fewer pages (event ∷ events) = let one = one-more pages event in let rest = no-fewer (contents_from pages event) events in omega arith

pub named-of : (pages : List Content) (w : Named) → 1 ≤ length pages → AreSoFar pages w → AreNamed pages w
named-of [] w some are = absurd (omega (arith, some))
named-of (page ∷ pages) w some are = are

so-far : (pages : List Content) (w : Named) → 1 ≤ length pages → AreNamed pages w → AreSoFar pages w
so-far [] w some are = absurd (omega (arith, some))
so-far (page ∷ pages) w some are = are

pub becomes-so-far : (pages : List Content) (old new : Named) (events : List (Event Update)) → 1 ≤ length pages → Becomes AreNamed pages old events new → Becomes AreSoFar pages old events new
becomes-so-far pages old new events some becomes = record {
  before = so-far pages old some becomes.before;
  each = λ n le. either (contents_after pages (take n events)) (let more = no-fewer pages (take n events) in omega arith) (becomes.each n le);
  behind = so-far (contents_after pages events) new (let more = no-fewer pages events in omega arith) becomes.behind;
}
  where
    either : (ps : List Content) → 1 ≤ length ps → AreNamed ps old ⊎ AreNamed ps new → AreSoFar ps old ⊎ AreSoFar ps new
    either ps more (inl are) = inl (so-far ps old more are)
    either ps more (inr are) = inr (so-far ps new more are)
