-- Pages that stay as a cache leaves them, while messages come.
use Rattle.sled_pagecache.proofs.Names.{ℕ, zero, suc, List, [], ◌∷◌, ◌++◌, take, drop, chains_from, chains_after, Content, Update, contents_from, contents_after, Event, Message, Messages, effect_of, AreEvents, IsProper, StayProper, ◌≡◌, arith, length, take_all, ◌+◌, contents_after-append}
use Rattle.std.proofs.Math.Seq.{take-add}
use Rattle.sled_log.specs.Inside.Laws.{chains_after-append}

-- no message is no change
pub no-changes : (contents : List Content) (messages : List (Event Message)) (changes : List (Event Update)) → messages ≡ [] → AreEvents contents messages changes → changes ≡ []
no-changes contents messages changes h1 h2 = grind arith

-- no message comes
pub stay-none : (pages : List Messages) (contents : List Content) → IsProper pages contents → StayProper pages contents [] []
stay-none pages contents h1 = grind arith

-- one message comes
pub stay-one : (pages : List Messages) (contents : List Content) (m : Event Message) (u : Event Update)
    → IsProper pages contents → IsProper (chains_from effect_of pages m) (contents_from contents u) → StayProper pages contents (m ∷ []) (u ∷ [])
stay-one pages contents m u before after zero = before
stay-one pages contents m u before after (suc zero) = after
stay-one pages contents m u before after (suc (suc n)) = after

-- some come behind others
pub stay-append : (pages : List Messages) (contents : List Content) (ms ns : List (Event Message)) (us vs : List (Event Update))
    → AreEvents contents ms us → StayProper pages contents ms us → StayProper (chains_after effect_of pages ms) (contents_after contents us) ns vs
    → StayProper pages contents (ms ++ ns) (us ++ vs)
stay-append pages contents [] ns [] vs h first second n = second n
stay-append pages contents (m ∷ ms) ns (u ∷ us) vs h first second zero = first zero
stay-append pages contents (m ∷ ms) ns (u ∷ us) vs h first second (suc n) =
    stay-append (chains_from effect_of pages m) (contents_from contents u) ms ns us vs h.2 (λ k. first (suc k)) second n
stay-append pages contents ms ns us vs h first second n = absurd h

-- a beginning of them comes
pub stay-take : (k : ℕ) (pages : List Messages) (contents : List Content) (ms : List (Event Message)) (us : List (Event Update))
    → AreEvents contents ms us → StayProper pages contents ms us → StayProper pages contents (take k ms) (take k us)
stay-take zero pages contents ms us h stays n = stay-none pages contents (stays zero) n
stay-take (suc k) pages contents [] [] h stays n = stay-none pages contents (stays zero) n
stay-take (suc k) pages contents (m ∷ ms) (u ∷ us) h stays zero = stays zero
stay-take (suc k) pages contents (m ∷ ms) (u ∷ us) h stays (suc n) =
    stay-take k (chains_from effect_of pages m) (contents_from contents u) ms us h.2 (λ j. stays (suc j)) n
stay-take k pages contents ms us h stays n = absurd h

-- those behind a cut come
pub stay-drop : (cut : ℕ) (pages : List Messages) (contents : List Content) (ms : List (Event Message)) (us : List (Event Update))
    → AreEvents contents ms us → StayProper pages contents ms us
    → StayProper (chains_after effect_of pages (take cut ms)) (contents_after contents (take cut us)) (drop cut ms) (drop cut us)
stay-drop cut pages contents ms us h stays n = rw (take-add cut n ms, take-add cut n us, chains_after-append effect_of, contents_after-append) at (stays (cut + n))

-- all of them have come
pub stay-all : (pages : List Messages) (contents : List Content) (ms : List (Event Message)) (us : List (Event Update))
    → AreEvents contents ms us → StayProper pages contents ms us → IsProper (chains_after effect_of pages ms) (contents_after contents us)
stay-all pages contents ms us h stays = let n = length ms + length us in rw (take_all n ms (omega arith), take_all n us (omega arith)) at (stays n)
