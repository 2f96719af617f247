-- The calls of a list, one after another.
use Rattle.sled_log.proofs.Names.{◌≡◌, ◌<◌, ◌+◌, ℕ, Bool, true, List, [], ◌∷◌, ◌++◌, length, take, drop, get_or, sym, ◌∙◌, ap, add-one, and_parts, append-nil, take-append-drop, take_more, drop-cons, Event, chains_after, Message, Messages, effect_of, events_of, events_of_all, can_make, leaves_open, can_make_all}
use Rattle.std.proofs.lemmas.Grind.{flat_map-append}
use Rattle.sled_log.specs.declared.runs.LogCall.{LogCall}

module _ (calls : List LogCall) (i : ℕ) (call : LogCall) (lt : i < length calls) (is : call ≡ get_or calls i call) where
  -- the events of one call more
  pub events-more : events_of_all (take i calls) ++ events_of call ≡ events_of_all (take (i + 1) calls)
  events-more =
      sym
      (ap events_of_all (take_more calls i call lt)
      ∙ flat_map-append events_of (take i calls) (get_or calls i call ∷ [])
      ∙ ap (λ (l : List (Event Message)). events_of_all (take i calls) ++ l) (append-nil (events_of (get_or calls i call)) ∙ ap events_of (sym is)))

  -- the next call can be made, and then the others
  pub can-next : (pages : List Messages) (batch : Bool) → can_make_all pages batch (drop i calls) ≡ true → (can_make pages batch call ≡ true) × (can_make_all (chains_after effect_of pages (events_of call)) (leaves_open batch call) (drop (i + 1) calls) ≡ true)
  can-next pages batch can =
      let next : drop i calls ≡ call ∷ drop (i + 1) calls = drop-cons calls i call lt ∙ ap (λ n. get_or calls i call ∷ drop n calls) (sym (add-one i)) ∙ ap (λ c. c ∷ drop (i + 1) calls) (sym is) in
      and_parts (can_make pages batch call) (can_make_all (chains_after effect_of pages (events_of call)) (leaves_open batch call) (drop (i + 1) calls)) (sym (ap (can_make_all pages batch) next) ∙ can)

-- the events of the first calls, and of the others
pub events-split : (calls : List LogCall) (i : ℕ) → events_of_all (take i calls) ++ events_of_all (drop i calls) ≡ events_of_all calls
events-split calls i = sym (flat_map-append events_of (take i calls) (drop i calls)) ∙ ap events_of_all (take-append-drop i calls)
