-- The chain of a page: the last change that puts a content there, and the links after it.
use Rattle.std.specs.List.{list_all}
use Rattle.std.specs.Prelude.{ℕ, ◌==◌, Bool, true, false, List, [], ◌∷◌, ◌++◌, length, slice_set, slice_index_or, if◌then◌else◌}
use Rattle.sled_base.specs.declared.kinds.LogKind.{LogKind}
use Rattle.sled_base.specs.declared.kinds.LogKind.TheVariants as kinds
use Rattle.sled_log.specs.Events.{Event, Change, Pin, Seal, Cancel}

abbrev pub is_freeing : LogKind → Bool
is_freeing kinds.Free = true
is_freeing kinds.Replace = false
is_freeing kinds.Link = false
is_freeing kinds.Skip = false
is_freeing kinds.Corrupted = false

abbrev pub is_linking : LogKind → Bool
is_linking kinds.Free = false
is_linking kinds.Replace = false
is_linking kinds.Link = true
is_linking kinds.Skip = false
is_linking kinds.Corrupted = false

-- what a change does to its page, for each type that represents a change
module _ {E : Type 0} (effect : E → LogKind) where
  -- whether a page has no content: it was never changed, or it was freed
  abbrev pub is_empty : List E → Bool
  is_empty [] = true
  is_empty (said ∷ chain) = is_freeing (effect said)

  -- the chain after a link; a page without a content ignores it
  abbrev pub chain_with_link : List E → E → List E
  chain_with_link chain said = if is_empty chain then chain else chain ++ said ∷ []

  -- The chains, by id, with a new one. If the id equals their number, this makes a new page; a greater id changes nothing.
  abbrev pub chains_with_new : List (List E) → ℕ → E → List (List E)
  chains_with_new chains id said = if id == length chains then chains ++ (said ∷ []) ∷ [] else slice_set chains id (said ∷ [])

  -- the chains after one change, by what it does
  abbrev pub chains_with_change : LogKind → List (List E) → ℕ → E → List (List E)
  chains_with_change kinds.Free chains id said = chains_with_new chains id said
  chains_with_change kinds.Replace chains id said = chains_with_new chains id said
  chains_with_change kinds.Link chains id said = slice_set chains id (chain_with_link (slice_index_or chains id []) said)
  chains_with_change kinds.Skip chains id said = chains
  chains_with_change kinds.Corrupted chains id said = chains

  -- the chains after one event; a mark changes none
  abbrev pub chains_from : List (List E) → Event E → List (List E)
  chains_from chains (Change id said) = chains_with_change (effect said) chains id said
  chains_from chains Pin = chains
  chains_from chains Seal = chains
  chains_from chains Cancel = chains

  -- the chains after events, in order
  abbrev pub chains_after : List (List E) → List (Event E) → List (List E)
  chains_after chains [] = chains
  chains_after chains (event ∷ events) = chains_after (chains_from chains event) events

  abbrev pub is_end : List E → Bool
  is_end [] = true
  is_end (said ∷ chain) = false

  -- whether these may follow a change with that effect: links follow a content, and nothing follows one that frees the page
  abbrev pub may_follow : LogKind → List E → Bool
  may_follow kinds.Free chain = is_end chain
  may_follow kinds.Replace chain = list_all (λ said. is_linking (effect said)) chain
  may_follow kinds.Link chain = false
  may_follow kinds.Skip chain = false
  may_follow kinds.Corrupted chain = false

  -- whether this is the chain of a page
  abbrev pub is_chain : List E → Bool
  is_chain [] = false
  is_chain (said ∷ chain) = may_follow (effect said) chain
