-- Which map a tree is after each of some changes of its pages.
use Rattle.std.specs.Prelude.{ℕ, List, [], ◌∷◌}
use Rattle.sled_log.specs.Contents.{Content, Update, contents_from}
use Rattle.sled_log.specs.Events.{Event}
use Rattle.sled_search.specs.Map.{Map}
use Rattle.sled_search.specs.Search.{IsTreeOf}

-- The tree is this map at first, and after each of the events the next one of the list.
abbrev pub Passes : List Content → ℕ → Map → List (Event Update) → List Map → Type 0
Passes pages root m [] [] = IsTreeOf pages root m
Passes pages root m (event ∷ events) (then ∷ maps) = IsTreeOf pages root m × Passes (contents_from pages event) root then events maps
Passes pages root m events maps = ⊥
