-- What a page cache is: a list of stamped pages, the next generated id, whether a batch is open, and whether there was a write error.
use Rattle.std.specs.Prelude.{◌≡◌, ◌≢◌, ◌+◌, ℕ, List, Option, Some, None, Result, Ok, Err, slice_get, ⊤, Bool, true, false, [], ◌∷◌, map, slice_set, if◌then◌else◌}
use Rattle.sled_pagecache.specs.declared.pagecache.handles.view.PageView.{PageView}
use Rattle.sled_log.specs.Contents.{Content, Free, Counter, Roots, Node, Damaged}

abbrev pub Token : Type 0
Token = PageView

abbrev pub token : ℕ → ℕ → Token
token pid stamp = record { pid = pid; stamp = stamp }

abbrev pub pid_of : Token → ℕ
pid_of t = t.pid

abbrev pub stamp_of : Token → ℕ
stamp_of t = t.stamp

-- What a swap returns if these are the stamps, whatever the log: the page's token at the next stamp; or its current token, which is at
-- another stamp, with what was given; or neither.
abbrev pub IsAnswered : {R : Type 0} → List ℕ → Token → R → Result Token (Option (Token × R)) → Type 0
IsAnswered stamps old given (Ok made) = (slice_get stamps old.pid ≡ Some old.stamp) × (made ≡ token old.pid (old.stamp + 1))
IsAnswered stamps old given (Err (Some back)) = (back.0.pid ≡ old.pid) × (slice_get stamps old.pid ≡ Some back.0.stamp) × (back.0.stamp ≢ old.stamp) × (back.1 ≡ given)
IsAnswered stamps old given (Err None) = ⊤

-- a page with its stamp, which each change of the page increases
pub record StampedPage : Type 0 where
  pub stamp : ℕ
  pub content : Content

abbrev pub page : ℕ → Content → StampedPage
page stamp content = record { stamp = stamp; content = content }

-- the pages by their ids, the next generated id, whether a batch is open, and whether there was a write error
pub record State : Type 0 where
  pub pages : List StampedPage
  pub next : ℕ
  pub batch : Bool
  pub fault : Bool

abbrev pub contents_of : State → List Content
contents_of s = map (λ p. p.content) s.pages

abbrev pub stamps_of : State → List ℕ
stamps_of s = map (λ p. p.stamp) s.pages

-- the page at an id, if there is one
abbrev pub page_at : State → ℕ → Option StampedPage
page_at s pid = slice_get s.pages pid

-- the state with another page at the id
abbrev pub with_page : State → ℕ → StampedPage → State
with_page s pid changed = record s { pages = slice_set s.pages pid changed }

abbrev pub is_free : Content → Bool
is_free Free = true
is_free (Counter n) = false
is_free (Roots roots) = false
is_free (Node node) = false
is_free Damaged = false

-- the token of the page, if it is free
abbrev pub free_token : ℕ → StampedPage → Option Token
free_token pid p = if is_free p.content then Some (token pid p.stamp) else None

abbrev pub later_token : Option Token → Option Token → Option Token
later_token None first = first
later_token (Some last) first = Some last

-- the token of the free page with the greatest id, among these pages, of which the first has this id
abbrev pub greatest_free : ℕ → List StampedPage → Option Token
greatest_free pid [] = None
greatest_free pid (p ∷ pages) = later_token (greatest_free (pid + 1) pages) (free_token pid p)
