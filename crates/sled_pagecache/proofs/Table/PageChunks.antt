-- What the chunks of a table keep at an id, and what a change of one chunk makes of them.
use Rattle.sled_pagecache.proofs.Names.{false≢true, ltb-false, append-nil, append_assoc, length-set, set-append_left, set-append_right, set-get_or, slice_get-map, slice_get_past, slice_get_read, take, Vec, IsItemAt, Page, ◌≡◌, ◌+◌, ◌-◌, ◌*◌, ◌<◌, ◌≤◌, ℕ, zero, suc, Bool, true, false, List, [], ◌∷◌, ◌++◌, length, Option, Some, None, slice_get, get_or, set, vec_len, Bor, refl, sym, ◌∙◌, ap, arith, length-append, MatchOption, option_and_then, with_item, pages_in, AreFilled, at_last, is_unfilled, at-left, at-right, last-at, none-some, same_Some, map}
use Rattle.std.proofs.Math.Seq.{map-set_same, take-length}
use Rattle.std.proofs.lemmas.List.{length_push, take_more_set}

-- what `get` of a list tells
pub got-is : {X : Type 0} (xs : List X) (i : ℕ) (r : Option (Bor X)) → IsItemAt xs i r → MatchOption r (slice_get xs i ≡ None) (λ x. slice_get xs i ≡ Some x.now)
got-is xs i None is = slice_get_past xs i is.3
got-is xs i (Some x) is = slice_get_read xs (length xs) i x.now refl is.3.0 is.1

-- ---- the last chunk

module _ (test : Vec Page → Bool) where
  pub some-last : (chunks : List (Vec Page)) → at_last test chunks ≡ true → 0 < length chunks
  some-last [] is = absurd (false≢true is)
  some-last (chunk ∷ chunks) is = omega arith

  pub at_last-push : (chunks : List (Vec Page)) (chunk : Vec Page) → at_last test (chunks ++ chunk ∷ []) ≡ test chunk
  at_last-push chunks chunk =
      let last : length (chunks ++ chunk ∷ []) - 1 ≡ length chunks = omega (arith, length_push chunks chunk) in
      rw (last, last-at chunks chunk) refl

  -- another chunk stands for one that is tested alike
  pub at_last-same : (chunks : List (Vec Page)) (i : ℕ) (chunk new : Vec Page) → chunk ≡ get_or chunks i chunk → test new ≡ test chunk → at_last test (set chunks i new) ≡ at_last test chunks
  at_last-same chunks i chunk new is same =
      let all : map test (set chunks i new) ≡ map test chunks = map-set_same test chunks i new chunk (same ∙ ap test is) in
      rw (length-set chunks i new, ← (slice_get-map test (set chunks i new) (length chunks - 1)), ← (slice_get-map test chunks (length chunks - 1)), all) refl

-- ---- the pages of chunks

pub pages-push : (chunks : List (Vec Page)) (chunk : Vec Page) → pages_in (chunks ++ chunk ∷ []) ≡ pages_in chunks ++ chunk.items
pages-push [] chunk = append-nil chunk.items
pages-push (first ∷ chunks) chunk = ap (λ (pages : List Page). first.items ++ pages) (pages-push chunks chunk) ∙ sym (append_assoc first.items (pages_in chunks) chunk.items)

-- the last chunk, and another one in place of it
pub ends : (chunks : List (Vec Page)) (last : ℕ) → last + 1 ≡ length chunks → (new : Vec Page) → set chunks last new ≡ take last chunks ++ new ∷ []
ends chunks last is_last new =
    sym (ap (λ n. take n (set chunks last new)) (is_last ∙ sym (length-set chunks last new)) ∙ take-length (set chunks last new)) ∙ take_more_set chunks last new (omega arith)

pub ends-in : (chunks : List (Vec Page)) (last : ℕ) → last + 1 ≡ length chunks → (chunk : Vec Page) → chunk ≡ get_or chunks last chunk → chunks ≡ take last chunks ++ chunk ∷ []
ends-in chunks last is_last chunk is = sym (ap (set chunks last) is ∙ set-get_or chunks last chunk) ∙ ends chunks last is_last chunk

module _ (fan : ℕ) where
  pub filled-last : (front : List (Vec Page)) (chunk new : Vec Page) → AreFilled fan (front ++ chunk ∷ []) → vec_len new ≤ fan → AreFilled fan (front ++ new ∷ [])
  filled-last [] chunk new are few = few
  filled-last (first ∷ []) chunk new are few = (are.0, few)
  filled-last (first ∷ next ∷ front) chunk new are few = (are.0, filled-last (next ∷ front) chunk new are.1 few)

  pub length-front : (front : List (Vec Page)) (chunk : Vec Page) → AreFilled fan (front ++ chunk ∷ []) → (length (pages_in front) ≡ length front * fan) × (vec_len chunk ≤ fan)
  length-front [] chunk are = (omega arith, are)
  length-front (first ∷ []) chunk are = (omega (arith, length-append first.items [], first.ok.0, are.0), are.1)
  length-front (first ∷ next ∷ front) chunk are =
      let rest = length-front (next ∷ front) chunk are.1 in (omega (arith, length-append first.items (pages_in (next ∷ front)), first.ok.0, are.0, rest.0), rest.1)

  -- one more chunk
  pub filled-more : (chunks : List (Vec Page)) (new : Vec Page) → AreFilled fan chunks → at_last (is_unfilled fan) chunks ≡ false → vec_len new ≤ fan → AreFilled fan (chunks ++ new ∷ [])
  filled-more [] new are closed few = few
  filled-more (last ∷ []) new are closed few = (omega (arith, are, ltb-false (vec_len last) fan closed), few)
  filled-more (first ∷ next ∷ chunks) new are closed few =
      let place : suc (suc (length chunks)) - 1 ≡ suc (suc (length chunks) - 1) = omega arith in
      (are.0, filled-more (next ∷ chunks) new are.1 (rw place at closed) few)

  -- ---- one chunk

  pub filled-same : (chunks : List (Vec Page)) (left : ℕ) (chunk new : Vec Page) → slice_get chunks left ≡ Some chunk → AreFilled fan chunks → vec_len new ≡ vec_len chunk → AreFilled fan (set chunks left new)
  filled-same [] left chunk new at are same = tt
  filled-same (first ∷ []) zero chunk new at are same = omega (arith, same, ap (λ (v : Vec Page). vec_len v) (same_Some first chunk at), are)
  filled-same (first ∷ []) (suc left) chunk new at are same = are
  filled-same (first ∷ next ∷ chunks) zero chunk new at are same = (same ∙ ap (λ (v : Vec Page). vec_len v) (sym (same_Some first chunk at)) ∙ are.0, are.1)
  filled-same (first ∷ next ∷ chunks) (suc zero) chunk new at are same = (are.0, filled-same (next ∷ chunks) zero chunk new at are.1 same)
  filled-same (first ∷ next ∷ chunks) (suc (suc left)) chunk new at are same = (are.0, filled-same (next ∷ chunks) (suc left) chunk new at are.1 same)

  pub pages-set : (chunks : List (Vec Page)) (left right : ℕ) (chunk : Vec Page) (page : Page) → slice_get chunks left ≡ Some chunk → AreFilled fan chunks → right < vec_len chunk
      → pages_in (set chunks left (with_item chunk right page)) ≡ set (pages_in chunks) (left * fan + right) page
  pages-set [] left right chunk page at are short = absurd (none-some chunk at)
  pages-set (first ∷ chunks) zero right chunk page at are short =
      let place : right ≡ 0 * fan + right = omega arith in
      rw (same_Some first chunk at) (sym (set-append_left chunk.items (pages_in chunks) right page (omega (arith, chunk.ok.0))) ∙ ap (λ i. set (chunk.items ++ pages_in chunks) i page) place)
  pages-set (first ∷ []) (suc left) right chunk page at are short = absurd (none-some chunk at)
  pages-set (first ∷ next ∷ chunks) (suc left) right chunk page at are short =
      let place : left * fan + right ≡ suc left * fan + right - fan = omega arith in
      ap (λ (pages : List Page). first.items ++ pages) (pages-set (next ∷ chunks) left right chunk page at are.1 short ∙ ap (λ i. set (pages_in (next ∷ chunks)) i page) place)
      ∙ sym (set-append_right first.items (pages_in (next ∷ chunks)) fan (suc left * fan + right) page (sym first.ok.0 ∙ are.0) (omega arith))

  pub page-at : (chunks : List (Vec Page)) (left right : ℕ) → AreFilled fan chunks → right < fan → slice_get (pages_in chunks) (left * fan + right) ≡ option_and_then (λ (chunk : Vec Page). slice_get chunk.items right) (slice_get chunks left)
  page-at [] left right are short = refl
  page-at (chunk ∷ []) zero right are short = rw append-nil (ap (slice_get chunk.items) (omega arith))
  page-at (chunk ∷ []) (suc left) right are short = slice_get_past (chunk.items ++ []) (suc left * fan + right) (omega (arith, length-append chunk.items [], chunk.ok.0))
  page-at (chunk ∷ next ∷ chunks) zero right are short =
      let place : 0 * fan + right ≡ right = omega arith in
      ap (slice_get (pages_in (chunk ∷ next ∷ chunks))) place ∙ at-left chunk.items (pages_in (next ∷ chunks)) right (omega (arith, chunk.ok.0, are.0))
  page-at (chunk ∷ next ∷ chunks) (suc left) right are short =
      at-right chunk.items (pages_in (next ∷ chunks)) (left * fan + right) (suc left * fan + right) (omega (arith, chunk.ok.0, are.0)) ∙ page-at (next ∷ chunks) left right are.1 short
