-- The lines of a text, and what reading one of them found.
use Rattle.std.proofs.Common.{subst, IfSome, IfOk, Result, ◌≡◌, ◌≢◌, ◌<◌, ◌≤◌, ◌⊎◌, List, inl, inr, Bool, true, false, eqb, ℕ, [], ◌∷◌, ◌++◌, length, Option, None, Some, Ok, Err, sym, ap, ◌∙◌, arith, refl, append_assoc, append-nil, length-append}
use Rattle.std.specs.Io.BufRead.{drop_through, DropsThrough}
use Rattle.std.specs.Io.KnownBytes.{Consumes, Keeps, IsAtEnd}
use Rattle.std.proofs.KnownBytes.{Consumes-trans, Consumes-kept}
use Rattle.std.proofs.lemmas.Bool.Decides.{nat_tests}
use Rattle.sled_base.specs.Order.{Bytes}
use Rattle.sled_lines.specs.Cut.{HasNo}
use Rattle.sled_lines.specs.Lines.{onto_first, lines_of, ReadsLine, IsUnreadLine}
use Rattle.sled_lines.specs.Parts.{TakesPart}
use Rattle.sled_lines.specs.Settings.{longest_line}
use Rattle.sled_lines.specs.declared.lines.Ended.TheVariants as Ended
use Rattle.sled_lines.specs.declared.lines.Line.{Line}
use Rattle.sled_lines.specs.declared.lines.Line.TheVariants as read
use Rattle.sled_lines.specs.declared.lines.ReadError.{ReadError}
use Rattle.sled_lines.specs.declared.lines.ReadError.TheVariants as unread
use Rattle.sled_lines.proofs.Cut.{none_in_both}

-- a byte that isn't a newline stands in the first line
onto : (byte : ℕ) (bytes : Bytes) → (byte ≡ 10 → ⊥) → lines_of (byte ∷ bytes) ≡ onto_first byte (lines_of bytes)
onto byte bytes other = let no : eqb byte 10 ≡ false = grind (arith, nat_tests) in rw no

-- a line that ends at a newline
whole_line : (line rest : Bytes) → HasNo 10 line → lines_of (line ++ 10 ∷ rest) ≡ line ∷ lines_of rest
whole_line [] rest clean = refl
whole_line (byte ∷ line) rest clean = onto byte (line ++ 10 ∷ rest) clean.0 ∙ ap (onto_first byte) (whole_line line rest clean.1)

-- a line that ends with the text
last_line : (line : Bytes) → HasNo 10 line → 0 < length line → lines_of line ≡ line ∷ []
last_line [] clean some = absurd (omega arith)
last_line (byte ∷ []) clean some = onto byte [] clean.0
last_line (byte ∷ next ∷ line) clean some = onto byte (next ∷ line) clean.0 ∙ ap (onto_first byte) (last_line (next ∷ line) clean.1 (omega arith))

-- a text up to its first newline, or to its end
abbrev Through : Bytes → Bytes → Type 0
Through text front = (text ≡ front ++ 10 ∷ drop_through 10 text) ⊎ ((text ≡ front) × (drop_through 10 text ≡ []))

abbrev Front : Bytes → Type 0
Front text = (front : Bytes) × HasNo 10 front × Through text front

through_more : (byte : ℕ) (text : Bytes) (test : Bool) → eqb byte 10 ≡ test → Front text → Front (byte ∷ text)
through_more byte text true e rest = let same : byte ≡ 10 = grind (arith, nat_tests) in ([], tt, inl (rw e (ap (λ first. first ∷ text) same)))
through_more byte text false e rest =
    let other : byte ≡ 10 → ⊥ = λ same. grind (arith, nat_tests) in
    (byte ∷ rest.0, (other, rest.1), elim rest.2 [ inl p ↦ inl (rw e (ap (λ l. byte ∷ l) p)) | inr p ↦ inr (ap (λ l. byte ∷ l) p.0, rw e p.1) ])

through : (text : Bytes) → Front text
through [] = ([], tt, inr (refl, refl))
through (byte ∷ text) = through_more byte text (eqb byte 10) refl (through text)

-- the line that begins with these bytes, however it ends
long_line : (kept text : Bytes) → HasNo 10 kept → 0 < length kept → (line : Bytes) × (length kept ≤ length line) × (lines_of (kept ++ text) ≡ line ∷ lines_of (drop_through 10 text))
long_line kept text clean some =
    let (front, fresh, way) = through text in
    let line = kept ++ front in
    let both = none_in_both 10 kept front clean fresh in
    let count = length-append kept front in
    elim way [
      | inl e ↦ (line, omega arith, ap (λ l. lines_of (kept ++ l)) e ∙ ap lines_of (sym (append_assoc kept front (10 ∷ drop_through 10 text))) ∙ whole_line line (drop_through 10 text) both)
      | inr e ↦ (line, omega arith, ap (λ l. lines_of (kept ++ l)) e.0 ∙ last_line line both (omega arith) ∙ ap (λ l. line ∷ lines_of l) (sym e.1))
    ]

-- ---- texts that have a line

onto_some : (byte : ℕ) (lines : List Bytes) → onto_first byte lines ≢ []
onto_some byte [] none = absurd cc
onto_some byte (line ∷ lines) none = absurd cc

line_by_test : (byte : ℕ) (bytes : Bytes) (test : Bool) → eqb byte 10 ≡ test → lines_of (byte ∷ bytes) ≢ []
line_by_test byte bytes true e none = let first : [] ∷ lines_of bytes ≡ [] = rw e at none in absurd cc
line_by_test byte bytes false e none = onto_some byte (lines_of bytes) (rw e at none)

-- a text that has bytes has a line
pub has_line : (text : Bytes) → text ≢ [] → lines_of text ≢ []
has_line [] some = absurd (some refl)
has_line (byte ∷ text) some = line_by_test byte text (eqb byte 10) refl

-- a text of no bytes
pub no_length : (text : Bytes) → length text ≡ 0 → text ≡ []
no_length [] none = refl
no_length (byte ∷ text) none = absurd (omega (arith, none))

-- ---- what reading a line found

-- more bytes than a line may have, and the rest of their line
pub found_long : (old mid new : Option Bytes) (kept : Bytes) → HasNo 10 kept → longest_line < length kept → Consumes old mid kept → DropsThrough mid new 10 → ReadsLine {E = ReadError} old new (Ok read.TooLong) kept
found_long None mid new kept clean long taken skipped = tt
found_long (Some x) None new kept clean long taken skipped = absurd taken
found_long (Some x) (Some y) None kept clean long taken skipped = absurd cc
found_long (Some x) (Some y) (Some z) kept clean long taken skipped =
    let (line, more, lines) = long_line kept y clean (omega arith) in
    let rest : z ≡ drop_through 10 y = cc in
    (line, omega arith, ap lines_of taken ∙ lines ∙ ap (λ l. line ∷ lines_of l) (sym rest))

-- the same, where passing over the rest may fail
pub skipped : (old mid new : Option Bytes) (kept : Bytes) (result : Result Line ReadError) → HasNo 10 kept → longest_line < length kept → Consumes old mid kept → IfOk result (λ line. (line ≡ read.TooLong) × DropsThrough mid new 10) → ReadsLine old new result kept
skipped old mid new kept (Ok line) clean long taken ok = rw ok.0 (found_long old mid new kept clean long taken ok.1)
skipped None mid new kept (Err e) clean long taken ok = tt
skipped (Some x) mid new kept (Err e) clean long taken ok = tt

-- what was kept of a line, and a part behind it
module _ (old mid new : Option Bytes) (before kept : Bytes) (clean : HasNo 10 before) (taken : Consumes old mid before) where
  -- the newline behind the part
  pub part_line : (f : Bool) → TakesPart mid new before kept (Ok (Ended.Line f)) → length kept ≤ longest_line → ReadsLine {E = ReadError} old new (Ok (read.Whole f)) kept
  part_line f (part, fresh, e, more) short = found old new line
    where
      whole : HasNo 10 kept
      whole = subst (HasNo 10) (sym e) (none_in_both 10 before part clean fresh)

      line : Consumes old new (kept ++ 10 ∷ [])
      line = subst (Consumes old new) (sym (append_assoc before part (10 ∷ [])) ∙ ap (λ l. l ++ 10 ∷ []) (sym e)) (Consumes-trans old mid new before (part ++ 10 ∷ []) taken more)

      found : (a c : Option Bytes) → Consumes a c (kept ++ 10 ∷ []) → ReadsLine {E = ReadError} a c (Ok (read.Whole f)) kept
      found None c p = tt
      found (Some x) None p = absurd p
      found (Some x) (Some z) p = (short, ap lines_of (p ∙ append_assoc kept (10 ∷ []) z) ∙ whole_line kept z whole)

  -- the end of the input behind it
  nothing : (part : Bytes) → kept ≡ before ++ part → part ≡ [] → kept ≡ before
  nothing part e none = e ∙ ap (λ l. before ++ l) none ∙ append-nil before

  pub part_end : TakesPart mid new before kept (Ok Ended.Input) → length kept ≡ 0 → ReadsLine {E = ReadError} old new (Ok read.End) kept
  part_end (part, fresh, e, (none, end, keeps)) zero = found old mid new taken end keeps
    where
      found : (a b c : Option Bytes) → Consumes a b before → IsAtEnd b → Keeps b c → ReadsLine {E = ReadError} a c (Ok read.End) kept
      found None b c p q r = tt
      found (Some x) None c p q r = absurd p
      found (Some x) (Some y) None p q r = absurd r
      found (Some x) (Some y) (Some z) p q r = (p ∙ ap (λ l. l ++ y) (sym (nothing part e none) ∙ no_length kept zero) ∙ q, r ∙ q)

  pub part_last : (f : Bool) → TakesPart mid new before kept (Ok Ended.Input) → 0 < length kept → length kept ≤ longest_line → ReadsLine {E = ReadError} old new (Ok (read.Whole f)) kept
  part_last f (part, fresh, e, (none, end, keeps)) some short = found old mid new taken end keeps
    where
      same : kept ≡ before
      same = nothing part e none

      found : (a b c : Option Bytes) → Consumes a b before → IsAtEnd b → Keeps b c → ReadsLine {E = ReadError} a c (Ok (read.Whole f)) kept
      found None b c p q r = tt
      found (Some x) None c p q r = absurd p
      found (Some x) (Some y) None p q r = absurd r
      found (Some x) (Some y) (Some z) p q r =
          (short, ap lines_of (p ∙ ap (λ l. before ++ l) q ∙ append-nil before ∙ sym same) ∙ last_line kept (subst (HasNo 10) (sym same) clean) some ∙ ap (λ l. kept ∷ lines_of l) (sym (r ∙ q)))

  -- more of the line
  pub part_more : TakesPart mid new before kept (Ok Ended.Part) → HasNo 10 kept × Consumes old new kept
  part_more (part, fresh, e, more) =
      (subst (HasNo 10) (sym e) (none_in_both 10 before part clean fresh), subst (Consumes old new) (sym e) (Consumes-trans old mid new before part taken more))

  -- no more was taken
  stays : (part : Bytes) → kept ≡ before ++ part → part ≡ [] → Keeps mid new → Consumes old new kept
  stays part e none keeps = subst (Consumes old new) (sym (nothing part e none)) (Consumes-kept old mid new before taken keeps)

  pub part_unread : (e : ReadError) → TakesPart mid new before kept (Err e) → IsUnreadLine e old new kept
  part_unread unread.Read (part, fresh, e, (none, keeps)) = inl (stays part e none keeps)
  part_unread unread.Memory (part, fresh, e, (none, keeps, left)) = (stays part e none keeps, more old mid taken left)
    where
      more : (a b : Option Bytes) → Consumes a b before → IfSome b (λ rest. rest ≢ []) → IfSome a (λ input. input ≢ kept)
      more None b p q = tt
      more (Some x) None p q = absurd p
      more (Some x) (Some y) p q = λ all. q (no_length y (omega (arith, ap length (sym p ∙ all ∙ nothing part e none), length-append before y)))
