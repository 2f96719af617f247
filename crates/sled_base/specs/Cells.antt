-- A cell of a linked list, stored in the space of a link.
use Rattle.std.specs.Prelude.{◌≡◌, ℕ, Bool, true, false, if◌then◌else◌, Option, Some, None, refl}
use Rattle.std.proofs.Common.{sym, ap, ◌∙◌}
use Rattle.std.proofs.lemmas.Bool.{eqb-true, false≢true}
use Rattle.sled_base.specs.OptionalSlots.{cell_limit, is_mark}
use Rattle.sled_base.specs.declared.dll.Slot.{Slot}
use Rattle.sled_base.specs.declared.dll.cell.Link.{Link}
use Rattle.sled_base.specs.declared.dll.cell.Cell.{Cell}
use Rattle.sled_base.specs.declared.dll.cell.Cell.TheVariants.{Linked, Free}

abbrev pub cell_of : Link → Cell
cell_of link = if is_mark link.before then Free link.after else Linked link

abbrev pub link_in : Cell → Link
link_in (Linked link) = link
link_in (Free next) = record { item = 0; before = Some (record { 0 = cell_limit }); after = next }

-- the neighbour of an item isn't the mark of a free cell
abbrev pub IsUnmarked : Cell → Type 0
IsUnmarked (Linked link) = is_mark link.before ≡ false
IsUnmarked (Free next) = Unit {0}

-- in a free cell the number of the item is 0
abbrev pub IsExact : Link → Type 0
IsExact link = is_mark link.before ≡ true → link.item ≡ 0

mark_is : (before : Option Slot) → is_mark before ≡ true → Some (record { 0 = cell_limit }) ≡ before
mark_is None marked = absurd (false≢true marked)
mark_is (Some slot) marked = ap (λ n. Some (record { 0 = n })) (sym (eqb-true slot.0 cell_limit marked))

parts : (item : ℕ) (before after : Option Slot) (marked : Bool) → is_mark before ≡ marked → (marked ≡ true → item ≡ 0) → link_in (if marked then Free after else Linked (record { item = item; before = before; after = after })) ≡ record { item = item; before = before; after = after }
parts item before after false is exact = refl
parts item before after true is exact =
    ap (λ n. record { item = n; before = Some (record { 0 = cell_limit }); after = after }) (sym (exact refl)) ∙ ap (λ mark. record { item = item; before = mark; after = after }) (mark_is before is)

pub link_in-cell_of : (link : Link) → IsExact link → link_in (cell_of link) ≡ link
link_in-cell_of link exact = parts link.item link.before link.after (is_mark link.before) refl exact
