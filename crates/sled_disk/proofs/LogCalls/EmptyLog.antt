-- A log whose pages are none holds none, and the other way round.
use Rattle.std.proofs.Common.{◌≡◌, ◌==◌, ◌∙◌, ℕ, Bool, true, List, [], ◌∷◌, length, map, refl, sym, ap, arith}
use Rattle.std.specs.Global.{Vec}
use Rattle.std.specs.List.{list_all}
use Rattle.std.specs.Prelude.{Option}
use Rattle.std.proofs.lemmas.Bool.{eqb-true}
use Rattle.sled_log.specs.LogState.{now}
use Rattle.sled_log.specs.Messages.{Entry, effect_of_entry}
use Rattle.sled_disk.specs.Format.{IsBytes}
use Rattle.sled_disk.specs.Pending.{is_own, state_in}
use Rattle.sled_disk.specs.Reading.{chains_of, entry_in}
use Rattle.sled_disk.specs.LogContents.{Stands, records_behind}
use Rattle.sled_disk.specs.declared.recovery.head.Head.{Head}
use Rattle.sled_disk.proofs.Frames.RecordAppend.{bytes, heads-now}

pub none-of : {A : Type 0} (xs : List A) → (length xs == 0) ≡ true → xs ≡ []
none-of [] is = refl
none-of (x ∷ xs) is = absurd (omega (arith, eqb-true (length (x ∷ xs)) 0 is))

pub of-none : {A : Type 0} (xs : List A) → xs ≡ [] → (length xs == 0) ≡ true
of-none xs none = ap (λ l. length l == 0) none

none-mapped : {A B : Type 0} (f : A → B) (xs : List A) → map f xs ≡ [] → xs ≡ []
none-mapped f [] is = refl
none-mapped f (x ∷ xs) is = absurd cc

module _ (seen : List ℕ) (gate : ℕ) (spilled : Bool) (buffer : List ℕ) (batch : Option ℕ) (pages : List (Vec Head)) (fits : IsBytes seen) (s : Stands seen gate spilled (records_behind buffer) batch (chains_of pages)) (usable : Bool) (own : list_all is_own (records_behind buffer) ≡ true) where
  abbrev entry : Head → Entry
  entry = entry_in (bytes seen gate spilled buffer batch (chains_of pages) fits s)

  heads : map (map entry) (chains_of pages) ≡ now effect_of_entry (state_in seen gate spilled buffer usable)
  heads = heads-now seen gate spilled buffer batch (chains_of pages) fits s usable own

  pub none-held : pages ≡ [] → now effect_of_entry (state_in seen gate spilled buffer usable) ≡ []
  none-held none = sym heads ∙ ap (λ (l : List (Vec Head)). map (map entry) (chains_of l)) none

  pub held-none : now effect_of_entry (state_in seen gate spilled buffer usable) ≡ [] → pages ≡ []
  held-none none = none-mapped (λ (v : Vec Head). v.items) pages (none-mapped (map entry) (chains_of pages) (heads ∙ none))
