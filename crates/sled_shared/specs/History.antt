-- A history of entries that exists only in the proofs, and what its tokens own.
use Rattle.std.specs.Prelude.{◌≡◌, ℕ, ◌==◌, Bool, true, false, List, [], ◌∷◌, ◌++◌, map, reverse, length}
use base.Fraction.{full_share}
use base.Stored.{Gv, gnum, gcons, Coded, coded×, coded_ℕ}
use base.Fml.{Fml, ftrue, fsep}
use base.Growing.{Order, numbers, prefixes, latest, at_least}

-- an entry, and the number of the pen that wrote it
abbrev pub Line : Type 0 → Type 0
Line E = ℕ × E

abbrev pub line_coded : {E : Type 0} → Coded E → Coded (Line E)
line_coded c = coded× coded_ℕ c

abbrev pub line_code : {E : Type 0} → (E → Gv) → Line E → Gv
line_code c line = gcons (gnum line.0) (c line.1)

abbrev pub with_entry_if : {E : Type 0} → Bool → E → List E → List E
with_entry_if true e entries = e ∷ entries
with_entry_if false e entries = entries

-- the entries that this pen wrote
abbrev pub written_by : {E : Type 0} → ℕ → List (Line E) → List E
written_by by [] = []
written_by by (line ∷ log) = with_entry_if (line.0 == by) line.1 (written_by by log)

-- The pen has written this entry, after all that it had seen and what others wrote since then.
abbrev pub Writes : {E : Type 0} → ℕ → List (Line E) → E → List (Line E) → Type 0
Writes {E} by seen e after = (between : List (Line E)) × (written_by by between ≡ []) × (after ≡ (seen ++ between) ++ (by, e) ∷ [])

-- The pen has seen a prefix of the history, which has all that the pen wrote.
abbrev pub HasAll : {E : Type 0} → ℕ → List (Line E) → List (Line E) → Type 0
HasAll {E} by seen log = (others : List (Line E)) × (written_by by others ≡ []) × (log ≡ seen ++ others)

-- Each pen has a count that only grows. For each line, newest first, it is known that its pen had counted at least that many entries by then.
abbrev pub counted : {E : Type 0} → List (Line E) → Fml
counted [] = ftrue
counted (line ∷ older) = fsep (at_least numbers line.0 (length (written_by line.0 (line ∷ older)))) (counted older)

-- The code of a code is itself, so that the order of the logs names no type parameter.
abbrev pub itself : Coded Gv
itself = record { code = λ g. g; inj = λ x y p. p }

abbrev pub logs : Order (List Gv)
logs = prefixes itself

unfoldable pub history_owns : {E : Type 0} → (E → Gv) → ℕ → List (Line E) → Fml
history_owns c name log = fsep (latest logs full_share name (map (line_code c) log)) (counted (reverse log))

unfoldable pub pen_owns : {E : Type 0} → (E → Gv) → ℕ → ℕ → List (Line E) → Fml
pen_owns c of by seen = fsep (at_least logs of (map (line_code c) seen)) (latest numbers full_share by (length (written_by by seen)))
