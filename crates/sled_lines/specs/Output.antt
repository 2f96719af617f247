-- What is written: a text, or if that fails, a prefix of it. A part of it may be gathered in a piece and not written yet.
use Rattle.std.specs.Prelude.{◌≡◌, ◌++◌, Option, Result, MatchResult}
use Rattle.std.specs.Io.KnownBytes.{Appends}
use Rattle.sled_base.specs.Order.{Bytes}

-- known bytes grow by a prefix of the text
abbrev pub AppendsPrefix : Option Bytes → Option Bytes → Bytes → Type 0
AppendsPrefix old new text = (written left : Bytes) × (text ≡ written ++ left) × Appends old new written

-- the whole text is written, or after an error a prefix of it
abbrev pub Writes : {T E : Type 0} → Option Bytes → Option Bytes → Result T E → Bytes → Type 0
Writes old new result text = MatchResult result (λ _. Appends old new text) (λ _. AppendsPrefix old new text)

-- A text is appended to a piece: what was written, followed by the piece afterwards, is the piece before, followed by the text.
abbrev pub Gathered : Option Bytes → Option Bytes → Bytes → Bytes → Bytes → Type 0
Gathered old new before after text = (done : Bytes) × Appends old new done × (done ++ after ≡ before ++ text)

-- the whole text is appended, or after an error a prefix of the piece and the text is written
abbrev pub Gathers : {T E : Type 0} → Option Bytes → Option Bytes → Bytes → Bytes → Result T E → Bytes → Type 0
Gathers old new before after result text = MatchResult result (λ _. Gathered old new before after text) (λ _. AppendsPrefix old new (before ++ text))
