-- A refusal of a part is one of the whole.
use Rattle.std.proofs.Common.{◌≡◌, ℕ, ◌-◌, ◌≤◌, List, ◌∷◌, length, get_or, take, drop, Some, None, ap, subst, ◌∙◌}
use Rattle.std.proofs.lemmas.Slice.{first_rest}
use Rattle.sled_base.specs.declared.types.Error.{Error}
use Rattle.sled_base.specs.declared.types.Error.TheVariants.{CollectionNotFound, Unsupported, ReportableBug, Io, Corruption, OutOfMemory}
use Rattle.sled_base.specs.Payloads.Reading.{IsRefusal, ReadsNoValue}
use Rattle.sled_base.specs.Payloads.ReadingLaws.{behind}

-- where nothing is read of the one kind, nothing is of the other
pub refused_so : {V W : Type 0} (asks_one asks_other : List ℕ → Type 0) (one : List ℕ → V → List ℕ → Type 0) (other : List ℕ → W → List ℕ → Type 0) (input text : List ℕ) (e : Error) → (asks_one input → asks_other text) → (ReadsNoValue one input → ReadsNoValue other text) → IsRefusal asks_one one input e → IsRefusal asks_other other text e
refused_so asks_one asks_other one other input text OutOfMemory asks so refused = asks refused
refused_so asks_one asks_other one other input text (Corruption None) asks so refused = so refused
refused_so asks_one asks_other one other input text (Corruption (Some pointer)) asks so refused = refused
refused_so asks_one asks_other one other input text (CollectionNotFound name) asks so refused = refused
refused_so asks_one asks_other one other input text (Unsupported why) asks so refused = refused
refused_so asks_one asks_other one other input text (ReportableBug bug) asks so refused = refused
refused_so asks_one asks_other one other input text (Io device) asks so refused = refused

-- where no number is read, no value that is encoded as a number is
pub by_number : {V W : Type 0} (reads : List ℕ → V → List ℕ → Type 0) (f : W → V) (input : List ℕ) → ReadsNoValue reads input → ReadsNoValue (λ text value rest. reads text (f value) rest) input
by_number reads f input nothing value rest found = nothing (f value) rest found

-- what stands behind the first byte
abbrev pub rest_of : List ℕ → List ℕ
rest_of input = take (length input - 1) (drop 1 input)

-- a first byte, and what stands behind it
pub behind_first : (input : List ℕ) (tag : ℕ) → 1 ≤ length input → get_or input 0 0 ≡ tag → input ≡ tag ∷ rest_of input
behind_first input tag long is = first_rest input 0 long ∙ ap (λ b. b ∷ rest_of input) is

-- where nothing is read behind a tag, nothing with that tag is
pub no_tagged : {W : Type 0} (part : List ℕ → W → List ℕ → Type 0) (tag : ℕ) (input : List ℕ) → 1 ≤ length input → get_or input 0 0 ≡ tag → ReadsNoValue part (rest_of input) → (w : W) (rest : List ℕ) → ((parts : List ℕ) × (input ≡ tag ∷ parts) × part parts w rest) → ⊥
no_tagged part tag input long is nothing w rest (parts, also, found) =
    nothing w rest (subst (λ text. part text w rest) (behind tag input parts (rest_of input) also (behind_first input tag long is)) found)
