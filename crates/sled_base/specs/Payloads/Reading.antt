-- What reading a value from the front of an input means.
use Rattle.std.specs.Prelude.{◌≡◌, ◌≢◌, ℕ, List, [], Some, None, ◌+◌, ◌<◌, ◌≤◌, ◌++◌, ◌⊎◌, length}
use Rattle.sled_base.specs.declared.types.Error.{Error}
use Rattle.sled_base.specs.declared.types.Error.TheVariants.{CollectionNotFound, Unsupported, ReportableBug, Io, Corruption, OutOfMemory}

-- no value is read from the input
abbrev pub ReadsNoValue : {V : Type 0} → (List ℕ → V → List ℕ → Type 0) → List ℕ → Type 0
ReadsNoValue {V} reads input = (value : V) (rest : List ℕ) → reads input value rest → ⊥

-- reading consumes at least a byte of an input that isn't empty
abbrev pub TakesAByte : {V : Type 0} → (List ℕ → V → List ℕ → Type 0) → Type 0
TakesAByte {V} reads = (input : List ℕ) (value : V) (rest : List ℕ) → input ≢ [] → reads input value rest → length rest < length input

-- The errors of a reader: OutOfMemory, for an input that asks for memory, and Corruption(None), for an input from which no value is read.
abbrev pub IsRefusal : {V : Type 0} → (List ℕ → Type 0) → (List ℕ → V → List ℕ → Type 0) → List ℕ → Error → Type 0
IsRefusal asks reads input OutOfMemory = asks input
IsRefusal asks reads input (Corruption None) = ReadsNoValue reads input
IsRefusal asks reads input (Corruption (Some pointer)) = ⊥
IsRefusal asks reads input (CollectionNotFound name) = ⊥
IsRefusal asks reads input (Unsupported why) = ⊥
IsRefusal asks reads input (ReportableBug bug) = ⊥
IsRefusal asks reads input (Io device) = ⊥

-- no input makes the reader ask for memory
abbrev pub AsksNever : List ℕ → Type 0
AsksNever input = ⊥

-- the unit value, which takes no byte
abbrev pub ReadsUnit : List ℕ → Unit {0} → List ℕ → Type 0
ReadsUnit input value rest = input ≡ rest

abbrev pub written_unit : Unit {0} → List ℕ
written_unit value = []

-- a pair: the first part, and then the second from its rest
abbrev pub ReadsPair : {V W : Type 0} → (List ℕ → V → List ℕ → Type 0) → (List ℕ → W → List ℕ → Type 0) → List ℕ → V × W → List ℕ → Type 0
ReadsPair first second input pair rest = (middle : List ℕ) × first input pair.0 middle × second middle pair.1 rest

-- memory is asked for by the first part, or after it by the second
abbrev pub AsksPair : {V : Type 0} → (List ℕ → Type 0) → (List ℕ → V → List ℕ → Type 0) → (List ℕ → Type 0) → List ℕ → Type 0
AsksPair {V} asks_first first asks_second input = asks_first input ⊎ ((value : V) × (middle : List ℕ) × first input value middle × asks_second middle)

-- a triple: the first part, and then the other two from its rest
abbrev pub ReadsTriple : {V W X : Type 0} → (List ℕ → V → List ℕ → Type 0) → (List ℕ → W → List ℕ → Type 0) → (List ℕ → X → List ℕ → Type 0) → List ℕ → V × W × X → List ℕ → Type 0
ReadsTriple first second third input triple rest = ReadsPair first (ReadsPair second third) input (triple.0, (triple.1, triple.2)) rest

abbrev pub AsksTriple : {V W : Type 0} → (List ℕ → Type 0) → (List ℕ → V → List ℕ → Type 0) → (List ℕ → Type 0) → (List ℕ → W → List ℕ → Type 0) → (List ℕ → Type 0) → List ℕ → Type 0
AsksTriple asks_first first asks_second second asks_third = AsksPair asks_first first (AsksPair asks_second second asks_third)

-- The laws of a kind of value. The parameters are how it is read, how it is written, which values can be written, what may
-- follow a written value so that it is read again, and the least number of bytes that reading consumes.
pub record IsGrammar {V : Type 0} (reads : List ℕ → V → List ℕ → Type 0) (written : V → List ℕ) (can_write : V → Type 0) (can_follow : V → List ℕ → Type 0) (least : ℕ) : Type 0 where
  -- from an input at most one value is read, with one rest
  pub one_reading : (input : List ℕ) (v w : V) (r s : List ℕ) → reads input v r → reads input w s → (v ≡ w) × (r ≡ s)
  -- what was written is read again, with what follows it as the rest
  pub read_again : (v : V) (rest : List ℕ) → can_write v → can_follow v rest → reads (written v ++ rest) v rest
  pub takes : (input : List ℕ) (v : V) (rest : List ℕ) → reads input v rest → length rest + least ≤ length input
