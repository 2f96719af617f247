-- The laws of one reading after another.
use Rattle.std.specs.Prelude.{◌≡◌, ◌≢◌, ℕ, suc, ◌+◌, ◌<◌, ◌≤◌, ◌||◌, Bool, true, false, List, [], ◌∷◌, ◌++◌, length, refl}
use Rattle.std.proofs.Common.{get_or, sym, ap, subst, ◌∙◌, append_assoc, arith}
use Rattle.sled_base.specs.Payloads.Reading.{TakesAByte, ReadsUnit, written_unit, ReadsPair, ReadsTriple, IsGrammar}

pub Unit-grammar : IsGrammar ReadsUnit written_unit (λ _. Unit {0}) (λ _ _. Unit {0}) 0
Unit-grammar = record {
  one_reading = λ input v w r s left right. (refl, sym left ∙ right);
  read_again = λ v rest can follows. refl;
  takes = λ input v rest is. omega (arith, ap length is);
}

module _
    {V W : Type 0} {first : List ℕ → V → List ℕ → Type 0} {second : List ℕ → W → List ℕ → Type 0}
    {write_first : V → List ℕ} {write_second : W → List ℕ} {can_first : V → Type 0} {can_second : W → Type 0}
    {follows_first : V → List ℕ → Type 0} {follows_second : W → List ℕ → Type 0} {m n : ℕ}
  where
    pub Pair-grammar : IsGrammar first write_first can_first follows_first m → IsGrammar second write_second can_second follows_second n
        → IsGrammar (ReadsPair first second) (λ p. write_first p.0 ++ write_second p.1) (λ p. can_first p.0 × can_second p.1)
        (λ p rest. follows_first p.0 (write_second p.1 ++ rest) × follows_second p.1 rest) (m + n)
    Pair-grammar one two = record {
      one_reading = λ input v w r s left right.
          let front = one.one_reading input v.0 w.0 left.0 right.0 left.1 right.1 in
          let back = two.one_reading left.0 v.1 w.1 r s left.2 (subst (λ k. second k w.1 s) (sym front.1) right.2) in
          (λ i. (front.0 i, back.0 i), back.1);
      read_again = λ v rest can follows.
          let middle = write_second v.1 ++ rest in
          (middle, subst (λ input. first input v.0 middle) (sym (append_assoc (write_first v.0) (write_second v.1) rest)) (one.read_again v.0 middle can.0 follows.0), two.read_again v.1 rest can.1 follows.1);
      takes = λ input v rest found. omega (arith, one.takes input v.0 found.0 found.1, two.takes found.0 v.1 rest found.2);
    }

-- what follows a tag
pub behind : (tag : ℕ) (input r s : List ℕ) → input ≡ tag ∷ r → input ≡ tag ∷ s → r ≡ s
behind tag input r s left right = cc

-- a tag is the first byte
pub first : (input : List ℕ) (tag : ℕ) (rest : List ℕ) → input ≡ tag ∷ rest → get_or input 0 5 ≡ tag
first input tag rest is = ap (λ bytes. get_or bytes 0 5) is

-- a value after its tag is read in one way, with one rest
pub one_tagged : {V W : Type 0} {reads : List ℕ → W → List ℕ → Type 0} {written : W → List ℕ} {can_write : W → Type 0} {can_follow : W → List ℕ → Type 0} {n : ℕ} → IsGrammar reads written can_write can_follow n → (make : W → V) (tag : ℕ) (input : List ℕ) (v w : W) (r s : List ℕ)
    → ((parts : List ℕ) × (input ≡ tag ∷ parts) × reads parts v r) → ((parts : List ℕ) × (input ≡ tag ∷ parts) × reads parts w s) → (make v ≡ make w) × (r ≡ s)
one_tagged {V} {W} {reads} grammar make tag input v w r s (parts, is, left) (others, also, right) =
    let read = grammar.one_reading parts v w r s left (subst (λ text. reads text w s) (sym (behind tag input parts others is also)) right) in
    (ap make read.0, read.1)

-- only the values that have a property
module _ {V : Type 0} {reads : List ℕ → V → List ℕ → Type 0} {written : V → List ℕ} {can_write : V → Type 0} {can_follow : V → List ℕ → Type 0} {n : ℕ} where
  pub Only-grammar : (Has Can : V → Type 0) → ((v : V) → Can v → can_write v × Has v) → IsGrammar reads written can_write can_follow n
      → IsGrammar (λ input v rest. reads input v rest × Has v) written Can can_follow n
  Only-grammar Has Can has grammar = record {
    one_reading = λ input v w r s left right. grammar.one_reading input v w r s left.0 right.0;
    read_again = λ v rest can follows. (grammar.read_again v rest (has v can).0 follows, (has v can).1);
    takes = λ input v rest found. grammar.takes input v rest found.0;
  }

-- a value that is encoded as another one, which differs for each value
module _ {V W : Type 0} {reads : List ℕ → V → List ℕ → Type 0} {written : V → List ℕ} {can_write : V → Type 0} {can_follow : V → List ℕ → Type 0} {n : ℕ} where
  pub By-grammar : (f : W → V) → ((v w : W) → f v ≡ f w → v ≡ w) → IsGrammar reads written can_write can_follow n
      → IsGrammar (λ input v rest. reads input (f v) rest) (λ v. written (f v)) (λ v. can_write (f v)) (λ v rest. can_follow (f v) rest) n
  By-grammar f apart grammar = record {
    one_reading = λ input v w r s left right. let same = grammar.one_reading input (f v) (f w) r s left right in (apart v w same.0, same.1);
    read_again = λ v rest can follows. grammar.read_again (f v) rest can follows;
    takes = λ input v rest found. grammar.takes input (f v) rest found;
  }

module _
    {V W X : Type 0} {first : List ℕ → V → List ℕ → Type 0} {second : List ℕ → W → List ℕ → Type 0} {third : List ℕ → X → List ℕ → Type 0}
    {write_first : V → List ℕ} {write_second : W → List ℕ} {write_third : X → List ℕ} {can_first : V → Type 0} {can_second : W → Type 0} {can_third : X → Type 0}
    {follows_first : V → List ℕ → Type 0} {follows_second : W → List ℕ → Type 0} {follows_third : X → List ℕ → Type 0} {m n o : ℕ}
  where
    pub Triple-grammar : IsGrammar first write_first can_first follows_first m → IsGrammar second write_second can_second follows_second n → IsGrammar third write_third can_third follows_third o
        → IsGrammar (ReadsTriple first second third) (λ t. write_first t.0 ++ (write_second t.1 ++ write_third t.2)) (λ t. can_first t.0 × (can_second t.1 × can_third t.2))
        (λ t rest. follows_first t.0 ((write_second t.1 ++ write_third t.2) ++ rest) × (follows_second t.1 (write_third t.2 ++ rest) × follows_third t.2 rest)) (m + (n + o))
    Triple-grammar one two three =
        By-grammar (λ (t : V × W × X). (t.0, (t.1, t.2))) (λ v w e. (λ i. ((e i).0, (e i).1.0, (e i).1.1))) (Pair-grammar one (Pair-grammar two three))

-- ---- which readings consume a byte of an input that isn't empty

-- those that always consume one
module _ {V : Type 0} {reads : List ℕ → V → List ℕ → Type 0} {written : V → List ℕ} {can_write : V → Type 0} {can_follow : V → List ℕ → Type 0} {n : ℕ} where
  pub some_taken : IsGrammar reads written can_write can_follow (suc n) → true ≡ true → TakesAByte reads
  some_taken grammar so input value rest some found = omega (arith, grammar.takes input value rest found)

pub Unit-takes : false ≡ true → TakesAByte ReadsUnit
Unit-takes never = absurd cc

pub some_bytes : (input : List ℕ) → input ≢ [] → 0 < length input
some_bytes [] some = absurd (some refl)
some_bytes (x ∷ input) some = omega arith

-- those of what another reading left
module _ {V : Type 0} {reads : List ℕ → V → List ℕ → Type 0} where
  taken_behind : TakesAByte reads → (input middle : List ℕ) (value : V) (rest : List ℕ) → input ≢ [] → length middle ≤ length input → length rest ≤ length middle → reads middle value rest → length rest < length input
  taken_behind takes input [] value rest some shorter less found = omega (arith, some_bytes input some, shorter, less)
  taken_behind takes input (x ∷ middle) value rest some shorter less found =
      let fewer = takes (x ∷ middle) value rest (λ none. absurd cc) found in
      omega (arith, shorter, fewer)

module _
    {V W : Type 0} {first : List ℕ → V → List ℕ → Type 0} {second : List ℕ → W → List ℕ → Type 0}
    {write_first : V → List ℕ} {write_second : W → List ℕ} {can_first : V → Type 0} {can_second : W → Type 0}
    {follows_first : V → List ℕ → Type 0} {follows_second : W → List ℕ → Type 0} {m n : ℕ}
  where
    -- a pair, if one of its parts does
    pub Pair-takes : (a b : Bool) → (a ≡ true → TakesAByte first) → (b ≡ true → TakesAByte second)
        → IsGrammar first write_first can_first follows_first m → IsGrammar second write_second can_second follows_second n
        → a || b ≡ true → TakesAByte (ReadsPair first second)
    Pair-takes true b first_takes second_takes one two so input value rest some found =
        let front = first_takes refl input value.0 found.0 some found.1 in
        omega (arith, front, two.takes found.0 value.1 rest found.2)
    Pair-takes false true first_takes second_takes one two so input value rest some found =
        let shorter = one.takes input value.0 found.0 found.1 in
        let less = two.takes found.0 value.1 rest found.2 in
        taken_behind (second_takes refl) input found.0 value.1 rest some (omega (arith, shorter)) (omega (arith, less)) found.2
    Pair-takes false false first_takes second_takes one two so input value rest some found = absurd cc

module _
    {V W X : Type 0} {first : List ℕ → V → List ℕ → Type 0} {second : List ℕ → W → List ℕ → Type 0} {third : List ℕ → X → List ℕ → Type 0}
    {write_first : V → List ℕ} {write_second : W → List ℕ} {write_third : X → List ℕ} {can_first : V → Type 0} {can_second : W → Type 0} {can_third : X → Type 0}
    {follows_first : V → List ℕ → Type 0} {follows_second : W → List ℕ → Type 0} {follows_third : X → List ℕ → Type 0} {m n o : ℕ}
  where
    -- a triple, if one of its parts does
    pub Triple-takes : (a b c : Bool) → (a ≡ true → TakesAByte first) → (b ≡ true → TakesAByte second) → (c ≡ true → TakesAByte third)
        → IsGrammar first write_first can_first follows_first m → IsGrammar second write_second can_second follows_second n → IsGrammar third write_third can_third follows_third o
        → a || (b || c) ≡ true → TakesAByte (ReadsTriple first second third)
    Triple-takes a b c first_takes second_takes third_takes one two three so input value rest some found =
        Pair-takes a (b || c) first_takes (Pair-takes b c second_takes third_takes two three) one (Pair-grammar two three) so input (value.0, (value.1, value.2)) rest some found
