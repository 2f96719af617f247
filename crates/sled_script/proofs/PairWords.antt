-- How pairs are encoded.
use Rattle.std.proofs.Common.{◌≡◌, ◌≢◌, List, [], ◌∷◌, ◌++◌, map, Option, None, Some, codes, sym, ap, ◌∙◌, arith, refl, append_assoc}
use Rattle.std.specs.List.{join_with_byte}
use Rattle.sled_base.specs.Order.{Bytes}
use Rattle.sled_lines.specs.Cut.{HasNo}
use Rattle.sled_lines.specs.Words.{BeginsLine, bytes_word}
use Rattle.sled_lines.proofs.Cut.{cut_once, no_mark, none_in_both}
use Rattle.sled_lines.proofs.Encoded.{word_once}
use Rattle.sled_lines.proofs.Hex.{no_equals, no_space}
use Rattle.sled_script.specs.Pairs.{ArePairs, EncodePairs, IsPairOfBytes, pair_word}

pub pair_cut : (pair : Bytes × Bytes) → pair_word pair ≡ bytes_word pair.0 ++ 61 ∷ bytes_word pair.1
pair_cut pair = append_assoc (bytes_word pair.0) (codes "=") (bytes_word pair.1)

-- the two sides of a pair's word
pub sides : (pair : Bytes × Bytes) (word key value : Bytes) → IsPairOfBytes pair → HasNo 61 key → word ≡ key ++ 61 ∷ value → word ≡ pair_word pair → (key ≡ bytes_word pair.0) × (value ≡ bytes_word pair.1)
sides pair word key value are none e same = cut_once 61 key (bytes_word pair.0) value (bytes_word pair.1) none (no_equals pair.0 are.0) (sym e ∙ same ∙ pair_cut pair)

pub no_sides : (pair : Bytes × Bytes) (word : Bytes) → HasNo 61 word → word ≢ pair_word pair
no_sides pair word none same = no_mark 61 word (bytes_word pair.0) (bytes_word pair.1) none (same ∙ pair_cut pair)

pub no_space_in_pair : (pair : Bytes × Bytes) → IsPairOfBytes pair → HasNo 32 (pair_word pair)
no_space_in_pair pair are = none_in_both 32 (bytes_word pair.0 ++ codes "=") (bytes_word pair.1) (none_in_both 32 (bytes_word pair.0) (codes "=") (no_space pair.0 are.0) (omega arith, tt)) (no_space pair.1 are.1)

pub pair_once : (pair other : Bytes × Bytes) → IsPairOfBytes pair → IsPairOfBytes other → pair_word pair ≡ pair_word other → pair ≡ other
pair_once pair other are also e =
    let cut = sides other _ _ _ also (no_equals pair.0 are.0) (pair_cut pair) e in
    ap (λ key. (key, pair.1)) (word_once pair.0 other.0 are.0 also.0 cut.0) ∙ ap (λ value. (other.0, value)) (word_once pair.1 other.1 are.1 also.1 cut.1)

-- ---- the words of a line

-- a pair's word in front of others
pub one_more : (line word : Bytes) (pair : Bytes × Bytes) (rest : Option Bytes) (pairs : List (Bytes × Bytes)) → BeginsLine line word rest → word ≡ pair_word pair → EncodePairs rest pairs → EncodePairs (Some line) (pair ∷ pairs)
one_more line word pair None [] begins e encode = ap Some (begins.1 ∙ e)
one_more line word pair None (next ∷ pairs) begins e encode = absurd cc
one_more line word pair (Some rest) [] begins e encode = absurd cc
one_more line word pair (Some rest) (next ∷ pairs) begins e encode =
    let more = join_with_byte 32 (map pair_word (next ∷ pairs)) in
    let same : rest ≡ more = cc in
    ap Some (begins.1 ∙ ap (λ front. front ++ 32 ∷ rest) e ∙ ap (λ text. pair_word pair ++ 32 ∷ text) same)

-- the first word of the words of pairs is the word of the first pair
pub one_less : (line word : Bytes) (rest : Option Bytes) (pairs : List (Bytes × Bytes)) → BeginsLine line word rest → ArePairs pairs → EncodePairs (Some line) pairs
    → (pair : Bytes × Bytes) × (others : List (Bytes × Bytes)) × IsPairOfBytes pair × (word ≡ pair_word pair) × ArePairs others × EncodePairs rest others
one_less line word rest [] begins are encode = absurd cc
one_less line word None (pair ∷ []) begins are encode = let whole : line ≡ pair_word pair = cc in (pair, [], are.0, sym begins.1 ∙ whole, tt, refl)
one_less line word (Some rest) (pair ∷ []) begins are encode =
    let whole : line ≡ pair_word pair = cc in
    absurd (no_mark 32 (pair_word pair) word rest (no_space_in_pair pair are.0) (sym whole ∙ begins.1))
one_less line word None (pair ∷ next ∷ pairs) begins are encode =
    let more = join_with_byte 32 (map pair_word (next ∷ pairs)) in
    let whole : line ≡ pair_word pair ++ 32 ∷ more = cc in
    absurd (no_mark 32 word (pair_word pair) more begins.0 (sym begins.1 ∙ whole))
one_less line word (Some rest) (pair ∷ next ∷ pairs) begins are encode =
    let more = join_with_byte 32 (map pair_word (next ∷ pairs)) in
    let whole : line ≡ pair_word pair ++ 32 ∷ more = cc in
    let cut = cut_once 32 word (pair_word pair) rest more begins.0 (no_space_in_pair pair are.0) (sym begins.1 ∙ whole) in
    (pair, next ∷ pairs, are.0, cut.0, are.1, ap Some cut.1)
