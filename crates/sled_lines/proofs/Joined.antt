-- Words that are joined by single spaces, and the first of them.
use Rattle.std.proofs.Common.{◌≡◌, List, [], ◌∷◌, ◌++◌, Option, None, Some, sym, ap, ◌∙◌, refl}
use Rattle.std.specs.List.{join_with_byte}
use Rattle.sled_base.specs.Order.{Bytes}
use Rattle.sled_lines.specs.Words.{AreTwo, after_name, HasNoSpace, BeginsLine}
use Rattle.sled_lines.proofs.Cut.{cut_once, no_mark}

-- a line's first word is the one that stands before its first space
pub in_front : (line word first more : Bytes) (rest : Option Bytes) → BeginsLine line word rest → HasNoSpace first → line ≡ first ++ 32 ∷ more → (word ≡ first) × (rest ≡ Some more)
in_front line word first more None begins plain e = absurd (no_mark 32 word first more begins.0 (sym begins.1 ∙ e))
in_front line word first more (Some rest) begins plain e = let cut = cut_once 32 word first rest more begins.0 plain (sym begins.1 ∙ e) in (cut.0, ap Some cut.1)

-- so it is the first of the words that were joined
pub named : (line name first : Bytes) (text : Option Bytes) (words : List Bytes) → BeginsLine line name text → HasNoSpace first → line ≡ join_with_byte 32 (first ∷ words) → (name ≡ first) × (text ≡ after_name words)
named line name first None [] begins plain e = (sym begins.1 ∙ e, refl)
named line name first (Some rest) [] begins plain e = absurd (no_mark 32 first name rest plain (sym e ∙ begins.1))
named line name first text (word ∷ words) begins plain e = in_front line name first (join_with_byte 32 (word ∷ words)) text begins plain e

-- joined words begin with the first of them
pub begins_itself : (word : Bytes) (words : List Bytes) → HasNoSpace word → BeginsLine (join_with_byte 32 (word ∷ words)) word (after_name words)
begins_itself word [] plain = (plain, refl)
begins_itself word (next ∷ words) plain = (plain, refl)

-- ---- two words

-- a text is cut into two in one way
pub two_once : (text : Option Bytes) (a b first rest : Bytes) → AreTwo text a b → AreTwo text first rest → (a ≡ first) × (b ≡ rest)
two_once text a b first rest one other =
    let joined : join_with_byte 32 (a ∷ b ∷ []) ≡ join_with_byte 32 (first ∷ rest ∷ []) = cc (one.joined, other.joined) in
    cut_once 32 a first b rest one.plain_first other.plain_first joined

-- two texts by what they are
pub are_words : (text : Option Bytes) (a b first rest : Bytes) → AreTwo text a b → a ≡ first → b ≡ rest → text ≡ after_name (first ∷ rest ∷ [])
are_words text a b first rest are e f = are.joined ∙ ap Some cc

-- behind the first of two words is the other
pub behind : (line word first more : Bytes) (text rest : Option Bytes) → text ≡ Some line → BeginsLine line word rest → HasNoSpace first → text ≡ Some (first ++ 32 ∷ more) → rest ≡ Some more
behind line word first more text rest is begins plain e = (in_front line word first more rest begins plain cc).1
