-- What a name and the text behind it ask for.
use Rattle.std.proofs.Common.{◌≡◌, ◌≢◌, ℕ, ◌+◌, ◌*◌, ◌<◌, ◌^◌, ◌≤◌, List, [], ◌∷◌, ◌++◌, map, length, get_or, Option, None, Some, IfNone, IfOk, IfSome, Result, Ok, Err, codes, sym, ap, ◌∙◌, subst, arith, rules, refl}
use Rattle.std.specs.Fmt.{decimal}
use Rattle.std.specs.List.{join_with_byte}
use Rattle.std.specs.Option.{SomeIff}
use Rattle.std.specs.Str.Parse.{AllDigits}
use Rattle.std.specs.Char.{digit_value}
use Rattle.std.proofs.lemmas.Fmt.{digits_decimal}
use Rattle.std.proofs.lemmas.Str.Parse.{numerals_by_value, tells_digits}
use Rattle.sled_base.specs.Order.{Bytes}
use Rattle.sled_node.specs.declared.node.link.Link.TheVariants.{Set, Del, ParentMergeIntention, ParentMergeConfirm, ChildMergeCap}
use Rattle.sled_node.specs.Node.{Value, WholeNode, leaf_of}
use Rattle.sled_node.specs.Pairs.{IsWithinLimit, HasPairs}
use Rattle.sled_pagecache.specs.State.{Token, token, pid_of, stamp_of}
use Rattle.sled_pagecache.specs.declared.pagecache.handles.call.Call.{Call}
use Rattle.sled_pagecache.specs.declared.pagecache.handles.call.Call.TheVariants.{Allocate, Get, Link, Replace, Free, GetMeta, MetaPidForName, CasRoot, GetIdgen, GenerateId, Flush, SizeOnDisk, SpaceAmplification, TakeFuzzySnapshot, AttemptGc, Pin, Seal, Cancel}
use Rattle.sled_lines.specs.Cut.{HasNo}
use Rattle.sled_lines.specs.Settings.{longest_line}
use Rattle.sled_lines.specs.Words.{AreBytes, AreTwo, bytes_word, after_name, HasNoSpace, BeginsLine}
use Rattle.sled_lines.proofs.Cut.{cut_once, no_mark}
use Rattle.sled_lines.proofs.Hex.{no_space}
use Rattle.sled_lines.proofs.Joined.{in_front, named, begins_itself}
use Rattle.sled_lines.proofs.Numbers.{no_space_in_number}
use Rattle.sled_script.specs.Asked.{AsksBehind, BeginsWithToken, EncodeLeaf, EncodeRoots, at_the_end}
use Rattle.sled_script.specs.Commands.{Asks, IsRootNumber, IsToken, Encodes, EncodesOpen, root_word}
use Rattle.sled_script.specs.Pairs.{ArePairs, EncodePairs, pair_word}
use Rattle.sled_script.proofs.PairWords.{no_space_in_pair, pair_once}

-- the names differ in their first three bytes
abbrev pub key_of_name : Bytes → ℕ
key_of_name name = get_or name 0 0 + 256 * get_or name 1 0 + 65536 * get_or name 2 0

abbrev pub key_of : Call → ℕ
key_of (Allocate node) = 7105633
key_of (Get pid) = 7628135
key_of (Link old (Set key value)) = 7628147
key_of (Link old (Del key)) = 7103844
key_of (Replace old node) = 7366002
key_of (Free old) = 6648422
key_of (MetaPidForName name) = 7303026
key_of (CasRoot name old new) = 7561571
key_of GenerateId = 25705
key_of Flush = 7695462
key_of SizeOnDisk = 8022387
key_of SpaceAmplification = 7368033
key_of AttemptGc = 25447
key_of call = 0

pub asks_by_key : (words : List Bytes) (call : Call) → Asks words call → key_of_name (get_or words 0 []) ≡ key_of call
asks_by_key words (Allocate node) asks = ap (λ (w : List Bytes). key_of_name (get_or w 0 [])) asks.2
asks_by_key words (Get pid) asks = ap (λ (w : List Bytes). key_of_name (get_or w 0 [])) asks.1
asks_by_key words (Link old (Set key value)) asks = ap (λ (w : List Bytes). key_of_name (get_or w 0 [])) asks.3
asks_by_key words (Link old (Del key)) asks = ap (λ (w : List Bytes). key_of_name (get_or w 0 [])) asks.2
asks_by_key words (Replace old node) asks = ap (λ (w : List Bytes). key_of_name (get_or w 0 [])) asks.3
asks_by_key words (Free old) asks = ap (λ (w : List Bytes). key_of_name (get_or w 0 [])) asks.1
asks_by_key words (MetaPidForName name) asks = ap (λ (w : List Bytes). key_of_name (get_or w 0 [])) asks.1
asks_by_key words (CasRoot name old new) asks = ap (λ (w : List Bytes). key_of_name (get_or w 0 [])) asks.3
asks_by_key words GenerateId asks = ap (λ (w : List Bytes). key_of_name (get_or w 0 [])) asks
asks_by_key words Flush asks = ap (λ (w : List Bytes). key_of_name (get_or w 0 [])) asks
asks_by_key words SizeOnDisk asks = ap (λ (w : List Bytes). key_of_name (get_or w 0 [])) asks
asks_by_key words SpaceAmplification asks = ap (λ (w : List Bytes). key_of_name (get_or w 0 [])) asks
asks_by_key words AttemptGc asks = ap (λ (w : List Bytes). key_of_name (get_or w 0 [])) asks
asks_by_key words call asks = absurd asks

-- ---- the pairs of `alloc` and of `replace`

words_once : (pairs others : List (Bytes × Bytes)) → ArePairs pairs → ArePairs others → after_name (map pair_word pairs) ≡ after_name (map pair_word others) → pairs ≡ others
words_once [] [] are also e = refl
words_once [] (other ∷ others) are also e = absurd cc
words_once (pair ∷ pairs) [] are also e = absurd cc
words_once (pair ∷ pairs) (other ∷ others) are also e =
    let joined : join_with_byte 32 (pair_word pair ∷ map pair_word pairs) ≡ join_with_byte 32 (pair_word other ∷ map pair_word others) = cc in
    let cut = named _ _ (pair_word other) _ (map pair_word others) (begins_itself (pair_word pair) (map pair_word pairs) (no_space_in_pair pair are.0)) (no_space_in_pair other also.0) joined in
    let rest = words_once pairs others are.1 also.1 cut.1 in
    let front = pair_once pair other are.0 also.0 cut.0 in
    cc

-- a text encodes one list of pairs
pub pairs_once : (text : Option Bytes) (pairs others : List (Bytes × Bytes)) → ArePairs pairs → ArePairs others → EncodePairs text pairs → EncodePairs text others → pairs ≡ others
pairs_once text pairs others are also encode encoded = words_once pairs others are also (sym encode ∙ encoded)

-- the pairs of a text make one leaf, where they make one at all
pub leaf_encoded : {E : Type 0} (text : Option Bytes) (pairs : List (Bytes × Bytes)) (result : Result (Option WholeNode) E) → EncodePairs text pairs → ArePairs pairs
    → IfOk result (λ node. SomeIff node (HasPairs IsWithinLimit pairs) (leaf_of (map (λ pair. (pair.0, Value pair.1)) pairs))) → IfOk result (λ found. IfSome found (EncodeLeaf text))
leaf_encoded text pairs (Ok None) encoded bytes made = tt
leaf_encoded text pairs (Ok (Some node)) encoded bytes made = (pairs, record { bytes = bytes; fits = made.0; leaf = made.1 }, encoded)
leaf_encoded text pairs (Err error) encoded bytes made = tt

pub no_leaf_encoded : {E : Type 0} (text : Option Bytes) (pairs : List (Bytes × Bytes)) (result : Result (Option WholeNode) E) → EncodePairs text pairs → ArePairs pairs
    → IfOk result (λ node. SomeIff node (HasPairs IsWithinLimit pairs) (leaf_of (map (λ pair. (pair.0, Value pair.1)) pairs))) → IfOk result (λ found. IfNone found ((node : WholeNode) → EncodeLeaf text node → ⊥))
no_leaf_encoded text pairs (Ok None) encoded bytes made = λ node leaf. made (subst (HasPairs IsWithinLimit) (pairs_once text leaf.0 pairs leaf.1.bytes bytes leaf.2 encoded) leaf.1.fits)
no_leaf_encoded text pairs (Ok (Some node)) encoded bytes made = tt
no_leaf_encoded text pairs (Err error) encoded bytes made = tt

pub record IsAllocate (text : Option Bytes) : Type 0 where
  pub node : WholeNode
  pub leaf : EncodeLeaf text node

pub allocate_asked : (text : Option Bytes) (call : Call) → AsksBehind (codes "alloc") text call → IsAllocate text
allocate_asked text (Allocate node) asked =
    let e : asked.0 ≡ map pair_word asked.1.0 = cc (asked.1.2) in
    record { node = node; leaf = (asked.1.0, asked.1.1, asked.2 ∙ ap after_name e) }
allocate_asked text (Link old ChildMergeCap) asked = absurd (asked.1)
allocate_asked text call asked = let e : ◌≡◌ {A = ℕ} 7105633 (key_of call) = asks_by_key (codes "alloc" ∷ asked.0) call (asked.1) in absurd (omega (arith, e))

-- ---- a token

-- a line is cut at its first space in one way
pub begins_once : (line word other : Bytes) (rest more : Option Bytes) → BeginsLine line word rest → BeginsLine line other more → (word ≡ other) × (rest ≡ more)
begins_once line word other None None begins also = (sym begins.1 ∙ also.1, refl)
begins_once line word other None (Some more) begins also = absurd (no_mark 32 word other more begins.0 (sym begins.1 ∙ also.1))
begins_once line word other (Some rest) None begins also = absurd (no_mark 32 other word rest also.0 (sym also.1 ∙ begins.1))
begins_once line word other (Some rest) (Some more) begins also = let cut = cut_once 32 word other rest more begins.0 also.0 (sym begins.1 ∙ also.1) in (cut.0, ap Some cut.1)

-- a text that begins with a token, cut at its first space
pub record IsTokenCut (text : Option Bytes) (old : Token) (rest : Option Bytes) : Type 0 where
  pub back : Bytes
  pub plain : HasNoSpace (decimal (pid_of old))
  pub front : text ≡ Some (decimal (pid_of old) ++ 32 ∷ back)
  pub begins : BeginsLine back (decimal (stamp_of old)) rest

pub token_cut : (text : Option Bytes) (old : Token) (rest : Option Bytes) → BeginsWithToken text old rest → IsTokenCut text old rest
token_cut text old None token = record {
  back = decimal (stamp_of old);
  plain = no_space_in_number (pid_of old) token.token.0;
  front = token.joined;
  begins = (no_space_in_number (stamp_of old) token.token.1, refl);
}
token_cut text old (Some rest) token = record {
  back = decimal (stamp_of old) ++ 32 ∷ rest;
  plain = no_space_in_number (pid_of old) token.token.0;
  front = token.joined;
  begins = (no_space_in_number (stamp_of old) token.token.1, refl);
}

-- the first two words of a text with a token are those of the token
pub token_words : (line page back stamp : Bytes) (text rest more last : Option Bytes) (old : Token) → text ≡ Some line → BeginsLine line page rest → rest ≡ Some back → BeginsLine back stamp more → BeginsWithToken text old last
    → (page ≡ decimal (pid_of old)) × (stamp ≡ decimal (stamp_of old)) × (more ≡ last)
token_words line page back stamp text rest more last old is begins e next token =
    let cut = token_cut text old last token in
    let front = in_front line page (decimal (pid_of old)) cut.back rest begins cut.plain cc in
    let same : back ≡ cut.back = cc in
    let both = begins_once back stamp (decimal (stamp_of old)) more last next (subst (λ line. BeginsLine line (decimal (stamp_of old)) last) (sym same) cut.begins) in
    (front.0, both.0, both.1)

pub one_page_word : (line page : Bytes) (text rest last : Option Bytes) (old : Token) → text ≡ Some line → BeginsLine line page rest → BeginsWithToken text old last → (page ≡ decimal (pid_of old)) × (rest ≡ None → ⊥)
one_page_word line page text rest last old is begins token =
    let cut = token_cut text old last token in
    let front = in_front line page (decimal (pid_of old)) cut.back rest begins cut.plain cc in
    (front.0, λ none. cc)

-- two numbers in front of a text are a token
pub is_token : (line page back stamp : Bytes) (text rest more : Option Bytes) (pid number : ℕ) → text ≡ Some line → BeginsLine line page rest → rest ≡ Some back → BeginsLine back stamp more → page ≡ decimal pid → stamp ≡ decimal number
    → pid < 2 ^ 64 → number < 2 ^ 64 → BeginsWithToken text (token pid number) more
is_token line page back stamp text rest None pid number is begins e next first second small also =
    let front : BeginsLine line page (Some back) = subst (BeginsLine line page) e begins in
    record { token = (small, also); joined = is ∙ ap Some (front.1 ∙ ap (λ word. word ++ 32 ∷ back) first ∙ ap (λ word. decimal pid ++ 32 ∷ word) (next.1 ∙ second)) }
is_token line page back stamp text rest (Some more) pid number is begins e next first second small also =
    let front : BeginsLine line page (Some back) = subst (BeginsLine line page) e begins in
    record { token = (small, also); joined = is ∙ ap Some (front.1 ∙ ap (λ word. word ++ 32 ∷ back) first ∙ ap (λ word. decimal pid ++ 32 ∷ word) (next.1 ∙ ap (λ word. word ++ 32 ∷ more) second)) }

-- what stands behind a token is one text
pub token_rest : (text rest more : Option Bytes) (old other : Token) → BeginsWithToken text old rest → BeginsWithToken text other more → rest ≡ more
token_rest text rest more old other one two =
    let cut = token_cut text old rest one in
    let also = token_cut text other more two in
    let joined : decimal (pid_of old) ++ 32 ∷ cut.back ≡ decimal (pid_of other) ++ 32 ∷ also.back = cc (cut.front, also.front) in
    let front = cut_once 32 (decimal (pid_of old)) (decimal (pid_of other)) cut.back also.back cut.plain also.plain joined in
    (begins_once cut.back (decimal (stamp_of old)) (decimal (stamp_of other)) rest more cut.begins (subst (λ line. BeginsLine line (decimal (stamp_of other)) more) (sym front.1) also.begins)).1

-- words behind two others, and the same words as one text
end_joined : (first second : Bytes) (words : List Bytes) → after_name (first ∷ second ∷ words) ≡ after_name (first ∷ second ∷ at_the_end (after_name words))
end_joined first second [] = refl
end_joined first second (word ∷ words) = refl

-- a token's words, and the words behind them
pub token_joined : (text rest : Option Bytes) (old : Token) (words : List Bytes) → BeginsWithToken text old rest → rest ≡ after_name words → text ≡ after_name (decimal (pid_of old) ∷ decimal (stamp_of old) ∷ words)
token_joined text rest old words token e =
    token.joined ∙ ap (λ last. after_name (decimal (pid_of old) ∷ decimal (stamp_of old) ∷ at_the_end last)) e ∙ sym (end_joined (decimal (pid_of old)) (decimal (stamp_of old)) words)

-- words that begin with a token's
token_in_front : (text : Option Bytes) (old : Token) (words more : List Bytes) → IsToken old → text ≡ after_name words → words ≡ decimal (pid_of old) ∷ decimal (stamp_of old) ∷ more → BeginsWithToken text old (after_name more)
token_in_front text old words more token e f = record { token = token; joined = e ∙ ap after_name f ∙ end_joined (decimal (pid_of old)) (decimal (stamp_of old)) more }

-- what a text behind `set` encodes
pub record IsSet (text : Option Bytes) : Type 0 where
  pub old : Token
  pub key : Bytes
  pub value : Bytes
  pub bytes : AreBytes key × AreBytes value
  pub rest : Option Bytes
  pub words : AreTwo rest (bytes_word key) (bytes_word value)
  pub token : BeginsWithToken text old rest

pub set_asked : (text : Option Bytes) (call : Call) → AsksBehind (codes "set") text call → IsSet text
set_asked text (Link old (Set key value)) asked =
    let e : asked.0 ≡ decimal (pid_of old) ∷ decimal (stamp_of old) ∷ bytes_word key ∷ bytes_word value ∷ [] = cc (asked.1.3) in
    record {
      old = old;
      key = key;
      value = value;
      bytes = (asked.1.1, asked.1.2);
      rest = after_name (bytes_word key ∷ bytes_word value ∷ []);
      words = record { plain_first = no_space key asked.1.1; joined = refl };
      token = token_in_front text old asked.0 (bytes_word key ∷ bytes_word value ∷ []) asked.1.0 asked.2 e;
    }
set_asked text (Link old ChildMergeCap) asked = absurd (asked.1)
set_asked text call asked = let e : ◌≡◌ {A = ℕ} 7628147 (key_of call) = asks_by_key (codes "set" ∷ asked.0) call (asked.1) in absurd (omega (arith, e))

-- what a text behind `del` encodes
pub record IsDel (text : Option Bytes) : Type 0 where
  pub old : Token
  pub key : Bytes
  pub bytes : AreBytes key
  pub token : BeginsWithToken text old (Some (bytes_word key))

pub del_asked : (text : Option Bytes) (call : Call) → AsksBehind (codes "del") text call → IsDel text
del_asked text (Link old (Del key)) asked =
    let e : asked.0 ≡ decimal (pid_of old) ∷ decimal (stamp_of old) ∷ bytes_word key ∷ [] = cc (asked.1.2) in
    record { old = old; key = key; bytes = asked.1.1; token = token_in_front text old asked.0 (bytes_word key ∷ []) asked.1.0 asked.2 e }
del_asked text (Link old ChildMergeCap) asked = absurd (asked.1)
del_asked text call asked = let e : ◌≡◌ {A = ℕ} 7103844 (key_of call) = asks_by_key (codes "del" ∷ asked.0) call (asked.1) in absurd (omega (arith, e))

-- what a text behind `replace` encodes
pub record IsReplace (text : Option Bytes) : Type 0 where
  pub old : Token
  pub node : WholeNode
  pub rest : Option Bytes
  pub leaf : EncodeLeaf rest node
  pub token : BeginsWithToken text old rest

pub replace_asked : (text : Option Bytes) (call : Call) → AsksBehind (codes "replace") text call → IsReplace text
replace_asked text (Replace old node) asked =
    let pairs = asked.1.1 in
    let e : asked.0 ≡ decimal (pid_of old) ∷ decimal (stamp_of old) ∷ map pair_word pairs = cc (asked.1.3) in
    record { old = old; node = node; rest = after_name (map pair_word pairs); leaf = (pairs, asked.1.2, refl); token = token_in_front text old asked.0 (map pair_word pairs) asked.1.0 asked.2 e }
replace_asked text (Link old ChildMergeCap) asked = absurd (asked.1)
replace_asked text call asked = let e : ◌≡◌ {A = ℕ} 7366002 (key_of call) = asks_by_key (codes "replace" ∷ asked.0) call (asked.1) in absurd (omega (arith, e))

-- what a text behind `free` encodes
pub record IsFree (text : Option Bytes) : Type 0 where
  pub old : Token
  pub token : BeginsWithToken text old None

pub free_asked : (text : Option Bytes) (call : Call) → AsksBehind (codes "free") text call → IsFree text
free_asked text (Free old) asked =
    let e : asked.0 ≡ decimal (pid_of old) ∷ decimal (stamp_of old) ∷ [] = cc (asked.1.1) in
    record { old = old; token = token_in_front text old asked.0 [] asked.1.0 asked.2 e }
free_asked text (Link old ChildMergeCap) asked = absurd (asked.1)
free_asked text call asked = let e : ◌≡◌ {A = ℕ} 6648422 (key_of call) = asks_by_key (codes "free" ∷ asked.0) call (asked.1) in absurd (omega (arith, e))

-- what a text behind `root` encodes
pub record IsRootName (text : Option Bytes) : Type 0 where
  pub name : Bytes
  pub bytes : AreBytes name
  pub words : text ≡ Some (bytes_word name)

pub root_asked : (text : Option Bytes) (call : Call) → AsksBehind (codes "root") text call → IsRootName text
root_asked text (MetaPidForName name) asked =
    let e : asked.0 ≡ bytes_word name ∷ [] = cc (asked.1.1) in
    record { name = name; bytes = asked.1.0; words = asked.2 ∙ ap after_name e }
root_asked text (Link old ChildMergeCap) asked = absurd (asked.1)
root_asked text call asked = let e : ◌≡◌ {A = ℕ} 7303026 (key_of call) = asks_by_key (codes "root" ∷ asked.0) call (asked.1) in absurd (omega (arith, e))

-- what a text behind `cas` encodes
pub record IsCas (text : Option Bytes) : Type 0 where
  pub name : Bytes
  pub bytes : AreBytes name
  pub old : Option ℕ
  pub new : Option ℕ
  pub rest : Bytes
  pub words : AreTwo text (bytes_word name) rest
  pub roots : EncodeRoots rest old new

pub cas_asked : (text : Option Bytes) (call : Call) → AsksBehind (codes "cas") text call → IsCas text
cas_asked text (CasRoot name old new) asked =
    let e : asked.0 ≡ bytes_word name ∷ root_word old ∷ root_word new ∷ [] = cc (asked.1.3) in
    record {
      name = name;
      bytes = asked.1.0;
      old = old;
      new = new;
      rest = join_with_byte 32 (root_word old ∷ root_word new ∷ []);
      words = record { plain_first = no_space name asked.1.0; joined = asked.2 ∙ ap after_name e };
      roots = record { numbers = (asked.1.1, asked.1.2); joined = refl };
    }
cas_asked text (Link old ChildMergeCap) asked = absurd (asked.1)
cas_asked text call asked = let e : ◌≡◌ {A = ℕ} 7561571 (key_of call) = asks_by_key (codes "cas" ∷ asked.0) call (asked.1) in absurd (omega (arith, e))

-- the word of a root page has no space
pub no_space_in_root : (root : Option ℕ) → IsRootNumber root → HasNo 32 (root_word root)
no_space_in_root None number = search rules
no_space_in_root (Some root) number = no_space_in_number root number

-- a dash is no number
pub no_dash : (root : ℕ) → root < 2 ^ 64 → codes "-" ≢ decimal root
no_dash root number is = by (subst (AllDigits 10) (sym is) (digits_decimal (numerals_by_value (AllDigits 10) tells_digits) root number))
  where
    by : AllDigits 10 (codes "-") → ⊥
    by digits = let small : digit_value 45 < 10 = digits.0 in absurd (omega (arith, small))

-- two root pages are two words
pub roots_two : (text : Bytes) (old new : Option ℕ) → EncodeRoots text old new → AreTwo (Some text) (root_word old) (root_word new)
roots_two text old new encode = record { plain_first = no_space_in_root old encode.numbers.0; joined = ap Some encode.joined }

-- ---- a line by its name

-- words that ask for a call begin with one of thirteen names
record IsNamed (words : List Bytes) : Type 0 where
  name : Bytes
  rest : List Bytes
  plain : HasNoSpace name
  joined : words ≡ name ∷ rest

is_named : (words : List Bytes) (call : Call) → Asks words call → IsNamed words
is_named words (Allocate node) asks = record { name = codes "alloc"; rest = map pair_word asks.0; plain = search rules; joined = asks.2 }
is_named words (Get pid) asks = record { name = codes "get"; rest = decimal pid ∷ []; plain = search rules; joined = asks.1 }
is_named words (Link old (Set key value)) asks =
    record { name = codes "set"; rest = decimal (pid_of old) ∷ decimal (stamp_of old) ∷ bytes_word key ∷ bytes_word value ∷ []; plain = search rules; joined = asks.3 }
is_named words (Link old (Del key)) asks = record { name = codes "del"; rest = decimal (pid_of old) ∷ decimal (stamp_of old) ∷ bytes_word key ∷ []; plain = search rules; joined = asks.2 }
is_named words (Link old (ParentMergeIntention page)) asks = absurd asks
is_named words (Link old ParentMergeConfirm) asks = absurd asks
is_named words (Link old ChildMergeCap) asks = absurd asks
is_named words (Replace old node) asks =
    record { name = codes "replace"; rest = decimal (pid_of old) ∷ decimal (stamp_of old) ∷ map pair_word asks.1; plain = search rules; joined = asks.3 }
is_named words (Free old) asks = record { name = codes "free"; rest = decimal (pid_of old) ∷ decimal (stamp_of old) ∷ []; plain = search rules; joined = asks.1 }
is_named words (MetaPidForName name) asks = record { name = codes "root"; rest = bytes_word name ∷ []; plain = search rules; joined = asks.1 }
is_named words (CasRoot name old new) asks = record { name = codes "cas"; rest = bytes_word name ∷ root_word old ∷ root_word new ∷ []; plain = search rules; joined = asks.3 }
is_named words GetMeta asks = absurd asks
is_named words GetIdgen asks = absurd asks
is_named words Pin asks = absurd asks
is_named words Seal asks = absurd asks
is_named words Cancel asks = absurd asks
is_named words GenerateId asks = record { name = codes "id"; rest = []; plain = search rules; joined = asks }
is_named words Flush asks = record { name = codes "flush"; rest = []; plain = search rules; joined = asks }
is_named words SizeOnDisk asks = record { name = codes "size"; rest = []; plain = search rules; joined = asks }
is_named words SpaceAmplification asks = record { name = codes "amp"; rest = []; plain = search rules; joined = asks }
is_named words AttemptGc asks = record { name = codes "gc"; rest = []; plain = search rules; joined = asks }
is_named words TakeFuzzySnapshot asks = absurd asks

-- a line that encodes a call is its name and the text behind it
pub encoded_behind : (line name : Bytes) (text : Option Bytes) (call : Call) → BeginsLine line name text → Encodes line call → AsksBehind name text call
encoded_behind line name text call begins encodes =
    let front = is_named encodes.1.0 call encodes.1.1 in
    let cut = named line name front.name text front.rest begins front.plain (encodes.1.2 ∙ ap (join_with_byte 32) front.joined) in
    (front.rest, subst (λ words. Asks words call) (front.joined ∙ ap (λ first. first ∷ front.rest) (sym cut.0)) encodes.1.1, cut.1)

-- a name and the text behind it are a line that encodes the call
joined_line : (line name : Bytes) (text : Option Bytes) (words : List Bytes) → BeginsLine line name text → text ≡ after_name words → line ≡ join_with_byte 32 (name ∷ words)
joined_line line name text [] begins e = (subst (BeginsLine line name) e begins).1
joined_line line name text (word ∷ words) begins e = (subst (BeginsLine line name) e begins).1

pub encodes_behind : (line name : Bytes) (text : Option Bytes) (call : Call) → length line ≤ longest_line → BeginsLine line name text → AsksBehind name text call → Encodes line call
encodes_behind line name text call short begins (words, asks, e) = (short, (name ∷ words, asks, joined_line line name text words begins e))

-- a word of six bytes, byte by byte
pub six_bytes : (word : Bytes) (a b c d e f : ℕ) → length word ≡ 6 → get_or word 0 0 ≡ a → get_or word 1 0 ≡ b → get_or word 2 0 ≡ c → get_or word 3 0 ≡ d → get_or word 4 0 ≡ e → get_or word 5 0 ≡ f → word ≡ a ∷ b ∷ c ∷ d ∷ e ∷ f ∷ []
six_bytes [] a b c d e f n p q r s t u = absurd (omega (arith, n))
six_bytes (x0 ∷ []) a b c d e f n p q r s t u = absurd (omega (arith, n))
six_bytes (x0 ∷ x1 ∷ []) a b c d e f n p q r s t u = absurd (omega (arith, n))
six_bytes (x0 ∷ x1 ∷ x2 ∷ []) a b c d e f n p q r s t u = absurd (omega (arith, n))
six_bytes (x0 ∷ x1 ∷ x2 ∷ x3 ∷ []) a b c d e f n p q r s t u = absurd (omega (arith, n))
six_bytes (x0 ∷ x1 ∷ x2 ∷ x3 ∷ x4 ∷ []) a b c d e f n p q r s t u = absurd (omega (arith, n))
six_bytes (x0 ∷ x1 ∷ x2 ∷ x3 ∷ x4 ∷ x5 ∷ []) a b c d e f n p q r s t u = cc
six_bytes (x0 ∷ x1 ∷ x2 ∷ x3 ∷ x4 ∷ x5 ∷ y ∷ more) a b c d e f n p q r s t u = absurd (omega (arith, n))

-- nothing stands behind a word that stands alone
none_after : (words : List Bytes) → None ≡ after_name words → words ≡ []
none_after [] e = refl
none_after (word ∷ words) e = absurd cc

alone : (name words : Bytes) (others : List Bytes) (word : Bytes) → name ∷ others ≡ word ∷ [] → Some words ≡ after_name others → ⊥
alone name words [] word e behind = absurd cc
alone name words (other ∷ others) word e behind = absurd cc

-- there are eight names with words behind them
pub no_words : (name words : Bytes) (call : Call) → name ≢ codes "alloc" → name ≢ codes "get" → name ≢ codes "set" → name ≢ codes "del" → name ≢ codes "replace" → name ≢ codes "free" → name ≢ codes "root" → name ≢ codes "cas" → ¬ AsksBehind name (Some words) call
no_words name words (Allocate node) alloc get set del replace free root cas asked = alloc (cc (asked.1.2))
no_words name words (Get pid) alloc get set del replace free root cas asked = get (cc (asked.1.1))
no_words name words (Link old (Set key value)) alloc get set del replace free root cas asked = set (cc (asked.1.3))
no_words name words (Link old (Del key)) alloc get set del replace free root cas asked = del (cc (asked.1.2))
no_words name words (Replace old node) alloc get set del replace free root cas asked = replace (cc (asked.1.3))
no_words name words (Free old) alloc get set del replace free root cas asked = free (cc (asked.1.1))
no_words name words (MetaPidForName asked_name) alloc get set del replace free root cas asked = root (cc (asked.1.1))
no_words name words (CasRoot asked_name old new) alloc get set del replace free root cas asked = cas (cc (asked.1.3))
no_words name words GenerateId alloc get set del replace free root cas asked = alone name words asked.0 (codes "id") asked.1 asked.2
no_words name words Flush alloc get set del replace free root cas asked = alone name words asked.0 (codes "flush") asked.1 asked.2
no_words name words SizeOnDisk alloc get set del replace free root cas asked = alone name words asked.0 (codes "size") asked.1 asked.2
no_words name words SpaceAmplification alloc get set del replace free root cas asked = alone name words asked.0 (codes "amp") asked.1 asked.2
no_words name words AttemptGc alloc get set del replace free root cas asked = alone name words asked.0 (codes "gc") asked.1 asked.2
no_words name words call alloc get set del replace free root cas asked = asked.1

-- there are six that stand alone
pub no_word : (name : Bytes) (call : Call) → name ≢ codes "alloc" → name ≢ codes "id" → name ≢ codes "flush" → name ≢ codes "size" → name ≢ codes "amp" → name ≢ codes "gc" → ¬ AsksBehind name None call
no_word name call alloc id flush size amp gc (words, asks, e) = of call (subst (λ others. Asks (name ∷ others) call) (none_after words e) asks)
  where
    of : (call : Call) → ¬ Asks (name ∷ []) call
    of (Allocate node) asks = alloc (cc (asks.2))
    of (Get pid) asks = absurd (cc (asks.1))
    of (Link old (Set key value)) asks = absurd (cc (asks.3))
    of (Link old (Del key)) asks = absurd (cc (asks.2))
    of (Replace old node) asks = absurd (cc (asks.3))
    of (Free old) asks = absurd (cc (asks.1))
    of (MetaPidForName asked_name) asks = absurd (cc (asks.1))
    of (CasRoot asked_name old new) asks = absurd (cc (asks.3))
    of GenerateId asks = id (cc asks)
    of Flush asks = flush (cc asks)
    of SizeOnDisk asks = size (cc asks)
    of SpaceAmplification asks = amp (cc asks)
    of AttemptGc asks = gc (cc asks)
    of call asks = asks

-- ---- a tree to be opened

-- the line of such a command is its name and the name of the tree
pub open_behind : (line name : Bytes) (text : Option Bytes) (asked : Bytes) → BeginsLine line name text → EncodesOpen line asked → (name ≡ codes "open") × (text ≡ Some (bytes_word asked))
open_behind line name text asked begins encodes =
    let plain : HasNoSpace (codes "open") = search rules in
    named line name (codes "open") text (bytes_word asked ∷ []) begins plain encodes.2

-- its name and the word behind it are a line that opens it
pub opens_behind : (line words asked : Bytes) → length line ≤ longest_line → BeginsLine line (codes "open") (Some words) → AreBytes asked → words ≡ bytes_word asked → EncodesOpen line asked
opens_behind line words asked short begins are e = (short, are, joined_line line (codes "open") (Some words) (bytes_word asked ∷ []) begins (ap Some e))
