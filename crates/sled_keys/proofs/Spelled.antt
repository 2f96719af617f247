-- Bytes that are spelled in a row, each in one way.
use Rattle.std.proofs.Common.{◌≡◌, ◌≢◌, Bool, true, false, ℕ, ◌*◌, ◌/◌, ◌%◌, ◌<◌, ◌≤◌, [], ◌∷◌, ◌++◌, flat_map, length, length-append, nat_eq, if◌then◌else◌, sym, ap, ◌∙◌, append_assoc, append-nil, refl, arith, Option, Some, None, Result, Ok, Err}
use Rattle.std.specs.Prelude.{IfOk, IfSome, IfNone}
use Rattle.std.specs.Option.{option_map}
use Rattle.std.proofs.lemmas.Bool.Decides.{nat_tests}
use Rattle.sled_base.specs.Order.{Bytes}
use Rattle.sled_lines.specs.Words.{AreBytes, hex_digit}
use Rattle.sled_keys.specs.Words.{is_plain, spelled_byte, spelled}

abbrev pub row : Bytes → Bytes
row bytes = flat_map spelled_byte bytes

-- ---- how long they are

short_in : (plain backslash : Bool) (byte high low : ℕ) → length (if plain then byte ∷ [] else if backslash then 92 ∷ 92 ∷ [] else 92 ∷ high ∷ low ∷ []) ≤ 3
short_in true backslash byte high low = omega arith
short_in false true byte high low = omega arith
short_in false false byte high low = omega arith

pub length-row : (bytes : Bytes) → length (row bytes) ≤ 3 * length bytes
length-row [] = omega arith
length-row (byte ∷ bytes) = omega (arith, length-append (spelled_byte byte) (row bytes), short_in (is_plain byte) (nat_eq byte 92) byte (hex_digit (byte / 16)) (hex_digit (byte % 16)), length-row bytes)

-- ---- one behind another

pub row-append : (a b : Bytes) → row (a ++ b) ≡ row a ++ row b
row-append [] b = refl
row-append (byte ∷ a) b = ap (λ rest. spelled_byte byte ++ rest) (row-append a b) ∙ sym (append_assoc (spelled_byte byte) (row a) (row b))

-- ---- each in one way

digit_is_no_backslash : (n : ℕ) → hex_digit n ≢ 92
digit_is_no_backslash n e = grind (arith, nat_tests)

plain_is_no_backslash : (byte : ℕ) → is_plain byte ≡ true → byte ≢ 92
plain_is_no_backslash byte plain e = grind (arith, nat_tests)

-- two spellings that begin one text are the same
once : (p q r s : Bool) (d b h l k m : ℕ) (x y : Bytes) → (p ≡ true → d ≢ 92) → (r ≡ true → b ≢ 92) → h ≢ 92 → k ≢ 92
    → (if p then d ∷ [] else if q then 92 ∷ 92 ∷ [] else 92 ∷ h ∷ l ∷ []) ++ x ≡ (if r then b ∷ [] else if s then 92 ∷ 92 ∷ [] else 92 ∷ k ∷ m ∷ []) ++ y
    → ((if p then d ∷ [] else if q then 92 ∷ 92 ∷ [] else 92 ∷ h ∷ l ∷ []) ≡ (if r then b ∷ [] else if s then 92 ∷ 92 ∷ [] else 92 ∷ k ∷ m ∷ [])) × (x ≡ y)
once true q true s d b h l k m x y pd rb hn kn e = (cc, cc)
once true q false true d b h l k m x y pd rb hn kn e = absurd (pd refl cc)
once true q false false d b h l k m x y pd rb hn kn e = absurd (pd refl cc)
once false true true s d b h l k m x y pd rb hn kn e = absurd (rb refl cc)
once false false true s d b h l k m x y pd rb hn kn e = absurd (rb refl cc)
once false true false true d b h l k m x y pd rb hn kn e = (cc, cc)
once false true false false d b h l k m x y pd rb hn kn e = absurd (kn cc)
once false false false true d b h l k m x y pd rb hn kn e = absurd (hn cc)
once false false false false d b h l k m x y pd rb hn kn e = (cc, cc)

pub front_once : (d b : ℕ) (x y : Bytes) → spelled_byte d ++ x ≡ spelled_byte b ++ y → (spelled_byte d ≡ spelled_byte b) × (x ≡ y)
front_once d b x y e = once (is_plain d) (nat_eq d 92) (is_plain b) (nat_eq b 92) d b (hex_digit (d / 16)) (hex_digit (d % 16)) (hex_digit (b / 16)) (hex_digit (b % 16)) x y
    (plain_is_no_backslash d) (plain_is_no_backslash b) (digit_is_no_backslash (d / 16)) (digit_is_no_backslash (b / 16)) e

some_in : (plain backslash : Bool) (byte high low : ℕ) (rest : Bytes) → (if plain then byte ∷ [] else if backslash then 92 ∷ 92 ∷ [] else 92 ∷ high ∷ low ∷ []) ++ rest ≢ []
some_in true backslash byte high low rest e = absurd cc
some_in false true byte high low rest e = absurd cc
some_in false false byte high low rest e = absurd cc

-- a text that goes on behind bytes in a row, but by no byte, is no row
pub stops_at : (done bytes left : Bytes) → AreBytes bytes → row done ++ left ≡ row bytes → 0 < length left → ((byte : ℕ) (rest : Bytes) → byte < 256 → left ≢ spelled_byte byte ++ rest) → ⊥
stops_at [] [] left are e some none = omega (arith, ap length e)
stops_at [] (byte ∷ bytes) left are e some none = none byte (row bytes) are.0 e
stops_at (d ∷ done) [] left are e some none = some_in (is_plain d) (nat_eq d 92) d (hex_digit (d / 16)) (hex_digit (d % 16)) (row done ++ left) (sym (append_assoc (spelled_byte d) (row done) left) ∙ e)
stops_at (d ∷ done) (byte ∷ bytes) left are e some none =
    stops_at done bytes left are.1 (front_once d byte (row done ++ left) (row bytes) (sym (append_assoc (spelled_byte d) (row done) left) ∙ e)).1 some none

-- ---- and each word by one byte string

digit_once : (a b : ℕ) → hex_digit a ≡ hex_digit b → a ≡ b
digit_once a b e = grind (arith, nat_tests)

byte_in : (p q r s : Bool) (d b h l k m : ℕ) → (p ≡ true → d ≢ 92) → (r ≡ true → b ≢ 92) → (q ≡ true → d ≡ 92) → (s ≡ true → b ≡ 92) → h ≢ 92 → k ≢ 92 → (h ≡ k → l ≡ m → d ≡ b)
    → (if p then d ∷ [] else if q then 92 ∷ 92 ∷ [] else 92 ∷ h ∷ l ∷ []) ≡ (if r then b ∷ [] else if s then 92 ∷ 92 ∷ [] else 92 ∷ k ∷ m ∷ []) → d ≡ b
byte_in true q true s d b h l k m pd rb qd sb hn kn both e = cc
byte_in true q false true d b h l k m pd rb qd sb hn kn both e = absurd (pd refl cc)
byte_in true q false false d b h l k m pd rb qd sb hn kn both e = absurd (pd refl cc)
byte_in false true true s d b h l k m pd rb qd sb hn kn both e = absurd (rb refl cc)
byte_in false false true s d b h l k m pd rb qd sb hn kn both e = absurd (rb refl cc)
byte_in false true false true d b h l k m pd rb qd sb hn kn both e = qd refl ∙ sym (sb refl)
byte_in false true false false d b h l k m pd rb qd sb hn kn both e = absurd (kn cc)
byte_in false false false true d b h l k m pd rb qd sb hn kn both e = absurd (hn cc)
byte_in false false false false d b h l k m pd rb qd sb hn kn both e =
    let high : h ≡ k = cc in
    let low : l ≡ m = cc in
    both high low

backslash_is : (byte : ℕ) → nat_eq byte 92 ≡ true → byte ≡ 92
backslash_is byte e = grind (arith, nat_tests)

digits_once : (d b : ℕ) → hex_digit (d / 16) ≡ hex_digit (b / 16) → hex_digit (d % 16) ≡ hex_digit (b % 16) → d ≡ b
digits_once d b high low =
    let highs = digit_once (d / 16) (b / 16) high in
    let lows = digit_once (d % 16) (b % 16) low in
    omega (arith, highs, lows)

byte_once : (d b : ℕ) → spelled_byte d ≡ spelled_byte b → d ≡ b
byte_once d b e = byte_in (is_plain d) (nat_eq d 92) (is_plain b) (nat_eq b 92) d b (hex_digit (d / 16)) (hex_digit (d % 16)) (hex_digit (b / 16)) (hex_digit (b % 16))
    (plain_is_no_backslash d) (plain_is_no_backslash b) (backslash_is d) (backslash_is b) (digit_is_no_backslash (d / 16)) (digit_is_no_backslash (b / 16)) (digits_once d b) e

row_once : (a b : Bytes) → row a ≡ row b → a ≡ b
row_once [] [] e = refl
row_once [] (y ∷ b) e = absurd (some_in (is_plain y) (nat_eq y 92) y (hex_digit (y / 16)) (hex_digit (y % 16)) (row b) (sym e))
row_once (x ∷ a) [] e = absurd (some_in (is_plain x) (nat_eq x 92) x (hex_digit (x / 16)) (hex_digit (x % 16)) (row a) e)
row_once (x ∷ a) (y ∷ b) e =
    let front = front_once x y (row a) (row b) e in
    let first = byte_once x y front.0 in
    let rest = row_once a b front.1 in
    cc

-- the digits of a dash
abbrev dash_word : Bytes
dash_word = 92 ∷ hex_digit 2 ∷ hex_digit 13 ∷ []

no_word_in : (p q : Bool) (b h l high low : ℕ) (rest : Bytes) → (p ≡ true → b ≢ 92) → high ≢ 92 → (p ≡ false → h ≡ high → l ≢ low) → (if p then b ∷ [] else if q then 92 ∷ 92 ∷ [] else 92 ∷ h ∷ l ∷ []) ++ rest ≢ 92 ∷ high ∷ low ∷ []
no_word_in true q b h l high low rest pb digit other e = pb refl cc
no_word_in false true b h l high low rest pb digit other e = digit cc
no_word_in false false b h l high low rest pb digit other e =
    let first : h ≡ high = cc in
    let second : l ≡ low = cc in
    other refl first second

plain_dash : (byte : ℕ) → is_plain byte ≡ false → hex_digit (byte / 16) ≡ hex_digit 2 → hex_digit (byte % 16) ≢ hex_digit 13
plain_dash byte odd high low =
    let same : byte ≡ 45 = digits_once byte 45 high low in
    let plain : is_plain 45 ≡ true = refl in
    cc

row_is_no_dash_word : (bytes : Bytes) → row bytes ≢ dash_word
row_is_no_dash_word [] e = absurd cc
row_is_no_dash_word (byte ∷ bytes) e = no_word_in (is_plain byte) (nat_eq byte 92) byte (hex_digit (byte / 16)) (hex_digit (byte % 16)) (hex_digit 2) (hex_digit 13) (row bytes) (plain_is_no_backslash byte) (digit_is_no_backslash 2) (plain_dash byte) e

-- a word is that of no bytes, that of a dash alone, or that of bytes in a row
data Kind (bytes word : Bytes) : Type 0 where
  NoBytes : bytes ≡ [] → word ≡ 45 ∷ [] → Kind bytes word
  Dash : bytes ≡ 45 ∷ [] → word ≡ dash_word → Kind bytes word
  Row : (bytes ≡ 45 ∷ [] → ⊥) → word ≡ row bytes → Kind bytes word

one_in : (is_dash : Bool) (byte : ℕ) → (is_dash ≡ true → byte ≡ 45) → (is_dash ≡ false → byte ≢ 45) → Kind (byte ∷ []) (if is_dash then dash_word else spelled_byte byte)
one_in true byte is isnt = Dash (ap (λ b. b ∷ []) (is refl)) refl
one_in false byte is isnt = Row (λ e. isnt refl cc) (sym (append-nil (spelled_byte byte)))

kind_of : (bytes : Bytes) → Kind bytes (spelled bytes)
kind_of [] = NoBytes refl refl
kind_of (byte ∷ []) = one_in (nat_eq byte 45) byte (λ e. grind (arith, nat_tests)) (λ e. grind (arith, nat_tests))
kind_of (byte ∷ next ∷ bytes) = Row (λ e. absurd cc) refl

once_of : (a b v w : Bytes) → Kind a v → Kind b w → v ≡ w → a ≡ b
once_of a b v w (NoBytes p q) (NoBytes r s) e = cc
once_of a b v w (NoBytes p q) (Dash r s) e = absurd cc
once_of a b v w (NoBytes p q) (Row r s) e = absurd (r (row_once b (45 ∷ []) (sym s ∙ sym e ∙ q)))
once_of a b v w (Dash p q) (NoBytes r s) e = absurd cc
once_of a b v w (Dash p q) (Dash r s) e = cc
once_of a b v w (Dash p q) (Row r s) e = absurd (row_is_no_dash_word b (sym s ∙ sym e ∙ q))
once_of a b v w (Row p q) (NoBytes r s) e = absurd (p (row_once a (45 ∷ []) (sym q ∙ e ∙ s)))
once_of a b v w (Row p q) (Dash r s) e = absurd (row_is_no_dash_word a (sym q ∙ e ∙ s))
once_of a b v w (Row p q) (Row r s) e = row_once a b (sym q ∙ e ∙ s)

pub spelled_once : (a b : Bytes) → spelled a ≡ spelled b → a ≡ b
spelled_once a b e = once_of a b (spelled a) (spelled b) (kind_of a) (kind_of b) e

-- What is read of a word is what it spells, and nothing only where it spells nothing: so the bytes that it spells are read.
pub read_back : {T E : Type 0} (now : T → Bytes) (word : Bytes) (result : Result (Option T) E) → IfOk result (λ found. IfSome found (λ read. word ≡ spelled (now read))) → IfOk result (λ found. IfNone found ((bytes : Bytes) → AreBytes bytes → word ≢ spelled bytes))
    → IfOk result (λ found. (bytes : Bytes) → AreBytes bytes → word ≡ spelled bytes → option_map now found ≡ Some bytes)
read_back now word (Ok (Some read)) spells misses = λ bytes are e. ap (λ b. Some b) (spelled_once (now read) bytes (sym spells ∙ e))
read_back now word (Ok None) spells misses = λ bytes are e. absurd (misses bytes are e)
read_back now word (Err failed) spells misses = tt
