-- Bytes after a write of bytes are below 256.
use Rattle.std.proofs.Common.{ℕ, zero, suc, ◌+◌, ◌<◌, List, [], ◌∷◌, ◌++◌, length, take, drop, get_or, arith}
use Rattle.sled_disk.specs.Disk.{overlaid}

abbrev pub AreBytes : List ℕ → Type 0
AreBytes bytes = (i : ℕ) → get_or bytes i 0 < 256

pub bytes-append : (xs ys : List ℕ) → AreBytes xs → AreBytes ys → AreBytes (xs ++ ys)
bytes-append [] ys f g i = g i
bytes-append (x ∷ xs) ys f g zero = f zero
bytes-append (x ∷ xs) ys f g (suc i) = bytes-append xs ys (λ j. f (suc j)) g i

pub bytes-take : (n : ℕ) (xs : List ℕ) → AreBytes xs → AreBytes (take n xs)
bytes-take zero xs f i = omega arith
bytes-take (suc n) [] f i = f i
bytes-take (suc n) (x ∷ xs) f zero = f zero
bytes-take (suc n) (x ∷ xs) f (suc i) = bytes-take n xs (λ j. f (suc j)) i

pub bytes-drop : (n : ℕ) (xs : List ℕ) → AreBytes xs → AreBytes (drop n xs)
bytes-drop zero xs f i = f i
bytes-drop (suc n) [] f i = f i
bytes-drop (suc n) (x ∷ xs) f i = bytes-drop n xs (λ j. f (suc j)) i

pub bytes-overlaid : (old : List ℕ) (at : ℕ) (bytes : List ℕ) → AreBytes old → AreBytes bytes → AreBytes (overlaid old at bytes)
bytes-overlaid old at bytes f g = bytes-append (take at old ++ bytes) (drop (at + length bytes) old) (bytes-append (take at old) bytes (bytes-take at old f) g) (bytes-drop (at + length bytes) old f)
