-- How numbers that may be missing are encoded: as a number.
use Rattle.std.specs.Prelude.{ℕ, ◌+◌, ◌<◌, ◌^◌, ℤ, pos, negsuc, List, Option, Some, None}
use Rattle.std.specs.declared.num.NonZeroU64.{NonZeroU64}
use Rattle.std.specs.Int.{w64}
use Rattle.std.specs.Int.NonZero.{non_zero_u64_get}
use Rattle.std.specs.Int.RustNames.{FitsSigned}
use Rattle.sled_base.specs.Payloads.Numbers.{ReadsU64, written_u64, ReadsI64, written_i64}

-- 0 if it is missing, or else one more than the number
abbrev pub number_of : Option ℕ → ℕ
number_of None = 0
number_of (Some n) = n + 1

abbrev pub ReadsOption : List ℕ → Option ℕ → List ℕ → Type 0
ReadsOption input value rest = ReadsU64 input (number_of value) rest

abbrev pub written_option : Option ℕ → List ℕ
written_option value = written_u64 (number_of value)

-- every number except the greatest
abbrev pub CanWriteOption : Option ℕ → Type 0
CanWriteOption value = number_of value < 2 ^ 64

-- 0 if it is missing, a negative number itself, or one more than any other number
abbrev pub signed_of : Option ℤ → ℤ
signed_of None = pos 0
signed_of (Some (pos n)) = pos (n + 1)
signed_of (Some (negsuc n)) = negsuc n

abbrev pub ReadsSigned : List ℕ → Option ℤ → List ℕ → Type 0
ReadsSigned input value rest = ReadsI64 input (signed_of value) rest

abbrev pub written_signed : Option ℤ → List ℕ
written_signed value = written_i64 (signed_of value)

-- every number except the greatest
abbrev pub CanWriteSigned : Option ℤ → Type 0
CanWriteSigned value = FitsSigned w64 (signed_of value)

-- 0 if it is missing, or else the number, which isn't 0
abbrev pub page_number : Option NonZeroU64 → ℕ
page_number None = 0
page_number (Some page) = non_zero_u64_get page

abbrev pub ReadsPageNumber : List ℕ → Option NonZeroU64 → List ℕ → Type 0
ReadsPageNumber input page rest = ReadsU64 input (page_number page) rest

abbrev pub written_page : Option NonZeroU64 → List ℕ
written_page page = written_u64 (page_number page)

abbrev pub CanWritePage : Option NonZeroU64 → Type 0
CanWritePage page = page_number page < 2 ^ 64
