-- 32-bit words: operations that wrap, and the word of an i32. Definitions only.
use Rattle.std.specs.Prelude.{ℕ, suc, ◌+◌, ◌-◌, ◌*◌, ◌%◌, ◌^◌, Bool, ◌&&◌, ℤ, pos, negsuc, nat_lt, Float}
use Rattle.std.specs.Float.Ieee.{to_signed}

abbrev pub add_word : ℕ → ℕ → ℕ
add_word a b = (a + b) % 2 ^ 32

-- a less b, for a b below 2 ^ 32
abbrev pub sub_word : ℕ → ℕ → ℕ
sub_word a b = (a + (2 ^ 32 - b)) % 2 ^ 32

abbrev pub shl23 : ℕ → ℕ
shl23 a = a * 2 ^ 23 % 2 ^ 32

-- the two's complement word of an i32
abbrev pub word_of : ℤ → ℕ
word_of (pos n) = n
word_of (negsuc n) = 2 ^ 32 - suc n

-- a word seen as an i32 is above zero
abbrev pub above0 : ℕ → Bool
above0 k = nat_lt 0 k && nat_lt k (2 ^ 31)

-- `to_int_trunc`: x cut to an i32, toward zero, held to the range, 0 for a NaN; as a word
abbrev pub trunc_word : Float → ℕ
trunc_word x = word_of (to_signed 31 x)
