-- What the kit's IEEE 754 (lib.Ieee) lacks of Rust's f32 functions. `finite` is the kit's. Definitions only.
use Rattle.std.specs.Prelude.{ℕ, ◌*◌, Bool, false, List, length, slice_index_or, Float}
use Rattle.std.specs.Bool.{beq}
use Rattle.std.specs.Float.{nan, inf, fin, Format, binary32}
use Rattle.std.specs.Float.Ieee.{up, down, round, add, sub, mul}
use Rattle.std.specs.Float.Ieee.Nearest.{closest}
use Rattle.std.specs.Float.Ieee.Scale.{finite}
use Rattle.lists.specs.Lists.{first_not}

-- `mul_add(a, b, c)`: a times b, rounded, plus c, rounded (RULES, Steps)
abbrev pub mul_add : Float → Float → Float → Float
mul_add a b c = add binary32 (mul binary32 a b) c

-- `mul_sub_from(k, a, x)`: x minus the rounded k times a
abbrev pub mul_sub_from : Float → Float → Float → Float
mul_sub_from k a x = sub binary32 x (mul binary32 k a)

-- |x|
abbrev pub abs_of : Float → Float
abs_of nan = nan
abs_of (inf s) = inf false
abs_of (fin s m e) = fin false m e

-- x is no NaN, and its sign is s, true for minus; a zero has one too
abbrev pub has_sign : Bool → Float → Bool
has_sign s nan = false
has_sign s (inf t) = beq s t
has_sign s (fin t m e) = beq s t

-- The whole number nearest to x, ties to the even one, with x's sign: a zero keeps it. (`closest` is that number for x's size,
-- m * up e / down e. The format holds it, so `round` only writes it down: `round_even_value` of proofs/Whole.antt.)
unfoldable pub round_even : Format → Float → Float
round_even f nan = nan
round_even f (inf s) = inf s
round_even f (fin s m e) = round f s (closest (m * up e) (down e)) 1

-- the element at place i of a list is finite
abbrev pub finite_at : List Float → ℕ → Bool
finite_at s i = finite (slice_index_or s i nan)

-- the first place that is not finite, or the length
abbrev pub first_not_finite : List Float → ℕ
first_not_finite s = first_not (finite_at s) (length s)
