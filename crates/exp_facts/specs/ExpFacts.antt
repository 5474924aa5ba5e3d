-- The range of `Exp` and `ReducedRangeExp`. Statements only.
use Rattle.std.specs.Prelude.{◌≡◌, true, false, not, T, pos, Float}
use Rattle.std.specs.Float.{inf, fin}
use Rattle.std.specs.Float.Ieee.{le, is_nan}
use Rattle.floats.specs.Values.{f32, zero_f, one_f, thirty_two_f}
use Rattle.floats.specs.Between.{Between}
use Rattle.exp.specs.Exp.{exp_of, reduced_range_exp_of}

-- 2 ^ 48, which is more than e ^ 32
abbrev pub large : Float
large = fin false 1 (pos 48)

-- y is what Exp gives of x: not below 0; at most 1 for x at most 0, at most 2 ^ 48 for x at most 32
pub record ExpRange (x y : Float) : Type 0 where
  pub from : T (le zero_f y)
  pub to_32 : T (le x thirty_two_f) → T (le y large)
  pub to_0 : T (le x zero_f) → T (le y one_f)

-- Exp of a number lies there, ReducedRangeExp of a number at most 0, minus infinity among it, from 0 to 1; it is 1 at both zeros, +0 where masked
pub record ExpFacts : Type 0 where
  pub exp : (x : Float) → T (not (is_nan x)) → ExpRange x (exp_of x)
  pub reduced : (x : Float) → T (le x zero_f) → Between zero_f one_f (reduced_range_exp_of x)
  pub zeros : (reduced_range_exp_of zero_f ≡ one_f) × (reduced_range_exp_of (f32 0x8000_0000) ≡ one_f)
  pub masked : reduced_range_exp_of (inf true) ≡ zero_f
