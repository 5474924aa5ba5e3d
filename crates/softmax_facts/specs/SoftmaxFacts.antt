-- Softmax's facts: for input that is finite or masked, with one finite element or more, the largest exponential is exactly 1, the sum lies
-- between 1 and the element count, and every output lies between 0 and 1, +0 where masked; none is a NaN. Statements only.
use Rattle.std.specs.Prelude.{ℕ, ◌≤◌, ◌<◌, ◌≡◌, true, false, not, List, T, length, get_or, Float}
use Rattle.std.specs.Float.{nan, inf, binary32}
use Rattle.std.specs.Float.Ieee.{round, le, fits, is_nan}
use Rattle.std.specs.Float.Ieee.Exact.{HasValue}
use Rattle.std.specs.Float.Ieee.Scale.{finite}
use Rattle.answer.specs.Limits.{element_limit}
use Rattle.floats.specs.Values.{zero_f, one_f}
use Rattle.floats.specs.Each.{Each, Some}
use Rattle.floats.specs.Between.{Between}
use Rattle.softmax.specs.Softmax.{in_domain, exps_of, sum_of, weights_of}

-- n as an f32
abbrev pub count_f : ℕ → Float
count_f n = round binary32 false n 1

-- what is asked of the input; every element of an f32 slice fits
pub record Input (s : List Float) : Type 0 where
  pub few : length s ≤ element_limit
  pub domain : Each (λ x. in_domain x ≡ true) s
  pub f32s : Each (λ x. T (fits binary32 x)) s
  pub unmasked : Some (λ x. T (finite x)) s

pub record SoftmaxFacts (s : List Float) : Type 0 where
  -- the exponentials: some is exactly 1, and none is above it
  pub largest : Some (λ e. e ≡ one_f) (exps_of s)
  pub exps_between : Each (Between zero_f one_f) (exps_of s)
  -- the sum: from 1 to the element count, which f32 holds exactly
  pub sum_from_one : T (le one_f (sum_of (exps_of s)))
  pub sum_to_count : T (le (sum_of (exps_of s)) (count_f (length s)))
  pub count_exact : HasValue (count_f (length s)) false (length s) 1
  -- the outputs
  pub same_length : length (weights_of s) ≡ length s
  pub outputs_between : Each (Between zero_f one_f) (weights_of s)
  pub no_nan : Each (λ w. T (not (is_nan w))) (weights_of s)
  pub masked : (i : ℕ) → i < length s → get_or s i nan ≡ inf true → get_or (weights_of s) i nan ≡ zero_f

abbrev pub Statement : Type 0
Statement = (s : List Float) → Input s → SoftmaxFacts s
