-- The 303 cells of Exp from -104 to 104: what holds at the ends of each, computed in one list of tests. Assumes nothing.
-- In cell i the rounded quotient x / ln 2 + ROUNDING_MAGIC is 12582761 + i, so k is i - 151.
use mathlib.Core.List.{List, [], ◌∷◌}
use Prim.Native.Nat.{ℕ, ◌+◌, ◌-◌, ◌*◌, ◌<◌}
use mathlib.Core.Bool.{Bool, true, false, not, ◌&&◌, ◌||◌, cond}
use lib.Dec.{T, eqb, ltb}
use lib.Ieee.{Float, binary32, round, add, sub, mul, lt, le, of_bits, to_signed}
use lib.Ieee.Fits.{and_i}
use lib.Ieee.Scale.{finite}
use Rattle.floats.specs.Values.{f32, zero_f, one_f, thirty_two_f}
use Rattle.consts.specs.Consts.{inv_log2, rounding_magic, log2_hi, log2_lo, exp_lower_cutoff}
use Rattle.exp.specs.Exp.{rest_of, ia_of}
use Rattle.floats.specs.Floats.{mul_add}
use Rattle.floats.specs.Words.{add_word, sub_word, shl23, trunc_word}
use Rattle.lists.proofs.Tests.{all_of, all_below, below_at, holds, where_holds}
use Rattle.exp_facts.proofs.Poly.{rest_low, rest_high, poly_top}
use Rattle.exp_facts.specs.ExpFacts.{large}

abbrev pub quotient : ℕ → Float
quotient i = round binary32 false (12582761 + i) 1

-- j
abbrev pub steps : ℕ → Float
steps i = sub binary32 (quotient i) rounding_magic

-- wide ends: (k - 0.6) ln 2 and (k + 0.6) ln 2
abbrev tenths : ℕ → ℕ → Float
tenths a b = cond (ltb a b) (round binary32 true ((b - a) * 69315) 1000000) (round binary32 false ((a - b) * 69315) 1000000)

abbrev pub lo : ℕ → Float
lo i = tenths (10 * i) 1516

abbrev pub hi : ℕ → Float
hi i = tenths (10 * i) 1504

-- the two scale factors of Exp and the one of ReducedRangeExp, by j
abbrev pub factor1 : Float → Float
factor1 j = f32 (add_word (ia_of (trunc_word j)) 0x7f00_0000)

abbrev pub factor2 : Float → Float
factor2 j = f32 (sub_word (shl23 (trunc_word j)) (ia_of (trunc_word j)))

abbrev pub factor : Float → Float
factor j = f32 (shl23 (add_word (trunc_word j) 127))

-- the largest result of a cell
abbrev pub top : ℕ → Float
top i = mul binary32 (mul binary32 poly_top (factor1 (steps i))) (factor2 (steps i))

-- what is tested of ReducedRangeExp in cell i
pub record Reduced (i : ℕ) : Type 0 where
  pub factor_finite : T (finite (factor (steps i)))
  pub factor_from : T (le zero_f (factor (steps i)))
  pub to_1 : T (not (eqb i 151)) → T (le (mul binary32 poly_top (factor (steps i))) one_f)

-- what is tested in cell i
pub record Cell (i : ℕ) : Type 0 where
  pub lo_finite : T (finite (lo i))
  pub hi_finite : T (finite (hi i))
  pub lo_product : T (finite (mul binary32 (lo i) inv_log2))
  pub hi_product : T (finite (mul binary32 (hi i) inv_log2))
  -- x below lo has a smaller quotient, x above hi a larger one
  pub below : T (not (le (quotient i) (mul_add (lo i) inv_log2 rounding_magic)))
  pub above : T (not (le (mul_add (hi i) inv_log2 rounding_magic) (quotient i)))
  pub hi_step : T (finite (mul binary32 (steps i) log2_hi))
  pub lo_step : T (finite (mul binary32 (steps i) log2_lo))
  pub lo_rest : T (finite (mul_add (steps i) log2_hi (lo i)))
  pub hi_rest : T (finite (mul_add (steps i) log2_hi (hi i)))
  pub rest_from : T (le rest_low (rest_of (lo i) (steps i)))
  pub rest_to : T (le (rest_of (hi i) (steps i)) rest_high)
  pub factor1_finite : T (finite (factor1 (steps i)))
  pub factor1_from : T (le zero_f (factor1 (steps i)))
  pub factor2_finite : T (finite (factor2 (steps i)))
  pub factor2_from : T (le zero_f (factor2 (steps i)))
  pub product_finite : T (finite (mul binary32 poly_top (factor1 (steps i))))
  -- the largest result where the cell reaches down to 32, and to 0 but for the cell of 0
  pub to_32 : T (le (lo i) thirty_two_f) → T (le (top i) large)
  pub to_0 : T (le (lo i) zero_f) → T (not (eqb i 151)) → T (le (top i) one_f)
  -- ReducedRangeExp, where the cell reaches its range
  pub reduced : T (le exp_lower_cutoff (hi i)) → T (le (lo i) zero_f) → Reduced i

abbrev in_reduced : ℕ → Bool
in_reduced i = le exp_lower_cutoff (hi i) && le (lo i) zero_f

abbrev reduced_tests : ℕ → List Bool
reduced_tests i =
    finite (factor (steps i))
    ∷ le zero_f (factor (steps i))
    ∷ (not (not (eqb i 151)) || le (mul binary32 poly_top (factor (steps i))) one_f)
    ∷ []

abbrev tests : ℕ → List Bool
tests i =
    finite (lo i)
    ∷ finite (hi i)
    ∷ finite (mul binary32 (lo i) inv_log2)
    ∷ finite (mul binary32 (hi i) inv_log2)
    ∷ not (le (quotient i) (mul_add (lo i) inv_log2 rounding_magic))
    ∷ not (le (mul_add (hi i) inv_log2 rounding_magic) (quotient i))
    ∷ finite (mul binary32 (steps i) log2_hi)
    ∷ finite (mul binary32 (steps i) log2_lo)
    ∷ finite (mul_add (steps i) log2_hi (lo i))
    ∷ finite (mul_add (steps i) log2_hi (hi i))
    ∷ le rest_low (rest_of (lo i) (steps i))
    ∷ le (rest_of (hi i) (steps i)) rest_high
    ∷ finite (factor1 (steps i))
    ∷ le zero_f (factor1 (steps i))
    ∷ finite (factor2 (steps i))
    ∷ le zero_f (factor2 (steps i))
    ∷ finite (mul binary32 poly_top (factor1 (steps i)))
    ∷ (not (le (lo i) thirty_two_f) || le (top i) large)
    ∷ (not (le (lo i) zero_f) || (not (not (eqb i 151)) || le (top i) one_f))
    ∷ (not (in_reduced i) || all_of (reduced_tests i))
    ∷ []

passed : T (all_below (λ (i : ℕ). all_of (tests i)) 303)
unfolding round add sub mul lt le of_bits to_signed
passed = tt

reduced_cell : (i : ℕ) → T (all_of (reduced_tests i)) → Reduced i
reduced_cell i t =
    let c = holds (reduced_tests i) t in
    record {
      factor_finite = c 0;
      factor_from = c 1;
      to_1 = where_holds (not (eqb i 151)) (le (mul binary32 poly_top (factor (steps i))) one_f) (c 2);
    }

pub cell : (i : ℕ) → i < 303 → Cell i
cell i h =
    let c = holds (tests i) (below_at (λ (i : ℕ). all_of (tests i)) 303 i passed h) in
    record {
      lo_finite = c 0;
      hi_finite = c 1;
      lo_product = c 2;
      hi_product = c 3;
      below = c 4;
      above = c 5;
      hi_step = c 6;
      lo_step = c 7;
      lo_rest = c 8;
      hi_rest = c 9;
      rest_from = c 10;
      rest_to = c 11;
      factor1_finite = c 12;
      factor1_from = c 13;
      factor2_finite = c 14;
      factor2_from = c 15;
      product_finite = c 16;
      to_32 = where_holds (le (lo i) thirty_two_f) (le (top i) large) (c 17);
      to_0 = λ a b. where_holds (not (eqb i 151)) (le (top i) one_f)
          (where_holds (le (lo i) zero_f) (not (not (eqb i 151)) || le (top i) one_f) (c 18) a) b;
      reduced = λ a b. reduced_cell i
          (where_holds (in_reduced i) (all_of (reduced_tests i)) (c 19) (and_i (le exp_lower_cutoff (hi i)) (le (lo i) zero_f) a b));
    }
