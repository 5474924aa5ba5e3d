-- Exp of a number is a number from 0 on; of a number at most 0 it is at most 1, of one at most 32 at most 2 ^ 48.
-- ReducedRangeExp of a number at most 0, minus infinity among it, is a number from 0 to 1, and 1 at both zeros. Assumes nothing.
use mathlib.Core.Path.{◌≡◌, refl, sym, subst}
use mathlib.Core.Bool.{Bool, true, false, not, cond}
use lib.Dec.{T}
use lib.Ieee.{Float, inf, binary32, add, sub, mul, le, lt, fits, is_nan, of_bits, to_signed}
use lib.Ieee.Fits.{cond-fits, mul-fits}
use Rattle.floats.specs.Values.{f32, zero_f, one_f, thirty_two_f}
use Rattle.consts.specs.Consts.{exp_overflow, exp_underflow, exp_lower_cutoff}
use Rattle.exp.specs.Exp.{j_of, exp_of, reduced_range_exp_of}
use Rattle.floats.proofs.Order.{le_numbers, le_trans_f, not_le, not_lt}
use Rattle.floats.specs.Between.{Between}
use Rattle.exp_facts.proofs.Scaled.{exp_from, reduced_from, exp_inside, reduced_inside}
use Rattle.exp_facts.specs.ExpFacts.{large, ExpRange, ExpFacts}

-- ---- Exp
numbers : T (not (is_nan exp_overflow)) × T (not (is_nan exp_underflow)) × T (not (is_nan exp_lower_cutoff))
unfolding is_nan of_bits
numbers = (tt, tt, tt)

-- the two values outside the range
low_range : (x : Float) → ExpRange x zero_f
unfolding le of_bits
low_range x = record { from = tt; to_32 = λ g. tt; to_0 = λ g. tt }

no_top : (T (le exp_overflow thirty_two_f) → ⊥) × (T (le exp_overflow zero_f) → ⊥) × T (le zero_f (inf false))
unfolding le of_bits
no_top = (λ h. h, λ h. h, tt)

high_range : (x : Float) → T (le exp_overflow x) → ExpRange x (inf false)
high_range x h =
    record {
      from = no_top.2;
      to_32 = λ g. absurd (no_top.0 (le_trans_f exp_overflow x thirty_two_f h g));
      to_0 = λ g. absurd (no_top.1 (le_trans_f exp_overflow x zero_f h g));
    }

exp_range : (x : Float) → T (not (is_nan x)) → ExpRange x (exp_of x)
unfolding exp_of
exp_range x n = go (le x exp_underflow) (le exp_overflow x) refl refl
  where
    go : (a b : Bool) → le x exp_underflow ≡ a → le exp_overflow x ≡ b
        → ExpRange x (cond a zero_f (cond b (inf false) (exp_from x (j_of x))))
    go true b p q = low_range x
    go false true p q = high_range x (subst T (sym q) tt)
    go false false p q = exp_inside x (not_le x exp_underflow n numbers.1 p, not_le exp_overflow x numbers.0 n q)

pub exp_above : (x : Float) → T (not (is_nan x)) → T (le zero_f (exp_of x))
exp_above x n = (exp_range x n).from

pub exp_number : (x : Float) → T (not (is_nan x)) → T (not (is_nan (exp_of x)))
exp_number x n = (le_numbers zero_f (exp_of x) (exp_above x n)).1

pub exp_at_most_0 : (x : Float) → T (le x zero_f) → Between zero_f one_f (exp_of x)
exp_at_most_0 x h = let r = exp_range x (le_numbers x zero_f h).0 in (r.from, r.to_0 h)

pub exp_at_most_32 : (x : Float) → T (le x thirty_two_f) → Between zero_f large (exp_of x)
exp_at_most_32 x h = let r = exp_range x (le_numbers x thirty_two_f h).0 in (r.from, r.to_32 h)

-- ---- ReducedRangeExp
in_range : T (le exp_underflow exp_lower_cutoff) × T (le zero_f exp_overflow) × Between zero_f one_f zero_f
unfolding le of_bits
in_range = (tt, tt, (tt, tt))

pub reduced_between : (x : Float) → T (le x zero_f) → Between zero_f one_f (reduced_range_exp_of x)
unfolding reduced_range_exp_of
reduced_between x h = go (lt x exp_lower_cutoff) refl
  where
    go : (b : Bool) → lt x exp_lower_cutoff ≡ b → Between zero_f one_f (cond b zero_f (reduced_from x (j_of x)))
    go true p = in_range.2
    go false p =
        let C = not_lt x exp_lower_cutoff (le_numbers x zero_f h).0 numbers.2 p in
        reduced_inside x (le_trans_f exp_underflow exp_lower_cutoff x in_range.0 C, le_trans_f x zero_f exp_overflow h in_range.1) C h

pub reduced_number : (x : Float) → T (le x zero_f) → T (not (is_nan (reduced_range_exp_of x)))
reduced_number x h = (le_numbers zero_f (reduced_range_exp_of x) (reduced_between x h).0).1

-- +0 and -0
pub reduced_zero : (reduced_range_exp_of zero_f ≡ one_f) × (reduced_range_exp_of (f32 0x8000_0000) ≡ one_f)
unfolding reduced_range_exp_of add sub mul lt of_bits to_signed
reduced_zero = (refl, refl)

-- minus infinity
pub reduced_masked : reduced_range_exp_of (inf true) ≡ zero_f
unfolding reduced_range_exp_of lt of_bits
reduced_masked = refl

-- an f32, whatever x is
pub reduced_fits : (x : Float) → T (fits binary32 (reduced_range_exp_of x))
unfolding reduced_range_exp_of fits of_bits
reduced_fits x = cond-fits binary32 (lt x exp_lower_cutoff) zero_f (reduced_from x (j_of x)) tt (mul-fits binary32 _ _)

-- ---- all of it
pub exp_facts : ExpFacts
exp_facts = record { exp = exp_range; reduced = reduced_between; zeros = reduced_zero; masked = reduced_masked }
