-- What lies beyond what, on either side: the order of all floats but NaN, which is in no relation. Assumes nothing.
use mathlib.Core.Path.{◌≡◌, refl}
use mathlib.Core.Bool.{Bool, true, false, not, true≢false}
use lib.Dec.{T}
use lib.Ieee.{Float, nan, inf, fin, lt, is_nan}
use lib.Ieee.Bits.{is_true}
use Rattle.floats.proofs.Signed.{minus_inf, plus_inf, at_most→le}
use Rattle.floats.proofs.Order.{lt_numbers, lt→le, lt_irrefl_f, lt_le_trans, le_lt_trans, not_lt}
use Rattle.min_max.specs.MinMax.{Side, Least, Largest, beyond, start_of}

not_so : {a b : Bool} → (T b → T a) → a ≡ false → b ≡ false
not_so {b = true} f e = absurd (rw e at (f tt))
not_so {b = false} f e = refl

-- ---- the order
lt_through : (x y z : Float) → lt x y ≡ true → lt y z ≡ true → lt x z ≡ true
lt_through x y z e f = is_true (lt x z) (le_lt_trans x y z (lt→le x y (rw e tt)) (rw f tt))

lt_outside : (x y z : Float) → T (not (is_nan y)) → lt x y ≡ false → lt y z ≡ false → lt x z ≡ false
lt_outside x y z n e f = not_so (λ k. le_lt_trans y x z (not_lt x y (lt_numbers x z k).0 n e) k) f

pub beyond_through : (side : Side) (x y z : Float) → beyond side y x ≡ true → beyond side z y ≡ true → beyond side z x ≡ true
beyond_through Least x y z e f = lt_through z y x f e
beyond_through Largest x y z e f = lt_through x y z e f

pub beyond_outside : (side : Side) (x y z : Float) → T (not (is_nan y)) → beyond side y x ≡ false → beyond side z y ≡ false → beyond side z x ≡ false
beyond_outside Least x y z n e f = lt_outside z y x n f e
beyond_outside Largest x y z n e f = lt_outside x y z n e f

pub beyond_self : (side : Side) (x : Float) → beyond side x x ≡ false
beyond_self Least x = not_so (lt_irrefl_f x) refl
beyond_self Largest x = not_so (lt_irrefl_f x) refl

-- what lies beyond another is a number
pub beyond_number : (side : Side) (x y : Float) → beyond side x y ≡ true → T (not (is_nan x))
beyond_number Least x y e = (lt_numbers x y (rw e tt)).0
beyond_number Largest x y e = (lt_numbers y x (rw e tt)).1

-- ---- the start
pub start_number : (side : Side) → T (not (is_nan (start_of side)))
unfolding is_nan
start_number Least = tt
start_number Largest = tt

-- what does not lie beyond the start lies beyond nothing
pub past_start : (side : Side) (x y : Float) → beyond side x (start_of side) ≡ false → beyond side x y ≡ false
past_start Least x y e = not_so (λ k. lt_le_trans x y (inf false) k (at_most→le (plus_inf (lt_numbers x y k).1))) e
past_start Largest x y e = not_so (λ k. le_lt_trans (inf true) y x (at_most→le (minus_inf (lt_numbers y x k).0)) k) e

-- and, if it is a number, is the start
pub start_only : (side : Side) (x : Float) → T (not (is_nan x)) → beyond side x (start_of side) ≡ false → x ≡ start_of side
unfolding lt is_nan
start_only side nan n e = absurd n
start_only Least (inf true) n e = absurd (true≢false e)
start_only Least (inf false) n e = refl
start_only Least (fin s m k) n e = absurd (true≢false e)
start_only Largest (inf true) n e = refl
start_only Largest (inf false) n e = absurd (true≢false e)
start_only Largest (fin s m k) n e = absurd (true≢false e)
