-- The two zeros, which compare as equal: where an order can't tell the sign of x, and where it doesn't matter. Assumes nothing.
use Rattle.std.proofs.Common.{◌≡◌, ◌*◌, Bool, true, false, cond, ◌&&◌, ◌||◌, eqb, sym, refl, ap, ◌∙◌, one-mul, zero-add, zero-mul, mul-one, arith, lt-ltb, eqb-true}
use mathlib.Core.Bool.{false≢true}
use native.Mathlib.Nat.{sub-zero}
use lib.Ieee.{Float, nan, inf, fin, Format, up, down, sum, add, neg, lt, eq, le, of_bits}
use lib.Ieee.Bits.{is_true}
use lib.Ieee.Fits.{down_pos}
use Rattle.floats.specs.Floats.{abs_of, has_sign}
use Rattle.floats.specs.Values.{zero_f, one_f}
use Rattle.floats.proofs.NotNegative.{plus_le}
use Rattle.floats.proofs.Order.{le_not_lt}
use Rattle.floats.proofs.Signed.{⊑→le}

-- the size of x under the sign of x is x
pub signed_size : (x : Float) → cond (has_sign true x) (neg (abs_of x)) (abs_of x) ≡ x
unfolding neg
signed_size nan = refl
signed_size (inf true) = refl
signed_size (inf false) = refl
signed_size (fin true m e) = refl
signed_size (fin false m e) = refl

-- x is a zero where its size is
pub zero_size : (x : Float) → eq x zero_f ≡ eq (abs_of x) zero_f
unfolding eq of_bits
zero_size nan = refl
zero_size (inf true) = refl
zero_size (inf false) = refl
zero_size (fin false m e) = refl
zero_size (fin true m e) = simp zero-mul (go (eqb (m * up e * 1) 0))
  where
    go : (b : Bool) → b && (false || b) ≡ b && true
    go true = refl
    go false = refl

-- a zero is at most zero
or_true : (a b : Bool) → b ≡ true → a || b ≡ true
or_true true b h = refl
or_true false b h = h

pub zero_at_most : (x : Float) → eq x zero_f ≡ true → le x zero_f ≡ true
unfolding le
zero_at_most x h = or_true (lt x zero_f) (eq x zero_f) h

-- but for +0 the sign is minus just where x is at most zero
and_true : (b : Bool) → b && true ≡ b
and_true true = refl
and_true false = refl

pub sign_by_order : (x : Float) → eq x zero_f && has_sign false x ≡ false → has_sign true x ≡ le x zero_f
unfolding le lt eq of_bits
sign_by_order nan h = refl
sign_by_order (inf true) h = refl
sign_by_order (inf false) h = refl
sign_by_order (fin true m e) h = sym (is_true (le (fin true m e) zero_f) (⊑→le (fin true m e) zero_f tt tt (simp zero-mul (omega arith))))
sign_by_order (fin false m e) h =
    let x = fin false m e in
    sym (ap (◌|| eq x zero_f) (le_not_lt zero_f x (is_true (le zero_f x) (plus_le x tt))) ∙ sym (and_true (eq x zero_f)) ∙ h)

-- 1 added to a zero is the same for both of them
pub zeros_plus_one : (f : Format) (x : Float) → eq x zero_f ≡ true → add f (neg (abs_of x)) one_f ≡ add f x one_f
unfolding add sum neg eq of_bits
zeros_plus_one f nan h = refl
zeros_plus_one f (inf s) h = absurd (false≢true h)
zeros_plus_one f (fin true m e) h = refl
zeros_plus_one f (fin false m e) h =
    let z : m * up e ≡ 0 = eqb-true (m * up e) 0 (sym (and_true (eqb (m * up e) 0)) ∙ (simp (zero-mul, mul-one) at h)) in
    simp (z, zero-mul, zero-add, sub-zero, one-mul, mul-one, lt-ltb 0 (down e) (down_pos e))
