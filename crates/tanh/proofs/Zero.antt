-- Up to 0.0004 in size `Tanh` of x is x, so a zero keeps its sign; but for +0 the order against zero tells the sign. Assumes nothing.
use mathlib.Core.Path.{◌≡◌, refl, sym, subst, ◌∙◌, ap}
use mathlib.Core.Bool.{Bool, true, false, ◌&&◌, cond}
use lib.Dec.{T}
use lib.Ieee.{Float, neg, le, lt, eq, of_bits}
use lib.Ieee.Bits.{is_true}
use Rattle.floats.specs.Values.{zero_f}
use Rattle.floats.specs.Floats.{abs_of, has_sign}
use Rattle.floats.proofs.Order.{le_trans_f}
use Rattle.floats.proofs.Zeros.{signed_size, zero_size, zero_at_most, sign_by_order}
use Rattle.consts.specs.Consts.{tanh_tiny}
use Rattle.tanh.specs.Tanh.{size_of, tanh_of, ZeroKept}

-- up to 0.0004
pub tiny_itself : (x : Float) → le (abs_of x) tanh_tiny ≡ true → tanh_of x ≡ x
unfolding tanh_of size_of
tiny_itself x h = simp h (signed_size x)

-- a zero's size is that small, so a zero keeps its sign
tiny_end : T (le zero_f tanh_tiny)
unfolding le lt eq of_bits
tiny_end = tt

pub zero_tiny : (x : Float) → eq x zero_f ≡ true → le (abs_of x) tanh_tiny ≡ true
zero_tiny x h =
    let z = zero_at_most (abs_of x) (sym (zero_size x) ∙ h) in
    is_true (le (abs_of x) tanh_tiny) (le_trans_f (abs_of x) zero_f tanh_tiny (subst T (sym z) tt) tiny_end)

pub zero_kept : ZeroKept
zero_kept x h = tiny_itself x (zero_tiny x h)

-- where x is not +0 the sign is turned where x is at most zero
pub by_order : (x : Float) → eq x zero_f && has_sign false x ≡ false → tanh_of x ≡ cond (le x zero_f) (neg (size_of x (abs_of x))) (size_of x (abs_of x))
unfolding tanh_of
by_order x h = ap (λ b. cond b (neg (size_of x (abs_of x))) (size_of x (abs_of x))) (sign_by_order x h)

-- past 0.0004 x is no zero
no_zero : (x : Float) → le (abs_of x) tanh_tiny ≡ false → eq x zero_f ≡ false
no_zero x h = go (eq x zero_f) refl
  where
    go : (b : Bool) → eq x zero_f ≡ b → b ≡ false
    go false e = refl
    go true e = sym (zero_tiny x e) ∙ h

-- so the order tells the sign, as the code has it, with x's size and y, the size of the result
pub past_tiny : (x : Float) {size y : Float} → size ≡ abs_of x → le size tanh_tiny ≡ false → y ≡ size_of x size → cond (le x zero_f) (neg y) y ≡ tanh_of x
past_tiny x s h r =
    let z = no_zero x (subst (λ a. le a tanh_tiny ≡ false) s h) in
    ap (λ a. cond (le x zero_f) (neg a) a) (r ∙ ap (size_of x) s) ∙ sym (by_order x (ap (◌&& has_sign false x) z))
