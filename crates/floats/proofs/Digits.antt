-- The bits of an f32: the fraction that a pattern stands for, and halves rounded to whole numbers by the last two bits. Assumes nothing.
use Rattle.std.proofs.Common.{◌≡◌, ℕ, zero, suc, ◌+◌, ◌-◌, ◌*◌, ◌/◌, ◌%◌, ◌^◌, ◌<◌, ◌≤◌, Bool, true, false, cond, T, eqb, leb, sym, refl, ap, ◌∙◌, subst, le_trans, le_of_eq, mul_assoc, suc-mul, mul-le-mul_left, zero-mul, mul-one, mul_right_comm, arith, lit≤, pow_pos, pow-add, ne_eqb}
use native.Mathlib.Decide.{dec_lt}
use native.Mathlib.Nat.{eq_of_mul-eq-mul_right}
use lib.Ieee.{Float, nan, inf, fin, binary32, up, down, odd, of_bits, of_fields}
use lib.Ieee.Exact.{HasValue, odd_sign}
use lib.Ieee.Fits.{down_pos}
use lib.Ieee.Scale.{finite}
use borrow.Author.Tests.{lt-leb}
use Rattle.floats.proofs.Exact.{value_finite}

-- ---- the fraction that a pattern with a clear sign stands for, in units of 2 ^ -149
module _ (n : ℕ) (N : n < 2 ^ 31) where
  below : n % 2 ^ 31 ≡ n
  below = omega arith

  unsigned : leb (2 ^ 31) n ≡ false
  unsigned = lt-leb (2 ^ 31) n N

  -- a field of 0: no leading digit
  small_value : n / 2 ^ 23 ≡ 0 → HasValue (of_bits binary32 n) false (n % 2 ^ 23 * 2 ^ 0) (2 ^ 149)
  unfolding of_bits of_fields
  small_value e = rw (below, unsigned, e) (odd_sign 24 false (n % 2 ^ 23) 0 149)

  -- any other field but the last
  full_value : (x : ℕ) → n / 2 ^ 23 ≡ suc x → eqb (suc x) 255 ≡ false → HasValue (of_bits binary32 n) false ((2 ^ 23 + n % 2 ^ 23) * 2 ^ x) (2 ^ 149)
  unfolding of_bits of_fields
  full_value x e l = rw (below, unsigned, e, l) (odd_sign 24 false (2 ^ 23 + n % 2 ^ 23) x 149)

  -- a finite value has such a field
  not_last : (x : ℕ) → n / 2 ^ 23 ≡ suc x → T (finite (of_bits binary32 n)) → eqb (suc x) 255 ≡ false
  unfolding of_bits of_fields
  not_last x e = rw (below, unsigned, e) (go (eqb (suc x) 255) (eqb (n % 2 ^ 23) 0))
    where
      go : (b t : Bool) → T (finite (cond b (cond t (inf false) nan) (odd 24 false (2 ^ 23 + n % 2 ^ 23) x 149))) → b ≡ false
      go true true f = absurd f
      go true false f = absurd f
      go false t f = refl

-- the pattern counts the digits: from 2 ^ 23 to 2 ^ 24, in units of 2 ^ (k - 149)
pub counted : (k b : ℕ) → k < 254 → 2 ^ 23 ≤ b → b < 2 ^ 24 → HasValue (of_bits binary32 (k * 2 ^ 23 + b)) false (b * 2 ^ k) (2 ^ 149)
counted k b K lo hi =
    let n = k * 2 ^ 23 + b in
    let field : n / 2 ^ 23 ≡ suc k = omega arith in
    let digits : 2 ^ 23 + n % 2 ^ 23 ≡ b = omega arith in
    subst (λ z. HasValue (of_bits binary32 n) false (z * 2 ^ k) (2 ^ 149)) digits
    (full_value n (omega arith) k field (ne_eqb (suc k) 255 (λ q. omega arith)))

-- ---- a whole number up to 2 ^ 23 has its last bit clear
-- a whole number w in units of 1 / u
in_units : (v : Float) (a u w : ℕ) → HasValue v false a u → HasValue v false w 1 → a ≡ w * u
in_units nan a u w h k = absurd h
in_units (inf s) a u w h k = absurd h
in_units (fin s m e) a u w h k =
    eq_of_mul-eq-mul_right (down e) (down_pos e) a (w * u)
    (sym h.1 ∙ ap (λ z. z * u) (sym (mul-one (m * up e)) ∙ k.1) ∙ mul_right_comm w (down e) u)

module _ (n w : ℕ) (N : n < 2 ^ 31) (v : HasValue (of_bits binary32 n) false w 1) (W : w ≤ 2 ^ 23) where
  no_field : (u : ℕ) → 2 ^ 23 ≤ u → n / 2 ^ 23 ≡ 0 → n % 2 ^ 23 * 2 ^ 0 ≡ w * u → n % 2 ≡ 0
  no_field u U e h = go w h
    where
      go : (w : ℕ) → n % 2 ^ 23 * 2 ^ 0 ≡ w * u → n % 2 ≡ 0
      go zero h = let z = zero-mul u in omega arith
      go (suc w) h = let z = suc-mul w u in absurd (omega arith)

  twice : (z : ℕ) → 2 ^ 23 + n % 2 ^ 23 ≡ z * 2 → n % 2 ≡ 0
  twice z e = omega arith

  least : 2 ^ 23 + n % 2 ^ 23 ≤ w → n % 2 ≡ 0
  least h = omega arith

  field : (x : ℕ) → (2 ^ 23 + n % 2 ^ 23) * 2 ^ x ≡ w * 2 ^ 149 → n % 2 ≡ 0
  field x h = elim (dec_lt x 149) [ yes l ↦ under (148 - x) (omega arith) | no l ↦ over (x - 149) (omega arith) ]
    where
      under : (t : ℕ) → 149 ≡ t + (1 + x) → n % 2 ≡ 0
      under t e =
          twice (w * 2 ^ t)
          (eq_of_mul-eq-mul_right (2 ^ x) (pow_pos x) (2 ^ 23 + n % 2 ^ 23) (w * 2 ^ t * 2)
          (h
          ∙ ap (λ z. w * 2 ^ z) e
          ∙ ap (λ z. w * z) (pow-add 2 t (1 + x) ∙ ap (λ z. 2 ^ t * z) (pow-add 2 1 x))
          ∙ sym (mul_assoc (w * 2 ^ t) 2 (2 ^ x) ∙ mul_assoc w (2 ^ t) (2 * 2 ^ x))))

      over : (t : ℕ) → x ≡ t + 149 → n % 2 ≡ 0
      over t e =
          let K = 2 ^ 23 + n % 2 ^ 23 in
          let c : K * 2 ^ t ≡ w =
          eq_of_mul-eq-mul_right (2 ^ 149) (pow_pos 149) (K * 2 ^ t) w
          (mul_assoc K (2 ^ t) (2 ^ 149) ∙ ap (λ z. K * z) (sym (pow-add 2 t 149) ∙ ap (λ z. 2 ^ z) (sym e)) ∙ h) in
          least (le_trans (le_of_eq (sym (mul-one K))) (le_trans (mul-le-mul_left K (pow_pos t)) (le_of_eq c)))

  pub last_clear : n % 2 ≡ 0
  last_clear = go (n / 2 ^ 23) refl
    where
      go : (k : ℕ) → n / 2 ^ 23 ≡ k → n % 2 ≡ 0
      go zero e = no_field (2 ^ 149) (lit≤ tt) e (in_units (of_bits binary32 n) (n % 2 ^ 23 * 2 ^ 0) (2 ^ 149) w (small_value n N e) v)
      go (suc x) e =
          field x
          (in_units (of_bits binary32 n) ((2 ^ 23 + n % 2 ^ 23) * 2 ^ x) (2 ^ 149) w
          (full_value n N x e (not_last n N x e (value_finite (of_bits binary32 n) false w 1 v))) v)
