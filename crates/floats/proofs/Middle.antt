-- The middle of 2 ^ (prec - 1) and 2 ^ prec, less a size, and less that again: up to 2 ^ (prec - 2) the closest whole number to the size,
-- since from 2 ^ (prec - 1) on there are no others to round to; past it, up to 2 ^ (prec - 1), the size itself. Assumes nothing.
use Rattle.std.proofs.Common.{◌≡◌, ℕ, zero, suc, ◌+◌, ◌-◌, ◌*◌, ◌%◌, ◌^◌, ◌<◌, ◌≤◌, false, T, ◌⊎◌, ℤ, pos, negsuc, sym, refl, ap, ◌∙◌, subst, inl, inr, le_trans, le_of_eq, le_refl, lt_of_lt_of_le, mul_assoc, mul-le-mul_left, mul-pos, zero-mul, mul-one, arith, lit<, lit≤, pow_pos, pow_mono, shl_lt}
use lib.Ieee.{Float, fin, Format, binary32, binary64, prec, emax, low, up, down, round, sub, fits}
use lib.Ieee.Exact.{HasValue, round_exact}
use lib.Ieee.Fits.{down_pos, reach}
use lib.Ieee.Nearest.{closest, closest_mono}
use Rattle.floats.specs.Floats.{round_even}
use Rattle.floats.proofs.Near.{closest_exact}
use Rattle.floats.proofs.Exact.{round_self, down_low, sub_lesser}
use Rattle.floats.proofs.Whole.{whole_value, closest_less}

-- 3 * 2 ^ (prec - 2)
abbrev pub middle : Format → Float
middle f = fin false 3 (pos (prec f - 2))

half : (f : Format) (d : ℕ) → 2 ^ (prec f - 1) * d ≡ 2 * (2 ^ (prec f - 2) * d)
half binary32 d = omega arith
half binary64 d = omega arith

whole : (f : Format) (d : ℕ) → 2 ^ prec f * d ≡ 4 * (2 ^ (prec f - 2) * d)
whole binary32 d = omega arith
whole binary64 d = omega arith

even : (f : Format) → 3 * 2 ^ (prec f - 2) % 2 ≡ 0
even binary32 = refl
even binary64 = refl

-- past 2 ^ (prec - 2) there is one digit past the point at most
pub digit : (f : Format) (m : ℕ) (e : ℤ) → T (fits f (fin false m e)) → 2 ^ (prec f - 2) * down e < m * up e → (down e ≡ 1) ⊎ (down e ≡ 2)
digit f zero e F h = let z = zero-mul (up e) in absurd (omega arith)
digit f (suc m) (pos k) F h = inl refl
digit f (suc m) (negsuc zero) F h = inr refl
digit f (suc m) (negsuc (suc k)) F h =
    let four : 4 ≤ 2 ^ suc (suc k) = pow_mono {i = 2} (omega arith) in
    let g = mul-le-mul_left (2 ^ (prec f - 2)) four in
    let o = whole f 1 in
    absurd (omega (arith, (down_low f false m (negsuc (suc k)) F).0))

-- so its lowest place is one of the format's
place : (f : Format) (d : ℕ) → (d ≡ 1) ⊎ (d ≡ 2) → (d ≤ 2) × ((j : ℕ) × (j ≤ low f) × (2 ^ low f ≡ 2 ^ j * d))
place f d (inl e) = rw e (lit≤ tt, (low f, le_refl (low f), sym (mul-one (2 ^ low f))))
place binary32 d (inr e) = rw e (lit≤ tt, (148, lit≤ tt, refl))
place binary64 d (inr e) = rw e (lit≤ tt, (1073, lit≤ tt, refl))

module _ (f : Format) (m : ℕ) (e : ℤ) (F : T (fits f (fin false m e))) where
  abbrev x : Float
  x = fin false m e

  abbrev p : ℕ
  p = 2 ^ (prec f - 2)

  -- it less n / d
  from_middle : (y : Float) (n d : ℕ) → 0 < d → HasValue y false n d → n ≤ 3 * p * d → sub f (middle f) y ≡ round f false (3 * p * d - n) d
  from_middle y n d D v h = sub_lesser f (middle f) y (3 * p * d) n d D (refl, sym (mul-one (3 * p * d))) v h

  inner : m * up e ≤ 3 * p * down e → sub f (middle f) x ≡ round f false (3 * p * down e - m * up e) (down e)
  inner h = from_middle x (m * up e) (down e) (down_pos e) (refl, refl) h

  pub middle_rounds : m * up e ≤ p * down e → sub f (middle f) (sub f (middle f) x) ≡ round_even f x
  unfolding round_even
  middle_rounds h =
      let a = m * up e in
      let d = down e in
      let q = closest a d in
      let w = mul_assoc 3 p d in
      let lo = half f d in
      let hi = whole f d in
      let P = mul-pos (pow_pos (prec f - 2)) (down_pos e) in
      let few : q ≤ p = le_trans (closest_mono a d p 1 (down_pos e) (lit< tt) (le_trans (le_of_eq (mul-one a)) h)) (le_of_eq (closest_exact p 1 p (lit< tt) (sym (mul-one p)))) in
      let v : HasValue (sub f (middle f) x) false (3 * p - q) 1 =
      subst (λ z. HasValue z false (3 * p - q) 1) (sym (inner (omega arith)))
      (subst (λ z. HasValue (round f false (3 * p * d - a) d) false z 1) (closest_less a d (3 * p) (down_pos e) (even f) (omega arith))
      (whole_value f (3 * p * d - a) d (down_pos e) (omega arith) (omega arith) false)) in
      from_middle (sub f (middle f) x) (3 * p - q) 1 (lit< tt) v (omega arith)
      ∙ ap (λ z. round f false z 1) (omega arith)

  -- with at most one digit past the point, as past 2 ^ (prec - 2), the difference loses none
  exact : (j n : ℕ) → j ≤ low f → n < 2 ^ prec f → 2 ^ low f ≡ 2 ^ j * down e → HasValue (round f false n (down e)) false n (down e)
  exact j n l h k =
      round_exact f false n (down e) n j (down_pos e) h
      (lt_of_lt_of_le (shl_lt (prec f) j h) (pow_mono (room (prec f) (suc (emax f)) (low f) (reach f) l)))
      (ap (λ z. n * z) k ∙ sym (mul_assoc n (2 ^ j) (down e)))
    where
      room : (p e l : ℕ) → p ≤ e → j ≤ l → p + j ≤ l + e
      room p e l h k = omega arith

  pub middle_stays : p * down e < m * up e → m * up e ≤ 2 * p * down e → sub f (middle f) (sub f (middle f) x) ≡ x
  middle_stays h k =
      let a = m * up e in
      let d = down e in
      let w = mul_assoc 3 p d in
      let t = mul_assoc 2 p d in
      let n = 3 * p * d - a in
      let g = place f d (digit f m e F h) in
      let c = mul-le-mul_left p g.0 in
      let o = whole f 1 in
      from_middle (sub f (middle f) x) n d (down_pos e)
      (subst (λ z. HasValue z false n d) (sym (inner (omega arith))) (exact g.1.0 n g.1.1 (omega arith) g.1.2)) (omega arith)
      ∙ ap (λ z. round f false z d) (omega arith)
      ∙ round_self f false m e F
