-- What `round_ties_even` makes of a size up to 2 ^ 23: past 2 ^ 22 its last bit counts halves, and the last two say where they go; up to 2 ^ 22
-- the two differences have rounded it, and a whole number's last bit is clear. Assumes nothing.
use Rattle.std.proofs.Common.{◌≡◌, ℕ, zero, suc, ◌+◌, ◌-◌, ◌*◌, ◌/◌, ◌%◌, ◌^◌, ◌<◌, ◌≤◌, true, false, not, T, ◌⊎◌, ℤ, sym, refl, ap, ◌∙◌, subst, inl, inr, true≢false, le_trans, mod-lt, mul_assoc, mul-one, arith, lit<, lit≤, pow_pos}
use Prim.Native.Nat.{Ordering}
use native.Mathlib.Decide.{dec_lt}
use lib.Ieee.{Float, nan, inf, fin, binary32, up, down, round, sub, fits, is_nan, of_bits, to_bits}
use lib.Ieee.Back.{round_whole, whole_unique}
use lib.Ieee.Bits.{of_bits-to_bits, to_bits-of_bits, of_bits-fits}
use lib.Ieee.Exact.{HasValue}
use lib.Ieee.Fits.{round-fits, down_pos}
use lib.Ieee.Nearest.{closest, closest_same, closest_mono}
use Rattle.floats.specs.Floats.{round_even}
use Rattle.floats.proofs.Digits.{counted, last_clear}
use Rattle.floats.proofs.Exact.{value_unique, value_number}
use Rattle.floats.proofs.Middle.{middle, digit, middle_rounds, middle_stays}
use Rattle.floats.proofs.Near.{closest_by}
use Rattle.floats.proofs.Pattern.{sign_off}
use Rattle.floats.proofs.Scaled.{even_fits}
use Rattle.floats.proofs.Whole.{rescale, round_even_value}

-- a pattern with the last bit cleared, moved up first where the last but one is set
abbrev pub evened : ℕ → ℕ
evened n = n + n / 2 % 2 - (n + n / 2 % 2) % 2

even_stays : (n : ℕ) → n % 2 ≡ 0 → evened n ≡ n
even_stays n h = omega arith

evened_closest : (b : ℕ) → evened b ≡ closest b 2 * 2
evened_closest b = go (b % 2) refl
  where
    go : (t : ℕ) → b % 2 ≡ t → evened b ≡ closest b 2 * 2
    go zero e = let c = closest_by b 2 Ordering.lt (omega arith) in omega arith
    go (suc t) e = let c = closest_by b 2 Ordering.eq (omega arith) in omega arith

-- ---- from 2 ^ 22 to 2 ^ 23: b halves
evened_above : (b w : ℕ) → evened b ≡ w → evened (0x4a00_0000 + b) ≡ 0x4a00_0000 + w
evened_above b w e = rw (same b) (shift (b / 2 % 2) e)
  where
    same : (b : ℕ) → (0x4a00_0000 + b) / 2 % 2 ≡ b / 2 % 2
    same b = omega arith

    shift : (z : ℕ) → b + z - (b + z) % 2 ≡ w → 0x4a00_0000 + b + z - (0x4a00_0000 + b + z) % 2 ≡ 0x4a00_0000 + w
    shift z e = omega arith

room : (b : ℕ) → b ≤ 2 ^ 24 → 0x4a00_0000 + b < 2 ^ 32
room b h = omega arith

le_twice : (q : ℕ) → q ≤ q * 2
le_twice q = omega arith

evened_ends : (b w : ℕ) → 2 ^ 23 ≤ b → b ≤ 2 ^ 24 → evened b ≡ w → (2 ^ 23 ≤ w) × (w ≤ 2 ^ 24)
evened_ends b w h k e = (omega arith, omega arith)

halves_value : (b : ℕ) → 2 ^ 23 ≤ b → b ≤ 2 ^ 24 → HasValue (of_bits binary32 (0x4a00_0000 + b)) false b 2
halves_value b h k = elim (dec_lt b (2 ^ 24)) [
  | yes l ↦ under l
  | no l ↦ let top : 2 ^ 24 ≡ b = omega arith in subst (λ z. HasValue (of_bits binary32 (0x4a00_0000 + z)) false z 2) top last
]
  where
    last : HasValue (of_bits binary32 (0x4a00_0000 + 2 ^ 24)) false (2 ^ 24) 2
    last = unfold of_bits in (refl, refl)

    under : b < 2 ^ 24 → HasValue (of_bits binary32 (0x4a00_0000 + b)) false b 2
    under l =
        rescale (of_bits binary32 (0x4a00_0000 + b)) false (b * 2 ^ 148) (2 ^ 149) b 2 (pow_pos 149) (sym (mul_assoc b (2 ^ 148) 2))
        (counted 148 b (lit< tt) h l)

module _ (m : ℕ) (e : ℤ) (F : T (fits binary32 (fin false m e))) where
  abbrev x : Float
  x = fin false m e

  count : 2 ^ 22 * down e < m * up e → m * up e ≤ 2 ^ 23 * down e
      → (b : ℕ) × (m * up e * 2 ≡ b * down e) × (2 ^ 23 ≤ b) × (b ≤ 2 ^ 24)
  count h k = go (down e) (digit binary32 m e F h) h k
    where
      go : (d : ℕ) → (d ≡ 1) ⊎ (d ≡ 2) → 2 ^ 22 * d < m * up e → m * up e ≤ 2 ^ 23 * d
          → (b : ℕ) × (m * up e * 2 ≡ b * d) × (2 ^ 23 ≤ b) × (b ≤ 2 ^ 24)
      go d (inl i) h k = (m * up e * 2, rw i (sym (mul-one (m * up e * 2))), omega arith, omega arith)
      go d (inr i) h k = (m * up e, rw i refl, omega arith, omega arith)

  halves : 2 ^ 22 * down e < m * up e → m * up e ≤ 2 ^ 23 * down e → of_bits binary32 (evened (to_bits binary32 x)) ≡ round_even binary32 x
  unfolding round_even
  halves h k =
      let g = count h k in
      let b = g.0 in
      let q = closest b 2 in
      let n = 0x4a00_0000 + b in
      let v = halves_value b g.2 g.3 in
      let is : x ≡ of_bits binary32 n = value_unique binary32 x (of_bits binary32 n) false b 2 (lit< tt) F (of_bits-fits binary32 n) (refl, g.1) v in
      let bits : to_bits binary32 x ≡ n = ap (to_bits binary32) is ∙ to_bits-of_bits binary32 n (room b g.3) (subst (λ y. T (not (is_nan y))) is (unfold is_nan in tt)) in
      let c = evened_closest b in
      let u = evened_above b (q * 2) c in
      let t = evened_ends b (q * 2) g.2 g.3 c in
      let w = halves_value (q * 2) t.0 t.1 in
      ap (λ z. of_bits binary32 (evened z)) bits
      ∙ ap (of_bits binary32) u
      ∙ whole_unique binary32 (of_bits binary32 (0x4a00_0000 + q * 2)) (round binary32 false q 1) false q
      (of_bits-fits binary32 (0x4a00_0000 + q * 2)) (round-fits binary32 false q 1)
      (rescale (of_bits binary32 (0x4a00_0000 + q * 2)) false (q * 2) 2 q 1 (lit< tt) (sym (mul-one (q * 2))) w)
      (round_whole binary32 false q (le_trans (le_twice q) t.1))
      ∙ ap (λ z. round binary32 false z 1) (sym (closest_same (m * up e) (down e) b 2 (down_pos e) (lit< tt) g.1))

-- ---- up to 2 ^ 22 a whole number comes in
pub no_sign : (y : Float) (a c : ℕ) → T (fits binary32 y) → HasValue y false a c → to_bits binary32 y < 2 ^ 31
no_sign nan a c F v = absurd v
no_sign (inf s) a c F v = absurd v
no_sign (fin true m e) a c F v = absurd (true≢false v.0)
no_sign (fin false m e) a c F v = subst (λ z. z < 2 ^ 31) (sign_off false m e F) (mod-lt (to_bits binary32 (fin false m e)) (pow_pos 31))

whole_evened : (y : Float) (w : ℕ) → w ≤ 2 ^ 23 → T (fits binary32 y) → HasValue y false w 1 → of_bits binary32 (evened (to_bits binary32 y)) ≡ y
whole_evened y w W F v =
    let back = of_bits-to_bits binary32 y F in
    ap (of_bits binary32)
    (even_stays (to_bits binary32 y)
    (last_clear (to_bits binary32 y) w (no_sign y w 1 F v) (subst (λ z. HasValue z false w 1) (sym back) v) W))
    ∙ back

-- ---- the size by its two differences and its last two bits
-- what the code needs to know of the difference y, for the size x
pub record Evens (x y : Float) : Type 0 where
  pub number : T (not (is_nan y))
  pub under : to_bits binary32 y < 2 ^ 31
  pub is : of_bits binary32 (evened (to_bits binary32 y)) ≡ round_even binary32 x

evens : (x y : Float) (a c : ℕ) → T (fits binary32 y) → HasValue y false a c → of_bits binary32 (evened (to_bits binary32 y)) ≡ round_even binary32 x → Evens x y
evens x y a c F v e = record { number = value_number y false a c v; under = no_sign y a c F v; is = e }

pub size_evens : (m : ℕ) (e : ℤ) → T (fits binary32 (fin false m e)) → m * up e ≤ 2 ^ 23 * down e
    → Evens (fin false m e) (sub binary32 (middle binary32) (sub binary32 (middle binary32) (fin false m e)))
size_evens m e F h =
    elim (dec_lt (2 ^ 22 * down e) (m * up e)) [
      | yes l ↦ subst (Evens x) (sym (middle_stays binary32 m e F l h)) (evens x x (m * up e) (down e) F (refl, refl) (halves m e F l h))
      | no l ↦ subst (Evens x) (sym (middle_rounds binary32 m e F (omega arith))) (evens x r q 1 (even_fits x) v (whole_evened r q (few (omega arith)) (even_fits x) v))
    ]
  where
    x : Float
    x = fin false m e

    r : Float
    r = round_even binary32 x

    q : ℕ
    q = closest (m * up e) (down e)

    v : HasValue r false q 1
    v = round_even_value binary32 false m e F

    few : m * up e ≤ 2 ^ 22 * down e → q ≤ 2 ^ 23
    few l = le_trans (closest_mono (m * up e) (down e) (2 ^ 22) 1 (down_pos e) (lit< tt) (omega arith)) (lit≤ tt)
