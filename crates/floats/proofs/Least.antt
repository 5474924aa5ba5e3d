-- `f32_min`, the least finite f32: its digits, the code's decimal, the pattern after it, and that nothing finite below it is an f32. Assumes nothing.
use Rattle.std.proofs.Common.{◌≡◌, ℕ, ◌+◌, ◌*◌, ◌^◌, ◌<◌, ◌≤◌, true, false, T, pos, refl, mul-pos, zero-mul, mul-one, arith, lit≤}
use lib.Ieee.{Float, nan, inf, fin, binary32, up, down, le, fits, of_bits}
use lib.Ieee.Back.{whole_unique}
use lib.Ieee.Fits.{down_pos}
use lib.Ieee.Scale.{finite}
use Rattle.floats.proofs.Largest.{fits_between}
use Rattle.floats.proofs.Signed.{le→⊑}
use Rattle.floats.specs.Values.{f32, f32_min}

pub min_least : (f32_min ≡ fin true 16777215 (pos 104)) × (16777215 * 2 ^ 104 ≡ 340282346638528859811704183484516925440)
    × (f32 0xff80_0000 ≡ inf true)
unfolding of_bits
min_least = (refl, refl, refl)

pub min_fits : T (fits binary32 f32_min)
unfolding fits of_bits
min_fits = tt

pub min_finite : T (finite f32_min)
unfolding of_bits
min_finite = tt

-- (`omega` takes no number of more than 38 digits, so the bound is a variable here)
module _ (L a d : ℕ) where
  plus_not : 0 < L → 0 < d → a * 1 + L * d ≤ 0 * d + 0 * 1 → ⊥
  plus_not P D h =
      let g = simp (zero-mul, mul-one) at h in
      let k = mul-pos P D in
      omega arith

  minus_same : 0 * d + a * 1 ≤ 0 * 1 + L * d → 0 * 1 + L * d ≤ 0 * d + a * 1 → a * 1 ≡ L * d
  minus_same h k =
      let f = simp (zero-mul, mul-one) at h in
      let g = simp (zero-mul, mul-one) at k in
      simp mul-one (omega arith)

pub min_only : (y : Float) → T (fits binary32 y) → T (finite y) → T (le y f32_min) → y ≡ f32_min
unfolding of_bits
min_only nan F p h = absurd p
min_only (inf s) F p h = absurd p
min_only (fin false m e) F p h =
    absurd (plus_not (16777215 * 2 ^ 104) (m * up e) (down e) (lit≤ tt) (down_pos e) (le→⊑ (fin false m e) f32_min tt tt h))
min_only (fin true m e) F p h =
    let k = le→⊑ f32_min (fin true m e) tt tt (fits_between (fin true m e) F p).0 in
    whole_unique binary32 (fin true m e) f32_min true (16777215 * 2 ^ 104) F min_fits
    (refl, minus_same (16777215 * 2 ^ 104) (m * up e) (down e) k (le→⊑ (fin true m e) f32_min tt tt h)) (refl, refl)
