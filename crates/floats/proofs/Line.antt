-- An f32 from 2 ^ 23 up to below 2 ^ 24 is a whole number, and its pattern counts it. Assumes nothing.
use Rattle.std.proofs.Common.{◌≡◌, ℕ, zero, suc, ◌+◌, ◌-◌, ◌*◌, ◌^◌, ◌<◌, ◌≤◌, true, false, not, T, pos, negsuc, sym, refl, ap, ◌∙◌, subst, arith, lit<, pow_pos, pow_mono, lt-ltb, le-leb}
use native.Mathlib.Decide.{dec_lt}
use lib.Ieee.{Float, nan, inf, fin, binary32, down, round, sub, le, is_nan, fits, of_bits, to_bits, of_int, in_float, to_signed}
use lib.Ieee.Back.{positive_back, negative_back, whole_unique}
use lib.Ieee.Bits.{to_bits-of_bits, of_bits-fits}
use lib.Ieee.Exact.{HasValue}
use lib.Ieee.Fits.{down_pos}
use lib.Ieee.Scale.{finite}
use Rattle.floats.specs.Fraction.{frac, ◌⊑◌}
use Rattle.floats.specs.Words.{sub_word, trunc_word}
use Rattle.floats.proofs.Digits.{counted}
use Rattle.floats.proofs.Exact.{down_low, value_number, sub_lesser, sub_larger}
use Rattle.floats.proofs.Order.{finite_between}
use Rattle.floats.proofs.Signed.{le→⊑}
use Rattle.floats.proofs.Whole.{unscale}

-- x is a whole number of 24 digits
pub record OnLine (x : Float) : Type 0 where
  pub at : ℕ
  pub is : HasValue x false at 1
  pub from : 2 ^ 23 ≤ at
  pub under : at < 2 ^ 24

-- every f32 from 2 ^ 23 to 2 ^ 24 - 1 is one: with a digit past the point it would have more than 24
pub on_line : (x : Float) → T (fits binary32 x) → T (le (fin false 1 (pos 23)) x) → T (le x (fin false 16777215 (pos 0))) → OnLine x
on_line x F lo hi =
    let first = fin false 1 (pos 23) in
    let last = fin false 16777215 (pos 0) in
    let N = finite_between first x last tt tt lo hi in
    go x F N (le→⊑ first x tt N lo) (le→⊑ x last N tt hi)
  where
    go : (x : Float) → T (fits binary32 x) → T (finite x)
        → frac (fin false 1 (pos 23)) ⊑ frac x → frac x ⊑ frac (fin false 16777215 (pos 0)) → OnLine x
    go nan F N lo hi = absurd N
    go (inf s) F N lo hi = absurd N
    go (fin true m e) F N lo hi = absurd (omega (arith, down_pos e))
    go (fin false zero e) F N lo hi = absurd (omega (arith, down_pos e))
    go (fin false (suc m) (negsuc k)) F N lo hi =
        let two : 2 ≤ down (negsuc k) = pow_mono {i = 1} (omega arith) in
        absurd (omega (arith, (down_low binary32 false m (negsuc k) F).0))
    go (fin false (suc m) (pos k)) F N lo hi = record { at = suc m * 2 ^ k; is = (refl, refl); from = omega arith; under = omega arith }

module _ (x : Float) (o : OnLine x) where
  -- it is no NaN
  pub line_number : T (not (is_nan x))
  line_number = value_number x false o.at 1 o.is

  -- its pattern
  pub line_bits : T (fits binary32 x) → to_bits binary32 x ≡ 0x4a80_0000 + o.at
  line_bits F =
      let n = 0x4a80_0000 + o.at in
      let v : HasValue (of_bits binary32 n) false o.at 1 =
      unscale (of_bits binary32 n) false o.at (2 ^ 149) (pow_pos 149) (counted 149 o.at (lit< tt) o.from o.under) in
      let e : x ≡ of_bits binary32 n = whole_unique binary32 x (of_bits binary32 n) false o.at F (of_bits-fits binary32 n) o.is v in
      ap (to_bits binary32) e ∙ to_bits-of_bits binary32 n (omega arith) (subst (λ y. T (not (is_nan y))) e line_number)

  -- less the pattern of 3 * 2 ^ 22, the middle, it is the i32 that x less the middle is
  pub line_word : T (fits binary32 x) → sub_word (to_bits binary32 x) 0x4b40_0000 ≡ trunc_word (sub binary32 x (of_bits binary32 0x4b40_0000))
  unfolding of_bits of_int in_float
  line_word F = elim (dec_lt o.at 12582912) [ yes h ↦ past h | no h ↦ back (omega arith) ]
    where
      back : 12582912 ≤ o.at → sub_word (to_bits binary32 x) 0x4b40_0000 ≡ trunc_word (sub binary32 x (fin false 3 (pos 22)))
      back h =
          let n = o.at - 3 * 2 ^ 22 in
          let j : sub binary32 x (fin false 3 (pos 22)) ≡ of_int binary32 (pos n) = sub_lesser binary32 x (fin false 3 (pos 22)) o.at (3 * 2 ^ 22) 1 (lit< tt) o.is (refl, refl) h in
          let few = subst T (sym (le-leb n (2 ^ 24) (omega arith))) tt in
          let k : to_signed 31 (of_int binary32 (pos n)) ≡ pos n = (positive_back binary32 31 n few (omega arith)).1 in
          rw (j, k) (omega (arith, line_bits F))

      past : o.at < 12582912 → sub_word (to_bits binary32 x) 0x4b40_0000 ≡ trunc_word (sub binary32 x (fin false 3 (pos 22)))
      past h =
          let n = 3 * 2 ^ 22 - suc o.at in
          let z : 3 * 2 ^ 22 - o.at ≡ suc n = omega arith in
          let j : sub binary32 x (fin false 3 (pos 22)) ≡ of_int binary32 (negsuc n) =
          sub_larger binary32 x (fin false 3 (pos 22)) o.at (3 * 2 ^ 22) 1 (lit< tt) o.is (refl, refl) h ∙ ap (λ i. round binary32 true i 1) z in
          let few = subst T (sym (lt-ltb n (2 ^ 24) (omega arith))) tt in
          let k : to_signed 31 (of_int binary32 (negsuc n)) ≡ negsuc n = (negative_back binary32 31 n few (omega arith)).1 in
          rw (j, k) (omega (arith, line_bits F))
