-- For x from -104 to 104: the cell of x, and the rest of x in it. Assumes nothing.
use mathlib.Core.Path.{◌≡◌, sym, ap, ◌∙◌, subst}
use mathlib.Core.Logic.{inl, inr}
use Prim.Native.Nat.{ℕ, ◌+◌, ◌-◌, ◌*◌, ◌≤◌, ◌<◌}
use native.Mathlib.Nat.{le_of_mul-le-mul_right, le_trans, zero-mul, mul-one}
use native.Mathlib.Omega.{arith}
use mathlib.Core.Bool.{false}
use lib.IntN.{ℤ, pos}
use lib.Dec.{T, T_not, lit≤}
use lib.Ieee.{Float, nan, inf, fin, binary32, up, down, round, add, mul, le, of_bits}
use lib.Ieee.Back.{round_whole, whole_unique}
use lib.Ieee.Exact.{HasValue}
use lib.Ieee.Fits.{add-fits, round-fits, down_pos}
use lib.Ieee.Scale.{finite}
use Rattle.consts.specs.Consts.{inv_log2, rounding_magic, log2_hi, log2_lo, exp_overflow, exp_underflow}
use Rattle.exp.specs.Exp.{rest_of}
use Rattle.floats.specs.Values.{zero_f}
use Rattle.floats.specs.Floats.{mul_add}
use Rattle.floats.proofs.Sign.{finite_number}
use Rattle.floats.proofs.Signed.{le→⊑}
use Rattle.floats.proofs.Order.{le_trans_f, le_refl_f, le_total, finite_between}
use Rattle.floats.proofs.Monotone.{add_mono, mul_mono_r}
use Rattle.floats.proofs.Line.{on_line}
use Rattle.floats.specs.Between.{Between}
use Rattle.floats.proofs.Between.{between_wider, add_between}
use Rattle.exp_facts.proofs.Poly.{rest_low, rest_high}
use Rattle.exp_facts.proofs.Cells.{quotient, steps, lo, hi, Cell}

-- ---- a whole number from 12582761 to 12583063, by the order of floats
abbrev first : Float
first = fin false 12582761 (pos 0)

abbrev last : Float
last = fin false 12583063 (pos 0)

in_cells : (u : Float) (w : ℕ) → HasValue u false w 1 → T (le first u) → T (le u last) → (12582761 ≤ w) × (w ≤ 12583063)
in_cells nan w v h k = absurd v
in_cells (inf s) w v h k = absurd v
in_cells (fin s m e) w v h k =
    go m e (subst (λ t. T (le first (fin t m e))) v.0 h) (subst (λ t. T (le (fin t m e) last)) v.0 k) v.1
  where
    go : (m : ℕ) (e : ℤ) → T (le first (fin false m e)) → T (le (fin false m e) last) → m * up e * 1 ≡ w * down e
        → (12582761 ≤ w) × (w ≤ 12583063)
    go m e h k v =
        let h1 = simp (zero-mul, mul-one) at (le→⊑ first (fin false m e) tt tt h) in
        let k1 = simp (zero-mul, mul-one) at (le→⊑ (fin false m e) last tt tt k) in
        let v1 = simp mul-one at v in (
          le_of_mul-le-mul_right {k = down e} (omega arith) (down_pos e),
          le_of_mul-le-mul_right {k = down e} (omega arith) (down_pos e),
        )

-- ---- the quotient grows with x
constants : T (finite inv_log2) × T (finite rounding_magic) × T (le zero_f inv_log2) × T (finite exp_underflow) × T (finite exp_overflow)
unfolding le of_bits
constants = (tt, tt, tt, tt, tt)

-- at the two ends: the products are finite, and the quotients are the first and the last
ends : T (finite (mul binary32 exp_underflow inv_log2)) × T (finite (mul binary32 exp_overflow inv_log2))
    × T (le first (mul_add exp_underflow inv_log2 rounding_magic)) × T (le (mul_add exp_overflow inv_log2 rounding_magic) last)
    × T (le (fin false 1 (pos 23)) first) × T (le last (fin false 16777215 (pos 0)))
unfolding of_bits add mul le
ends = (tt, tt, tt, tt, tt, tt)

quotient_mono : (x y : Float) → T (finite x) → T (finite y) → T (finite (mul binary32 x inv_log2)) → T (finite (mul binary32 y inv_log2))
    → T (le x y) → T (le (mul_add x inv_log2 rounding_magic) (mul_add y inv_log2 rounding_magic))
unfolding of_bits
quotient_mono x y p q a b h =
    add_mono binary32 (mul binary32 x inv_log2) (mul binary32 y inv_log2) rounding_magic rounding_magic a b constants.1 constants.1
    (mul_mono_r binary32 x y inv_log2 p q constants.0 constants.2 h) (le_refl_f rounding_magic (finite_number rounding_magic constants.1))

-- and so does the rest
pub rest_mono : (j l h x : Float) → T (finite (mul binary32 j log2_hi)) → T (finite (mul binary32 j log2_lo)) → T (finite l) → T (finite h)
    → T (finite (mul_add j log2_hi l)) → T (finite (mul_add j log2_hi h)) → Between l h x → Between (rest_of l j) (rest_of h j) (rest_of x j)
rest_mono j l h x P Q L H u v k =
    let p = mul binary32 j log2_hi in
    let q = mul binary32 j log2_lo in
    let p' = le_refl_f p (finite_number p P) in
    let q' = le_refl_f q (finite_number q Q) in
    let m = add_between p p l h p x P P L H (p', p') k in
    add_between q q (add binary32 p l) (add binary32 p h) q (add binary32 p x) Q Q u v (q', q') m

module _ (x : Float) (b : Between exp_underflow exp_overflow x) where
  x_finite : T (finite x)
  x_finite = finite_between exp_underflow x exp_overflow constants.3 constants.4 b.0 b.1

  product_finite : T (finite (mul binary32 x inv_log2))
  unfolding of_bits
  product_finite =
      finite_between (mul binary32 exp_underflow inv_log2) (mul binary32 x inv_log2) (mul binary32 exp_overflow inv_log2) ends.0 ends.1
      (mul_mono_r binary32 exp_underflow x inv_log2 constants.3 x_finite constants.0 constants.2 b.0)
      (mul_mono_r binary32 x exp_overflow inv_log2 x_finite constants.4 constants.0 constants.2 b.1)

  -- the cell
  pub cell_of : (i : ℕ) × (i < 303) × (mul_add x inv_log2 rounding_magic ≡ quotient i)
  cell_of =
      let u = mul_add x inv_log2 rounding_magic in
      let F = add-fits binary32 (mul binary32 x inv_log2) rounding_magic in
      let from = le_trans_f first (mul_add exp_underflow inv_log2 rounding_magic) u ends.2
      (quotient_mono exp_underflow x constants.3 x_finite ends.0 product_finite b.0) in
      let to = le_trans_f u (mul_add exp_overflow inv_log2 rounding_magic) last
      (quotient_mono x exp_overflow x_finite constants.4 product_finite ends.1 b.1) ends.3 in
      let o = on_line u F (le_trans_f (fin false 1 (pos 23)) first u ends.4 from) (le_trans_f u last (fin false 16777215 (pos 0)) to ends.5) in
      let w = o.at in
      let c = in_cells u w o.is from to in
      let e : u ≡ round binary32 false w 1 =
      whole_unique binary32 u (round binary32 false w 1) false w F (round-fits binary32 false w 1) o.is
      (round_whole binary32 false w (le_trans c.1 (lit≤ tt))) in
      (w - 12582761, few w c.1, e ∙ ap (λ (k : ℕ). round binary32 false k 1) (sym (back w c.0)))
    where
      few : (w : ℕ) → w ≤ 12583063 → w - 12582761 < 303
      few w h = omega arith

      back : (w : ℕ) → 12582761 ≤ w → 12582761 + (w - 12582761) ≡ w
      back w h = omega arith

  -- x lies between the ends of its cell
  pub above_lo : (i : ℕ) → Cell i → mul_add x inv_log2 rounding_magic ≡ quotient i → T (le (lo i) x)
  above_lo i c e = elim (le_total (lo i) x (finite_number (lo i) c.lo_finite) (finite_number x x_finite)) [
    | inl h ↦ h
    | inr h ↦ absurd (T_not (le (quotient i) (mul_add (lo i) inv_log2 rounding_magic)) c.below
        (subst (λ (w : Float). T (le w (mul_add (lo i) inv_log2 rounding_magic))) e
        (quotient_mono x (lo i) x_finite c.lo_finite product_finite c.lo_product h)))
  ]

  pub below_hi : (i : ℕ) → Cell i → mul_add x inv_log2 rounding_magic ≡ quotient i → T (le x (hi i))
  below_hi i c e = elim (le_total x (hi i) (finite_number x x_finite) (finite_number (hi i) c.hi_finite)) [
    | inl h ↦ h
    | inr h ↦ absurd (T_not (le (mul_add (hi i) inv_log2 rounding_magic) (quotient i)) c.above
        (subst (λ (w : Float). T (le (mul_add (hi i) inv_log2 rounding_magic) w)) e
        (quotient_mono (hi i) x c.hi_finite x_finite c.hi_product product_finite h)))
  ]

  -- so its rest lies between those of the ends
  pub rest_between : (i : ℕ) → Cell i → Between (lo i) (hi i) x → Between rest_low rest_high (rest_of x (steps i))
  rest_between i c k =
      let j = steps i in
      between_wider rest_low (rest_of (lo i) j) (rest_of (hi i) j) rest_high (rest_of x j) c.rest_from c.rest_to
      (rest_mono j (lo i) (hi i) x c.hi_step c.lo_step c.lo_finite c.hi_finite c.lo_rest c.hi_rest k)
