-- Exp and ReducedRangeExp past their tests: the scaled polynomial, by the cell of x. Assumes nothing.
use mathlib.Core.Path.{◌≡◌, sym, subst}
use Prim.Native.Nat.{ℕ}
use mathlib.Core.Bool.{Bool, true, false, not}
use lib.Dec.{T, eqb, eqb→eq, lit<}
use lib.Ieee.{Float, binary32, round, add, sub, mul, lt, le, of_bits, to_signed}
use lib.Ieee.Scale.{finite}
use Rattle.consts.specs.Consts.{inv_log2, rounding_magic, log2_hi, exp_overflow, exp_underflow, exp_lower_cutoff}
use Rattle.exp.specs.Exp.{j_of, rest_of, poly_of, scale_of}
use Rattle.floats.specs.Values.{zero_f, one_f, thirty_two_f}
use Rattle.floats.specs.Floats.{mul_add}
use Rattle.floats.specs.Words.{trunc_word}
use Rattle.floats.proofs.Order.{le_trans_f}
use Rattle.floats.specs.Between.{Between}
use Rattle.floats.proofs.Between.{scaled_between, between_wider}
use Rattle.exp_facts.proofs.Poly.{rest_low, poly_top, poly_between, poly_at_most_1}
use Rattle.exp_facts.proofs.Cells.{quotient, steps, lo, hi, factor1, factor2, factor, top, Cell, cell}
use Rattle.exp_facts.proofs.Rest.{rest_mono, cell_of, above_lo, below_hi, rest_between}
use Rattle.exp_facts.specs.ExpFacts.{large, ExpRange}

-- from j on
abbrev pub exp_from : Float → Float → Float
exp_from x j = scale_of (poly_of (rest_of x j)) (trunc_word j)

abbrev pub reduced_from : Float → Float → Float
reduced_from x j = mul binary32 (poly_of (rest_of x j)) (factor j)

-- in the cell of 0: the rest of 0, and 1 scaled
at_zero : T (finite (mul_add (steps 151) log2_hi zero_f)) × T (le (rest_of zero_f (steps 151)) zero_f)
    × T (finite (mul binary32 one_f (factor1 (steps 151))))
    × T (le (mul binary32 (mul binary32 one_f (factor1 (steps 151))) (factor2 (steps 151))) one_f)
    × T (finite (factor (steps 151))) × T (le zero_f (factor (steps 151))) × T (le (mul binary32 one_f (factor (steps 151))) one_f)
unfolding round add sub mul lt le of_bits to_signed
at_zero = (tt, tt, tt, tt, tt, tt, tt)

-- what holds in the cell of 0, and in every other
each_cell : (Q : ℕ → Type 0) → Q 151 → (i : ℕ) → (T (not (eqb i 151)) → Q i) → Q i
each_cell Q here i there = go (eqb i 151) (eqb→eq i 151) there
  where
    go : (t : Bool) → (T t → i ≡ 151) → (T (not t) → Q i) → Q i
    go true k h = subst Q (sym (k tt)) here
    go false k h = h tt

module _ (x : Float) (b : Between exp_underflow exp_overflow x) where
  abbrev In : ℕ → Type 0
  In i = mul_add x inv_log2 rounding_magic ≡ quotient i

  ends : (i : ℕ) → Cell i → In i → Between (lo i) (hi i) x
  ends i c e = (above_lo x b i c e, below_hi x b i c e)

  -- the polynomial up to P, times the two factors
  scaled : (i : ℕ) → Cell i → (P : Float) → T (finite P) → T (finite (mul binary32 P (factor1 (steps i))))
      → Between zero_f P (poly_of (rest_of x (steps i)))
      → Between zero_f (mul binary32 (mul binary32 P (factor1 (steps i))) (factor2 (steps i))) (exp_from x (steps i))
  scaled i c P F G k =
      let p = poly_of (rest_of x (steps i)) in
      let s = factor1 (steps i) in
      scaled_between (mul binary32 p s) (mul binary32 P s) (factor2 (steps i)) G c.factor2_finite c.factor2_from
      (scaled_between p P s F c.factor1_finite c.factor1_from k)

  in_cell : (i : ℕ) → Cell i → In i → Between zero_f (top i) (exp_from x (steps i))
  in_cell i c e = scaled i c poly_top tt c.product_finite (poly_between (rest_of x (steps i)) (rest_between x b i c (ends i c e)))

  -- the cell of 0, for x at most 0
  zero_poly : T (le x zero_f) → In 151 → Between zero_f one_f (poly_of (rest_of x (steps 151)))
  unfolding of_bits
  zero_poly N e =
      let c = cell 151 (lit< tt) in
      let j = steps 151 in
      poly_at_most_1 (rest_of x j)
      (between_wider rest_low (rest_of (lo 151) j) (rest_of zero_f j) zero_f (rest_of x j) c.rest_from at_zero.1
      (rest_mono j (lo 151) zero_f x c.hi_step c.lo_step c.lo_finite tt c.lo_rest at_zero.0 (above_lo x b 151 c e, N)))

  at_most_1 : T (le x zero_f) → (i : ℕ) → Cell i → In i → T (le (exp_from x (steps i)) one_f)
  unfolding of_bits
  at_most_1 N i c = each_cell (λ n. In n → T (le (exp_from x (steps n)) one_f)) here i there
    where
      here : In 151 → T (le (exp_from x (steps 151)) one_f)
      here e =
          let s = scaled 151 (cell 151 (lit< tt)) one_f tt at_zero.2 (zero_poly N e) in
          le_trans_f (exp_from x (steps 151)) (mul binary32 (mul binary32 one_f (factor1 (steps 151))) (factor2 (steps 151))) one_f s.1 at_zero.3

      there : T (not (eqb i 151)) → In i → T (le (exp_from x (steps i)) one_f)
      there n e = le_trans_f (exp_from x (steps i)) (top i) one_f (in_cell i c e).1 (c.to_0 (le_trans_f (lo i) x zero_f (above_lo x b i c e) N) n)

  pub exp_inside : ExpRange x (exp_from x (j_of x))
  exp_inside =
      let k = cell_of x b in
      subst (λ (u : Float). ExpRange x (exp_from x (sub binary32 u rounding_magic))) (sym k.2) (range k.0 (cell k.0 k.1) k.2)
    where
      range : (i : ℕ) → Cell i → In i → ExpRange x (exp_from x (steps i))
      range i c e =
          let r = in_cell i c e in
          record {
            from = r.0;
            to_32 = λ g. le_trans_f (exp_from x (steps i)) (top i) large r.1 (c.to_32 (le_trans_f (lo i) x thirty_two_f (above_lo x b i c e) g));
            to_0 = λ g. at_most_1 g i c e;
          }

  -- ---- ReducedRangeExp
  module _ (C : T (le exp_lower_cutoff x)) (N : T (le x zero_f)) where
    reduced_in_cell : (i : ℕ) → Cell i → In i → Between zero_f one_f (reduced_from x (steps i))
    unfolding of_bits
    reduced_in_cell i c = each_cell (λ n. In n → Between zero_f one_f (reduced_from x (steps n))) here i there
      where
        here : In 151 → Between zero_f one_f (reduced_from x (steps 151))
        here e =
            let p = poly_of (rest_of x (steps 151)) in
            let m = scaled_between p one_f (factor (steps 151)) tt at_zero.4 at_zero.5 (zero_poly N e) in
            (m.0, le_trans_f (reduced_from x (steps 151)) (mul binary32 one_f (factor (steps 151))) one_f m.1 at_zero.6)

        there : T (not (eqb i 151)) → In i → Between zero_f one_f (reduced_from x (steps i))
        there n e =
            let k = ends i c e in
            let j = steps i in
            let f = c.reduced (le_trans_f exp_lower_cutoff x (hi i) C k.1) (le_trans_f (lo i) x zero_f k.0 N) in
            let m = scaled_between (poly_of (rest_of x j)) poly_top (factor j) tt f.factor_finite f.factor_from
            (poly_between (rest_of x j) (rest_between x b i c k)) in
            (m.0, le_trans_f (reduced_from x j) (mul binary32 poly_top (factor j)) one_f m.1 (f.to_1 n))

    pub reduced_inside : Between zero_f one_f (reduced_from x (j_of x))
    reduced_inside =
        let k = cell_of x b in
        subst (λ (u : Float). Between zero_f one_f (reduced_from x (sub binary32 u rounding_magic))) (sym k.2)
        (reduced_in_cell k.0 (cell k.0 k.1) k.2)
