-- The ordered sum of n values that are not below 0, in units: off from the exact one by at most n - 1 times 2 ^ -prec of itself. +0 plus the first
-- is exact, and each sum after it is at most the last. Assumes nothing.
use Rattle.std.proofs.Common.{◌≡◌, ℕ, suc, ◌+◌, ◌-◌, ◌*◌, ◌^◌, ◌<◌, ◌≤◌, true, T, List, [], ◌∷◌, length, sym, refl, ap, ◌∙◌, subst, le_refl, add-zero, lt_irrefl, suc-mul, add-mul, mul-le-mul_left, zero-add, zero-mul, mul-one, arith}
use mathlib.Core.List.{foldl}
use lib.Ieee.{Float, nan, Format, prec, low, add, fits, of_bits}
use lib.Ieee.Bits.{is_true}
use lib.Ieee.Fits.{add-fits}
use lib.Ieee.Scale.{finite, grid}
use Rattle.lists.specs.Lists.{sum_to}
use Rattle.lists.proofs.Fold.{fold_shows}
use Rattle.floats.specs.Each.{Each}
use Rattle.floats.specs.Units.{InUnits, units_of, units_in}
use Rattle.floats.specs.Values.{zero_f}
use Rattle.floats.proofs.Each.{each_first, each_rest}
use Rattle.floats.proofs.Error.{Within, Err}
use Rattle.floats.proofs.Finite.{add_finite}
use Rattle.floats.proofs.Units.{units_of_law, units_more, units_mono, grid_self, add_units, add_off, add_grows}

module _ (f : Format) where
  abbrev units : Float → ℕ
  units x = units_of (low f) x

  -- a term: the format holds it, and it is not below 0
  abbrev pub Term : Float → Type 0
  Term x = T (fits f x) × InUnits (low f) x (units x)

  -- z is a term, off from t units by at most j times 2 ^ -prec of itself
  abbrev pub Close : ℕ → Float → ℕ → Type 0
  Close j z t = Term z × Err f (units z) t 1 (j * units z)

  -- a finite sum began with a finite one
  fold_finite : (es : List Float) (s : Float) → T (finite (foldl (add f) s es)) → T (finite s)
  fold_finite es s h =
      let shown = fold_shows (add f) (λ b. finite b ≡ true) (λ x. finite x ≡ true) (add_finite f) nan es s (is_true _ h) in
      subst T (sym shown.0) tt

  -- one term more
  more : (j : ℕ) (s e : Float) (t : ℕ) → Close j s t → Term e → T (finite (add f s e)) → Close (suc j) (add f s e) (t + units e)
  more j s e t (S, E) (F, U) h =
      let o = add_off f s e (units s) (units e) S.1 U h in
      let l = units_mono (low f) s (add f s e) (units s) (units (add f s e)) S.1 o.units (add_grows f s e (units s) (units e) S.1 U S.0) in
      ((add-fits f s e, o.units), put (2 ^ prec f) (units s) (units e) (units (add f s e)) l E o.error)
    where
      put : (P a b g : ℕ) → a ≤ g → Within P (a * 1) t (j * a) → Within P (g * 1) (a + b) g → Within P (g * 1) (t + b) (suc j * g)
      put P a b g l (h0, h1) (k0, k1) =
          let m = mul-le-mul_left j l in
          let h2 = simp mul-one at h0 in
          let h3 = simp mul-one at h1 in
          let k2 = simp (mul-one, add-mul) at k0 in
          let k3 = simp (mul-one, add-mul) at k1 in
          simp (mul-one, add-mul, suc-mul) (omega arith, omega arith)

  from : (es : List Float) (j : ℕ) (s : Float) (t : ℕ) → Close j s t → Each Term es → T (finite (foldl (add f) s es))
      → Close (j + length es) (foldl (add f) s es) (t + units_in (low f) es)
  unfolding sum_to
  from [] j s t c ts h = rw (add-zero j, add-zero t) c
  from (e ∷ es) j s t c ts h =
      let r = from es (suc j) (add f s e) (t + units e) (more j s e t c (each_first Term e es ts) (fold_finite es (add f s e) h)) (each_rest Term e es ts) h in
      let same : t + units e + units_in (low f) es ≡ t + units_in (low f) (e ∷ es) = rw (units_more (low f) e es) (omega arith) in
      let count : suc j + length es ≡ j + suc (length es) = omega arith in
      subst (λ m. Close m (foldl (add f) s (e ∷ es)) (t + units_in (low f) (e ∷ es))) count
      (subst (λ m. Close (suc j + length es) (foldl (add f) s (e ∷ es)) m) same r)

  -- +0 plus the first
  first : (e : Float) → Term e → T (finite (add f zero_f e)) → Close 0 (add f zero_f e) (units e)
  unfolding of_bits
  first e (F, U) h =
      let s = add f zero_f e in
      let z : InUnits (low f) zero_f 0 = record { is_finite = tt; not_below = refl; counted = zero-mul (2 ^ low f) } in
      let n = units_of_law (low f) s (grid f (0 + units e) (2 ^ low f)) (add_units f zero_f e 0 (units e) z U h) in
      let same : units s ≡ units e = n ∙ ap (λ m. grid f m (2 ^ low f)) (zero-add (units e)) ∙ grid_self f e (units e) F U in
      ((add-fits f zero_f e, (add_off f zero_f e 0 (units e) z U h).units), rw same (simp (mul-one, zero-mul, add-zero) (le_refl _, le_refl _)))

  pub ordered_sum : (es : List Float) → 0 < length es → Each Term es → T (finite (foldl (add f) zero_f es))
      → Close (length es - 1) (foldl (add f) zero_f es) (units_in (low f) es)
  ordered_sum [] l ts h = absurd (lt_irrefl 0 l)
  ordered_sum (e ∷ es) l ts h =
      let c = first e (each_first Term e es ts) (fold_finite es (add f zero_f e) h) in
      let r = from es 0 (add f zero_f e) (units e) c (each_rest Term e es ts) h in
      let count : 0 + length es ≡ suc (length es) - 1 = omega arith in
      rw (units_more (low f) e es) (subst (λ m. Close m (foldl (add f) zero_f (e ∷ es)) (units e + units_in (low f) es)) count r)
