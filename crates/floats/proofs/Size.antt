-- |x| is the larger of x and 0 - x: nothing is lost, and of the two zeros it is +0. Its square, and what it reaches. Assumes nothing.
use Rattle.std.proofs.Common.{◌≡◌, ℕ, ◌+◌, ◌*◌, ◌<◌, Bool, true, false, ◌&&◌, ◌||◌, T, eqb, ltb, ℤ, sym, refl, ap, ◌∙◌, subst, inl, inr, true≢false, eq-zero-or-pos, mul-pos, one-mul, zero-add, zero-mul, mul-one, arith, lt-ltb, eq-eqb, ne_eqb, eqb-true}
use mathlib.Core.Bool.{or-false, false≢true}
use native.Mathlib.Nat.{sub-zero}
use lib.Ieee.{Float, nan, inf, fin, Format, up, down, sum, sub, mul, lt, eq, le, fits, of_bits}
use lib.Ieee.Fits.{down_pos}
use borrow.Author.Tests.{eqb-false}
use Rattle.floats.specs.Floats.{abs_of}
use Rattle.floats.proofs.Exact.{round_self, zero_unique, sub_self_f}
use Rattle.floats.proofs.Pattern.{fits_sign}
use Rattle.floats.specs.Values.{zero_f}

-- 0 - x for an x with a minus sign is its size
less_minus : (f : Format) (m : ℕ) (e : ℤ) → T (fits f (fin true m e)) → sub f zero_f (fin true m e) ≡ fin false m e
unfolding sub sum of_bits
less_minus f m e F = simp (zero-mul, zero-add, mul-one, one-mul) (round_self f false m e (fits_sign f true false m e F))

-- for one with a plus sign it is -x, but for +0, which it is itself
plus_zero : (f : Format) (m : ℕ) (e : ℤ) → T (fits f (fin false m e)) → m * up e ≡ 0 → sub f zero_f (fin false m e) ≡ fin false m e
unfolding of_bits
plus_zero f m e F z = subst (λ (x : Float). sub f zero_f x ≡ x) (sym (zero_unique f false m e F z)) (sub_self_f f zero_f tt)

plus_above : (f : Format) (m : ℕ) (e : ℤ) → T (fits f (fin false m e)) → 0 < m * up e → sub f zero_f (fin false m e) ≡ fin true m e
unfolding sub sum of_bits
plus_above f m e F p = simp (zero-mul, one-mul, mul-one, sub-zero, lt-ltb 0 (m * up e) p) (round_self f true m e (fits_sign f false true m e F))

-- -x is below x
above_its_minus : (m : ℕ) (e : ℤ) → 0 < m * up e → lt (fin true m e) (fin false m e) ≡ true
unfolding lt
above_its_minus m e p =
    let q = mul-pos p (down_pos e) in
    lt-ltb 0 (m * up e * down e + m * up e * down e) (omega arith)

-- the two ends of `abs`
pub size_then : (f : Format) (x : Float) → T (fits f x) → lt (sub f zero_f x) x ≡ true → x ≡ abs_of x
unfolding sub lt of_bits
size_then f nan F h = refl
size_then f (inf true) F h = absurd (false≢true h)
size_then f (inf false) F h = refl
size_then f (fin false m e) F h = refl
size_then f (fin true m e) F h = absurd (false≢true (rw (less_minus f m e F) at h))

pub size_else : (f : Format) (x : Float) → T (fits f x) → lt (sub f zero_f x) x ≡ false → sub f zero_f x ≡ abs_of x
unfolding sub lt of_bits
size_else f nan F h = refl
size_else f (inf true) F h = refl
size_else f (inf false) F h = absurd (true≢false h)
size_else f (fin true m e) F h = less_minus f m e F
size_else f (fin false m e) F h =
    elim (eq-zero-or-pos (m * up e)) [
      | inl z ↦ plus_zero f m e F z
      | inr p ↦ absurd (true≢false (sym (above_its_minus m e p) ∙ (rw (plus_above f m e F p) at h)))
    ]

-- a square is that of the size
pub square_of_size : (f : Format) (x : Float) → mul f x x ≡ mul f (abs_of x) (abs_of x)
unfolding mul
square_of_size f nan = refl
square_of_size f (inf true) = refl
square_of_size f (inf false) = refl
square_of_size f (fin true m e) = refl
square_of_size f (fin false m e) = refl

eqb_turn : (a b : ℕ) → eqb a b ≡ eqb b a
eqb_turn a b = go (eqb b a) refl
  where
    go : (t : Bool) → eqb b a ≡ t → eqb a b ≡ t
    go true e = eq-eqb a b (sym (eqb-true b a e))
    go false e = ne_eqb a b (λ h. eqb-false b a e (sym h))

-- unlike signs are level at zero alone
not_level : (a b : ℕ) → 0 < a + b → eqb a b && eqb a 0 ≡ false
not_level a b p = go (eqb a b) refl
  where
    go : (t : Bool) → eqb a b ≡ t → t && eqb a 0 ≡ false
    go true e = ne_eqb a 0 (λ z. omega (arith, eqb-true a b e))
    go false e = refl

-- a size reaches a number above zero where x does, or where x is at most its minus
pub size_reaches : (n : ℕ) (d : ℤ) (x : Float) → 0 < n * up d → le (fin false n d) (abs_of x) ≡ le (fin false n d) x || le x (fin true n d)
unfolding le lt eq
size_reaches n d nan p = refl
size_reaches n d (inf true) p = refl
size_reaches n d (inf false) p = refl
size_reaches n d (fin false m e) p =
    let q = mul-pos p (down_pos e) in
    sym (ap (le (fin false n d) (fin false m e) ||◌) (not_level (m * up e * down d) (n * up d * down e) (omega arith)) ∙ or-false _)
size_reaches n d (fin true m e) p =
    let q = mul-pos p (down_pos e) in
    let a = n * up d * down e in
    let b = m * up e * down d in
    ap (λ t. ltb a b || (t && true)) (eqb_turn a b) ∙ sym (ap (◌|| (ltb a b || (eqb b a && true))) (not_level a b (omega arith)))
