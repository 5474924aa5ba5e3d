-- `le` and `lt` order all floats that are no NaN, infinities included, and a NaN is in no relation. Assumes nothing.
-- A name ends in -f where the numbers have a law of that name.
use Rattle.std.proofs.Common.{◌≡◌, ℕ, ◌+◌, ◌*◌, ◌<◌, ◌≤◌, Bool, true, false, not, ◌||◌, T, ltb, ◌⊎◌, ℤ, pos, sym, refl, ap, subst, inl, inr, add-zero, le_of_lt, add_comm, zero-add, zero-mul, arith, ltb→lt, nltb→le, T_not}
use lib.Dec.{not_T, leb-suc-zero}
use lib.Ieee.{Float, nan, inf, fin, Format, up, down, lt, eq, le, fits, is_nan}
use lib.Ieee.Fits.{down_pos}
use lib.Ieee.Scale.{finite}
use Rattle.floats.specs.Fraction.{Frac, frac, ◌⊑◌}
use Rattle.floats.proofs.Sign.{finite_number}
use Rattle.floats.proofs.Signed.{by_pos, ⊑_trans, AtMost, minus_inf, plus_inf, both_finite, le→at_most, at_most→le, le→⊑, ⊑→le}
use Rattle.floats.proofs.Numbers.{less_or, zero_factor}
use Rattle.floats.proofs.Exact.{value_unique, zero_unique}

-- ---- a NaN is in no relation
numbers : {x y : Float} → AtMost x y → T (not (is_nan x)) × T (not (is_nan y))
unfolding is_nan
numbers (minus_inf h) = (tt, h)
numbers (plus_inf h) = (h, tt)
numbers (both_finite x y p q h) = (finite_number x p, finite_number y q)

-- what is in a relation is no NaN
pub le_numbers : (x y : Float) → T (le x y) → T (not (is_nan x)) × T (not (is_nan y))
le_numbers x y h = numbers (le→at_most x y h)

pub lt→le : (x y : Float) → T (lt x y) → T (le x y)
unfolding le
lt→le x y h = or_l (lt x y) h
  where
    or_l : (a : Bool) → T a → T (a || eq x y)
    or_l true t = tt
    or_l false t = absurd t

pub lt_numbers : (x y : Float) → T (lt x y) → T (not (is_nan x)) × T (not (is_nan y))
lt_numbers x y h = le_numbers x y (lt→le x y h)

-- ---- the order
-- q is at most r where side q r is at most side r q
abbrev side : Frac → Frac → ℕ
side q r = q.over * r.by + r.under * q.by

chain : {x y z : Float} → AtMost x y → AtMost y z → AtMost x z
chain (minus_inf h) k = minus_inf (numbers k).1
chain (plus_inf h) (plus_inf k) = plus_inf h
chain (plus_inf h) (both_finite y z p q k) = absurd p
chain (both_finite x y p q h) (minus_inf k) = absurd q
chain (both_finite x y p q h) (plus_inf k) = plus_inf (finite_number x p)
chain (both_finite x y p q h) (both_finite y' z p' q' k) = both_finite x z p q' (⊑_trans (frac x) (frac y) (frac z) (by_pos y) h k)

pub le_trans_f : (x y z : Float) → T (le x y) → T (le y z) → T (le x z)
le_trans_f x y z h k = at_most→le (chain (le→at_most x y h) (le→at_most y z k))

pub le_refl_f : (x : Float) → T (not (is_nan x)) → T (le x x)
unfolding is_nan
le_refl_f nan h = absurd h
le_refl_f (inf true) h = at_most→le (minus_inf h)
le_refl_f (inf false) h = at_most→le (plus_inf h)
le_refl_f (fin s m e) h = ⊑→le (fin s m e) (fin s m e) tt tt (omega arith)

pub le_total : (x y : Float) → T (not (is_nan x)) → T (not (is_nan y)) → T (le x y) ⊎ T (le y x)
unfolding is_nan
le_total nan y p q = absurd p
le_total (inf true) y p q = inl (at_most→le (minus_inf q))
le_total (inf false) y p q = inr (at_most→le (plus_inf q))
le_total (fin s m e) nan p q = absurd q
le_total (fin s m e) (inf true) p q = inr (at_most→le (minus_inf p))
le_total (fin s m e) (inf false) p q = inl (at_most→le (plus_inf p))
le_total (fin s m e) (fin t n d) p q =
    let x = fin s m e in
    let y = fin t n d in
    elim (less_or (side (frac x) (frac y)) (side (frac y) (frac x))) [
      | inl h ↦ inl (⊑→le x y tt tt (le_of_lt h))
      | inr h ↦ inr (⊑→le y x tt tt h)
    ]

-- what lies between two finite values is finite
pub finite_between : (lo z hi : Float) → T (finite lo) → T (finite hi) → T (le lo z) → T (le z hi) → T (finite z)
finite_between lo z hi p q h k = go (le→at_most lo z h) (le→at_most z hi k) p q
  where
    go : {lo z hi : Float} → AtMost lo z → AtMost z hi → T (finite lo) → T (finite hi) → T (finite z)
    go (minus_inf h) k p q = absurd p
    go (plus_inf h) (plus_inf k) p q = absurd q
    go (plus_inf h) (both_finite z hi p' q' k) p q = p'
    go (both_finite lo z p' q' h) k p q = q'

-- ---- up to the two zeros, values of a format that are each at most the other are the same
-- x is a zero, and y is the zero of the other sign
abbrev pub Zeros : Float → Float → Type 0
Zeros x y = (s : Bool) × ((x ≡ fin s 0 (pos 0)) × (y ≡ fin (not s) 0 (pos 0)))

same_sign : (f : Format) (s : Bool) (m : ℕ) (e : ℤ) (n : ℕ) (d : ℤ) → T (fits f (fin s m e)) → T (fits f (fin s n d))
    → m * up e * down d ≡ n * up d * down e → fin s m e ≡ fin s n d
same_sign f s m e n d F G h = value_unique f (fin s m e) (fin s n d) s (n * up d) (down d) (down_pos d) F G (refl, h) (refl, refl)

other_sign : (f : Format) (s : Bool) (m : ℕ) (e : ℤ) (n : ℕ) (d : ℤ) → T (fits f (fin s m e)) → T (fits f (fin (not s) n d))
    → m * up e * down d + n * up d * down e ≤ 0 → Zeros (fin s m e) (fin (not s) n d)
other_sign f s m e n d F G h =
    let a = zero_factor (m * up e) (down d) (down_pos d) (omega arith) in
    let b = zero_factor (n * up d) (down e) (down_pos e) (omega arith) in
    (s, (zero_unique f s m e F a, zero_unique f (not s) n d G b))

fin_antisym : (f : Format) (s : Bool) (m : ℕ) (e : ℤ) (t : Bool) (n : ℕ) (d : ℤ) → T (fits f (fin s m e)) → T (fits f (fin t n d))
    → frac (fin s m e) ⊑ frac (fin t n d) → frac (fin t n d) ⊑ frac (fin s m e)
    → (fin s m e ≡ fin t n d) ⊎ Zeros (fin s m e) (fin t n d)
fin_antisym f false m e false n d F G h k =
    let a = simp zero-mul at h in
    let b = simp zero-mul at k in
    inl (same_sign f false m e n d F G (omega arith))
fin_antisym f true m e true n d F G h k =
    let a = simp zero-mul at h in
    let b = simp zero-mul at k in
    inl (same_sign f true m e n d F G (omega arith))
fin_antisym f false m e true n d F G h k = let a = simp zero-mul at h in inr (other_sign f false m e n d F G (omega arith))
fin_antisym f true m e false n d F G h k = let a = simp zero-mul at k in inr (other_sign f true m e n d F G (omega arith))

pub le_antisym : (f : Format) (x y : Float) → T (fits f x) → T (fits f y) → T (le x y) → T (le y x) → (x ≡ y) ⊎ Zeros x y
le_antisym f x y F G h k = go (le→at_most x y h) (le→at_most y x k) F G
  where
    go : {x y : Float} → AtMost x y → AtMost y x → T (fits f x) → T (fits f y) → (x ≡ y) ⊎ Zeros x y
    go (minus_inf h) (minus_inf k) F G = inl refl
    go (minus_inf h) (both_finite y x p q k) F G = absurd q
    go (plus_inf h) (plus_inf k) F G = inl refl
    go (plus_inf h) (both_finite y x p q k) F G = absurd p
    go (both_finite x y p q h) (minus_inf k) F G = absurd q
    go (both_finite x y p q h) (plus_inf k) F G = absurd p
    go (both_finite nan y p q h) (both_finite y' x' p' q' k) F G = absurd p
    go (both_finite (inf s) y p q h) (both_finite y' x' p' q' k) F G = absurd p
    go (both_finite (fin s m e) nan p q h) (both_finite y' x' p' q' k) F G = absurd q
    go (both_finite (fin s m e) (inf t) p q h) (both_finite y' x' p' q' k) F G = absurd q
    go (both_finite (fin s m e) (fin t n d) p q h) (both_finite y' x' p' q' k) F G = fin_antisym f s m e t n d F G h k

-- ---- `lt` is the failed test of `le`, the other way round
fin_lt : (s : Bool) (m : ℕ) (e : ℤ) (t : Bool) (n : ℕ) (d : ℤ)
    → lt (fin s m e) (fin t n d) ≡ ltb (side (frac (fin s m e)) (frac (fin t n d))) (side (frac (fin t n d)) (frac (fin s m e)))
unfolding lt
fin_lt false m e false n d = simp (zero-mul, add-zero)
fin_lt true m e true n d = simp (zero-mul, zero-add)
fin_lt true m e false n d = simp zero-mul (ap (ltb 0) (add_comm (m * up e * down d) (n * up d * down e)))
fin_lt false m e true n d = simp (zero-mul, add-zero) (sym (leb-suc-zero (m * up e * down d + n * up d * down e)))

opposite : (b c : Bool) → (T b → T c → ⊥) → (T (not b) → T c) → b ≡ not c
opposite true true h k = absurd (h tt tt)
opposite true false h k = refl
opposite false true h k = refl
opposite false false h k = absurd (k tt)

fin_lt_is : (s : Bool) (m : ℕ) (e : ℤ) (t : Bool) (n : ℕ) (d : ℤ) → lt (fin s m e) (fin t n d) ≡ not (le (fin t n d) (fin s m e))
fin_lt_is s m e t n d =
    let x = fin s m e in
    let y = fin t n d in
    let L = side (frac x) (frac y) in
    let R = side (frac y) (frac x) in
    opposite (lt x y) (le y x)
    (λ (l : T (lt x y)). λ (k : T (le y x)). clash L R (ltb→lt L R (subst T (fin_lt s m e t n d) l)) (le→⊑ y x tt tt k))
    (λ (l : T (not (lt x y))). ⊑→le y x tt tt (nltb→le L R (subst (λ (b : Bool). T (not b)) (fin_lt s m e t n d) l)))
  where
    clash : (a b : ℕ) → a < b → b ≤ a → ⊥
    clash a b h k = omega arith

pub lt_is_nle : (x y : Float) → T (not (is_nan x)) → T (not (is_nan y)) → lt x y ≡ not (le y x)
unfolding is_nan lt le
lt_is_nle nan y p q = absurd p
lt_is_nle (inf s) nan p q = absurd q
lt_is_nle (inf true) (inf true) p q = refl
lt_is_nle (inf true) (inf false) p q = refl
lt_is_nle (inf false) (inf true) p q = refl
lt_is_nle (inf false) (inf false) p q = refl
lt_is_nle (inf true) (fin t n d) p q = refl
lt_is_nle (inf false) (fin t n d) p q = refl
lt_is_nle (fin s m e) nan p q = absurd q
lt_is_nle (fin s m e) (inf true) p q = refl
lt_is_nle (fin s m e) (inf false) p q = refl
lt_is_nle (fin s m e) (fin t n d) p q = fin_lt_is s m e t n d

pub lt→nle : (x y : Float) → T (lt x y) → T (not (le y x))
lt→nle x y h = let n = lt_numbers x y h in rw (lt_is_nle x y n.0 n.1) at h

pub nle→lt : (x y : Float) → T (not (is_nan x)) → T (not (is_nan y)) → T (not (le x y)) → T (lt y x)
nle→lt x y p q h = rw (lt_is_nle y x q p) h

pub nlt→le : (x y : Float) → T (not (is_nan x)) → T (not (is_nan y)) → T (not (lt x y)) → T (le y x)
nlt→le x y p q h = twice (le y x) (rw (lt_is_nle x y p q) at h)
  where
    twice : (b : Bool) → T (not (not b)) → T b
    twice true t = tt
    twice false t = t

pub lt_irrefl_f : (x : Float) → T (lt x x) → ⊥
lt_irrefl_f x h = T_not (le x x) (lt→nle x x h) (lt→le x x h)

pub lt_le_trans : (x y z : Float) → T (lt x y) → T (le y z) → T (lt x z)
lt_le_trans x y z h k =
    nle→lt z x (le_numbers y z k).1 (lt_numbers x y h).0
    (not_T (le z x) (λ (l : T (le z x)). T_not (le y x) (lt→nle x y h) (le_trans_f y z x k l)))

pub le_lt_trans : (x y z : Float) → T (le x y) → T (lt y z) → T (lt x z)
le_lt_trans x y z h k =
    nle→lt z x (lt_numbers y z k).1 (le_numbers x y h).0
    (not_T (le z x) (λ (l : T (le z x)). T_not (le z y) (lt→nle y z k) (le_trans_f z x y l h)))

-- values that are each at most the other are equal as numbers
pub le_both : (x y : Float) → T (le x y) → T (le y x) → T (eq x y)
unfolding le
le_both x y h k = go (lt x y) refl h
  where
    go : (b : Bool) → lt x y ≡ b → T (b || eq x y) → T (eq x y)
    go true e t = absurd (T_not (le y x) (lt→nle x y (subst T (sym e) tt)) k)
    go false e t = t

-- ---- a failed test of two numbers, as a program has it
pub not_le : (x y : Float) → T (not (is_nan x)) → T (not (is_nan y)) → le x y ≡ false → T (le y x)
not_le x y p q h = lt→le y x (nle→lt x y p q (subst (λ b. T (not b)) (sym h) tt))

pub not_lt : (x y : Float) → T (not (is_nan x)) → T (not (is_nan y)) → lt x y ≡ false → T (le y x)
not_lt x y p q h = nlt→le x y p q (subst (λ b. T (not b)) (sym h) tt)

-- and a test that holds, against the other
pub le_not_lt : (x y : Float) → le x y ≡ true → lt y x ≡ false
le_not_lt x y h = go (lt y x) refl
  where
    go : (b : Bool) → lt y x ≡ b → b ≡ false
    go false e = refl
    go true e = absurd (T_not (le x y) (lt→nle y x (subst T (sym e) tt)) (subst T (sym h) tt))
