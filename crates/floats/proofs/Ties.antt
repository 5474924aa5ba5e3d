-- `round_ties_even` by its parts, for any x: the size up to 2 ^ 23, its sign put back, and what lies past 2 ^ 23. Assumes nothing.
use Rattle.std.proofs.Common.{◌≡◌, ℕ, zero, suc, ◌+◌, ◌-◌, ◌*◌, ◌%◌, ◌^◌, ◌<◌, ◌≤◌, Bool, true, false, not, T, ◌⊎◌, ℤ, pos, negsuc, sym, refl, ap, ◌∙◌, subst, inl, inr, true≢false, add-zero, one-mul, lt_of_not-le, zero-mul, mul-one, arith, pow_mono}
use mathlib.Core.Bool.{false≢true}
use lib.Ieee.{Float, nan, inf, fin, binary32, up, down, round, neg, sub, lt, le, eq, fits, is_nan, nan_bits, of_bits, to_bits}
use lib.Ieee.Bits.{is_true, nan_bits_is, of_bits-to_bits}
use lib.Ieee.Exact.{HasValue}
use lib.Ieee.Fits.{neg-fits, round-fits}
use lib.Ieee.Nearest.{closest}
use Rattle.floats.specs.Floats.{abs_of, has_sign, round_even}
use Rattle.floats.specs.Values.{f32}
use Rattle.floats.proofs.Exact.{down_low}
use Rattle.floats.proofs.Halves.{Evens, no_sign, size_evens}
use Rattle.floats.proofs.Magnitude.{Below, between_below, below_between}
use Rattle.floats.proofs.Pattern.{fits_sign, sign_on, sign_off}
use Rattle.floats.proofs.Scaled.{even_fits}
use Rattle.floats.proofs.Sign.{round_neg, round_has, has_number}
use Rattle.floats.proofs.Signed.{le→⊑}
use Rattle.floats.proofs.Whole.{round_even_value, whole_stays}

-- 2 ^ 23, -2 ^ 23 and 3 * 2 ^ 22
abbrev top : Float
top = f32 0x4b00_0000

abbrev bottom : Float
bottom = neg top

abbrev magic : Float
magic = f32 0x4b40_0000

-- the test's answer as a fact
holds : {b : Bool} → b ≡ true → T b
holds e = subst T (sym e) tt

-- ---- any x from -2 ^ 23 to 2 ^ 23
pub below_top : (x : Float) → le x top ≡ true → le bottom x ≡ true → Below 23 x
unfolding of_bits neg
below_top x hi lo = between_below 23 x (holds lo) (holds hi)

-- its size lies there too
pub size_below : (x : Float) → Below 23 x → Below 23 (abs_of x)
size_below nan h = h
size_below (inf s) h = h
size_below (fin s m e) h = h

pub size_le : (x : Float) → Below 23 x → le (abs_of x) top ≡ true
unfolding of_bits
size_le x h = is_true (le (abs_of x) (fin false 1 (pos 23))) (below_between 23 (abs_of x) (size_below x h)).1

pub size_twice : (x : Float) → abs_of (abs_of x) ≡ abs_of x
size_twice nan = refl
size_twice (inf s) = refl
size_twice (fin s m e) = refl

-- ---- the size, rounded
pub plain_below : (x : Float) → abs_of x ≡ x → le x top ≡ true → Below 23 x
unfolding of_bits le lt eq
plain_below nan p h = absurd (false≢true h)
plain_below (inf true) p h = absurd (true≢false (ap (has_sign false) p))
plain_below (inf false) p h = absurd (false≢true h)
plain_below (fin true m e) p h = absurd (true≢false (ap (has_sign false) p))
plain_below (fin false m e) p h = omega (arith, simp (zero-mul, one-mul, mul-one) at (le→⊑ (fin false m e) (fin false 1 (pos 23)) tt tt (holds h)))

pub size_sums : (x : Float) → T (fits binary32 x) → abs_of x ≡ x → Below 23 x → Evens x (sub binary32 magic (sub binary32 magic x))
unfolding of_bits
size_sums nan F p h = absurd h
size_sums (inf s) F p h = absurd h
size_sums (fin true m e) F p h = absurd (true≢false (ap (has_sign false) p))
size_sums (fin false m e) F p h = size_evens m e F h

-- no NaN comes of it, nor of a pattern that stands for it
pub even_number : (x : Float) → Below 23 x → T (not (is_nan (round_even binary32 x)))
unfolding round_even
even_number nan h = absurd h
even_number (inf s) h = absurd h
even_number (fin s m e) h = has_number s (round binary32 s (closest (m * up e) (down e)) 1) (round_has binary32 s (closest (m * up e) (down e)) 1)

pub even_bits : (x : Float) (n : ℕ) → Below 23 x → of_bits binary32 n ≡ round_even binary32 x → T (not (nan_bits binary32 n))
even_bits x n h e = rw (nan_bits_is, e) (even_number x h)

-- ---- the sign
minus_bits : (r : Float) (a c : ℕ) → HasValue r false a c → to_bits binary32 r + 2 ^ 31 ≡ to_bits binary32 (neg r)
unfolding neg
minus_bits nan a c v = absurd v
minus_bits (inf s) a c v = absurd v
minus_bits (fin true m e) a c v = absurd (true≢false v.0)
minus_bits (fin false m e) a c v = omega (arith, sign_on m e)

pub size_bits : (x : Float) → T (fits binary32 x) → Below 23 x → to_bits binary32 (round_even binary32 (abs_of x)) < 2 ^ 31
size_bits nan F h = absurd h
size_bits (inf s) F h = absurd h
size_bits (fin s m e) F h =
    no_sign (round_even binary32 (fin false m e)) (closest (m * up e) (down e)) 1 (even_fits (fin false m e))
    (round_even_value binary32 false m e (fits_sign binary32 s false m e F))

pub signed : (x : Float) → T (fits binary32 x) → Below 23 x
    → of_bits binary32 (to_bits binary32 (round_even binary32 (abs_of x)) + (to_bits binary32 x - to_bits binary32 x % 2 ^ 31)) ≡ round_even binary32 x
unfolding round_even
signed nan F h = absurd h
signed (inf s) F h = absurd h
signed (fin false m e) F h =
    let r = round_even binary32 (fin false m e) in
    let b : to_bits binary32 (fin false m e) - to_bits binary32 (fin false m e) % 2 ^ 31 ≡ 0 = omega (arith, sign_off false m e F) in
    rw b (ap (of_bits binary32) (add-zero (to_bits binary32 r)) ∙ of_bits-to_bits binary32 r (even_fits (fin false m e)))
signed (fin true m e) F h =
    let q = closest (m * up e) (down e) in
    let r = round binary32 false q 1 in
    let b : to_bits binary32 (fin true m e) - to_bits binary32 (fin true m e) % 2 ^ 31 ≡ 2 ^ 31 = omega (arith, sign_off true m e F, sign_on m e) in
    rw b
    (ap (of_bits binary32) (minus_bits r q 1 (round_even_value binary32 false m e (fits_sign binary32 true false m e F)))
    ∙ of_bits-to_bits binary32 (neg r) (neg-fits binary32 r (round-fits binary32 false q 1))
    ∙ sym (round_neg binary32 q 1))

-- ---- past 2 ^ 23, an infinity and a NaN
over : (s : Bool) (m : ℕ) (e : ℤ) → T (fits binary32 (fin s m e)) → 2 ^ 23 * down e < m * up e → fin s m e ≡ round_even binary32 (fin s m e)
over s zero e F h = let z = zero-mul (up e) in absurd (omega arith)
over s (suc m) (pos k) F h = whole_stays binary32 s (suc m) (pos k) (suc m * 2 ^ k) F (sym (mul-one (suc m * 2 ^ k)))
over s (suc m) (negsuc k) F h =
    let two : 2 ≤ 2 ^ suc k = pow_mono {i = 1} (omega arith) in
    absurd (omega (arith, (down_low binary32 s m (negsuc k) F).0))

pub beyond : (x : Float) → T (fits binary32 x) → (le x top ≡ false) ⊎ (le bottom x ≡ false) → x ≡ round_even binary32 x
beyond nan F h = unfold round_even in refl
beyond (inf s) F h = unfold round_even in refl
beyond (fin s m e) F h = over s m e F (lt_of_not-le (λ (k : Below 23 (fin s m e)). fails (below_between 23 (fin s m e) k) h))
  where
    fails : T (le (fin true 1 (pos 23)) (fin s m e)) × T (le (fin s m e) (fin false 1 (pos 23)))
        → (le (fin s m e) top ≡ false) ⊎ (le bottom (fin s m e) ≡ false) → ⊥
    fails t (inl h) = unfold of_bits in subst T h t.1
    fails t (inr h) = unfold of_bits neg in subst T h t.0
