-- Where nothing is lost: what fits rounds to itself, x - x is +0, 1 * x is x, and whole numbers add exactly up to 2 ^ prec. Assumes nothing.
-- A name ends in -f where the numbers have a law of that name.
use Rattle.std.proofs.Common.{◌≡◌, ℕ, zero, suc, ◌+◌, ◌-◌, ◌*◌, ◌/◌, ◌%◌, ◌^◌, ◌<◌, ◌≤◌, Bool, true, false, cond, not, ◌&&◌, T, eqb, ltb, leb, ℤ, pos, negsuc, sym, refl, ap, ◌∙◌, subst, true≢false, le_of_eq, lt_of_lt_of_le, le_of_suc-le-suc, lt_of_le_of_lt, lt_irrefl, mul_assoc, mul_comm, lt_of_mul-lt-mul_right, mul-lt-mul_of_pos_right, mul-pos, one-mul, lt_of_not-le, zero-mul, mul-one, mul_right_comm, not-le_of_lt, arith, ltb→lt, leb→le, pow_pos, pow-add, le-ltb, lt-ltb}
use native.Mathlib.Nat.{sub_self}
use mathlib.Core.Bool.{beq}
use lib.Pow.{pow-lt}
use lib.Ieee.{Float, nan, inf, fin, Format, prec, emax, low, up, down, unlike, hid, top, size, round, sum, add, sub, neg, mul, fits, is_nan, to_bits, of_bits}
use lib.Ieee.Digits.{back}
use lib.Ieee.Fits.{and_l, and_r, round-fits, down_pos}
use lib.Ieee.Bits.{of_bits-to_bits}
use lib.Ieee.Exact.{HasValue, round_exact}
use lib.Ieee.Back.{round_whole}
use lib.Ieee.Nearest.{div_same}
use lib.Ieee.Scale.{finite, round_same}
use Rattle.floats.specs.Fraction.{frac}
use Rattle.floats.proofs.Numbers.{spread, ltb_times, sub_mul}
use Rattle.floats.proofs.Sign.{finite_number, round_zero}
use Rattle.floats.proofs.Signed.{Rounds}
use Rattle.floats.proofs.Monotone.{mul_comm_f}

-- what equals a fraction is finite, so no NaN
pub value_finite : (x : Float) (s : Bool) (a c : ℕ) → HasValue x s a c → T (finite x)
value_finite nan s a c h = absurd h
value_finite (inf t) s a c h = absurd h
value_finite (fin t m e) s a c h = tt

pub value_number : (x : Float) (s : Bool) (a c : ℕ) → HasValue x s a c → T (not (is_nan x))
value_number x s a c h = finite_number x (value_finite x s a c h)

-- ---- the bit pattern of a value, from any fraction a / c that it equals
abbrev pattern : Format → Bool → ℕ → ℕ
pattern f s n = cond s (top f) 0 + (size n - prec f) * hid f + n / 2 ^ (size n - prec f)

bits_of : (f : Format) (x : Float) (s : Bool) (a c : ℕ) → 0 < c → HasValue x s a c → to_bits f x ≡ pattern f s (a * 2 ^ low f / c)
unfolding to_bits
bits_of f nan s a c C h = absurd h
bits_of f (inf t) s a c C h = absurd h
bits_of f (fin t m e) s a c C h =
    let l = 2 ^ low f in
    ap (λ (n : ℕ). pattern f t n)
    (div_same (m * up e * l) (down e) (a * l) c (down_pos e) C
    (mul_right_comm (m * up e) l c ∙ ap (λ (z : ℕ). z * l) h.1 ∙ mul_right_comm a (down e) l))
    ∙ ap (λ (t : Bool). pattern f t (a * l / c)) h.0

-- two values that fit and equal one signed fraction are the same
pub value_unique : (f : Format) (x y : Float) (s : Bool) (a c : ℕ) → 0 < c → T (fits f x) → T (fits f y)
    → HasValue x s a c → HasValue y s a c → x ≡ y
value_unique f x y s a c C F G h k =
    sym (of_bits-to_bits f x F) ∙ ap (of_bits f) (bits_of f x s a c C h ∙ sym (bits_of f y s a c C k)) ∙ of_bits-to_bits f y G

-- ---- what fits rounds to itself
-- a value that fits and is not zero: its digits, its lowest place, its size
pub down_low : (f : Format) (s : Bool) (m : ℕ) (e : ℤ) → T (fits f (fin s (suc m) e))
    → (suc m < 2 ^ prec f) × (down e ≤ 2 ^ low f) × (suc m * up e < 2 ^ suc (emax f) * down e)
unfolding fits
down_low f s m e t =
    let a : Bool = eqb (suc m % 2) 1 in
    let b : Bool = ltb (suc m) (2 ^ prec f) in
    let c : Bool = leb (down e) (2 ^ low f) in
    let d : Bool = ltb (suc m * up e) (2 ^ suc (emax f) * down e) in
    let u = and_l (a && b && c) d t in (
      ltb→lt (suc m) (2 ^ prec f) (and_r a b (and_l (a && b) c u)),
      leb→le (down e) (2 ^ low f) (and_r (a && b) c u),
      ltb→lt (suc m * up e) (2 ^ suc (emax f) * down e) (and_r (a && b && c) d t),
    )

pow_le : (k l : ℕ) → 2 ^ k ≤ 2 ^ l → k ≤ l
pow_le k l h = le_of_suc-le-suc (lt_of_not-le (λ (g : suc l ≤ k). not-le_of_lt (pow-lt g) h))

-- 2 ^ e is 2 ^ j of the format's smallest values
pub expo : (f : Format) (e : ℤ) → down e ≤ 2 ^ low f → (j : ℕ) × (up e * 2 ^ low f ≡ 2 ^ j * down e)
expo f (pos k) h = (k + low f, sym (mul-one (2 ^ (k + low f)) ∙ pow-add 2 k (low f)))
expo f (negsuc k) h =
    let j = low f - suc k in
    (j, one-mul (2 ^ low f) ∙ ap (λ (z : ℕ). 2 ^ z) (sym (back (low f) (suc k) (pow_le (suc k) (low f) h))) ∙ pow-add 2 j (suc k))

zero_fits : (f : Format) (s : Bool) → T (fits f (fin s 0 (pos 0)))
unfolding fits
zero_fits f s = tt

-- the zeros that fit are the two that `round` gives
pub zero_unique : (f : Format) (s : Bool) (m : ℕ) (e : ℤ) → T (fits f (fin s m e)) → m * up e ≡ 0 → fin s m e ≡ fin s 0 (pos 0)
zero_unique f s m e F h = value_unique f (fin s m e) (fin s 0 (pos 0)) s 0 1 (pow_pos 0) F (zero_fits f s) (refl, simp (h, zero-mul)) (refl, refl)

top_le : (f : Format) (m j d u : ℕ) → m * u * 2 ^ low f ≡ m * 2 ^ j * d → m * u < 2 ^ suc (emax f) * d
    → m * 2 ^ j < 2 ^ (low f + suc (emax f))
top_le f m j d u e h =
    let l = 2 ^ low f in
    let t = 2 ^ suc (emax f) in
    lt_of_mul-lt-mul_right d
    (lt_of_le_of_lt (le_of_eq (sym e))
    (lt_of_lt_of_le (mul-lt-mul_of_pos_right h (pow_pos (low f)))
    (le_of_eq (mul_right_comm t d l ∙ ap (λ (z : ℕ). z * d) (mul_comm t l ∙ sym (pow-add 2 (low f) (suc (emax f))))))))

pub round_self : (f : Format) (s : Bool) (m : ℕ) (e : ℤ) → T (fits f (fin s m e)) → round f s (m * up e) (down e) ≡ fin s m e
round_self f s zero e F = rw zero-mul (round_zero f s (down e) (down_pos e) ∙ sym (zero_unique f s 0 e F (zero-mul (up e))))
round_self f s (suc m) e F =
    let b = down_low f s m e F in
    let j = expo f e b.1 in
    let a = suc m * up e in
    let eq : a * 2 ^ low f ≡ suc m * 2 ^ j.0 * down e = rw (mul_assoc (suc m) (up e), j.1, mul_assoc (suc m) (2 ^ j.0)) in
    value_unique f (round f s a (down e)) (fin s (suc m) e) s a (down e) (down_pos e) (round-fits f s a (down e)) F
    (round_exact f s a (down e) (suc m) j.0 (down_pos e) b.0 (top_le f (suc m) j.0 (down e) (up e) eq b.2) eq) (refl, refl)

-- so a finite value that fits is its own fraction, rounded
pub rounds_self : (f : Format) (x : Float) → T (finite x) → T (fits f x) → Rounds f x (frac x)
rounds_self f nan p F = absurd p
rounds_self f (inf s) p F = absurd p
rounds_self f (fin true m e) p F = record { sign = true; amount = m * up e; is = sym (round_self f true m e F); parts = omega arith }
rounds_self f (fin false m e) p F = record { sign = false; amount = m * up e; is = sym (round_self f false m e F); parts = omega arith }

-- ---- x - x is +0
not_below : (a : ℕ) → ltb a a ≡ false
not_below a = go (ltb a a) (ltb→lt a a)
  where
    go : (b : Bool) → (T b → a < a) → b ≡ false
    go true h = absurd (lt_irrefl a (h tt))
    go false h = refl

sum_self : (f : Format) (s : Bool) (a c : ℕ) → 0 < c → sum f s a (not s) a c ≡ fin false 0 (pos 0)
unfolding sum
sum_self f true a c C = rw (not_below a, sub_self a) (round_zero f false c C)
sum_self f false a c C = rw (not_below a, sub_self a) (round_zero f false c C)

pub sub_self_f : (f : Format) (x : Float) → T (finite x) → sub f x x ≡ fin false 0 (pos 0)
unfolding sub
sub_self_f f nan h = absurd h
sub_self_f f (inf s) h = absurd h
sub_self_f f (fin s m e) h = sum_self f s (m * up e * down e) (down e * down e) (mul-pos (down_pos e) (down_pos e))

-- ---- 1 * x is x
unlike_plus : (s : Bool) → unlike false s ≡ s
unlike_plus true = refl
unlike_plus false = refl

pub one_mul_f : (f : Format) (x : Float) → T (fits f x) → mul f (fin false 1 (pos 0)) x ≡ x
unfolding mul
one_mul_f f nan h = refl
one_mul_f f (inf s) h = ap inf (unlike_plus s)
one_mul_f f (fin s m e) h = rw (unlike_plus s, one-mul (m * up e), one-mul (down e)) (round_self f s m e h)

pub mul_one_f : (f : Format) (x : Float) → T (fits f x) → mul f x (fin false 1 (pos 0)) ≡ x
mul_one_f f x h = mul_comm_f f x (fin false 1 (pos 0)) ∙ one_mul_f f x h

-- ---- a sum of two values of one sign, by any fractions over one number that they equal
beq_same : (s : Bool) → beq s s ≡ true
beq_same true = refl
beq_same false = refl

-- x / p is a / c and y / q is b / c: their sum over p q is that over c
pub cross_add : (x y p q a b c : ℕ) → x * c ≡ a * p → y * c ≡ b * q → (x * q + y * p) * c ≡ (a + b) * (p * q)
cross_add x y p q a b c u v =
    let u1 = simp spread at (ap (λ (z : ℕ). z * q) u) in
    let v1 = simp spread at (ap (λ (z : ℕ). z * p) v) in
    simp spread (omega arith)

pub add_same : (f : Format) (x y : Float) (s : Bool) (a b c : ℕ) → 0 < c → HasValue x s a c → HasValue y s b c
    → add f x y ≡ round f s (a + b) c
unfolding add
add_same f nan y s a b c C h k = absurd h
add_same f (inf t) y s a b c C h k = absurd h
add_same f (fin t m e) nan s a b c C h k = absurd k
add_same f (fin t m e) (inf u) s a b c C h k = absurd k
add_same f (fin t m e) (fin u n d) s a b c C h k =
    rw (h.0, k.0, beq_same s)
    (round_same f s (m * up e * down d + n * up d * down e) (down e * down d) (a + b) c (mul-pos (down_pos e) (down_pos d)) C
    (cross_add (m * up e) (n * up d) (down e) (down d) a b c h.1 k.1))

-- ---- a difference of two values without a sign, likewise
pub sub_same : (f : Format) (x y : Float) (a b c : ℕ) → 0 < c → HasValue x false a c → HasValue y false b c
    → sub f x y ≡ cond (ltb a b) (round f true (b - a) c) (round f false (a - b) c)
unfolding sub add neg sum
sub_same f nan y a b c C h k = absurd h
sub_same f (inf t) y a b c C h k = absurd h
sub_same f (fin true m e) y a b c C h k = absurd (true≢false h.0)
sub_same f (fin false m e) nan a b c C h k = absurd k
sub_same f (fin false m e) (inf u) a b c C h k = absurd k
sub_same f (fin false m e) (fin true n d) a b c C h k = absurd (true≢false k.0)
sub_same f (fin false m e) (fin false n d) a b c C h k =
    rw same (go (ltb a b))
  where
    A : ℕ
    A = m * up e * down d

    B : ℕ
    B = n * up d * down e

    D : ℕ
    D = down e * down d

    over : 0 < D
    over = mul-pos (down_pos e) (down_pos d)

    p : A * c ≡ a * D
    p = mul_right_comm (m * up e) (down d) c ∙ ap (λ z. z * down d) h.1 ∙ mul_assoc a (down e) (down d)

    q : B * c ≡ b * D
    q = mul_right_comm (n * up d) (down e) c ∙ ap (λ z. z * down e) k.1 ∙ mul_right_comm b (down d) (down e) ∙ mul_assoc b (down e) (down d)

    same : ltb A B ≡ ltb a b
    same = sym (ltb_times A B c C) ∙ ap (λ z. ltb z (B * c)) p ∙ ap (ltb (a * D)) q ∙ ltb_times a b D over

    go : (t : Bool) → cond t (round f true (B - A) D) (round f false (A - B) D) ≡ cond t (round f true (b - a) c) (round f false (a - b) c)
    go true = round_same f true (B - A) D (b - a) c over C (sub_mul B A c ∙ rw (p, q) (sym (sub_mul b a D)))
    go false = round_same f false (A - B) D (a - b) c over C (sub_mul A B c ∙ rw (p, q) (sym (sub_mul a b D)))

module _ (f : Format) (x y : Float) (a b c : ℕ) (C : 0 < c) (h : HasValue x false a c) (k : HasValue y false b c) where
  abbrev by : Bool → Float
  by t = cond t (round f true (b - a) c) (round f false (a - b) c)

  -- the lesser taken from the larger, and the larger from the lesser
  pub sub_lesser : b ≤ a → sub f x y ≡ round f false (a - b) c
  sub_lesser l = sub_same f x y a b c C h k ∙ ap by (le-ltb a b l)

  pub sub_larger : a < b → sub f x y ≡ round f true (b - a) c
  sub_larger l = sub_same f x y a b c C h k ∙ ap by (lt-ltb a b l)

-- whole numbers add exactly as long as the sum is one that the format counts
pub add_whole : (f : Format) (x y : Float) (s : Bool) (i j : ℕ) → HasValue x s i 1 → HasValue y s j 1 → i + j ≤ 2 ^ prec f
    → HasValue (add f x y) s (i + j) 1
add_whole f x y s i j h k l =
    subst (λ (z : Float). HasValue z s (i + j) 1) (sym (add_same f x y s i j 1 (pow_pos 0) h k)) (round_whole f s (i + j) l)
