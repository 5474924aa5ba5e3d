-- Near 2 ^ (prec - 1) a format has whole numbers only, so a sum or a difference there rounds to the closest one: the ground of rounding to a whole
-- number by adding and taking away. And what `round_even` gives is that whole number, exactly. Assumes nothing.
use Rattle.std.proofs.Common.{◌≡◌, ℕ, zero, suc, ◌+◌, ◌-◌, ◌*◌, ◌/◌, ◌%◌, ◌^◌, ◌<◌, ◌≤◌, Bool, T, ℤ, pos, negsuc, sym, refl, ap, ◌∙◌, subst, le_trans, le_of_eq, lt_of_lt_of_le, lt_of_le_of_lt, mul-le-mul_right, mod-lt, mod-eq_of_lt, mul_assoc, suc-mul, mul_comm, div-lt_iff_lt-mul, add-mul, add_comm, le_antisymm, lt_of_mul-lt-mul_right, mul-lt-mul_of_pos_right, mul-pos, lt_of_not-le, div-add-mod', le-div_iff_mul-le, zero-add, mul-one, mul_right_comm, not-le_of_lt, arith, lit<, pow_pos, pow_mono, pow-add}
use Prim.Native.Nat.{compare, Ordering}
use native.Mathlib.Nat.{eq_of_mul-eq-mul_right, add-mul-div_right, add-mul-mod_self_right, div-eq_of_lt}
use lib.Pow.{pow-lt, shr_le}
use lib.Ieee.{Float, nan, inf, fin, Format, binary32, binary64, prec, emax, low, up, down, size, nearest, units, round, fits}
use lib.Ieee.Back.{round_whole}
use lib.Ieee.Digits.{size-lt, size-le}
use lib.Ieee.Exact.{HasValue, units_val}
use lib.Ieee.Fits.{round_is, down_pos, nearest-le}
use lib.Ieee.Nearest.{closest, closest_same}
use lib.Ieee.Scale.{round_same}
use Rattle.floats.specs.Floats.{round_even}
use Rattle.floats.proofs.Near.{Cmp, cmp, flip, closest_by, closest_exact}
use Rattle.floats.proofs.Exact.{round_self, down_low}
use Rattle.floats.proofs.Numbers.{sub_mul}

-- room above 2 ^ prec
reach : (f : Format) → prec f < suc (emax f)
reach binary32 = lit< tt
reach binary64 = lit< tt

size_is : (n j : ℕ) → 2 ^ j ≤ n → n < 2 ^ suc j → size n ≡ suc j
size_is n j h k =
    le_antisymm (size-le n (suc j) k)
    (lt_of_not-le (λ (g : size n ≤ j). not-le_of_lt (lt_of_lt_of_le (size-lt n) (pow_mono g)) h))

-- from one fraction to another that equals it
pub rescale : (x : Float) (s : Bool) (a b n d : ℕ) → 0 < b → n * b ≡ a * d → HasValue x s a b → HasValue x s n d
rescale nan s a b n d B e v = v
rescale (inf t) s a b n d B e v = v
rescale (fin t m k) s a b n d B e v = (
  v.0,
  eq_of_mul-eq-mul_right b B (m * up k * d) (n * down k)
      (mul_right_comm (m * up k) d b
      ∙ ap (λ z. z * d) v.1
      ∙ mul_right_comm a (down k) d
      ∙ ap (λ z. z * down k) (sym e)
      ∙ mul_right_comm n b (down k)),
)

-- a number of units, as a whole number
pub unscale : (x : Float) (s : Bool) (q u : ℕ) → 0 < u → HasValue x s (q * u) u → HasValue x s q 1
unscale x s q u U v = rescale x s (q * u) u q 1 U (sym (mul-one (q * u))) v

-- ---- 2 ^ (prec - 1) ≤ n / d < 2 ^ prec
module _ (f : Format) (n d : ℕ) (D : 0 < d) (lo : 2 ^ (prec f - 1) * d ≤ n) (hi : n < 2 ^ prec f * d) where
  digits : size (n * 2 ^ low f / d) - prec f ≡ low f
  digits =
      ap (λ z. z - prec f)
      (size_is (n * 2 ^ low f / d) (prec f - 1 + low f)
      ((le-div_iff_mul-le D).1 (le_trans (le_of_eq low_end) (mul-le-mul_right (2 ^ low f) lo)))
      ((div-lt_iff_lt-mul D).1 (lt_of_lt_of_le (mul-lt-mul_of_pos_right hi (pow_pos (low f))) (le_of_eq high_end))))
      ∙ count f
    where
      low_end : 2 ^ (prec f - 1 + low f) * d ≡ 2 ^ (prec f - 1) * d * 2 ^ low f
      low_end = ap (λ z. z * d) (pow-add 2 (prec f - 1) (low f)) ∙ mul_right_comm (2 ^ (prec f - 1)) (2 ^ low f) d

      high_end : 2 ^ prec f * d * 2 ^ low f ≡ 2 ^ suc (prec f - 1 + low f) * d
      high_end = mul_right_comm (2 ^ prec f) d (2 ^ low f) ∙ ap (λ z. z * d) (sym (pow-add 2 (prec f) (low f)) ∙ ap (λ z. 2 ^ z) (next f))
        where
          next : (f : Format) → prec f + low f ≡ suc (prec f - 1 + low f)
          next binary32 = refl
          next binary64 = refl

      count : (f : Format) → suc (prec f - 1 + low f) - prec f ≡ low f
      count binary32 = refl
      count binary64 = refl

  whole_le : closest n d ≤ 2 ^ prec f
  whole_le = le_trans (nearest-le (n / d) (compare (n % d * 2) d)) ((div-lt_iff_lt-mul D).1 hi)

  -- such a fraction rounds to the closest whole number
  pub whole_value : (s : Bool) → HasValue (round f s n d) s (closest n d) 1
  whole_value s = subst (λ x. HasValue x s (closest n d) 1) (sym on_grid) (unscale (units f s (closest n d) (low f)) s (closest n d) (2 ^ low f) (pow_pos (low f)) (units_val f s (closest n d) (low f) room))
    where
      on_grid : round f s n d ≡ units f s (closest n d) (low f)
      on_grid =
          round_is f s n d
          ∙ ap (λ k. units f s (closest (n * 2 ^ low f) (d * 2 ^ k)) k) digits
          ∙ ap (λ q. units f s q (low f))
          (closest_same (n * 2 ^ low f) (d * 2 ^ low f) n d (mul-pos D (pow_pos (low f))) D
          (mul_right_comm n (2 ^ low f) d ∙ mul_assoc n d (2 ^ low f)))

      room : closest n d * 2 ^ low f < 2 ^ (low f + suc (emax f))
      room =
          lt_of_le_of_lt (mul-le-mul_right (2 ^ low f) whole_le)
          (subst (λ z. 2 ^ prec f * 2 ^ low f < z) (sym (pow-add 2 (low f) (suc (emax f)) ∙ mul_comm (2 ^ low f) (2 ^ suc (emax f))))
          (mul-lt-mul_of_pos_right (pow-lt (reach f)) (pow_pos (low f))))

-- ---- the closest whole number to w - n / d, for an even w
at : (q r d : ℕ) → 0 < d → r < d → (o : Ordering) → Cmp o (r * 2) d → closest (r + q * d) d ≡ nearest q o
at q r d D h o c =
    let rest : (r + q * d) % d ≡ r = add-mul-mod_self_right r q d ∙ mod-eq_of_lt h in
    let whole : (r + q * d) / d ≡ q = add-mul-div_right r q D ∙ ap (λ z. z + q) (div-eq_of_lt h) ∙ zero-add q in
    sym (closest_by (r + q * d) d o (subst (λ z. Cmp o (z * 2) d) (sym rest) c)) ∙ ap (λ z. nearest z o) whole

pub closest_less : (n d w : ℕ) → 0 < d → w % 2 ≡ 0 → n ≤ w * d → closest (w * d - n) d ≡ w - closest n d
closest_less n d w D h l =
    subst (λ z. closest (w * d - z) d ≡ w - closest z d) parts
    (go (n / d) (n % d) (mod-lt n D) (compare (n % d * 2) d) (cmp (n % d * 2) d) (subst (λ z. z ≤ w * d) (sym parts) l))
  where
    parts : n % d + n / d * d ≡ n
    parts = add_comm (n % d) (n / d * d) ∙ div-add-mod' n d

    turned : (q v : ℕ) (o : Ordering) → w ≡ v + suc q → nearest v (flip o) ≡ w - nearest q o
    turned q v Ordering.lt e = omega arith
    turned q v Ordering.eq e = omega arith
    turned q v Ordering.gt e = omega arith

    other : (r : ℕ) (o : Ordering) → 0 < r → r < d → Cmp o (r * 2) d → Cmp (flip o) ((d - r) * 2) d
    other r Ordering.lt p k c = omega arith
    other r Ordering.eq p k c = omega arith
    other r Ordering.gt p k c = omega arith

    go : (q r : ℕ) → r < d → (o : Ordering) → Cmp o (r * 2) d → r + q * d ≤ w * d → closest (w * d - (r + q * d)) d ≡ w - closest (r + q * d) d
    go q zero k o c t =
        closest_exact (w * d - (0 + q * d)) d (w - q) D (ap (λ z. w * d - z) (zero-add (q * d)) ∙ sym (sub_mul w q d))
        ∙ ap (λ z. w - z) (sym (closest_exact (0 + q * d) d q D (zero-add (q * d))))
    go q (suc r) k o c t =
        let under : q < w = lt_of_mul-lt-mul_right d (omega arith) in
        let v = w - suc q in
        let e : w ≡ v + suc q = omega arith in
        let m : w * d ≡ v * d + suc q * d = ap (λ z. z * d) e ∙ add-mul v (suc q) d in
        let s = suc-mul q d in
        let left : w * d - (suc r + q * d) ≡ d - suc r + v * d = omega arith in
        ap (λ z. closest z d) left
        ∙ at v (d - suc r) d D (omega arith) (flip o) (other (suc r) o (omega arith) k c)
        ∙ turned q v o e
        ∙ ap (λ z. w - z) (sym (at q (suc r) d D k o c))

-- ---- `round_even`
-- a whole number stays as it is
pub whole_stays : (f : Format) (s : Bool) (m : ℕ) (e : ℤ) (w : ℕ) → T (fits f (fin s m e)) → m * up e ≡ w * down e
    → fin s m e ≡ round_even f (fin s m e)
unfolding round_even
whole_stays f s m e w F h =
    sym
    (ap (λ q. round f s q 1) (closest_exact (m * up e) (down e) w (down_pos e) h)
    ∙ round_same f s w 1 (m * up e) (down e) (lit< tt) (down_pos e) (sym (mul-one (m * up e) ∙ h))
    ∙ round_self f s m e F)

-- it is the closest whole number, with nothing lost
pub round_even_value : (f : Format) (s : Bool) (m : ℕ) (e : ℤ) → T (fits f (fin s m e))
    → HasValue (round_even f (fin s m e)) s (closest (m * up e) (down e)) 1
unfolding round_even
round_even_value f s m (pos k) F =
    subst (λ x. HasValue x s (closest (m * 2 ^ k) 1) 1) (whole_stays f s m (pos k) (m * 2 ^ k) F (sym (mul-one (m * 2 ^ k))))
    (refl, ap (λ q. q * 1) (sym (closest_exact (m * 2 ^ k) 1 (m * 2 ^ k) (lit< tt) (sym (mul-one (m * 2 ^ k))))))
round_even_value f s m (negsuc k) F = round_whole f s (closest (m * 1) (2 ^ suc k)) (le_trans (nearest-le (m * 1 / 2 ^ suc k) (compare (m * 1 % 2 ^ suc k * 2) (2 ^ suc k))) (few m F))
  where
    few : (m : ℕ) → T (fits f (fin s m (negsuc k))) → m * 1 / 2 ^ suc k < 2 ^ prec f
    few zero F = lt_of_le_of_lt (shr_le (0 * 1) (suc k)) (pow_pos (prec f))
    few (suc m) F = lt_of_le_of_lt (le_trans (shr_le (suc m * 1) (suc k)) (le_of_eq (mul-one (suc m)))) (down_low f s m (negsuc k) F).0
