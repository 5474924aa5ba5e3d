-- `closest a b`, the nearest whole number to a / b: what is cut off decides, and it is within a half. Assumes nothing.
use Rattle.std.proofs.Common.{◌≡◌, ℕ, zero, suc, ◌+◌, ◌*◌, ◌/◌, ◌%◌, ◌<◌, ◌≤◌, not, T, refl, ap, ◌∙◌, add-zero, mod-lt, suc-mul, add-mul, one-mul, div-add-mod', mul-one, div-one, arith, lit<, eqb→eq, leb→le, pow_pos}
use Prim.Native.Nat.{compare, Ordering}
use native.Mathlib.Nat.{mod-one}
use lib.Dec.{is_le, compare_is_eq, nleb→lt}
use lib.Arith.{lt_of_le-ne}
use lib.Ieee.{nearest}
use lib.Ieee.Fits.{eq→eqb}
use lib.Ieee.Nearest.{closest, closest_same}
use Rattle.floats.specs.Between.{Near}

-- ---- what `compare` says
abbrev pub Cmp : Ordering → ℕ → ℕ → Type 0
Cmp Ordering.lt a b = a < b
Cmp Ordering.eq a b = a ≡ b
Cmp Ordering.gt a b = b < a

pub cmp : (a b : ℕ) → Cmp (compare a b) a b
cmp a b = go (compare a b) (leb→le a b) (nleb→lt a b) (eqb→eq a b) eq→eqb
  where
    go : (o : Ordering) → (T (is_le o) → a ≤ b) → (T (not (is_le o)) → b < a) → (T (compare_is_eq o) → a ≡ b) → (a ≡ b → T (compare_is_eq o))
        → Cmp o a b
    go Ordering.lt h k e n = lt_of_le-ne (h tt) n
    go Ordering.eq h k e n = e tt
    go Ordering.gt h k e n = k tt

-- the other way round
abbrev pub flip : Ordering → Ordering
flip Ordering.lt = Ordering.gt
flip Ordering.eq = Ordering.eq
flip Ordering.gt = Ordering.lt

-- only one of the three holds
cmp_one : (o p : Ordering) (a b : ℕ) → Cmp o a b → Cmp p a b → o ≡ p
cmp_one Ordering.lt Ordering.lt a b h k = refl
cmp_one Ordering.lt Ordering.eq a b h k = absurd (omega arith)
cmp_one Ordering.lt Ordering.gt a b h k = absurd (omega arith)
cmp_one Ordering.eq Ordering.lt a b h k = absurd (omega arith)
cmp_one Ordering.eq Ordering.eq a b h k = refl
cmp_one Ordering.eq Ordering.gt a b h k = absurd (omega arith)
cmp_one Ordering.gt Ordering.lt a b h k = absurd (omega arith)
cmp_one Ordering.gt Ordering.eq a b h k = absurd (omega arith)
cmp_one Ordering.gt Ordering.gt a b h k = refl

-- the quotient, moved up or not by how twice the remainder compares with the divisor
pub closest_by : (a b : ℕ) (o : Ordering) → Cmp o (a % b * 2) b → nearest (a / b) o ≡ closest a b
closest_by a b o h = ap (nearest (a / b)) (cmp_one o (compare (a % b * 2) b) (a % b * 2) b h (cmp (a % b * 2) b))

-- a whole number is its own nearest
pub closest_exact : (n c w : ℕ) → 0 < c → n ≡ w * c → closest n c ≡ w
closest_exact n c w C e = closest_same n c w 1 C (lit< tt) (mul-one n ∙ e) ∙ rw (div-one, mod-one)

near_at : (q r b a : ℕ) (o : Ordering) → Cmp o (r * 2) b → r < b → q * b + r ≡ a → Near (nearest q o) a b
near_at q r b a Ordering.lt c l e = (omega arith, omega arith)
near_at q r b a Ordering.gt c l e = let m = suc-mul q b in (omega arith, omega arith)
near_at q r b a Ordering.eq c l e = go (q % 2) (mod-lt q (pow_pos 1))
  where
    go : (t : ℕ) → t < 2 → Near (q + t) a b
    go zero h = simp add-zero (omega arith, omega arith)
    go (suc t) h = let z : t ≡ 0 = omega arith in let m : (q + suc t) * b ≡ q * b + b = simp (z, add-mul, one-mul) in (omega arith, omega arith)

pub near : (a b : ℕ) → 0 < b → Near (closest a b) a b
near a b B = near_at (a / b) (a % b) b a (compare (a % b * 2) b) (cmp (a % b * 2) b) (mod-lt a B) (div-add-mod' a b)
