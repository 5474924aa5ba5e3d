-- Three errors put together, in whole numbers. P stands for 2 ^ prec, H for its half, L for the units of 1. Of n = k + 1 exponentials t is the exact
-- sum and S the rounded one, C is 1 / S rounded, and R the exact sum of the weights, all in units. Assumes nothing.
use mathlib.Core.Path.{◌≡◌, sym, ap, ◌∙◌}
use Prim.Native.Nat.{ℕ, suc, ◌+◌, ◌-◌, ◌*◌, ◌≤◌, ◌<◌}
use native.Mathlib.Nat.{le_refl, le_trans, le_of_eq, lt_of_lt_of_le, add-mul, mul-add, mul-one, one-mul, mul_comm, mul_assoc, mul-le-mul_right, mul-le-mul, add-le-add, le_of_mul-le-mul_right, mul-pos, suc-mul}
use native.Mathlib.Omega.{arith}
use Rattle.floats.proofs.Numbers.{spread}
use Rattle.floats.proofs.Error.{Within}

pub record Errors (P H L k R t S C : ℕ) : Type 0 where
  pub half : P ≡ H * 2
  pub few : suc k * 4 ≤ P
  pub fine : suc k * P ≤ L
  pub sum : Within P (S * 1) t (k * S)
  pub over : Within P (C * S) (L * L) (L * L)
  pub weights : Within P (R * L) (t * C) (t * C + suc k * (L * H))

-- a bound through two others that have a product in common
through : (x y v z w u : ℕ) → x ≤ y → y * v ≡ z * w → z ≤ u → x * v ≤ u * w
through x y v z w u h e k = le_trans (mul-le-mul_right v h) (le_trans (le_of_eq e) (mul-le-mul_right w k))

-- ---- the three multiplied: t is at most M / P of S, C at most Q / P of L L / S, R at most Q / P of t C / L and n H / P more
above_by : (P Q M B H L n R t S C : ℕ) → 0 < P → 0 < L → R * L * P ≤ t * C * Q + n * (L * H) → t * P ≤ S * M → C * S * P ≤ L * L * Q
    → L * (Q * Q * M) + n * H * (P * P) ≤ B * L * (P * P) → R * P ≤ B * L
above_by P Q M B H L n R t S C p l w s c room =
    le_of_mul-le-mul_right {k = L * (P * P)}
    (le_trans (le_of_eq (simp spread)) (le_trans (mul-le-mul_right (P * P) w) (le_trans (le_of_eq apart)
    (le_trans (add-le-add mid (le_refl (n * H * (P * P) * L)))
    (le_trans (le_of_eq (sym (add-mul (L * (Q * Q * M)) (n * H * (P * P)) L))) (le_trans (mul-le-mul_right L room) (le_of_eq (simp spread))))))))
    (mul-pos l (mul-pos p p))
  where
    apart : (t * C * Q + n * (L * H)) * (P * P) ≡ t * P * (C * P * Q) + n * H * (P * P) * L
    apart = simp spread

    mid : t * P * (C * P * Q) ≤ L * (Q * Q * M) * L
    mid = le_trans (through (t * P) (S * M) (C * P * Q) (C * S * P) (M * Q) (L * L * Q) s (simp spread) c) (le_of_eq (simp spread))

-- and from below, with Q and M less than P
below_by : (P Q M D H L n R t S C : ℕ) → 0 < P → 0 < L → t * C * Q ≤ R * L * P + n * (L * H) → S * M ≤ t * P → L * L * Q ≤ C * S * P
    → L * P * (P * P) + n * H * (P * P) ≤ L * (Q * Q * M) + D * L * (P * P) → L * P ≤ R * P + D * L
below_by P Q M D H L n R t S C p l w s c room =
    le_of_mul-le-mul_right {k = P * P}
    (le_trans (put (L * P * (P * P)) (n * H * (P * P)) (L * (Q * Q * M)) (D * L * (P * P)) (R * P * (P * P)) room mid)
    (le_of_eq (sym (add-mul (R * P) (D * L) (P * P)))))
    (mul-pos p p)
  where
    put : (a b c d r : ℕ) → a + b ≤ c + d → c ≤ r + b → a ≤ r + d
    put a b c d r h k = omega arith

    apart : (R * L * P + n * (L * H)) * (P * P) ≡ (R * P * (P * P) + n * H * (P * P)) * L
    apart = simp spread

    mid : L * (Q * Q * M) ≤ R * P * (P * P) + n * H * (P * P)
    mid =
        le_of_mul-le-mul_right {k = L}
        (le_trans (le_of_eq (simp spread))
        (le_trans (through (L * L * Q) (C * S * P) (M * Q) (S * M) (C * P * Q) (t * P) c (simp spread) s)
        (le_trans (le_of_eq (simp spread)) (le_trans (mul-le-mul_right (P * P) w) (le_of_eq apart)))))
        l

-- ---- what is left over: P P L from above, more from below, and half a unit for each weight is less
room_above : (P H L k : ℕ) → suc k * 4 ≤ P → suc k * H * 2 ≤ L
    → L * ((P + 1) * (P + 1) * (P + k)) + suc k * H * (P * P) ≤ (P + (suc k + 2)) * L * (P * P)
room_above P H L k f h =
    let a = simp spread at (mul-le-mul_right L tight) in
    let b = simp (suc-mul, spread) at (mul-le-mul_right (P * P) h) in
    simp (suc-mul, spread) (omega arith)
  where
    tight : ((k * 2 + 1) * P + k) * 2 ≤ P * P
    tight =
        let m = simp (suc-mul, spread) at (mul-le-mul_right P f) in
        let l : k * 1 ≤ k * P = mul-le-mul (le_refl k) (omega arith) in
        simp spread (omega arith)

room_below : (P H L k Q M : ℕ) → P ≡ Q + 1 → P ≡ M + k → suc k * H * 2 ≤ L
    → L * P * (P * P) + suc k * H * (P * P) ≤ L * (Q * Q * M) + (suc k + 2) * L * (P * P)
room_below P H L k Q M q m h =
    let a = simp spread at (mul-le-mul_right L tight) in
    let b = simp (suc-mul, spread) at (mul-le-mul_right (P * P) h) in
    let c : L * P * (P * P) ≡ L * (Q * Q * M) + L * ((Q * 2 + 1) * M) + k * L * (P * P) = cube in
    simp (suc-mul, spread) (omega arith)
  where
    tight : (Q * 2 + 1) * M ≤ P * 2 * P
    tight = mul-le-mul (omega arith) (omega arith)

    square : P * P ≡ Q * Q + (Q * 2 + 1)
    square = rw q (simp (mul-one, one-mul, spread) (omega arith))

    cube : L * P * (P * P) ≡ L * (Q * Q * M) + L * ((Q * 2 + 1) * M) + k * L * (P * P)
    cube =
        let s = ap (λ z. L * M * z) square in
        ap (λ z. L * z * (P * P)) m ∙ ap (λ z. z * (P * P)) (mul-add L M k) ∙ add-mul (L * M) (L * k) (P * P) ∙ ap (◌+ L * k * (P * P)) s
        ∙ simp spread

-- ---- R is L but for n + 2 roundings
pub put_together : (P H L k R t S C : ℕ) → Errors P H L k R t S C → Within P R L ((suc k + 2) * L)
put_together P H L k R t S C E = (
  le_trans
      (above_by P (P + 1) (P + k) (P + (suc k + 2)) H L (suc k) R t S C p l
      (let h = E.weights.0 in simp (mul-add, mul-one) (omega arith))
      (let h = simp mul-one at E.sum.1 in let c = mul_comm k S in simp mul-add (omega arith))
      (let h = E.over.0 in simp (mul-add, mul-one) (omega arith))
      (room_above P H L k E.few halves))
      (le_of_eq (simp spread)),
  below_by P (P - 1) (P - k) (suc k + 2) H L (suc k) R t S C p l
      (let h = E.weights.1 in let e = less (t * C) in omega arith)
      (let h = simp mul-one at E.sum.0 in let e = lower in let c = mul_comm k S in omega arith)
      (let h = E.over.1 in let e = less (L * L) in omega arith)
      (room_below P H L k (P - 1) (P - k) (omega arith) (omega (arith, E.few)) halves),
)
  where
    p : 0 < P
    p = omega (arith, E.few)

    l : 0 < L
    l = lt_of_lt_of_le (mul-pos (omega arith) p) E.fine

    halves : suc k * H * 2 ≤ L
    halves = le_trans (le_of_eq (mul_assoc (suc k) H 2 ∙ ap (λ m. suc k * m) (sym E.half))) E.fine

    less : (x : ℕ) → x * (P - 1) + x ≡ x * P
    less x = let e : P - 1 + 1 ≡ P = omega arith in sym (ap (λ m. x * m) (sym e) ∙ mul-add x (P - 1) 1 ∙ ap (λ m. x * (P - 1) + m) (mul-one x))

    lower : S * (P - k) + S * k ≡ S * P
    lower = let e : P - k + k ≡ P = omega (arith, E.few) in sym (mul-add S (P - k) k) ∙ ap (λ m. S * m) e
