-- Small facts on the natural numbers that several files use. Assumes nothing.
use Rattle.std.proofs.Common.{◌≡◌, ℕ, ◌-◌, ◌*◌, ◌<◌, ◌≤◌, Bool, true, false, not, T, ltb, ◌⊎◌, sym, ◌∙◌, inl, inr, mul-le-mul_right, mul_assoc, mul_comm, add-mul, eq-zero-or-pos, mul-lt-mul_of_pos_right, mul-pos, mul-add, mul_left_comm, arith, ltb→lt, nltb→le, le-ltb, lt-ltb}
use native.Mathlib.Nat.{mul-sub}

-- for `simp`: products multiplied out, and the factors of each in one order
pub ruleset spread = (add-mul, mul-add, mul_assoc, mul_comm, mul_left_comm)

pub less_or : (a b : ℕ) → (a < b) ⊎ (b ≤ a)
less_or a b = go (ltb a b) (ltb→lt a b) (nltb→le a b)
  where
    go : (t : Bool) → (T t → a < b) → (T (not t) → b ≤ a) → (a < b) ⊎ (b ≤ a)
    go true h k = inl (h tt)
    go false h k = inr (k tt)

-- both sides of a comparison, times what is above zero
pub ltb_times : (n c d : ℕ) → 0 < d → ltb (n * d) (c * d) ≡ ltb n c
ltb_times n c d D =
    elim (less_or n c) [
      | inl h ↦ lt-ltb _ _ (mul-lt-mul_of_pos_right h D) ∙ sym (lt-ltb n c h)
      | inr h ↦ le-ltb _ _ (mul-le-mul_right d h) ∙ sym (le-ltb n c h)
    ]

pub sub_mul : (a b c : ℕ) → (a - b) * c ≡ a * c - b * c
sub_mul a b c = mul_comm (a - b) c ∙ mul-sub c a b ∙ rw (mul_comm c a, mul_comm c b)

pub zero_factor : (x y : ℕ) → 0 < y → x * y ≤ 0 → x ≡ 0
zero_factor x y Y h = elim (eq-zero-or-pos x) [ inl z ↦ z | inr p ↦ (let l = mul-pos p Y in omega arith) ]
