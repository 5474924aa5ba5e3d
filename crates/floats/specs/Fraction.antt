-- A finite float as an exact fraction, a difference of two whole numbers over a third: no sign, no rounding. Definitions only.
use Rattle.std.specs.Prelude.{ℕ, ◌+◌, ◌*◌, ◌≤◌, true, false, Float}
use Rattle.std.specs.Float.{nan, inf, fin}
use Rattle.std.specs.Float.Ieee.{up, down}

-- (over - under) / by
pub record Frac : Type 0 where
  pub over : ℕ
  pub under : ℕ
  pub by : ℕ

-- the value of a float; 0 / 1 for a NaN and an infinity, of which nothing is said by it
abbrev pub frac : Float → Frac
frac nan = record { over = 0; under = 0; by = 1 }
frac (inf s) = record { over = 0; under = 0; by = 1 }
frac (fin false m e) = record { over = m * up e; under = 0; by = down e }
frac (fin true m e) = record { over = 0; under = m * up e; by = down e }

-- q is at most r, for two fractions over numbers above 0
abbrev pub ◌⊑◌ : Frac → Frac → Type 0
q ⊑ r = q.over * r.by + r.under * q.by ≤ r.over * q.by + q.under * r.by

infix 50 ◌⊑◌
-- the other sign
abbrev pub turn : Frac → Frac
turn q = record { over = q.under; under = q.over; by = q.by }

infixl 60 ◌⊕◌
infixl 70 ◌⊗◌
-- the sum and the product
abbrev pub ◌⊕◌ : Frac → Frac → Frac
q ⊕ r = record { over = q.over * r.by + r.over * q.by; under = q.under * r.by + r.under * q.by; by = q.by * r.by }

abbrev pub ◌⊗◌ : Frac → Frac → Frac
q ⊗ r = record { over = q.over * r.over + q.under * r.under; under = q.over * r.under + q.under * r.over; by = q.by * r.by }
