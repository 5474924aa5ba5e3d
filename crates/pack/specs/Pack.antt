-- A number and a place as the word that a C call returns, and a number that it leaves. Definitions only.
use Rattle.std.specs.Prelude.{ℕ, ◌+◌, ◌*◌, ◌≡◌, cond, eqb}

abbrev pub packed : ℕ × ℕ → ℕ
packed told = told.0 + 256 * told.1

-- a number that a call leaves: the new one where the answer's number is 0, else the old one
abbrev pub when_zero : ℕ → ℕ → ℕ → ℕ
when_zero number new old = cond (eqb number 0) new old

-- the word r where w is promised, and the lent values l where v is
pub record WordOutcome {A : Type 0} (w : ℕ) (v : A) (r : ℕ) (l : A) : Type 0 where
  pub told : r ≡ w
  pub written : l ≡ v

-- two outcomes that a promise allows are equal
abbrev pub Determined : {A : Type 0} → ℕ → A → Type 0
Determined {A} w v = (r q : ℕ) (l m : A) → WordOutcome w v r l → WordOutcome w v q m → (r ≡ q) × (l ≡ m)
