-- `split`'s promise determines its outcome: two that it allows are equal. Assumes nothing.
use Prim.Native.Nat.{ℕ}
use mathlib.Core.Path.{◌≡◌}
use mathlib.Core.List.{List}
use lib.Ieee.{Float}
use Rattle.answer.specs.Answer.{Answer, Outcome}
use Rattle.answer.proofs.Outcome.{one_outcome}
use Rattle.split.specs.Split.{split_told, split_out}

-- the answer r, and l what the gains g are afterwards
abbrev pub Allowed : List Float → List ℕ → Answer → List ℕ → Type 0
Allowed s g r l = Outcome (split_told s g) (split_out s g) r l

pub split_determined : (s : List Float) (g : List ℕ) {r q : Answer} {l k : List ℕ}
    → Allowed s g r l → Allowed s g q k → (r ≡ q) × (l ≡ k)
split_determined s g a b = one_outcome a b
