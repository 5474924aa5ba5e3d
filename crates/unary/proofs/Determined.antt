-- The promise of `apply` determines its answer and what it leaves: two outcomes that it allows are equal. Assumes nothing.
use mathlib.Core.List.{List}
use mathlib.Core.Path.{◌≡◌}
use lib.Ieee.{Float}
use Rattle.answer.specs.Answer.{Answer}
use Rattle.answer.specs.Answer.{Outcome}
use Rattle.answer.proofs.Outcome.{one_outcome}
use Rattle.unary.specs.Unary.{apply_told, apply_out}
use Rattle.unary.specs.declared.Op.{Op}

-- the answer r and dst's last list l, as the two clauses have them
abbrev pub Allowed : Op → List Float → List Float → Answer → List Float → Type 0
Allowed op s d r l = Outcome (apply_told op s d) (apply_out op s d) r l

pub apply_determined : (op : Op) (s d : List Float) {r q : Answer} {l k : List Float} → Allowed op s d r l → Allowed op s d q k → (r ≡ q) × (l ≡ k)
apply_determined op s d a b = one_outcome a b
