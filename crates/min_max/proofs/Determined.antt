-- What the promises of `min_max`, `max_num` and `min_num` determine: two outcomes that one allows are equal. Assumes nothing.
use mathlib.Core.Path.{◌≡◌, sym, ap, ◌∙◌}
use mathlib.Core.List.{List}
use lib.Ieee.{Float}
use native.Mathlib.Omega.{arith}
use Rattle.std.specs.Prelude.{Result, Ok, Err}
use Rattle.answer.specs.declared.Refusal.{Refusal}
use Rattle.answer.proofs.Numbers.{listed, refusal_one}
use Rattle.answer.proofs.Told.{value_one}
use Rattle.floats.specs.Values.{zero_f}
use Rattle.min_max.specs.MinMax.{extremes_told, extreme_told, min_max_told, max_num_told, min_num_told}
use Rattle.min_max.specs.declared.Extremes.{Extremes}

-- what is told determines the whole answer
pub extremes_one : (r q : Result Extremes Refusal) → extremes_told r ≡ extremes_told q → r ≡ q
extremes_one (Ok v) (Ok w) e = ap (λ t. Ok (made t.1)) e
  where
    made : Float × Float → Extremes
    made v = record { least = v.0; largest = v.1 }
extremes_one (Ok v) (Err q) e = absurd (let z = ap (λ t. t.0.0) e in omega (arith, (listed q).0, z))
extremes_one (Err r) (Ok w) e = absurd (let z = ap (λ t. t.0.0) e in omega (arith, (listed r).0, z))
extremes_one (Err r) (Err q) e = ap Err (refusal_one r q (ap (λ t. t.0.0) e) (ap (λ t. t.0.1) e))

pub extreme_one : (r q : Result Float Refusal) → extreme_told r ≡ extreme_told q → r ≡ q
extreme_one r q e = value_one zero_f r q e

pub min_max_determined : (s : List Float) (r q : Result Extremes Refusal) → extremes_told r ≡ min_max_told s → extremes_told q ≡ min_max_told s → r ≡ q
min_max_determined s r q x y = extremes_one r q (x ∙ sym y)

pub max_num_determined : (s : List Float) (r q : Result Float Refusal) → extreme_told r ≡ max_num_told s → extreme_told q ≡ max_num_told s → r ≡ q
max_num_determined s r q x y = extreme_one r q (x ∙ sym y)

pub min_num_determined : (s : List Float) (r q : Result Float Refusal) → extreme_told r ≡ min_num_told s → extreme_told q ≡ min_num_told s → r ≡ q
min_num_determined s r q x y = extreme_one r q (x ∙ sym y)
