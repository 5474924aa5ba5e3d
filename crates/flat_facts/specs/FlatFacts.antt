-- How flat softmax's weights are: their exact sum, before any rounding of it, lies close to 1 (request L14). Statements only.
use Rattle.std.specs.Prelude.{ℕ, ◌+◌, ◌*◌, ◌^◌, ◌≤◌, ◌<◌, ◌≡◌, Bool, List, ◌∷◌, length, replicate, Float}
use Rattle.answer.specs.Answer.{Outcome}
use Rattle.answer.specs.Answer.{Answer}
use Rattle.std.specs.Prelude.{Ok}
use Rattle.floats.specs.Each.{Each}
use Rattle.floats.specs.Units.{InUnits, units_of, units_in}
use Rattle.floats.specs.Values.{f32, zero_f}
use Rattle.softmax.specs.Softmax.{weights_of, softmax_told, softmax_out, in_place_told, in_place_out}
use Rattle.softmax_facts.specs.SoftmaxFacts.{Input}

-- by how many units of 2 ^ -149 the exact sum of n weights may differ from 1, which is 2 ^ 149 of them
abbrev pub room : ℕ → ℕ
room n = (n + 2) * 2 ^ 125

-- n weights: each is exactly as many units as are counted for it, and all together lie so close to 1
pub record Flat (n : ℕ) (weights : List Float) : Type 0 where
  pub as_many : length weights ≡ n
  pub exact : Each (λ w. InUnits 149 w (units_of 149 w)) weights
  pub to : units_in 149 weights ≤ 2 ^ 149 + room n
  pub from : 2 ^ 149 ≤ units_in 149 weights + room n

-- of 1 to `element_limit` elements (the request asks for 64), each finite or masked and one finite or more
abbrev pub FlatWeights : Type 0
FlatWeights = (s : List Float) → Input s → Flat (length s) (weights_of s)

-- `softmax`, with flush or without, into a slice of as many: done, and what it leaves is flat
abbrev pub FlatCall : Type 0
FlatCall =
    (flush : Bool) (s d : List Float) (answer : Answer) (left : List Float)
    → Input s
    → length d ≡ length s
    → Outcome (softmax_told flush s d) (softmax_out flush s d) answer left
    → (answer ≡ (Ok tt)) × Flat (length s) left

-- `softmax_in_place`
abbrev pub FlatInPlace : Type 0
FlatInPlace =
    (flush : Bool) (s : List Float) (answer : Answer) (left : List Float)
    → Input s
    → Outcome (in_place_told flush s) (in_place_out flush s) answer left
    → (answer ≡ (Ok tt)) × Flat (length s) left

-- half of that room is too little, on either side: of 0 and four times -16.64 the sum loses each of the four, of 0 and four times -16.6355 it
-- counts each double
abbrev pub HalfTooLittle : Type 0
HalfTooLittle =
    let five : ℕ → ℕ = λ bits. units_in 149 (weights_of (zero_f ∷ replicate 4 (f32 bits))) in
    (2 ^ 149 + (5 + 2) * 2 ^ 124 < five 0xc185_1eb8) × (five 0xc185_1581 + (5 + 2) * 2 ^ 124 < 2 ^ 149)
