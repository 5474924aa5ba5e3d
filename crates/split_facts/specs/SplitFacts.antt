-- The claims on the split: demand 3, masked bands, equal bands, finer steps. Statements only.
use Rattle.std.specs.Prelude.{ℕ, ◌+◌, ◌*◌, ◌/◌, ◌%◌, ◌^◌, ◌≤◌, ◌<◌, ◌≡◌, true, false, List, [], ◌∷◌, T, length, get_or, replicate, Float, Ok}
use Rattle.std.specs.Float.{nan, inf, binary32}
use Rattle.std.specs.Float.Ieee.{fits}
use Rattle.std.specs.Float.Ieee.Scale.{finite}
use Rattle.lists.specs.Lists.{tab}
use Rattle.answer.specs.Answer.{Outcome, Answer}
use Rattle.answer.specs.Limits.{parts, step_count, band_limit}
use Rattle.floats.specs.Values.{f32, zero_f}
use Rattle.floats.specs.Fraction.{frac}
use Rattle.floats.specs.Each.{Each, Some}
use Rattle.floats.specs.Between.{Near}
use Rattle.softmax.specs.Softmax.{weights_of}
use Rattle.parts.specs.Parts.{at, total, lt1}
use Rattle.split.specs.Split.{gains_of, distance, level_steps_over, level_steps, split_told, split_out}

-- 1 to 64 levels (`band_limit`), each an f32, none NaN or plus infinity, one at least not minus infinity
pub record Levels (levels : List Float) : Type 0 where
  pub some : 1 ≤ length levels
  pub few : length levels ≤ band_limit
  pub f32s : Each (λ x. T (fits binary32 x)) levels
  pub numbers : Each (λ x. (x ≡ nan → ⊥) × (x ≡ inf false → ⊥)) levels
  pub unmasked : Some (λ x. x ≡ inf true → ⊥) levels

-- Demand 3: the gains add up to exactly 32768 (`parts`), and no list of as many whole numbers with that total lies nearer to the exact shares
-- of the weights rounded to steps of 2^-30 (`distance a l` is the sum of |T l - 32768 a|, for a the weights in steps and T their total).
pub record Demand3 (levels : List Float) (answer : Answer) (gains : List ℕ) : Type 0 where
  pub done : answer ≡ Ok tt
  pub as_many : length gains ≡ length levels
  pub sum : total gains ≡ 32768
  pub near : (others : List ℕ) → length others ≡ length levels → total others ≡ 32768
      → distance (level_steps levels) gains ≤ distance (level_steps levels) others
  -- each weight is a fraction, over / by, and its step is within a half of it times `step_count`; some step is above 0
  pub rounded : (i : ℕ) → i < length levels
      → (let w = frac (get_or (weights_of levels) i nan) in (w.under ≡ 0) × Near (at (level_steps levels) i) (w.over * step_count) w.by)
  pub some : 0 < total (level_steps levels)

-- P holds of such levels, the answer, and what the lent gains are afterwards, as `split`'s promise has them
abbrev pub EachSplit : (List Float → Answer → List ℕ → Type 0) → Type 0
EachSplit P =
    (levels : List Float) (gains : List ℕ) (answer : Answer) (left : List ℕ)
    → Levels levels
    → length gains ≡ length levels
    → Outcome (split_told levels gains) (split_out levels gains) answer left
    → P levels answer left

abbrev pub EveryDemand3 : Type 0
EveryDemand3 = EachSplit Demand3

-- a masked band's gain is 0
abbrev pub MaskedBand : Type 0
MaskedBand = EachSplit (λ levels answer left. (i : ℕ) → i < length levels → get_or levels i nan ≡ inf true → at left i ≡ 0)

-- the call of the levels is done and leaves l, whatever gains of their number are lent
abbrev pub Splits : List Float → List ℕ → Type 0
Splits levels l = (gains : List ℕ) → length gains ≡ length levels → (split_told levels gains ≡ (0, 0)) × (split_out levels gains ≡ l)

-- P holds of n equal finite levels, whatever they are, and of 32768 / n for each, one part more for the first 32768 mod n
abbrev pub EachEqual : (List Float → List ℕ → Type 0) → Type 0
EachEqual P =
    (n : ℕ) (x : Float)
    → 1 ≤ n
    → n ≤ band_limit
    → T (fits binary32 x)
    → T (finite x)
    → P (replicate n x) (tab (λ i. parts / n + lt1 i (parts % n)) n)

-- the call leaves them
abbrev pub EqualBands : Type 0
EqualBands = EachEqual Splits

-- the gains of the levels, were a weight of 1 so many steps
abbrev pub gains_in : ℕ → List Float → List ℕ
gains_in count levels = gains_of (level_steps_over count levels)

-- equal bands have these gains in any number of steps from 64 on
abbrev pub EqualSteps : Type 0
EqualSteps = (count : ℕ) → 64 ≤ count → EachEqual (λ levels l. gains_in count levels ≡ l)

-- so in 2 ^ 24, before request L6, and in 2 ^ 30, by it
abbrev pub EqualAsBefore : Type 0
EqualAsBefore = EachEqual (λ levels l. (gains_in (2 ^ 24) levels ≡ l) × (gains_in (2 ^ 30) levels ≡ l))

-- finer steps do change gains: -0.27 and 0 had 14186 and 18582
abbrev pub Finer : Type 0
Finer =
    let levels = f32 0xbe8a_3d71 ∷ zero_f ∷ [] in
    (gains_in (2 ^ 24) levels ≡ 14186 ∷ 18582 ∷ []) × Splits levels (14185 ∷ 18583 ∷ [])

-- a list of one level, repeated, whatever finite level it is
abbrev pub Equally : (Float → List Float) → List ℕ → Type 0
Equally levels l = (x : Float) → T (fits binary32 x) → T (finite x) → Splits (levels x) l
