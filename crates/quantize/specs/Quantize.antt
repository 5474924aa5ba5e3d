-- quantize.rs, to u8 (RULES, Quantize): the code of an element, and what the call answers and leaves. Definitions only.
use Rattle.std.specs.Prelude.{ℕ, ◌+◌, ◌-◌, ◌*◌, min, Bool, true, false, not, List, [], ◌∷◌, map, eqb, ltb, length, Float}
use Rattle.std.specs.Float.{nan, inf, fin, binary32}
use Rattle.std.specs.Float.Ieee.{up, down, mul}
use Rattle.std.specs.Float.Ieee.Nearest.{closest}
use Rattle.std.specs.Float.Ieee.Scale.{finite}
use Rattle.floats.specs.Floats.{first_not_finite}
use Rattle.answer.specs.Answer.{Test, judged, when_done, told_of}
use Rattle.answer.specs.Limits.{element_limit}
use Rattle.answer.specs.Answer.{Answer}
use Rattle.answer.specs.declared.Refusal.TheVariants.{Length, TooMany, NotFinite, Domain}

-- a zero point zp of 0..255, less n (true) or plus n (false), held to 0..255
abbrev pub moved : Bool → ℕ → ℕ → ℕ
moved true zp n = zp - n
moved false zp n = min (zp + n) 255

-- The product y to the nearest whole number, ties to even; plus zero point; held. `closest` is that number for y's size, m * up e / down e.
-- An infinity saturates by its sign. No product of finite numbers is a NaN (`product_number`, proofs/Nearest.antt): its case is what the code's
-- last line gives.
unfoldable pub clamp_of : ℕ → Float → ℕ
clamp_of zp nan = 255
clamp_of zp (inf true) = 0
clamp_of zp (inf false) = 255
clamp_of zp (fin s m e) = moved s zp (closest (m * up e) (down e))

-- x times inv_scale, rounded; to the nearest whole number; plus zero point; held to 0..255
abbrev pub code_of : Float → ℕ → Float → ℕ
code_of inv zp x = clamp_of zp (mul binary32 x inv)

-- refusals 1, 2, 3, 4
abbrev pub tests : Float → List Float → List ℕ → List Test
tests inv s d =
    (not (eqb (length s) (length d)), Length)
    ∷ (ltb element_limit (length s), TooMany)
    ∷ (not (finite inv), NotFinite)
    ∷ (ltb (first_not_finite s) (length s), Domain (first_not_finite s))
    ∷ []

unfoldable pub quantize_answer : Float → List Float → List ℕ → Answer
quantize_answer inv s d = judged (tests inv s d)

-- what the call tells, and what it leaves in d
abbrev pub quantize_told : Float → List Float → List ℕ → ℕ × ℕ
quantize_told inv s d = told_of (quantize_answer inv s d)

abbrev pub quantize_out : Float → ℕ → List Float → List ℕ → List ℕ
quantize_out inv zp s d = when_done (quantize_answer inv s d) (map (code_of inv zp) s) d

-- ---- for the code
-- the whole steps from 0 to y, either way, with 256 for all from there on
abbrev pub code_steps : Float → ℕ
code_steps nan = 256
code_steps (inf s) = 256
code_steps (fin s m e) = min (closest (m * up e) (down e)) 256
