-- The sums by hand, those that are proved, as one table and one claim: every case of the list holds of what the public calls tell and leave.
-- Statements only.
use Rattle.std.specs.Prelude.{ℕ, ◌≡◌, true, false, List, [], ◌∷◌, ◌++◌, length, replicate, Float}
use Rattle.std.specs.Float.{inf}
use Rattle.floats.specs.Values.{f32, zero_f, one_f, half_f}
use Rattle.unary.specs.Unary.{apply_told, apply_out}
use Rattle.unary.specs.declared.Op.{Op}
use Rattle.unary.specs.declared.Op.TheVariants.{Exp, ReducedRangeExp, Tanh}
use Rattle.quantize.specs.Quantize.{quantize_told, quantize_out}
use Rattle.split_facts.specs.SplitFacts.{Equally}
use Rattle.table.specs.Release.{write_told, write_out}
use Rattle.lister_core.specs.Lister.{listed}

-- levels, which may name one finite level x, whatever it is, and gains; an operator, elements and results; inv_scale, zero point, elements and codes;
-- bands, rows, gains and the bytes of their table; the bytes of a table and the lister's text
pub data Case : Type 0 where
  split : (Float → List Float) → List ℕ → Case
  operator : Op → List Float → List Float → Case
  quantize : Float → ℕ → List Float → List ℕ → Case
  stored : ℕ → ℕ → List ℕ → List ℕ → Case
  shown : List ℕ → List ℕ → Case

-- the call is done and leaves what the case says, whatever of the right length is lent
abbrev pub Holds : Case → Type 0
Holds (split levels gains) = Equally levels gains
Holds (operator op s l) = (d : List Float) → length d ≡ length s → (apply_told op s d ≡ (0, 0)) × (apply_out op s d ≡ l)
Holds (quantize inv zp s l) = (d : List ℕ) → length d ≡ length s → (quantize_told inv s d ≡ (0, 0)) × (quantize_out inv zp s d ≡ l)
Holds (stored B N gains l) = (d : List ℕ) → length d ≡ length l → (write_told B N gains d ≡ (0, 0)) × (write_out B N gains d ≡ l)
Holds (shown s text) = listed s ≡ text

-- the table of one band, one row, 32768
abbrev pub one_band : List ℕ
one_band = 0x01 ∷ 0x00 ∷ 0x00 ∷ 0x00 ∷ 0x01 ∷ 0x00 ∷ 0x01 ∷ 0x00 ∷ 0x00 ∷ 0x80 ∷ replicate 498 0 ++ (0x83 ∷ 0x00 ∷ 0x0D ∷ 0x05 ∷ [])

-- `bands 1 rows 1` and `0 32768`, each with its line feed, in ASCII
abbrev pub two_lines : List ℕ
two_lines =
    98 ∷ 97 ∷ 110 ∷ 100 ∷ 115 ∷ 32 ∷ 49 ∷ 32 ∷ 114 ∷ 111 ∷ 119 ∷ 115 ∷ 32 ∷ 49 ∷ 10 ∷ 48 ∷ 32 ∷ 51 ∷ 50 ∷ 55 ∷ 54 ∷ 56 ∷ 10 ∷ []

-- in the order of RULES, Worked; -100 is 0xc2c80000, 104 is 0x42d00000, -104 is 0xc2d00000;
-- 1.5, 2.5, -1, 300 and -0.5 are 0x3fc00000, 0x40200000, 0xbf800000, 0x43960000 and 0xbf000000
abbrev pub cases : List Case
cases =
    split (λ x. zero_f ∷ []) (32768 ∷ [])
    ∷ split (λ x. zero_f ∷ zero_f ∷ []) (16384 ∷ 16384 ∷ [])
    ∷ split (λ x. x ∷ x ∷ x ∷ []) (10923 ∷ 10923 ∷ 10922 ∷ [])
    ∷ split (λ x. x ∷ x ∷ x ∷ x ∷ x ∷ []) (6554 ∷ 6554 ∷ 6554 ∷ 6553 ∷ 6553 ∷ [])
    ∷ split (λ x. zero_f ∷ f32 0xc2c8_0000 ∷ []) (32768 ∷ 0 ∷ [])
    ∷ split (λ x. zero_f ∷ inf true ∷ zero_f ∷ []) (16384 ∷ 0 ∷ 16384 ∷ [])
    ∷ operator ReducedRangeExp (zero_f ∷ []) (one_f ∷ [])
    ∷ operator Exp (f32 0x42d0_0000 ∷ []) (inf false ∷ [])
    ∷ operator Exp (f32 0xc2d0_0000 ∷ []) (zero_f ∷ [])
    ∷ operator Tanh (zero_f ∷ []) (zero_f ∷ [])
    ∷ quantize one_f 0 (half_f ∷ f32 0x3fc0_0000 ∷ f32 0x4020_0000 ∷ f32 0xbf80_0000 ∷ f32 0x4396_0000 ∷ []) (0 ∷ 2 ∷ 2 ∷ 0 ∷ 255 ∷ [])
    ∷ quantize one_f 128 (f32 0xbf00_0000 ∷ []) (128 ∷ [])
    ∷ stored 1 1 (32768 ∷ []) one_band
    ∷ shown one_band two_lines
    ∷ []

-- every case of a list
abbrev pub All : List Case → Type 0
All [] = Unit {0}
All (c ∷ cs) = Holds c × All cs

abbrev pub Worked : Type 0
Worked = All cases
