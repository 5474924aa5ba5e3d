-- For x from -104 to 104 the pattern of x * INV_LOG2 + ROUNDING_MAGIC, less that of ROUNDING_MAGIC, is the word of k. Assumes nothing.
use mathlib.Core.Path.{◌≡◌, refl, sym, ap, ◌∙◌, subst}
use mathlib.Core.Logic.{◌⊎◌, inl, inr}
use mathlib.Core.Bool.{Bool, true, false, cond, not}
use Prim.Native.Nat.{ℕ, ◌%◌, ◌^◌}
use lib.Dec.{T}
use lib.IntN.{pos}
use lib.Ieee.{Float, nan, inf, fin, binary32, add, mul, sum, lt, le, eq, is_nan, of_bits, to_bits}
use lib.Ieee.Bits.{is_true}
use lib.Ieee.Fits.{add-fits}
use Rattle.floats.specs.Values.{zero_f}
use Rattle.consts.specs.Consts.{inv_log2, rounding_magic, exp_overflow, exp_underflow, exp_lower_cutoff}
use Rattle.floats.specs.Floats.{mul_add}
use Rattle.floats.specs.Words.{sub_word, trunc_word, above0}
use Rattle.floats.proofs.Monotone.{mul_mono_r, add_mono}
use Rattle.floats.proofs.NoNan.{add_number, mul_number}
use Rattle.floats.proofs.Order.{le_numbers, le_trans_f, not_le, not_lt, finite_between}
use Rattle.exp.specs.Exp.{j_of, ia_of}
use Rattle.floats.proofs.Line.{OnLine, on_line, line_word}

-- x from -104 to 104
abbrev pub InRange : Float → Type 0
InRange x = T (le exp_underflow x) × T (le x exp_overflow)

-- what is read in place of x: x itself, in range, or the least for a NaN
abbrev pub Reads : Float → Float → Float → Type 0
Reads least x y = ((y ≡ x) × InRange x) ⊎ ((x ≡ nan) × (y ≡ least))

number : (least x y : Float) → y ≡ cond (le least x) x least → T (le least x) × InRange x → Reads least x y
number least x y e h = inl (e ∙ ap (λ b. cond b x least) (is_true (le least x) h.0), h.1)

le_nan : (x : Float) → le x nan ≡ false
unfolding le lt eq
le_nan nan = refl
le_nan (inf s) = refl
le_nan (fin s m e) = refl

-- by `at_least`, where a number that passes the tests is in range
reads : (least x y : Float) → y ≡ cond (le least x) x least → (T (not (is_nan x)) → T (le least x) × InRange x) → Reads least x y
unfolding is_nan
reads least nan y e h = inr (refl, e ∙ ap (λ b. cond b nan least) (le_nan least))
reads least (inf s) y e h = number least (inf s) y e (h tt)
reads least (fin s m d) y e h = number least (fin s m d) y e (h tt)

-- what `exp_within` takes
pub exp_reads : (x y : Float) → le x exp_underflow ≡ false → le exp_overflow x ≡ false → y ≡ cond (le exp_underflow x) x exp_underflow
    → Reads exp_underflow x y
unfolding is_nan of_bits
exp_reads x y lo hi e =
    reads exp_underflow x y e (λ N. let at = not_le x exp_underflow N tt lo in (at, (at, not_le exp_overflow x tt N hi)))

-- past the test of `reduced_range_exp`, x not above zero
pub reduced_reads : (x y : Float) → lt zero_f x ≡ false → lt x exp_lower_cutoff ≡ false → y ≡ cond (le exp_lower_cutoff x) x exp_lower_cutoff
    → Reads exp_lower_cutoff x y
unfolding is_nan of_bits le lt eq
reduced_reads x y z lo e =
    reads exp_lower_cutoff x y e
    (λ N.
    let at = not_lt x exp_lower_cutoff N tt lo in
    (at, (le_trans_f exp_underflow exp_lower_cutoff x tt at, le_trans_f x zero_f exp_overflow (not_lt zero_f x tt N z) tt)))

pub reads_range : (least x y : Float) → InRange least → Reads least x y → InRange y
reads_range least x y r (inl h) = subst InRange (sym h.0) h.1
reads_range least x y r (inr h) = subst InRange (sym h.1) r

-- what is read is a number, past the ends too, and so is the sum whose pattern it is
pub read_number : (least x y : Float) → T (not (is_nan least)) → y ≡ cond (le least x) x least → T (not (is_nan (mul_add y inv_log2 rounding_magic)))
unfolding of_bits is_nan
read_number least x y L e =
    add_number binary32 (mul binary32 y inv_log2) rounding_magic
    (mul_number binary32 y inv_log2 (subst (λ (z : Float). T (not (is_nan z))) (sym e) (go (le least x) (λ t. (le_numbers least x t).1))) tt
    (inr (unfold eq in tt)) (inl tt)) tt (inr tt)
  where
    go : (b : Bool) → (T b → T (not (is_nan x))) → T (not (is_nan (cond b x least)))
    go true h = h tt
    go false h = L

-- what is worked out from both doesn't show it, where a NaN comes through
pub reads_same : (g : Float → Float → Float) (least x y : Float) → g nan least ≡ g nan nan → Reads least x y → g x y ≡ g x x
reads_same g least x y n (inl h) = ap (g x) h.0
reads_same g least x y n (inr h) = rw (h.0, h.1) n

-- ---- the sum
module _ (x : Float) (r : InRange x) where
  abbrev shifted : Float
  shifted = mul_add x inv_log2 rounding_magic

  -- with x at its ends it is a number on the line, and it grows with x
  shifted_line : OnLine shifted
  unfolding of_bits le lt eq add mul sum
  shifted_line =
      let bot = mul binary32 exp_underflow inv_log2 in
      let top = mul binary32 exp_overflow inv_log2 in
      let y = mul binary32 x inv_log2 in
      let X = finite_between exp_underflow x exp_overflow tt tt r.0 r.1 in
      let lo = mul_mono_r binary32 exp_underflow x inv_log2 tt X tt tt r.0 in
      let hi = mul_mono_r binary32 x exp_overflow inv_log2 X tt tt tt r.1 in
      let Y = finite_between bot y top tt tt lo hi in
      let from = add_mono binary32 bot y rounding_magic rounding_magic tt Y tt tt lo tt in
      let to = add_mono binary32 y top rounding_magic rounding_magic Y tt tt tt hi tt in
      on_line shifted (add-fits binary32 y rounding_magic)
      (le_trans_f (fin false 1 (pos 23)) (add binary32 bot rounding_magic) shifted tt from)
      (le_trans_f shifted (add binary32 top rounding_magic) (fin false 16777215 (pos 0)) to tt)

  -- its pattern, less that of ROUNDING_MAGIC, is the word of k
  pub shifted_word : sub_word (to_bits binary32 shifted) 0x4b40_0000 ≡ trunc_word (j_of x)
  shifted_word = line_word shifted shifted_line (add-fits binary32 (mul binary32 x inv_log2) rounding_magic)

-- the low 23 bits of `ia` are zero
pub ia_low : (k : ℕ) → ia_of k % 2 ^ 23 ≡ 0
ia_low k = go (above0 k)
  where
    go : (b : Bool) → cond b 0 0x8300_0000 % 2 ^ 23 ≡ 0
    go true = refl
    go false = refl
