-- The length of a table by its form's number, at each of the ways out. Assumes nothing.
use Prim.Native.Nat.{ℕ, ◌+◌, ◌-◌, ◌*◌, ◌≤◌}
use mathlib.Core.Path.{◌≡◌, refl}
use mathlib.Core.Bool.{true, false, ◌||◌}
use native.Mathlib.Decide.{dec_lt}
use native.Mathlib.Omega.{arith}
use lib.Dec.{eqb}
use borrow.Author.Tests.{ne_eqb}
use Rattle.block.specs.Block.{blocks}
use Rattle.block.specs.Write.{shape_ok_by}
use Rattle.table.specs.Release.{form}
use Rattle.moving.specs.Moving.{length_in}

module _ (number B N : ℕ) where
  -- neither 1 nor 2
  pub no_form : (number ≡ 1 → ⊥) → (number ≡ 2 → ⊥) → 0 ≡ length_in number B N
  unfolding length_in
  no_form a b = rw (ne_eqb number 1 a, ne_eqb number 2 b) refl

  -- 1 or 2, whose form leaves out d
  module _ (d : ℕ) (is : number ≡ 1 + d) (few : d ≤ 1) where
    either : (eqb number 1 || eqb number 2) ≡ true
    either = elim (dec_lt number 2) [
      | yes m ↦ let z : number ≡ 1 = omega arith in rw z refl
      | no m ↦ let z : number ≡ 2 = omega arith in rw z refl
    ]

    less : number - 1 ≡ d
    less = omega (arith, is)

    -- and bands or rows outside
    pub no_shape : shape_ok_by (form d) B N ≡ false → 0 ≡ length_in number B N
    unfolding length_in
    no_shape e = rw (either, less, e) refl

    -- or inside
    pub length_is : (n : ℕ) → shape_ok_by (form d) B N ≡ true → n ≡ 512 * blocks (B - d) N → n ≡ length_in number B N
    unfolding length_in
    length_is n e m = rw (either, less, e) m
