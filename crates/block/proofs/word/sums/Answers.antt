-- The two sums so far are those of the first i bytes, and small enough for 32 bits.
use Prim.Native.Nat.{ℕ, ◌+◌, ◌*◌, ◌%◌, ◌≤◌, ◌<◌}
use mathlib.Core.Path.{◌≡◌, ap, ◌∙◌}
use native.Mathlib.Nat.{mul-le-mul_right, suc-mul}
use native.Mathlib.Omega.{arith}
use mathlib.Core.List.{List}
use lib.ListN.{length, get_or, take, length-take}
use Rattle.lists.specs.Lists.{sum_to}
use Rattle.lists.proofs.Sum.{sum_none, sum_more}
use Rattle.block.specs.Block.{check_a, check_b}
use Rattle.block.specs.Read.{bytes_from}
use Rattle.block.proofs.Cut.{front_at, byte_small}
use Rattle.block.proofs.word.sums.Goals as goal

-- what one byte adds
module _ (s : List ℕ) (bytes : (j : ℕ) → get_or s j 0 < 256) (i : ℕ) (l : i < length (take 508 s)) where
  in_front : i < 508
  in_front = omega (arith, l, length-take 508 s)

  low : get_or (take 508 s) i 0 ≤ 255
  low = omega (arith, byte_small s 508 i bytes in_front)

  weighted : (i + 1) * get_or (take 508 s) i 0 ≤ 129540
  weighted = omega (arith, mul-le-mul_right (get_or (take 508 s) i 0) in_front, suc-mul i (get_or (take 508 s) i 0), low)

pub loop-i-init : goal.loop-i-init
loop-i-init c = (sum_none _, sum_none _, omega arith, omega arith)

pub overflow_add-a : goal.overflow_add-a
overflow_add-a c =
    let l = c.loop-i-test.true in
    let bytes : (j : ℕ) → get_or c.args.block.now j 0 < 256 = λ j. omega (arith, c.type_inv.block j) in
    omega (arith, c.loop-i.invariant.2, in_front _ bytes _ l, low _ bytes _ l)

pub overflow_mul-b : goal.overflow_mul-b
overflow_mul-b c =
    let bytes : (j : ℕ) → get_or c.args.block.now j 0 < 256 = λ j. omega (arith, c.type_inv.block j) in
    omega (arith, weighted _ bytes _ c.loop-i-test.true)

pub overflow_add-b-in-loop-i : goal.overflow_add-b-in-loop-i
overflow_add-b-in-loop-i c =
    let l = c.loop-i-test.true in
    let bytes : (j : ℕ) → get_or c.args.block.now j 0 < 256 = λ j. omega (arith, c.type_inv.block j) in
    omega (arith, c.loop-i.invariant.3, in_front _ bytes _ l, weighted _ bytes _ l)

pub loop-i-preserved : goal.loop-i-preserved
loop-i-preserved c =
    let i = c.loop-i.i in
    let l = c.loop-i-test.true in
    let bytes : (j : ℕ) → get_or c.args.block.now j 0 < 256 = λ j. omega (arith, c.type_inv.block j) in
    let read : get_or (take 508 c.args.block.now) i 0 ≡ bytes_from c.args.block.now 0 i = front_at c.args.block.now 508 i (in_front _ bytes _ l) in (
      sum_more _ _ _ _ c.loop-i.invariant.0 read,
      sum_more _ _ _ _ c.loop-i.invariant.1 (ap (λ (x : ℕ). (i + 1) * x) read),
      omega (arith, low _ bytes _ l, c.loop-i.invariant.2),
      omega (arith, weighted _ bytes _ l, c.loop-i.invariant.3),
    )

pub returns : goal.returns
unfolding check_a check_b
returns c =
    let e : c.loop-i.i ≡ 508 = omega (arith, c.loop-i-test.false, c.loop-i.auto.i-end, c.requires, length-take 508 c.args.block.now) in (
      ap (λ (x : ℕ). x % 65536) (c.loop-i.invariant.0 ∙ ap (sum_to _) e),
      ap (λ (x : ℕ). x % 65536) (c.loop-i.invariant.1 ∙ ap (sum_to _) e),
    )
