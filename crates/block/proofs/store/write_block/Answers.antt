-- The first j numbers of the block are in its bytes; then its two checks, which are those of the 508 bytes before them.
use Prim.Native.Nat.{ℕ, ◌+◌, ◌-◌, ◌*◌, ◌<◌}
use mathlib.Core.Path.{◌≡◌, refl, ◌∙◌}
use native.Mathlib.Omega.{arith}
use lib.ListN.{take, drop}
use Rattle.block.specs.Read.{bytes_from}
use Rattle.block.proofs.Bytes.{check_a_same, check_b_same}
use Rattle.block.proofs.Cut.{part_at}
use Rattle.block.proofs.Storing.{block_more, block_sealed}
use Rattle.block.proofs.store.write_block.Goals as goal

pub loop-j-preserved : goal.loop-j-preserved
loop-j-preserved c =
    let z : 512 * c.args.k + 2 * c.loop-j.j + 2 ≡ 512 * c.args.k + 2 * (c.loop-j.j + 1) = omega arith in
    rw z at (block_more _ _ _ _ _ _ _ _ c.loop-j.invariant refl (omega (arith, c.loop-j-test.true)) c.requires.1 c.block_word-w.ensures c.put_word.ensures)

pub returns : goal.returns
returns c =
    let n = 512 * c.args.k + 512 - 512 * c.args.k in
    let own = take n (drop (512 * c.args.k) c.loop-j.bytes) in
    let part : (i : ℕ) → i < 508 → bytes_from own 0 i ≡ bytes_from c.loop-j.bytes (512 * c.args.k) i = λ i l. part_at c.loop-j.bytes n (512 * c.args.k) i (omega (arith, l)) in
    block_sealed _ _ _ _ _ _ _ _ _ c.loop-j.invariant (omega (arith, c.loop-j-test.false, c.loop-j.auto.j-end)) c.requires.1
    (c.sums-c.ensures.0 ∙ check_a_same _ _ part) (c.sums-c.ensures.1 ∙ check_b_same _ _ part) c.put_word-2.ensures c.put_word-3.ensures
