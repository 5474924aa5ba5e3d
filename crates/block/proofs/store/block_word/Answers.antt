-- Each number of the block by its place: the four of the header, a stored gain, whose index lies inside the rows' gains, or 0.
use Prim.Native.Nat.{◌+◌, ◌-◌, ◌*◌}
use mathlib.Core.Path.{◌≡◌, sym, ap, ◌∙◌}
use native.Mathlib.Omega.{arith}
use Rattle.block.specs.Block.{per_block, block_word, stored}
use Rattle.block.proofs.Shape.{per_pos, few_blocks}
use Rattle.block.proofs.Bytes.{word_in, word_out}
use Rattle.block.proofs.store.block_word.Goals as goal

pub returns-then-j-eq0 : goal.returns-then-j-eq0
unfolding block_word
returns-then-j-eq0 c = rw c.if-j-eq0.true

pub overflow_cast-result : goal.overflow_cast-result
overflow_cast-result c = omega (arith, few_blocks _ _ _ (per_pos _ c.requires.0.stores.fits.some c.requires.0.stores.fits.most) c.requires.0.inside)

pub returns-then-j-eq1 : goal.returns-then-j-eq1
unfolding block_word
returns-then-j-eq1 c = rw c.if-j-eq1.true

pub returns-then-j-eq2 : goal.returns-then-j-eq2
unfolding block_word
returns-then-j-eq2 c = rw c.if-j-eq2.true

pub returns-then-j-eq3 : goal.returns-then-j-eq3
unfolding block_word
returns-then-j-eq3 c = rw c.if-j-eq3.true

pub returns-then-j-count : goal.returns-then-j-count
unfolding stored
returns-then-j-count c = let a = c.args in
    let from = a.k * (per_block a.width * a.width) in
    let z : a.j - 4 ≡ from + (a.j - 4) - from = omega arith in
    ap (stored a.width a.bands a.gains.now) z ∙ sym (word_in _ _ _ _ _ _ _ (omega arith) (omega arith))

pub returns : goal.returns
returns c = sym (word_out _ _ _ _ _ _ _ (omega arith) (omega arith))
