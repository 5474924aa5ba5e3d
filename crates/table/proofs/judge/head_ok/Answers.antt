-- Form, number, bands and rows, and the number of blocks, one return for each test.
use Prim.Native.Nat.{◌-◌}
use mathlib.Core.Path.{◌≡◌, sym, ◌∙◌}
use mathlib.Core.Bool.{true≢false}
use native.Mathlib.Omega.{arith}
use Rattle.block.specs.Block.{blocks}
use Rattle.block.specs.Read.{bytes_from, bands_of, rows_of}
use Rattle.block.specs.Kind.{left_out}
use Rattle.block.proofs.Tests.{shape_is, shape_ok_law, head_ok_law, head_not}
use Rattle.table.proofs.judge.head_ok.Goals as goal

pub returns-then-word_at-number : goal.returns-then-word_at-number
returns-then-word_at-number c = head_not _ _ (λ h. c.if-word_at-number.true (c.word_at.ensures.0 ∙ h.form ∙ sym c.number.ensures))

pub returns-then-word_at-k : goal.returns-then-word_at-k
returns-then-word_at-k c = head_not _ _ (λ h. c.if-word_at-k.true (c.word_at-2.ensures.0 ∙ h.number))

pub returns-in_err-t : goal.returns-in_err-t
returns-in_err-t c =
    let none = rw (c.word_at-3.ensures.0, c.word_at-4.ensures.0) at c.in_err-t.ensures in
    rw c.from_residual.ensures (head_not _ _ (λ h. true≢false (sym (shape_ok_law h.shape) ∙ none)))

pub returns-then-k-blocks : goal.returns-then-k-blocks
returns-then-k-blocks c =
    let m = c.in_ok-t.ensures in
    let b : c.in_ok-t.t.bands ≡ bands_of (bytes_from c.args.block.now 0) = m.2 ∙ c.word_at-3.ensures.0 in
    let r : c.in_ok-t.t.rows ≡ rows_of (bytes_from c.args.block.now 0) = m.3 ∙ c.word_at-4.ensures.0 in (
      head_ok_law _ _
          (record {
            form = sym c.word_at.ensures.0 ∙ c.if-word_at-number.false ∙ c.number.ensures;
            number = sym c.word_at-2.ensures.0 ∙ c.if-word_at-k.false;
            shape = shape_is _ _ (rw (c.word_at-3.ensures.0, c.word_at-4.ensures.0) at m.0);
            inside = rw (c.blocks-2.ensures, m.1, b, r) at c.if-k-blocks.true;
          }),
      m.1,
      b,
      r,
    )

pub returns-else-k-blocks : goal.returns-else-k-blocks
returns-else-k-blocks c =
    let m = c.in_ok-t.ensures in
    let f = bytes_from c.args.block.now 0 in
    let b : c.in_ok-t.t.bands ≡ bands_of f = m.2 ∙ c.word_at-3.ensures.0 in
    let r : c.in_ok-t.t.rows ≡ rows_of f = m.3 ∙ c.word_at-4.ensures.0 in
    let e : c.blocks-2.result ≡ blocks (bands_of f - left_out c.args.form) (rows_of f) = rw (m.1, b, r) at c.blocks-2.ensures in
    head_not _ _ (λ h. omega (arith, e, h.inside, c.if-k-blocks.false))
