-- The length, then the block's own tests by its own header and form; where it passes, the header's numbers are told.
use Prim.Native.Nat.{◌-◌}
use mathlib.Core.Path.{sym, ◌∙◌}
use native.Mathlib.Omega.{arith}
use Rattle.std.proofs.lemmas.Result.{err_from_is_err_and}
use Rattle.block.proofs.Shape.{held_le}
use Rattle.block.proofs.Tests.{left_out_small}
use Rattle.table.specs.Release.{form_of}
use Rattle.table.proofs.Reading.{good, good_stores, long_refuses, block_answers}
use Rattle.table.proofs.Told.{block_tells}
use Rattle.table.proofs.Forms.{sound, block_by}
use Rattle.table.proofs.read_block.Goals as goal

pub returns-then-bytes-ne512 : goal.returns-then-bytes-ne512
returns-then-bytes-ne512 c =
    record { told = block_tells (form_of c.args.bytes.now) c.args.number c.args.bytes.now _ (long_refuses _ _ _ c.if-bytes-ne512.true) }

pub returns-in_err-block : goal.returns-in_err-block
returns-in_err-block c =
    let p = err_from_is_err_and c.from_residual.result c.from_residual.ensures.1 in
    record {
      told = rw (p.1, p.2)
          (block_tells (form_of c.args.bytes.now) c.args.number c.args.bytes.now _
          (block_answers _ _ _ _ _ _ c.if-bytes-ne512.false c.word_at-bands.ensures.0 c.word_at-rows.ensures.0
          (sym c.in_err-block.was ∙ c.block.ensures ∙ block_by c.form_in-form.ensures _ _ _ _)));
    }

pub overflow_sub-bands : goal.overflow_sub-bands
overflow_sub-bands c =
    let g = good_stores (sound _ (left_out_small c.form_in-form.result)) (good _ _ _ _ (sym c.in_ok-block.was ∙ c.block.ensures)) in
    omega (arith, c.left_out.ensures, g.0.fits.some)

pub held_in-requires : goal.held_in-requires
held_in-requires c =
    let g = good_stores (sound _ (left_out_small c.form_in-form.result)) (good _ _ _ _ (sym c.in_ok-block.was ∙ c.block.ensures)) in
    rw c.left_out.ensures (g.0.fits, g.1)

pub overflow_cast-result-5 : goal.overflow_cast-result-5
overflow_cast-result-5 c =
    omega (arith, c.held_in.ensures, held_le (c.word_at-bands.result - c.left_out.result) c.word_at-rows.result c.args.number)

pub returns : goal.returns
returns c =
    record {
      told = rw (
        c.held_in.ensures,
        c.left_out.ensures,
        c.form_in-form.ensures,
        c.word_at-bands.ensures.0,
        c.word_at-rows.ensures.0,
        c.word_at.ensures.0,
        c.word_at-2.ensures.0,
      )
          (block_tells (form_of c.args.bytes.now) c.args.number c.args.bytes.now _
          (block_answers _ _ _ _ _ _ c.if-bytes-ne512.false c.word_at-bands.ensures.0 c.word_at-rows.ensures.0
          (sym c.in_ok-block.was ∙ c.block.ensures ∙ block_by c.form_in-form.ensures _ _ _ _)));
    }
