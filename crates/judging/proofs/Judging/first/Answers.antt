use mathlib.Core.Path.{◌≡◌, refl}
use Rattle.table.specs.Table.{answer_of}
use Rattle.judging.specs.Judging.{first_of}
use Rattle.judging.proofs.Named.{named_in, first_named, said_is}
use Rattle.judging.proofs.Judging.first.Goals as goal
use Rattle.judging.proofs.Judging.first.Goals.{in-Ok, in-Err}

pub returns : goal.returns
unfolding first_of
returns c =
    let pair : c.match-first_table.want ≡ (named_in c.first_table.result, answer_of c.first_table.result) = elim c.match-first_table.branch [
      | in-Ok w ↦ rw (w.in-Ok.is, w.want-is, w.blocks-in-Ok.ensures) refl
      | in-Err w ↦ rw (w.in-Err.is, w.want-is) refl
    ] in
    rw (
      pair,
      first_named _ _ _ c.form_in-form.ensures c.first_table.ensures.answer c.first_table.ensures.table,
      c.first_table.ensures.answer,
      c.block-body.ensures,
      c.word_at-rows.ensures.0,
      c.word_at-bands.ensures.0,
      c.form_in-form.ensures,
      said_is c.form_in-form.result _ c.form_in-form.ensures,
    )
    refl
