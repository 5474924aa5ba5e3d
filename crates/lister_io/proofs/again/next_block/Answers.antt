-- A block that passed is one of a table of the form, bands and rows that were asked for.
use Rattle.std.proofs.Common.{sym, ◌∙◌}
use Rattle.block.specs.Kind.{left_out}
use Rattle.block.proofs.Tests.{left_out_small}
use Rattle.table.proofs.Forms.{sound}
use Rattle.table.proofs.Reading.{good, good_stores}
use Rattle.lister_io.proofs.again.next_block.Goals as goal

pub invariant_of-result : goal.invariant_of-result
invariant_of-result g c =
    let j = c.args.j in
    let s = good_stores (sound (left_out j.form) (left_out_small j.form)) (good j.bands j.rows _ _ (sym c.in_ok-block.was ∙ c.block.ensures)) in
    record { stores = s.0 }

pub returns-clause-in_table : goal.returns-clause-in_table
returns-clause-in_table g c =
    let j = c.args.j in
    (good_stores (sound (left_out j.form) (left_out_small j.form)) (good j.bands j.rows _ _ (sym c.in_ok-block.was ∙ c.block.ensures))).1
