-- Shape, gains, bytes and rows in their order, one return for each; past them the table is stored.
use Prim.Native.Nat.{◌-◌, ◌*◌}
use mathlib.Core.Path.{◌≡◌, sym, ap, ◌∙◌}
use mathlib.Core.Bool.{not}
use native.Mathlib.Omega.{arith}
use borrow.Author.Tests.{eq-eqb, ne_eqb}
use Rattle.answer.specs.declared.Refusal.TheVariants.{RowTotal}
use Rattle.answer.proofs.Chain.{stop, skip, clear, found_at, found_nowhere}
use Rattle.block.specs.Block.{blocks}
use Rattle.block.specs.Write.{bad_row}
use Rattle.block.specs.Kind.{left_out}
use Rattle.table.proofs.Told.{write_refuses, write_finishes}
use Rattle.table.proofs.write.Goals as goal

pub returns-in_default : goal.returns-in_default
returns-in_default c =
    let both = write_refuses _ _ _ _ (stop (ap not c.in_default.ensures)) in
    record { told = both.0; written = both.1 }

pub returns-then-gains-t : goal.returns-then-gains-t
returns-then-gains-t c =
    let m = c.in-Some.ensures in
    let both = write_refuses c.args.bands c.args.rows c.args.gains.now c.args.bytes.now
    (skip (ap not m.0) (stop (ap not (ne_eqb _ _ (λ z. c.if-gains-t.true (rw (m.2, m.3) z)))))) in
    record { told = both.0; written = both.1 }

pub returns-then-bytes-length : goal.returns-then-bytes-length
returns-then-bytes-length c =
    let m = c.in-Some.ensures in
    let k : left_out c.in-Some.t.form ≡ 0 = ap left_out m.1 in
    let z : c.in-Some.t.bands - left_out c.in-Some.t.form ≡ c.args.bands = omega (arith, k, m.2) in
    let e : c.length.result ≡ 512 * blocks c.args.bands c.args.rows = rw (z, m.3) at c.length.ensures in
    let both = write_refuses c.args.bands c.args.rows c.args.gains.now c.args.bytes.now
    (skip (ap not m.0) (skip (ap not (eq-eqb _ _ (rw (m.2, m.3) at c.if-gains-t.false))) (stop (ap not (ne_eqb _ _ (λ y. c.if-bytes-length.true (y ∙ sym e))))))) in
    record { told = both.0; written = both.1 }

pub returns-in-Some-bad_row : goal.returns-in-Some-bad_row
unfolding bad_row
returns-in-Some-bad_row c =
    let m = c.in-Some.ensures in
    let k : left_out c.in-Some.t.form ≡ 0 = ap left_out m.1 in
    let z : c.in-Some.t.bands - left_out c.in-Some.t.form ≡ c.args.bands = omega (arith, k, m.2) in
    let e : c.length.result ≡ 512 * blocks c.args.bands c.args.rows = rw (z, m.3) at c.length.ensures in
    let both = write_refuses c.args.bands c.args.rows c.args.gains.now c.args.bytes.now
    (skip (ap not m.0) (skip (ap not (eq-eqb _ _ (rw (m.2, m.3) at c.if-gains-t.false))) (skip (ap not (eq-eqb _ _ (c.if-bytes-length.false ∙ e)))
    (found_at RowTotal _ _ c.in-Some-bad_row.bad (rw (m.2, m.3) at (sym c.in-Some-bad_row.is ∙ c.bad_row.ensures)))))) in
    record { told = both.0; written = both.1 }

pub returns : goal.returns
unfolding bad_row
returns c =
    let m = c.in-Some.ensures in
    let k : left_out c.in-Some.t.form ≡ 0 = ap left_out m.1 in
    let z : c.in-Some.t.bands - left_out c.in-Some.t.form ≡ c.args.bands = omega (arith, k, m.2) in
    let e : c.length.result ≡ 512 * blocks c.args.bands c.args.rows = rw (z, m.3) at c.length.ensures in
    let both = write_finishes c.args.bands c.args.rows c.args.gains.now c.args.bytes.now (rw (c.number-form.ensures, c.width.ensures, z, k, m.2, m.3) at c.write_all.ensures)
    (skip (ap not m.0) (skip (ap not (eq-eqb _ _ (rw (m.2, m.3) at c.if-gains-t.false))) (skip (ap not (eq-eqb _ _ (c.if-bytes-length.false ∙ e)))
    (found_nowhere _ _ (rw (m.2, m.3) at (sym c.in_default-bad_row.is ∙ c.bad_row.ensures)) clear)))) in
    record { told = both.0; written = both.1 }
