-- The first row that does not add up, by its stored gains, then the unused bytes.
use Prim.Native.Nat.{ℕ, ◌+◌, ◌-◌, ◌*◌, ◌≤◌}
use mathlib.Core.Path.{sym, ap, ◌∙◌}
use mathlib.Core.Bool.{not}
use native.Mathlib.Nat.{mul_comm}
use native.Mathlib.Omega.{arith}
use Rattle.lists.proofs.Found.{some_first}
use Rattle.answer.specs.declared.Refusal.TheVariants.{RowTotal}
use Rattle.answer.proofs.Chain.{gives, stop, skip, clear, found_at, found_nowhere}
use Rattle.block.specs.Block.{per_block}
use Rattle.block.specs.Write.{bad_row}
use Rattle.block.specs.Read.{row_tests_by}
use Rattle.block.specs.Kind.{left_out}
use Rattle.block.proofs.Shape.{per_pos, blocks_lt, held_small, held_le}
use Rattle.table.proofs.judge.rows_of.Goals as goal

pub bad_row_at-requires : goal.bad_row_at-requires
bad_row_at-requires c =
    let room : c.held-n.result * (c.args.t.bands - left_out c.args.t.form) ≤ 250 = rw c.held-n.ensures (held_small _ _ _) in
    (omega (arith, room, c.requires.0), omega (arith, c.args.t.stores.fits.some), c.args.t.stores.bands)

pub overflow_mul-result : goal.overflow_mul-result
overflow_mul-result c =
    let W = c.args.t.bands - left_out c.args.t.form in
    let st = c.args.t.stores.fits in
    rw c.per_block.ensures
    (omega (arith, mul_comm c.args.k (per_block W), blocks_lt W c.args.t.rows c.args.k (per_pos W st.some st.most) c.requires.1, st.rows))

pub overflow_add-result : goal.overflow_add-result
overflow_add-result c =
    let W = c.args.t.bands - left_out c.args.t.form in
    let st = c.args.t.stores.fits in
    let bad = some_first _ _ c.in-Some.bad (sym c.in-Some.is ∙ c.bad_row_at.ensures) in
    rw c.per_block.ensures
    (omega (
      arith,
      held_le W c.args.t.rows c.args.k,
      c.held-n.ensures,
      bad.1,
      mul_comm c.args.k (per_block W),
      blocks_lt W c.args.t.rows c.args.k (per_pos W st.some st.most) c.requires.1,
      st.rows,
    ))

pub returns-in-Some : goal.returns-in-Some
unfolding row_tests_by bad_row
returns-in-Some c =
    let W = c.args.t.bands - left_out c.args.t.form in
    rw c.per_block.ensures
    (gives (found_at (λ (b : ℕ). RowTotal (c.args.k * per_block W + b)) _ _ c.in-Some.bad (rw c.held-n.ensures at (sym c.in-Some.is ∙ c.bad_row_at.ensures))))

pub overflow_mul-n : goal.overflow_mul-n
overflow_mul-n c =
    let room : c.held-n.result * (c.args.t.bands - left_out c.args.t.form) ≤ 250 = rw c.held-n.ensures (held_small _ _ _) in
    rw c.width.ensures (omega (arith, room))

pub overflow_mul-n-2 : goal.overflow_mul-n-2
overflow_mul-n-2 c =
    let room : c.held-n.result * (c.args.t.bands - left_out c.args.t.form) ≤ 250 = rw c.held-n.ensures (held_small _ _ _) in
    rw c.width.ensures (omega (arith, room))

pub overflow_add-n : goal.overflow_add-n
overflow_add-n c =
    let room : c.held-n.result * (c.args.t.bands - left_out c.args.t.form) ≤ 250 = rw c.held-n.ensures (held_small _ _ _) in
    rw c.width.ensures (omega (arith, room))

pub is_blank-requires : goal.is_blank-requires
is_blank-requires c =
    let room : c.held-n.result * (c.args.t.bands - left_out c.args.t.form) ≤ 250 = rw c.held-n.ensures (held_small _ _ _) in
    (c.requires.0, rw c.width.ensures (omega (arith, room)))

pub returns-then-not-is_blank : goal.returns-then-not-is_blank
unfolding row_tests_by bad_row
returns-then-not-is_blank c =
    let unused = rw (c.held-n.ensures, c.width.ensures) at c.is_blank.ensures in
    gives
    (found_nowhere _ _ (rw c.held-n.ensures at (sym c.in_default.is ∙ c.bad_row_at.ensures)) (stop (ap not (sym unused ∙ c.if-not-is_blank.true))))

pub returns : goal.returns
unfolding row_tests_by bad_row
returns c =
    let unused = rw (c.held-n.ensures, c.width.ensures) at c.is_blank.ensures in
    gives
    (found_nowhere _ _ (rw c.held-n.ensures at (sym c.in_default.is ∙ c.bad_row_at.ensures)) (skip (ap not (sym unused ∙ c.if-not-is_blank.false)) clear))
