-- The table is judged, then its bands, then the lent length; past them it is copied or moved.
use Prim.Native.Nat.{◌<◌}
use mathlib.Core.Path.{refl, sym, ◌∙◌}
use native.Mathlib.Omega.{arith}
use Rattle.std.proofs.Common.{rules}
use Rattle.lists.proofs.Turns.{zip_copy}
use Rattle.block.specs.Kind.{left_out}
use Rattle.block.proofs.Tests.{same_left, other_left}
use Rattle.moving.proofs.Moved.{few_refuse, room_refuses, move_done, moved_copy, moved_is, move_refuses, move_finishes}
use Rattle.moving.proofs.moves.to_form.Goals as goal

pub returns-then-from-left_out : goal.returns-then-from-left_out
returns-then-from-left_out c =
    let k = c.in_ok-from.ensures.known.0 in
    let both = move_refuses (left_out c.args.form) c.args.bytes.now _ _
    (few_refuse _ c.args.bytes.now _ _ _ c.in_ok-from.ensures.told k.bands k.rows (omega (arith, c.left_out.ensures, c.if-from-left_out.true))) in
    record { told = both.0; written = both.1 }

pub returns-then-res-length : goal.returns-then-res-length
returns-then-res-length c =
    let d = left_out c.args.form in
    let k = c.in_ok-from.ensures.known.0 in
    let some : d < c.in_ok-from.from.bands = omega (arith, c.left_out.ensures, c.if-from-left_out.false) in
    let both = move_refuses d c.args.bytes.now _ _
    (room_refuses d c.args.bytes.now _ _ _ c.in_ok-from.ensures.told k.bands k.rows some _ refl (λ z. c.if-res-length.true (z ∙ sym c.length.ensures))) in
    record { told = both.0; written = both.1 }

pub returns-then-eq : goal.returns-then-eq
returns-then-eq c =
    let d = left_out c.args.form in
    let k = c.in_ok-from.ensures.known.0 in
    let some : d < c.in_ok-from.from.bands = omega (arith, c.left_out.ensures, c.if-from-left_out.false) in
    let done = move_done d c.args.bytes.now _ _ _ c.in_ok-from.ensures.told k.bands k.rows some _ refl (c.if-res-length.false ∙ c.length.ensures) in
    let both = move_finishes d c.args.bytes.now c.args.res.now _
    (moved_copy d _ _ c.in_ok-from.ensures.known.1 (same_left _ _ (sym c.eq.ensures ∙ c.if-eq.true)) _ (zip_copy _ _ _ (λ x y h. search rules) c.map_into.ensures)) done in
    record { told = both.0; written = both.1 }

pub returns : goal.returns
returns c =
    let d = left_out c.args.form in
    let k = c.in_ok-from.ensures.known.0 in
    let some : d < c.in_ok-from.from.bands = omega (arith, c.left_out.ensures, c.if-from-left_out.false) in
    let done = move_done d c.args.bytes.now _ _ _ c.in_ok-from.ensures.told k.bands k.rows some _ refl (c.if-res-length.false ∙ c.length.ensures) in
    let both = move_finishes d c.args.bytes.now c.args.res.now _
    (moved_is d _ _ _ _ c.in_ok-from.ensures.known.1 (other_left _ _ (sym c.eq.ensures ∙ c.if-eq.false)) k.bands k.rows _ c.move_all.ensures) done in
    record { told = both.0; written = both.1 }
