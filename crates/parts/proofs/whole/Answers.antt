-- The first i whole parts and keys are stored, and the sum of the whole parts so far is the definition's and fits 64 bits.
use Rattle.std.proofs.Common.{◌≡◌, ◌≤◌, ◌+◌, ◌*◌, ◌-◌, ◌/◌, ◌%◌, ap₂}
use native.Mathlib.Nat.{div-le_self}
use native.Mathlib.Omega.{arith}
use Rattle.lists.proofs.Placed.{placed_none, filled_more, filled_all}
use Rattle.lists.proofs.Sum.{sum_none, sum_more}
use Rattle.parts.specs.Parts.{share, most, key}
use Rattle.parts.proofs.Shares.{product_small, share_fits}
use Rattle.parts.proofs.whole.Goals as goal

pub loop-i-init : goal.loop-i-init
loop-i-init c = record { used = sum_none _; small = omega arith; keys = placed_none _ _ _; gains = placed_none _ _ _ }

pub overflow_cast-gains : goal.overflow_cast-gains
overflow_cast-gains c =
    let N = c.args.parts in
    let a = c.args.a.now in
    let quotient : (N * c.from.result) / c.sum-t.result ≡ share N a c.loop-i.i = ap₂ (λ x t. (N * x) / t) c.from.ensures c.sum-t.ensures in
    omega (arith, quotient, share_fits N a c.requires.some.0 c.loop-i.i c.loop-i-test.true)

pub loop-i-preserved : goal.loop-i-preserved
loop-i-preserved c =
    let i = c.loop-i.i in
    let a = c.args.a.now in
    let N = c.args.parts in
    let s = c.loop-i.invariant in
    let small : N * c.from.result ≤ 65535 * 4294967296 = product_small c.requires.some.1 (omega (arith, c.from.ensures, (c.type_inv.a i).fits)) in
    let quotient : (N * c.from.result) / c.sum-t.result ≡ share N a i = ap₂ (λ x t. (N * x) / t) c.from.ensures c.sum-t.ensures in
    let keyed : most * ((N * c.from.result) % c.sum-t.result) + (most - 1 - i) ≡ key N a i =
    ap₂ (λ x t. most * ((N * x) % t) + (most - 1 - i)) c.from.ensures c.sum-t.ensures in
    record {
      used = sum_more _ i c.loop-i.used _ s.used quotient;
      small = omega (arith, small, div-le_self (N * c.from.result) c.sum-t.result);
      keys = filled_more _ c.loop-i.keys i s.keys _ (omega arith) keyed;
      gains = filled_more _ c.loop-i.gains i s.gains _ (omega arith) quotient;
    }

pub returns-clause-keys : goal.returns-clause-keys
returns-clause-keys c = filled_all _ c.loop-i.keys _ c.loop-i.i _ c.loop-i.invariant.keys c.requires.lengths.1 c.loop-i-test.false

pub returns-clause-gains : goal.returns-clause-gains
returns-clause-gains c = filled_all _ c.loop-i.gains _ c.loop-i.i _ c.loop-i.invariant.gains c.requires.lengths.2 c.loop-i-test.false
