use Rattle.std.proofs.Common.{◌≡◌, ap, ◌∙◌, get_or}
use native.Mathlib.Omega.{arith}
use lib.Ieee.{binary32, of_bits}
use Rattle.tabulate_core.specs.Rows.{pattern_of, level_at}
use Rattle.tabulate_core.proofs.level.Goals as goal

pub returns : goal.returns
unfolding level_at
returns c =
    let w = c.args.bytes in
    let e : c.from_le_bytes.result ≡ pattern_of (get_or w 0 0) (get_or w 1 0) (get_or w 2 0) (get_or w 3 0) = omega (arith, c.from_le_bytes.ensures) in
    c.from_pattern.ensures ∙ ap (of_bits binary32) e
