-- Where all is stored the stored gains are the row; where one is left out the row adds up if they do not pass the whole.
use Prim.Native.Nat.{ℕ, ◌-◌}
use mathlib.Core.Path.{◌≡◌, refl, ap, ◌∙◌}
use native.Mathlib.Omega.{arith}
use Rattle.std.proofs.Common.{rules}
use lib.Dec.{leb, eqb}
use Rattle.answer.specs.Limits.{parts}
use Rattle.block.specs.Kind.{left_out}
use Rattle.block.proofs.Given.{adds_whole, adds_but_one}
use Rattle.rows.proofs.Failing.{found_same}
use Rattle.rows.proofs.adding.bad_row_at.Goals as goal

pub returns-in-One : goal.returns-in-One
returns-in-One c =
    let z : left_out c.args.form ≡ 0 = ap left_out c.in-One.is in
    c.first_failing_row.ensures (λ (x : ℕ). eqb x parts) (λ x b h. search rules)
    ∙ found_same _ _ c.args.n (λ r. adds_whole parts _ c.args.bands _ r (omega (arith, z)) (omega (arith, c.requires.1)))

pub returns-in-Two : goal.returns-in-Two
returns-in-Two c =
    let z : left_out c.args.form ≡ 1 = ap left_out c.in-Two.is in
    let y : c.args.bands - 1 ≡ c.args.bands - left_out c.args.form = omega (arith, z) in
    c.first_failing_row-in-Two.ensures (λ (x : ℕ). leb x parts) (λ x b h. search rules)
    ∙ found_same _ _ c.args.n (λ r. rw y (adds_but_one parts _ c.args.bands _ _ r refl z (omega (arith, c.requires.1))))
