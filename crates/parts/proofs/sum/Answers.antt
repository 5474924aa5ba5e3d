use Rattle.std.proofs.Common.{◌≡◌, ◌∙◌, rules, sum_by}
use Rattle.parts.proofs.Sums.{total_is}
use Rattle.parts.proofs.sum.Goals as goal

pub returns : goal.returns
returns c =
    let e : c.sum.result ≡ sum_by (λ x. x) c.args.a.now = search rules in
    e ∙ total_is c.args.a.now
