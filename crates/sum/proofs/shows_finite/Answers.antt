use Rattle.std.proofs.Common.{rules}
use Rattle.sum.proofs.Shows.{shows_others}
use Rattle.sum.proofs.shows_finite.Goals.{in-SumExpSub, in_default}
use Rattle.sum.proofs.shows_finite.Goals as goal

pub returns : goal.returns
returns c = elim c.match-matches.branch [ in-SumExpSub w ↦ search rules | in_default w ↦ λ h. shows_others c.args.op w.in_default.not-SumExpSub ]
