use Rattle.std.proofs.Common.{ap, ◌∙◌}
use Rattle.min_max.specs.declared.pass.Top.{Top}
use Rattle.min_max.proofs.HeldLaws.{top_is, top_law}
use Rattle.min_max.proofs.largest_from.Goals as goal

pub pass-requires : goal.pass-requires
pass-requires c = top_law

pub returns : goal.returns
returns c = ap (λ (t : Top). t.value) (c.pass.ensures ∙ top_is _ c.args.src.now)
