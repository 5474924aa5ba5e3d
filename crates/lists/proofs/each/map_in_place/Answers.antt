-- Each turn adds one element and its value; what is not reached yet is as it was.
use Rattle.std.proofs.Common.{rules}
use Rattle.lists.proofs.Turns.{zip_more, kept_at, kept_more, kept_meets}
use Rattle.lists.proofs.each.map_in_place.Goals as goal

pub f-requires : goal.f-requires
f-requires g c = kept_meets (λ x. g.F.Fn.pre c.args.f (x, tt)) _ _ _ _ c.requires c.loop-x-test.true c.loop-x.invariant.2

pub loop-x-preserved : goal.loop-x-preserved
loop-x-preserved g c =
    let was = c.args.buf.now in
    let now = c.loop-x.buf in
    let i = c.loop-x.x-index in
    let d = c.x-item.result in
    let k = kept_at now was i d c.loop-x.invariant.2 in (
      search rules,
      zip_more _ was now i d _ _ c.loop-x-test.true (search rules) k c.loop-x.invariant.1 c.f.ensures,
      kept_more now was i c.f.result c.loop-x.invariant.2,
    )
