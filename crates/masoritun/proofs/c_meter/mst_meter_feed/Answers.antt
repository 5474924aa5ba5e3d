use Rattle.masoritun.specs.Masoritun.{meter_at}
use Rattle.masoritun.proofs.Left.{stood_fits}
use Rattle.masoritun.proofs.c_meter.mst_meter_feed.Goals as goal

pub pack-requires : goal.pack-requires
pack-requires c = stood_fits ((meter_at c.args.count.now c.args.overs.now c.args.sum_squares.now c.args.least.now c.args.largest.now)) c.args.src.now c.feed.result c.feed.ensures _ c.in-Err.is
