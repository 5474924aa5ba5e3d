use Rattle.digits.proofs.Written.{added_room}
use Rattle.tabulate_io.proofs.show_stop.Goals as goal

pub as_bytes-requires : goal.as_bytes-requires
as_bytes-requires g c = added_room c.put_refused.ensures
