use Rattle.digits.proofs.Written.{added_room}
use Rattle.lister_io.proofs.listing.Listing.show_head.Goals as goal

pub as_bytes-requires : goal.as_bytes-requires
as_bytes-requires g c = added_room c.put_head.ensures
