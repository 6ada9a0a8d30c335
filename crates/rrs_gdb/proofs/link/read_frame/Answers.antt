use Rattle.std.proofs.Common.{refl}
use Rattle.rrs_gdb.proofs.LinkLemmas.{begun_bytes, begun_digits, frame_read}
use Rattle.rrs_gdb.proofs.link.read_frame.Goals as goal

pub returns-in-Some-read_digits : goal.returns-in-Some-read_digits
returns-in-Some-read_digits g c =
    let some = rw c.in-Some.is at c.in_ok-bytes.ensures in
    frame_read _ _ _ some.0 c.in-Some-read_digits.digits _ some.1 some.2 some.3 some.4 c.in-Some-read_digits.ensures refl

pub returns-in_default : goal.returns-in_default
returns-in_default g c = begun_bytes _ _ (rw c.in_default.is at c.in_ok-bytes.ensures)

pub returns-in-None : goal.returns-in-None
returns-in-None g c =
    let some = rw c.in-Some.is at c.in_ok-bytes.ensures in
    begun_digits _ _ _ some.0 some.1 some.2 c.in-None.ensures
