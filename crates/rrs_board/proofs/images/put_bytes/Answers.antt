use Rattle.rrs_board.proofs.ImageEnds.{ends_past}
use Rattle.rrs_board.proofs.images.put_bytes.Goals as goal

-- src/images.rt:61:1
pub returns-in-Err-EndOfAddresses-clause-outside :
    goal.returns-in-Err-EndOfAddresses-clause-outside
returns-in-Err-EndOfAddresses-clause-outside g c first is =
    ends_past _ _ _ _ _ _ _ c.in-Err-EndOfAddresses.field-0-is c.in-Err-EndOfAddresses.ensures.loads
