use Rattle.rrs_memory.proofs.TextLemmas.{padded_hexadecimal}
use Rattle.rrs_lib.proofs.instruction_executor.display.write_at.Goals as goal

pub returns : goal.returns
returns g c =
    record {
      writes = rw (c.laid_out.ensures, c.in_radix.ensures, padded_hexadecimal 8 c.args.address) at
          c.write.ensures.writes;
    }
