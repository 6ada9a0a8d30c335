use Rattle.std.proofs.Common.{subst}
use Rattle.rrs_linux.specs.Clocks.{IsTold}
use Rattle.rrs_linux.specs.Statuses.{PutsBytes}
use Rattle.rrs_linux.proofs.clocks.put_time.Goals as goal

pub returns-in-Some-clause-put : goal.returns-in-Some-clause-put
returns-in-Some-clause-put g c =
    let memory = g.M.Memory in
    let put = c.put_bytes.ensures.put in
    record {
      accesses = put.accesses;
      these = IsTold c.in-Some.time c.in-Some.is
          (subst (λ l. PutsBytes (memory.writable c.args.memory.now) (memory.bytes c.args.memory.now)
          (memory.bytes c.put_bytes.new.memory) c.args.address l put.accesses c.put_bytes.result) c.bytes_of.ensures
          put.these);
      made = put.made;
    }
