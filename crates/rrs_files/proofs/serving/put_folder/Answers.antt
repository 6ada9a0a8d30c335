use Rattle.std.proofs.Common.{arith}
use Rattle.rrs_files.specs.Calls.{HasRoom}
use Rattle.rrs_files.proofs.serving.put_folder.Goals as goal

pub returns-clause-does : goal.returns-clause-does
returns-clause-does g c =
    let put = c.put_bytes.ensures.put in
    record {
      accesses = put.accesses;
      these = HasRoom c.put_bytes.result (omega (arith, c.if-size-lt2.false)) put.these c.folder_answer.ensures;
      made = put.made;
    }
