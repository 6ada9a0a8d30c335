use Rattle.rrs_files.proofs.Lent.{lent_vector}
use Rattle.rrs_files.proofs.pieces.write_lent.Goals as goal

pub returns-clause-same_files : goal.returns-clause-same_files
returns-clause-same_files g c =
    let wrote = c.write_pieces.ensures.taken in
    (lent_vector g.F.Folder.did (g.M.Memory.bytes c.args.memory.now) _ _ _ c.args.file.now c.write_pieces.new.out _
    wrote.these).0

pub returns-clause-taken : goal.returns-clause-taken
returns-clause-taken g c =
    let wrote = c.write_pieces.ensures.taken in
    record {
      accesses = wrote.accesses;
      these = (lent_vector g.F.Folder.did (g.M.Memory.bytes c.args.memory.now) _ _ _ c.args.file.now
          c.write_pieces.new.out _ wrote.these).1;
      made = wrote.made;
    }
