use Rattle.std.proofs.Common.{◌≡◌, [], rules, refl, sym, subst, ◌∙◌}
use Rattle.rrs_files.specs.Calls.{MayNotWritePieces, ArePiecesWritten, WritesFilePieces}
use Rattle.rrs_files.proofs.files.Files.write_pieces_from.Goals as goal

pub returns-then-refuses_write-clause-does : goal.returns-then-refuses_write-clause-does
returns-then-refuses_write-clause-does g c = record {
  accesses = [];
  these = MayNotWritePieces c.in-Some._place c.in-Some.ensures (sym c.refuses_write.ensures ∙ c.if-refuses_write.true) refl
      refl refl;
  made = refl;
}

pub returns-clause-does : goal.returns-clause-does
returns-clause-does g c =
    let wrote = c.write_lent.ensures.taken in
    let same : c.self-1.given.0 ≡ c.write_lent.new.file.files.now = search rules in
    record {
      accesses = wrote.accesses;
      these = subst (λ files. WritesFilePieces g.F.Folder.did (g.M.Memory.bytes c.args.memory.now) c.args.descriptor
          c.args.address c.args.count c.args.self.now files c.write_lent.result wrote.accesses) (sym same)
          (ArePiecesWritten c.in-Some._place c.in-Some.ensures (sym c.refuses_write.ensures ∙ c.if-refuses_write.false)
          wrote.these);
      made = wrote.made;
    }
