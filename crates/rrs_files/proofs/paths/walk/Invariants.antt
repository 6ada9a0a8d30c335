use Rattle.rrs_files.specs.Paths.{Walked}
use Rattle.rrs_files.proofs.paths.walk.Given as goal

-- the parts so far were looked at
abbrev pub invariant-loop-at : goal.invariant-loop-at
invariant-loop-at g l = Walked g.F.Folder.did l.path l.fn.folder l.at l.folder
