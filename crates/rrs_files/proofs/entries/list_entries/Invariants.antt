use Rattle.std.proofs.Common.{◌*◌, ◌≤◌, length}
use Rattle.rrs_files.specs.Entries.{Added}
use Rattle.rrs_files.proofs.entries.list_entries.Given as goal

-- so many were added, of which each has 24 bytes at least
abbrev pub invariant-loop-count : goal.invariant-loop-count
invariant-loop-count g l = record {
  added : Added g.F.Folder.did l.place l.from l.most l.fn.folder l.count l.text.items l.folder;
  many : 24 * l.count ≤ length l.text.items;
  within : length l.text.items ≤ l.most;
}
