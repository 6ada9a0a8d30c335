-- The words stay lent, whatever accesses were made, and what was written last is what the change says.
use Rattle.std.proofs.Common.{◌≡◌, List, rules, refl, ap}
use Rattle.rrs_lib.specs.AccessLists.{Access, Makes}
use Rattle.rrs_lib.specs.declared.memories.SliceMemory.{SliceMemory}
use Rattle.rrs_lib.specs.SliceBytes.{StaysLent, slice_reads, SliceWrites}
use Rattle.rrs_lib.specs.Machine.{State}
use Rattle.rrs_lib.proofs.SliceLent.{still_lent}
use Rattle.rrs_c.proofs.lent.undo_lent.Goals as goal

stays : (accesses : List Access) (old new : SliceMemory) → Makes slice_reads SliceWrites accesses old new → StaysLent old new
stays accesses old new made = still_lent (λ others. others ≡ accesses) old new record {
  accesses = accesses;
  these = refl;
  only = λ others same. same;
  made = made;
}

pub returns-clause-lent : goal.returns-clause-lent
returns-clause-lent c =
    let kept = stays _ _ _ c.undo_parts.ensures.makes in
    search rules

pub returns-clause-last : goal.returns-clause-last
returns-clause-last c =
    let same = ap (λ (s : State). s.last) c.undo_parts.ensures.back in
    let starts = c.requires.starts in
    let last = c.requires.last in
    search rules
