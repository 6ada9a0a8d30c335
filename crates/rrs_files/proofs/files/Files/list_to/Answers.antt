use Rattle.std.proofs.Common.{◌≡◌, ◌<◌, [], length, refl, sym, ap, ◌∙◌, arith}
use Rattle.std.proofs.lemmas.List.{nil_from_length}
use Rattle.rrs_files.specs.Calls.{IsAtEnd, IsListed, IsNotListed, IsNotPut}
use Rattle.rrs_files.proofs.files.Files.list_to.Goals as goal

pub returns-in-Err-clause-does : goal.returns-in-Err-clause-does
returns-in-Err-clause-does g c = record {
  accesses = [];
  these = IsNotListed c.in-Some.place c.read_directory.new.folder _ c.in-Some.ensures c.in-Err.ensures
      refl refl refl;
  made = refl;
}

pub returns-then-is_empty-clause-does : goal.returns-then-is_empty-clause-does
returns-then-is_empty-clause-does g c =
    let zero : length c.as_slice-entries.result.now ≡ 0 = grind arith in
    let none : c.read_directory.new.text.items ≡ [] =
    nil_from_length c.read_directory.new.text.items (ap length (sym c.as_slice-entries.ensures.value) ∙ zero) in
    record {
      accesses = [];
      these = IsAtEnd c.in-Some.place c.in-Ok.next c.read_directory.new.folder c.in-Some.ensures
          (rw none at c.in-Ok.ensures) refl refl refl refl;
      made = refl;
    }

pub returns-then-put-ne0-clause-does : goal.returns-then-put-ne0-clause-does
returns-then-put-ne0-clause-does g c =
    let put = c.put_bytes-put.ensures.put in
    record {
      accesses = put.accesses;
      these = IsNotPut c.in-Some.place c.in-Ok.next c.read_directory.new.folder c.read_directory.new.text.items
          c.in-Some.ensures c.in-Ok.ensures refl (rw c.as_slice-entries.ensures.value at put.these) c.if-put-ne0.true;
      made = put.made;
    }

pub returns-clause-does : goal.returns-clause-does
returns-clause-does g c =
    let put = c.put_bytes-put.ensures.put in
    let some : 0 < length c.read_directory.new.text.items = grind arith in
    record {
      accesses = put.accesses;
      these = IsListed c.in-Some.place c.in-Ok.next c.read_directory.new.folder c.seek.new.self
          c.read_directory.new.text.items c.seek.result c.in-Some.ensures c.in-Ok.ensures some
          (rw (c.as_slice-entries.ensures.value, c.if-put-ne0.false) at put.these) c.seek.ensures refl
          (rw c.as_slice-entries.ensures.value at c.listed_of.ensures);
      made = put.made;
    }
