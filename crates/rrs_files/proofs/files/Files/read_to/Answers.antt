use Rattle.std.proofs.Common.{◌≡◌, ◌-◌, ◌≤◌, min, [], length, take, drop, refl, arith}
use Rattle.std.proofs.lemmas.List.{length-drop, length-take-le}
use Rattle.rrs_files.specs.Calls.{ReadPassesEnd, ReadFailed, IsGiven, most_of_file}
use Rattle.rrs_files.proofs.files.Files.read_to.Goals as goal

pub returns-in_default-most_of-clause-does : goal.returns-in_default-most_of-clause-does
returns-in_default-most_of-clause-does g c = record {
  accesses = [];
  these = ReadPassesEnd c.in-Some.place c.in-Some.ensures (rw c.in_default-most_of.is at c.most_of.ensures) refl refl
      refl refl;
  made = refl;
}

pub returns-in-Err-clause-does : goal.returns-in-Err-clause-does
returns-in-Err-clause-does g c =
    let most : c.min-most.result ≡ min c.args.count most_of_file =
    omega (arith, c.min-most.ensures, c.in-Some-most_of.ensures.1) in
    record {
      accesses = [];
      these = ReadFailed c.in-Some.place c.read.new.self c.in-Some.ensures c.in-Some-most_of.ensures.0
          (rw most at c.in-Err.ensures.failed) refl refl refl;
      made = refl;
    }

pub returns-in-Ok-clause-does : goal.returns-in-Ok-clause-does
returns-in-Ok-clause-does g c =
    let gave = c.give_bytes-given.ensures.given in
    let text = take c.in-Ok.size c.read.new.room in
    let most : c.min-most.result ≡ min c.args.count most_of_file =
    omega (arith, c.min-most.ensures, c.in-Some-most_of.ensures.1) in
    let within : c.in-Ok.size ≤ length c.read.new.room =
    omega (arith, c.in-Ok.ensures.within, c.in-Ok.ensures.length, c.min-most.ensures) in
    let long : length text ≡ c.in-Ok.size = length-take-le _ _ within in
    let left : c.in-Ok.size - c.give_bytes-given.result.0 ≡ length (drop c.give_bytes-given.result.0 text) =
    omega (arith, length-drop c.give_bytes-given.result.0 text, long) in
    record {
      accesses = gave.accesses;
      these = IsGiven c.in-Some.place c.read.new.self c.move_back.new.folder text _ c.in-Some.ensures
          c.in-Some-most_of.ensures.0 (rw most at c.in-Ok.ensures.gave) (rw most at gave.these)
          (rw left at c.move_back.ensures) refl;
      made = gave.made;
    }
