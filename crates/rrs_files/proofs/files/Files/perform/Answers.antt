use Rattle.std.proofs.Common.{[], refl}
use Rattle.rrs_files.proofs.files.Files.perform.Goals as goal

pub returns-in-Close-clause-does : goal.returns-in-Close-clause-does
returns-in-Close-clause-does g c =
    rw c.in-Close.is (record { accesses = []; these = (c.close.ensures, refl, refl); made = refl })

pub returns-in-Open-clause-does : goal.returns-in-Open-clause-does
returns-in-Open-clause-does g c = rw c.in-Open.is c.open_at.ensures.does

pub returns-in-Seek-clause-does : goal.returns-in-Seek-clause-does
returns-in-Seek-clause-does g c = rw c.in-Seek.is c.seek_to.ensures.does

pub returns-in-Read-clause-does : goal.returns-in-Read-clause-does
returns-in-Read-clause-does g c = rw c.in-Read.is c.read_to.ensures.does

pub returns-in-Write-clause-does : goal.returns-in-Write-clause-does
returns-in-Write-clause-does g c =
    let wrote = c.write_from.ensures in
    rw c.in-Write.is (record {
      accesses = wrote.does.accesses;
      these = (wrote.does.these, wrote.bytes_kept);
      made = wrote.does.made;
    })

pub returns-in-ReadAt-clause-does : goal.returns-in-ReadAt-clause-does
returns-in-ReadAt-clause-does g c = rw c.in-ReadAt.is c.read_to-in-ReadAt.ensures.does

pub returns-in-WriteAt-clause-does : goal.returns-in-WriteAt-clause-does
returns-in-WriteAt-clause-does g c =
    let wrote = c.write_from-in-WriteAt.ensures in
    rw c.in-WriteAt.is (record {
      accesses = wrote.does.accesses;
      these = (wrote.does.these, wrote.bytes_kept);
      made = wrote.does.made;
    })

pub returns-in-WritePieces-clause-does : goal.returns-in-WritePieces-clause-does
returns-in-WritePieces-clause-does g c =
    let wrote = c.write_pieces_from.ensures in
    rw c.in-WritePieces.is (record {
      accesses = wrote.does.accesses;
      these = (wrote.does.these, wrote.bytes_kept);
      made = wrote.does.made;
    })

pub returns-in-ControlDevice-clause-does : goal.returns-in-ControlDevice-clause-does
returns-in-ControlDevice-clause-does g c =
    rw c.in-ControlDevice.is
    (record { accesses = []; these = (c.control_device.ensures, refl, refl); made = refl })

pub returns-in-Status-clause-does : goal.returns-in-Status-clause-does
returns-in-Status-clause-does g c = rw c.in-Status.is c.put_status.ensures.does

pub returns-in-NamedStatus-clause-does : goal.returns-in-NamedStatus-clause-does
returns-in-NamedStatus-clause-does g c = rw c.in-NamedStatus.is c.put_named.ensures.does

pub returns-in-ChangeFile-clause-does : goal.returns-in-ChangeFile-clause-does
returns-in-ChangeFile-clause-does g c =
    rw c.in-ChangeFile.is (record { accesses = []; these = (c.change.ensures, refl, refl); made = refl })

pub returns-in-Own-clause-does : goal.returns-in-Own-clause-does
returns-in-Own-clause-does g c =
    rw c.in-Own.is (record { accesses = []; these = (c.own.ensures, refl, refl); made = refl })

pub returns-in-SetTimes-clause-does : goal.returns-in-SetTimes-clause-does
returns-in-SetTimes-clause-does g c = rw c.in-SetTimes.is c.set_times.ensures.does

pub returns-in-ChangeName-clause-does : goal.returns-in-ChangeName-clause-does
returns-in-ChangeName-clause-does g c = rw c.in-ChangeName.is c.change_name_at.ensures.does

pub returns-in-Rename-clause-does : goal.returns-in-Rename-clause-does
returns-in-Rename-clause-does g c = rw c.in-Rename.is c.rename_at.ensures.does

pub returns-in-Test-clause-does : goal.returns-in-Test-clause-does
returns-in-Test-clause-does g c = rw c.in-Test.is c.test_at.ensures.does

pub returns-in-Control-clause-does : goal.returns-in-Control-clause-does
returns-in-Control-clause-does g c =
    rw c.in-Control.is (record { accesses = []; these = (c.control.ensures, refl, refl); made = refl })

pub returns-in-Folder-clause-does : goal.returns-in-Folder-clause-does
returns-in-Folder-clause-does g c =
    let put = c.put_folder.ensures.does in
    rw c.in-Folder.is (record { accesses = put.accesses; these = (put.these, refl); made = put.made })

pub returns-in-List-clause-does : goal.returns-in-List-clause-does
returns-in-List-clause-does g c = rw c.in-List.is c.list_to.ensures.does

pub returns-in-Link-clause-does : goal.returns-in-Link-clause-does
returns-in-Link-clause-does g c = rw c.in-Link.is c.put_link.ensures.does

pub returns-in-Copy-clause-does : goal.returns-in-Copy-clause-does
returns-in-Copy-clause-does g c =
    rw c.in-Copy.is (record { accesses = []; these = (c.copy.ensures, refl, refl); made = refl })

pub returns-in-CopyTo-clause-does : goal.returns-in-CopyTo-clause-does
returns-in-CopyTo-clause-does g c =
    rw c.in-CopyTo.is (record { accesses = []; these = (c.copy_to.ensures, refl, refl); made = refl })

pub returns-in-ExtendedStatus-clause-does : goal.returns-in-ExtendedStatus-clause-does
returns-in-ExtendedStatus-clause-does g c =
    rw c.in-ExtendedStatus.is c.put_named-in-ExtendedStatus.ensures.does
