use Rattle.std.proofs.Common.{◌≡◌, ◌-◌, sum_by, take}
use Rattle.rrs_files.specs.HostOpens.{taken_of}
use Rattle.rrs_files.proofs.host_directory.left_by.Given as goal

-- so much the entries of so many leave
abbrev pub invariant-loop-place : goal.invariant-loop-place
invariant-loop-place l =
    l.left ≡ l.fn.room - sum_by taken_of (take l.place-index l.directories)
