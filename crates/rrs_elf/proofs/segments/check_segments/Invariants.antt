use Rattle.std.proofs.Common.{◌≡◌, Ok}
use Rattle.rrs_elf.specs.Refusals.{first_refusal, checks_below, segment_checks}
use Rattle.rrs_elf.proofs.segments.check_segments.Given as goal

-- those before pass
abbrev pub invariant-loop-index : goal.invariant-loop-index
invariant-loop-index l = first_refusal (checks_below (segment_checks l.addresses l.file) l.index) ≡ Ok tt
