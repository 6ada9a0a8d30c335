use Rattle.std.proofs.Common.{◌≡◌, Ok}
use Rattle.rrs_elf.specs.Refusals.{first_refusal, checks_below, overlap_check}
use Rattle.rrs_elf.proofs.segments.check_overlaps.Given as goal

-- those before pass
abbrev pub invariant-loop-earlier : goal.invariant-loop-earlier
invariant-loop-earlier l = first_refusal (checks_below (overlap_check l.addresses l.file l.index) l.earlier) ≡ Ok tt
