-- The hart with a profile, as C has it: a bit for each layer, and the address that is reserved beside
-- the hart and the words. A step and a run are those of Harts.antt of rrs_hart, and the record of a
-- step that of HartRecords.antt of rrs_trace.
use Rattle.std.specs.Prelude.{◌≡◌, ◌<◌, ℕ, ◌==◌, List, Option}
use Rattle.rrs_lib.specs.Words.{bit}
use Rattle.rrs_words.specs.declared.csrs.HartProfile.{HartProfile}
use Rattle.rrs_hart.specs.Harts.{Hart, hart_with}
use Rattle.rrs_c.specs.declared.hart.RrsHart.{RrsHart}
use Rattle.rrs_c.specs.declared.profiled.RrsReservation.{RrsReservation}
use Rattle.rrs_c.specs.Harts.{state_in_c}
use Rattle.rrs_c.specs.Machines.{reservation_in}

-- bit 0 is extension A, bit 1 fence.i, bit 2 misaligned loads and stores, bit 3 the compressed
-- instructions, and bits 5 to 10 are Zba, Zbb, Zbs, Zbc, Zbkb and Zicond, as in the profile of a
-- machine; no other bit is looked at
abbrev pub hart_profile_in : ℕ → HartProfile
hart_profile_in bits = record {
  atomics = bit bits 0 == 1;
  fence_i = bit bits 1 == 1;
  misaligned = bit bits 2 == 1;
  compressed = bit bits 3 == 1;
  zba = bit bits 5 == 1;
  zbb = bit bits 6 == 1;
  zbs = bit bits 7 == 1;
  zbc = bit bits 8 == 1;
  zbkb = bit bits 9 == 1;
  zicond = bit bits 10 == 1;
}

-- the address that is reserved, if one is
abbrev pub reserved_in : RrsReservation → Option ℕ
reserved_in r = reservation_in r.reserved r.address

-- How a reservation is written: a flag of 0 or 1, and no address where none is reserved.
pub record IsReservation (r : RrsReservation) : Type 0 where
  pub flag : r.reserved < 2
  pub none : r.reserved ≡ 0 → r.address ≡ 0

-- the state of a C hart with its reservation, and words from a base on
abbrev pub hart_in_c : RrsHart → RrsReservation → ℕ → List ℕ → Hart
hart_in_c h r base words = hart_with (state_in_c h base words) (reserved_in r)
