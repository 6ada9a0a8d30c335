-- What a step retired, as C has it.
use Rattle.std.specs.Prelude.{◌≡◌, ◌<◌, ◌==◌, if◌then◌else◌, true, Some, None}
use Rattle.rrs_trace.specs.declared.traced.MemoryAccess.{MemoryAccess}
use Rattle.rrs_trace.specs.declared.retired.Retired.{Retired}
use Rattle.rrs_c.specs.declared.retired.RrsRetired.{RrsRetired}

-- the load or the store
abbrev pub access_in : RrsRetired → MemoryAccess
access_in r = record {
  addr = r.mem_addr;
  rmask = r.mem_rmask;
  wmask = r.mem_wmask;
  rdata = r.mem_rdata;
  wdata = r.mem_wdata;
}

-- How a record is written: two flags of 0 or 1, and no word where none was fetched.
pub record IsRecord (r : RrsRetired) : Type 0 where
  pub fetched : r.fetched < 2
  pub trap : r.trap < 2
  pub insn : r.fetched ≡ 0 → r.insn ≡ 0

-- the kit's record that a record of C is
abbrev pub retired_in : RrsRetired → Retired
retired_in r = record {
  order = r.order;
  insn = if r.fetched == 1 then Some r.insn else None;
  trap = r.trap == 1;
  pc_rdata = r.pc_rdata;
  pc_wdata = r.pc_wdata;
  rs1_addr = r.rs1_addr;
  rs1_rdata = r.rs1_rdata;
  rs2_addr = r.rs2_addr;
  rs2_rdata = r.rs2_rdata;
  rd_addr = r.rd_addr;
  rd_wdata = r.rd_wdata;
  mem = access_in r;
}

-- ---- of the code

-- the record of a step that raises an exception in place of one that is Ok
abbrev pub refused : Retired → Retired
refused r = record r { trap = true; pc_wdata = r.pc_rdata; rd_addr = 0; rd_wdata = 0 }
