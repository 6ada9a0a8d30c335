-- What the program prints, and the machine in which it runs (RISC-V unprivileged specification,
-- RV32I, "Load and Store Instructions": the port is reached by a store, as memory is).
use Rattle.std.specs.Prelude.{◌≡◌, ℕ, ◌≤◌, List, [], ◌∷◌, ◌++◌, length, codes, vec_capacity}
use Rattle.rrs_lib.specs.declared.memories.VecMemory.{VecMemory}
use Rattle.rrs_lib.specs.Spaces.{Region}
use Rattle.rrs_programs.specs.declared.print_port.PrintPort.{PrintPort}
use Rattle.rrs_programs.specs.declared.print_port.RamOrPort.{RamOrPort}
use Rattle.rrs_programs.specs.declared.print_port.RamOrPort.TheVariants.{Ram, Port}
use Rattle.rrs_programs.specs.Ports.{IsPortAt}
use Rattle.rrs_programs.specs.Printing.{put_string_program}

abbrev pub greeting : List ℕ
greeting = codes "Hello, RISC-V!\n"

-- the program, an illegal instruction, and the greeting with its 0
abbrev pub words_to_run : List ℕ
words_to_run =
    put_string_program ++ 0 ∷ 0x6c6c6548 ∷ 0x52202c6f ∷ 0x2d435349 ∷ 0x000a2156 ∷ []

abbrev pub port_address : ℕ
port_address = 0x10000000

-- words from 0 on, and a port
abbrev pub machine_regions : VecMemory → PrintPort → List (Region RamOrPort)
machine_regions words port =
    record { base = 0; size = 44; memory = Ram words }
    ∷ record { base = port_address; size = 4; memory = Port port }
    ∷ []

-- region 1 is a port at its address, which has logged nothing and has room for the greeting
pub record HasRoom (regions : List (Region RamOrPort)) : Type 0 where
  pub port : PrintPort
  pub is : IsPortAt regions 1 port_address port
  pub empty : port.log.items ≡ []
  pub room : length greeting ≤ vec_capacity port.log

-- region 1 is a port at its address, which has logged this
pub record HasLog (regions : List (Region RamOrPort)) (text : List ℕ) : Type 0 where
  pub port : PrintPort
  pub is : IsPortAt regions 1 port_address port
  pub logged : port.log.items ≡ text
