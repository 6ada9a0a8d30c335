-- The machine holds what its program asks for.
use Rattle.std.proofs.Common.{◌≡◌, ℕ, ◌+◌, ◌-◌, ◌^◌, ◌≤◌, ◌&&◌, nat_le, nat_lt, if◌then◌else◌, List, [], ◌++◌, length, None, refl, sym, ap, subst, ◌∙◌, arith}
use Rattle.std.specs.Prelude.{vec_capacity}
use Rattle.rrs_lib.specs.declared.memories.VecMemory.{VecMemory}
use Rattle.rrs_lib.specs.Bytes.{ByteMap}
use Rattle.rrs_lib.specs.VecBytes.{bytes_of_words}
use Rattle.rrs_lib.specs.Spaces.{Region, space_bytes}
use Rattle.rrs_programs.specs.declared.print_port.PrintPort.{PrintPort}
use Rattle.rrs_programs.specs.declared.print_port.RamOrPort.{RamOrPort}
use Rattle.rrs_programs.specs.Ports.{port_bytes, part_bytes, IsPortAt, TakesText}
use Rattle.rrs_programs.specs.Printing.{HoldsString, put_string_program}
use Rattle.rrs_extra.specs.Programs.{HoldsWords}
use Rattle.rrs_programs.proofs.PutString.{string_by_test}
use Rattle.rrs_extra.proofs.Words.{holds_by_test}
use Rattle.tests_host.specs.Greeting.{greeting, port_address, words_to_run, machine_regions, HasRoom, HasLog}

-- the bytes of the machine, by its words and its port
abbrev in_machine : List ℕ → PrintPort → ByteMap
in_machine words port a =
    if (nat_le 0 a && nat_lt a 44) && nat_lt a (2 ^ 32)
    then bytes_of_words words (a - 0)
    else (if (nat_le port_address a && nat_lt a (port_address + 4)) && nat_lt a (2 ^ 32) then port_bytes port (a - port_address) else None)

pub machine_bytes : (regions : List (Region RamOrPort)) (ram : VecMemory) (port : PrintPort)
    → regions ≡ machine_regions ram port → ram.mem.items ≡ words_to_run
    → space_bytes part_bytes regions ≡ in_machine words_to_run port
machine_bytes regions ram port are words = ap (space_bytes part_bytes) are ∙ ap (λ ws. in_machine ws port) words

pub has_room : (regions : List (Region RamOrPort)) (ram : VecMemory) (port : PrintPort) → regions ≡ machine_regions ram port → port.log.items ≡ [] → length greeting ≤ vec_capacity port.log → HasRoom regions
has_room regions ram port are empty room =
    subst HasRoom (sym are) (record {
      port = port;
      is = record { region = _; stands = refl; is_port = refl; begins_there = refl; has_addresses = omega arith };
      empty = empty;
      room = room;
    })

-- the port takes the greeting as a text that it has room for
pub logs_greeting : (old new : List (Region RamOrPort)) (address : ℕ) → HasRoom old
    → ((before : PrintPort) → IsPortAt old 1 address before → (after : PrintPort) × IsPortAt new 1 address after × TakesText before greeting after)
    → ((before after : PrintPort) → IsPortAt old 1 address before → IsPortAt new 1 address after → length before.log.items + length greeting ≤ vec_capacity before.log → after.log.items ≡ before.log.items ++ greeting)
    → address ≡ port_address → HasLog new greeting
logs_greeting old new address room taken log there =
    let is = subst (λ a. IsPortAt old 1 a room.port) (sym there) room.is in
    let after = taken room.port is in
    let none : length room.port.log.items ≡ 0 = ap length room.empty in
    record {
      port = after.0;
      is = subst (λ a. IsPortAt new 1 a after.0) there after.1;
      logged = log room.port after.0 is after.1 (omega (arith, none, room.room)) ∙ ap (λ xs. xs ++ greeting) room.empty;
    }
