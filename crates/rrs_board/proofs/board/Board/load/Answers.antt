-- The executable is loaded into zeros, which are the RAM of a board at reset.
use Rattle.std.proofs.Common.{◌≡◌, length, slice_index, replicate, ap, sym, subst, ◌∙◌, refl, rules}
use Rattle.std.proofs.lemmas.List.{length-replicate}
use Rattle.rrs_memory.specs.declared.memories.VecMemory.{VecMemory}
use Rattle.rrs_elf.specs.Headers.{e_entry}
use Rattle.rrs_elf.specs.declared.program_headers.Addresses.TheVariants.{Physical}
use Rattle.rrs_elf.specs.Loading.{EndsOutside}
use Rattle.rrs_board.specs.Boards.{is_in_ram}
use Rattle.rrs_board.proofs.Loaded.{stands_in_ram, all_in_ram, outside_ram, in_ram_between, zeros_in_ram}
use Rattle.rrs_board.proofs.board.Board.load.Goals as goal

pub returns-in-Ok-load_over_zeros-clause-starts : goal.returns-in-Ok-load_over_zeros-clause-starts
returns-in-Ok-load_over_zeros-clause-starts c =
    let file = c.args.file.now in
    let read = c.in-Ok.executable.file.now in
    let same : read ≡ file = search rules in
    let made = c.new-in-Ok-load_over_zeros in
    let empty = made.ensures in
    let given = c.in-Ok-new.ram in
    let left = c.load_over_zeros.new.memory in
    let old = given.mem.items in
    let new = left.mem.items in
    let zeros : old ≡ replicate c.args.words 0 = c.in-Ok-new.ensures in
    let many : length old ≡ c.args.words = ap length zeros ∙ length-replicate c.args.words 0 in
    let layout : left.mem.len ≡ given.mem.len = ap (λ numbers. slice_index numbers 0) c.load_over_zeros.ensures.layout_kept in
    let kept : length new ≡ length old = sym left.mem.ok.0 ∙ layout ∙ given.mem.ok.0 in
    let is_new : made.result.memory.ram.mem.items ≡ new = ap (λ (r : VecMemory). r.mem.items) empty.ram_is in
    let stands = stands_in_ram c.in-Ok.executable.addresses file read old (replicate c.args.words 0) new made.result.memory.ram.mem.items (search rules) same zeros is_new kept
    c.in-Ok-load_over_zeros.ensures.loaded in
    record {
      reset = record {
        registers = empty.registers;
        at = empty.at ∙ c.entry.ensures.value ∙ ap e_entry same;
        csrs = empty.csrs;
        ram_is = refl;
        devices = empty.devices;
      };
      size = ap length is_new ∙ kept ∙ many;
      loaded = stands;
      in_ram = all_in_ram file _ _ _ stands;
    }

pub returns-in-Err-load_over_zeros-clause-outside : goal.returns-in-Err-load_over_zeros-clause-outside
returns-in-Err-load_over_zeros-clause-outside c = λ address is.
    let file = c.args.file.now in
    let read = c.in-Ok.executable.file.now in
    let same : read ≡ file = search rules in
    let old = c.in-Ok-new.ram.mem.items in
    let zeros : old ≡ replicate c.args.words 0 = c.in-Ok-new.ensures in
    let many : length old ≡ c.args.words = ap length zeros ∙ length-replicate c.args.words 0 in
    let at = c.in-Err-load_over_zeros.refused.address in
    let physical : c.in-Ok.executable.addresses ≡ Physical = search rules in
    let ends = rw physical at c.in-Err-load_over_zeros.ensures.refused in
    subst (λ a. EndsOutside Physical file (is_in_ram c.args.words) a) (cc is)
    (subst (λ f. EndsOutside Physical f (is_in_ram c.args.words) at) same (outside_ram read old c.args.words at many ends))

pub load_over_zeros-requires-clause-writable : goal.load_over_zeros-requires-clause-writable
load_over_zeros-requires-clause-writable c = λ a.
    let zeros : c.in-Ok-new.ram.mem.items ≡ replicate c.args.words 0 = c.in-Ok-new.ensures in
    let many = ap length zeros ∙ length-replicate c.args.words 0 in
    rw c.end_of_ram.ensures (in_ram_between c.in-Ok-new.ram.mem.items c.args.words many a)

pub load_over_zeros-requires-clause-zeros : goal.load_over_zeros-requires-clause-zeros
load_over_zeros-requires-clause-zeros c = λ a lies.
    let zeros : c.in-Ok-new.ram.mem.items ≡ replicate c.args.words 0 = c.in-Ok-new.ensures in
    rw zeros (zeros_in_ram c.args.words a (rw zeros at lies))
