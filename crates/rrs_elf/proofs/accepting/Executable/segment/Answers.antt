use Rattle.std.proofs.Common.{◌-◌, arith, ◌∙◌, sym, refl}
use Rattle.rrs_elf.specs.Headers.{p_filesz}
use Rattle.rrs_elf.specs.Executables.{IsLoaded}
use Rattle.rrs_elf.proofs.Accepted.{holds}
use Rattle.rrs_elf.proofs.accepting.Executable.segment.Goals as goal

pub returns-then-is_loaded-clause-sizes : goal.returns-then-is_loaded-clause-sizes
returns-then-is_loaded-clause-sizes c =
    let is = holds c.args.self.now.unit c.args.self.now.addresses c.args.self.now.file.now c.args.self.now.accepted in
    let header = c.in_ok-header.ensures.value in
    let kind = c.if-is_loaded.ensures.0 refl in
    let loaded : IsLoaded c.args.self.now.file.now c.args.index = record { numbered = c.in_ok-header.ensures.there.0 refl; of_type = sym header.type_is ∙ kind } in
    let fact = is.sizes c.args.index loaded in
    let one = header.file_size_is in
    let other = header.memory_size_is in
    omega arith

pub returns-then-is_loaded-clause-within_file : goal.returns-then-is_loaded-clause-within_file
returns-then-is_loaded-clause-within_file c = λ some.
    let is = holds c.args.self.now.unit c.args.self.now.addresses c.args.self.now.file.now c.args.self.now.accepted in
    let header = c.in_ok-header.ensures.value in
    let kind = c.if-is_loaded.ensures.0 refl in
    let loaded : IsLoaded c.args.self.now.file.now c.args.index = record { numbered = c.in_ok-header.ensures.there.0 refl; of_type = sym header.type_is ∙ kind } in
    let size = header.file_size_is in
    let fact = is.bytes_within c.args.index (p_filesz c.args.self.now.file.now c.args.index - 1) loaded (omega (arith, some)) in
    let offset = header.offset_is in
    omega (arith, some)

pub returns-then-is_loaded-clause-addresses : goal.returns-then-is_loaded-clause-addresses
returns-then-is_loaded-clause-addresses c =
    let is = holds c.args.self.now.unit c.args.self.now.addresses c.args.self.now.file.now c.args.self.now.accepted in
    let header = c.in_ok-header.ensures.value in
    let kind = c.if-is_loaded.ensures.0 refl in
    let loaded : IsLoaded c.args.self.now.file.now c.args.index = record { numbered = c.in_ok-header.ensures.there.0 refl; of_type = sym header.type_is ∙ kind } in
    let fact = is.addresses c.args.index loaded in
    let other = header.memory_size_is in
    omega arith
