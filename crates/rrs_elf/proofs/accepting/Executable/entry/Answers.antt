use Rattle.std.proofs.Common.{◌∙◌, ap, ◌%◌}
use Rattle.rrs_elf.specs.Executables.{bytes_of}
use Rattle.rrs_elf.proofs.Accepted.{holds}
use Rattle.rrs_elf.proofs.accepting.Executable.entry.Goals as goal

pub returns-clause-aligned : goal.returns-clause-aligned
returns-clause-aligned c =
    ap (λ n. n % bytes_of c.args.self.now.unit) c.read_word.ensures ∙ (holds c.args.self.now.unit c.args.self.now.addresses c.args.self.now.file.now c.args.self.now.accepted).entry_aligned
