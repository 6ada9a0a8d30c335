use Rattle.std.proofs.Common.{sym, subst}
use Rattle.rrs_instruction.specs.Encodings.{HasRegisters}
use Rattle.rrs_hart.proofs.ShortRegisters.{short_registers}
use Rattle.rrs_hart.proofs.halves.row_in.Goals as goal

pub returns-in-Some-clause-registers : goal.returns-in-Some-clause-registers
returns-in-Some-clause-registers c =
    subst HasRegisters (sym c.expanded.ensures.fields)
    (short_registers c.in-Short.half c.in-Some.short.form c.in-Some.short.operands c.in-Some.ensures.decoded)
