use Rattle.std.proofs.Common.{◌≡◌, ◌++◌, subst}
use Rattle.rrs_asm_macros.specs.Scanning.{behind_labels}
use Rattle.rrs_asm_macros.specs.Symbols.{Defines, constant_of, labels_of}
use Rattle.rrs_asm_macros.proofs.Names.{both}
use Rattle.rrs_asm_macros.proofs.symbols.Symbols.note.Goals as goal

pub returns : goal.returns
returns g c = subst (λ rest. Defines c.args.self.now c.note_constant.new.self (labels_of c.args.code.now ++ constant_of rest))
    c.behind_labels.ensures
    (both _ _ _ _ _ c.note_labels.ensures c.note_constant.ensures)
