use Rattle.std.proofs.Common.{rules, ◌≡◌, true, refl}
use Rattle.rrs_asm_macros.proofs.Names.{put, missing}
use Rattle.rrs_asm_macros.proofs.symbols.Symbols.define.Goals as goal
use Rattle.rrs_asm_macros.proofs.symbols.Symbols.define.Goals.{in-Ok-insert, in-Err-insert}

pub returns-after-insert-clause-others : goal.returns-after-insert-clause-others
returns-after-insert-clause-others g c = elim c.match-insert.branch [
  | in-Ok-insert w ↦ rw w.self-is (put c.args.self.now _ c.in-Ok.key c.args.name.now c.args.value c.in-Ok.ensures.items w.in-Ok-insert.ensures.updates (λ e. e))
  | in-Err-insert w ↦ rw w.self-is (missing c.args.self.now _ _ w.in-Err-insert.ensures.err refl)
]
