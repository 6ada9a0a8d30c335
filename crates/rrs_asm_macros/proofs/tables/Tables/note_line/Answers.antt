use Rattle.std.proofs.Common.{◌≡◌, ℕ, suc, ◌+◌, ◌-◌, ◌++◌, [], length, ap, sym, subst, ◌∙◌, arith}
use Rattle.std.specs.Option.{option_map_or}
use Rattle.rrs_asm_macros.specs.Symbols.{Defines, so_many_symbols, symbols_of}
use Rattle.rrs_asm_macros.proofs.Names.{both, one_statement}
use Rattle.rrs_asm_macros.proofs.tables.Tables.note_line.Goals as goal

pub loop-passed-preserved : goal.loop-passed-preserved
loop-passed-preserved g c = record {
  defines = λ final rest.
      let one : length c.args.line.now + 1 - c.loop-passed._passed ≡ suc (length c.args.line.now + 1 - (c.loop-passed._passed + 1)) = omega (arith, c.loop-passed-test.true) in
      let statement = one_statement (length c.args.line.now + 1 - (c.loop-passed._passed + 1)) c.in-Some.left.now c.first_statement-statement.result.code.now c.first_statement-statement.result.others c.first_statement-statement.ensures.code c.first_statement-statement.ensures.others in
      c.loop-passed.invariant.defines final (subst (λ names. Defines c.loop-passed.self.symbols final names)
      (sym (ap (λ o. option_map_or (λ left. so_many_symbols (length c.args.line.now + 1 - c.loop-passed._passed) left.now) o []) c.in-Some.is
      ∙ ap (λ n. so_many_symbols n c.in-Some.left.now) one ∙ statement))
      (both _ _ _ _ _ c.note.ensures.defines rest));
  macros_kept = c.note.ensures.macros_kept ∙ c.loop-passed.invariant.macros_kept;
  calls_kept = c.note.ensures.calls_kept ∙ c.loop-passed.invariant.calls_kept;
  left_kept = c.note.ensures.left_kept ∙ c.loop-passed.invariant.left_kept;
}
