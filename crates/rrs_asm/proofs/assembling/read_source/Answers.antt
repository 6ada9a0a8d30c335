use Rattle.std.proofs.Common.{◌≡◌, ℕ, ◌+◌, ◌≤◌, List, length, Option, None, Bor, rules, subst, sym, arith}
use Rattle.std.specs.Option.{option_map_or}
use Rattle.std.proofs.lemmas.Grind.{common_steps}
use Rattle.rrs_asm_lines.specs.Lines.{lines}
use Rattle.rrs_asm.specs.Source.{items_from}
use Rattle.rrs_asm.specs.Forms.{ReadsOn, left_in_source}
use Rattle.rrs_asm.proofs.Made.{ReadsOn-nothing, ReadsOn-from, ReadsOn-line, counted}
use Rattle.rrs_asm.proofs.assembling.read_source.Goals as goal

-- the line was read, and who reads the others reads what was left
pub loop-rest-preserved : goal.loop-rest-preserved
loop-rest-preserved g c =
    let Fits : Option (Bor (List ℕ)) → Type 0 = λ r. option_map_or (λ rest. c.loop-rest.number + length rest.now) r 0 ≤ length c.args.source.now in (
      counted c.first_line.result.1 c.loop-rest.number (length c.args.source.now) c.in-Some.text.now c.first_line.ensures.shorter (subst Fits c.in-Some.is c.loop-rest.invariant.0),
      λ end reads.
          let Left : Option (Bor (List ℕ)) → Type 0 = λ r. ReadsOn (left_in_source (c.loop-rest.number + 1) r) c.loop-rest.reading end in
          let source : ReadsOn (items_from (c.loop-rest.number + 1) (lines c.in-Some.text.now)) c.loop-rest.reading end =
          ReadsOn-line (c.loop-rest.number + 1) c.in-Some.text.now c.first_line.result.0.now c.first_line.result.1
          c.loop-rest.reading c.read_line.new.reading end c.first_line.ensures.lines c.read_line.ensures
          (ReadsOn-from (left_in_source (c.loop-rest.number + 1 + 1) c.first_line.result.1) c.read_line.new.reading c.end_line.new.self end c.end_line.ensures reads) in
          c.loop-rest.invariant.1 end (subst Left (sym c.in-Some.is) source),
    )

-- nothing is left
pub returns : goal.returns
returns g c =
    let over : c.loop-rest.rest ≡ None = first_of (search rules, cc, grind (arith, common_steps)) in
    let Left : Option (Bor (List ℕ)) → Type 0 = λ r. ReadsOn (left_in_source (c.loop-rest.number + 1) r) c.loop-rest.reading c.loop-rest.reading in
    c.loop-rest.invariant.1 c.loop-rest.reading (subst Left (sym over) (ReadsOn-nothing c.loop-rest.reading))
