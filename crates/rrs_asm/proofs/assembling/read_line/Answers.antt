use Rattle.std.proofs.Common.{◌≡◌, ℕ, List, Option, None, Bor, Err, refl, subst, sym, rules, arith}
use Rattle.std.proofs.lemmas.Grind.{common_steps}
use Rattle.rrs_asm_lines.specs.Lines.{shown, parts}
use Rattle.rrs_asm.specs.Source.{items_in, items_of_parts}
use Rattle.rrs_asm.specs.Forms.{items_of_read, ReadsOn, left_in_line}
use Rattle.rrs_asm.proofs.Made.{ReadsOn-nothing, ReadsOn-wrong, ReadsOn-part, ReadsOn-read, no-ok}
use Rattle.rrs_asm.proofs.assembling.read_line.Goals as goal

-- the part was read, and who reads the others reads what was left
pub loop-rest-preserved-in-Ok : goal.loop-rest-preserved-in-Ok
loop-rest-preserved-in-Ok g c = λ end rest.
    let Left : Option (Bor (List ℕ)) → Type 0 = λ r. ReadsOn (left_in_line c.args.number r) c.loop-rest.reading end in
    let line : ReadsOn (items_of_parts c.args.number (parts c.in-Some.text.now)) c.loop-rest.reading end =
    ReadsOn-read c.args.number c.in-Some.text.now (shown c.first_part.result.0) c.first_part.result.1
    (items_of_read c.args.number c.in-Ok.read) c.loop-rest.reading c.perform.new.reading end
    c.first_part.ensures.parts (c.in-Ok.ensures.items c.args.number) c.perform.ensures rest in
    c.loop-rest.invariant end (subst Left (sym c.in-Some.is) line)

-- something is wrong
pub loop-rest-preserved : goal.loop-rest-preserved
loop-rest-preserved g c = λ end rest.
    let Left : Option (Bor (List ℕ)) → Type 0 = λ r. ReadsOn (left_in_line c.args.number r) c.loop-rest.reading end in
    let line : ReadsOn (items_of_parts c.args.number (parts c.in-Some.text.now)) c.loop-rest.reading end =
    ReadsOn-part c.args.number c.in-Some.text.now (shown c.first_part.result.0) c.first_part.result.1
    c.loop-rest.reading c.keep.new.self end c.first_part.ensures.parts
    (ReadsOn-wrong (items_in c.args.number (shown c.first_part.result.0)) c.loop-rest.reading c.keep.new.self (λ good. no-ok c.in-Err.halt tt (Err c.in-Err.halt) refl (c.keep.ensures good).0)) rest in
    c.loop-rest.invariant end (subst Left (sym c.in-Some.is) line)

-- nothing is left
pub returns : goal.returns
returns g c =
    let over : c.loop-rest.rest ≡ None = first_of (search rules, cc, grind (arith, common_steps)) in
    let Left : Option (Bor (List ℕ)) → Type 0 = λ r. ReadsOn (left_in_line c.args.number r) c.loop-rest.reading c.loop-rest.reading in
    c.loop-rest.invariant c.loop-rest.reading (subst Left (sym over) (ReadsOn-nothing c.loop-rest.reading))
