use Rattle.std.proofs.Common.{rules, refl}
use Rattle.rrs_files.specs.Paths.{BeginsHere, IsBeside}
use Rattle.rrs_files.proofs.paths.refusal_of.Goals as goal

pub returns-in-Some-target_of : goal.returns-in-Some-target_of
returns-in-Some-target_of c =
    let away : BeginsHere c.args.path.now c.args.beside → ⊥ = search rules in
    IsBeside away c.in-Some-target_of.field-0 c.in-Some-target_of.ensures refl
