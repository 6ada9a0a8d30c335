use Rattle.std.proofs.Common.{subst, sym, Option, ℕ, if◌then◌else◌, [], ◌∷◌}
use Rattle.rrs_lib.specs.declared.MemAccessSize.TheVariants.{Word}
use Rattle.rrs_lib.specs.Accesses.{write_in}
use Rattle.rrs_hart.specs.Atomics.{holds}
use Rattle.rrs_gdb.specs.Harts.{TouchesOneOf}
use Rattle.rrs_gdb.proofs.HartLemmas.{stores_reserved}
use Rattle.rrs_gdb.proofs.harts.reserved_touched.Goals as goal

pub returns-in-Some : goal.returns-in-Some
returns-in-Some c = λ s value.
    subst (λ (r : Option ℕ). TouchesOneOf c.args.watches.now
    (if holds r c.args.address then write_in s c.args.address Word value ∷ [] else []) c.touched.result) (sym c.in-Some.is)
    (stores_reserved _ s c.args.address value c.in-Some.reserved _ c.if-reserved-address.true c.touched.ensures)
