use Rattle.std.proofs.Common.{sym, subst, ◌∙◌}
use Rattle.std.proofs.lemmas.Bool.{false≢true}
use Rattle.rrs_machine.specs.declared.traps.AccessKind.TheVariants.{Load, Store}
use Rattle.rrs_machine.specs.Traps.{IsKind}
use Rattle.rrs_machine.proofs.traps.kind_of.Goals as goal

pub returns-then-is_store : goal.returns-then-is_store
returns-then-is_store c = subst (λ x. IsKind c.args.profile x Store) (sym c.in-Ok.is) (c.is_store.ensures.0 c.if-is_store.true)

pub returns-else-is_store : goal.returns-else-is_store
returns-else-is_store c =
    subst (λ x. IsKind c.args.profile x Load) (sym c.in-Ok.is)
    (λ store. false≢true (sym c.if-is_store.false ∙ c.is_store.ensures.1 store))
