use Rattle.rrs_cli.proofs.loading.empty_memory.Goals as goal

pub returns-in-Ok-clause-words : goal.returns-in-Ok-clause-words
returns-in-Ok-clause-words c =
    rw c.new.ensures (c.in-Ok.ensures.items_if_clones_equal (λ y e. e))
