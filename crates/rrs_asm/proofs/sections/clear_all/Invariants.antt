use Rattle.std.proofs.Common.{◌≡◌, ℕ, ◌<◌, get_or, length}
use Rattle.rrs_asm.specs.declared.sections.Section.{Section}
use Rattle.rrs_asm.specs.Forms.{IsNew}
use Rattle.rrs_asm.proofs.sections.clear_all.Given as goal

-- those before were cleared
abbrev pub invariant-loop-index : goal.invariant-loop-index
invariant-loop-index g l =
    (length l.sections.items ≡ length l.fn.sections.items)
    × ((k : ℕ) (d : Section _) → k < l.index → IsNew (get_or l.sections.items k d))
