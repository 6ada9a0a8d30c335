-- The first one, one that is nearer, or one that is not.
use Rattle.std.proofs.Common.{◌≡◌, ◌∙◌, true, sym}
use Rattle.rrs_elf.specs.Symbols.{is_before}
use Rattle.rrs_elf.proofs.Nearest.{nearest_first, nearest_moves, nearest_stays}
use Rattle.rrs_elf.proofs.locations.nearer.Goals as goal

pub returns-in_default : goal.returns-in_default
returns-in_default c =
    let is : is_before c.args.file.now c.args.table c.args.address c.args.index ≡ true =
    sym c.is_behind.ensures ∙ c.if-not-is_behind.false in
    nearest_first _ _ _ c.args.index (rw c.in_default.is at c.requires.before) is

pub returns-then-is_nearer : goal.returns-then-is_nearer
returns-then-is_nearer c =
    let is : is_before c.args.file.now c.args.table c.args.address c.args.index ≡ true =
    sym c.is_behind.ensures ∙ c.if-not-is_behind.false in
    let this = c.read_symbol-symbol.ensures in
    let other = c.read_symbol-before.ensures in
    let holds = rw (this.value_is, this.size_is, other.value_is, other.size_is) at (sym c.is_nearer.ensures ∙ c.if-is_nearer.true) in
    nearest_moves _ _ _ c.args.index c.in-Some.other (rw c.in-Some.is at c.requires.before) is holds

pub returns : goal.returns
returns c =
    let this = c.read_symbol-symbol.ensures in
    let other = c.read_symbol-before.ensures in
    let fails = rw (this.value_is, this.size_is, other.value_is, other.size_is) at (sym c.is_nearer.ensures ∙ c.if-is_nearer.false) in
    nearest_stays _ _ _ c.args.index c.in-Some.other (rw c.in-Some.is at c.requires.before) fails
