-- Which format each kind of action has.
use Rattle.std.proofs.Common.{◌≡◌, refl}
use Rattle.rrs_instruction.specs.Table.{Row, Format, InR, InI, InIShamt, InS, InB, InU, InJ, table, Action, OnRegisters, OnShamt, LoadUpper, AddUpperToPc, BranchIf, BranchUnless, Store, JumpAndLink}

abbrev pub format_of_action : Action → Format
format_of_action (OnRegisters op) = InR
format_of_action (OnShamt op) = InIShamt
format_of_action LoadUpper = InU
format_of_action AddUpperToPc = InU
format_of_action (BranchIf test) = InB
format_of_action (BranchUnless test) = InB
format_of_action (Store n) = InS
format_of_action JumpAndLink = InJ
format_of_action _ = InI

-- it is the format of each row that does it
pub format_of_row : (row : Row) → (table row).format ≡ format_of_action (table row).action
format_of_row Row.Add = refl
format_of_row _ = refl
