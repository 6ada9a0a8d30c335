-- Piece by piece.
use Rattle.std.proofs.Common.{ap, ◌∙◌, ◌+◌, ℕ, ℤ, w32, rules}
use Rattle.std.proofs.lemmas.Int.{to_z-of_z}
use Rattle.std.specs.Fmt.{decimal}
use Rattle.rrs_lib.specs.declared.instruction_formats.IType.{IType}
use Rattle.rrs_words.specs.declared.instructions.SystemRow.TheVariants.{Csrrs}
use Rattle.rrs_words.specs.SystemTexts.{system_text}
use Rattle.rrs_board_gdb.specs.Shown.{csr_in, csr_line}
use Rattle.rrs_board_gdb.proofs.AnswerLemmas.{five_pieces}
use Rattle.rrs_board_gdb.proofs.target.push_csr.Goals as goal

abbrev read : ℤ → IType
read number = record { imm = number; rs1 = 0; funct3 = 2; rd = 0 }

pub returns : goal.returns
unfolding csr_line
returns c =
    five_pieces c.push_text-5.result _ _ _ _ _ _ _ _ _ _ _ _ _ c.in_ok-push_text.ensures c.in_ok-push_text-2.ensures
    (c.name_in.ensures ∙ ap csr_in (c.as_bytes.ensures.value ∙ c.as_str.ensures.value ∙ c.system_text.ensures
    ∙ ap (λ (n : ℤ). system_text Csrrs (read n)) (to_z-of_z w32 c.from.result (search rules) ∙ c.from.ensures)))
    c.in_ok-push_text-3.ensures c.in_ok-push_text-4.ensures
    (c.as_bytes-2.ensures.value ∙ c.in_ok-place.ensures.ok ∙ ap (λ (n : ℕ). decimal (n + 65)) c.from-2.ensures)
    c.push_text-5.ensures
