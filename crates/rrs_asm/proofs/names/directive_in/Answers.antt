use Rattle.std.proofs.Common.{◌≡◌, ℕ, true, List, [], get_or, Bor}
use Rattle.std.proofs.lemmas.List.Elements.{All-get_or}
use Rattle.std.proofs.lemmas.List.Sums.{AllPass-from_list_all}
use Rattle.std.specs.List.{list_all}
use Rattle.rrs_asm_lines.specs.Lines.{words_of}
use Rattle.rrs_asm_lines.proofs.Cutting.{place-some}
use Rattle.rrs_asm.specs.declared.names.DataForm.{DataForm}
use Rattle.rrs_asm.specs.declared.names.DirectiveForm.{DirectiveForm}
use Rattle.rrs_asm.specs.declared.names.PlacedForm.{PlacedForm}
use Rattle.rrs_asm.proofs.names.directive_in.Goals as goal

-- the name is one of the words of the entry, all of which pass the test
pub returns-then-is_some : goal.returns-then-is_some
returns-then-is_some c = λ fits all.
    let item : Bor (List ℕ) × DirectiveForm = get_or c.args.table.now c.loop-words.words-index (record { ref_ptr = (0, 0); now = [] }, DirectiveForm.Place (PlacedForm.Data (DataForm.Numbers 0))) in
    let Passes : (Bor (List ℕ) × DirectiveForm) → Type 0 = λ e. list_all (λ own. fits own e.1) (words_of e.0.now) ≡ true in
    let at : Passes item = All-get_or Passes c.args.table.now c.loop-words.words-index _ c.loop-words-test.true
    (AllPass-from_list_all (λ (e : Bor (List ℕ) × DirectiveForm). list_all (λ own. fits own e.1) (words_of e.0.now)) c.args.table.now all) in
    place-some (λ own. fits own item.1) c.args.name.now (words_of item.0.now) c.place_among.result c.if-is_some.ensures c.place_among.ensures at
