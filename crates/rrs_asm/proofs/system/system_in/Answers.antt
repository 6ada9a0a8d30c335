use Rattle.std.proofs.Common.{◌≡◌, ℕ, true, List, [], get_or, Bor, rules, subst}
use Rattle.std.proofs.lemmas.List.Elements.{All-get_or}
use Rattle.std.proofs.lemmas.List.Sums.{AllPass-from_list_all}
use Rattle.rrs_words.specs.declared.instructions.SystemRow.{SystemRow}
use Rattle.rrs_asm.specs.declared.system.SystemForm.{SystemForm}
use Rattle.rrs_asm.proofs.system.system_in.Goals as goal

-- the entry passes the test, and has the name
pub returns-then-eq : goal.returns-then-eq
returns-then-eq c = λ fits all.
    let item : Bor (List ℕ) × SystemForm = get_or c.args.table.now c.loop-own.own-index (record { ref_ptr = (0, 0); now = [] }, SystemForm.Alone SystemRow.Csrrw) in
    let same : item.0.now ≡ c.args.name.now = search rules in
    let Passes : (Bor (List ℕ) × SystemForm) → Type 0 = λ e. fits e.0.now e.1 ≡ true in
    let at : Passes item = All-get_or Passes c.args.table.now c.loop-own.own-index _ c.loop-own-test.true
    (AllPass-from_list_all (λ (e : Bor (List ℕ) × SystemForm). fits e.0.now e.1) c.args.table.now all) in
    let Named : List ℕ → Type 0 = λ n. fits n item.1 ≡ true in
    subst Named same at
