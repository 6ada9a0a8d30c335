-- What the tests of the tables say.
use Rattle.std.proofs.Common.{◌≡◌, ℕ, Bool, true, false, not, ◌&&◌, List, Option, Some, None, IfSome, refl}
use Rattle.std.proofs.lemmas.Slice.Eq.{bytes_eq-Decides}
use Rattle.rrs_asm.specs.declared.names.PseudoForm.{PseudoForm}
use Rattle.rrs_asm.specs.declared.names.DirectiveForm.{DirectiveForm}
use Rattle.rrs_asm.specs.declared.system.SystemForm.{SystemForm}
use Rattle.rrs_asm.specs.Names.{system_form_name, is_one_of, fill_names, is_silent_name, is_section_name, is_common_name}
use Rattle.rrs_asm.specs.Forms.{form_name, fits_pseudo, fits_system, fits_placed, fits_directive, IsForm}

pub pseudo-name : (name : List ℕ) (found : Option PseudoForm) → IfSome found (λ form. fits_pseudo name form ≡ true) → IfSome found (λ form. form_name form ≡ name)
pseudo-name name None fits = tt
pseudo-name name (Some form) fits = (bytes_eq-Decides (form_name form) name).0 fits

pub system-name : (name : List ℕ) (found : Option SystemForm) → IfSome found (λ form. fits_system name form ≡ true) → IfSome found (λ form. system_form_name form ≡ name)
system-name name None fits = tt
system-name name (Some form) fits = (bytes_eq-Decides (system_form_name form) name).0 fits

both : (a b : Bool) → (not a && b) ≡ true → (a ≡ false) × (b ≡ true)
both false true is = (refl, refl)
both false false is = (refl, is)
both true b is = absurd (cc)

neither : (a b : Bool) → (not a && not b) ≡ true → (a ≡ false) × (b ≡ false)
neither false false is = (refl, refl)
neither false true is = absurd (cc)
neither true b is = absurd (cc)

both-true : (a b : Bool) → (a && b) ≡ true → (a ≡ true) × (b ≡ true)
both-true true b is = (refl, is)
both-true false b is = absurd (cc)

three : (a b c : Bool) → (not a && (not b && not c)) ≡ true → (a ≡ false) × (b ≡ false) × (c ≡ false)
three false false false is = (refl, refl, refl)
three false false true is = absurd (cc)
three false true c is = absurd (cc)
three true b c is = absurd (cc)

placed : (a b c d : Bool) → ((not a && (not b && not c)) && d) ≡ true → (a ≡ false) × (b ≡ false) × (c ≡ false) × (d ≡ true)
placed a b c d is =
    let all : ((not a && (not b && not c)) ≡ true) × (d ≡ true) = both-true (not a && (not b && not c)) d is in
    let none : (a ≡ false) × (b ≡ false) × (c ≡ false) = three a b c all.0 in
    (none.0, none.1, none.2, all.1)

common : (a b c d : Bool) → (not a && (not b && (c && d))) ≡ true → (a ≡ false) × (b ≡ false) × (c ≡ true) × (d ≡ true)
common false false c d is = let all : (c ≡ true) × (d ≡ true) = both-true c d is in (refl, refl, all.0, all.1)
common false true c d is = absurd (cc)
common true b c d is = absurd (cc)

is-form : (name : List ℕ) (form : DirectiveForm) → fits_directive name form ≡ true → IsForm name form
is-form name (DirectiveForm.Place form) fits = placed (is_silent_name name) (is_section_name name) (is_common_name name) (fits_placed name form) fits
is-form name DirectiveForm.Refused fits = three (is_silent_name name) (is_section_name name) (is_common_name name) fits
is-form name DirectiveForm.Common fits = common (is_silent_name name) (is_section_name name) (is_common_name name) (is_one_of fill_names name) fits
is-form name DirectiveForm.Section fits = both (is_silent_name name) (is_section_name name) fits
is-form name DirectiveForm.Constant fits = fits
is-form name DirectiveForm.Option fits = fits
is-form name DirectiveForm.Silent fits = fits

pub directive-form : (name : List ℕ) (found : Option DirectiveForm) → IfSome found (λ form. fits_directive name form ≡ true) → IfSome found (IsForm name)
directive-form name None fits = tt
directive-form name (Some form) fits = is-form name form fits
