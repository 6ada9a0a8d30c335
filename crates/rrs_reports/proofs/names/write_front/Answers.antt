-- The bytes are shown as characters where they are UTF-8, and else one by one.
use Rattle.std.proofs.Common.{◌≡◌, ℕ, List, Bool, true, false, if◌then◌else◌, IsUtf8, refl, ap}
use Rattle.std.proofs.Output.{has_written_of_eq}
use Rattle.std.proofs.lemmas.Str.{IsUtf8-from_is_utf8, is_utf8-from_IsUtf8}
use Rattle.std.specs.Str.{is_utf8}
use Rattle.rrs_reports.specs.ShownNames.{shown_bytes, shown_characters, shown_front}
use Rattle.rrs_reports.proofs.names.write_front.Goals as goal

of_text : (bytes text : List ℕ) → text ≡ bytes → IsUtf8 bytes → shown_characters text ≡ shown_front bytes
of_text bytes text same utf8 = rw (is_utf8-from_IsUtf8 bytes utf8) (ap shown_characters same)

by_test : (is : Bool) (bytes : List ℕ) → is_utf8 bytes ≡ is → (IsUtf8 bytes → ⊥)
    → shown_bytes bytes ≡ (if is then shown_characters bytes else shown_bytes bytes)
by_test true bytes text none = absurd (none (IsUtf8-from_is_utf8 bytes text))
by_test false bytes text none = refl

pub returns-in-Ok : goal.returns-in-Ok
returns-in-Ok g c =
    λ plain ok.
    let text = c.in-Ok.ensures.cases in
    has_written_of_eq _ _ _ _ _ (of_text c.args.bytes.now c.in-Ok.text.now text.0 text.1) (c.write_characters.ensures plain ok)

pub returns-in-Err : goal.returns-in-Err
returns-in-Err g c =
    λ plain ok.
    let none = c.in-Err.ensures.cases in
    has_written_of_eq _ _ _ _ _ (by_test (is_utf8 c.args.bytes.now) c.args.bytes.now refl none.0) (c.write_bytes.ensures plain ok)
