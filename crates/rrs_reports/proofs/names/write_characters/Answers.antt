-- Each turn writes the next character as it is shown, and what is left is shown after it.
use Rattle.std.proofs.Common.{◌≡◌, ℕ, List, ◌++◌, IsUtf8, encode_utf8, sym, ap, ◌∙◌, append_assoc, append-nil, rules}
use Rattle.std.proofs.Output.{has_written_append, has_written_of_eq}
use Rattle.std.proofs.lemmas.Str.{IsUtf8-past_char, chars_past_char, chars-nil}
use Rattle.std.proofs.lemmas.List.{nil_from_length}
use Rattle.std.specs.List.{flat_map}
use Rattle.rrs_reports.specs.ShownNames.{shown_character, shown_characters}
use Rattle.rrs_reports.proofs.names.write_characters.Goals as goal

shown_more : (text rest : List ℕ) (c : ℕ) → IsUtf8 text → text ≡ encode_utf8 c ++ rest
    → shown_characters text ≡ shown_character c ++ shown_characters rest
shown_more text rest c utf8 parts = ap (flat_map shown_character) (chars_past_char text rest c utf8 parts)

pub loop-character-preserved : goal.loop-character-preserved
loop-character-preserved g c =
    let held = c.loop-character.invariant in
    let parts = c.in-Some.ensures.steps.0 in
    let more = shown_more _ _ c.in-Some.character held.0 parts in (
      IsUtf8-past_char _ _ c.in-Some.character held.0 parts,
      λ plain.
          let now = held.1 plain in (
            now.0 ++ shown_character c.in-Some.character,
            has_written_append _ _ _ _ _ _ now.1 (search rules),
            append_assoc now.0 (shown_character c.in-Some.character) _ ∙ ap (λ l. now.0 ++ l) (sym more) ∙ now.2,
          ),
    )

pub returns : goal.returns
returns g c =
    λ plain _.
    let now = c.loop-character.invariant.1 plain in
    let none = nil_from_length _ c.in-None.ensures.steps.0.0 in
    has_written_of_eq _ _ _ _ _ (sym (append-nil now.0) ∙ ap (λ l. now.0 ++ l) (sym (ap (flat_map shown_character) chars-nil)) ∙ ap (λ l. now.0 ++ shown_characters l) (sym none) ∙ now.2) now.1
