-- Argument by argument.
use Rattle.std.proofs.Common.{◌≡◌, ◌≢◌, ℕ, List, [], ◌∷◌, ◌++◌, Ok, length, map, rules}
use Rattle.std.specs.Prelude.{string_bytes}
use Rattle.std.specs.Str.{IsUtf8}
use Rattle.hex.specs.Hex.{decode_of}
use Rattle.std.proofs.lemmas.List.{map-append}
use Rattle.rrs_gdb.proofs.FieldLemmas.{nothing_left, text_more, text_next, text_none, texts_all}
use Rattle.rrs_gdb.proofs.session.arguments_of.Goals as goal

pub arguments-preserved : goal.arguments-preserved
arguments-preserved c =
    let rest = c.arguments.rest.now in
    let some : rest ≢ [] = search rules in
    let parts = c.cut_or_all.ensures.parts in
    let text = string_bytes c.in-Some.argument in
    let is : (decode_of c.cut_or_all.result.0.now ≡ Ok text) × IsUtf8 text = search rules in
    let made = map string_bytes c.arguments.arguments.items in
    let new = map string_bytes c.push.new.self.items in
    let added : new ≡ made ++ text ∷ [] = search (rules, map-append) in
    record {
      made = text_more made new c.args.text.now rest c.cut_or_all.result.0.now c.cut_or_all.result.1.now text
          c.arguments.invariant.made some parts.0 parts.1 is.0 is.1 added;
      all = text_next made new c.args.text.now rest c.cut_or_all.result.0.now c.cut_or_all.result.1.now text
          c.arguments.invariant.all some parts.0 parts.1 is.0 added;
    }

pub returns-in_default : goal.returns-in_default
returns-in_default c =
    let rest = c.arguments.rest.now in
    let some : rest ≢ [] = search rules in
    let none : (t : List ℕ) → decode_of c.cut_or_all.result.0.now ≡ Ok t → ¬ IsUtf8 t = search rules in
    text_none (map string_bytes c.arguments.arguments.items) c.args.text.now rest c.cut_or_all.result.0.now
    c.arguments.invariant.all some c.cut_or_all.ensures.parts.0 none

pub returns : goal.returns
returns c =
    let none : length c.arguments.rest.now ≡ 0 = search rules in
    let ended : c.arguments.rest.now ≡ [] = nothing_left c.arguments.rest.now none in
    texts_all (map string_bytes c.arguments.arguments.items) c.args.text.now c.arguments.rest.now
    c.arguments.invariant.made ended
