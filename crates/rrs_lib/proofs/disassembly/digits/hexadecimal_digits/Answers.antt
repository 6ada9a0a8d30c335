use Rattle.std.proofs.Common.{◌≡◌, ℕ, ◌-◌, ◌++◌, ◌∙◌, ap, sym, subst, take, drop, replicate, length, false, arith, List, ◌≤◌}
use Rattle.std.specs.Str.{IsUtf8}
use Rattle.std.specs.Fmt.{digits}
use Rattle.std.proofs.lemmas.Str.{IsUtf8-append}
use Rattle.std.proofs.DigitsParse.{digits-IsUtf8}
use Rattle.std.proofs.Padding.{filled_text, replicate-IsUtf8}
use Rattle.rrs_memory.specs.Hexadecimal.{hexadecimal}
use Rattle.rrs_lib.proofs.disassembly.digits.hexadecimal_digits.Goals as goal

hexadecimal-IsUtf8 : (n x : ℕ) → IsUtf8 (hexadecimal n x)
hexadecimal-IsUtf8 n x =
    IsUtf8-append _ _ (replicate-IsUtf8 _ 48 (omega arith)) (digits-IsUtf8 16 false x (omega arith) (omega arith))

-- the digits at the end of a buffer of zeros, and as many of these before them as are asked for
filled : (out : List ℕ) (x start first least : ℕ) → length out ≡ 8 → start ≤ 8
    → drop start out ≡ digits 16 false x → take start out ≡ take start (replicate 8 48)
    → first ≤ start → start - first ≡ least - (8 - start) → take (8 - first) (drop first out) ≡ hexadecimal least x
filled out x start first least long within written front early count =
    ap (λ n. take (n - first) (drop first out)) (sym long) ∙ filled_text out (digits 16 false x) 8 48 start first least long within written front early count

pub from_utf8_unchecked-requires : goal.from_utf8_unchecked-requires
from_utf8_unchecked-requires c =
    let put = c.put_digits-start in
    let is = put.ensures in
    let first = c.min-first.ensures in
    let text = filled _ c.args.word put.result _ c.args.least put.array_long is.within is.written is.front (omega arith) (omega arith) in
    subst IsUtf8 (sym text) (hexadecimal-IsUtf8 c.args.least c.args.word)

pub returns : goal.returns
returns c =
    let put = c.put_digits-start in
    let is = put.ensures in
    let first = c.min-first.ensures in
    let text = filled _ c.args.word put.result _ c.args.least put.array_long is.within is.written is.front (omega arith) (omega arith) in
    c.push_str.ensures.bytes ∙ ap (λ old. old ++ c.from_utf8_unchecked.result.now) c.new-text.ensures ∙ c.from_utf8_unchecked.ensures ∙ text
