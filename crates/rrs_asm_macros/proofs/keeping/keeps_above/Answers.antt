use Rattle.std.proofs.Common.{◌≡◌, ℕ, ◌+◌, true, false, List, [], ◌∷◌, get_or, Option, Bor, sym, ap, ◌∙◌, rules}
use Rattle.std.specs.Option.{option_map_or}
use Rattle.rrs_asm_macros.specs.Directives.{has_directives}
use Rattle.rrs_asm_lines.specs.Lines.{lines}
use Rattle.rrs_asm_macros.specs.Lines.{lines_above}
use Rattle.rrs_asm_macros.proofs.Above.{above-none, kept, head-behind, count-behind, number-behind}
use Rattle.rrs_asm_macros.proofs.keeping.keeps_above.Goals as goal

-- the lines of what is left, which are none where nothing is
rows : Option (Bor (List ℕ)) → List (List ℕ)
rows text = option_map_or (λ bytes. lines bytes.now) text []

pub returns-then-has_directives : goal.returns-then-has_directives
unfolding rows
returns-then-has_directives g c = λ yes.
    let before = c.loop-left.invariant in
    let line = c.first_line.result.0.now in
    let left : rows c.loop-left.left ≡ line ∷ rows c.first_line.result.1 = ap rows c.in-Some.is ∙ c.first_line.ensures.lines in
    let has : has_directives line ≡ true = sym c.has_directives.ensures ∙ c.if-has_directives.true in
    kept c.args.source.now c.args.expanded.now (rows c.loop-left.left) (rows c.loop-left.made) c.loop-left.number before.head before.counted before.numbered
    (above-none (rows c.loop-left.left) (rows c.first_line.result.1) line left has)

pub loop-left-preserved : goal.loop-left-preserved
unfolding rows
loop-left-preserved g c =
    let before = c.loop-left.invariant in
    let line = c.first_line.result.0.now in
    let left : rows c.loop-left.left ≡ line ∷ rows c.first_line.result.1 = ap rows c.in-Some.is ∙ c.first_line.ensures.lines in
    let same : c.first_line-in-Some.result.0.now ≡ line = search rules in
    let made : rows c.loop-left.made ≡ line ∷ rows c.first_line-in-Some.result.1 =
    ap rows c.in-Some-made.is ∙ (c.first_line-in-Some.ensures.lines ∙ ap (λ own. own ∷ rows c.first_line-in-Some.result.1) same) in
    let has : has_directives line ≡ false = sym c.has_directives.ensures ∙ c.if-has_directives.false in
    let here : get_or c.args.expanded.now.lines.items c.loop-left.number 0 ≡ c.loop-left.number + 1 = search rules in record {
      head = head-behind (rows c.loop-left.left) (rows c.loop-left.made) (rows c.first_line.result.1) (rows c.first_line-in-Some.result.1) _ _ line left made has before.head;
      counted = count-behind (rows c.loop-left.left) (rows c.first_line.result.1) line c.loop-left.number _ left has before.counted;
      numbered = number-behind c.args.expanded.now.lines.items c.loop-left.number before.numbered here;
    }

pub returns : goal.returns
unfolding rows
returns g c = λ yes.
    let before = c.loop-left.invariant in
    kept c.args.source.now c.args.expanded.now (rows c.loop-left.left) (rows c.loop-left.made) c.loop-left.number before.head before.counted before.numbered
    (ap (λ text. lines_above (rows text)) c.in_default.is)
