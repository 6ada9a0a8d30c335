-- One number more.
use Rattle.std.proofs.Common.{◌≡◌, ◌∙◌, ◌++◌, ◌+◌, refl, ap, sym, is_some, suc, true, false, arith}
use Rattle.rrs_words.specs.CsrNumbers.{csr_at}
use Rattle.rrs_board_gdb.specs.Shown.{csr_line, csr_lines}
use Rattle.rrs_board_gdb.proofs.AnswerLemmas.{no_lines, one_line, other_line}
use Rattle.rrs_board_gdb.proofs.target.push_csrs.Goals as goal
use Rattle.rrs_board_gdb.proofs.target.push_csrs.Goals.{then-is_some+in_ok-push_csr, else-is_some}

pub loop-number-init : goal.loop-number-init
loop-number-init c = no_lines c.args.profile c.args.text.now.items

pub loop-number-preserved : goal.loop-number-preserved
loop-number-preserved c =
    let n = c.loop-number.number in
    let old = c.args.text.now.items in
    let p = c.args.profile in
    let same : is_some c.at.result ≡ is_some (csr_at p n) = ap is_some (c.at.ensures ∙ ap (csr_at p) c.from.ensures) in
    let next : suc n ≡ n + 1 = omega arith in
    elim c.if-is_some.branch [
      | then-is_some+in_ok-push_csr w ↦ rw (w.text-is, ← next) (one_line p old w.push_csr.new.text.items n
          (sym same ∙ sym c.is_some.ensures ∙ w.if-is_some.true)
          (w.in_ok-push_csr.ensures ∙ ap (λ xs. xs ++ csr_line n) c.loop-number.invariant))
      | else-is_some w ↦ rw (w.text-is, ← next) (other_line p old c.loop-number.text.items n
          (sym same ∙ sym c.is_some.ensures ∙ w.if-is_some.false) c.loop-number.invariant)
    ]

pub returns : goal.returns
returns c =
    let all : c.loop-number.number ≡ 4096 = omega (arith, c.loop-number-test.false, c.loop-number.auto) in
    c.loop-number.invariant ∙ ap (λ n. c.args.text.now.items ++ csr_lines c.args.profile n) all
