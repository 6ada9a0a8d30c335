-- None of the CSRs with a lower number has the name.
use Rattle.std.proofs.Common.{◌≡◌, ◌≢◌, ◌<◌, ℕ, true}
use Rattle.rrs_words.specs.CsrNumbers.{is_csr}
use Rattle.rrs_words.specs.SystemTexts.{csr_name}
use Rattle.rrs_words.proofs.texts.csr_named.Given as goal

abbrev pub invariant-loop-number : goal.invariant-loop-number
invariant-loop-number l = (n : ℕ) → n < l.number → is_csr n ≡ true → csr_name n ≢ l.fn.name
