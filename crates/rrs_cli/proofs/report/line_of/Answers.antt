-- The parts of the line, one after another.
use Rattle.std.proofs.lemmas.List.{append_assoc}
use Rattle.rrs_cli.proofs.report.line_of.Goals as goal

pub returns : goal.returns
returns c =
    rw (c.push_str-5.ensures.bytes, c.push_str-4.ensures.bytes, c.as_str-2.ensures.value)
    (rw (c.push_str-3.ensures.bytes, c.push_str-2.ensures.bytes, c.as_str.ensures.value)
    (rw (c.hexadecimal_digits.ensures, c.push_str.ensures.bytes, c.new-line.ensures)
    (simp append_assoc)))
