use Rattle.std.proofs.Common.{arith}
use Rattle.std.proofs.KnownBytes.{Appends-kept}
use Rattle.rrs_cli.proofs.Printing.{text_begun, nothing_written, piece_written, piece_within, none_written}
use Rattle.rrs_cli.proofs.report.write_text.Goals as goal
use Rattle.rrs_cli.proofs.report.write_text.Goals.{in-Ok, in-Err+else-ne}

pub returns-in-Ok-eq0-clause-fault : goal.returns-in-Ok-eq0-clause-fault
returns-in-Ok-eq0-clause-fault g c =
    text_begun _ _ _ _ (nothing_written _ _ _ _ _ _ c.in-Ok-eq0.field-0-test c.loop.invariant.appended c.in-Ok-eq0.ensures.bytes)

pub returns-then-ne-clause-fault : goal.returns-then-ne-clause-fault
returns-then-ne-clause-fault g c =
    text_begun _ _ _ _ (Appends-kept _ _ _ _ c.loop.invariant.appended c.in-Err.ensures.bytes)

pub returns-clause-fault : goal.returns-clause-fault
returns-clause-fault g c = text_begun _ _ _ _ c.loop.invariant.appended

pub loop-preserved : goal.loop-preserved
loop-preserved g c =
    let text = c.args.text.now in
    let written = c.loop.written in
    let before = c.loop.invariant in
    elim c.match-write.branch [
      | in-Ok w ↦ record {
        within = piece_within text written w.in-Ok.count _ w.written-is before.within w.in-Ok.ensures.bound;
        appended = piece_written text written w.in-Ok.count _ _ _ _ w.written-is before.appended w.in-Ok.ensures.bytes;
      }
      | in-Err+else-ne w ↦ record {
        within = omega (arith, w.written-is);
        appended = none_written text written _ _ _ _ w.written-is before.appended w.in-Err.ensures.bytes;
      }
    ]
