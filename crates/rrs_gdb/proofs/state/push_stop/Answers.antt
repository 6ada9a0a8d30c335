-- Each begins with its letter, which is not that of an error.
use Rattle.std.proofs.Common.{arith}
use Rattle.rrs_gdb.proofs.SessionLemmas.{texted}
use Rattle.rrs_gdb.proofs.state.push_stop.Goals as goal

pub returns-in-Signal-clause-no_error : goal.returns-in-Signal-clause-no_error
returns-in-Signal-clause-no_error c = texted c.push_code.result _ _ 83 _ (omega arith) c.push_code.ensures

pub returns-in-Touched-clause-no_error : goal.returns-in-Touched-clause-no_error
returns-in-Touched-clause-no_error c = texted c.push_named.result _ _ 84 _ (omega arith) c.push_named.ensures

pub returns-in-Entry-clause-no_error : goal.returns-in-Entry-clause-no_error
returns-in-Entry-clause-no_error c = texted c.push_named-in-Entry.result _ _ 84 _ (omega arith) c.push_named-in-Entry.ensures

pub returns-in-Return-clause-no_error : goal.returns-in-Return-clause-no_error
returns-in-Return-clause-no_error c = texted c.push_named-in-Return.result _ _ 84 _ (omega arith) c.push_named-in-Return.ensures

pub returns-in-Exited-clause-no_error : goal.returns-in-Exited-clause-no_error
returns-in-Exited-clause-no_error c = texted c.push_code-in-Exited.result _ _ 87 _ (omega arith) c.push_code-in-Exited.ensures

pub returns-in-Killed-clause-no_error : goal.returns-in-Killed-clause-no_error
returns-in-Killed-clause-no_error c = texted c.push_code-in-Killed.result _ _ 88 _ (omega arith) c.push_code-in-Killed.ensures

pub returns-in-AtBegin-clause-no_error : goal.returns-in-AtBegin-clause-no_error
returns-in-AtBegin-clause-no_error c = texted c.push_text.result _ _ 84 _ (omega arith) c.push_text.ensures
