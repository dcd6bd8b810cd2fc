use Rattle.recorded.proofs.Keeps.{kept_out, told_written, out_written}
use Rattle.recorded.proofs.recorded.Recorded.write_out.Goals as goal

pub invariant_of-self-2-clause-kept : goal.invariant_of-self-2-clause-kept
invariant_of-self-2-clause-kept g c = kept_out c.write-answer.result _ _ _ _ _ _ _ c.args.self.now.kept c.if-self.false (rw c.as_slice-lines.ensures.value at c.write-answer.ensures.does.grew) c.clear.ensures.items c.is_err-self.ensures.value

pub returns-clause-told : goal.returns-clause-told
returns-clause-told g c = told_written _ _ _ _ _ c.write-answer.ensures.does

pub returns-clause-written : goal.returns-clause-written
returns-clause-written g c = out_written c.write-answer.result _ _ _ _ _ c.args.self.now.kept c.if-self.false (rw c.as_slice-lines.ensures.value at c.write-answer.ensures.does.grew)
