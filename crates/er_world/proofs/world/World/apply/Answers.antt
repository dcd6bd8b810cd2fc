use Rattle.std.proofs.Common.{◌∙◌}
use Rattle.er_world.proofs.WorldEnds.{step_ok, step_fault, step_left, step_out, step_unspent, step_plan, fails_fault, fails_left, fails_plan}
use Rattle.er_world.proofs.world.World.apply.Goals as goal

pub returns-in-Ok-clause-ok : goal.returns-in-Ok-clause-ok
returns-in-Ok-clause-ok c = step_ok c.args.step.now c.args.self.now c.go.new.self c.end.new.self c.go.new.out.items c.args.out.now.items c.end.new.out.items c.runs_grow.ensures.run c.end.result (rw (c.in-Ok.is, c.new-text.ensures.items) at c.go.ensures.does) c.go.ensures.plan (rw (c.touched.ensures, c.as_slice.ensures.value) at c.end.ensures)

pub returns-in-Ok-clause-fault : goal.returns-in-Ok-clause-fault
returns-in-Ok-clause-fault c = step_fault c.args.step.now c.args.self.now c.go.new.self c.end.new.self c.go.new.out.items c.args.out.now.items c.end.new.out.items c.end.result (rw (c.in-Ok.is, c.new-text.ensures.items) at c.go.ensures.does) (rw (c.touched.ensures, c.as_slice.ensures.value) at c.end.ensures)

pub returns-in-Ok-clause-left : goal.returns-in-Ok-clause-left
returns-in-Ok-clause-left c = step_left c.args.step.now c.args.self.now c.go.new.self c.end.new.self c.go.new.out.items c.args.out.now.items c.end.new.out.items c.end.result (rw (c.touched.ensures, c.as_slice.ensures.value) at c.end.ensures)

pub returns-in-Ok-clause-out : goal.returns-in-Ok-clause-out
returns-in-Ok-clause-out c = step_out c.args.step.now c.args.self.now c.go.new.self c.end.new.self c.go.new.out.items c.args.out.now.items c.end.new.out.items c.end.result (rw (c.touched.ensures, c.as_slice.ensures.value) at c.end.ensures)

pub returns-in-Ok-clause-unspent : goal.returns-in-Ok-clause-unspent
returns-in-Ok-clause-unspent c = step_unspent c.args.step.now c.args.self.now c.go.new.self c.end.new.self c.go.new.out.items c.args.out.now.items c.end.new.out.items c.end.result (c.go.ensures.spent ∙ c.requires.unspent) (rw (c.touched.ensures, c.as_slice.ensures.value) at c.end.ensures)

pub returns-in-Ok-clause-plan : goal.returns-in-Ok-clause-plan
returns-in-Ok-clause-plan c = step_plan c.args.step.now c.args.self.now c.go.new.self c.end.new.self c.go.new.out.items c.args.out.now.items c.end.new.out.items c.end.result c.go.ensures.plan (rw (c.touched.ensures, c.as_slice.ensures.value) at c.end.ensures)

pub returns-clause-fault : goal.returns-clause-fault
returns-clause-fault c = fails_fault c.args.step.now c.args.self.now c.go.new.self c.leave.new.self c.new-text.result.items c.go.new.out.items c.in-Err.fault (rw c.in-Err.is at c.go.ensures.does)

pub returns-clause-left : goal.returns-clause-left
returns-clause-left c = fails_left c.args.step.now c.args.self.now c.go.new.self c.leave.new.self c.new-text.result.items c.go.new.out.items c.in-Err.fault (rw c.in-Err.is at c.go.ensures.does) c.leave.ensures

pub returns-clause-plan : goal.returns-clause-plan
returns-clause-plan c = fails_plan c.args.step.now c.args.self.now c.go.new.self c.leave.new.self c.new-text.result.items c.go.new.out.items c.in-Err.fault c.go.ensures.plan c.leave.ensures
