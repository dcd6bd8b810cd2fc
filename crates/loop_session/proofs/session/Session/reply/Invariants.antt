use Rattle.std.proofs.Common.{◌≡◌, take}
use Rattle.loop_session.specs.Keeping.{kept_ends}
use Rattle.loop_model.specs.Outs.{part_for_each_answer}
use Rattle.loop_model.specs.Sessions.{Rules, sends_of, replied}
use Rattle.loop_session.specs.Parts.{OnlyPrints, Printed}
use Rattle.loop_session.proofs.session.Session.reply.Given as goal

abbrev pub invariant-loop-k : goal.invariant-loop-k
invariant-loop-k g l = record {
  prints : (r : Rules) → Printed (g.O.Outside.told l.fn.outside) (g.O.Outside.told l.outside) l.self
      (part_for_each_answer (replied kept_ends r l.fn.moment) l.fn.self (sends_of (take l.k l.fn.scratch.replies.texts)));
  same : l.scratch.replies ≡ l.fn.scratch.replies;
  number : l.self.number ≡ l.fn.self.number;
  only : OnlyPrints (g.O.Outside.told l.fn.outside) (g.O.Outside.told l.outside);
}
