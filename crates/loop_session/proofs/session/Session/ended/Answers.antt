use Rattle.std.proofs.Common.{refl}
use Rattle.loop_session.proofs.session.Session.ended.Goals as goal

pub returns-clause-chooses : goal.returns-clause-chooses
returns-clause-chooses g c = λ entries. c.happen.ensures.chooses entries refl
