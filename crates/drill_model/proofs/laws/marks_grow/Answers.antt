use Rattle.drill_model.proofs.Growing.{world_marks_grow, link_marks_grow, link_text}
use Rattle.drill_model.proofs.laws.marks_grow.Goals as goal

pub returns-clause-world : goal.returns-clause-world
returns-clause-world c = world_marks_grow

pub returns-clause-link : goal.returns-clause-link
returns-clause-link c = link_marks_grow c.marks_grow.ensures

pub returns-clause-text : goal.returns-clause-text
returns-clause-text c = link_text c.marks_grow.ensures
