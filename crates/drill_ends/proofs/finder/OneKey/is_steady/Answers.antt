use Rattle.std.proofs.Common.{List, subst}
use Rattle.safety_automaton.specs.Keys.{KmacEntry}
use Rattle.drill_ends.specs.Keys.{AreKeysSteady}
use Rattle.drill_ends.proofs.KeyRows.{steady}
use Rattle.drill_ends.proofs.finder.OneKey.is_steady.Goals as goal

pub returns : goal.returns
returns c = subst (λ (keys : List KmacEntry). AreKeysSteady keys) c.self.view_is (steady c.self.inside.engine c.self.inside.rbc c.self.inside.kmac)
