use Rattle.std.proofs.Common.{List, [], ◌∷◌, ◌++◌, get_or, drop, ap, ◌∙◌, arith}
use Rattle.hdlc_station.specs.Places.{NumberPlace, no_place, cleared}
use Rattle.hdlc_station.proofs.Runs.{dropped_more}
use Rattle.hdlc_station.proofs.places.Places.drop_first.Goals as goal

pub loop-i-preserved : goal.loop-i-preserved
loop-i-preserved c =
    c.go_on.ensures
    ∙ ap (λ (ps : List NumberPlace). drop 1 ps ++ cleared (get_or ps 0 no_place) ∷ []) c.loop-i.invariant
    ∙ dropped_more c.args.self.now c.loop-i.i (omega (arith, c.loop-i-test.true, c.requires))
