-- A carrier, by where octets that came lead.
use Rattle.std.proofs.Common.{◌≡◌, ℕ, ◌&&◌, Bool, true, false, List, [], replicate, refl, sym, ◌∙◌}
use Rattle.er_base.specs.declared.side.Side.{Side}
use Rattle.relay_script.specs.declared.script.Script.{Script}
use Rattle.relay_carrier.specs.declared.stage.Stage.{Stage}
use Rattle.relay_carrier.specs.declared.stage.Stage.TheVariants as stage
use Rattle.relay_model.specs.Units.{Standing, Unbegun, Overlong, standing_from, parts_from, units_in, held_in_standing}
use Rattle.relay_model.specs.Loads.{loads_from}
use Rattle.relay_model.specs.Carried.{loads_of_sent, is_closed_by, carried}
use Rattle.relay_carrier.specs.Cutting.{standing_kept, HoldsNothing}
use Rattle.relay_carrier.specs.Standing.{KCarrier, StandsBehind, Ends}
use Rattle.relay_carrier.proofs.Counted.{counts_none}

pub new_stands : (script : Script) (side : Side) (standing : Standing) (counts : List ℕ) → standing ≡ Unbegun → counts ≡ replicate 20 0
    → StandsBehind script [] (record { side = side; standing = standing; counts = counts; closed = false; newest = 0 })
unfolding standing_from parts_from units_in is_closed_by loads_of_sent loads_from
new_stands script side standing counts stands none = record { standing = stands; counts = rw none counts_none; closed = refl }

pub ends : (script : Script) (k : KCarrier) (given : List ℕ) → k.closed ≡ false → given ≡ held_in_standing k.standing → Ends script k given
unfolding carried
ends script k given unclosed is came s =
    let f : is_closed_by script k.side came ≡ false = sym s.closed ∙ unclosed in
    rw (f, is, s.standing) refl

-- where more was held than a unit has, nothing is held
pub overlong_rests : (stage : Stage) (held : List ℕ) (begun : Bool) → standing_kept stage held begun ≡ Overlong → HoldsNothing stage held begun
    → (held ≡ []) × (begun ≡ false)
overlong_rests stage.Unbegun held begun e rests = absurd cc
overlong_rests stage.Holding held begun e rests = absurd cc
overlong_rests stage.Overlong held begun e rests = rests

pub unbegun_rests : (stage : Stage) (held : List ℕ) (begun : Bool) → standing_kept stage held begun ≡ Unbegun → HoldsNothing stage held begun
    → (held ≡ []) × (begun ≡ false)
unbegun_rests stage.Unbegun held begun e rests = rests
unbegun_rests stage.Holding held begun e rests = absurd cc
unbegun_rests stage.Overlong held begun e rests = absurd cc

pub second_false : (a b c : Bool) → b ≡ false → (a && b && c) ≡ false
second_false true b c e = rw e refl
second_false false b c e = refl
