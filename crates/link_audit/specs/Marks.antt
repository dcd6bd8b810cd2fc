-- Representation: marks of lines, by which those of a side of a link are found among others; no claim rests on it.
use Rattle.std.specs.Prelude.{ℕ, ◌+◌, ◌*◌, ◌%◌, List, map}
use Rattle.er_base.specs.declared.side.Side.{Side}
use Rattle.er_base.specs.declared.side.Side.TheVariants.{E, R}
use Rattle.er_tap.specs.declared.tap_line.TapLine.{TapLine}
use Rattle.er_tap.specs.declared.tap_step.TapStep.{TapStep}
use Rattle.er_tap.specs.declared.tap_step.TapStep.TheVariants.{Link, Octets}

-- the mark of the octets of a side of a link: lines of two sides, or of two links up to 64, have two marks
abbrev pub mark_of_link_side : ℕ → Side → ℕ
mark_of_link_side link E = (link * 2) % 256
mark_of_link_side link R = (link * 2 + 1) % 256

abbrev pub mark_in : TapStep → ℕ
mark_in (Link link engine rbc moment) = 0
mark_in (Octets link side text) = mark_of_link_side link side

unfoldable pub marks_in : List TapLine → List ℕ
marks_in lines = map (λ x. mark_in x.step) lines
