-- The ranges of what a line of a tap says (this profile).
use Rattle.std.specs.Prelude.{ℕ, ◌<◌, ◌≤◌, List, [], ◌∷◌, length}
use Rattle.er_base.specs.Octets.{AreOctets}
use Rattle.er_tap.specs.declared.tap.Tap.{Tap}
use Rattle.er_tap.specs.declared.tap_line.TapLine.{TapLine}
use Rattle.er_tap.specs.declared.tap_step.TapStep.{TapStep}
use Rattle.er_tap.specs.declared.tap_step.TapStep.TheVariants.{Link, Octets}

-- a link, 1 to 64
abbrev pub IsLink : ℕ → Type 0
IsLink n = (1 ≤ n) × (n ≤ 64)

-- an ETCS number, below 2 ^ 24
abbrev pub IsEtcsNumber : ℕ → Type 0
IsEtcsNumber n = n < 16777216

-- a moment in milliseconds, at most 10 ^ 15
abbrev pub IsMoment : ℕ → Type 0
IsMoment n = n ≤ 1000000000000000

-- at most 4,096 octets
abbrev pub IsTapLineText : List ℕ → Type 0
IsTapLineText text = (length text ≤ 4096) × AreOctets text

-- what a line says, its numbers in their ranges
abbrev pub IsInRange : TapStep → Type 0
IsInRange (Link n engine rbc at) = IsLink n × (IsEtcsNumber engine × (IsEtcsNumber rbc × IsMoment at))
IsInRange (Octets n side text) = IsLink n × IsTapLineText text

abbrev pub AreInRange : List TapLine → Type 0
AreInRange [] = Unit {0}
AreInRange (line ∷ lines) = IsInRange line.step × AreInRange lines

-- a tap that `read` can answer, line numbers aside
pub record CanBeRead (tap : Tap) : Type 0 where
  pub lines : AreInRange tap.lines
