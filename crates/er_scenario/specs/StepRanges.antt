-- The ranges of the numbers of a step of a drill (this profile).
use Rattle.std.specs.Prelude.{ℕ, ◌<◌, ◌≤◌, ◌^◌, List, length, slice_index, Option, Some, None}
use Rattle.des_block.specs.declared.triple_key.TripleKey.{TripleKey}
use Rattle.er_scenario.specs.declared.step.Step.{Step}
use Rattle.er_scenario.specs.declared.step.Step.TheVariants.{Fixed, Link, Wire, Send, Pass, Lose, Repeat, Alter, Put, Copy, Take, Release, Tick, Drain}
use Rattle.er_scenario.specs.StepNumbers.{IsEtcsNumber, IsMoment}

-- a link: 1 to 64
abbrev pub IsLink : ℕ → Type 0
IsLink n = (1 ≤ n) × (n ≤ 64)

-- keys of 64 bits
abbrev pub IsKey : TripleKey → Type 0
IsKey key = (key.first < 2 ^ 64) × (key.second < 2 ^ 64) × (key.third < 2 ^ 64)

-- and so is a key that is there
abbrev pub IsOptionalKey : Option TripleKey → Type 0
IsOptionalKey None = Unit {0}
IsOptionalKey (Some key) = IsKey key

-- at most 4,096 octets
abbrev pub IsStepText : List ℕ → Type 0
IsStepText text = (length text ≤ 4096) × ((k : ℕ) → k < length text → slice_index text k < 256)

-- a step whose numbers are in their ranges
abbrev pub IsInRange : Step → Type 0
IsInRange (Fixed link engine rbc ke kr) = IsLink link × IsEtcsNumber engine × IsEtcsNumber rbc × IsKey ke × IsKey kr
IsInRange (Link link engine rbc ke kr ra rb) =
    IsLink link × IsEtcsNumber engine × IsEtcsNumber rbc × IsKey ke × IsOptionalKey kr × (ra < 2 ^ 64) × (rb < 2 ^ 64)
IsInRange (Wire link) = IsLink link
IsInRange (Send link side text) = IsLink link × IsStepText text
IsInRange (Pass link side) = IsLink link
IsInRange (Lose link side) = IsLink link
IsInRange (Repeat link side) = IsLink link
IsInRange (Alter link side place mask) = IsLink link × (place < 2 ^ 64) × (1 ≤ mask) × (mask < 256)
IsInRange (Put link side text) = IsLink link × IsStepText text
IsInRange (Copy link side to_link to_side) = IsLink link × IsLink to_link
IsInRange (Take link side) = IsLink link
IsInRange (Release link side sub) = IsLink link × (sub < 256)
IsInRange (Tick moment) = IsMoment moment
IsInRange (Drain link most) = IsLink link × (1 ≤ most) × (most ≤ 100000)
