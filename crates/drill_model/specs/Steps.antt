-- The steps of a drill: which level has which, and the premise of some laws, that a step's numbers fit their fields (this profile).
use Rattle.std.specs.Prelude.{◌<◌, ◌^◌, List}
use Rattle.std.specs.List.{AllByRecursion}
use Rattle.er_scenario.specs.declared.step.Step.{Step}
use Rattle.er_scenario.specs.declared.step.Step.TheVariants as does
use Rattle.er_scenario.specs.StepNumbers.{IsEtcsNumber}
use Rattle.er_base.specs.Octets.{AreOctets}

-- the ETCS numbers of a step are below 2^24
abbrev pub HasEtcsNumbers : Step → Type 0
HasEtcsNumbers (does.Fixed n engine rbc ke kr) = IsEtcsNumber engine × IsEtcsNumber rbc
HasEtcsNumbers (does.Link n engine rbc ke kr ra rb) = IsEtcsNumber engine × IsEtcsNumber rbc
HasEtcsNumbers other = Unit {0}

-- the octets of a step are octets, and its random numbers have 64 bits
abbrev pub HasOctets : Step → Type 0
HasOctets (does.Link n engine rbc ke kr ra rb) = (ra < 2 ^ 64) × (rb < 2 ^ 64)
HasOctets (does.Send n s text) = AreOctets text
HasOctets other = Unit {0}

-- the numbers of a step fit their fields
abbrev pub FitsFields : Step → Type 0
FitsFields s = HasEtcsNumbers s × HasOctets s

abbrev pub AllFit : List Step → Type 0
AllFit steps = AllByRecursion FitsFields steps
