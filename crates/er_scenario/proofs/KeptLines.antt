-- A line says the same by its first ten words as by all of them: no line of the table has more than nine.
use Rattle.std.proofs.Common.{arith, ◌≡◌, ℕ, ◌<◌, Bool, List, [], ◌∷◌, length, take, Result, Err, refl, ap, sym, ◌∙◌}
use Rattle.er_base.specs.declared.why.Why.{Why}
use Rattle.er_base.specs.declared.line_fault.LineFault.{LineFault}
use Rattle.er_base.specs.declared.line_fault.LineFault.TheVariants as line
use Rattle.er_base.specs.KeptWords.{nine_tell}
use Rattle.er_base.specs.Rows.{Refuses}
use Rattle.er_scenario.specs.declared.said.Said.{Said}
use Rattle.er_scenario.specs.declared.level.Level.{Level}
use Rattle.er_scenario.specs.declared.choices.Choices.{Choices}
use Rattle.er_scenario.specs.declared.step_name.StepName.TheVariants.{Fixed, Link, Wire, Send, Pass, Lose, Repeat, Alter, Put, Copy, Take, Release, Tick, Drain}
use Rattle.er_scenario.specs.Files.{ScenarioLine, SetLine, StepLine, line_kinds, table, line_says, level_of}

few_kinds : (line : ScenarioLine) → length (line_kinds line) < 9
few_kinds SetLine = omega arith
few_kinds (StepLine Fixed) = omega arith
few_kinds (StepLine Link) = omega arith
few_kinds (StepLine Wire) = omega arith
few_kinds (StepLine Send) = omega arith
few_kinds (StepLine Pass) = omega arith
few_kinds (StepLine Lose) = omega arith
few_kinds (StepLine Repeat) = omega arith
few_kinds (StepLine Alter) = omega arith
few_kinds (StepLine Put) = omega arith
few_kinds (StepLine Copy) = omega arith
few_kinds (StepLine Take) = omega arith
few_kinds (StepLine Release) = omega arith
few_kinds (StepLine Tick) = omega arith
few_kinds (StepLine Drain) = omega arith

pub kept_line : (level : Level) (late : Bool) (choices : Choices) (words : List (List ℕ))
    → line_says level late choices (take 10 words) ≡ line_says level late choices words
unfolding line_says
kept_line level late choices [] = refl
kept_line level late choices (name ∷ words) =
    let first = nine_tell (table level late) few_kinds name words in
    rw first refl

pub kept_header : (words : List (List ℕ)) → level_of (take 10 words) ≡ level_of words
kept_header [] = refl
kept_header (a ∷ []) = refl
kept_header (a ∷ b ∷ []) = refl
kept_header (a ∷ b ∷ c ∷ []) = refl
kept_header (a ∷ b ∷ c ∷ d ∷ words) = refl

-- what a line says by the words that are kept, it says by all of them
pub said_by_kept : (level : Level) (late : Bool) (choices : Choices) (kept words : List (List ℕ)) (said : Result Said Why)
    → kept ≡ take 10 words → line_says level late choices kept ≡ said → line_says level late choices words ≡ said
said_by_kept level late choices kept words said first e =
    sym (kept_line level late choices words) ∙ ap (line_says level late choices) (sym first) ∙ e

pub refused_by_kept : (level : Level) (late : Bool) (choices : Choices) (kept words : List (List ℕ)) (fault : LineFault)
    → kept ≡ take 10 words → Refuses fault (line_says level late choices kept) → Refuses fault (line_says level late choices words)
refused_by_kept level late choices kept words (line.Refused why) first e =
    said_by_kept level late choices kept words (Err why) first e
refused_by_kept level late choices kept words (line.NoMemory want) first e = tt
