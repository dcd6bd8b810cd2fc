-- Known answers, worked out by hand: a drill file with comments, blank lines, spaces and each name of a `set` line twice, and its first fault.
use Rattle.std.specs.Prelude.{◌≡◌, ℕ, true, List, [], ◌∷◌, ◌++◌, Ok, Err, refl, codes}
use Rattle.er_base.specs.declared.side.Side.TheVariants.{E}
use Rattle.er_base.specs.declared.text_fault.TextFault.TheVariants.{At}
use Rattle.er_base.specs.declared.why.Why.TheVariants.{Value}
use Rattle.er_base.specs.Arguments.{number_argument, side_argument}
use Rattle.er_base.specs.Lines.{lines_of, rows_of}
use Rattle.er_base.specs.Numbers.{decimal_of}
use Rattle.er_base.specs.Words.{words_of}
use Rattle.er_settings.specs.Making.{settings_of}
use Rattle.er_scenario.specs.declared.level.Level.TheVariants.{Link}
use Rattle.er_scenario.specs.declared.step.Step.TheVariants as does
use Rattle.er_scenario.specs.Choices.{chosen_by}
use Rattle.er_scenario.specs.Files.{line_says, scenario_body_of, scenario_of}

-- lines 1 to 24: a comment, the header between spaces, a blank line and one of spaces, each name twice, a comment, and two steps
abbrev drill_file : List ℕ
drill_file =
    codes "# two stations\n  drill  1 link \n\n   \n"
    ++ codes "set modulo 8\nset modulo 128\nset window 4\nset window 9\nset credit 3\nset credit 2\nset size 1024\nset size 256\n"
    ++ codes "set t1 200\nset t1 500\nset n2 9\nset n2 2\nset setup 2000\nset setup 3000\nset show 0\nset  show  1\n"
    ++ codes "#wire 2\nwire 1\n\n lose 1  e \n"

-- of each name the last line counts, and a step keeps the number of its line
pub known_file : scenario_of drill_file
    ≡ Ok (record {
      level = Link;
      settings = settings_of 128 9 2 256 500 2 3000;
      show = true;
      steps = record { line = 22; step = does.Wire 1 } ∷ record { line = 24; step = does.Lose 1 E } ∷ [];
    })
unfolding scenario_of lines_of rows_of words_of scenario_body_of line_says chosen_by decimal_of number_argument side_argument
known_file = refl

-- a fault behind them has the number of its line, and the first one counts
pub known_fault : scenario_of (drill_file ++ codes "# no link has this number\nwire 65\nnone\n") ≡ Err (At 26 Value)
unfolding scenario_of lines_of rows_of words_of scenario_body_of line_says chosen_by decimal_of number_argument side_argument
known_fault = refl
