-- Known answers, worked out by hand: how wide the window may be in a drill of stations with selective reject.
use Rattle.std.specs.Prelude.{◌≡◌, ℕ, false, [], Result, Ok, Err, refl, codes}
use Rattle.er_base.specs.declared.why.Why.TheVariants.{Value}
use Rattle.er_base.specs.declared.text_fault.TextFault.{TextFault}
use Rattle.er_base.specs.declared.text_fault.TextFault.TheVariants.{At}
use Rattle.er_base.specs.Lines.{lines_of, rows_of}
use Rattle.er_base.specs.Numbers.{decimal_of}
use Rattle.er_base.specs.Words.{words_of}
use Rattle.er_settings.specs.Making.{settings_of}
use Rattle.er_scenario.specs.declared.level.Level.TheVariants.{Link, LinkSr}
use Rattle.er_scenario.specs.declared.scenario.Scenario.{Scenario}
use Rattle.er_scenario.specs.Choices.{chosen_by}
use Rattle.er_scenario.specs.Files.{line_says, scenario_body_of, scenario_of}

-- a drill without steps at level link-sr, with this modulo and this window and else with the defaults
abbrev of_window : (modulo window : ℕ) → Result Scenario TextFault
of_window modulo window =
    Ok (record { level = LinkSr; settings = settings_of modulo window 15 128 1000 5 40000; show = false; steps = [] })

pub half_by_default : scenario_of (codes "drill 1 link-sr\n") ≡ of_window 8 4
unfolding scenario_of lines_of rows_of words_of scenario_body_of line_says chosen_by decimal_of
half_by_default = refl

pub above_half : scenario_of (codes "drill 1 link-sr\nset window 5\n") ≡ Err (At 2 Value)
unfolding scenario_of lines_of rows_of words_of scenario_body_of line_says chosen_by decimal_of
above_half = refl

-- half of 128 is more than the greatest window, which stays
pub greatest_window_stays : scenario_of (codes "drill 1 link-sr\nset modulo 128\nset window 31\n") ≡ of_window 128 31
unfolding scenario_of lines_of rows_of words_of scenario_body_of line_says chosen_by decimal_of
greatest_window_stays = refl

pub above_greatest : scenario_of (codes "drill 1 link-sr\nset modulo 128\nset window 32\n") ≡ Err (At 3 Value)
unfolding scenario_of lines_of rows_of words_of scenario_body_of line_says chosen_by decimal_of
above_greatest = refl

-- back to modulo 8
pub above_half_again : scenario_of (codes "drill 1 link-sr\nset modulo 128\nset window 5\nset modulo 8\n") ≡ Err (At 4 Value)
unfolding scenario_of lines_of rows_of words_of scenario_body_of line_says chosen_by decimal_of
above_half_again = refl

pub half_again : scenario_of (codes "drill 1 link-sr\nset modulo 128\nset window 4\nset modulo 8\n") ≡ of_window 8 4
unfolding scenario_of lines_of rows_of words_of scenario_body_of line_says chosen_by decimal_of
half_again = refl

-- with go-back the window may be one below the modulo
pub without_selective_reject : scenario_of (codes "drill 1 link\nset modulo 128\nset window 7\nset modulo 8\n")
    ≡ Ok (record { level = Link; settings = settings_of 8 7 15 128 1000 5 40000; show = false; steps = [] })
unfolding scenario_of lines_of rows_of words_of scenario_body_of line_says chosen_by decimal_of
without_selective_reject = refl
