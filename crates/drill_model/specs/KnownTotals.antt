-- Known answers, worked out by hand: the totals of two turns of messages, of which one is accepted, over two links.
use Rattle.std.specs.Prelude.{◌≡◌, false, List, [], ◌∷◌, refl}
use Rattle.bit_lists.specs.LowestFirst.{low_bits, low_number}
use Rattle.hdlc_fcs.specs.FrameCheck.{fcs_of, fcs_bits, dividend, remainder, divided_once, add_front, sent_bits}
use Rattle.hdlc_fcs.specs.Contents.{content_of, checked_part, check_number}
use Rattle.hdlc_frames.specs.Framing.{unescaped, ends_in_escape, verdict_on_content, verdict_on, cut, all_but_last, between_flags, frames_of}
use Rattle.hdlc_frames.specs.Spelling.{escaped_octet, escaped, spelling}
use Rattle.hdlc_frames.specs.ControlOctets.{control_of}
use Rattle.er_base.specs.declared.side.Side.TheVariants.{E}
use Rattle.er_settings.specs.Making.{usual_settings}
use Rattle.er_scenario.specs.declared.level.Level.TheVariants.{Link}
use Rattle.er_scenario.specs.declared.step.Step.{Step}
use Rattle.er_scenario.specs.declared.step.Step.TheVariants as does
use Rattle.drill_model.specs.Worlds.{DrillPlan, drain, tick_each_link, world_run}
use Rattle.drill_model.specs.Totals.{sum_from, totals_of}

abbrev plan : DrillPlan
plan = record { level = Link; settings = usual_settings; show = false }

-- two passes set link 1 up. The frame of the first message is repeated: it is answered, and its copy is rejected, which makes four passes. The
-- frame of the second message is lost, and no drain comes behind it. Two passes set link 64 up
abbrev two_turns : List Step
two_turns =
    does.Wire 1 ∷ does.Drain 1 64
    ∷ does.Send 1 E (0x41 ∷ []) ∷ does.Repeat 1 E ∷ does.Drain 1 1000 ∷ does.Tick 1000 ∷ does.Drain 1 1000
    ∷ does.Send 1 E (0x42 ∷ []) ∷ does.Lose 1 E ∷ does.Wire 64 ∷ does.Drain 64 64 ∷ []

pub known_totals : totals_of (world_run plan two_turns).1 ≡ record { sent = 2; accepted = 1; passes = 8; lost = 1; repeated = 1 }
unfolding sum_from drain tick_each_link frames_of between_flags all_but_last cut verdict_on verdict_on_content checked_part check_number unescaped
    ends_in_escape spelling escaped escaped_octet content_of control_of fcs_of fcs_bits dividend remainder divided_once add_front sent_bits low_bits low_number
known_totals = refl
