-- Known answers, worked out by hand: a link that recovers, at level link and at level link-sr.
use Rattle.std.specs.Prelude.{◌≡◌, false, List, [], ◌∷◌, ◌++◌, Option, Some, None, refl}
use Rattle.std.proofs.Common.{inl, inr, arith}
use Rattle.bit_lists.specs.LowestFirst.{low_bits, low_number}
use Rattle.hdlc_fcs.specs.FrameCheck.{fcs_of, fcs_bits, dividend, remainder, divided_once, add_front, sent_bits}
use Rattle.hdlc_fcs.specs.Contents.{content_of, checked_part, check_number}
use Rattle.hdlc_frames.specs.Framing.{unescaped, ends_in_escape, verdict_on_content, verdict_on, cut, all_but_last, between_flags, frames_of}
use Rattle.hdlc_frames.specs.Spelling.{escaped_octet, escaped, spelling}
use Rattle.hdlc_frames.specs.ControlOctets.{control_of}
use Rattle.er_base.specs.declared.side.Side.TheVariants.{E, R}
use Rattle.er_settings.specs.Making.{settings_of}
use Rattle.er_scenario.specs.declared.level.Level.{Level}
use Rattle.er_scenario.specs.declared.level.Level.TheVariants as level
use Rattle.er_scenario.specs.declared.step.Step.{Step}
use Rattle.er_scenario.specs.declared.step.Step.TheVariants as does
use Rattle.drill_model.specs.Outcomes.{Occurrence}
use Rattle.drill_model.specs.Links.{Link}
use Rattle.drill_model.specs.Worlds.{DrillPlan, link_at, history_on, drain, tick_each_link, world_run}
use Rattle.drill_model.specs.Kinds.{accepted_by}
use Rattle.drill_model.specs.Recovery.{GoOn, NoneWaits, IsRepairable, drain_bound}

-- a window of 4 and a T1 of 1,000
abbrev plan_at : Level → DrillPlan
plan_at level = record { level = level; settings = settings_of 8 4 15 128 1000 5 40000; show = false }

abbrev history : Level → List Step → List Occurrence
history level steps = history_on 1 (world_run (plan_at level) steps).1

-- what holds of a link that is open
abbrev Of : (Link → Type 0) → Option Link → Type 0
Of P None = ⊥
Of P (Some l) = P l

-- what holds of link 1 behind these steps, at both levels
abbrev OfBoth : (Level → Link → Type 0) → List Step → Type 0
OfBoth P steps =
    Of (P level.Link) (link_at (world_run (plan_at level.Link) steps).0 1) × Of (P level.LinkSr) (link_at (world_run (plan_at level.LinkSr) steps).0 1)

-- the only frame of a payload is lost, so that no gap is seen: nothing but T1 tells
abbrev losing : List Step
losing = does.Wire 1 ∷ does.Drain 1 5 ∷ does.Send 1 E (0x41 ∷ []) ∷ does.Lose 1 E ∷ []

pub known_repairable : OfBoth (λ level l. IsRepairable (history level losing) l) losing
unfolding drain tick_each_link frames_of between_flags all_but_last cut verdict_on verdict_on_content checked_part check_number unescaped ends_in_escape
    spelling escaped escaped_octet content_of control_of fcs_of fcs_bits dividend remainder divided_once add_front sent_bits low_bits low_number
known_repairable = (
  record { ordered = record { numbered = tt; ordered = refl }; agree = tt; e_live = refl; r_live = refl },
  record { ordered = record { numbered = tt; ordered = refl }; agree = tt; e_live = refl; r_live = refl },
)

-- no frame waits, and one payload was sent: at most (1 + 2 * 4) * (1 + 2) + 2 passes
pub known_bound : OfBoth (λ level l. drain_bound (plan_at level) (history level losing) l ≡ 29) losing
unfolding drain tick_each_link frames_of between_flags all_but_last cut verdict_on verdict_on_content checked_part check_number unescaped ends_in_escape
    spelling escaped escaped_octet content_of control_of fcs_of fcs_bits dividend remainder divided_once add_front sent_bits low_bits low_number
known_bound = (refl, refl)

-- a drain has nothing to pass, and the payload isn't accepted
abbrev drained : List Step
drained = losing ++ does.Drain 1 29 ∷ []

pub known_missing : OfBoth (λ level m. NoneWaits m × (accepted_by R (history level drained) ≡ [])) drained
unfolding drain tick_each_link frames_of between_flags all_but_last cut verdict_on verdict_on_content checked_part check_number unescaped ends_in_escape
    spelling escaped escaped_octet content_of control_of fcs_of fcs_bits dividend remainder divided_once add_front sent_bits low_bits low_number
known_missing = (((refl, refl), refl), ((refl, refl), refl))

-- at 1,000 the calling station's T1 is found expired, and the called one's doesn't run; not yet at 999
pub known_expired : OfBoth (λ level m. GoOn 1000 m) drained
unfolding drain tick_each_link frames_of between_flags all_but_last cut verdict_on verdict_on_content checked_part check_number unescaped ends_in_escape
    spelling escaped escaped_octet content_of control_of fcs_of fcs_bits dividend remainder divided_once add_front sent_bits low_bits low_number
known_expired = ((inr (refl, omega arith), inl refl), (inr (refl, omega arith), inl refl))

-- behind the tick and one drain more it is accepted
abbrev repaired : List Step
repaired = losing ++ does.Drain 1 29 ∷ does.Tick 1000 ∷ does.Drain 1 29 ∷ []

pub known_recovery : OfBoth (λ level k. NoneWaits k × (accepted_by R (history level repaired) ≡ (0x41 ∷ []) ∷ [])) repaired
unfolding drain tick_each_link frames_of between_flags all_but_last cut verdict_on verdict_on_content checked_part check_number unescaped ends_in_escape
    spelling escaped escaped_octet content_of control_of fcs_of fcs_bits dividend remainder divided_once add_front sent_bits low_bits low_number
known_recovery = (((refl, refl), refl), ((refl, refl), refl))

-- a moment before it repairs nothing
abbrev too_early : List Step
too_early = losing ++ does.Drain 1 29 ∷ does.Tick 999 ∷ does.Drain 1 29 ∷ []

pub known_too_early : OfBoth (λ level k. NoneWaits k × (accepted_by R (history level too_early) ≡ [])) too_early
unfolding drain tick_each_link frames_of between_flags all_but_last cut verdict_on verdict_on_content checked_part check_number unescaped ends_in_escape
    spelling escaped escaped_octet content_of control_of fcs_of fcs_bits dividend remainder divided_once add_front sent_bits low_bits low_number
known_too_early = (((refl, refl), refl), ((refl, refl), refl))
