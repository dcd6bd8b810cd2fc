-- Known answers, worked out by hand: what T1 repairs at level full, where the set-up frame is lost.
use Rattle.std.specs.Prelude.{◌≡◌, true, List, [], ◌∷◌, ◌++◌, Option, Some, None, refl}
use Rattle.std.specs.List.{flat_map}
use Rattle.std.proofs.Common.{inl, inr, arith}
use Rattle.bit_lists.specs.LowestFirst.{low_bits, low_number}
use Rattle.hdlc_fcs.specs.FrameCheck.{fcs_of, fcs_bits, dividend, remainder, divided_once, add_front, sent_bits}
use Rattle.hdlc_fcs.specs.Contents.{content_of, checked_part, check_number}
use Rattle.hdlc_frames.specs.Framing.{unescaped, ends_in_escape, verdict_on_content, verdict_on, cut, all_but_last, between_flags, frames_of}
use Rattle.hdlc_frames.specs.Spelling.{escaped_octet, escaped, spelling}
use Rattle.hdlc_frames.specs.ControlOctets.{control_of}
use Rattle.er_base.specs.declared.side.Side.TheVariants.{E}
use Rattle.er_base.specs.Octets.{eight}
use Rattle.er_scenario.specs.declared.step.Step.{Step}
use Rattle.er_scenario.specs.declared.step.Step.TheVariants as does
use Rattle.er_end_model.specs.Layers.{model}
use Rattle.er_end_model.specs.Steps.{hand_waiting_tpdus, new_event_at, is_spent}
use Rattle.drill_model.specs.Outcomes.{Occurrence}
use Rattle.drill_model.specs.Outcomes as came
use Rattle.drill_model.specs.Ends.{EndAtLevel, OfSafe, OfStation, OfStack}
use Rattle.drill_model.specs.Links.{Link}
use Rattle.drill_model.specs.Worlds.{link_at, history_on, drain, tick_each_link, world_run}
use Rattle.drill_model.specs.Recovery.{GoOn, NoneWaits, IsRepairable}
use Rattle.drill_model.specs.KnownStacks.{plan, link_call_step, set_up_frame_octets, set_up_answer_frame, call}

abbrev Of : (List Occurrence → Link → Type 0) → List Occurrence → Option Link → Type 0
Of P history None = ⊥
Of P history (Some l) = P history l

-- what holds of link 1 behind these steps, and of what came at it
abbrev Behind : (List Occurrence → Link → Type 0) → List Step → Type 0
Behind P steps = let a = world_run plan steps in Of P (history_on 1 a.1) (link_at a.0 1)

-- the only frame that waits is lost
abbrev losing : List Step
losing = link_call_step ∷ does.Lose 1 E ∷ []

pub known_repairable : Behind IsRepairable losing
unfolding drain tick_each_link hand_waiting_tpdus eight frames_of between_flags all_but_last cut verdict_on verdict_on_content checked_part check_number
    unescaped ends_in_escape spelling escaped escaped_octet content_of control_of fcs_of fcs_bits dividend remainder divided_once add_front sent_bits low_bits
    low_number
known_repairable = record { ordered = record { numbered = tt; ordered = refl }; agree = refl; e_live = refl; r_live = refl }

-- at 1,000 the engine's T1 is found expired, the radio block centre's doesn't run, and the time for the set-up isn't spent
pub known_expired : Behind (λ history l. NoneWaits l × GoOn 1000 l) losing
unfolding drain tick_each_link hand_waiting_tpdus eight frames_of between_flags all_but_last cut verdict_on verdict_on_content checked_part check_number
    unescaped ends_in_escape spelling escaped escaped_octet content_of control_of fcs_of fcs_bits dividend remainder divided_once add_front sent_bits low_bits
    low_number
known_expired = ((refl, refl), ((inr (refl, omega arith), refl), (inl refl, refl)))

abbrev IsSpentAt40000 : EndAtLevel → Type 0
IsSpentAt40000 (OfSafe s) = ⊥
IsSpentAt40000 (OfStation selective s stream) = ⊥
IsSpentAt40000 (OfStack m) = is_spent (new_event_at model 40000 m.core) ≡ true

-- at 40,000 it is spent, at both ends
pub known_spent : Behind (λ history l. IsSpentAt40000 l.e × IsSpentAt40000 l.r) losing
unfolding drain tick_each_link hand_waiting_tpdus eight frames_of between_flags all_but_last cut verdict_on verdict_on_content checked_part check_number
    unescaped ends_in_escape spelling escaped escaped_octet content_of control_of fcs_of fcs_bits dividend remainder divided_once add_front sent_bits low_bits
    low_number
known_spent = (refl, refl)

-- behind the tick the frame is sent again, and the set-up goes on
pub known_again : flat_map (λ o. came.frames_of_outcome o.outcome) (history_on 1 (world_run plan (losing ++ does.Tick 1000 ∷ does.Drain 1 2 ∷ [])).1)
    ≡ set_up_frame_octets ∷ set_up_frame_octets ∷ set_up_answer_frame ∷ call ∷ []
unfolding drain tick_each_link hand_waiting_tpdus eight frames_of between_flags all_but_last cut verdict_on verdict_on_content checked_part check_number
    unescaped ends_in_escape spelling escaped escaped_octet content_of control_of fcs_of fcs_bits dividend remainder divided_once add_front sent_bits low_bits
    low_number
known_again = refl

-- not a moment before
pub known_too_early : flat_map (λ o. came.frames_of_outcome o.outcome) (history_on 1 (world_run plan (losing ++ does.Tick 999 ∷ does.Drain 1 2 ∷ [])).1)
    ≡ set_up_frame_octets ∷ []
unfolding drain tick_each_link hand_waiting_tpdus eight frames_of between_flags all_but_last cut verdict_on verdict_on_content checked_part check_number
    unescaped ends_in_escape spelling escaped escaped_octet content_of control_of fcs_of fcs_bits dividend remainder divided_once add_front sent_bits low_bits
    low_number
known_too_early = refl
