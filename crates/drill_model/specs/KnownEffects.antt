-- Known answers, worked out by hand: what short drills bring about, of what kind their links are, what the line does to the frames that
-- wait, and how a mark is printed.
use Rattle.std.specs.Prelude.{◌≡◌, ℕ, false, true, List, [], ◌∷◌, ◌++◌, codes, refl}
use Rattle.std.specs.Fmt.{digits}
use Rattle.bit_lists.specs.LowestFirst.{low_bits, low_number}
use Rattle.hdlc_fcs.specs.FrameCheck.{fcs_of, fcs_bits, dividend, remainder, divided_once, add_front, sent_bits}
use Rattle.hdlc_fcs.specs.Contents.{content_of, checked_part, check_number}
use Rattle.hdlc_frames.specs.Framing.{unescaped, ends_in_escape, verdict_on_content, verdict_on, cut, all_but_last, between_flags, frames_of}
use Rattle.hdlc_frames.specs.Spelling.{escaped_octet, escaped, spelling}
use Rattle.hdlc_frames.specs.ControlOctets.{control_of}
use Rattle.er_base.specs.Hexadecimal.{hex_of}
use Rattle.er_base.specs.declared.side.Side.TheVariants.{E, R}
use Rattle.des_block.specs.declared.triple_key.TripleKey.{TripleKey}
use Rattle.er_settings.specs.Making.{usual_settings}
use Rattle.er_scenario.specs.declared.level.Level.TheVariants.{Link}
use Rattle.er_scenario.specs.declared.step.Step.{Step}
use Rattle.er_scenario.specs.declared.step.Step.TheVariants as does
use Rattle.safety_pair_laws.specs.Facts.{Sent, Accepted}
use Rattle.drill_model.specs.Outcomes.{Occurrence, OfSafety, at_end}
use Rattle.drill_model.specs.Links.{OfStations}
use Rattle.drill_model.specs.Worlds.{DrillPlan, Came, On, new_world, drain, tick_each_link, history_on, world_run}
use Rattle.drill_model.specs.Marks.{marks_from}
use Rattle.drill_model.specs.Kinds.{is_disordered, is_disturbed, IsOrderKeeping, IsLossFree}
use Rattle.drill_model.specs.Effects.{Sends, IsRefused, Passes, Loses, Repeats, Alters, Inserts, Releases, Expires, effects_in}
use Rattle.drill_model.specs.Line.{octet_changed, changed_by_step}
use Rattle.drill_model.specs.Texts.{head, up_line, accepted_line, passes_line, closing_line, closing_from, lines, first_lines, last_lines}

abbrev plan : DrillPlan
plan = record { level = Link; settings = usual_settings; show = false }

-- what came at link 1, and the frame that sets it up, also with its address changed
abbrev history : List Step → List Occurrence
history steps = history_on 1 (world_run plan steps).1

abbrev set_up : List ℕ
set_up = (0x7e ∷ 0x01 ∷ 0x3f ∷ 0xeb ∷ 0xdf ∷ 0x7e ∷ [])

abbrev changed : List ℕ
changed = (0x7e ∷ 0x03 ∷ 0x3f ∷ 0xeb ∷ 0xdf ∷ 0x7e ∷ [])

-- each step in its turn: a send that is refused; a frame that is doubled, lost and changed, and three changes and losses of nothing; octets
-- that are put and copied; a pass; a release; T1, which expires at 1,000; and a drain of two of the three frames that wait
pub known_effects : effects_in (history (
    does.Wire 1 ∷ does.Send 1 E (0x41 ∷ []) ∷ does.Send 1 E [] ∷ does.Repeat 1 E ∷ does.Lose 1 E ∷ does.Lose 1 R ∷ does.Alter 1 E 1 0 ∷ does.Alter 1 E 6 1
    ∷ does.Alter 1 E 1 2 ∷ does.Put 1 R (1 ∷ []) ∷ does.Copy 1 R 1 E ∷ does.Pass 1 R ∷ does.Take 1 E ∷ does.Release 1 R 7 ∷ does.Tick 999 ∷ does.Tick 1000
    ∷ does.Drain 1 2 ∷ []
    ))
    ≡ (E, Sends (0x41 ∷ [])) ∷ (E, IsRefused) ∷ (E, Repeats) ∷ (E, Loses) ∷ (E, Alters) ∷ (R, Inserts) ∷ (E, Inserts) ∷ (R, Passes (1 ∷ []))
    ∷ (R, Releases 7) ∷ (E, Expires) ∷ (E, Passes (1 ∷ [])) ∷ (E, Passes changed) ∷ []
unfolding drain tick_each_link frames_of between_flags all_but_last cut verdict_on verdict_on_content checked_part check_number unescaped ends_in_escape
    spelling escaped escaped_octet content_of control_of fcs_of fcs_bits dividend remainder divided_once add_front sent_bits low_bits low_number
known_effects = refl

-- steps at another link bring about nothing here
pub known_elsewhere : effects_in (history
    (does.Wire 2 ∷ does.Wire 1 ∷ does.Send 2 E (0x41 ∷ []) ∷ does.Lose 2 E ∷ does.Copy 1 E 2 E ∷ does.Release 2 E 7 ∷ [])) ≡ []
unfolding drain tick_each_link frames_of between_flags all_but_last cut verdict_on verdict_on_content checked_part check_number unescaped ends_in_escape
    spelling escaped escaped_octet content_of control_of fcs_of fcs_bits dividend remainder divided_once add_front sent_bits low_bits low_number
known_elsewhere = refl

-- a tick at a station that is up: T1 doesn't run at 5,000, and runs from the send on, so it isn't late at 5,999 and is at 6,000
abbrev ticking : List Step
ticking = does.Wire 1 ∷ does.Drain 1 2 ∷ does.Tick 5000 ∷ does.Send 1 E (0x41 ∷ []) ∷ does.Tick 5999 ∷ []

pub known_in_time : is_disturbed (history ticking) ≡ false
unfolding drain tick_each_link frames_of between_flags all_but_last cut verdict_on verdict_on_content checked_part check_number unescaped ends_in_escape
    spelling escaped escaped_octet content_of control_of fcs_of fcs_bits dividend remainder divided_once add_front sent_bits low_bits low_number
known_in_time = refl

pub known_late : effects_in (history (ticking ++ does.Tick 6000 ∷ []))
    ≡ (E, Passes set_up) ∷ (R, Passes (0x7e ∷ 0x01 ∷ 0x73 ∷ 0x83 ∷ 0x57 ∷ 0x7e ∷ [])) ∷ (E, Sends (0x41 ∷ [])) ∷ (E, Expires) ∷ []
unfolding drain tick_each_link frames_of between_flags all_but_last cut verdict_on verdict_on_content checked_part check_number unescaped ends_in_escape
    spelling escaped escaped_octet content_of control_of fcs_of fcs_bits dividend remainder divided_once add_front sent_bits low_bits low_number
known_late = refl

-- so far this link is loss-free; one whose frames were lost and repeated keeps its order and isn't loss-free, and one with a frame that was put
-- or changed doesn't keep it
pub known_loss_free : IsLossFree (OfStations false) (history ticking)
unfolding drain tick_each_link frames_of between_flags all_but_last cut verdict_on verdict_on_content checked_part check_number unescaped ends_in_escape
    spelling escaped escaped_octet content_of control_of fcs_of fcs_bits dividend remainder divided_once add_front sent_bits low_bits low_number
known_loss_free = record { undisturbed = refl; agree = tt }

abbrev losing : List Step
losing = does.Wire 1 ∷ does.Repeat 1 E ∷ does.Lose 1 E ∷ []

pub known_order : IsOrderKeeping (OfStations false) (history losing)
unfolding spelling escaped escaped_octet content_of control_of fcs_of fcs_bits dividend remainder divided_once add_front sent_bits low_bits low_number
known_order = record { numbered = tt; ordered = refl }

pub known_disturbed : is_disturbed (history losing) ≡ true
unfolding spelling escaped escaped_octet content_of control_of fcs_of fcs_bits dividend remainder divided_once add_front sent_bits low_bits low_number
known_disturbed = refl

pub known_disorder : is_disordered (history (losing ++ does.Put 1 R [] ∷ [])) ≡ true
unfolding spelling escaped escaped_octet content_of control_of fcs_of fcs_bits dividend remainder divided_once add_front sent_bits low_bits low_number
known_disorder = refl

pub known_change : is_disordered (history (losing ++ does.Alter 1 E 1 2 ∷ [])) ≡ true
unfolding spelling escaped escaped_octet content_of control_of fcs_of fcs_bits dividend remainder divided_once add_front sent_bits low_bits low_number
known_change = refl

-- ---- the line

-- an octet that is changed, one past the end, and a mask that changes none
pub known_octet : octet_changed 1 2 (0x7e ∷ 0x01 ∷ 0x3f ∷ []) ≡ 0x7e ∷ 0x03 ∷ 0x3f ∷ []
known_octet = refl

pub known_past : octet_changed 3 2 (0x7e ∷ 0x01 ∷ 0x3f ∷ []) ≡ 0x7e ∷ 0x01 ∷ 0x3f ∷ []
known_past = refl

pub known_mask : octet_changed 1 0 (0x7e ∷ 0x01 ∷ 0x3f ∷ []) ≡ 0x7e ∷ 0x01 ∷ 0x3f ∷ []
known_mask = refl

-- two frames that wait at e, each changed so by a step that names that side of that link, and by none that names another side or another
-- link
abbrev waiting : List (List ℕ)
waiting = (7 ∷ []) ∷ (8 ∷ []) ∷ []

pub known_lost : changed_by_step new_world 1 E (does.Lose 1 E) waiting ≡ (8 ∷ []) ∷ []
known_lost = refl

pub known_doubled : changed_by_step new_world 1 E (does.Repeat 1 E) waiting ≡ (7 ∷ []) ∷ (7 ∷ []) ∷ (8 ∷ []) ∷ []
known_doubled = refl

pub known_altered : changed_by_step new_world 1 E (does.Alter 1 E 0 1) waiting ≡ (6 ∷ []) ∷ (8 ∷ []) ∷ []
known_altered = refl

pub known_put : changed_by_step new_world 1 E (does.Put 1 E (9 ∷ [])) waiting ≡ (9 ∷ []) ∷ (7 ∷ []) ∷ (8 ∷ []) ∷ []
known_put = refl

pub known_other_side : changed_by_step new_world 1 R (does.Lose 1 E) waiting ≡ waiting
known_other_side = refl

pub known_other_link : changed_by_step new_world 2 E (does.Lose 1 E) waiting ≡ waiting
known_other_link = refl

-- the set-up frame of e, copied to r: it waits there before what waited
pub known_copied : changed_by_step (world_run plan (does.Wire 1 ∷ [])).0 1 R (does.Copy 1 E 1 R) waiting ≡ set_up ∷ waiting
unfolding drain tick_each_link frames_of between_flags all_but_last cut verdict_on verdict_on_content checked_part check_number unescaped ends_in_escape
    spelling escaped escaped_octet content_of control_of fcs_of fcs_bits dividend remainder divided_once add_front sent_bits low_bits low_number
known_copied = refl

-- ---- text

abbrev key : TripleKey
key = record { first = 1; second = 2; third = 3 }

abbrev other_key : TripleKey
other_key = record { first = 1; second = 2; third = 4 }

-- text 7 was sealed at link 1 under one key: what is accepted for it there is no forgery, and under another key, of another text, or at another
-- link it is one; the messages are empty
abbrev accepting : List Came
accepting =
    On 1 (at_end E (OfSafety (Sent [] key (7 ∷ [])))) ∷ On 1 (at_end R (OfSafety (Accepted [] [] key (7 ∷ []))))
    ∷ On 1 (at_end R (OfSafety (Accepted [] [] other_key (7 ∷ [])))) ∷ On 1 (at_end R (OfSafety (Accepted [] [] key (8 ∷ []))))
    ∷ On 2 (at_end R (OfSafety (Accepted [] [] key (7 ∷ [])))) ∷ []

pub known_marks : lines false (marks_from [] accepting)
    ≡ codes "1 r accepted -\n1 r accepted - forged\n1 r accepted - forged\n2 r accepted - forged\n"
unfolding head accepted_line hex_of digits
known_marks = refl

-- the whole text of a set-up, with its closing line
abbrev setting_up : List Step
setting_up = does.Wire 1 ∷ does.Pass 1 E ∷ does.Drain 1 9 ∷ []

pub known_drill_text : first_lines plan setting_up ++ last_lines plan setting_up ≡ codes "1 r up\n1 e up\n1 passes 1\n1 end passes 2 waiting 0 0\n"
unfolding digits head up_line passes_line closing_line closing_from drain tick_each_link frames_of between_flags all_but_last cut verdict_on
    verdict_on_content checked_part check_number unescaped ends_in_escape spelling escaped escaped_octet content_of control_of fcs_of fcs_bits dividend
    remainder divided_once add_front sent_bits low_bits low_number
known_drill_text = refl
