-- Known answers, worked out by hand: where short lists of steps lead.
use Rattle.std.specs.Prelude.{◌≡◌, ℕ, Bool, true, false, List, [], ◌∷◌, length, Option, Some, None, refl}
use Rattle.std.proofs.Common.{arith}
use Rattle.er_base.specs.declared.release.Release.{Release}
use Rattle.er_base.specs.declared.side.Side.TheVariants.{E, R}
use Rattle.bit_lists.specs.LowestFirst.{low_bits, low_number}
use Rattle.hdlc_fcs.specs.FrameCheck.{fcs_of, fcs_bits, dividend, remainder, divided_once, add_front, sent_bits}
use Rattle.hdlc_fcs.specs.Contents.{content_of, checked_part, check_number}
use Rattle.hdlc_frames.specs.Framing.{Frame, unescaped, ends_in_escape, verdict_on_content, verdict_on, cut, all_but_last, between_flags, frames_of}
use Rattle.hdlc_frames.specs.Spelling.{escaped_octet, escaped, spelling}
use Rattle.hdlc_frames.specs.ControlOctets.{control_of}
use Rattle.hdlc_station_model.specs.declared.phase.Phase.{Phase}
use Rattle.hdlc_station_model.specs.declared.phase.Phase.TheVariants.{Idle, Setting, Up, Down}
use Rattle.hdlc_station_model.specs.Frames.{SetUp, Ua, sent_address, sent_body}
use Rattle.hdlc_station_model.specs.Stations.{Station}
use Rattle.hdlc_station_model.specs.Selective.{receives_as}
use Rattle.pair_model.specs.Steps.{PairStep, Send, Pass, Lose, Repeat, Put, Drain, Tick, pair_step, pair_run}
use Rattle.hdlc_pair_laws.specs.Links.{StationLink, station_kind, opened_station_link}
use Rattle.hdlc_pair_laws.specs.Laws.{StationLinkOpening, after}
use Rattle.hdlc_pair_laws.specs.Recovery.{bound_of}

-- N2 5, T1 1000
abbrev opened : (selective extended : Bool) → (window : ℕ) → StationLink
opened selective extended window = opened_station_link selective extended window 5 1000 0

-- what waits from e and from r, before and behind each step
abbrev lines : (selective : Bool) → StationLink → List PairStep → List (List (List ℕ) × List (List ℕ))
lines selective l [] = (l.from_e, l.from_r) ∷ []
lines selective l (s ∷ rest) = (l.from_e, l.from_r) ∷ lines selective (pair_step (station_kind selective) s l) rest

-- modulo 128: SABME, UA, an I frame and RR
pub extended_frames : lines false (opened false true 31) (Pass E ∷ Pass R ∷ Send E (0x41 ∷ []) ∷ Pass E ∷ Pass R ∷ [])
    ≡ ((0x7e ∷ 0x01 ∷ 0x7f ∷ 0xef ∷ 0x9d ∷ 0x7e ∷ []) ∷ [], []) ∷ ([], (0x7e ∷ 0x01 ∷ 0x73 ∷ 0x83 ∷ 0x57 ∷ 0x7e ∷ []) ∷ []) ∷ ([], [])
    ∷ ((0x7e ∷ 0x01 ∷ 0x00 ∷ 0x00 ∷ 0x41 ∷ 0xe8 ∷ 0xb3 ∷ 0x7e ∷ []) ∷ [], []) ∷ ([], (0x7e ∷ 0x01 ∷ 0x01 ∷ 0x02 ∷ 0xda ∷ 0xa6 ∷ 0x7e ∷ []) ∷ []) ∷ ([], []) ∷ []
unfolding frames_of between_flags all_but_last cut verdict_on verdict_on_content checked_part check_number unescaped ends_in_escape spelling escaped
    escaped_octet content_of control_of fcs_of fcs_bits dividend remainder divided_once add_front sent_bits low_bits low_number
extended_frames = refl

-- how a link stands, of each pair e's first: the phases, the releases, how many payloads were taken and how many frames wait; and the deliveries
-- so far
record Stand : Type 0 where
  phases : Phase × Phase
  releases : Option Release × Option Release
  taken : ℕ × ℕ
  waiting : ℕ × ℕ
  passes : ℕ

abbrev stand : StationLink → Stand
stand l = record {
  phases = (l.e.station.phase, l.r.station.phase);
  releases = (l.e.station.released, l.r.station.released);
  taken = (length l.e.station.taken, length l.r.station.taken);
  waiting = (length l.from_e, length l.from_r);
  passes = l.passes;
}

abbrev up : (taken waiting : ℕ × ℕ) (passes : ℕ) → Stand
up taken waiting passes = record { phases = (Up, Up); releases = (None, None); taken = taken; waiting = waiting; passes = passes }

-- how it stands behind each of some lists of steps, and at the end the payloads that e took and those that r took
abbrev told : (selective : Bool) → StationLink → List (List PairStep) → List Stand × (List (List ℕ) × List (List ℕ))
told selective l [] = ([], (l.e.station.taken, l.r.station.taken))
told selective l (steps ∷ rest) =
    let n = pair_run (station_kind selective) l steps in (stand n ∷ (told selective n rest).0, (told selective n rest).1)

-- the peer never answers: the sixth expiry of T1 is one too many
pub silent_peer : told false (opened false false 7)
    ((Pass E ∷ Pass R ∷ Send E (0x41 ∷ []) ∷ Lose E ∷ []) ∷ (Tick 1000 ∷ Tick 2000 ∷ Tick 3000 ∷ Tick 4000 ∷ Tick 5000 ∷ []) ∷ (Tick 6000 ∷ []) ∷ [])
    ≡ (
      up (0, 0) (0, 0) 2 ∷ up (0, 0) (5, 0) 2
          ∷ record {
            phases = (Down, Up);
            releases = (Some (record { reason = 1; sub = 2; by_peer = false }), None);
            taken = (0, 0);
            waiting = (6, 0);
            passes = 2;
          }
          ∷ [],
      ([], []),
    )
unfolding frames_of between_flags all_but_last cut verdict_on verdict_on_content checked_part check_number unescaped ends_in_escape spelling escaped
    escaped_octet content_of control_of fcs_of fcs_bits dividend remainder divided_once add_front sent_bits low_bits low_number
silent_peer = refl

-- the set-up frame behind an I frame is a frame error
pub set_up_in_mid_life : told false (opened false false 7)
    ((Drain 4 ∷ []) ∷ (Send E (0x41 ∷ []) ∷ Drain 4 ∷ []) ∷ (Put E (0x7e ∷ 0x01 ∷ 0x3f ∷ 0xeb ∷ 0xdf ∷ 0x7e ∷ []) ∷ Pass E ∷ []) ∷ [])
    ≡ (
      up (0, 0) (0, 0) 2 ∷ up (0, 1) (0, 0) 4
          ∷ record {
            phases = (Up, Down);
            releases = (None, Some (record { reason = 1; sub = 3; by_peer = false }));
            taken = (0, 1);
            waiting = (0, 1);
            passes = 5;
          }
          ∷ [],
      ([], (0x41 ∷ []) ∷ []),
    )
unfolding frames_of between_flags all_but_last cut verdict_on verdict_on_content checked_part check_number unescaped ends_in_escape spelling escaped
    escaped_octet content_of control_of fcs_of fcs_bits dividend remainder divided_once add_front sent_bits low_bits low_number
set_up_in_mid_life = refl

-- twenty payloads of which the third frame is lost, then one that is repeated. Behind the loss there are 50 passes
pub lost_and_repeated : told false (opened false false 7)
    ((Drain 4 ∷ []) ∷ (Send E (1 ∷ []) ∷ Send E (2 ∷ []) ∷ Send E (3 ∷ []) ∷ Send E (4 ∷ []) ∷ Send E (5 ∷ []) ∷ Send E (6 ∷ []) ∷ Send E (7 ∷ [])
    ∷ Send E (8 ∷ []) ∷ Send E (9 ∷ []) ∷ Send E (10 ∷ []) ∷ Send E (11 ∷ []) ∷ Send E (12 ∷ []) ∷ Send E (13 ∷ []) ∷ Send E (14 ∷ []) ∷ Send E (15 ∷ [])
    ∷ Send E (16 ∷ []) ∷ Send E (17 ∷ []) ∷ Send E (18 ∷ []) ∷ Send E (19 ∷ []) ∷ Send E (20 ∷ []) ∷ Pass E ∷ Pass E ∷ Lose E ∷ Drain 200 ∷ [])
    ∷ (Send E (21 ∷ []) ∷ Repeat E ∷ Drain 200 ∷ []) ∷ [])
    ≡ (
      up (0, 0) (0, 0) 2 ∷ up (0, 20) (0, 0) 54 ∷ up (0, 21) (0, 0) 58 ∷ [],
      (
        [],
        (1 ∷ []) ∷ (2 ∷ []) ∷ (3 ∷ []) ∷ (4 ∷ []) ∷ (5 ∷ []) ∷ (6 ∷ []) ∷ (7 ∷ []) ∷ (8 ∷ []) ∷ (9 ∷ []) ∷ (10 ∷ []) ∷ (11 ∷ []) ∷ (12 ∷ []) ∷ (13 ∷ [])
            ∷ (14 ∷ []) ∷ (15 ∷ []) ∷ (16 ∷ []) ∷ (17 ∷ []) ∷ (18 ∷ []) ∷ (19 ∷ []) ∷ (20 ∷ []) ∷ (21 ∷ []) ∷ [],
      ),
    )
unfolding frames_of between_flags all_but_last cut verdict_on verdict_on_content checked_part check_number unescaped ends_in_escape spelling escaped
    escaped_octet content_of control_of fcs_of fcs_bits dividend remainder divided_once add_front sent_bits low_bits low_number
lost_and_repeated = refl

-- the same at modulo 128: behind the loss 17 frames and their answers pass, then 18 frames that are sent again and theirs
pub lost_and_repeated_extended : told false (opened false true 20)
    ((Drain 4 ∷ []) ∷ (Send E (1 ∷ []) ∷ Send E (2 ∷ []) ∷ Send E (3 ∷ []) ∷ Send E (4 ∷ []) ∷ Send E (5 ∷ []) ∷ Send E (6 ∷ []) ∷ Send E (7 ∷ [])
    ∷ Send E (8 ∷ []) ∷ Send E (9 ∷ []) ∷ Send E (10 ∷ []) ∷ Send E (11 ∷ []) ∷ Send E (12 ∷ []) ∷ Send E (13 ∷ []) ∷ Send E (14 ∷ []) ∷ Send E (15 ∷ [])
    ∷ Send E (16 ∷ []) ∷ Send E (17 ∷ []) ∷ Send E (18 ∷ []) ∷ Send E (19 ∷ []) ∷ Send E (20 ∷ []) ∷ Pass E ∷ Pass E ∷ Lose E ∷ Drain 200 ∷ [])
    ∷ (Send E (21 ∷ []) ∷ Repeat E ∷ Drain 200 ∷ []) ∷ [])
    ≡ (
      up (0, 0) (0, 0) 2 ∷ up (0, 20) (0, 0) 76 ∷ up (0, 21) (0, 0) 80 ∷ [],
      (
        [],
        (1 ∷ []) ∷ (2 ∷ []) ∷ (3 ∷ []) ∷ (4 ∷ []) ∷ (5 ∷ []) ∷ (6 ∷ []) ∷ (7 ∷ []) ∷ (8 ∷ []) ∷ (9 ∷ []) ∷ (10 ∷ []) ∷ (11 ∷ []) ∷ (12 ∷ []) ∷ (13 ∷ [])
            ∷ (14 ∷ []) ∷ (15 ∷ []) ∷ (16 ∷ []) ∷ (17 ∷ []) ∷ (18 ∷ []) ∷ (19 ∷ []) ∷ (20 ∷ []) ∷ (21 ∷ []) ∷ [],
      ),
    )
unfolding frames_of between_flags all_but_last cut verdict_on verdict_on_content checked_part check_number unescaped ends_in_escape spelling escaped
    escaped_octet content_of control_of fcs_of fcs_bits dividend remainder divided_once add_front sent_bits low_bits low_number
lost_and_repeated_extended = refl

-- selective reject with the window 4: the first of three frames is lost, so two are held, and it alone is sent again. The passes are those two
-- frames, SREJ, the frame again, and RR
pub asked_for_one : told true (opened true false 4) ((Drain 4 ∷ []) ∷ (Send E (1 ∷ []) ∷ Send E (2 ∷ []) ∷ Send E (3 ∷ []) ∷ Lose E ∷ Drain 20 ∷ []) ∷ [])
    ≡ (up (0, 0) (0, 0) 2 ∷ up (0, 3) (0, 0) 7 ∷ [], ([], (1 ∷ []) ∷ (2 ∷ []) ∷ (3 ∷ []) ∷ []))
unfolding frames_of between_flags all_but_last cut verdict_on verdict_on_content checked_part check_number unescaped ends_in_escape spelling escaped
    escaped_octet content_of control_of fcs_of fcs_bits dividend remainder divided_once add_front sent_bits low_bits low_number
asked_for_one = refl

-- the SREJ is lost too: no number is asked for twice, so nothing comes until T1 expires. Then all three frames come again, the last two as old ones
pub t1_alone : told true (opened true false 4)
    ((Drain 4 ∷ []) ∷ (Send E (1 ∷ []) ∷ Send E (2 ∷ []) ∷ Send E (3 ∷ []) ∷ Lose E ∷ Pass E ∷ Lose R ∷ Drain 20 ∷ []) ∷ (Tick 999 ∷ Drain 20 ∷ [])
    ∷ (Tick 1000 ∷ Drain 20 ∷ []) ∷ []) ≡ (
      up (0, 0) (0, 0) 2 ∷ up (0, 0) (0, 0) 4 ∷ up (0, 0) (0, 0) 4 ∷ up (0, 3) (0, 0) 10 ∷ [],
      ([], (1 ∷ []) ∷ (2 ∷ []) ∷ (3 ∷ []) ∷ []),
    )
unfolding frames_of between_flags all_but_last cut verdict_on verdict_on_content checked_part check_number unescaped ends_in_escape spelling escaped
    escaped_octet content_of control_of fcs_of fcs_bits dividend remainder divided_once add_front sent_bits low_bits low_number
t1_alone = refl

-- the first and the third of four frames are lost: two are held and two are asked for. The passes are SREJ and its frame, twice, and two RR
pub two_gaps : told true (opened true false 4)
    ((Drain 4 ∷ []) ∷ (Send E (1 ∷ []) ∷ Send E (2 ∷ []) ∷ Send E (3 ∷ []) ∷ Send E (4 ∷ []) ∷ Lose E ∷ Pass E ∷ Lose E ∷ Pass E ∷ Drain 20 ∷ []) ∷ [])
    ≡ (up (0, 0) (0, 0) 2 ∷ up (0, 4) (0, 0) 10 ∷ [], ([], (1 ∷ []) ∷ (2 ∷ []) ∷ (3 ∷ []) ∷ (4 ∷ []) ∷ []))
unfolding frames_of between_flags all_but_last cut verdict_on verdict_on_content checked_part check_number unescaped ends_in_escape spelling escaped
    escaped_octet content_of control_of fcs_of fcs_bits dividend remainder divided_once add_front sent_bits low_bits low_number
two_gaps = refl

-- twenty payloads of which the third frame is lost, then one that is repeated: the same payloads, in fewer passes. Behind the loss three frames,
-- two RR, SREJ, the frame again and RR pass, then fourteen frames and their answers
pub lost_and_repeated_selective : told true (opened true false 4)
    ((Drain 4 ∷ []) ∷ (Send E (1 ∷ []) ∷ Send E (2 ∷ []) ∷ Send E (3 ∷ []) ∷ Send E (4 ∷ []) ∷ Send E (5 ∷ []) ∷ Send E (6 ∷ []) ∷ Send E (7 ∷ [])
    ∷ Send E (8 ∷ []) ∷ Send E (9 ∷ []) ∷ Send E (10 ∷ []) ∷ Send E (11 ∷ []) ∷ Send E (12 ∷ []) ∷ Send E (13 ∷ []) ∷ Send E (14 ∷ []) ∷ Send E (15 ∷ [])
    ∷ Send E (16 ∷ []) ∷ Send E (17 ∷ []) ∷ Send E (18 ∷ []) ∷ Send E (19 ∷ []) ∷ Send E (20 ∷ []) ∷ Pass E ∷ Pass E ∷ Lose E ∷ Drain 200 ∷ [])
    ∷ (Send E (21 ∷ []) ∷ Repeat E ∷ Drain 200 ∷ []) ∷ [])
    ≡ (
      up (0, 0) (0, 0) 2 ∷ up (0, 20) (0, 0) 40 ∷ up (0, 21) (0, 0) 44 ∷ [],
      (
        [],
        (1 ∷ []) ∷ (2 ∷ []) ∷ (3 ∷ []) ∷ (4 ∷ []) ∷ (5 ∷ []) ∷ (6 ∷ []) ∷ (7 ∷ []) ∷ (8 ∷ []) ∷ (9 ∷ []) ∷ (10 ∷ []) ∷ (11 ∷ []) ∷ (12 ∷ []) ∷ (13 ∷ [])
            ∷ (14 ∷ []) ∷ (15 ∷ []) ∷ (16 ∷ []) ∷ (17 ∷ []) ∷ (18 ∷ []) ∷ (19 ∷ []) ∷ (20 ∷ []) ∷ (21 ∷ []) ∷ [],
      ),
    )
unfolding frames_of between_flags all_but_last cut verdict_on verdict_on_content checked_part check_number unescaped ends_in_escape spelling escaped
    escaped_octet content_of control_of fcs_of fcs_bits dividend remainder divided_once add_front sent_bits low_bits low_number
lost_and_repeated_selective = refl

-- the same at modulo 128: 17 frames that are held, two RR, SREJ, the frame again and one RR for all
pub lost_and_repeated_selective_extended : told true (opened true true 20)
    ((Drain 4 ∷ []) ∷ (Send E (1 ∷ []) ∷ Send E (2 ∷ []) ∷ Send E (3 ∷ []) ∷ Send E (4 ∷ []) ∷ Send E (5 ∷ []) ∷ Send E (6 ∷ []) ∷ Send E (7 ∷ [])
    ∷ Send E (8 ∷ []) ∷ Send E (9 ∷ []) ∷ Send E (10 ∷ []) ∷ Send E (11 ∷ []) ∷ Send E (12 ∷ []) ∷ Send E (13 ∷ []) ∷ Send E (14 ∷ []) ∷ Send E (15 ∷ [])
    ∷ Send E (16 ∷ []) ∷ Send E (17 ∷ []) ∷ Send E (18 ∷ []) ∷ Send E (19 ∷ []) ∷ Send E (20 ∷ []) ∷ Pass E ∷ Pass E ∷ Lose E ∷ Drain 200 ∷ [])
    ∷ (Send E (21 ∷ []) ∷ Repeat E ∷ Drain 200 ∷ []) ∷ [])
    ≡ (
      up (0, 0) (0, 0) 2 ∷ up (0, 20) (0, 0) 26 ∷ up (0, 21) (0, 0) 30 ∷ [],
      (
        [],
        (1 ∷ []) ∷ (2 ∷ []) ∷ (3 ∷ []) ∷ (4 ∷ []) ∷ (5 ∷ []) ∷ (6 ∷ []) ∷ (7 ∷ []) ∷ (8 ∷ []) ∷ (9 ∷ []) ∷ (10 ∷ []) ∷ (11 ∷ []) ∷ (12 ∷ []) ∷ (13 ∷ [])
            ∷ (14 ∷ []) ∷ (15 ∷ []) ∷ (16 ∷ []) ∷ (17 ∷ []) ∷ (18 ∷ []) ∷ (19 ∷ []) ∷ (20 ∷ []) ∷ (21 ∷ []) ∷ [],
      ),
    )
unfolding frames_of between_flags all_but_last cut verdict_on verdict_on_content checked_part check_number unescaped ends_in_escape spelling escaped
    escaped_octet content_of control_of fcs_of fcs_bits dividend remainder divided_once add_front sent_bits low_bits low_number
lost_and_repeated_selective_extended = refl

-- a drain behind losses: of a window of seven frames the first is lost, and the REJ at the second stands three times. The passes are the five frames
-- behind and, for each REJ, it and the seven frames that are sent again for it; the first seven are taken. Then come the answers: five RR,
-- seven, another REJ with six RR, and seven RR. In all 5 + 3 * 8 + 26 passes, behind the three before them, at which 5 + 3 frames wait and 7 payloads
-- were handed down, so there may be 15 * (8 + 7 + 2) + 2 * 7
abbrev rejected_often : StationLinkOpening × List PairStep
rejected_often = (
  record { selective = false; extended = false; window = 7; n2 = 5; t1 = 1000; moment = 0; some = omega arith; narrow = omega arith },
  Drain 4 ∷ Send E (1 ∷ []) ∷ Send E (2 ∷ []) ∷ Send E (3 ∷ []) ∷ Send E (4 ∷ []) ∷ Send E (5 ∷ []) ∷ Send E (6 ∷ []) ∷ Send E (7 ∷ []) ∷ Lose E ∷ Pass E
      ∷ Repeat R ∷ Repeat R ∷ [],
)

pub its_bound : bound_of rejected_often.0 (after rejected_often.0 rejected_often.1) ≡ 269
unfolding frames_of between_flags all_but_last cut verdict_on verdict_on_content checked_part check_number unescaped ends_in_escape spelling escaped
    escaped_octet content_of control_of fcs_of fcs_bits dividend remainder divided_once add_front sent_bits low_bits low_number
its_bound = refl

-- and each frame was given, and each payload was taken
pub many_passes : told false (after rejected_often.0 rejected_often.1) ([] ∷ (Drain 500 ∷ []) ∷ [])
    ≡ (up (0, 0) (5, 3) 3 ∷ up (0, 7) (0, 0) 58 ∷ [], ([], (1 ∷ []) ∷ (2 ∷ []) ∷ (3 ∷ []) ∷ (4 ∷ []) ∷ (5 ∷ []) ∷ (6 ∷ []) ∷ (7 ∷ []) ∷ []))
unfolding frames_of between_flags all_but_last cut verdict_on verdict_on_content checked_part check_number unescaped ends_in_escape spelling escaped
    escaped_octet content_of control_of fcs_of fcs_bits dividend remainder divided_once add_front sent_bits low_bits low_number
many_passes = refl

-- ---- one tick repairs a loss of each kind, with go-back and with selective reject

-- a lossy beginning, then T1 is found expired, and what waits is passed
abbrev repaired : (selective : Bool) → List PairStep → List Stand × (List (List ℕ) × List (List ℕ))
repaired selective steps = told selective (opened selective false 4) (steps ∷ (Tick 1000 ∷ Drain 20 ∷ []) ∷ [])

abbrev of_both : List PairStep → List Stand × (List (List ℕ) × List (List ℕ)) → Type 0
of_both steps told = (repaired false steps ≡ told) × (repaired true steps ≡ told)

-- the set-up frame is lost: it comes again, and is answered
pub lost_set_up : of_both (Lose E ∷ []) (
  record { phases = (Setting, Idle); releases = (None, None); taken = (0, 0); waiting = (0, 0); passes = 0 }
      ∷ up (0, 0) (0, 0) 2 ∷ [],
  ([], []),
)
unfolding frames_of between_flags all_but_last cut verdict_on verdict_on_content checked_part check_number unescaped ends_in_escape spelling escaped
    escaped_octet content_of control_of fcs_of fcs_bits dividend remainder divided_once add_front sent_bits low_bits low_number
lost_set_up = (refl, refl)

-- its answer is lost: the set-up frame comes again to a station that is up, which answers again
pub lost_answer : of_both (Pass E ∷ Lose R ∷ [])
    (record { phases = (Setting, Up); releases = (None, None); taken = (0, 0); waiting = (0, 0); passes = 1 } ∷ up (0, 0) (0, 0) 3 ∷ [], ([], []))
unfolding frames_of between_flags all_but_last cut verdict_on verdict_on_content checked_part check_number unescaped ends_in_escape spelling escaped
    escaped_octet content_of control_of fcs_of fcs_bits dividend remainder divided_once add_front sent_bits low_bits low_number
lost_answer = (refl, refl)

-- and doesn't come up twice
abbrev answers_again : (selective : Bool) → Station
answers_again selective =
    let l = pair_run (station_kind selective) (opened selective false 4) (Pass E ∷ Lose R ∷ Tick 1000 ∷ []) in
    receives_as selective l.moment (Frame (sent_address l.e.station.calling SetUp) (sent_body l.e.station.extended SetUp)) l.r.station

pub not_up_twice : ((answers_again false).said ≡ Ua true ∷ []) × ((answers_again false).deed.up ≡ false) × ((answers_again true).said ≡ Ua true ∷ [])
    × ((answers_again true).deed.up ≡ false)
unfolding frames_of between_flags all_but_last cut verdict_on verdict_on_content checked_part check_number unescaped ends_in_escape spelling escaped
    escaped_octet content_of control_of fcs_of fcs_bits dividend remainder divided_once add_front sent_bits low_bits low_number
not_up_twice = (refl, refl, refl, refl)

-- an I frame is lost behind which none comes: no gap is seen, so nothing but T1 tells
pub lost_frame : of_both (Drain 4 ∷ Send E (1 ∷ []) ∷ Lose E ∷ []) (up (0, 0) (0, 0) 2 ∷ up (0, 1) (0, 0) 4 ∷ [], ([], (1 ∷ []) ∷ []))
unfolding frames_of between_flags all_but_last cut verdict_on verdict_on_content checked_part check_number unescaped ends_in_escape spelling escaped
    escaped_octet content_of control_of fcs_of fcs_bits dividend remainder divided_once add_front sent_bits low_bits low_number
lost_frame = (refl, refl)

-- the RR that answers it is lost: the frame comes again as an old one, and isn't taken twice. Its answer, a REJ with go-back and an RR with selective
-- reject, shows the next number
pub lost_ready : of_both (Drain 4 ∷ Send E (1 ∷ []) ∷ Pass E ∷ Lose R ∷ []) (up (0, 1) (0, 0) 3 ∷ up (0, 1) (0, 0) 5 ∷ [], ([], (1 ∷ []) ∷ []))
unfolding frames_of between_flags all_but_last cut verdict_on verdict_on_content checked_part check_number unescaped ends_in_escape spelling escaped
    escaped_octet content_of control_of fcs_of fcs_bits dividend remainder divided_once add_front sent_bits low_bits low_number
lost_ready = (refl, refl)

-- the first of two I frames is lost, and so is the REJ or SREJ that asks for it: both frames come again, each with its answer
pub lost_reject : of_both (Drain 4 ∷ Send E (1 ∷ []) ∷ Send E (2 ∷ []) ∷ Lose E ∷ Pass E ∷ Lose R ∷ [])
    (up (0, 0) (0, 0) 3 ∷ up (0, 2) (0, 0) 7 ∷ [], ([], (1 ∷ []) ∷ (2 ∷ []) ∷ []))
unfolding frames_of between_flags all_but_last cut verdict_on verdict_on_content checked_part check_number unescaped ends_in_escape spelling escaped
    escaped_octet content_of control_of fcs_of fcs_bits dividend remainder divided_once add_front sent_bits low_bits low_number
lost_reject = (refl, refl)

-- a frame of either station is lost: the same tick repairs both directions. The passes are the two frames and an RR for each
pub lost_both_ways : of_both (Drain 4 ∷ Send E (1 ∷ []) ∷ Drain 4 ∷ Send R (2 ∷ []) ∷ Send E (3 ∷ []) ∷ Lose R ∷ Lose E ∷ [])
    (up (0, 1) (0, 0) 4 ∷ up (1, 2) (0, 0) 8 ∷ [], ((2 ∷ []) ∷ [], (1 ∷ []) ∷ (3 ∷ []) ∷ []))
unfolding frames_of between_flags all_but_last cut verdict_on verdict_on_content checked_part check_number unescaped ends_in_escape spelling escaped
    escaped_octet content_of control_of fcs_of fcs_bits dividend remainder divided_once add_front sent_bits low_bits low_number
lost_both_ways = (refl, refl)

-- ---- two ticks, the deadlines of both stations one after the other: the first one repairs one way

abbrev in_turn : (selective : Bool) → List PairStep → List Stand × (List (List ℕ) × List (List ℕ))
in_turn selective steps = told selective (opened selective false 4) (steps ∷ (Tick 1000 ∷ Drain 20 ∷ []) ∷ (Tick 1300 ∷ Drain 20 ∷ []) ∷ [])

abbrev in_turn_of_both : List PairStep → List Stand × (List (List ℕ) × List (List ℕ)) → Type 0
in_turn_of_both steps told = (in_turn false steps ≡ told) × (in_turn true steps ≡ told)

-- a frame of either station is lost, the calling one's first
pub calling_first : in_turn_of_both (Drain 4 ∷ Send E (1 ∷ []) ∷ Drain 4 ∷ Send E (2 ∷ []) ∷ Tick 300 ∷ Send R (3 ∷ []) ∷ Lose E ∷ Lose R ∷ [])
    (up (0, 1) (0, 0) 4 ∷ up (0, 2) (0, 0) 6 ∷ up (1, 2) (0, 0) 8 ∷ [], ((3 ∷ []) ∷ [], (1 ∷ []) ∷ (2 ∷ []) ∷ []))
unfolding frames_of between_flags all_but_last cut verdict_on verdict_on_content checked_part check_number unescaped ends_in_escape spelling escaped
    escaped_octet content_of control_of fcs_of fcs_bits dividend remainder divided_once add_front sent_bits low_bits low_number
calling_first = (refl, refl)

-- the called one's first
pub called_first : in_turn_of_both (Drain 4 ∷ Send E (1 ∷ []) ∷ Drain 4 ∷ Send R (3 ∷ []) ∷ Tick 300 ∷ Send E (2 ∷ []) ∷ Lose E ∷ Lose R ∷ [])
    (up (0, 1) (0, 0) 4 ∷ up (1, 1) (0, 0) 6 ∷ up (1, 2) (0, 0) 8 ∷ [], ((3 ∷ []) ∷ [], (1 ∷ []) ∷ (2 ∷ []) ∷ []))
unfolding frames_of between_flags all_but_last cut verdict_on verdict_on_content checked_part check_number unescaped ends_in_escape spelling escaped
    escaped_octet content_of control_of fcs_of fcs_bits dividend remainder divided_once add_front sent_bits low_bits low_number
called_first = (refl, refl)

-- ---- a frame is lost before others: with go-back, then with selective reject, it is asked for at once, and no moment comes

abbrev filled : (selective : Bool) → List PairStep → List Stand × (List (List ℕ) × List (List ℕ))
filled selective steps = told selective (opened selective false 4) (steps ∷ (Drain 30 ∷ []) ∷ [])

-- the deliveries at the end are so many with go-back, and so many with selective reject
abbrev filled_by : List PairStep → (lossy : Stand) (taken : ℕ × ℕ) (go_back selective : ℕ) → List (List ℕ) × List (List ℕ) → Type 0
filled_by steps lossy taken go_back selective payloads =
    (filled false steps ≡ (lossy ∷ up taken (0, 0) go_back ∷ [], payloads)) × (filled true steps ≡ (lossy ∷ up taken (0, 0) selective ∷ [], payloads))

-- the first of three. With go-back two frames pass, REJ, three frames that are sent again, the RR that said V(R) once more, and three RR; with selective
-- reject two frames that are held, SREJ, the frame again, and RR
pub filled_calling : filled_by (Drain 4 ∷ Send E (1 ∷ []) ∷ Send E (2 ∷ []) ∷ Send E (3 ∷ []) ∷ Lose E ∷ []) (up (0, 0) (2, 0) 2) (0, 3) 12 7
    ([], (1 ∷ []) ∷ (2 ∷ []) ∷ (3 ∷ []) ∷ [])
unfolding frames_of between_flags all_but_last cut verdict_on verdict_on_content checked_part check_number unescaped ends_in_escape spelling escaped
    escaped_octet content_of control_of fcs_of fcs_bits dividend remainder divided_once add_front sent_bits low_bits low_number
filled_calling = (refl, refl)

-- the first of two at the called station, which took a payload before. With go-back a frame passes, REJ, and two frames that are sent again, each
-- with its RR; with selective reject a frame that is held, SREJ, the frame again, and RR
pub filled_called : filled_by (Drain 4 ∷ Send E (1 ∷ []) ∷ Drain 4 ∷ Send R (2 ∷ []) ∷ Send R (3 ∷ []) ∷ Lose R ∷ []) (up (0, 1) (0, 1) 4) (2, 1) 10 8
    ((2 ∷ []) ∷ (3 ∷ []) ∷ [], (1 ∷ []) ∷ [])
unfolding frames_of between_flags all_but_last cut verdict_on verdict_on_content checked_part check_number unescaped ends_in_escape spelling escaped
    escaped_octet content_of control_of fcs_of fcs_bits dividend remainder divided_once add_front sent_bits low_bits low_number
filled_called = (refl, refl)

-- the RR before two I frames: they show V(R) too, so nothing is asked for. Two frames pass, each with its RR
pub filled_ready : filled_by (Drain 4 ∷ Send E (1 ∷ []) ∷ Pass E ∷ Send R (2 ∷ []) ∷ Send R (3 ∷ []) ∷ Lose R ∷ []) (up (0, 1) (0, 2) 3) (2, 1) 7 7
    ((2 ∷ []) ∷ (3 ∷ []) ∷ [], (1 ∷ []) ∷ [])
unfolding frames_of between_flags all_but_last cut verdict_on verdict_on_content checked_part check_number unescaped ends_in_escape spelling escaped
    escaped_octet content_of control_of fcs_of fcs_bits dividend remainder divided_once add_front sent_bits low_bits low_number
filled_ready = (refl, refl)

-- ---- the next loss in the life of a link

-- of the frames 2 and 3 the first is lost
abbrev next_loss : (selective : Bool) → List PairStep → List Stand × (List (List ℕ) × List (List ℕ))
next_loss selective steps = told selective (opened selective false 4) (steps ∷ (Send E (2 ∷ []) ∷ Send E (3 ∷ []) ∷ Lose E ∷ Drain 30 ∷ []) ∷ [])

-- T1 repaired one before. With go-back a frame passes, REJ, and two frames that are sent again, each with its RR; with selective reject a frame that is held,
-- SREJ, the frame again, and RR
pub filled_again : (next_loss false (Drain 4 ∷ Send E (1 ∷ []) ∷ Lose E ∷ Tick 1000 ∷ Drain 20 ∷ [])
    ≡ (up (0, 1) (0, 0) 4 ∷ up (0, 3) (0, 0) 10 ∷ [], ([], (1 ∷ []) ∷ (2 ∷ []) ∷ (3 ∷ []) ∷ [])))
    × (next_loss true (Drain 4 ∷ Send E (1 ∷ []) ∷ Lose E ∷ Tick 1000 ∷ Drain 20 ∷ [])
    ≡ (up (0, 1) (0, 0) 4 ∷ up (0, 3) (0, 0) 8 ∷ [], ([], (1 ∷ []) ∷ (2 ∷ []) ∷ (3 ∷ []) ∷ [])))
unfolding frames_of between_flags all_but_last cut verdict_on verdict_on_content checked_part check_number unescaped ends_in_escape spelling escaped
    escaped_octet content_of control_of fcs_of fcs_bits dividend remainder divided_once add_front sent_bits low_bits low_number
filled_again = (refl, refl)

-- a frame came twice before. With go-back it left the gap mark set, so that the frame behind the loss is answered by RR and nothing asks for the lost
-- one: T1 is left to do it. With selective reject it is filled
pub came_twice : (next_loss false (Drain 4 ∷ Send E (1 ∷ []) ∷ Repeat E ∷ Drain 20 ∷ [])
    ≡ (up (0, 1) (0, 0) 6 ∷ up (0, 1) (0, 0) 8 ∷ [], ([], (1 ∷ []) ∷ [])))
    × (next_loss true (Drain 4 ∷ Send E (1 ∷ []) ∷ Repeat E ∷ Drain 20 ∷ [])
    ≡ (up (0, 1) (0, 0) 6 ∷ up (0, 3) (0, 0) 10 ∷ [], ([], (1 ∷ []) ∷ (2 ∷ []) ∷ (3 ∷ []) ∷ [])))
unfolding frames_of between_flags all_but_last cut verdict_on verdict_on_content checked_part check_number unescaped ends_in_escape spelling escaped
    escaped_octet content_of control_of fcs_of fcs_bits dividend remainder divided_once add_front sent_bits low_bits low_number
came_twice = (refl, refl)
