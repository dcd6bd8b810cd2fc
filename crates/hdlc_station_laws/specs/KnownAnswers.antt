-- Known answers, worked out by hand: lists of events of a calling station at modulo 8 with N2 5 and T1 1000, the window 7 with go-back and 4 with
-- selective reject; and of a called one.
use Rattle.std.specs.Prelude.{◌≡◌, ℕ, Bool, true, false, List, [], ◌∷◌, ◌++◌, Some, None, refl}
use Rattle.hdlc_frames.specs.Framing.{Frame as Found}
use Rattle.hdlc_frames.specs.ControlOctets.{control_of}
use Rattle.hdlc_station_model.specs.declared.phase.Phase.TheVariants.{Setting, Up}
use Rattle.hdlc_station_model.specs.Frames.{Info, Rr, Rej, Srej, Dm, Ua}
use Rattle.hdlc_station_model.specs.Stations.{Station, made}
use Rattle.hdlc_station_laws.specs.Settings.{station_settings}
use Rattle.hdlc_station_laws.specs.StationEvents.{StationEvent, Start, Receive, Hand, Tick, station_run, expired_ticks}
use Rattle.hdlc_station_laws.specs.SentAgain.{sent_before}
use Rattle.hdlc_station_laws.specs.Gaps.{supervisory}
use Rattle.hdlc_station_laws.specs.Asking.{times_asked_over}

-- a response comes from the called station, a command from it
abbrev answers : ℕ → List ℕ → StationEvent
answers now body = Receive now (Found 0x01 body)

abbrev sends : ℕ → List ℕ → StationEvent
sends now body = Receive now (Found 0x03 body)

abbrev calling : (selective : Bool) → (window : ℕ) → List StationEvent → Station
calling selective window events = station_run selective (made true false window 5 1000) events

-- ---- what releases, and with which last frame

-- REJ to a station with selective reject, and SREJ to one with go-back, before UA: 1.3 and DM; the reject of the own kind is stray there
pub rejects_of_the_other_kind :
    ((calling true 4 (Start 0 ∷ answers 0 (0x09 ∷ []) ∷ [])).deed.released ≡ Some (record { reason = 1; sub = 3; by_peer = false }))
    × ((calling true 4 (Start 0 ∷ answers 0 (0x09 ∷ []) ∷ [])).said ≡ Dm ∷ [])
    × ((calling true 4 (Start 0 ∷ answers 0 (0x0d ∷ []) ∷ [])).phase ≡ Setting)
    × ((calling false 7 (Start 0 ∷ answers 0 (0x0d ∷ []) ∷ [])).deed.released ≡ Some (record { reason = 1; sub = 3; by_peer = false }))
    × ((calling false 7 (Start 0 ∷ answers 0 (0x09 ∷ []) ∷ [])).phase ≡ Setting)
unfolding control_of
rejects_of_the_other_kind = (refl, refl, refl, refl, refl)

-- DISC before UA: 1.4, and UA with its P bit
pub disconnected_early :
    ((calling true 4 (Start 0 ∷ sends 0 (0x53 ∷ []) ∷ [])).deed.released ≡ Some (record { reason = 1; sub = 4; by_peer = false }))
    × ((calling true 4 (Start 0 ∷ sends 0 (0x53 ∷ []) ∷ [])).said ≡ Ua true ∷ [])
unfolding control_of
disconnected_early = (refl, refl)

-- UA under the own address brings nothing up
pub up_by_the_peer_alone :
    ((calling true 4 (Start 0 ∷ sends 0 (0x73 ∷ []) ∷ [])).phase ≡ Setting) × ((calling true 4 (Start 0 ∷ answers 0 (0x73 ∷ []) ∷ [])).phase ≡ Up)
unfolding control_of
up_by_the_peer_alone = (refl, refl)

-- ---- expiries: one payload was sent at 0 and never acknowledged

abbrev sent_one : List StationEvent
sent_one = Start 0 ∷ answers 0 (0x73 ∷ []) ∷ Hand 0 (0x41 ∷ []) ∷ []

-- REJ, RR and RNR that acknowledge nothing between five expiries, at a station with go-back
abbrev no_progress : List StationEvent
no_progress = Tick 1000 ∷ answers 1000 (0x09 ∷ []) ∷ Tick 2000 ∷ answers 2000 (0x01 ∷ []) ∷ Tick 3000 ∷ answers 3000 (0x05 ∷ []) ∷ Tick 4000 ∷ Tick 5000 ∷ []

pub still_counted :
    ((calling false 7 (sent_one ++ no_progress)).expiries ≡ 5)
    × (expired_ticks false (calling false 7 sent_one) no_progress ≡ 5)
    × ((calling false 7 (sent_one ++ no_progress ++ Tick 5999 ∷ [])).deed.released ≡ None)
    × ((calling false 7 (sent_one ++ no_progress ++ Tick 6000 ∷ [])).deed.released ≡ Some (record { reason = 1; sub = 2; by_peer = false }))
    × ((calling false 7 (sent_one ++ no_progress ++ answers 5500 (0x21 ∷ []) ∷ [])).expiries ≡ 0)
unfolding control_of
still_counted = (refl, refl, refl, refl, refl)

-- SREJ, a frame that is taken and one that is held, at a station with selective reject
abbrev no_selective_progress : List StationEvent
no_selective_progress =
    Tick 1000 ∷ answers 1000 (0x0d ∷ []) ∷ Tick 2000 ∷ sends 2000 (0x00 ∷ 0x55 ∷ []) ∷ Tick 3000 ∷ sends 3000 (0x04 ∷ 0x55 ∷ []) ∷ Tick 4000 ∷ Tick 5000 ∷ []

pub still_counted_selective :
    ((calling true 4 (sent_one ++ no_selective_progress)).expiries ≡ 5)
    × ((calling true 4 (sent_one ++ no_selective_progress ++ Tick 6000 ∷ [])).deed.released ≡ Some (record { reason = 1; sub = 2; by_peer = false }))
unfolding control_of
still_counted_selective = (refl, refl)

-- the set-up frame is never answered: the sixth expiry is one too many, 1.1
pub never_answered :
    ((calling true 4 (Start 0 ∷ Tick 1000 ∷ Tick 2000 ∷ Tick 3000 ∷ Tick 4000 ∷ Tick 5000 ∷ [])).expiries ≡ 5)
    × ((calling true 4 (Start 0 ∷ Tick 1000 ∷ Tick 2000 ∷ Tick 3000 ∷ Tick 4000 ∷ Tick 5000 ∷ Tick 6000 ∷ [])).deed.released
    ≡ Some (record { reason = 1; sub = 1; by_peer = false }))
    × ((calling true 4 (Start 0 ∷ Tick 1000 ∷ Tick 2000 ∷ answers 2500 (0x73 ∷ []) ∷ [])).expiries ≡ 0)
unfolding control_of
never_answered = (refl, refl, refl)

-- the settings are those that it was made with
pub settings_stayed : station_settings (calling true 4 (sent_one ++ no_selective_progress))
    ≡ record { calling = true; extended = false; window = 4; n2 = 5; t1 = 1000 }
unfolding control_of
settings_stayed = refl

-- ---- a busy peer

-- RNR comes, then a second one and an I frame, which leave the mark: what is handed down waits; RR lets it go
abbrev made_busy : List StationEvent
made_busy = Start 0 ∷ answers 0 (0x73 ∷ []) ∷ answers 0 (0x05 ∷ []) ∷ answers 0 (0x05 ∷ []) ∷ sends 0 (0x00 ∷ 0x55 ∷ []) ∷ Hand 0 (0x41 ∷ []) ∷ []

pub waits_for_ready :
    ((calling true 4 made_busy).busy ≡ true) × ((calling true 4 made_busy).sent ≡ 0) × ((calling true 4 made_busy).said ≡ [])
    × ((calling true 4 (made_busy ++ answers 0 (0x01 ∷ []) ∷ [])).said ≡ Info 0 1 (0x41 ∷ []) ∷ [])
    × ((calling false 7 made_busy).sent ≡ 0) × ((calling false 7 (made_busy ++ answers 0 (0x01 ∷ []) ∷ [])).sent ≡ 1)
unfolding control_of
waits_for_ready = (refl, refl, refl, refl, refl, refl)

-- ---- what goes again

-- three payloads were sent at 0
abbrev sent_three : List StationEvent
sent_three = Start 0 ∷ answers 0 (0x73 ∷ []) ∷ Hand 0 (0x41 ∷ []) ∷ Hand 0 (0x42 ∷ []) ∷ Hand 0 (0x43 ∷ []) ∷ []

-- T1 expires while the peer is busy: all three; REJ for 1: the two behind it; SREJ for 1: that one alone
pub goes_again :
    (sent_before 3 (calling false 7 (sent_three ++ answers 0 (0x05 ∷ []) ∷ Tick 1000 ∷ [])).said ≡ 0 ∷ 1 ∷ 2 ∷ [])
    × (sent_before 3 (calling true 4 (sent_three ++ answers 0 (0x05 ∷ []) ∷ Tick 1000 ∷ [])).said ≡ 0 ∷ 1 ∷ 2 ∷ [])
    × (sent_before 3 (calling false 7 (sent_three ++ answers 300 (0x29 ∷ []) ∷ [])).said ≡ 1 ∷ 2 ∷ [])
    × (sent_before 3 (calling true 4 (sent_three ++ answers 300 (0x2d ∷ []) ∷ [])).said ≡ 1 ∷ [])
    × (sent_before 3 (calling true 4 (sent_three ++ answers 300 (0x21 ∷ []) ∷ [])).said ≡ [])
unfolding control_of
goes_again = (refl, refl, refl, refl, refl)

-- ---- gaps at a called station, which gets commands under 01 and responses under 03

abbrev hears_command : List ℕ → StationEvent
hears_command body = Receive 0 (Found 0x01 body)

abbrev called : (selective : Bool) → (window : ℕ) → List StationEvent → Station
called selective window events = station_run selective (made false false window 5 1000) (hears_command (0x3f ∷ []) ∷ events)

-- 0 is taken; 2 comes: REJ for 1; RR and a tick leave the mark, so that 2 once more is answered by RR
pub mark_stays :
    ((called false 7 (hears_command (0x00 ∷ 0x40 ∷ []) ∷ hears_command (0x04 ∷ 0x42 ∷ []) ∷ [])).said ≡ Rej 1 ∷ [])
    × ((called false 7 (hears_command (0x00 ∷ 0x40 ∷ []) ∷ hears_command (0x04 ∷ 0x42 ∷ []) ∷ Receive 0 (Found 0x03 (0x01 ∷ [])) ∷ Tick 1000
    ∷ hears_command (0x04 ∷ 0x42 ∷ []) ∷ [])).said ≡ Rr 1 ∷ [])
unfolding control_of
mark_stays = (refl, refl)

-- 0 comes twice: the old frame is answered by REJ and leaves the mark, so that 2, before which 1 is missing, is answered by RR
pub old_frame_leaves_the_mark :
    ((called false 7 (hears_command (0x00 ∷ 0x40 ∷ []) ∷ hears_command (0x00 ∷ 0x40 ∷ []) ∷ [])).said ≡ Rej 1 ∷ [])
    × ((called false 7 (hears_command (0x00 ∷ 0x40 ∷ []) ∷ hears_command (0x00 ∷ 0x40 ∷ []) ∷ hears_command (0x04 ∷ 0x42 ∷ []) ∷ [])).said ≡ Rr 1 ∷ [])
unfolding control_of
old_frame_leaves_the_mark = (refl, refl)

-- with selective reject the old frame is answered by RR and leaves nothing; 2 asks for 1, and 3 for none
pub old_frame_leaves_nothing :
    ((called true 4 (hears_command (0x00 ∷ 0x40 ∷ []) ∷ hears_command (0x00 ∷ 0x40 ∷ []) ∷ [])).said ≡ Rr 1 ∷ [])
    × ((called true 4 (hears_command (0x00 ∷ 0x40 ∷ []) ∷ hears_command (0x00 ∷ 0x40 ∷ []) ∷ hears_command (0x04 ∷ 0x42 ∷ []) ∷ [])).said ≡ Srej 1 ∷ [])
    × (supervisory (called true 4 (hears_command (0x00 ∷ 0x40 ∷ []) ∷ hears_command (0x04 ∷ 0x42 ∷ []) ∷ hears_command (0x06 ∷ 0x43 ∷ []) ∷ [])).said ≡ [])
unfolding control_of
old_frame_leaves_nothing = (refl, refl, refl)

-- 0 is taken and 1 is lost; 2, 3 and 4 come, then 2 once more and a tick: SREJ asks for 1 once; then 1 comes, and 6 twice behind 5: SREJ asks for 5 once
abbrev lost_one : List StationEvent
lost_one =
    hears_command (0x00 ∷ 0x40 ∷ []) ∷ hears_command (0x04 ∷ 0x42 ∷ []) ∷ hears_command (0x06 ∷ 0x43 ∷ []) ∷ hears_command (0x08 ∷ 0x44 ∷ [])
    ∷ hears_command (0x04 ∷ 0x42 ∷ []) ∷ Tick 1000 ∷ []

abbrev lost_two : List StationEvent
lost_two = lost_one ++ hears_command (0x02 ∷ 0x41 ∷ []) ∷ hears_command (0x0c ∷ 0x46 ∷ []) ∷ hears_command (0x0c ∷ 0x46 ∷ []) ∷ []

pub asked_for_once :
    (times_asked_over 1 (called true 4 []) lost_one ≡ 1)
    × (times_asked_over 0 (called true 4 []) lost_one ≡ 0)
    × (times_asked_over 1 (called true 4 []) lost_two ≡ 1)
    × (times_asked_over 5 (called true 4 []) lost_two ≡ 1)
    × (times_asked_over 2 (called true 4 []) lost_two ≡ 0)
unfolding control_of
asked_for_once = (refl, refl, refl, refl, refl)
