-- What a combined station sends (ISO/IEC 13239, asynchronous balanced mode; the order of what is sent in one call, N2 and the last
-- frames are this profile's).
use Rattle.std.specs.Prelude.{ℕ, zero, suc, ◌+◌, ◌-◌, ◌==◌, nat_lt, nat_le, Bool, false, not, ◌&&◌, ◌||◌, if◌then◌else◌, List, [], ◌∷◌, ◌++◌, length}
use Rattle.std.specs.Prelude.{slice_index_or, Option, None, Some}
use Rattle.er_base.specs.declared.cause.Cause.{Cause}
use Rattle.er_base.specs.declared.cause.Cause.TheVariants.{SetUpUnanswered, NoProgress, FrameError}
use Rattle.er_base.specs.Causes.{release_of}
use Rattle.hdlc_station_model.specs.declared.phase.Phase.{Phase}
use Rattle.hdlc_station_model.specs.declared.phase.Phase.TheVariants.{Idle, Setting, Up, Down}
use Rattle.hdlc_station_model.specs.Frames.{Frame, Info, Rr, SetUp, Disc, Dm}
use Rattle.hdlc_station_model.specs.Stations.{Station, is_up, expiry_moment, puts}

-- ---- releases

-- the station is Down for this cause
abbrev pub station_down_for_cause : Cause → Station → Station
station_down_for_cause cause s = record s {
  phase = Down;
  timer = None;
  released = Some (release_of cause);
  deed = record { up = false; payload = None; more = []; released = Some (release_of cause) };
}

-- a frame that the station may not accept: it answers DM
abbrev pub refuses_frame : Station → Station
refuses_frame s = station_down_for_cause FrameError (puts Dm s)

-- ---- I frames

-- the I frame of payload n: it shows the newest V(R)
abbrev pub info_at : Station → ℕ → Frame
info_at s n = Info n (length s.taken) (slice_index_or s.handed n [])

-- T1 starts where it doesn't run
abbrev pub started : Option ℕ → ℕ → Option ℕ
started None moment = Some moment
started (Some running) moment = Some running

-- the next payload is sent for the first time; its N(R) settles an owed answer
abbrev pub sends_next : Station → Station
sends_next s = record (puts (info_at s s.sent) s) { sent = s.sent + 1; owed = false; timer = started s.timer (expiry_moment s) }

-- a payload may be sent: the station is Up, the peer isn't busy, the window isn't full, and a called station took an I frame before
abbrev pub can_send : Station → Bool
can_send s = is_up s.phase && not s.busy && nat_lt (s.sent - s.acked) s.window && (s.calling || nat_lt 0 (length s.taken))

-- the payloads that weren't sent yet
abbrev pub waiting : Station → ℕ
waiting s = length s.handed - s.sent

-- of so many payloads, each is sent as long as one may be
abbrev pub sends_up_to : ℕ → Station → Station
sends_up_to zero s = s
sends_up_to (suc n) s = if can_send s then sends_up_to n (sends_next s) else s

-- payloads are sent, the one that was handed first being the first
abbrev pub sends_waiting : Station → Station
sends_waiting s = sends_up_to (waiting s) s

-- n frames from V(A) on
abbrev pub frames_again : ℕ → Station → List Frame
frames_again zero s = []
frames_again (suc n) s = frames_again n s ++ info_at s (s.acked + n) ∷ []

-- n frames from V(A) on are sent again, each with the newest V(R)
abbrev pub sends_again_some : ℕ → Station → Station
sends_again_some n s = record s { said = s.said ++ frames_again n s; owed = if n == 0 then s.owed else false }

-- every frame from V(A) to V(S) - 1 is sent again
abbrev pub sends_again : Station → Station
sends_again s = sends_again_some (s.sent - s.acked) s

-- T1 starts anew
abbrev pub starts_timer : Station → Station
starts_timer s = record s { timer = Some (expiry_moment s) }

-- ---- the answer that is owed

-- RR shows V(R) where no other frame did
abbrev pub settles : Station → Station
settles s = if s.owed then record (puts (Rr (length s.taken)) s) { owed = false } else s

-- ---- the expiry of T1

abbrev pub is_due : Option ℕ → ℕ → Bool
is_due None now = false
is_due (Some expiry) now = nat_le expiry now

-- after N2 expiries in a row the station gives up and sends DISC
abbrev pub gives_up : Cause → Station → Station
gives_up cause s = station_down_for_cause cause (puts Disc s)

abbrev pub counts_expiry : Station → Station
counts_expiry s = record s { expiries = s.expiries + 1 }

-- T1 runs in Setting and Up alone
abbrev pub expires_at : Phase → Station → Station
expires_at Idle s = s
expires_at Setting s =
    if nat_lt s.n2 (s.expiries + 1) then gives_up SetUpUnanswered s else starts_timer (puts SetUp (counts_expiry s))
expires_at Up s =
    if nat_lt s.n2 (s.expiries + 1) then gives_up NoProgress s else starts_timer (sends_again (counts_expiry s))
expires_at Down s = s

abbrev pub expires : Station → Station
expires s = expires_at s.phase s

abbrev pub expires_if_due : Station → Station
expires_if_due s = if is_due s.timer s.moment then expires s else s
