-- What a combined station with selective reject does at a frame that comes (ISO/IEC 13239, asynchronous balanced mode with the optional
-- function of single-frame SREJ; what is stray, what is a frame error and the order of the tests are this profile's): frames behind a gap
-- are held, and each number that is missing is asked for once. All else is what a station with go-back does.
use Rattle.std.specs.Prelude.{ℕ, zero, suc, ◌+◌, ◌-◌, ◌==◌, nat_lt, nat_le, Bool, true, false, not, ◌||◌, if◌then◌else◌, List, [], ◌∷◌, ◌++◌, length, map}
use Rattle.std.specs.Prelude.{Option, None, Some}
use Rattle.std.specs.List.{filter}
use Rattle.er_base.specs.declared.cause.Cause.TheVariants.{PeerDisconnected}
use Rattle.hdlc_frames.specs.declared.controls.Control.{Control}
use Rattle.hdlc_frames.specs.declared.controls.Control.TheVariants as control
use Rattle.hdlc_frames.specs.ControlOctets.{control_of}
use Rattle.hdlc_frames.specs.Framing.{Verdict, Frame, BadFcs, TooShort, TooLong, Aborted}
use Rattle.hdlc_station_model.specs.declared.phase.Phase.{Phase}
use Rattle.hdlc_station_model.specs.declared.phase.Phase.TheVariants.{Idle, Setting, Up, Down}
use Rattle.hdlc_station_model.specs.Frames.{Rr, Srej, modulo}
use Rattle.hdlc_station_model.specs.Stations.{Station, is_down, sees, puts, one_more}
use Rattle.hdlc_station_model.specs.Sending.{station_down_for_cause, refuses_frame, info_at, sends_waiting, starts_timer}
use Rattle.hdlc_station_model.specs.Calls.{receives}
use Rattle.hdlc_station_model.specs.Receiving.{strays, is_known_address, is_addressed, is_some_octets, errs, number_shown_as, by_number, marks_busy, comes_up}
use Rattle.hdlc_station_model.specs.Receiving.{agrees, row_idle}

-- ---- frames that are an error at any phase

-- REJ, information where none may stand, and the set-up frame at a calling station
abbrev pub is_selective_error : Bool → Control → List ℕ → Bool
is_selective_error calling (control.Info ns nr) information = false
is_selective_error calling (control.Rr nr) information = is_some_octets information
is_selective_error calling (control.Rnr nr) information = is_some_octets information
is_selective_error calling (control.Rej nr) information = true
is_selective_error calling (control.Srej nr) information = is_some_octets information
is_selective_error calling (control.Sabm poll) information = calling || is_some_octets information
is_selective_error calling (control.Sabme poll) information = calling || is_some_octets information
is_selective_error calling (control.Disc poll) information = is_some_octets information
is_selective_error calling control.Ua information = is_some_octets information
is_selective_error calling control.Dm information = is_some_octets information
is_selective_error calling control.Frmr information = false

-- ---- what is held

-- the payload that is held for a number
abbrev pub held_for : ℕ → List (ℕ × List ℕ) → Option (List ℕ)
held_for n [] = None
held_for n (h ∷ held) = if h.0 == n then Some h.1 else held_for n held

abbrev pub is_found : Option (List ℕ) → Bool
is_found None = false
is_found (Some payload) = true

abbrev pub is_one_of : ℕ → List ℕ → Bool
is_one_of n [] = false
is_one_of n (m ∷ ms) = m == n || is_one_of n ms

-- the payloads of n, n + 1 and so on, as far as each is held, of so many numbers at most
abbrev pub without_gap : ℕ → ℕ → List (ℕ × List ℕ) → List (List ℕ)
without_gap zero n held = []
without_gap (suc most) n held = behind (held_for n held) (without_gap most (n + 1) held)
  where
    behind : Option (List ℕ) → List (List ℕ) → List (List ℕ)
    behind None rest = []
    behind (Some payload) rest = payload ∷ rest

-- so many numbers, from one on
abbrev pub numbers_from : ℕ → ℕ → List ℕ
numbers_from n zero = []
numbers_from n (suc count) = n ∷ numbers_from (n + 1) count

-- ---- N(S)

-- the next payload is taken, and those that are held and follow it without a gap; numbers below the new V(R) are neither held nor asked for
abbrev pub takes_run : List ℕ → List (List ℕ) → Station → Station
takes_run payload run s =
    let next = length s.taken + 1 + length run in
    record s {
      taken = s.taken ++ payload ∷ run;
      held = filter (λ h. nat_le next h.0) s.held;
      asked = filter (λ n. nat_le next n) s.asked;
      owed = true;
      deed = record { up = false; payload = Some payload; more = run; released = None };
    }

-- the numbers below n that didn't come and weren't asked for, from V(R) on
abbrev pub missing_below : ℕ → Station → List ℕ
missing_below n s =
    filter (λ m. not (is_found (held_for m s.held) || is_one_of m s.asked)) (numbers_from (length s.taken) (n - length s.taken))

-- a frame behind a gap is held, and SREJ asks once for each number that is missing before it, in rising order
abbrev pub holds : ℕ → List ℕ → Station → Station
holds n payload s = record s {
  held = s.held ++ (n, payload) ∷ [];
  asked = s.asked ++ missing_below n s;
  said = s.said ++ map Srej (missing_below n s);
}

-- the frame is old, or held already: RR says again which is the next one
abbrev pub says_next : Station → Station
says_next s = puts (Rr (length s.taken)) s

abbrev pub files_at : Option ℕ → List ℕ → Station → Station
files_at None payload s = says_next s
files_at (Some n) payload s =
    if n == length s.taken
    then takes_run payload (without_gap (length s.held) (n + 1) s.held) s
    else (if is_found (held_for n s.held) then says_next s else holds n payload s)

-- N(S) is looked for from V(R) on, within the window
abbrev pub files : ℕ → List ℕ → Station → Station
files ns payload s = files_at (number_shown_as s.extended (length s.taken) (s.window - 1) ns) payload s

-- ---- SREJ

-- the one frame that it asks for is sent again with the newest V(R), and T1 starts anew; its N(R) acknowledges nothing
abbrev pub repeats_at : Option ℕ → Station → Station
repeats_at None s = strays s
repeats_at (Some n) s = starts_timer (record (puts (info_at s n) s) { owed = false })

-- it asks for a frame from V(A) to V(S) - 1
abbrev pub repeats_one : ℕ → Station → Station
repeats_one nr s = if nat_lt s.acked s.sent then repeats_at (number_shown_as s.extended s.acked (s.sent - s.acked - 1) nr) s else strays s

-- ---- the rows

-- the set-up frame at a called station that is Up: before the first I frame that it took it is a repeated one
abbrev pub sets_up_selective_again : Bool → Station → Station
sets_up_selective_again poll s = if length s.taken == 0 then agrees poll (record s { held = []; asked = [] }) else refuses_frame s

abbrev pub selective_row_setting : Station → Control → List ℕ → Station
selective_row_setting s (control.Info ns nr) payload = strays s
selective_row_setting s (control.Rr nr) information = strays s
selective_row_setting s (control.Rnr nr) information = strays s
selective_row_setting s (control.Rej nr) information = refuses_frame s
selective_row_setting s (control.Srej nr) information = strays s
selective_row_setting s (control.Sabm poll) information = refuses_frame s
selective_row_setting s (control.Sabme poll) information = refuses_frame s
selective_row_setting s (control.Disc poll) information = station_down_for_cause PeerDisconnected (agrees poll s)
selective_row_setting s control.Ua information = comes_up (record s { timer = None; expiries = 0 })
selective_row_setting s control.Dm information = station_down_for_cause PeerDisconnected s
selective_row_setting s control.Frmr information = station_down_for_cause PeerDisconnected s

abbrev pub selective_row_up : Station → Control → List ℕ → Station
selective_row_up s (control.Info ns nr) payload = by_number nr (files ns payload) s
selective_row_up s (control.Rr nr) information = by_number nr (marks_busy false) s
selective_row_up s (control.Rnr nr) information = by_number nr (marks_busy true) s
selective_row_up s (control.Rej nr) information = refuses_frame s
selective_row_up s (control.Srej nr) information = repeats_one nr s
selective_row_up s (control.Sabm poll) information = sets_up_selective_again poll s
selective_row_up s (control.Sabme poll) information = sets_up_selective_again poll s
selective_row_up s (control.Disc poll) information = station_down_for_cause PeerDisconnected (agrees poll s)
selective_row_up s control.Ua information = strays s
selective_row_up s control.Dm information = station_down_for_cause PeerDisconnected s
selective_row_up s control.Frmr information = station_down_for_cause PeerDisconnected s

abbrev pub selective_row : Phase → Station → Control → List ℕ → Station
selective_row Idle s c information = row_idle s c information
selective_row Setting s c information = selective_row_setting s c information
selective_row Up s c information = selective_row_up s c information
selective_row Down s c information = s

-- ---- a frame that comes

abbrev pub selective_hears_control : ℕ → Option (Control × List ℕ) → Station → Station
selective_hears_control address None s = errs s.phase s
selective_hears_control address (Some read) s =
    if is_addressed s.calling address read.0
    then (if is_selective_error s.calling read.0 read.1 then errs s.phase s else selective_row s.phase s read.0 read.1)
    else strays s

abbrev pub selective_hears_frame : ℕ → List ℕ → Station → Station
selective_hears_frame address body s =
    if is_known_address address then selective_hears_control address (control_of (modulo s.extended) body) s else strays s

abbrev pub selective_hears : Verdict → Station → Station
selective_hears (Frame address body) s = selective_hears_frame address body s
selective_hears BadFcs s = record s { counts = record (s.counts) { bad_fcs = one_more s.counts.bad_fcs } }
selective_hears TooShort s = record s { counts = record (s.counts) { short = one_more s.counts.short } }
selective_hears TooLong s = record s { counts = record (s.counts) { long = one_more s.counts.long } }
selective_hears Aborted s = record s { counts = record (s.counts) { aborted = one_more s.counts.aborted } }

-- the call: the others are those of a station with go-back
abbrev pub selective_receives : ℕ → Verdict → Station → Station
selective_receives now verdict s = if is_down s.phase then s else sends_waiting (selective_hears verdict (sees now s))

-- the call of a station of either kind
abbrev pub receives_as : (selective : Bool) → ℕ → Verdict → Station → Station
receives_as true now verdict s = selective_receives now verdict s
receives_as false now verdict s = receives now verdict s
