-- Contract: each call of an end as one function of what the end keeps. The laws of this crate say that these
-- are the steps of the end model.
use Rattle.std.specs.Prelude.{ℕ, ◌+◌, ◌==◌, Bool, true, false, List, [], ◌++◌, length, Option, Some, None, is_some, if◌then◌else◌}
use Rattle.er_base.specs.declared.cause.Cause.{Cause}
use Rattle.er_base.specs.declared.cause.Cause.TheVariants.{LineEnded, LineFailed, LineStalled}
use Rattle.er_base.specs.declared.release.Release.{Release}
use Rattle.er_settings.specs.Values.{Settings}
use Rattle.hdlc_frames.specs.Framing.{Verdict}
use Rattle.hdlc_frames.specs.Deframing as deframing
use Rattle.hdlc_station_model.specs.Stations.{made}
use Rattle.hdlc_station.specs.Kept as line
use Rattle.x224_class2.specs.Kept as transport
use Rattle.safety_automaton.specs.Safety.{Safety, Phase, initiator, responder, authenticated_peer}
use Rattle.safety_automaton.specs.Reports as reports
use Rattle.er_end_model.specs.Outcomes.{Outcome, SendRefusal}
use Rattle.er_end_model.specs.Steps.{Finds, new_event_at, step_start, step_frame, refusal_of, step_send_unless, step_take, step_release, step_tick, step_break}
use Rattle.er_end_model.specs.Steps.{deadline, outcomes_of, if_taken}
use Rattle.er_end_model.specs.Ends.{Opening, Call, Answer, Event, Start, Come, Send, Take, Leave, Tick, Ended, Fault, Stalled, refusal_or_outcomes}
use Rattle.er_end.specs.Inboxes.{empty}
use Rattle.er_end.specs.KeptLayers.{KCore, kept}

-- an end as the code keeps it
pub record KEnd : Type 0 where
  pub deframer : deframing.KeptDeframer
  pub core : KCore

-- ---- its making

abbrev pub kept_core_made : Bool → Settings → Safety → ℕ → KCore
kept_core_made calls settings side now = record {
  line = record { station = line.kept_of (made calls (settings.modulo == 128) settings.window settings.n2 settings.t1); out = [] };
  joined = [];
  upper = record { transport = transport.kept_made calls settings; inbox = empty };
  safe = reports.kept_side_without_texts side;
  limit = now + settings.setup;
  moment = now;
  connected = None;
  leaves = None;
  released = None;
}

abbrev pub kept_end_made : Bool → Settings → Safety → ℕ → KEnd
kept_end_made calls settings side now = record { deframer = deframing.kept_of []; core = kept_core_made calls settings side now }

unfoldable pub kept_opened : Opening → KEnd
kept_opened (Call settings me peer kmac rb now) = kept_end_made true settings (initiator me peer kmac rb) now
kept_opened (Answer settings me ra now) = kept_end_made false settings (responder me ra) now

-- ---- its calls

abbrev pub with_core : KEnd → KCore → KEnd
with_core k x = record k { core = x }

unfoldable pub after_start : ℕ → KEnd → KEnd
after_start now k = with_core k (step_start kept now k.core)

-- a verdict, or none
abbrev pub found_comes : Finds → ℕ → Option Verdict → KCore → KCore
found_comes finds now None x = new_event_at kept now x
found_comes finds now (Some verdict) x = step_frame kept finds now verdict x

-- how many octets of a piece are used: those up to the first that closes a frame, all where none does or where the end is released
unfoldable pub used_of : KEnd → List ℕ → ℕ
used_of k piece = if is_some k.core.released then length piece else (deframing.feeding_of k.deframer piece).used

unfoldable pub after_octets : Finds → ℕ → List ℕ → KEnd → KEnd
after_octets finds now piece k =
    let fed = deframing.feeding_of k.deframer piece in
    if is_some k.core.released then with_core k (new_event_at kept now k.core)
    else record { deframer = fed.kept; core = found_comes finds now fed.verdict k.core }

unfoldable pub refusal_of_send : List ℕ → KEnd → Option SendRefusal
refusal_of_send user k = refusal_of kept user k.core

unfoldable pub after_send : ℕ → List ℕ → KEnd → KEnd
after_send now user k = with_core k (step_send_unless kept (refusal_of kept user k.core) now user k.core)

unfoldable pub after_take : ℕ → KEnd → KEnd
after_take now k = with_core k (step_take kept now k.core)

unfoldable pub after_release : ℕ → ℕ → KEnd → KEnd
after_release now sub k = with_core k (step_release kept now sub k.core)

unfoldable pub after_tick : ℕ → KEnd → KEnd
after_tick now k = with_core k (step_tick kept now k.core)

unfoldable pub after_break : Cause → KEnd → KEnd
after_break cause k = with_core k (step_break kept cause k.core)

-- ---- what shows

-- the messages that wait for the user
abbrev pub waiting_in : KEnd → List (List ℕ)
waiting_in k = k.core.upper.inbox.waits

-- the peer with whom the safe connection stands, until the end is released
abbrev pub peer_until_release : Option Release → Phase → Option ℕ
peer_until_release None phase = authenticated_peer phase
peer_until_release (Some why) phase = None

abbrev pub peer_of : KEnd → Option ℕ
peer_of k = peer_until_release k.core.released k.core.safe.safety.phase

unfoldable pub deadline_of : KEnd → Option ℕ
deadline_of k = deadline kept k.core

-- ---- the same by the event

-- the end behind an event
abbrev pub kept_end_behind_event : ℕ → Event → KEnd → KEnd
kept_end_behind_event now Start k = after_start now k
kept_end_behind_event now (Come finds octets) k = after_octets finds now octets k
kept_end_behind_event now (Send user) k = after_send now user k
kept_end_behind_event now Take k = after_take now k
kept_end_behind_event now (Leave sub) k = after_release now sub k
kept_end_behind_event now Tick k = after_tick now k
kept_end_behind_event now Ended k = after_break LineEnded k
kept_end_behind_event now Fault k = after_break LineFailed k
kept_end_behind_event now Stalled k = after_break LineStalled k

-- the outcomes that the calls show
abbrev pub told_by : KEnd → List Outcome
told_by k = outcomes_of kept k.core

abbrev pub tells : ℕ → Event → KEnd → List Outcome
tells now Start k = told_by (after_start now k)
tells now (Come finds octets) k = told_by (after_octets finds now octets k)
tells now (Send user) k = refusal_or_outcomes (refusal_of_send user k) (told_by (after_send now user k))
tells now Take k = if_taken (kept.oldest k.core.upper) ++ told_by (after_take now k)
tells now (Leave sub) k = told_by (after_release now sub k)
tells now Tick k = told_by (after_tick now k)
tells now Ended k = told_by (after_break LineEnded k)
tells now Fault k = told_by (after_break LineFailed k)
tells now Stalled k = told_by (after_break LineStalled k)
