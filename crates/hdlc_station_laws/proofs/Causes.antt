-- Releases and last frames at a frame that comes, for either kind: what hdlc_station_model says of a station with go-back, in the words of both.
use Rattle.std.proofs.Common.{◌≡◌, inl, inr, ℕ, true, false, List, Some}
use Rattle.std.proofs.lemmas.Option.{none-some}
use Rattle.er_base.specs.declared.cause.Cause.{Cause}
use Rattle.hdlc_frames.specs.declared.controls.Control.{Control}
use Rattle.hdlc_frames.specs.declared.controls.Control.TheVariants.{Info, Rr, Rnr, Rej, Srej, Sabm, Sabme, Disc, Ua, Dm, Frmr}
use Rattle.hdlc_frames.specs.Framing.{Verdict}
use Rattle.hdlc_frames.specs.Laws.{ControlIsTable}
use Rattle.hdlc_station_model.specs.declared.phase.Phase.TheVariants.{Up}
use Rattle.hdlc_station_model.specs.Stations.{Station}
use Rattle.hdlc_station_model.specs.Causes.{Comes, nr_of, IsValidReceiveNumber, IsFrameError, FrameCause, CauseReleases, ReleasesOnly}
use Rattle.hdlc_station_model.specs.Causes as one
use Rattle.hdlc_station_model.specs.LastFrames.{LastFrames}
use Rattle.hdlc_station_laws.specs.FrameCauses.{acknowledgement_of, IsErrorOfKind, FrameCauseOfKind, FrameCausesRelease, FramesReleaseOnly}
use Rattle.hdlc_station_laws.specs.FrameCauses as either
use Rattle.hdlc_station_laws.specs.LastSaid.{LastSaidOfKind}
use Rattle.hdlc_station_laws.proofs.SelectiveReleasing.{frame_releases, error_said, end_said}
use Rattle.hdlc_station_laws.proofs.SelectiveCausing.{received_met}

-- ---- go-back: its words are those of either kind

-- an N(R) that acknowledges is one
acknowledges_by : (c : Control) (nr : ℕ) → acknowledgement_of c ≡ Some nr → nr_of c ≡ Some nr
acknowledges_by (Info ns m) nr is = is
acknowledges_by (Rr m) nr is = is
acknowledges_by (Rnr m) nr is = is
acknowledges_by (Rej m) nr is = is
acknowledges_by (Srej m) nr is = absurd (none-some nr is)
acknowledges_by (Sabm poll) nr is = absurd (none-some nr is)
acknowledges_by (Sabme poll) nr is = absurd (none-some nr is)
acknowledges_by (Disc poll) nr is = absurd (none-some nr is)
acknowledges_by Ua nr is = absurd (none-some nr is)
acknowledges_by Dm nr is = absurd (none-some nr is)
acknowledges_by Frmr nr is = absurd (none-some nr is)

error_of : (s : Station) (a : ℕ) (b : List ℕ) → IsErrorOfKind false s a b → IsFrameError s a b
error_of s a b (either.HasUnknownControl t at never) = one.HasUnknownControl t at never
error_of s a b (either.IsOtherReject nr i t x) = one.IsSelectiveReject nr i t x
error_of s a b (either.HasInformation c i t x bare some) = one.HasInformation c i t x bare some
error_of s a b (either.SetsUpCaller c i t x set calls) = one.SetsUpCaller c i t x set calls
error_of s a b (either.SetsUpAgain c i up x set some) = one.SetsUpAgain c i up x set some
error_of s a b (either.NamesNone c i nr up x has never) = one.NamesNone c i nr up x (acknowledges_by c nr has) never

-- and back; an N(R) of SREJ stands in an error of its own
named_none : (s : Station) (a : ℕ) (b : List ℕ) (c : Control) (i : List ℕ) (nr : ℕ) → s.phase ≡ Up → Comes s a b c i → nr_of c ≡ Some nr → (IsValidReceiveNumber s nr → ⊥)
    → IsErrorOfKind false s a b
named_none s a b (Info ns m) i nr up x has never = either.NamesNone (Info ns m) i nr up x has never
named_none s a b (Rr m) i nr up x has never = either.NamesNone (Rr m) i nr up x has never
named_none s a b (Rnr m) i nr up x has never = either.NamesNone (Rnr m) i nr up x has never
named_none s a b (Rej m) i nr up x has never = either.NamesNone (Rej m) i nr up x has never
named_none s a b (Srej m) i nr up x has never = either.IsOtherReject m i (inl (inr up)) x
named_none s a b (Sabm poll) i nr up x has never = absurd (none-some nr has)
named_none s a b (Sabme poll) i nr up x has never = absurd (none-some nr has)
named_none s a b (Disc poll) i nr up x has never = absurd (none-some nr has)
named_none s a b Ua i nr up x has never = absurd (none-some nr has)
named_none s a b Dm i nr up x has never = absurd (none-some nr has)
named_none s a b Frmr i nr up x has never = absurd (none-some nr has)

error_from : (s : Station) (a : ℕ) (b : List ℕ) → IsFrameError s a b → IsErrorOfKind false s a b
error_from s a b (one.HasUnknownControl t at never) = either.HasUnknownControl t at never
error_from s a b (one.IsSelectiveReject nr i t x) = either.IsOtherReject nr i t x
error_from s a b (one.HasInformation c i t x bare some) = either.HasInformation c i t x bare some
error_from s a b (one.SetsUpCaller c i t x set calls) = either.SetsUpCaller c i t x set calls
error_from s a b (one.SetsUpAgain c i up x set some) = either.SetsUpAgain c i up x set some
error_from s a b (one.NamesNone c i nr up x has never) = named_none s a b c i nr up x has never

cause_of : (s : Station) (v : Verdict) (why : Cause) → FrameCauseOfKind false s v why → FrameCause s v why
cause_of s v why (either.IsError a b is error for) = one.IsError a b is (error_of s a b error) for
cause_of s v why (either.IsByPeer a b is end for) = one.IsByPeer a b is end for

cause_from : (s : Station) (v : Verdict) (why : Cause) → FrameCause s v why → FrameCauseOfKind false s v why
cause_from s v why (one.IsError a b is error for) = either.IsError a b is (error_from s a b error) for
cause_from s v why (one.IsByPeer a b is end for) = either.IsByPeer a b is end for

-- ---- either kind

pub frame_causes_release : ControlIsTable → CauseReleases → FrameCausesRelease
frame_causes_release law each true now s why v octets met = frame_releases law now s why v octets met
frame_causes_release law each false now s why v octets met = (each now s why).0 v octets (cause_of s v why met)

pub frames_release_only : ControlIsTable → ReleasesOnly → FramesReleaseOnly
frames_release_only law only true now s release v octets none told = received_met law now s v octets none release told
frames_release_only law only false now s release v octets none told =
    let met = (only now s release none).0 v octets told in (met.0, cause_from s v met.0 met.1, met.2)

pub last_said : ControlIsTable → LastFrames → LastSaidOfKind
last_said law last true now s a b octets = (error_said law now s a b octets, end_said law now s a b octets)
last_said law last false now s a b octets = (λ error. (last now s).0 a b octets (error_of s a b error), (last now s).1 a b octets)
