-- A payload that a station accepts is the information of an I frame that the line brought, and a station keeps its settings: each step of a
-- link of stations keeps both.
use Rattle.std.proofs.Common.{◌≡◌, ℕ, max, ◌==◌, true, false, Bool, if◌then◌else◌, List, [], ◌∷◌, ◌++◌, length, map, refl, sym, ap, ap₂, subst, ◌∙◌, append-nil, append_assoc}
use Rattle.std.specs.Prelude.{nat_lt, not, Option, Some, None}
use Rattle.std.specs.List.{flat_map, AllByRecursion}
use Rattle.std.specs.Option.{option_to_list}
use Rattle.er_base.specs.declared.release.Release.{Release}
use Rattle.er_base.specs.declared.side.Side.{Side}
use Rattle.er_base.specs.declared.side.Side.TheVariants.{E, R}
use Rattle.er_base.specs.Sides.{other}
use Rattle.er_settings.specs.Values.{Settings}
use Rattle.er_scenario.specs.declared.step.Step.{Step}
use Rattle.des_block.specs.declared.triple_key.TripleKey.{TripleKey}
use Rattle.hdlc_frames.specs.Framing.{Verdict}
use Rattle.safety_pair_laws.specs.Facts.{is_side}
use Rattle.safety_pair_laws.specs.Openings.{OfFixed, OfKeys}
use Rattle.hdlc_station_model.specs.Stations.{Station, no_deed, settled, made, is_down}
use Rattle.hdlc_station_model.specs.Calls.{starts, hands, finishes, ticks}
use Rattle.hdlc_station_model.specs.Selective.{receives_as}
use Rattle.hdlc_station_model.specs.Events.{said_octets, news, quits, is_late}
use Rattle.hdlc_station_model.specs.Lines.{altered}
use Rattle.er_end_model.specs.Outcomes.{SendRefusal}
use Rattle.drill_model.specs.Outcomes.{DrillOutcome, Handed, Arrived, Refused, Frame, UserReleased, Passed, Altered, NothingWaits, IsShort, Occurrence, at_end}
use Rattle.drill_model.specs.StationEnds.{if_up, if_arrived, if_released, outcomes_told_by_station, station_and_told, frames_heard, payload_refusal_of_station, handed_unless, if_expired}
use Rattle.drill_model.specs.Ends.{EndAtLevel, OfStation, EndEvent, Start, Receive, Send, Take, Release as Leave, Tick, end_step}
use Rattle.drill_model.specs.Waiting.{LineChange, Lose, Repeat, Alter, Put, change_first}
use Rattle.drill_model.specs.Links.{Link, LinkOpening, OfPair, OfStations, OfStacks, end_of, key_on, waiting_of, with_waiting, give, link_of, opened_link, LinkStep, pass, link_step}
use Rattle.drill_model.specs.Links as links
use Rattle.drill_model.specs.Worlds.{DrillPlan, link_at, history_on, world_run}
use Rattle.drill_model.specs.Kinds.{passed_in}
use Rattle.drill_model.specs.Hearing.{passed_of, IsInformationOf, ClosesPayload, CameInPass, IsToldOfFrames, PayloadIsOfPass, PayloadWasBrought, PayloadsAreBrought}
use Rattle.drill_model.specs.Growth.{FactsGrow, HistoryGrows, HistoryOfOwn, HistoryOfOther}
use Rattle.drill_laws.proofs.Worlds.{AtPlace, world_lives}
use Rattle.drill_laws.proofs.Talking.{any_steps}
use Rattle.drill_laws.proofs.Viewing.{step_opening}
use Rattle.drill_laws.proofs.Tellings.{all_taken}
use Rattle.drill_laws.proofs.Brought.{Along, along_append, along_at, passed_more}
use Rattle.drill_laws.proofs.Bringing.{Kept, HeldIs, starts_kept, hands_kept, finishes_kept, ticks_kept, closes_kept, receives_kept, selective_receives_kept}

-- ---- outcomes

-- an outcome of an end: no pass; and where it tells a payload, that is such
abbrev Fine : (List ℕ → Type 0) → DrillOutcome → Type 0
Fine Told (Arrived payload) = Told payload
Fine Told (Passed octets) = ⊥
Fine Told _ = Unit {0}

abbrev AllFine : (List ℕ → Type 0) → List DrillOutcome → Type 0
AllFine Told os = AllByRecursion (Fine Told) os

abbrev AllTold : List DrillOutcome → Type 0
AllTold os = AllByRecursion IsToldOfFrames os

-- no payload at all
abbrev NoPayload : List ℕ → Type 0
NoPayload payload = ⊥

all_of_append : {A : Type 0} → (P : A → Type 0) (xs ys : List A) → AllByRecursion P xs → AllByRecursion P ys → AllByRecursion P (xs ++ ys)
all_of_append P [] ys hx hy = hy
all_of_append P (x ∷ xs) ys hx hy = (hx.0, all_of_append P xs ys hx.1 hy)

-- what a call told
module _ (Told : List ℕ → Type 0) where
  fine_frames : (frames : List (List ℕ)) → AllFine Told (map Frame frames)
  fine_frames [] = tt
  fine_frames (frame ∷ frames) = (tt, fine_frames frames)

  fine_release : (release : Option Release) (frames : List (List ℕ)) → AllFine Told (if_released release ++ map Frame frames)
  fine_release None frames = fine_frames frames
  fine_release (Some release) frames = (tt, fine_frames frames)

  fine_run : (more : List (List ℕ)) (release : Option Release) (frames : List (List ℕ)) → AllByRecursion Told more
      → AllFine Told ((map Arrived more ++ if_released release) ++ map Frame frames)
  fine_run [] release frames all = fine_release release frames
  fine_run (payload ∷ more) release frames all = (all.0, fine_run more release frames all.1)

  fine_deed : (up : Bool) (payload : Option (List ℕ)) (more : List (List ℕ)) (release : Option Release) (frames : List (List ℕ))
      → AllByRecursion Told (option_to_list payload ++ more)
      → AllFine Told (((if_up up ++ (if_arrived payload ++ map Arrived more)) ++ if_released release) ++ map Frame frames)
  fine_deed true (Some payload) more release frames all = (tt, (all.0, fine_run more release frames all.1))
  fine_deed true None more release frames all = (tt, fine_run more release frames all)
  fine_deed false (Some payload) more release frames all = (all.0, fine_run more release frames all.1)
  fine_deed false None more release frames all = fine_run more release frames all

  fine_call : (t : Station) → AllByRecursion Told (all_taken t.deed) → AllFine Told (outcomes_told_by_station t)
  fine_call t all = fine_deed t.deed.up t.deed.payload t.deed.more t.deed.released (said_octets t) all

told_frames : (frames : List (List ℕ)) → AllTold (map Frame frames)
told_frames [] = tt
told_frames (frame ∷ frames) = (tt, told_frames frames)

told_release : (release : Option Release) (frames : List (List ℕ)) → AllTold (if_released release ++ map Frame frames)
told_release None frames = told_frames frames
told_release (Some release) frames = (tt, told_frames frames)

told_run : (more : List (List ℕ)) (release : Option Release) (frames : List (List ℕ)) → AllTold ((map Arrived more ++ if_released release) ++ map Frame frames)
told_run [] release frames = told_release release frames
told_run (payload ∷ more) release frames = (tt, told_run more release frames)

told_deed : (up : Bool) (payload : Option (List ℕ)) (more : List (List ℕ)) (release : Option Release) (frames : List (List ℕ))
    → AllTold (((if_up up ++ (if_arrived payload ++ map Arrived more)) ++ if_released release) ++ map Frame frames)
told_deed true (Some payload) more release frames = (tt, (tt, told_run more release frames))
told_deed true None more release frames = (tt, told_run more release frames)
told_deed false (Some payload) more release frames = (tt, told_run more release frames)
told_deed false None more release frames = told_run more release frames

told_call : (t : Station) → AllTold (outcomes_told_by_station t)
told_call t = told_deed t.deed.up t.deed.payload t.deed.more t.deed.released (said_octets t)

arrived_is : (Told : List ℕ → Type 0) (o : DrillOutcome) (payload : List ℕ) → Fine Told o → o ≡ Arrived payload → Told payload
arrived_is Told (Arrived found) payload fine is = let same : found ≡ payload = cc in subst Told same fine
arrived_is Told (Passed octets) payload fine is = absurd fine
arrived_is Told _ payload fine is = absurd cc

no_pass : (Told : List ℕ → Type 0) (o : DrillOutcome) → Fine Told o → passed_in o ≡ []
no_pass Told (Passed octets) fine = absurd fine
no_pass Told _ fine = refl

-- ---- octets that were passed

none_in : (Told : List ℕ → Type 0) (side at : Side) (os : List DrillOutcome) → AllFine Told os → passed_of side (map (at_end at) os) ≡ []
none_in Told side at [] all = refl
none_in Told side at (o ∷ os) all = ap₂ (λ (xs ys : List ℕ). xs ++ ys) (by_side (is_side side at)) (none_in Told side at os all.1)
  where
    by_side : (b : Bool) → (if b then flat_map (λ octets. octets) (passed_in o) else []) ≡ []
    by_side true = ap (flat_map (λ octets. octets)) (no_pass Told o all.0)
    by_side false = refl

still_passed : (side : Side) (history came : List Occurrence) → passed_of side came ≡ [] → passed_of side (history ++ came) ≡ passed_of side history
still_passed side history came none =
    passed_more side history came ∙ ap (λ (xs : List ℕ). passed_of side history ++ xs) none ∙ append-nil (passed_of side history)

-- ---- one station

module _ (settings : Settings) where
  abbrev Extended : Bool
  Extended = settings.modulo == 128

  -- a station of this kind, with the file's settings, between two calls; its stream is what was passed to it, and what it holds came in a
  -- pass
  record StationOf (selective : Bool) (side : Side) (end : EndAtLevel) (history : List Occurrence) : Type 0 where
    pub station : Station
    pub stream : List ℕ
    pub is : end ≡ OfStation selective station stream
    pub stream_is : stream ≡ passed_of (other side) history
    pub quiet : station.deed ≡ no_deed
    pub kept : Kept (is_side side E) Extended settings.window settings.n2 settings.t1 NoPayload (CameInPass settings side history) station

  abbrev ArrivedAt : (selective : Bool) → List Occurrence → Occurrence → Type 0
  ArrivedAt selective before o = (payload : List ℕ) → o.outcome ≡ Arrived payload → PayloadWasBrought settings selective before o.side payload

  -- more came behind
  came_more : (side : Side) (history more : List Occurrence) (payload : List ℕ) → CameInPass settings side history payload → CameInPass settings side (history ++ more) payload
  came_more side history more payload c = record {
    earlier = c.earlier;
    octets = c.octets;
    later = c.later ++ more;
    is = ap (λ (xs : List Occurrence). xs ++ more) c.is ∙ append_assoc c.earlier (at_end (other side) (Passed c.octets) ∷ c.later) more;
    closes = c.closes;
  }

  held_more : (side : Side) (history more : List Occurrence) (held : List (ℕ × List ℕ)) → HeldIs (CameInPass settings side history) held
      → HeldIs (CameInPass settings side (history ++ more)) held
  held_more side history more [] all = tt
  held_more side history more (h ∷ held) all = (came_more side history more h.1 all.0, held_more side history more held all.1)

  -- something came that passes nothing to it
  of_aside : (selective : Bool) (side : Side) (end : EndAtLevel) (history came : List Occurrence) → passed_of (other side) came ≡ []
      → StationOf selective side end history → StationOf selective side end (history ++ came)
  of_aside selective side end history came none h =
      let k = h.kept in
      record {
        station = h.station;
        stream = h.stream;
        is = h.is;
        stream_is = h.stream_is ∙ sym (still_passed (other side) history came none);
        quiet = h.quiet;
        kept = (k.0, k.1, k.2, k.3, k.4, held_more side history came h.station.held k.5, k.6);
      }

  -- ---- an event that brings no frame

  abbrev KeptNone : Side → List Occurrence → Station → Type 0
  KeptNone side history s = Kept (is_side side E) Extended settings.window settings.n2 settings.t1 NoPayload (CameInPass settings side history) s

  along_none : (selective : Bool) (side : Side) (seen : List Occurrence) (os : List DrillOutcome) → AllFine NoPayload os → Along (ArrivedAt selective) seen (map (at_end side) os)
  along_none selective side seen [] all = tt
  along_none selective side seen (o ∷ os) all =
      (λ payload is. absurd (arrived_is NoPayload o payload all.0 is), along_none selective side (seen ++ at_end side o ∷ []) os all.1)

  -- what an event at a side made of its end, and what it told
  record Does (selective : Bool) (side : Side) (history : List Occurrence) (a : EndAtLevel × List DrillOutcome) : Type 0 where
    pub behind : StationOf selective side a.0 (history ++ map (at_end side) a.1)
    pub along : Along (ArrivedAt selective) history (map (at_end side) a.1)
    pub passed_none : (at : Side) → passed_of at (map (at_end side) a.1) ≡ []

  -- a station that stands so, and outcomes without a payload
  does_quietly : (selective : Bool) (side : Side) (history : List Occurrence) (s : Station) (stream : List ℕ) (os : List DrillOutcome) → stream ≡ passed_of (other side) history
      → s.deed ≡ no_deed → KeptNone side history s → AllFine NoPayload os → Does selective side history (OfStation selective s stream, os)
  does_quietly selective side history s stream os stream_is quiet kept fine =
      let none : (at : Side) → passed_of at (map (at_end side) os) ≡ [] = λ at. none_in NoPayload at side os fine in
      record {
        behind = of_aside selective side (OfStation selective s stream) history (map (at_end side) os) (none (other side))
            (record { station = s; stream = stream; is = refl; stream_is = stream_is; quiet = quiet; kept = kept });
        along = along_none selective side history os fine;
        passed_none = none;
      }

  -- a call led to t, behind outcomes without a payload
  does_call : (selective : Bool) (side : Side) (history : List Occurrence) (t : Station) (stream : List ℕ) (first : List DrillOutcome) → stream ≡ passed_of (other side) history
      → KeptNone side history t → AllFine NoPayload first → Does selective side history (OfStation selective (settled t) stream, first ++ outcomes_told_by_station t)
  does_call selective side history t stream first stream_is kept fine =
      does_quietly selective side history (settled t) stream (first ++ outcomes_told_by_station t) stream_is refl (kept.0, kept.1, kept.2, kept.3, kept.4, kept.5, tt)
      (all_of_append (Fine NoPayload) first (outcomes_told_by_station t) fine (fine_call NoPayload t kept.6))

  finish_none : (side : Side) (history : List Occurrence) (s : Station) → KeptNone side history s → KeptNone side history (finishes s)
  finish_none side history s kept =
      finishes_kept (is_side side E) Extended settings.window settings.n2 settings.t1 NoPayload (CameInPass settings side history) s kept

  fine_late : (b : Bool) → AllFine NoPayload (if_expired b)
  fine_late true = (tt, tt)
  fine_late false = tt

  abbrev IsNoFrame : EndEvent → Type 0
  IsNoFrame Start = Unit {0}
  IsNoFrame (Receive octets) = ⊥
  IsNoFrame (Send octets) = Unit {0}
  IsNoFrame Take = Unit {0}
  IsNoFrame (Leave sub) = Unit {0}
  IsNoFrame Tick = Unit {0}

  module _ (key_of : ℕ → ℕ → Option TripleKey) (moment : ℕ) (selective : Bool) (side : Side) (history : List Occurrence) (s : Station) (stream : List ℕ)
      (stream_is : stream ≡ passed_of (other side) history) (quiet : s.deed ≡ no_deed) (kept : KeptNone side history s) where
    send_does : (payload : List ℕ) (q : Option SendRefusal)
        → Does selective side history (OfStation selective (handed_unless q moment payload s).0 stream, (handed_unless q moment payload s).1)
    send_does payload (Some refusal) = does_quietly selective side history s stream (Refused refusal ∷ []) stream_is quiet kept (tt, tt)
    send_does payload None =
        does_call selective side history (finishes (hands moment payload s)) stream (Handed payload ∷ []) stream_is
        (finish_none side history (hands moment payload s)
        (hands_kept (is_side side E) Extended settings.window settings.n2 settings.t1 NoPayload (CameInPass settings side history) moment payload s kept)) (tt, tt)

    leave_does : (sub : ℕ) (b : Bool)
        → Does selective side history (OfStation selective (if b then (s, []) else station_and_told (quits sub s)).0 stream, (if b then (s, []) else station_and_told (quits sub s)).1)
    leave_does sub true = does_quietly selective side history s stream [] stream_is quiet kept tt
    leave_does sub false =
        let k = closes_kept (is_side side E) Extended settings.window settings.n2 settings.t1 NoPayload (CameInPass settings side history) s kept in
        does_call selective side history (quits sub s) stream [] stream_is (k.0, k.1, k.2, k.3, k.4, k.5, tt) tt

    event_does : (e : EndEvent) → IsNoFrame e → Does selective side history (end_step key_of moment (OfStation selective s stream) e)
    event_does Start none =
        does_call selective side history (finishes (starts moment s)) stream [] stream_is
        (finish_none side history (starts moment s)
        (starts_kept (is_side side E) Extended settings.window settings.n2 settings.t1 NoPayload (CameInPass settings side history) moment s kept)) tt
    event_does (Receive octets) none = absurd none
    event_does (Send payload) none = send_does payload (payload_refusal_of_station s payload s.released)
    event_does Take none = does_quietly selective side history s stream [] stream_is quiet kept tt
    event_does (Leave sub) none = leave_does sub (is_down s.phase)
    event_does Tick none =
        does_call selective side history (finishes (ticks moment s)) stream (if_expired (is_late moment s)) stream_is
        (finish_none side history (ticks moment s)
        (ticks_kept (is_side side E) Extended settings.window settings.n2 settings.t1 NoPayload (CameInPass settings side history) moment s kept)) (fine_late (is_late moment s))

  -- ---- frames that come

  module _ (moment : ℕ) (side : Side) (history : List Occurrence) (octets : List ℕ) where
    abbrev Passing : List Occurrence
    Passing = history ++ at_end (other side) (Passed octets) ∷ []

    abbrev Told : (selective : Bool) → List ℕ → Type 0
    Told selective payload = PayloadIsOfPass selective settings side history octets payload

    abbrev KeptTold : (selective : Bool) → Station → Type 0
    KeptTold selective s =
        Kept (is_side side E) Extended settings.window settings.n2 settings.t1 (Told selective) (CameInPass settings side Passing) s

    -- the frames that are closed
    abbrev Closed : List Verdict
    Closed = news (passed_of (other side) history) octets

    closes_one : (first : List Verdict) (v : Verdict) (later : List Verdict) (payload : List ℕ) → Closed ≡ first ++ v ∷ later
        → IsInformationOf (is_side side E) Extended v payload → ClosesPayload settings side history octets payload
    closes_one first v later payload split info = record { first = first; verdict = v; later = later; frames = split; info = info }

    in_this : (first : List Verdict) (v : Verdict) (later : List Verdict) (payload : List ℕ) → Closed ≡ first ++ v ∷ later
        → IsInformationOf (is_side side E) Extended v payload → CameInPass settings side Passing payload
    in_this first v later payload split info =
        record { earlier = history; octets = octets; later = []; is = refl; closes = closes_one first v later payload split info }

    one_kept : (selective : Bool) (first : List Verdict) (v : Verdict) (later : List Verdict) (s : Station) → Closed ≡ first ++ v ∷ later → KeptTold selective s
        → KeptTold selective (receives_as selective moment v s)
    one_kept true first v later s split kept =
        selective_receives_kept (is_side side E) Extended settings.window settings.n2 settings.t1 (Told true) (CameInPass settings side Passing) (λ payload held. held) moment v s
        (λ payload info. in_this first v later payload split info) kept
    one_kept false first v later s split kept =
        receives_kept (is_side side E) Extended settings.window settings.n2 settings.t1 (Told false) (CameInPass settings side Passing) moment v s
        (λ payload info. closes_one first v later payload split info) kept

    -- what frames make of a station, and what they tell
    record Hears (selective : Bool) (a : Station × List DrillOutcome) : Type 0 where
      pub quiet : a.0.deed ≡ no_deed
      pub kept : KeptTold selective a.0
      pub fine : AllFine (Told selective) a.1
      pub told : AllTold a.1

    hears_all : (selective : Bool) (first vs : List Verdict) (s : Station) → Closed ≡ first ++ vs → s.deed ≡ no_deed → KeptTold selective s
        → Hears selective (frames_heard selective moment vs s)
    hears_all selective first [] s split quiet kept = record { quiet = quiet; kept = kept; fine = tt; told = tt }
    hears_all selective first (v ∷ vs) s split quiet kept =
        let u : Station = receives_as selective moment v s in
        let t : Station = finishes u in
        let k : KeptTold selective t =
        finishes_kept (is_side side E) Extended settings.window settings.n2 settings.t1 (Told selective) (CameInPass settings side Passing) u (one_kept selective first v vs s split kept) in
        let more : Hears selective (frames_heard selective moment vs (settled t)) =
        hears_all selective (first ++ v ∷ []) vs (settled t) (split ∙ sym (append_assoc first (v ∷ []) vs)) refl (k.0, k.1, k.2, k.3, k.4, k.5, tt) in
        record {
          quiet = more.quiet;
          kept = more.kept;
          fine = all_of_append (Fine (Told selective)) (outcomes_told_by_station t) (frames_heard selective moment vs (settled t)).1 (fine_call (Told selective) t k.6) more.fine;
          told = all_of_append IsToldOfFrames (outcomes_told_by_station t) (frames_heard selective moment vs (settled t)).1 (told_call t) more.told;
        }

    -- each payload that they tell is of this pass
    along_frames : (selective : Bool) (later : List Occurrence) (os : List DrillOutcome) → AllByRecursion (λ o. (o.side ≡ side) × IsToldOfFrames o.outcome) later
        → AllFine (Told selective) os → AllTold os → Along (ArrivedAt selective) (history ++ at_end (other side) (Passed octets) ∷ later) (map (at_end side) os)
    along_frames selective later [] before fine told = tt
    along_frames selective later (o ∷ os) before fine told = (
      λ payload is. record {
        earlier = history;
        octets = octets;
        later = later;
        is = refl;
        told = before;
        brought = arrived_is (Told selective) o payload fine.0 is;
      },
      subst (λ (xs : List Occurrence). Along (ArrivedAt selective) xs (map (at_end side) os))
          (sym (append_assoc history (at_end (other side) (Passed octets) ∷ later) (at_end side o ∷ [])))
          (along_frames selective (later ++ at_end side o ∷ []) os
          (all_of_append (λ (x : Occurrence). (x.side ≡ side) × IsToldOfFrames x.outcome) later (at_end side o ∷ []) before ((refl, told.0), tt)) fine.1 told.1),
    )

  receive_does : (key_of : ℕ → ℕ → Option TripleKey) (moment : ℕ) (selective : Bool) (side : Side) (end : EndAtLevel) (history : List Occurrence) (octets : List ℕ)
      → StationOf selective side end history
      → Does selective side (history ++ at_end (other side) (Passed octets) ∷ []) (end_step key_of moment end (Receive octets))
  receive_does key_of moment selective side end history octets h =
      subst (λ (x : EndAtLevel). Does selective side (Passing moment side history octets) (end_step key_of moment x (Receive octets))) (sym h.is) now
    where
      now : Does selective side (history ++ at_end (other side) (Passed octets) ∷ []) (end_step key_of moment (OfStation selective h.station h.stream) (Receive octets))
      now =
          let behind : List Occurrence = history ++ at_end (other side) (Passed octets) ∷ [] in
          let k = h.kept in
          let closed : news (passed_of (other side) history) octets ≡ news h.stream octets = ap (λ (xs : List ℕ). news xs octets) (sym h.stream_is) in
          let got : Hears moment side history octets selective (frames_heard selective moment (news h.stream octets) h.station) =
          hears_all moment side history octets selective [] (news h.stream octets) h.station closed h.quiet (
            k.0,
            k.1,
            k.2,
            k.3,
            k.4,
            held_more side history (at_end (other side) (Passed octets) ∷ []) h.station.held k.5,
            no_told h.station h.quiet,
          ) in
          let a : Station × List DrillOutcome = frames_heard selective moment (news h.stream octets) h.station in
          let g = got.kept in
          let none : (at : Side) → passed_of at (map (at_end side) a.1) ≡ [] = λ at. none_in (PayloadIsOfPass selective settings side history octets) at side a.1 got.fine in
          let grown : h.stream ++ octets ≡ passed_of (other side) behind =
          ap (λ (xs : List ℕ). xs ++ octets) h.stream_is ∙ sym (passed_more (other side) history (at_end (other side) (Passed octets) ∷ []) ∙ ap (λ (xs : List ℕ). passed_of (other side) history ++ xs) (own (other side))) in
          record {
            behind = of_aside selective side (OfStation selective a.0 (h.stream ++ octets)) behind (map (at_end side) a.1) (none (other side))
                (record {
                  station = a.0;
                  stream = h.stream ++ octets;
                  is = refl;
                  stream_is = grown;
                  quiet = got.quiet;
                  kept = (g.0, g.1, g.2, g.3, g.4, g.5, no_payload a.0 got.quiet);
                });
            along = along_frames moment side history octets selective [] a.1 tt got.fine got.told;
            passed_none = none;
          }
        where
          own : (at : Side) → passed_of at (at_end at (Passed octets) ∷ []) ≡ octets
          own E = append-nil (octets ++ []) ∙ append-nil octets
          own R = append-nil (octets ++ []) ∙ append-nil octets

          no_told : (s : Station) → s.deed ≡ no_deed → AllByRecursion (PayloadIsOfPass selective settings side history octets) (all_taken s.deed)
          no_told s none = subst (λ (xs : List (List ℕ)). AllByRecursion (PayloadIsOfPass selective settings side history octets) xs) (sym (ap all_taken none)) tt

          no_payload : (s : Station) → s.deed ≡ no_deed → AllByRecursion NoPayload (all_taken s.deed)
          no_payload s none = subst (λ (xs : List (List ℕ)). AllByRecursion NoPayload xs) (sym (ap all_taken none)) tt

  any_does : (key_of : ℕ → ℕ → Option TripleKey) (moment : ℕ) (selective : Bool) (side : Side) (end : EndAtLevel) (history : List Occurrence) (e : EndEvent) → IsNoFrame e
      → StationOf selective side end history → Does selective side history (end_step key_of moment end e)
  any_does key_of moment selective side end history e none h =
      subst (λ (x : EndAtLevel). Does selective side history (end_step key_of moment x e)) (sym h.is)
      (event_does key_of moment selective side history h.station h.stream h.stream_is h.quiet h.kept e none)

  -- ---- a link of two stations

  record Bring (selective : Bool) (l : Link) (history : List Occurrence) : Type 0 where
    pub e : StationOf selective E l.e history
    pub r : StationOf selective R l.r history
    pub along : Along (ArrivedAt selective) [] history

  given : (l : Link) (selective : Bool) (side : Side) (e : EndEvent) (history : List Occurrence) → IsNoFrame e → Bring selective l history
      → Bring selective (give l side e).0 (history ++ (give l side e).1)
  given l selective E e history none h =
      let d = any_does (key_on l.opening) l.moment selective E l.e history e none h.e in
      let os : List DrillOutcome = (end_step (key_on l.opening) l.moment l.e e).1 in
      record {
        e = d.behind;
        r = of_aside selective R l.r history (map (at_end E) os) (d.passed_none E) h.r;
        along = along_append (ArrivedAt selective) [] history (map (at_end E) os) h.along d.along;
      }
  given l selective R e history none h =
      let d = any_does (key_on l.opening) l.moment selective R l.r history e none h.r in
      let os : List DrillOutcome = (end_step (key_on l.opening) l.moment l.r e).1 in
      record {
        e = of_aside selective E l.e history (map (at_end R) os) (d.passed_none R) h.e;
        r = d.behind;
        along = along_append (ArrivedAt selective) [] history (map (at_end R) os) h.along d.along;
      }

  -- what the line does beside passes, and a user's release
  aside : (l : Link) (selective : Bool) (history : List Occurrence) (at : Side) (os : List DrillOutcome) → AllFine NoPayload os → Bring selective l history
      → Bring selective l (history ++ map (at_end at) os)
  aside l selective history at os fine h = record {
    e = of_aside selective E l.e history (map (at_end at) os) (none_in NoPayload R at os fine) h.e;
    r = of_aside selective R l.r history (map (at_end at) os) (none_in NoPayload E at os fine) h.r;
    along = along_append (ArrivedAt selective) [] history (map (at_end at) os) h.along (along_none selective at history os fine);
  }

  waiting_bring : (l : Link) (selective : Bool) (side : Side) (frames : List (List ℕ)) (history : List Occurrence) → Bring selective l history → Bring selective (with_waiting l side frames) history
  waiting_bring l selective E frames history h = record { e = h.e; r = h.r; along = h.along }
  waiting_bring l selective R frames history h = record { e = h.e; r = h.r; along = h.along }

  received : (l : Link) (selective : Bool) (side : Side) (octets : List ℕ) (history : List Occurrence) → Bring selective l history
      → Bring selective (give l (other side) (Receive octets)).0 (history ++ at_end side (Passed octets) ∷ (give l (other side) (Receive octets)).1)
  received l selective E octets history h =
      let d = receive_does (key_on l.opening) l.moment selective R l.r history octets h.r in
      let os : List DrillOutcome = (end_step (key_on l.opening) l.moment l.r (Receive octets)).1 in
      let one : List Occurrence = history ++ at_end E (Passed octets) ∷ [] in
      subst (λ (xs : List Occurrence). Bring selective (give l R (Receive octets)).0 xs) (append_assoc history (at_end E (Passed octets) ∷ []) (map (at_end R) os))
      (record {
        e = of_aside selective E l.e one (map (at_end R) os) (d.passed_none R) (of_aside selective E l.e history (at_end E (Passed octets) ∷ []) refl h.e);
        r = d.behind;
        along = along_append (ArrivedAt selective) [] one (map (at_end R) os)
            (along_append (ArrivedAt selective) [] history (at_end E (Passed octets) ∷ []) h.along ((λ payload is. absurd cc), tt)) d.along;
      })
  received l selective R octets history h =
      let d = receive_does (key_on l.opening) l.moment selective E l.e history octets h.e in
      let os : List DrillOutcome = (end_step (key_on l.opening) l.moment l.e (Receive octets)).1 in
      let one : List Occurrence = history ++ at_end R (Passed octets) ∷ [] in
      subst (λ (xs : List Occurrence). Bring selective (give l E (Receive octets)).0 xs) (append_assoc history (at_end R (Passed octets) ∷ []) (map (at_end E) os))
      (record {
        e = d.behind;
        r = of_aside selective R l.r one (map (at_end E) os) (d.passed_none E) (of_aside selective R l.r history (at_end R (Passed octets) ∷ []) refl h.r);
        along = along_append (ArrivedAt selective) [] one (map (at_end E) os)
            (along_append (ArrivedAt selective) [] history (at_end R (Passed octets) ∷ []) h.along ((λ payload is. absurd cc), tt)) d.along;
      })

  fine_if : (b : Bool) (x y : List (List ℕ) × List DrillOutcome) → AllFine NoPayload x.1 → AllFine NoPayload y.1 → AllFine NoPayload (if b then x else y).1
  fine_if true x y hx hy = hx
  fine_if false x y hx hy = hy

  fine_changes : (change : LineChange) (frames : List (List ℕ)) → AllFine NoPayload (change_first change frames).1
  fine_changes Lose [] = (tt, tt)
  fine_changes Lose (frame ∷ frames) = (tt, tt)
  fine_changes Repeat [] = (tt, tt)
  fine_changes Repeat (frame ∷ frames) = (tt, tt)
  fine_changes (Alter place mask) [] = (tt, tt)
  fine_changes (Alter place mask) (frame ∷ frames) =
      fine_if (not (nat_lt place (length frame))) (frame ∷ frames, IsShort (length frame) ∷ [])
      (if mask == 0 then (frame ∷ frames, []) else (altered frame place mask ∷ frames, Altered ∷ [])) (tt, tt)
      (fine_if (mask == 0) (frame ∷ frames, []) (altered frame place mask ∷ frames, Altered ∷ []) tt (tt, tt))
  fine_changes (Put octets) frames = (tt, tt)

  passes : (l : Link) (selective : Bool) (side : Side) (frames : List (List ℕ)) (history : List Occurrence) → Bring selective l history
      → Bring selective (pass l side frames).0 (history ++ (pass l side frames).1)
  passes l selective side [] history h = aside l selective history side (NothingWaits ∷ []) (tt, tt) h
  passes l selective side (frame ∷ frames) history h =
      received (with_waiting l side frames) selective side frame history (waiting_bring l selective side frames history h)

  stepped : (l : Link) (selective : Bool) (history : List Occurrence) (s : LinkStep) → Bring selective l history → Bring selective (link_step l s).0 (history ++ (link_step l s).1)
  stepped l selective history (links.Send side octets) h = given l selective side (Send octets) history tt h
  stepped l selective history (links.Pass side) h = passes l selective side (waiting_of l side) history h
  stepped l selective history (links.Change side change) h =
      let a : List (List ℕ) × List DrillOutcome = change_first change (waiting_of l side) in
      aside (with_waiting l side a.0) selective history side a.1 (fine_changes change (waiting_of l side)) (waiting_bring l selective side a.0 history h)
  stepped l selective history (links.Take side) h = given l selective side Take history tt h
  stepped l selective history (links.Release side sub) h =
      let more : List Occurrence = (give l side (Leave sub)).1 in
      subst (λ (xs : List Occurrence). Bring selective (give l side (Leave sub)).0 xs) (append_assoc history (at_end side (UserReleased sub) ∷ []) more)
      (given l selective side (Leave sub) (history ++ at_end side (UserReleased sub) ∷ []) tt (aside l selective history side (UserReleased sub ∷ []) (tt, tt) h))
  stepped l selective history (links.Tick moment) h =
      let m : Link = record l { moment = max l.moment moment } in
      let a : Link × List Occurrence = give m E Tick in
      let b : Link × List Occurrence = give a.0 R Tick in
      subst (λ (xs : List Occurrence). Bring selective b.0 xs) (append_assoc history a.1 b.1)
      (given a.0 selective R Tick (history ++ a.1) tt (given m selective E Tick history tt (record { e = h.e; r = h.r; along = h.along })))

  -- ---- a link that was opened as one of two stations

  abbrev Brings : Link → List Occurrence → Type 0
  Brings l history = (selective : Bool) → l.opening ≡ OfStations selective → Bring selective l history

  -- a station that was just made
  new_station : (selective : Bool) (side : Side) (calling : Bool) → calling ≡ is_side side E
      → StationOf selective side (OfStation selective (made calling Extended settings.window settings.n2 settings.t1) []) []
  new_station selective side calling is = record {
    station = made calling Extended settings.window settings.n2 settings.t1;
    stream = [];
    is = refl;
    stream_is = refl;
    quiet = refl;
    kept = (is, refl, refl, refl, refl, tt, tt);
  }

  opened : (moment : ℕ) (opening : LinkOpening) → Brings (opened_link settings moment opening).0 (opened_link settings moment opening).1
  opened moment (OfPair (OfFixed engine rbc ke kr)) selective is = absurd cc
  opened moment (OfPair (OfKeys engine rbc ke kr ra rb)) selective is = absurd cc
  opened moment (OfStations kind) selective is =
      let same : kind ≡ selective = cc in
      let l : Link =
      link_of (OfStations kind) moment (OfStation kind (made true Extended settings.window settings.n2 settings.t1) [])
      (OfStation kind (made false Extended settings.window settings.n2 settings.t1) []) in
      subst (λ (b : Bool). Bring b (give l E Start).0 (give l E Start).1) same
      (given l kind E Start [] tt (record { e = new_station kind E true refl; r = new_station kind R false refl; along = tt }))
  opened moment (OfStacks engine rbc ke kr ra rb) selective is = absurd cc

module _ (facts : FactsGrow) (grow : HistoryGrows) (own : HistoryOfOwn) (away : HistoryOfOther) where
  stand : (plan : DrillPlan) (steps : List Step) (n : ℕ)
      → AtPlace (Brings plan.settings) (link_at (world_run plan steps).0 n) (history_on n (world_run plan steps).1)
  stand plan steps n =
      world_lives grow own away plan (λ x. Unit {0}) (λ x. Unit {0}) (Brings plan.settings)
      (record {
        opens = λ moment opening fit. opened plan.settings moment opening;
        steps = λ l history s fit h selective is. stepped plan.settings l selective history s (h selective (sym (step_opening facts l s) ∙ is));
        others = λ s none. tt;
      }) steps (any_steps plan steps) n

  pub payloads_are_brought : (plan : DrillPlan) (steps : List Step) → PayloadsAreBrought plan steps
  payloads_are_brought plan steps n l selective at is before after side payload split =
      let h : Bring plan.settings selective l (history_on n (world_run plan steps).1) =
      subst (λ (p : Option Link). AtPlace (Brings plan.settings) p (history_on n (world_run plan steps).1)) at (stand plan steps n) selective is in
      along_at (ArrivedAt plan.settings selective) [] before after (at_end side (Arrived payload))
      (subst (λ (xs : List Occurrence). Along (ArrivedAt plan.settings selective) [] xs) split h.along) payload refl
