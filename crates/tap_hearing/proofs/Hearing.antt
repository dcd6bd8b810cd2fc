-- What an end's safety side was given is what is heard of the stream that came.
use Rattle.std.proofs.Common.{◌≡◌, ◌∙◌, ℕ, Bool, true, false, List, [], ◌∷◌, ◌++◌, length, drop, None, refl, sym, ap, ap₂, subst, arith, append_assoc, append-nil}
use Rattle.hdlc_station_model.specs.Lines.{IsPrefix}
use Rattle.std.specs.Prelude.{◌==◌}
use Rattle.std.proofs.Math.Seq.{take-append_seam, drop-append_seam}
use Rattle.std.proofs.lemmas.Grind.{flat_map-append}
use Rattle.er_base.specs.declared.cause.Cause.TheVariants.{LineEnded, LineFailed, LineStalled}
use Rattle.er_base.specs.declared.side.Side.{Side}
use Rattle.er_base.specs.declared.side.Side.TheVariants.{E, R}
use Rattle.er_settings.specs.Values.{Settings}
use Rattle.des_block.specs.declared.triple_key.TripleKey.{TripleKey}
use Rattle.hdlc_frames.specs.Framing.{Verdict, cut, all_but_last, between_flags, frames_of}
use Rattle.hdlc_frames.specs.Laws.{KeptStandsForStream}
use Rattle.hdlc_frames.specs.Deframing as deframing
use Rattle.hdlc_station_model.specs.Stations.{no_deed}
use Rattle.hdlc_station_model.specs.Calls as station
use Rattle.hdlc_station_model.specs.Events.{news}
use Rattle.x224_class2.specs.Segments.{text_so_far}
use Rattle.er_end_model.specs.Steps.{Finds, new_event_at, step_frame, refusal_of}
use Rattle.er_end_model.specs.Layers.{Core, model}
use Rattle.er_end_model.specs.Ends.{Call, Answer, Event, Start, Come, Send, Take, Leave, Tick, Ended, Fault, Stalled, End, Moment, opened, hears_each, step_event, end_run}
use Rattle.er_end_model.specs.Origins.{octets_brought_by_event}
use Rattle.tap_model.specs.Hearing.{ReadFrame, read_frame, frames_read, payloads, Hearing, silence, heard}
use Rattle.tap_model.specs.Given.{received_by, received_of_each, received_at, received, octets_of_moments, IsCallerStartedFirst, HasHeardStreamTexts, GivenIsHeard}
use Rattle.tap_model.specs.Ears.{Ear, new_ear, hearing_of_frames, HearingTurns}
use Rattle.tap_hearing.proofs.Noting.{Noted, noted, concludes_noted}
use Rattle.tap_hearing.proofs.Sorting.{pieces}
use Rattle.tap_hearing.proofs.Stations.{sender}
use Rattle.tap_hearing.proofs.Following.{ear_at, Fresh, Listens}
use Rattle.tap_hearing.proofs.Going.{with_texts, Goes, Lives, Left, frame_goes}
use Rattle.tap_hearing.proofs.Events.{steady, start_goes, send_goes, take_goes, leave_goes, tick_goes, break_goes}
use Rattle.tap_hearing.proofs.Runs.{then_goes}
use Rattle.tap_hearing.proofs.Resting.{each_rests, run_rests}

-- ---- the frames that events close

-- in one event
abbrev closed : Event → End → List Verdict
closed Start m = []
closed (Come finds octets) m = news m.stream octets
closed (Send user) m = []
closed Take m = []
closed (Leave sub) m = []
closed Tick m = []
closed Ended m = []
closed Fault m = []
closed Stalled m = []

abbrev closed_in : List Moment → End → List Verdict
closed_in [] m = []
closed_in (e ∷ events) m = closed e.event m ++ closed_in events (step_event e.now e.event m).0

module _ (stands : KeptStandsForStream) where
  -- frames grow at the end alone
  grows : (stream octets : List ℕ) → frames_of (stream ++ octets) ≡ frames_of stream ++ news stream octets
  grows stream octets =
      let more : List Verdict = frames_of (deframing.stream_behind_kept (deframing.kept_of stream) ++ octets) in
      let e : frames_of (stream ++ octets) ≡ frames_of stream ++ more = (stands stream octets).1.0 in
      e ∙ ap (λ (fs : List Verdict). frames_of stream ++ fs) (sym (ap (λ (fs : List Verdict). drop (length (frames_of stream)) fs) e ∙ drop-append_seam (frames_of stream) more))

  nothing_more : (stream : List ℕ) → frames_of (stream ++ []) ≡ frames_of stream ++ []
  nothing_more stream = ap frames_of (append-nil stream) ∙ sym (append-nil (frames_of stream))

  event_closes : (event : Event) (m : End) → frames_of (m.stream ++ octets_brought_by_event event) ≡ frames_of m.stream ++ closed event m
  event_closes Start m = nothing_more m.stream
  event_closes (Come finds octets) m = grows m.stream octets
  event_closes (Send user) m = nothing_more m.stream
  event_closes Take m = nothing_more m.stream
  event_closes (Leave sub) m = nothing_more m.stream
  event_closes Tick m = nothing_more m.stream
  event_closes Ended m = nothing_more m.stream
  event_closes Fault m = nothing_more m.stream
  event_closes Stalled m = nothing_more m.stream

  stream_behind : (now : ℕ) (event : Event) (m : End) → (step_event now event m).0.stream ≡ m.stream ++ octets_brought_by_event event
  stream_behind now Start m = sym (append-nil m.stream)
  stream_behind now (Come finds octets) m = refl
  stream_behind now (Send user) m = sym (append-nil m.stream)
  stream_behind now Take m = sym (append-nil m.stream)
  stream_behind now (Leave sub) m = sym (append-nil m.stream)
  stream_behind now Tick m = sym (append-nil m.stream)
  stream_behind now Ended m = sym (append-nil m.stream)
  stream_behind now Fault m = sym (append-nil m.stream)
  stream_behind now Stalled m = sym (append-nil m.stream)

  run_closes : (events : List Moment) (m : End) → frames_of (m.stream ++ octets_of_moments events) ≡ frames_of m.stream ++ closed_in events m
  run_closes [] m = nothing_more m.stream
  run_closes (e ∷ events) m =
      let n : End = (step_event e.now e.event m).0 in
      let os : List ℕ = octets_brought_by_event e.event in
      let s : n.stream ≡ m.stream ++ os = stream_behind e.now e.event m in
      ap frames_of (sym (append_assoc m.stream os (octets_of_moments events)))
      ∙ ap (λ (z : List ℕ). frames_of (z ++ octets_of_moments events)) (sym s)
      ∙ run_closes events n
      ∙ ap (λ (z : List ℕ). frames_of z ++ closed_in events n) s
      ∙ ap (λ (fs : List Verdict). fs ++ closed_in events n) (event_closes e.event m)
      ∙ append_assoc (frames_of m.stream) (closed e.event m) (closed_in events n)

no_frames : frames_of [] ≡ []
unfolding frames_of between_flags all_but_last cut
no_frames = refl

reads_both : (vs us : List Verdict) → frames_read (vs ++ us) ≡ frames_read vs ++ frames_read us
unfolding frames_read
reads_both vs us = flat_map-append read_frame vs us

-- ---- events

module _ (turns : HearingTurns) (calling : Bool) where
  each_goes : (finds : Finds) (now : ℕ) (vs : List Verdict) (x : Core) (opened : Bool) → Listens opened calling (noted x)
      → Goes opened calling (noted x) (frames_read vs) (received_of_each finds now vs x) (noted (hears_each finds now vs x))
  unfolding frames_read
  each_goes finds now [] x opened l = steady opened calling (noted x) l x.line.deed (received_by x) (noted x) refl
  each_goes finds now (v ∷ vs) x opened l =
      let y : Core = step_frame model finds now v x in
      then_goes opened calling (noted x) (read_frame v) (received_by y) (noted y) (frames_read vs) (received_of_each finds now vs y) (noted (hears_each finds now vs y))
      (λ o k. each_goes finds now vs y o k) (λ why r. each_rests finds now vs y why r) (frame_goes turns calling finds now v x opened l)

  event_goes : (now : ℕ) (event : Event) (m : End) (opened : Bool) → Listens opened calling (noted m.core)
      → Goes opened calling (noted m.core) (frames_read (closed event m)) (received_at now event m) (noted (step_event now event m).0.core)
  unfolding frames_read
  event_goes now Start m opened l = start_goes opened calling m.core l now
  event_goes now (Come finds octets) m opened l =
      let b : Core = new_event_at model now m.core in
      let vs : List Verdict = news m.stream octets in
      then_goes opened calling (noted m.core) [] [] (noted b) (frames_read vs) (received_of_each finds now vs b) (noted (hears_each finds now vs b))
      (λ o k. each_goes finds now vs b o k) (λ why r. each_rests finds now vs b why r) (steady opened calling (noted m.core) l no_deed [] (noted b) refl)
  event_goes now (Send user) m opened l = send_goes opened calling m.core l now user (refusal_of model user m.core)
  event_goes now Take m opened l = take_goes opened calling m.core l now
  event_goes now (Leave sub) m opened l = leave_goes opened calling m.core l now sub
  event_goes now Tick m opened l = tick_goes opened calling m.core l now
  event_goes now Ended m opened l = break_goes opened calling m.core l now LineEnded
  event_goes now Fault m opened l = break_goes opened calling m.core l now LineFailed
  event_goes now Stalled m opened l = break_goes opened calling m.core l now LineStalled

  run_goes : (events : List Moment) (m : End) (opened : Bool) → Listens opened calling (noted m.core)
      → Goes opened calling (noted m.core) (frames_read (closed_in events m)) (received events m) (noted (end_run events m).core)
  run_goes [] m opened l = each_goes (λ now engine rbc. None) 0 [] m.core opened l
  run_goes (e ∷ events) m opened l =
      let n : End = (step_event e.now e.event m).0 in
      subst (λ (fs : List ReadFrame). Goes opened calling (noted m.core) fs (received (e ∷ events) m) (noted (end_run events n).core))
      (sym (reads_both (closed e.event m) (closed_in events n)))
      (then_goes opened calling (noted m.core) (frames_read (closed e.event m)) (received_at e.now e.event m) (noted n.core) (frames_read (closed_in events n)) (received events n)
      (noted (end_run events n).core) (λ o k. run_goes events n o k) (λ why r. run_rests events n why r) (event_goes e.now e.event m opened l))

  -- ---- the law

  begins_list : (xs ys : List (List ℕ)) → IsPrefix xs (xs ++ ys)
  begins_list xs ys = sym (take-append_seam xs ys)

  prefix_as : (xs ys zs : List (List ℕ)) → zs ≡ ys → IsPrefix xs ys → IsPrefix xs zs
  prefix_as xs ys zs e h = subst (λ (z : List (List ℕ)). IsPrefix xs z) (sym e) h

  pieces_are : (stream : List ℕ) → pieces (sender calling) new_ear (frames_read (frames_of stream)) ≡ payloads (sender calling) stream
  unfolding pieces payloads
  pieces_are stream = refl

  module _ (stream : List ℕ) (m : Noted) (f : Fresh m) (given : List (List ℕ)) (z : End) where
    abbrev side : Side
    side = sender calling

    abbrev frames : List ReadFrame
    frames = frames_read (frames_of stream)

    anew : ear_at false m ≡ new_ear
    anew =
        ap (λ (t : List (List ℕ)). record (ear_at false m) { count = length t }) f.taken
        ∙ ap (λ (h : List ℕ). record (ear_at false m) { count = 0; held = h }) f.joined
        ∙ ap (λ (c : List (Bool × List ℕ)). record new_ear { dts = length c; begun = text_so_far c }) f.contents

    heard_is : heard side stream ≡ hearing_of_frames side (ear_at false m) (frames ++ [])
    heard_is =
        sym (turns.begins side stream) ∙ ap₂ (λ (k : Ear) (fs : List ReadFrame). hearing_of_frames side k fs) (sym anew) (sym (append-nil frames))

    payloads_are : payloads side stream ≡ pieces side (ear_at false m) (frames ++ [])
    payloads_are = sym (pieces_are stream) ∙ ap₂ (λ (k : Ear) (fs : List ReadFrame). pieces side k fs) (sym anew) (sym (append-nil frames))

    heard_by : Goes false calling m frames given (noted z.core) → HasHeardStreamTexts side stream given z
    heard_by (Lives now took l hears_all counts taken few) =
        let next : Ear = ear_at now (noted z.core) in
        let e : heard side stream ≡ with_texts given silence = heard_is ∙ hears_all [] ∙ ap (λ (h : Hearing). with_texts given h) (turns.rests side next) in
        let texts : (heard side stream).texts ≡ given ++ [] = ap (λ (h : Hearing). h.texts) e in
        let t : z.core.line.taken ≡ took = taken ∙ ap (λ (ts : List (List ℕ)). ts ++ took) f.taken in
        record {
          given = prefix_as given (given ++ []) (heard side stream).texts texts (begins_list given []);
          all = λ live. (sym (texts ∙ append-nil given), ap (λ (h : Hearing). h.parting) e);
          taken =
              prefix_as z.core.line.taken (z.core.line.taken ++ pieces side next []) (payloads side stream)
              (payloads_are ∙ counts [] ∙ ap (λ (ts : List (List ℕ)). ts ++ pieces side next []) (sym t)) (begins_list z.core.line.taken (pieces side next []));
          carried = λ some. let e = ap (λ (ts : List (List ℕ)). length ts) t in omega (arith, some, few, e);
        }
    heard_by (Left why took r begins counts taken few) =
        let t : z.core.line.taken ≡ took = taken ∙ ap (λ (ts : List (List ℕ)). ts ++ took) f.taken in
        record {
          given =
              prefix_as given (given ++ (begins []).0) (heard side stream).texts (ap (λ (h : Hearing). h.texts) heard_is ∙ (begins []).1) (begins_list given (begins []).0);
          all = λ live. absurd (let e = sym r ∙ live in cc);
          taken =
              prefix_as z.core.line.taken (z.core.line.taken ++ (counts []).0) (payloads side stream)
              (payloads_are ∙ (counts []).1 ∙ ap (λ (ts : List (List ℕ)). ts ++ (counts []).0) (sym t)) (begins_list z.core.line.taken (counts []).0);
          carried = λ some. let e = ap (λ (ts : List (List ℕ)). length ts) t in omega (arith, some, few, e);
        }

-- ---- from the opening on

module _ (stands : KeptStandsForStream) (turns : HearingTurns) where
  -- all events behind an end whose stream is empty
  from_here : (calling : Bool) (events : List Moment) (m : End) → m.stream ≡ [] → Listens false calling (noted m.core) → Fresh (noted m.core)
      → HasHeardStreamTexts (sender calling) (octets_of_moments events) (received events m) (end_run events m)
  from_here calling events m s l f =
      let e : frames_of (octets_of_moments events) ≡ closed_in events m =
      ap (λ (z : List ℕ). frames_of (z ++ octets_of_moments events)) (sym s) ∙ run_closes stands events m
      ∙ ap (λ (z : List ℕ). frames_of z ++ closed_in events m) s ∙ ap (λ (fs : List Verdict). fs ++ closed_in events m) no_frames in
      heard_by turns calling (octets_of_moments events) (noted m.core) f (received events m) (end_run events m)
      (subst (λ (vs : List Verdict). Goes false calling (noted m.core) (frames_read vs) (received events m) (noted (end_run events m).core)) (sym e)
      (run_goes turns calling events m false l))

  basic : (settings : Settings) → settings.modulo ≡ 8 → (settings.modulo == 128) ≡ false
  basic settings e = ap (λ (n : ℕ). n == 128) e

  answers : (settings : Settings) (me ra now : ℕ) (events : List Moment) → settings.modulo ≡ 8
      → HasHeardStreamTexts E (octets_of_moments events) (received events (opened (Answer settings me ra now))) (end_run events (opened (Answer settings me ra now)))
  answers settings me ra now events e =
      from_here false events (opened (Answer settings me ra now)) refl
      (record { live = refl; role = refl; plain = basic settings e; stands = refl; going = refl; fresh = λ c. record { taken = refl; joined = refl; contents = refl } })
      (record { taken = refl; joined = refl; contents = refl })

  module _ (settings : Settings) (me peer : ℕ) (kmac : TripleKey) (rb now : ℕ) (e : settings.modulo ≡ 8) where
    abbrev caller : End
    caller = opened (Call settings me peer kmac rb now)

    -- nothing came
    still : HasHeardStreamTexts R [] [] caller
    unfolding frames_read
    still =
        let h : heard R [] ≡ silence =
        sym (turns.begins R []) ∙ ap (λ (fs : List Verdict). hearing_of_frames R new_ear (frames_read fs)) no_frames ∙ turns.rests R new_ear in
        record {
          given = refl;
          all = λ live. (sym (ap (λ (t : Hearing). t.texts) h), ap (λ (t : Hearing). t.parting) h);
          taken = refl;
          carried = λ some. absurd (omega (arith, some));
        }

    -- an end that was started
    module _ (at : ℕ) where
      abbrev started : End
      started = (step_event at Start caller).0

      -- its line, before anything goes down
      abbrev ready : Core
      ready = let b = new_event_at model at caller.core in record b { line = station.starts b.moment b.line }

      is_ready : noted started.core ≡ noted ready
      is_ready = concludes_noted ready

      abbrev Ready : Noted → Type 0
      Ready n = Listens false true n × Fresh n × (n.received ≡ [])

      stands_ready : Ready (noted started.core)
      stands_ready =
          subst Ready (sym is_ready) (
            record { live = refl; role = refl; plain = basic settings e; stands = refl; going = refl; fresh = λ c. record { taken = refl; joined = refl; contents = refl } },
            record { taken = refl; joined = refl; contents = refl },
            refl,
          )

      behind_start : (events : List Moment)
          → HasHeardStreamTexts R (octets_of_moments events) (received_at at Start caller ++ received events started) (end_run events started)
      behind_start events =
          subst (λ (g : List (List ℕ)). HasHeardStreamTexts R (octets_of_moments events) (g ++ received events started) (end_run events started)) (sym stands_ready.2)
          (from_here true events started refl stands_ready.0 stands_ready.1)

    calls : (events : List Moment) → IsCallerStartedFirst (Call settings me peer kmac rb now) events → HasHeardStreamTexts R (octets_of_moments events) (received events caller) (end_run events caller)
    calls [] begun = still
    calls (first ∷ events) begun =
        subst (λ (event : Event). HasHeardStreamTexts R (octets_brought_by_event event ++ octets_of_moments events) (received_at first.now event caller ++ received events (step_event first.now event caller).0)
        (end_run events (step_event first.now event caller).0)) (sym begun) (behind_start first.now events)

  pub given_is_heard : GivenIsHeard
  given_is_heard (Call settings me peer kmac rb now) events e begun = calls settings me peer kmac rb now e events begun
  given_is_heard (Answer settings me ra now) events e begun = answers settings me ra now events e
