-- However octets are cut, the frames that they close are heard one after the other.
use Rattle.std.proofs.Common.{◌≡◌, ◌∙◌, ℕ, List, [], ◌∷◌, ◌++◌, length, drop, max, refl, sym, ap, ap₂, arith, append_assoc, append-nil}
use Rattle.std.specs.List.{flat_map}
use Rattle.std.proofs.Math.Seq.{drop-append_seam}
use Rattle.hdlc_frames.specs.Framing.{Verdict, frames_of}
use Rattle.hdlc_frames.specs.Laws.{KeptStandsForStream}
use Rattle.hdlc_frames.specs.Deframing as deframing
use Rattle.hdlc_station_model.specs.Events.{news}
use Rattle.er_end_model.specs.Outcomes.{Outcome}
use Rattle.er_end_model.specs.Steps.{Finds, new_event_at, step_frame, on_frame, outcomes_of}
use Rattle.er_end_model.specs.Layers.{Core, model}
use Rattle.er_end_model.specs.Ends.{Come, End, hears_each, told_of_each, step_event, end_run, outcomes}
use Rattle.er_end_model.specs.Laws.{come_in, AnyCut}
use Rattle.er_end_model.proofs.Behind.{hears_parts, told_parts}

abbrev joined : List (List ℕ) → List ℕ
joined pieces = flat_map (λ piece. piece) pieces

max_twice : (a b : ℕ) → max (max a b) b ≡ max a b
max_twice a b = omega arith

begins_twice : (now : ℕ) (x : Core) → new_event_at model now (new_event_at model now x) ≡ new_event_at model now x
begins_twice now x = ap (λ (n : ℕ). record (new_event_at model now x) { moment = n }) (max_twice x.moment now)

comes_begun : (finds : Finds) (now : ℕ) (v : Verdict) (x : Core) → step_frame model finds now v (new_event_at model now x) ≡ step_frame model finds now v x
comes_begun finds now v x = ap (λ (y : Core). on_frame model finds v y) (begins_twice now x)

told_begun : (finds : Finds) (now : ℕ) (vs : List Verdict) (x : Core) → told_of_each finds now vs (new_event_at model now x) ≡ told_of_each finds now vs x
told_begun finds now [] x = refl
told_begun finds now (v ∷ vs) x = ap (λ (y : Core). outcomes_of model y ++ told_of_each finds now vs y) (comes_begun finds now v x)

-- behind the first verdict it makes no difference where the event began
told_behind : (finds : Finds) (now : ℕ) (vs us : List Verdict) (x : Core)
    → told_of_each finds now us (hears_each finds now vs (new_event_at model now x)) ≡ told_of_each finds now us (hears_each finds now vs x)
told_behind finds now [] us x = told_begun finds now us x
told_behind finds now (v ∷ vs) us x = ap (λ (y : Core). told_of_each finds now us (hears_each finds now vs y)) (comes_begun finds now v x)

module _ (stands : KeptStandsForStream) where
  -- frames grow at the end alone
  grows : (stream octets : List ℕ) → frames_of (stream ++ octets) ≡ frames_of stream ++ news stream octets
  grows stream octets =
      let more : List Verdict = frames_of (deframing.stream_behind_kept (deframing.kept_of stream) ++ octets) in
      let e : frames_of (stream ++ octets) ≡ frames_of stream ++ more = (stands stream octets).1.0 in
      e ∙ ap (λ (fs : List Verdict). frames_of stream ++ fs) (sym (ap (λ (fs : List Verdict). drop (length (frames_of stream)) fs) e ∙ drop-append_seam (frames_of stream) more))

  news_parts : (stream first rest : List ℕ) → news stream (first ++ rest) ≡ news stream first ++ news (stream ++ first) rest
  news_parts stream first rest =
      let all : frames_of (stream ++ (first ++ rest)) ≡ frames_of stream ++ (news stream first ++ news (stream ++ first) rest) =
      ap frames_of (sym (append_assoc stream first rest)) ∙ grows (stream ++ first) rest ∙ ap (λ (fs : List Verdict). fs ++ news (stream ++ first) rest) (grows stream first)
      ∙ append_assoc (frames_of stream) (news stream first) (news (stream ++ first) rest) in
      ap (λ (fs : List Verdict). drop (length (frames_of stream)) fs) all ∙ drop-append_seam (frames_of stream) (news stream first ++ news (stream ++ first) rest)

  news_none : (stream : List ℕ) → news stream [] ≡ []
  news_none stream =
      ap (λ (s : List ℕ). drop (length (frames_of stream)) (frames_of s)) (append-nil stream)
      ∙ ap (λ (fs : List Verdict). drop (length (frames_of stream)) fs) (sym (append-nil (frames_of stream))) ∙ drop-append_seam (frames_of stream) []

  all_told : (finds : Finds) (now : ℕ) (pieces : List (List ℕ)) (m : End)
      → outcomes (come_in finds now pieces) m ≡ told_of_each finds now (news m.stream (joined pieces)) m.core
  all_told finds now [] m = ap (λ (vs : List Verdict). told_of_each finds now vs m.core) (sym (news_none m.stream))
  all_told finds now (piece ∷ pieces) m =
      let x : Core = m.core in
      let vs : List Verdict = news m.stream piece in
      let us : List Verdict = news (m.stream ++ piece) (joined pieces) in
      let rest = all_told finds now pieces (step_event now (Come finds piece) m).0 in
      ap₂ (λ (a b : List Outcome). a ++ b) (told_begun finds now vs x) (rest ∙ told_behind finds now vs us x)
      ∙ sym (told_parts finds now vs us x)
      ∙ ap (λ (fs : List Verdict). told_of_each finds now fs x) (sym (news_parts m.stream piece (joined pieces)))

  -- behind frames it makes no difference where the event began
  begun_behind : (finds : Finds) (now : ℕ) (us : List Verdict) (x : Core)
      → new_event_at model now (hears_each finds now us (new_event_at model now x)) ≡ new_event_at model now (hears_each finds now us x)
  begun_behind finds now [] x = begins_twice now x
  begun_behind finds now (v ∷ us) x = ap (λ (y : Core). new_event_at model now (hears_each finds now us y)) (comes_begun finds now v x)

  all_lead : (finds : Finds) (now : ℕ) (pieces : List (List ℕ)) (m : End)
      → new_event_at model now (end_run (come_in finds now pieces) m).core ≡ new_event_at model now (hears_each finds now (news m.stream (joined pieces)) m.core)
  all_lead finds now [] m = ap (λ (vs : List Verdict). new_event_at model now (hears_each finds now vs m.core)) (sym (news_none m.stream))
  all_lead finds now (piece ∷ pieces) m =
      let x : Core = m.core in
      let vs : List Verdict = news m.stream piece in
      let us : List Verdict = news (m.stream ++ piece) (joined pieces) in
      let behind : Core = hears_each finds now vs (new_event_at model now x) in
      let e : new_event_at model now behind ≡ new_event_at model now (hears_each finds now vs x) = begun_behind finds now vs x in
      all_lead finds now pieces (step_event now (Come finds piece) m).0
      ∙ sym (begun_behind finds now us behind)
      ∙ ap (λ (y : Core). new_event_at model now (hears_each finds now us y)) e
      ∙ begun_behind finds now us (hears_each finds now vs x)
      ∙ ap (λ (y : Core). new_event_at model now y) (sym (hears_parts finds now vs us x))
      ∙ ap (λ (fs : List Verdict). new_event_at model now (hears_each finds now fs x)) (sym (news_parts m.stream piece (joined pieces)))

  all_stream : (finds : Finds) (now : ℕ) (pieces : List (List ℕ)) (m : End) → (end_run (come_in finds now pieces) m).stream ≡ m.stream ++ joined pieces
  all_stream finds now [] m = sym (append-nil m.stream)
  all_stream finds now (piece ∷ pieces) m =
      all_stream finds now pieces (step_event now (Come finds piece) m).0 ∙ append_assoc m.stream piece (joined pieces)

  pub any_cut : AnyCut
  any_cut finds now m pieces others e = (
    all_told finds now pieces m ∙ ap (λ (os : List ℕ). told_of_each finds now (news m.stream os) m.core) e ∙ sym (all_told finds now others m),
    all_stream finds now pieces m ∙ ap (λ (os : List ℕ). m.stream ++ os) e ∙ sym (all_stream finds now others m),
    all_lead finds now pieces m ∙ ap (λ (os : List ℕ). new_event_at model now (hears_each finds now (news m.stream os) m.core)) e ∙ sym (all_lead finds now others m),
  )
