-- Octets that come in one event, given piece by piece.
use Rattle.std.proofs.Common.{◌≡◌, ◌≤◌, ◌+◌, ◌∙◌, ℕ, List, [], ◌∷◌, ◌++◌, length, take, drop, max, refl, sym, ap, subst, arith, append_assoc, append-nil}
use Rattle.std.proofs.Math.Seq.{drop-append_seam, take-add}
use Rattle.er_base.specs.LineTexts.{line_text}
use Rattle.hdlc_frames.specs.Framing.{Verdict, frames_of}
use Rattle.hdlc_frames.specs.Laws.{KeptStandsForStream}
use Rattle.hdlc_frames.specs.Deframing as deframing
use Rattle.er_trace.specs.Texts.{outcome_words}
use Rattle.er_end_model.specs.Outcomes.{Outcome}
use Rattle.er_end_model.specs.Steps.{Finds, new_event_at, step_frame, on_frame, outcomes_of}
use Rattle.er_end_model.specs.Layers.{Core, model}
use Rattle.hdlc_station_model.specs.Events.{news}
use Rattle.er_end_model.specs.Ends.{Come, End, hears_each, told_of_each, step_event}
use Rattle.er_end.specs.KeptEnds.{KEnd, kept_end_behind_event, tells, used_of}
use Rattle.er_end.specs.Standing.{StepsAlike}
use Rattle.trace_model.specs.Printed.{trace_outcome_of, outcomes_text}
use Rattle.trace_replay.specs.Places.{AlikeFrom, StandsForAlikeEnd}
use Rattle.trace_replay.specs.Takings.{GivesOctetsToEnd}
use Rattle.trace_replay.proofs.Alike.{alike_later, follows_step}

pub text_parts : (conn : ℕ) (a b : List Outcome) → outcomes_text conn (a ++ b) ≡ outcomes_text conn a ++ outcomes_text conn b
unfolding outcomes_text
text_parts conn [] b = refl
text_parts conn (o ∷ a) b =
    ap (λ (t : List ℕ). line_text (outcome_words conn (trace_outcome_of o)) ++ t) (text_parts conn a b)
    ∙ sym (append_assoc (line_text (outcome_words conn (trace_outcome_of o))) (outcomes_text conn a) (outcomes_text conn b))

-- a moment that comes again, or a later one
max_later : (a b c : ℕ) → b ≤ c → max (max a b) c ≡ max a c
max_later a b c le = omega arith

pub begins_again : (now at : ℕ) (x : Core) → now ≤ at → new_event_at model at (new_event_at model now x) ≡ new_event_at model at x
begins_again now at x le = ap (λ (n : ℕ). record (new_event_at model at x) { moment = n }) (max_later x.moment now at le)

comes_begun : (finds : Finds) (now : ℕ) (v : Verdict) (x : Core) → step_frame model finds now v (new_event_at model now x) ≡ step_frame model finds now v x
comes_begun finds now v x = ap (λ (y : Core). on_frame model finds v y) (begins_again now now x (let p : now ≤ now = omega arith in p))

told_begun : (finds : Finds) (now : ℕ) (vs : List Verdict) (x : Core) → told_of_each finds now vs (new_event_at model now x) ≡ told_of_each finds now vs x
told_begun finds now [] x = refl
told_begun finds now (v ∷ vs) x = ap (λ (y : Core). outcomes_of model y ++ told_of_each finds now vs y) (comes_begun finds now v x)

heard_begun : (finds : Finds) (now at : ℕ) (vs : List Verdict) (x : Core) → now ≤ at
    → new_event_at model at (hears_each finds now vs (new_event_at model now x)) ≡ new_event_at model at (hears_each finds now vs x)
heard_begun finds now at [] x le = begins_again now at x le
heard_begun finds now at (v ∷ vs) x le = ap (λ (y : Core). new_event_at model at (hears_each finds now vs y)) (comes_begun finds now v x)

told_parts : (finds : Finds) (now : ℕ) (vs us : List Verdict) (x : Core)
    → told_of_each finds now (vs ++ us) x ≡ told_of_each finds now vs x ++ told_of_each finds now us (hears_each finds now vs x)
told_parts finds now [] us x = refl
told_parts finds now (v ∷ vs) us x =
    let y : Core = step_frame model finds now v x in
    ap (λ (os : List Outcome). outcomes_of model y ++ os) (told_parts finds now vs us y)
    ∙ sym (append_assoc (outcomes_of model y) (told_of_each finds now vs y) (told_of_each finds now us (hears_each finds now vs y)))

heard_parts : (finds : Finds) (now : ℕ) (vs us : List Verdict) (x : Core)
    → hears_each finds now (vs ++ us) x ≡ hears_each finds now us (hears_each finds now vs x)
heard_parts finds now [] us x = refl
heard_parts finds now (v ∷ vs) us x = heard_parts finds now vs us (step_frame model finds now v x)

module _ (stands : KeptStandsForStream) where
  grows : (stream octets : List ℕ) → frames_of (stream ++ octets) ≡ frames_of stream ++ news stream octets
  grows stream octets =
      let more : List Verdict = frames_of (deframing.stream_behind_kept (deframing.kept_of stream) ++ octets) in
      let e : frames_of (stream ++ octets) ≡ frames_of stream ++ more = (stands stream octets).1.0 in
      e ∙ ap (λ (fs : List Verdict). frames_of stream ++ fs) (sym (ap (λ (fs : List Verdict). drop (length (frames_of stream)) fs) e ∙ drop-append_seam (frames_of stream) more))

  news_parts : (stream first rest : List ℕ) → news stream (first ++ rest) ≡ news stream first ++ news (stream ++ first) rest
  news_parts stream first rest =
      let all : frames_of (stream ++ (first ++ rest)) ≡ frames_of stream ++ (news stream first ++ news (stream ++ first) rest) =
      ap frames_of (sym (append_assoc stream first rest)) ∙ grows (stream ++ first) rest ∙ ap (λ (fs : List Verdict). fs ++ news (stream ++ first) rest) (grows stream first)
      ∙ append_assoc (frames_of stream) (news stream first) (news (stream ++ first) rest) in
      ap (λ (fs : List Verdict). drop (length (frames_of stream)) fs) all ∙ drop-append_seam (frames_of stream) (news stream first ++ news (stream ++ first) rest)

  news_none : (stream : List ℕ) → news stream [] ≡ []
  news_none stream =
      ap (λ (s : List ℕ). drop (length (frames_of stream)) (frames_of s)) (append-nil stream)
      ∙ ap (λ (fs : List Verdict). drop (length (frames_of stream)) fs) (sym (append-nil (frames_of stream))) ∙ drop-append_seam (frames_of stream) []

  -- octets in two events at one moment are like those in one
  cut_step : (finds : Finds) (now : ℕ) (first rest : List ℕ) (m : End)
      → AlikeFrom now (step_event now (Come finds rest) (step_event now (Come finds first) m).0).0 (step_event now (Come finds (first ++ rest)) m).0
      × ((step_event now (Come finds (first ++ rest)) m).1 ≡ (step_event now (Come finds first) m).1 ++ (step_event now (Come finds rest) (step_event now (Come finds first) m).0).1)
  cut_step finds now first rest m =
      let x : Core = new_event_at model now m.core in
      let vs : List Verdict = news m.stream first in
      let us : List Verdict = news (m.stream ++ first) rest in
      let y : Core = hears_each finds now vs x in
      let parts = news_parts m.stream first rest in (
        record {
          stream = append_assoc m.stream first rest;
          begun = λ at le.
              heard_begun finds now at us y le
              ∙ ap (λ (z : Core). new_event_at model at z) (sym (heard_parts finds now vs us x) ∙ ap (λ (fs : List Verdict). hears_each finds now fs x) (sym parts));
        },
        ap (λ (fs : List Verdict). told_of_each finds now fs x) parts ∙ told_parts finds now vs us x
            ∙ ap (λ (os : List Outcome). told_of_each finds now vs x ++ os) (sym (told_begun finds now us y)),
      )

  -- nothing was given yet
  none_step : (finds : Finds) (now : ℕ) (m : End)
      → AlikeFrom now m (step_event now (Come finds []) m).0 × ((step_event now (Come finds []) m).1 ≡ [])
  none_step finds now m = (
    record {
      stream = sym (append-nil m.stream);
      begun = λ at le.
          sym (begins_again now at m.core le)
          ∙ ap (λ (fs : List Verdict). new_event_at model at (hears_each finds now fs (new_event_at model now m.core))) (sym (news_none m.stream));
    },
    ap (λ (fs : List Verdict). told_of_each finds now fs (new_event_at model now m.core)) (news_none m.stream),
  )

  alike_then : (now : ℕ) (a b c : End) → AlikeFrom now a b → AlikeFrom now b c → AlikeFrom now a c
  alike_then now a b c p q = record { stream = p.stream ∙ q.stream; begun = λ at le. p.begun at le ∙ q.begun at le }

  pub follows_alike : (last now : ℕ) (k : KEnd) (m n : End) → StandsForAlikeEnd last k m → last ≤ now → AlikeFrom now m n → StandsForAlikeEnd now k n
  follows_alike last now k m n f le a =
      record { exact = f.exact; stands = f.stands; alike = alike_then now f.exact m n (alike_later last now f.exact m le f.alike) a }

  -- at the beginning
  pub heard_none : (last now conn : ℕ) (finds : Finds) (m : End) (k : KEnd) (out : List ℕ) → StandsForAlikeEnd last k m → last ≤ now → GivesOctetsToEnd now conn finds [] m k out out
  unfolding outcomes_text
  heard_none last now conn finds m k out f le =
      let s = none_step finds now m in
      record { follows = follows_alike last now k m (step_event now (Come finds []) m).0 f le s.0; text = sym (append-nil out) ∙ ap (λ (os : List Outcome). out ++ outcomes_text conn os) (sym s.1) }

  -- one piece more
  pub heard_more : StepsAlike → (now conn : ℕ) (finds : Finds) (octets : List ℕ) (m : End) (k k' : KEnd) (out mid new : List ℕ) (done more : ℕ)
      → GivesOctetsToEnd now conn finds (take done octets) m k out mid
      → more ≡ used_of k (drop done octets) → done + more ≤ length octets
      → k' ≡ kept_end_behind_event now (Come finds (drop done octets)) k
      → new ≡ mid ++ outcomes_text conn (tells now (Come finds (drop done octets)) k)
      → GivesOctetsToEnd now conn finds (take (done + more) octets) m k' out new
  heard_more law now conn finds octets m k k' out mid new done more heard used within state text =
      let first = take done octets in
      let piece = take more (drop done octets) in
      let n = (step_event now (Come finds first) m).0 in
      let s = follows_step law now now (Come finds (drop done octets)) k n heard.follows (let p : now ≤ now = omega arith in p) in
      let same : take (used_of k (drop done octets)) (drop done octets) ≡ piece = ap (λ (i : ℕ). take i (drop done octets)) (sym used) in
      let cut = cut_step finds now first piece m in
      let whole : take (done + more) octets ≡ first ++ piece = take-add done more octets in
      let at_piece : StandsForAlikeEnd now (kept_end_behind_event now (Come finds (drop done octets)) k) (step_event now (Come finds piece) n).0 =
      subst (λ (os : List ℕ). StandsForAlikeEnd now (kept_end_behind_event now (Come finds (drop done octets)) k) (step_event now (Come finds os) n).0) same s.0 in
      let told_piece : tells now (Come finds (drop done octets)) k ≡ (step_event now (Come finds piece) n).1 =
      s.1 ∙ ap (λ (os : List ℕ). (step_event now (Come finds os) n).1) same in
      let joined : GivesOctetsToEnd now conn finds (first ++ piece) m k' out new = record {
        follows =
            subst (λ (z : KEnd). StandsForAlikeEnd now z (step_event now (Come finds (first ++ piece)) m).0) (sym state)
            (follows_alike now now (kept_end_behind_event now (Come finds (drop done octets)) k) (step_event now (Come finds piece) n).0 (step_event now (Come finds (first ++ piece)) m).0 at_piece (let p : now ≤ now = omega arith in p) cut.0);
        text =
            text ∙ ap (λ (t : List ℕ). t ++ outcomes_text conn (tells now (Come finds (drop done octets)) k)) heard.text
            ∙ append_assoc out (outcomes_text conn (step_event now (Come finds first) m).1) (outcomes_text conn (tells now (Come finds (drop done octets)) k))
            ∙ ap (λ (t : List ℕ). out ++ t)
            (ap (λ (os : List Outcome). outcomes_text conn (step_event now (Come finds first) m).1 ++ outcomes_text conn os) told_piece
            ∙ sym (text_parts conn (step_event now (Come finds first) m).1 (step_event now (Come finds piece) n).1)
            ∙ ap (λ (os : List Outcome). outcomes_text conn os) (sym cut.1));
      } in
      subst (λ (os : List ℕ). GivesOctetsToEnd now conn finds os m k' out new) (sym whole) joined
