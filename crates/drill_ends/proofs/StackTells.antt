-- What a call of a stack tells, as the outcomes of the model.
use Rattle.std.proofs.Common.{◌≡◌, ℕ, List, [], ◌++◌, map, Option, Some, None, refl, sym, ap, ◌∙◌}
use Rattle.er_base.specs.declared.release.Release.{Release}
use Rattle.des_block.specs.declared.triple_key.TripleKey.{TripleKey}
use Rattle.hdlc_station_model.specs.Stations.{Station}
use Rattle.hdlc_station_model.specs.Events.{said_octets}
use Rattle.safety_automaton.specs.Laws.{session_keys_of_outcome}
use Rattle.safety_automaton.specs.Reports.{KeptSafe}
use Rattle.safety_automaton.specs.Safety.{SafetyOutcome, SentAu1, SentAu2, SentAu3, SentAr, ReceivedAr, AcceptedDt, SentDt, Refused, ReleasedLocally, ReleasedByPeer, NothingDone, sealed_by, verified_by, session_in}
use Rattle.safety_pair_laws.specs.Facts.{heard_in, facts_by}
use Rattle.er_end_model.specs.Layers.{Spoken, Core}
use Rattle.er_end_model.specs.Ends.{End as Stack}
use Rattle.drill_model.specs.Outcomes.{OfSafety, Frame as FrameOut}
use Rattle.drill_model.specs.StationEnds.{if_released}
use Rattle.drill_model.specs.StackEnds.{facts_told, outcomes_told_by_stack}
use Rattle.drill_model.specs.StackReports.{peer_by, user_by, Reports, ReportsAt}
use Rattle.er_end.specs.Inboxes.{newest_of}
use Rattle.er_end.specs.KeptEnds.{KEnd}
use Rattle.er_end.specs.Standing.{EndStands}
use Rattle.drill_ends.specs.declared.told.Told.{Told}
use Rattle.drill_ends.specs.Tellings.{AreTold}
use Rattle.drill_ends.specs.SafeEnds.{checked_text, told_sealed}
use Rattle.drill_ends.specs.StationEnds.{told_released, told_frames}
use Rattle.drill_ends.specs.StackEnds.{told_checked, told_safety, TellsCall}
use Rattle.drill_ends.proofs.StationCalls.{told_append, released_told, frames_told}

-- ---- the step of the safety side

abbrev told_by_step : (sealed verified : Option (List ℕ)) → (connected : Option ℕ) → (news : Option (List ℕ)) → (session : Option TripleKey) → List Told
told_by_step sealed verified connected news session = told_checked connected news (checked_text verified session) ++ told_sealed sealed session

step_told : (heard : List ℕ) (o : SafetyOutcome) (sealed verified : Option (List ℕ)) (connected : Option ℕ) (news : Option (List ℕ)) (session : Option TripleKey)
    → sealed ≡ sealed_by o → verified ≡ verified_by o → connected ≡ peer_by o → news ≡ user_by o → ((key : TripleKey) → session_keys_of_outcome o ≡ Some key → session ≡ Some key)
    → AreTold (map OfSafety (facts_by heard o)) (told_by_step sealed verified connected news session)
step_told heard (SentAu1 octets) sealed verified connected news session s v c n k = rw (s, v) tt
step_told heard (SentAu2 key text octets) sealed verified connected news session s v c n k = rw (s, v, k key refl) (refl, tt)
step_told heard (SentAu3 key verified' text octets) sealed verified connected news session s v c n k = rw (s, v, k key refl, c, n) (refl, (refl, tt))
step_told heard (SentAr connection verified' text octets) sealed verified connected news session s v c n k = rw (s, v, k connection.session refl, c) (refl, (refl, tt))
step_told heard (ReceivedAr connection verified') sealed verified connected news session s v c n k = rw (s, v, k connection.session refl, c) (refl, tt)
step_told heard (AcceptedDt key user verified') sealed verified connected news session s v c n k = rw (s, v, k key refl, c, n) (refl, tt)
step_told heard (SentDt key user text octets) sealed verified connected news session s v c n k = rw (s, v, k key refl) (refl, tt)
step_told heard (Refused refusal) sealed verified connected news session s v c n k = rw (s, v) tt
step_told heard (ReleasedLocally release octets) sealed verified connected news session s v c n k = rw (s, v) tt
step_told heard (ReleasedByPeer release) sealed verified connected news session s v c n k = rw (s, v) tt
step_told heard NothingDone sealed verified connected news session s v c n k = rw (s, v) tt

none_told : (sealed verified : Option (List ℕ)) (connected : Option ℕ) (news : Option (List ℕ)) (session : Option TripleKey) → sealed ≡ None → verified ≡ None
    → AreTold [] (told_by_step sealed verified connected news session)
none_told sealed verified connected news session s v = rw (s, v) tt

facts_are_told : (spoke : Option Spoken) (safe : KeptSafe) (connected : Option ℕ) (news : Option (List ℕ)) → Reports safe connected news spoke
    → AreTold (facts_told spoke) (told_by_step safe.sealed safe.verified connected news (session_in safe.safety.phase))
facts_are_told None safe connected news r = none_told safe.sealed safe.verified connected news (session_in safe.safety.phase) r.sealed_is r.verified_is
facts_are_told (Some s) safe connected news r =
    step_told (heard_in s.event) s.outcome safe.sealed safe.verified connected news (session_in safe.safety.phase) r.sealed_is r.verified_is r.connected_is r.accepted_is r.keys_are

-- ---- a call

-- what a call told is what the model tells of the core behind it
pub record Tells (x : Core) (before now : List Told) : Type 0 where
  pub list : List Told
  pub grew : now ≡ before ++ list
  pub told : AreTold (outcomes_told_by_stack x) list

pub call_tells : (k : KEnd) (m : Stack) (connected : Option ℕ) (released : Option Release) (before now : List Told) → EndStands k m → ReportsAt m.core
    → connected ≡ m.core.connected → released ≡ m.core.leaves → TellsCall k connected released before now → Tells m.core before now
call_tells k m connected released before now h r connected_is released_is t =
    let line : Station = m.core.line in
    let safe : k.core.safe ≡ m.core.safe = sym (ap (λ (x : Core). x.safe) h.core.same) in
    let news : newest_of k.core.upper.inbox ≡ m.core.upper.news = sym h.core.upper.news in
    let step : List Told = told_by_step m.core.safe.sealed m.core.safe.verified m.core.connected m.core.upper.news (session_in m.core.safe.safety.phase) in
    let first : told_safety k connected ≡ step = rw (safe, connected_is, news) refl in
    let rest : List Told = told_released m.core.leaves ++ told_frames line.calling line.extended line.said in
    record {
      list = step ++ rest;
      grew = t line.calling line.extended line.said h.core.line.text
          ∙ ap (λ (o : Option Release). before ++ (told_safety k connected ++ (told_released o ++ told_frames line.calling line.extended line.said))) released_is
          ∙ ap (λ (xs : List Told). before ++ (xs ++ rest)) first;
      told = told_append (facts_told m.core.upper.spoke) (if_released m.core.leaves ++ map FrameOut (said_octets line)) step rest
          (facts_are_told m.core.upper.spoke m.core.safe m.core.connected m.core.upper.news r)
          (told_append (if_released m.core.leaves) (map FrameOut (said_octets line)) (told_released m.core.leaves) (told_frames line.calling line.extended line.said)
          (released_told m.core.leaves) (frames_told line.calling line.extended line.said));
    }
