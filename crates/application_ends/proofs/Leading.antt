-- What each event of an end leads to, in the words of a trace.
use Rattle.std.proofs.Common.{◌≡◌, ◌∙◌, inl, inr, ℕ, Bool, true, false, not, List, [], ◌∷◌, ◌++◌, length, map, Option, Some, None, refl, sym, ap, append-nil, append_assoc}
use Rattle.std.specs.Prelude.{is_some, if◌then◌else◌}
use Rattle.std.specs.Option.{option_to_list}
use Rattle.std.proofs.lemmas.Bool.{cases_Bool}
use Rattle.std.proofs.lemmas.List.{map-append}
use Rattle.er_base.specs.declared.release.Release.{Release}
use Rattle.er_base.specs.declared.cause.Cause.{Cause}
use Rattle.er_base.specs.declared.cause.Cause.TheVariants as cause
use Rattle.er_base.specs.Causes.{release_of}
use Rattle.des_block.specs.declared.triple_key.TripleKey.{TripleKey}
use Rattle.hdlc_frames.specs.Framing.{Verdict}
use Rattle.safety_automaton.specs.Safety.{no_keys, Safety, Phase, Ready, WaitAu1, WaitAu2, WaitAu3, WaitAr, Connected, Released, DataRequest, DisconnectRequest, octets_sent_in_outcome}
use Rattle.safety_automaton.specs.Safety as safety
use Rattle.safety_automaton.specs.Rules.{StepsOnly}
use Rattle.sapdu.specs.Messages.{is_message}
use Rattle.er_trace.specs.Outcomes as trace
use Rattle.er_trace.specs.Outcomes.{TraceOutcome}
use Rattle.trace_model.specs.Printed.{trace_outcome_of}
use Rattle.er_end_model.specs.Outcomes.{Outcome, SendRefusal, RefusedReleased, RefusedNotConnected, RefusedLength, RefusedFull, Refused}
use Rattle.er_end_model.specs.Steps.{Finds, new_event_at, with_release, send_dr, with_safety_step, hand_text, on_link_deed, conclude_event, step_start, step_frame, is_connected, refusal_at, refusal_of, on_send, step_send_unless, step_release, is_spent, normal_disconnect, di_of, on_expiry, step_tick, step_break, if_connected, if_accepted, if_released, if_octets, outcomes_of}
use Rattle.er_end_model.specs.Layers.{Core, model}
use Rattle.er_end_model.specs.Ends.{hears_each, told_of_each, refusal_or_outcomes}
use Rattle.application_model.specs.Ends.{EndStage, Parted, end_stage_behind, texts_accepted, texts_taken}
use Rattle.application_ends.specs.StackEnds.{stage_of_phase, stage_of_sides}
use Rattle.application_ends.proofs.Faces.{Face, face, fresh, parted, face_if, face_else, face_concludes, face_hands, face_sends_dr}
use Rattle.application_ends.proofs.Moving.{after_connected, after_leaving, Moves, moves_as, goes, stays, told_moves}

abbrev pub said : List Outcome → List TraceOutcome
said outcomes = map trace_outcome_of outcomes

abbrev pub stage_at : Core → EndStage
stage_at x = stage_of_sides x.released x.safe.safety.phase

-- ---- what is told of an event

record SaysSo (connected : Option ℕ) (news : Option (List ℕ)) (leaves : Option Release) (outcomes : List TraceOutcome) : Type 0 where
  accepted : texts_accepted outcomes ≡ option_to_list news
  taken : texts_taken outcomes ≡ []
  stage : (stage : EndStage) → end_stage_behind stage outcomes ≡ after_leaving (after_connected stage connected) leaves

says_so : (connected : Option ℕ) (news : Option (List ℕ)) (leaves : Option Release) (octets : List ℕ)
    → SaysSo connected news leaves (said (if_connected connected ++ if_accepted news ++ if_released leaves ++ if_octets octets))
says_so None None None [] = record { accepted = refl; taken = refl; stage = λ s. refl }
says_so None None None (o ∷ os) = record { accepted = refl; taken = refl; stage = λ s. refl }
says_so None None (Some r) [] = record { accepted = refl; taken = refl; stage = λ s. refl }
says_so None None (Some r) (o ∷ os) = record { accepted = refl; taken = refl; stage = λ s. refl }
says_so None (Some m) None [] = record { accepted = refl; taken = refl; stage = λ s. refl }
says_so None (Some m) None (o ∷ os) = record { accepted = refl; taken = refl; stage = λ s. refl }
says_so None (Some m) (Some r) [] = record { accepted = refl; taken = refl; stage = λ s. refl }
says_so None (Some m) (Some r) (o ∷ os) = record { accepted = refl; taken = refl; stage = λ s. refl }
says_so (Some p) None None [] = record { accepted = refl; taken = refl; stage = λ s. refl }
says_so (Some p) None None (o ∷ os) = record { accepted = refl; taken = refl; stage = λ s. refl }
says_so (Some p) None (Some r) [] = record { accepted = refl; taken = refl; stage = λ s. refl }
says_so (Some p) None (Some r) (o ∷ os) = record { accepted = refl; taken = refl; stage = λ s. refl }
says_so (Some p) (Some m) None [] = record { accepted = refl; taken = refl; stage = λ s. refl }
says_so (Some p) (Some m) None (o ∷ os) = record { accepted = refl; taken = refl; stage = λ s. refl }
says_so (Some p) (Some m) (Some r) [] = record { accepted = refl; taken = refl; stage = λ s. refl }
says_so (Some p) (Some m) (Some r) (o ∷ os) = record { accepted = refl; taken = refl; stage = λ s. refl }

-- one part behind the other
pub record InParts (a b : List TraceOutcome) : Type 0 where
  pub accepted : texts_accepted (a ++ b) ≡ texts_accepted a ++ texts_accepted b
  pub taken : texts_taken (a ++ b) ≡ texts_taken a ++ texts_taken b
  pub stage : (stage : EndStage) → end_stage_behind stage (a ++ b) ≡ end_stage_behind (end_stage_behind stage a) b

pub in_parts : (a b : List TraceOutcome) → InParts a b
in_parts [] b = record { accepted = refl; taken = refl; stage = λ s. refl }
in_parts (trace.Connected peer ∷ a) b = let r = in_parts a b in record { accepted = r.accepted; taken = r.taken; stage = λ s. r.stage _ }
in_parts (trace.Accepted text ∷ a) b =
    let r = in_parts a b in record { accepted = ap (λ (x : List (List ℕ)). text ∷ x) r.accepted; taken = r.taken; stage = λ s. r.stage s }
in_parts (trace.Taken text ∷ a) b =
    let r = in_parts a b in record { accepted = r.accepted; taken = ap (λ (x : List (List ℕ)). text ∷ x) r.taken; stage = λ s. r.stage s }
in_parts (trace.Empty ∷ a) b = let r = in_parts a b in record { accepted = r.accepted; taken = r.taken; stage = λ s. r.stage s }
in_parts (trace.RefusedReleased release ∷ a) b = let r = in_parts a b in record { accepted = r.accepted; taken = r.taken; stage = λ s. r.stage s }
in_parts (trace.RefusedNotConnected ∷ a) b = let r = in_parts a b in record { accepted = r.accepted; taken = r.taken; stage = λ s. r.stage s }
in_parts (trace.RefusedLength octets ∷ a) b = let r = in_parts a b in record { accepted = r.accepted; taken = r.taken; stage = λ s. r.stage s }
in_parts (trace.RefusedFull waiting ∷ a) b = let r = in_parts a b in record { accepted = r.accepted; taken = r.taken; stage = λ s. r.stage s }
in_parts (trace.Released release ∷ a) b = let r = in_parts a b in record { accepted = r.accepted; taken = r.taken; stage = λ s. r.stage Parted }
in_parts (trace.Octets octets ∷ a) b = let r = in_parts a b in record { accepted = r.accepted; taken = r.taken; stage = λ s. r.stage s }

-- ---- an event that takes nothing

pub record Leads (x : Core) (outcomes : List Outcome) (z : Core) : Type 0 where
  pub accepted : z.upper.accepted ≡ x.upper.accepted ++ texts_accepted (said outcomes)
  pub taken : texts_taken (said outcomes) ≡ []
  pub used : z.upper.used ≡ x.upper.used
  pub stage : end_stage_behind (stage_at x) (said outcomes) ≡ stage_at z

pub leads_on : (x y z : Core) (a b : List Outcome) → Leads x a y → Leads y b z → Leads x (a ++ b) z
leads_on x y z a b p q =
    let both = map-append trace_outcome_of a b in
    let parts = in_parts (said a) (said b) in
    record {
      accepted =
          q.accepted
          ∙ ap (λ (t : List (List ℕ)). t ++ texts_accepted (said b)) p.accepted
          ∙ append_assoc x.upper.accepted (texts_accepted (said a)) (texts_accepted (said b))
          ∙ ap (λ (t : List (List ℕ)). x.upper.accepted ++ t) (sym parts.accepted ∙ ap texts_accepted (sym both));
      taken = ap texts_taken both ∙ parts.taken ∙ (rw p.taken q.taken);
      used = q.used ∙ p.used;
      stage =
          ap (end_stage_behind (stage_at x)) both ∙ parts.stage (stage_at x) ∙ ap (λ (s : EndStage). end_stage_behind s (said b)) p.stage ∙ q.stage;
    }

-- by what it moved, of an end that wasn't released
moved : (x z : Core) → x.released ≡ None → Moves x.safe.safety.phase x.upper.accepted x.upper.used (face z) → Leads x (outcomes_of model z) z
moved x z live m =
    let says = says_so z.connected z.upper.news z.leaves (model.written z.line) in
    record {
      accepted = m.mail ∙ ap (λ (t : List (List ℕ)). x.upper.accepted ++ t) (sym says.accepted);
      taken = says.taken;
      used = m.taken;
      stage =
          says.stage (stage_at x)
          ∙ ap (λ (r : Option Release). after_leaving (after_connected (stage_of_sides r x.safe.safety.phase) z.connected) z.leaves) live
          ∙ m.stage;
    }

-- nothing moved
abbrev pub begun : Core → Face
begun x = record {
  phase = x.safe.safety.phase;
  connected = None;
  leaves = None;
  released = x.released;
  accepted = x.upper.accepted;
  used = x.upper.used;
  news = None;
}

pub rests : (x z : Core) → face z ≡ begun x → Leads x (outcomes_of model z) z
rests x z e =
    let says = says_so z.connected z.upper.news z.leaves (model.written z.line) in
    record {
      accepted =
          ap (λ (f : Face). f.accepted) e
          ∙ sym (append-nil x.upper.accepted)
          ∙ ap (λ (t : List (List ℕ)). x.upper.accepted ++ t) (sym (says.accepted ∙ ap (λ (f : Face). option_to_list f.news) e));
      taken = says.taken;
      used = ap (λ (f : Face). f.used) e;
      stage =
          says.stage (stage_at x)
          ∙ ap (λ (f : Face). after_leaving (after_connected (stage_at x) f.connected) f.leaves) e
          ∙ sym (ap (λ (f : Face). stage_of_sides f.released f.phase) e);
    }

-- ---- octets

module _ (steps_only : StepsOnly) where
  frame_at : (finds : Finds) (now : ℕ) (verdict : Verdict) (x : Core) (r : Option Release) → x.released ≡ r
      → Leads x (outcomes_of model (step_frame model finds now verdict x)) (step_frame model finds now verdict x)
  frame_at finds now verdict x (Some why) e = rests x (step_frame model finds now verdict x) (rw e refl)
  frame_at finds now verdict x None e =
      let begins : Core = new_event_at model now x in
      let deed = model.told begins.moment verdict begins.line in
      let y : Core = record begins { line = model.receives begins.moment verdict begins.line } in
      let z : Core = on_link_deed model finds deed y in
      let new : face y ≡ fresh y.safe.safety.phase y.upper.accepted y.upper.used =
      ap (λ (r : Option Release). record (fresh y.safe.safety.phase y.upper.accepted y.upper.used) { released = r }) e in
      moved x (step_frame model finds now verdict x) e
      (moves_as _ _ _ (face z) (face (step_frame model finds now verdict x))
      (face_else (is_some x.released) begins (conclude_event model z) (ap is_some e) ∙ face_concludes z)
      (told_moves steps_only finds deed.payload deed.up deed.released y new))

  frames_lead : (finds : Finds) (now : ℕ) (verdicts : List Verdict) (x : Core)
      → Leads x (told_of_each finds now verdicts x) (hears_each finds now verdicts x)
  frames_lead finds now [] x = record { accepted = sym (append-nil x.upper.accepted); taken = refl; used = refl; stage = refl }
  frames_lead finds now (verdict ∷ verdicts) x =
      let y : Core = step_frame model finds now verdict x in
      leads_on x y (hears_each finds now verdicts y) (outcomes_of model y) (told_of_each finds now verdicts y)
      (frame_at finds now verdict x x.released refl) (frames_lead finds now verdicts y)

  pub octets_lead : (finds : Finds) (now : ℕ) (verdicts : List Verdict) (x : Core)
      → Leads x (told_of_each finds now verdicts (new_event_at model now x)) (hears_each finds now verdicts (new_event_at model now x))
  octets_lead finds now verdicts x =
      let y : Core = new_event_at model now x in
      leads_on x y (hears_each finds now verdicts y) [] (told_of_each finds now verdicts y)
      (record { accepted = sym (append-nil x.upper.accepted); taken = refl; used = refl; stage = refl }) (frames_lead finds now verdicts y)

-- ---- the other events

pub start_leads : (now : ℕ) (x : Core) → Leads x (outcomes_of model (step_start model now x)) (step_start model now x)
start_leads now x =
    let begins : Core = new_event_at model now x in
    let y : Core = record begins { line = model.starts begins.moment begins.line } in
    rests x (step_start model now x) (face_if (is_some x.released) begins (conclude_event model y) (begun x) refl (face_concludes y))

-- a user sends: nothing comes of it here
data_kept : (fits : Bool) (s : Safety) (peer : ℕ) (session : TripleKey) (user : List ℕ)
    → stage_of_phase (if not fits then (s, safety.Refused (safety.RefusedLength (length user))) else safety.sends_dt s peer session user).0.phase
    ≡ stage_of_phase s.phase
data_kept true s peer session user = refl
data_kept false s peer session user = refl

data_stage : (s : Safety) (user : List ℕ) (phase : Phase) → s.phase ≡ phase → is_connected phase ≡ true
    → stage_of_phase s.phase ≡ stage_of_phase (safety.step no_keys s (DataRequest user)).0.phase
data_stage s user (Ready peer kmac rb) e c = absurd (cc)
data_stage s user (WaitAu1 ra) e c = absurd (cc)
data_stage s user (WaitAu2 peer kmac rb) e c = absurd (cc)
data_stage s user (WaitAu3 connection) e c = absurd (cc)
data_stage s user (WaitAr connection) e c = absurd (cc)
data_stage s user (Connected peer session) e c =
    sym (ap (λ (p : Phase). stage_of_phase (safety.sends s p user).0.phase) e ∙ data_kept (is_message user) s peer session user)
data_stage s user (Released release session) e c = absurd (cc)

unrefused : (released : Option Release) (connected : Bool) (user : List ℕ) (waiting : ℕ) → refusal_at released connected user waiting ≡ None
    → (released ≡ None) × (connected ≡ true)
unrefused (Some why) connected user waiting e = absurd (cc)
unrefused None true user waiting e = (refl, refl)
unrefused None false user waiting e = absurd (cc)

sent_leads : (now : ℕ) (user : List ℕ) (x : Core) → x.released ≡ None → is_connected x.safe.safety.phase ≡ true
    → Leads x (outcomes_of model (on_send model user (new_event_at model now x))) (on_send model user (new_event_at model now x))
sent_leads now user x live stands =
    let begins : Core = new_event_at model now x in
    let a = safety.step no_keys x.safe.safety (DataRequest user) in
    let y : Core = with_safety_step model (DataRequest user) a begins in
    let sent : Core = record y { upper = model.sends y.upper user } in
    let handed : Core = hand_text model (octets_sent_in_outcome a.1) sent in
    moved x (on_send model user begins) live
    (moves_as _ _ _ (fresh a.0.phase x.upper.accepted x.upper.used) (face (on_send model user begins))
    (face_concludes handed
    ∙ face_hands (octets_sent_in_outcome a.1) sent
    ∙ ap (λ (r : Option Release). record (fresh a.0.phase x.upper.accepted x.upper.used) { released = r }) live)
    (stays x.safe.safety.phase a.0.phase x.upper.accepted x.upper.used (data_stage x.safe.safety user x.safe.safety.phase refl stands)))

refused_tells : (refusal : SendRefusal) (x : Core) → Leads x (Refused refusal ∷ []) x
refused_tells (RefusedReleased release) x = record { accepted = sym (append-nil x.upper.accepted); taken = refl; used = refl; stage = refl }
refused_tells RefusedNotConnected x = record { accepted = sym (append-nil x.upper.accepted); taken = refl; used = refl; stage = refl }
refused_tells (RefusedLength found) x = record { accepted = sym (append-nil x.upper.accepted); taken = refl; used = refl; stage = refl }
refused_tells (RefusedFull waiting) x = record { accepted = sym (append-nil x.upper.accepted); taken = refl; used = refl; stage = refl }

send_at : (now : ℕ) (user : List ℕ) (x : Core) (refusal : Option SendRefusal) → refusal_of model user x ≡ refusal
    → Leads x (refusal_or_outcomes refusal (outcomes_of model (step_send_unless model refusal now user x))) (step_send_unless model refusal now user x)
send_at now user x (Some refusal) e = refused_tells refusal x
send_at now user x None e =
    let may = unrefused x.released (is_connected x.safe.safety.phase) user (model.waiting x.upper) e in sent_leads now user x may.0 may.1

pub send_leads : (now : ℕ) (user : List ℕ) (x : Core)
    → Leads x (refusal_or_outcomes (refusal_of model user x) (outcomes_of model (step_send_unless model (refusal_of model user x) now user x)))
    (step_send_unless model (refusal_of model user x) now user x)
send_leads now user x = send_at now user x (refusal_of model user x) refl

-- a release of the user
leave_at : (now sub : ℕ) (x : Core) (r : Option Release) → x.released ≡ r
    → Leads x (outcomes_of model (step_release model now sub x)) (step_release model now sub x)
leave_at now sub x (Some why) e = rests x (step_release model now sub x) (rw e refl)
leave_at now sub x None e =
    let why = release_of (cause.User sub) in
    let a = safety.step no_keys x.safe.safety (DisconnectRequest sub) in
    let y : Core = with_safety_step model (DisconnectRequest sub) a (new_event_at model now x) in
    let new : face y ≡ fresh a.0.phase x.upper.accepted x.upper.used =
    ap (λ (r : Option Release). record (fresh a.0.phase x.upper.accepted x.upper.used) { released = r }) e in
    moved x (step_release model now sub x) e
    (moves_as _ _ _ (parted why (fresh a.0.phase x.upper.accepted x.upper.used)) (face (step_release model now sub x))
    (face_else (is_some x.released) (new_event_at model now x) (send_dr model why normal_disconnect (octets_sent_in_outcome a.1) y) (ap is_some e)
    ∙ face_sends_dr why normal_disconnect (octets_sent_in_outcome a.1) y
    ∙ ap (parted why) new)
    (goes x.safe.safety.phase a.0.phase x.upper.accepted x.upper.used why))

pub leave_leads : (now sub : ℕ) (x : Core) → Leads x (outcomes_of model (step_release model now sub x)) (step_release model now sub x)
leave_leads now sub x = leave_at now sub x x.released refl

-- time goes on
expiry_moves : (given_up : Option Release) (y : Core) → face y ≡ fresh y.safe.safety.phase y.upper.accepted y.upper.used
    → Moves y.safe.safety.phase y.upper.accepted y.upper.used (face (on_expiry model given_up y))
expiry_moves (Some why) y new =
    moves_as _ _ _ (parted why (fresh y.safe.safety.phase y.upper.accepted y.upper.used)) (face (with_release why y)) (ap (parted why) new)
    (goes y.safe.safety.phase y.safe.safety.phase y.upper.accepted y.upper.used why)
expiry_moves None y new =
    let why = release_of cause.SetUpTimeSpent in
    let di = di_of why y.safe.safety in
    elim (cases_Bool (is_spent y)) [
      | inl spent ↦
          rw spent
          (moves_as _ _ _ (parted why (fresh y.safe.safety.phase y.upper.accepted y.upper.used)) (face (send_dr model why normal_disconnect di y))
          (face_sends_dr why normal_disconnect di y ∙ ap (parted why) new)
          (goes y.safe.safety.phase y.safe.safety.phase y.upper.accepted y.upper.used why))
      | inr unspent ↦
          rw unspent
          (moves_as _ _ _ (fresh y.safe.safety.phase y.upper.accepted y.upper.used) (face y) new
          (stays y.safe.safety.phase y.safe.safety.phase y.upper.accepted y.upper.used refl))
    ]

tick_at : (now : ℕ) (x : Core) (r : Option Release) → x.released ≡ r
    → Leads x (outcomes_of model (step_tick model now x)) (step_tick model now x)
tick_at now x (Some why) e = rests x (step_tick model now x) (rw e refl)
tick_at now x None e =
    let begins : Core = new_event_at model now x in
    let y : Core = record begins { line = model.ticks begins.moment begins.line } in
    let z : Core = on_expiry model (model.given_up begins.moment begins.line) y in
    let new : face y ≡ fresh y.safe.safety.phase y.upper.accepted y.upper.used =
    ap (λ (r : Option Release). record (fresh y.safe.safety.phase y.upper.accepted y.upper.used) { released = r }) e in
    moved x (step_tick model now x) e
    (moves_as _ _ _ (face z) (face (step_tick model now x))
    (face_else (is_some x.released) begins (conclude_event model z) (ap is_some e) ∙ face_concludes z)
    (expiry_moves (model.given_up begins.moment begins.line) y new))

pub tick_leads : (now : ℕ) (x : Core) → Leads x (outcomes_of model (step_tick model now x)) (step_tick model now x)
tick_leads now x = tick_at now x x.released refl

-- the line breaks
break_at : (cause : Cause) (x : Core) (r : Option Release) → x.released ≡ r → Leads x (outcomes_of model (step_break model cause x)) (step_break model cause x)
break_at cause x (Some why) e = rests x (step_break model cause x) (rw e refl)
break_at cause x None e =
    moved x (step_break model cause x) e
    (moves_as _ _ _ (parted (release_of cause) (fresh x.safe.safety.phase x.upper.accepted x.upper.used)) (face (step_break model cause x)) (rw e refl)
    (goes x.safe.safety.phase x.safe.safety.phase x.upper.accepted x.upper.used (release_of cause)))

pub break_leads : (cause : Cause) (x : Core) → Leads x (outcomes_of model (step_break model cause x)) (step_break model cause x)
break_leads cause x = break_at cause x x.released refl
