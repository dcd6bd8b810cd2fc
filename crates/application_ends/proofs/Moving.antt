-- What an event moves: what it tells of the safe connection, of a release and of a message is what becomes of them.
use Rattle.std.proofs.Common.{◌≡◌, ◌∙◌, ℕ, Bool, true, false, ◌&&◌, List, [], ◌∷◌, ◌++◌, Option, Some, None, Ok, Err, refl, sym, ap, subst, append-nil}
use Rattle.std.specs.Prelude.{if◌then◌else◌}
use Rattle.std.specs.Option.{option_to_list}
use Rattle.er_base.specs.declared.release.Release.{Release}
use Rattle.er_base.specs.declared.cause.Cause.TheVariants as cause
use Rattle.er_base.specs.Causes.{release_of, by_this_end}
use Rattle.des_block.specs.declared.triple_key.TripleKey.{TripleKey}
use Rattle.hdlc_station_model.specs.Receiving.{is_some_octets}
use Rattle.t70_header.specs.Joining as joining
use Rattle.x224_class2.specs.Refusals.{protocol_error}
use Rattle.x224_class2.specs.Transport.{ReceptionDeed, Nothing, Called, Confirmed, Message, Disconnected}
use Rattle.x224_class2.specs.Transport as transport
use Rattle.sapdu.specs.Spelling.{di_in}
use Rattle.safety_automaton.specs.Safety.{no_keys, Safety, Phase, Ready, WaitAu1, WaitAu2, WaitAu3, WaitAr, Connected, Released, ConnectRequest, Received, SafetyEvent, SafetyOutcome, SentAu1, SentAu2, SentAu3, SentAr, ReceivedAr, AcceptedDt, SentDt, Refused, ReleasedLocally, ReleasedByPeer, NothingDone, octets_sent_in_outcome, peer_flag}
use Rattle.safety_automaton.specs.Safety as safety
use Rattle.safety_automaton.specs.Reports.{report_of}
use Rattle.safety_automaton.specs.Rules.{StepsOnly, IsStep, StaysIdle, AtReceived, AtDisconnect, AtConnect}
use Rattle.er_end_model.specs.Steps.{Finds, with_release, send_dr, answer_dr, with_safety_step, Carrier, InCr, InCc, InDt, hand_answer, keep_message, on_safety_release, on_safety_report, on_text, on_transport_deed, on_joined_block, is_ready, connect_with_text, on_link_up, on_link_told, why_of}
use Rattle.er_end_model.specs.Laws.{connected_by}
use Rattle.er_end_model.specs.Layers.{Core, model}
use Rattle.application_model.specs.Ends.{EndStage, Speaking, Parted}
use Rattle.application_ends.specs.StackEnds.{stage_of_phase, stage_of_sides}
use Rattle.application_ends.proofs.Faces.{Face, face, fresh, parted, face_if, face_answers, face_sends_dr, face_answers_dr, face_parts}

-- ---- how far an end is behind what was told

abbrev pub after_connected : EndStage → Option ℕ → EndStage
after_connected stage None = stage
after_connected stage (Some peer) = Speaking peer

abbrev pub after_leaving : EndStage → Option Release → EndStage
after_leaving stage None = stage
after_leaving stage (Some why) = Parted

-- from an end that isn't released, with this phase and these messages
pub record Moves (phase : Phase) (accepted : List (List ℕ)) (used : ℕ) (f : Face) : Type 0 where
  pub mail : f.accepted ≡ accepted ++ option_to_list f.news
  pub taken : f.used ≡ used
  pub stage : after_leaving (after_connected (stage_of_phase phase) f.connected) f.leaves ≡ stage_of_sides f.released f.phase

pub moves_as : (phase : Phase) (accepted : List (List ℕ)) (used : ℕ) (f g : Face) → g ≡ f → Moves phase accepted used f → Moves phase accepted used g
moves_as phase accepted used f g e m = subst (Moves phase accepted used) (sym e) m

-- nothing but the phase of a safety side moves, and no further than its stage; or it is released
pub stays : (phase now : Phase) (accepted : List (List ℕ)) (used : ℕ) → stage_of_phase phase ≡ stage_of_phase now → Moves phase accepted used (fresh now accepted used)
stays phase now accepted used e = record { mail = sym (append-nil accepted); taken = refl; stage = e }

pub goes : (phase now : Phase) (accepted : List (List ℕ)) (used : ℕ) (why : Release) → Moves phase accepted used (parted why (fresh now accepted used))
goes phase now accepted used why = record { mail = sym (append-nil accepted); taken = refl; stage = refl }

-- ---- the safety side

abbrev released_by : SafetyOutcome → Option Release
released_by (SentAu1 octets) = None
released_by (SentAu2 session sealed octets) = None
released_by (SentAu3 session verified sealed octets) = None
released_by (SentAr connection verified sealed octets) = None
released_by (ReceivedAr connection verified) = None
released_by (AcceptedDt session user verified) = None
released_by (SentDt session user sealed octets) = None
released_by (Refused refusal) = None
released_by (ReleasedLocally release octets) = Some release
released_by (ReleasedByPeer release) = Some release
released_by NothingDone = None

idle_stage : (s : Safety) (event : SafetyEvent) (next : Safety) → StaysIdle s event next → stage_of_phase s.phase ≡ stage_of_phase next.phase
idle_stage s event next (AtReceived octets release session came released same) = ap (λ (t : Safety). stage_of_phase t.phase) (sym same)
idle_stage s event next (AtDisconnect sub release session came released same) = ap (λ (t : Safety). stage_of_phase t.phase) (sym same)
idle_stage s event next (AtConnect came unready same) = ap (λ (t : Safety). stage_of_phase t.phase) (sym same)

-- a step goes on to the stage that its outcome says
row_stage : (key_of : ℕ → ℕ → Option TripleKey) (s : Safety) (event : SafetyEvent) (next : Safety) (o : SafetyOutcome) → IsStep key_of s event next o
    → after_leaving (after_connected (stage_of_phase s.phase) (connected_by o)) (released_by o) ≡ stage_of_sides (released_by o) next.phase
row_stage key_of s event next (SentAu1 octets) r = ap stage_of_phase r.waits ∙ sym (ap (λ (t : Safety). stage_of_phase t.phase) r.next_is)
row_stage key_of s event next (SentAu2 session sealed octets) r = ap stage_of_phase r.waits ∙ sym (ap (λ (t : Safety). stage_of_phase t.phase) r.next_is)
row_stage key_of s event next (SentAu3 session verified sealed octets) r = ap stage_of_phase r.waits ∙ sym (ap (λ (t : Safety). stage_of_phase t.phase) r.next_is)
row_stage key_of s event next (SentAr connection verified sealed octets) r = sym (ap (λ (t : Safety). stage_of_phase t.phase) r.next_is)
row_stage key_of s event next (ReceivedAr connection verified) r = sym (ap (λ (t : Safety). stage_of_phase t.phase) r.next_is)
row_stage key_of s event next (AcceptedDt session user verified) r = sym (ap (λ (t : Safety). stage_of_phase t.phase) r.next_is)
row_stage key_of s event next (SentDt session user sealed octets) r = sym (ap (λ (t : Safety). stage_of_phase t.phase) r.next_is)
row_stage key_of s event next (Refused refusal) r = sym (ap (λ (t : Safety). stage_of_phase t.phase) r.next_is)
row_stage key_of s event next (ReleasedLocally release octets) r = refl
row_stage key_of s event next (ReleasedByPeer release) r = refl
row_stage key_of s event next NothingDone r = idle_stage s event next r

connect_stage : (s : Safety) (phase : Phase) → s.phase ≡ phase → is_ready phase ≡ true
    → stage_of_phase s.phase ≡ stage_of_phase (safety.step no_keys s ConnectRequest).0.phase
connect_stage s (Ready peer kmac rb) e r = rw e refl
connect_stage s (WaitAu1 ra) e r = absurd (cc)
connect_stage s (WaitAu2 peer kmac rb) e r = absurd (cc)
connect_stage s (WaitAu3 connection) e r = absurd (cc)
connect_stage s (WaitAr connection) e r = absurd (cc)
connect_stage s (Connected peer session) e r = absurd (cc)
connect_stage s (Released release session) e r = absurd (cc)

-- ---- a frame, at an end that isn't released

abbrev pub IsFresh : Core → Type 0
IsFresh y = face y ≡ fresh y.safe.safety.phase y.upper.accepted y.upper.used

abbrev pub From : Core → Core → Type 0
From y z = Moves y.safe.safety.phase y.upper.accepted y.upper.used (face z)

nothing_moves : (y : Core) → IsFresh y → From y y
nothing_moves y new =
    moves_as _ _ _ (fresh y.safe.safety.phase y.upper.accepted y.upper.used) (face y) new
    (stays y.safe.safety.phase y.safe.safety.phase y.upper.accepted y.upper.used refl)

release_moves : (why : Release) (y z : Core) → IsFresh y → face z ≡ parted why (face y) → From y z
release_moves why y z new e =
    moves_as _ _ _ (parted why (fresh y.safe.safety.phase y.upper.accepted y.upper.used)) (face z) (e ∙ ap (parted why) new)
    (goes y.safe.safety.phase y.safe.safety.phase y.upper.accepted y.upper.used why)

module _ (steps_only : StepsOnly) where
  module _ (text : List ℕ) (y : Core) (new : IsFresh y) (key_of : ℕ → ℕ → Option TripleKey) (q : Safety) where
    abbrev after : SafetyOutcome → Core
    after o = with_safety_step model (Received text) (q, o) y

    abbrev new_face : Face
    new_face = fresh q.phase y.upper.accepted y.upper.used

    -- the face behind the step
    spoken : (o : SafetyOutcome) → face (after o) ≡ new_face
    spoken o = ap (λ (f : Face). record f { phase = q.phase }) new

    as_spoken : (o : SafetyOutcome) (z : Core) → face z ≡ face (after o) → stage_of_phase y.safe.safety.phase ≡ stage_of_phase q.phase → From y z
    as_spoken o z same e =
        moves_as _ _ _ new_face (face z) (same ∙ spoken o) (stays y.safe.safety.phase q.phase y.upper.accepted y.upper.used e)

    as_connected : (o : SafetyOutcome) (peer : ℕ) (z : Core) → face z ≡ record (face (after o)) { connected = Some peer }
        → Speaking peer ≡ stage_of_phase q.phase → From y z
    as_connected o peer z same e =
        moves_as _ _ _ (record new_face { connected = Some peer }) (face z) (same ∙ ap (λ (f : Face). record f { connected = Some peer }) (spoken o))
        (record { mail = sym (append-nil y.upper.accepted); taken = refl; stage = e })

    as_released : (o : SafetyOutcome) (why : Release) (z : Core) → face z ≡ parted why (face (after o)) → From y z
    as_released o why z same =
        moves_as _ _ _ (parted why new_face) (face z) (same ∙ ap (parted why) (spoken o))
        (goes y.safe.safety.phase q.phase y.upper.accepted y.upper.used why)

    as_kept : (by : Carrier) (o : SafetyOutcome) (user : List ℕ) → stage_of_phase y.safe.safety.phase ≡ stage_of_phase q.phase
        → From y (keep_message model by user (after o))
    as_kept InCr o user e = as_spoken o (after o) refl e
    as_kept InCc o user e = as_spoken o (after o) refl e
    as_kept InDt o user e =
        moves_as _ _ _ (record new_face { accepted = y.upper.accepted ++ user ∷ []; news = Some user }) (face (keep_message model InDt user (after o)))
        (ap (λ (f : Face). record f { accepted = f.accepted ++ user ∷ []; news = Some user }) (spoken o))
        (record { mail = refl; taken = refl; stage = e })

    row : (o : SafetyOutcome) → IsStep key_of y.safe.safety (Received text) q o
        → after_leaving (after_connected (stage_of_phase y.safe.safety.phase) (connected_by o)) (released_by o) ≡ stage_of_sides (released_by o) q.phase
    row o r = row_stage key_of y.safe.safety (Received text) q o r

    acts : (by : Carrier) (o : SafetyOutcome) → IsStep key_of y.safe.safety (Received text) q o
        → From y (on_safety_report model by (report_of o) (octets_sent_in_outcome o) (after o))
    acts by (SentAu1 octets) r = let o = SentAu1 octets in as_spoken o (after o) refl (row o r)
    acts by (SentAu2 session sealed octets) r =
        let o = SentAu2 session sealed octets in as_spoken o (hand_answer model by octets (after o)) (face_answers by octets (after o)) (row o r)
    acts by (SentAu3 session verified sealed octets) r =
        let o = SentAu3 session verified sealed octets in as_spoken o (hand_answer model by octets (after o)) (face_answers by octets (after o)) (row o r)
    acts by (SentAr connection verified sealed octets) r =
        let o = SentAr connection verified sealed octets in
        as_connected o connection.peer (record (hand_answer model by octets (after o)) { connected = Some connection.peer })
        (ap (λ (f : Face). record f { connected = Some connection.peer }) (face_answers by octets (after o))) (row o r)
    acts by (ReceivedAr connection verified) r =
        let o = ReceivedAr connection verified in
        as_connected o connection.peer (record (hand_answer model by [] (after o)) { connected = Some connection.peer })
        (ap (λ (f : Face). record f { connected = Some connection.peer }) (face_answers by [] (after o))) (row o r)
    acts by (AcceptedDt session user verified) r = let o = AcceptedDt session user verified in as_kept by o user (row o r)
    acts by (SentDt session user sealed octets) r = let o = SentDt session user sealed octets in as_spoken o (after o) refl (row o r)
    acts by (Refused refusal) r = let o = Refused refusal in as_spoken o (after o) refl (row o r)
    acts by (ReleasedLocally release octets) r =
        let o = ReleasedLocally release octets in as_released o release (on_safety_release model release octets (after o)) (face_parts release octets (after o))
    acts by (ReleasedByPeer release) r =
        let o = ReleasedByPeer release in as_released o release (on_safety_release model release [] (after o)) (face_parts release [] (after o))
    acts by NothingDone r = as_spoken NothingDone (after NothingDone) refl (row NothingDone r)

  text_moves : (finds : Finds) (by : Carrier) (text : List ℕ) (y : Core) → IsFresh y → From y (on_text model finds by text y)
  text_moves finds by text y new =
      let a = safety.step (finds y.moment) y.safe.safety (Received text) in
      acts text y new (finds y.moment) a.0 by a.1 (steps_only (finds y.moment) y.safe.safety (Received text))

  deed_moves : (finds : Finds) (d : ReceptionDeed) (y : Core) → IsFresh y → From y (on_transport_deed model finds d y)
  deed_moves finds Nothing y new = nothing_moves y new
  deed_moves finds (Called user) y new = text_moves finds InCr user y new
  deed_moves finds (Confirmed user) y new = text_moves finds InCc user y new
  deed_moves finds (Message message) y new = text_moves finds InDt message y new
  deed_moves finds (Disconnected user) y new =
      let why = why_of (di_in user (peer_flag y.safe.safety)) in release_moves why y (answer_dr model why y) new (face_answers_dr why y)
  deed_moves finds (transport.Refused sub reason) y new =
      let why = by_this_end 2 sub in release_moves why y (send_dr model why reason [] y) new (face_sends_dr why reason [] y)

  joined_moves : (finds : Finds) (answer : joining.BlockJoiningResult) (y : Core) → IsFresh y → From y (on_joined_block model finds answer y)
  joined_moves finds (Ok None) y new = nothing_moves y new
  joined_moves finds (Ok (Some tpdu)) y new =
      deed_moves finds (model.deed y.upper tpdu) (record y { upper = model.hears y.upper tpdu }) new
  joined_moves finds (Err fault) y new =
      let why = release_of cause.BlockRefused in release_moves why y (send_dr model why protocol_error [] y) new (face_sends_dr why protocol_error [] y)

  up_moves : (y : Core) → IsFresh y → From y (on_link_up model y)
  up_moves y new =
      up_at (model.may_connect y.upper) (is_ready y.safe.safety.phase) refl
    where
      up_at : (may ready : Bool) → is_ready y.safe.safety.phase ≡ ready
          → From y (if may && ready
          then connect_with_text model (octets_sent_in_outcome (safety.step no_keys y.safe.safety ConnectRequest).1)
          (with_safety_step model ConnectRequest (safety.step no_keys y.safe.safety ConnectRequest) y) else y)
      up_at true true r =
          let a = safety.step no_keys y.safe.safety ConnectRequest in
          let z = with_safety_step model ConnectRequest a y in
          moves_as _ _ _ (fresh a.0.phase y.upper.accepted y.upper.used) (face (connect_with_text model (octets_sent_in_outcome a.1) z))
          (face_if (is_some_octets (octets_sent_in_outcome a.1)) _ z (face z) refl refl ∙ ap (λ (f : Face). record f { phase = a.0.phase }) new)
          (stays y.safe.safety.phase a.0.phase y.upper.accepted y.upper.used (connect_stage y.safe.safety y.safe.safety.phase refl r))
      up_at true false r = nothing_moves y new
      up_at false true r = nothing_moves y new
      up_at false false r = nothing_moves y new

  pub told_moves : (finds : Finds) (payload : Option (List ℕ)) (up : Bool) (released : Option Release) (y : Core) → IsFresh y
      → From y (on_link_told model finds payload up released y)
  told_moves finds (Some payload) up released y new =
      let joined = joining.block_step y.joined payload in joined_moves finds joined.1 (record y { joined = joined.0 }) new
  told_moves finds None true released y new = up_moves y new
  told_moves finds None false (Some why) y new = release_moves why y (with_release why y) new refl
  told_moves finds None false None y new = nothing_moves y new
