-- The events at one end: a frame comes, time goes on, the user sends, takes, releases; and the start.
use Rattle.std.proofs.Common.{◌≡◌, ℕ, ◌≤◌, inl, inr, Bool, true, false, ◌&&◌, List, ◌∷◌, ◌++◌, length, Option, Some, None, refl, sym, ◌∙◌, ap, subst, arith, lt-ltb, true≢false, append-nil}
use Rattle.hdlc_station_model.specs.Receiving.{is_some_octets}
use Rattle.std.specs.Prelude.{if◌then◌else◌}
use Rattle.std.specs.Option.{option_to_list}
use Rattle.std.proofs.lemmas.Bool.{cases_Bool, cond_both, and_parts}
use Rattle.er_base.specs.declared.release.Release.{Release}
use Rattle.des_block.specs.declared.triple_key.TripleKey.{TripleKey}
use Rattle.sapdu.specs.Spelling.{Au1, spelling}
use Rattle.safety_automaton.specs.Safety.{no_keys, Safety, Phase, Ready, WaitAu1, ConnectRequest, SafetyOutcome, octets_sent_in_outcome, step}
use Rattle.hdlc_station_model.specs.declared.phase.Phase.{Phase as Link_phase}
use Rattle.hdlc_station_model.specs.Frames.{Frame}
use Rattle.hdlc_station_model.specs.Stations.{Station, no_deed, is_up}
use Rattle.hdlc_pair_laws.specs.Keeping.{found}
use Rattle.x224_class2.specs.Segments.{messages_in}
use Rattle.x224_class2.specs.Tpdus.{GivenTpdu}
use Rattle.x224_class2.specs.Transport.{Transport, is_new, after_connect}
use Rattle.x224_class2.specs.declared.stage.Stage.{Stage}
use Rattle.x224_class2.specs.declared.stage.Stage.TheVariants as stages
use Rattle.er_end_model.specs.Layers.{Core, model}
use Rattle.er_end_model.specs.Steps.{with_release, connect_with_text, on_link_up, is_ready, with_safety_step, on_link_told}
use Rattle.er_end_pair_laws.specs.Openings.{EndLinkOpening}
use Rattle.er_end_pair_laws.specs.LawsBelow.{LawsBelow}
use Rattle.er_end_pair_laws.proofs.Constants.{side_in, own_number, flag_at, greeting}
use Rattle.er_end_pair_laws.proofs.Follows.{some_octets}
use Rattle.er_end_pair_laws.proofs.Own.{AlwaysOf, Stages, AliveOf, Joint, PhaseIs, heard, Busy}
use Rattle.er_end_pair_laws.proofs.Leaves.{up_lives, ended_gone}
use Rattle.er_end_pair_laws.proofs.Comes.{stages_at, edge_at}
use Rattle.er_end_pair_laws.proofs.Events.{State, Heard, gone_of_busy, heard_same, with_line, line_busy, line_gone, stages_phase, told_reason, line_behind, both_behind, payload_by}

-- ---- the link came up

is_new_only : (st : Stage) → is_new st ≡ true → st ≡ stages.New
is_new_only stages.New h = refl
is_new_only _ h = absurd cc

ready_joint : (s : EndLinkOpening) (p : Phase) → Joint s true stages.New p → (is_ready p ≡ true) × ((peer : ℕ) × (kmac : TripleKey) × (rb : ℕ) × (p ≡ Ready peer kmac rb) × (peer ≡ s.rbc) × (kmac ≡ s.kmac) × (rb ≡ s.rb))
ready_joint s (Ready peer kmac rb) j = (refl, (peer, kmac, rb, refl, j.1, j.2, j.3))
ready_joint s (WaitAu1 ra) j = absurd (let e = j.0 in let u : ⊥ = cc in u)
ready_joint s _ j = absurd j

-- a station that is up: of a caller that didn't connect yet, nothing else
stages_up : (c : Bool) (st : Stage) (due : Option (List ℕ)) (h gave : List GivenTpdu) (p q : Link_phase) → (c ≡ true → st ≡ stages.New → ⊥) → is_up q ≡ true → Stages c st due h gave p → Stages c st due h gave q
stages_up true stages.New due h gave p q none up a = absurd (none refl refl)
stages_up false stages.New due h gave p q none up a = a
stages_up true stages.Calling due h gave p q none up a = (a.0, a.1, up)
stages_up false stages.Calling due h gave p q none up a = a
stages_up c _ due h gave p q none up a = a

module _ (below : LawsBelow) (s : EndLinkOpening) (c : Bool) (k : ℕ) (w : List Frame) (x : Core) (f : Frame) (fs : List Frame) (y : Core) where
  abbrev line : Station
  line = line_behind below s c k w x f fs y

  abbrev x_line : Core
  x_line = with_line x line

  -- nothing was taken
  taken_same : x.line.deed ≡ no_deed → line.deed.payload ≡ None → line.taken ≡ x.line.taken
  taken_same quiet none =
      (below.received x.moment (found y.line f) x.line quiet).taken ∙ ap (λ (o : Option (List ℕ)). x.line.taken ++ option_to_list o) none ∙ append-nil x.line.taken

  -- the caller connects
  connects_by : x.line.deed ≡ no_deed → line.deed.payload ≡ None → is_up line.phase ≡ true → c ≡ true → x.upper.transport.stage ≡ stages.New → x.released ≡ None → Busy s c k w x (f ∷ fs) y
      → State s c k w (connect_with_text model (octets_sent_in_outcome (step no_keys x.safe.safety ConnectRequest).1) (with_safety_step model ConnectRequest (step no_keys x.safe.safety ConnectRequest) x_line)) fs y
  connects_by quiet none up role e live b =
      let t : Transport = x.upper.transport in
      let h : List GivenTpdu = heard x y in
      let r = below.received x.moment (found y.line f) x.line quiet in
      let same = taken_same quiet none in
      let p : Phase = x.safe.safety.phase in
      let j = ready_joint s p (subst (λ (b : Bool). Joint s b stages.New p) role (subst (λ (st : Stage). Joint s c st p) e b.trusting.joint)) in
      let peer : ℕ = j.1.0 in
      let kmac : TripleKey = j.1.1 in
      let rb : ℕ = j.1.2 in
      let side : x.safe.safety ≡ side_in s c (Ready peer kmac rb) = b.trusting.side_is ∙ ap (side_in s c) j.1.3 in
      let text : List ℕ = spelling (Au1 (own_number s c) 1 rb) (flag_at c) in
      let a : Safety × SafetyOutcome = step no_keys (side_in s c (Ready peer kmac rb)) ConnectRequest in
      let few : length text ≤ 13 = below.safety.few no_keys (side_in s c (Ready peer kmac rb)) ConnectRequest in
      let test : is_some_octets text ≡ true = lt-ltb 0 (length text) (some_octets text (Au1 (own_number s c) 1 rb) (flag_at c) refl) in
      let st = subst (λ (b : Bool). Stages b stages.New t.due h t.gave x.line.phase) role (stages_at s c x h stages.New e b.alive) in
      let q = edge_at s c x h stages.New e b.alive in
      let y' : Core = with_safety_step model ConnectRequest a x_line in
      let z : Core = record y' { upper = record (y'.upper) { transport = after_connect t text } } in
      let both = both_behind below s c k w x f fs y b in
      let hs = sym (heard_same x y line same) in
      subst (λ (sf : Safety). State s c k w (connect_with_text model (octets_sent_in_outcome (step no_keys sf ConnectRequest).1) (with_safety_step model ConnectRequest (step no_keys sf ConnectRequest) x_line)) fs y) (sym side)
      (subst (λ (d : Bool). State s c k w (if d then z else y') fs y) (sym test)
      (inl (
        live,
        record {
          beside = (both, r.handed ∙ b.beside.1, b.beside.2, b.beside.3);
          always = subst (λ (i : List GivenTpdu). AlwaysOf s c x_line i) hs b.always;
          told = b.told;
          alive = subst (λ (i : List GivenTpdu). AliveOf s c z i) hs (record {
            stages = subst (λ (b : Bool). Stages b stages.Calling (Some text) h t.gave line.phase) (sym role) (st.1, λ none. absurd (let u : ⊥ = cc in u), up);
            role_is = b.alive.role_is;
            size_is = b.alive.size_is;
            credit_is = b.alive.credit_is;
            joined_is = b.alive.joined_is;
            no_dr = b.alive.no_dr;
            no_dr_heard = b.alive.no_dr_heard;
            count = b.alive.count;
            final = b.alive.final;
            edge_is = q;
            due_is = (st.2, omega arith, λ agree. greets rb role j.1.6);
            awake = up_lives line.phase up;
          });
          trusting = record {
            joint = (role, j.1.4, j.1.5, j.1.6);
            side_is = refl;
            users_is = b.trusting.users_is;
            took_is = b.trusting.took_is;
            phase_is = λ agree. subst (λ (i : Phase). PhaseIs s c i (messages_in t.segments) x.upper.sent (messages_in t.contents) x.upper.accepted) j.1.3 (b.trusting.phase_is agree);
          };
        },
      )))
    where
      greets : (rb : ℕ) → c ≡ true → rb ≡ s.rb → spelling (Au1 (own_number s c) 1 rb) (flag_at c) ≡ greeting s c
      greets rb role same = subst (λ (b : Bool). spelling (Au1 (own_number s b) 1 rb) (flag_at b) ≡ greeting s b) (sym role) (ap (λ (n : ℕ). spelling (Au1 s.engine 1 n) (flag_at true)) same)

  -- nothing else comes of it
  up_not : x.line.deed ≡ no_deed → line.deed.payload ≡ None → is_up line.phase ≡ true → (c ≡ true → x.upper.transport.stage ≡ stages.New → ⊥) → x.released ≡ None → Busy s c k w x (f ∷ fs) y
      → State s c k w x_line fs y
  up_not quiet none up not_first live b =
      let r = below.received x.moment (found y.line f) x.line quiet in
      inl (
        live,
        line_busy s c k w x (f ∷ fs) fs y line (both_behind below s c k w x f fs y b) r.handed (taken_same quiet none) (up_lives line.phase up)
            (stages_up c x.upper.transport.stage x.upper.transport.due (heard x y) x.upper.transport.gave x.line.phase line.phase not_first up b.alive.stages) b,
      )

  up_by : x.line.deed ≡ no_deed → line.deed.payload ≡ None → line.deed.up ≡ true → x.released ≡ None → Busy s c k w x (f ∷ fs) y → State s c k w (on_link_up model x_line) fs y
  up_by quiet none came live b =
      let t = below.receives false x.moment (found y.line f) x.line quiet in
      let up = t.came came in
      let u : Transport = x.upper.transport in
      cond_both (u.is_caller && is_new u.stage && is_ready x.safe.safety.phase)
      (connect_with_text model (octets_sent_in_outcome (step no_keys x.safe.safety ConnectRequest).1) (with_safety_step model ConnectRequest (step no_keys x.safe.safety ConnectRequest) x_line)) x_line (λ z. State s c k w z fs y)
      (λ first.
      let p = and_parts (u.is_caller && is_new u.stage) (is_ready x.safe.safety.phase) first in
      let q = and_parts u.is_caller (is_new u.stage) p.0 in
      connects_by quiet none up (sym b.alive.role_is ∙ q.0) (is_new_only u.stage q.1) live b)
      (λ other. up_not quiet none up (λ role e.
      let j = ready_joint s x.safe.safety.phase (subst (λ (r : Bool). Joint s r stages.New x.safe.safety.phase) role (subst (λ (st : Stage). Joint s c st x.safe.safety.phase) e b.trusting.joint)) in
      true≢false (sym (ap (λ (r : Bool). r && is_new u.stage && is_ready x.safe.safety.phase) (b.alive.role_is ∙ role) ∙ ap (λ (st : Stage). is_new st && is_ready x.safe.safety.phase) e ∙ j.0) ∙ other)) live b)

  -- the station was released
  released_by : (why : Release) → x.line.deed ≡ no_deed → line.deed.payload ≡ None → line.deed.released ≡ Some why → Busy s c k w x (f ∷ fs) y → State s c k w (with_release why x_line) fs y
  released_by why quiet none e b =
      let r = below.received x.moment (found y.line f) x.line quiet in
      let t = below.receives false x.moment (found y.line f) x.line quiet in
      let both = both_behind below s c k w x f fs y b in
      inr (
        why,
        refl,
        ended_gone s c k w x_line fs y why (λ a. told_reason why line t.reason e both.0.5)
            (line_gone s c k w x (f ∷ fs) fs y line both r.handed (taken_same quiet none) (gone_of_busy s c k w x (f ∷ fs) y b)),
      )

  -- it told nothing
  nothing_by : x.line.deed ≡ no_deed → line.deed.payload ≡ None → line.deed.up ≡ false → line.deed.released ≡ None → x.released ≡ None → Busy s c k w x (f ∷ fs) y → State s c k w x_line fs y
  nothing_by quiet none not_up unreleased live b =
      let r = below.received x.moment (found y.line f) x.line quiet in
      let t = below.receives false x.moment (found y.line f) x.line quiet in
      inl (
        live,
        line_busy s c k w x (f ∷ fs) fs y line (both_behind below s c k w x f fs y b) r.handed (taken_same quiet none) (t.lives b.alive.awake unreleased)
            (stages_phase c x.upper.transport.stage x.upper.transport.due (heard x y) x.upper.transport.gave x.line.phase line.phase
            (λ asleep. elim (cases_Bool (is_up line.phase)) [ inl up ↦ absurd (true≢false (sym ((t.asleep asleep).1 up) ∙ not_up)) | inr down ↦ down ])
            (λ awake. (t.awake awake).1 unreleased) b.alive.stages) b,
      )

  pub link_by : (o : Option (List ℕ)) (up : Bool) (told : Option Release) → line.deed.payload ≡ o → line.deed.up ≡ up → line.deed.released ≡ told → x.line.deed ≡ no_deed
      → x.upper.transport.due ≡ None → x.released ≡ None → Busy s c k w x (f ∷ fs) y → Heard s c k w (on_link_told model s.finder o up told x_line) fs y told
  link_by (Some p) up told e1 e2 e3 quiet due live b =
      let a = payload_by below s c k w x f fs y p quiet e1 due live b in record { state = a.state; good = λ none. a.good }
  link_by None true told e1 e2 e3 quiet due live b = record { state = up_by quiet e1 e2 live b; good = λ none agree peer. up_live (x.upper.transport.is_caller && is_new x.upper.transport.stage && is_ready x.safe.safety.phase) }
    where
      up_live : (d : Bool) → (if d then connect_with_text model (octets_sent_in_outcome (step no_keys x.safe.safety ConnectRequest).1) (with_safety_step model ConnectRequest (step no_keys x.safe.safety ConnectRequest) x_line) else x_line).released ≡ None
      up_live true = connects_live (is_some_octets (octets_sent_in_outcome (step no_keys x.safe.safety ConnectRequest).1))
        where
          connects_live : (d : Bool) → (if d then record (with_safety_step model ConnectRequest (step no_keys x.safe.safety ConnectRequest) x_line) {
            upper = record ((with_safety_step model ConnectRequest (step no_keys x.safe.safety ConnectRequest) x_line).upper) { transport = after_connect x.upper.transport (octets_sent_in_outcome (step no_keys x.safe.safety ConnectRequest).1) };
          } else with_safety_step model ConnectRequest (step no_keys x.safe.safety ConnectRequest) x_line).released ≡ None
          connects_live true = live
          connects_live false = live
      up_live false = live
  link_by None false (Some why) e1 e2 e3 quiet due live b = record { state = released_by why quiet e1 e3 b; good = λ none. absurd (let u : ⊥ = cc in u) }
  link_by None false None e1 e2 e3 quiet due live b = record { state = nothing_by quiet e1 e2 e3 live b; good = λ none agree peer. live }
