-- A TPDU comes to a live end: what its transport and its safety side make of it.
use Rattle.std.proofs.Common.{◌≡◌, ℕ, ◌≤◌, Bool, false, not, List, [], ◌∷◌, ◌++◌, length, map, take, refl, sym, ◌∙◌, ap, subst, arith, lt-ltb}
use Rattle.std.specs.Prelude.{if◌then◌else◌}
use Rattle.er_base.specs.declared.release.Release.{Release}
use Rattle.safety_automaton.specs.Reports.{report_of}
use Rattle.safety_automaton.specs.Safety.{Safety, Phase, WaitAu1, Received, SafetyOutcome, SentAu2, SentAu3, SentAr, ReceivedAr, AcceptedDt, ReleasedLocally, ReleasedByPeer, octets_sent_in_outcome}
use Rattle.hdlc_station_model.specs.Frames.{Frame}
use Rattle.x224_class2.specs.Segments.{Segment, messages_in}
use Rattle.x224_class2.specs.Tpdus.{GivenTpdu, Cr}
use Rattle.x224_class2.specs.Transport.{Transport, after_accept}
use Rattle.x224_class2.specs.declared.stage.Stage.{Stage}
use Rattle.x224_class2.specs.declared.stage.Stage.TheVariants as stages
use Rattle.er_end_model.specs.Layers.{Core, model}
use Rattle.er_end_model.specs.Steps.{InCr, with_safety_step, on_safety_report, on_safety_release}
use Rattle.er_end_pair_laws.specs.Openings.{EndLinkOpening, Agree}
use Rattle.er_end_pair_laws.specs.LawsBelow.{LawsBelow}
use Rattle.er_end_pair_laws.proofs.Lists.{Each, flat_none, length_push}
use Rattle.er_end_pair_laws.proofs.Locals.{dr_of}
use Rattle.er_end_pair_laws.proofs.Follows.{Follows}
use Rattle.er_end_pair_laws.proofs.Own.{AlwaysOf, Proper, Said, Stages, EdgeIs, AliveOf, PhaseIs, Trusting, TrustingOf, Own, block, Gone}
use Rattle.er_end_pair_laws.proofs.Leaves.{leave_ok}
use Rattle.er_end_pair_laws.proofs.Arrives.{Arrived, live_arrived, parted, always_heard}
use Rattle.er_end_pair_laws.proofs.Hears.{Hears}

-- ---- what was heard with this TPDU

abbrev pub Side : Core → Transport
Side x = x.upper.transport

-- the end with another transport
abbrev pub with_transport : Core → Transport → Core
with_transport x t = record x { upper = record (x.upper) { transport = t } }

-- the end behind a step of its safety side
abbrev pub spoke : Core → List ℕ → Safety → SafetyOutcome → Core
spoke x text next o = with_safety_step model (Received text) (next, o) x

-- the stage of a live end and its phase, as equations
abbrev pub At : Core → Stage → Type 0
At x st = x.upper.transport.stage ≡ st

pub stages_at : (s : EndLinkOpening) (c : Bool) (x : Core) (h : List GivenTpdu) (st : Stage) → At x st → AliveOf s c x h → Stages c st (Side x).due h (Side x).gave x.line.phase
stages_at s c x h st e a = subst (λ (q : Stage). Stages c q (Side x).due h (Side x).gave x.line.phase) e a.stages

pub edge_at : (s : EndLinkOpening) (c : Bool) (x : Core) (h : List GivenTpdu) (st : Stage) → At x st → AliveOf s c x h → EdgeIs st (Side x).acked (Side x).edge s.settings.credit
edge_at s c x h st e a = subst (λ (q : Stage). EdgeIs q (Side x).acked (Side x).edge s.settings.credit) e a.edge_is

pub phase_at : (s : EndLinkOpening) (c : Bool) (x : Core) (p : Phase) → x.safe.safety.phase ≡ p → TrustingOf s c x → Agree s
    → PhaseIs s c p (messages_in (Side x).segments) x.upper.sent (messages_in (Side x).contents) x.upper.accepted
phase_at s c x p e v a =
    subst (λ (q : Phase). PhaseIs s c q (messages_in (Side x).segments) x.upper.sent (messages_in (Side x).contents) x.upper.accepted) e (v.phase_is a)

-- released by a text
pub gone_of : (s : EndLinkOpening) (c : Bool) (k : ℕ) (w : List Frame) (x : Core) (l : List Frame) (y : Core) (h : List GivenTpdu) (g : GivenTpdu) (t : Transport) (text : List ℕ) (next : Safety) (o : SafetyOutcome)
    → Hears s c k w x l y h g → t.gave ≡ (Side x).gave → t.segments ≡ (Side x).segments → AlwaysOf s c (with_transport x t) (h ++ g ∷ [])
    → Gone s c k w (spoke (with_transport x t) text next o) l y
gone_of s c k w x l y h g t text next o b same segs v = record {
  beside = (
    b.beside.0,
    b.beside.1 ∙ ap (map block) (sym same),
    b.beside.2,
    subst (λ (q : List GivenTpdu). Own s (not c) y (take (length y.line.taken) q)) (sym same) b.beside.3,
  );
  always = subst (λ (q : List GivenTpdu). AlwaysOf s c (with_transport x t) q) (sym b.heard_is) v;
  told = λ a.
      let d = b.told a in
      record {
        proper = subst (Each (Proper s c)) (sym same) d.proper;
        said = subst (λ (q : List Segment). Said s c (messages_in q) x.upper.sent) (sym segs) d.said;
        good = d.good;
      };
}

-- ---- CR: the callee is called

module _ (below : LawsBelow) (s : EndLinkOpening) (k : ℕ) (w : List Frame) (x : Core) (l : List Frame) (y : Core) (h : List GivenTpdu) (user : List ℕ) where
  abbrev pub the_cr : GivenTpdu
  the_cr = Cr s.settings.credit s.settings.size user

  abbrev pub called_side : Transport
  called_side = record (Side x) { stage = stages.Called; edge = s.settings.credit }

  called_always : At x stages.New → Hears s false k w x l y h the_cr → AlwaysOf s false (with_transport x called_side) (h ++ the_cr ∷ [])
  called_always e b =
      let q = edge_at s false x h stages.New e b.alive in
      let v = b.always in
      always_heard s false (Side x).segments (Side x).given (Side x).acked (Side x).edge (Side x).newest (Side x).contents (Side x).gave x.upper.sent x.upper.accepted h the_cr s.settings.credit refl refl
      (omega (arith, v.gives.below, q.0)) (omega arith) v

  called_left : (text : List ℕ) (next : Safety) (o : SafetyOutcome) (why : Release) (octets : List ℕ) → length octets ≤ 32 → (Agree s → ⊥) → At x stages.New → Hears s false k w x l y h the_cr
      → Arrived s false k w (on_safety_release model why octets (spoke (with_transport x called_side) text next o)) l y
  called_left text next o why octets short none e b =
      parted below s false k w (spoke (with_transport x called_side) text next o) l y why octets short
      (leave_ok false stages.New (Side x).due h (Side x).gave x.line.phase b.due (stages_at s false x h stages.New e b.alive)) none
      (gone_of s false k w x l y h the_cr called_side text next o b refl refl (called_always e b))

  pub called_by : (ra : ℕ) (next : Safety) (o : SafetyOutcome) → Follows s false (WaitAu1 ra) user next o → At x stages.New → x.safe.safety.phase ≡ WaitAu1 ra
      → Hears s false k w x l y h the_cr → Arrived s false k w (on_safety_report model InCr (report_of o) (octets_sent_in_outcome o) (spoke (with_transport x called_side) user next o)) l y
  called_by ra next (SentAu2 key sealed octets) f e p b =
      let st = stages_at s false x h stages.New e b.alive in
      let q = edge_at s false x h stages.New e b.alive in
      let z : Core = spoke (with_transport x (after_accept called_side octets)) user next (SentAu2 key sealed octets) in
      subst (λ (t : Bool). Arrived s false k w (if t then z else spoke (with_transport x called_side) user next (SentAu2 key sealed octets)) l y) (sym (lt-ltb 0 (length octets) f.4))
      (live_arrived s false k w z l y b.live (record {
        beside = b.beside;
        always = subst (λ (r : List GivenTpdu). AlwaysOf s false z r) (sym b.heard_is) (called_always e b);
        told = b.told;
        alive = subst (λ (r : List GivenTpdu). AliveOf s false z r) (sym b.heard_is) (record {
          stages = (omega (arith, length_push h the_cr), λ none. absurd (let u : ⊥ = cc in u));
          role_is = b.alive.role_is;
          size_is = b.alive.size_is;
          credit_is = b.alive.credit_is;
          joined_is = b.alive.joined_is;
          no_dr = b.alive.no_dr;
          no_dr_heard = ap length (flat_none dr_of h the_cr refl) ∙ b.alive.no_dr_heard;
          count = b.alive.count;
          final = b.alive.final;
          edge_is = omega arith;
          due_is = (st.2, f.5, λ a. (f.6 a).1);
          awake = b.alive.awake;
        });
        trusting = subst (λ (n : Safety). Trusting s false stages.Open n (Side x).segments (Side x).contents x.upper.sent x.upper.accepted (Side x).taken x.upper.used) (sym f.2) (record {
          joint = refl;
          side_is = refl;
          users_is = b.trusting.users_is;
          took_is = b.trusting.took_is;
          phase_is = λ a. let v = phase_at s false x (WaitAu1 ra) p b.trusting a in (v.0, v.1, v.2, v.3, (f.6 a).0);
        });
      }))
  called_by ra next (SentAu3 key verified sealed octets) f e p b = absurd (let q = f.2 in let u : ⊥ = cc in u)
  called_by ra next (SentAr connection verified sealed octets) f e p b = absurd (let q = f.0 in let u : ⊥ = cc in u)
  called_by ra next (ReceivedAr connection verified) f e p b = absurd (let q = f.0 in let u : ⊥ = cc in u)
  called_by ra next (AcceptedDt key u verified) f e p b = absurd (let q = f.1 in let u : ⊥ = cc in u)
  called_by ra next (ReleasedLocally why octets) f e p b = called_left user next (ReleasedLocally why octets) why octets f.0 f.1 e b
  called_by ra next (ReleasedByPeer why) f e p b = called_left user next (ReleasedByPeer why) why [] (omega arith) f e b
  called_by ra next _ f e p b = absurd f
