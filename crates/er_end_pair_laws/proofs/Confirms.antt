-- A CC comes to a caller, a message comes to any live end.
use Rattle.std.proofs.Common.{◌≡◌, ℕ, ◌+◌, ◌≤◌, inr, Bool, true, ◌&&◌, List, [], ◌∷◌, ◌++◌, length, refl, sym, ◌∙◌, ap, subst, arith, lt-ltb, true≢false, append-nil}
use Rattle.hdlc_station_model.specs.Receiving.{is_some_octets}
use Rattle.std.specs.Prelude.{nat_lt}
use Rattle.std.proofs.lemmas.Bool.{cond_both}
use Rattle.er_base.specs.declared.release.Release.{Release}
use Rattle.des_block.specs.declared.triple_key.TripleKey.{TripleKey}
use Rattle.safety_automaton.specs.Reports.{report_of}
use Rattle.safety_automaton.specs.Safety.{Safety, WaitAu2, SafetyOutcome, SentAu2, SentAu3, SentAr, ReceivedAr, AcceptedDt, ReleasedLocally, ReleasedByPeer, octets_sent_in_outcome}
use Rattle.hdlc_station_model.specs.Frames.{Frame}
use Rattle.x224_class2.specs.Segments.{Segment, segments_of, messages_in}
use Rattle.x224_class2.specs.Tpdus.{GivenTpdu, Cc, Dt}
use Rattle.x224_class2.specs.Transport.{Transport, after_hand, waiting_count}
use Rattle.x224_class2.specs.declared.stage.Stage.TheVariants as stages
use Rattle.er_end_model.specs.Layers.{Core, model}
use Rattle.er_end_model.specs.Steps.{InCc, on_safety_report, on_safety_release}
use Rattle.er_end_pair_laws.specs.Openings.{EndLinkOpening, Agree}
use Rattle.er_end_pair_laws.specs.LawsBelow.{LawsBelow}
use Rattle.er_end_pair_laws.proofs.Lists.{Head, number, number_push, Ends, flat_none, flat_one, length_push}
use Rattle.er_end_pair_laws.proofs.Locals.{dt_of, ak_of, dr_of, dcs}
use Rattle.er_end_pair_laws.proofs.Constants.{opening_text, said_all}
use Rattle.er_end_pair_laws.proofs.Follows.{Follows}
use Rattle.er_end_pair_laws.proofs.Own.{Always, AlwaysOf, AliveOf, Trusting, users, Busy}
use Rattle.er_end_pair_laws.proofs.Leaves.{leave_ok}
use Rattle.er_end_pair_laws.proofs.Arrives.{Arrived, live_arrived, parted, always_heard, always_handed, said_more}
use Rattle.er_end_pair_laws.proofs.Hears.{Hears, none_waiting}
use Rattle.er_end_pair_laws.proofs.Comes.{At, Side, with_transport, spoke, stages_at, edge_at, phase_at, gone_of}

-- one thing said where nothing was said before
pub first_said : (s : EndLinkOpening) (c : Bool) (ms sent : List (List ℕ)) (m : List ℕ) → ms ≡ [] → sent ≡ [] → m ≡ opening_text s c → ms ++ m ∷ [] ≡ said_all s c sent
first_said s c ms sent m e n o =
    ap (λ (t : List (List ℕ)). t ++ m ∷ []) e ∙ ap (λ (t : List ℕ). t ∷ []) o ∙ ap (λ (t : List (List ℕ)). said_all s c t) (sym n)

-- ---- CC: the caller is connected

module _ (below : LawsBelow) (s : EndLinkOpening) (k : ℕ) (w : List Frame) (x : Core) (l : List Frame) (y : Core) (h : List GivenTpdu) (user : List ℕ) where
  abbrev pub the_cc : GivenTpdu
  the_cc = Cc s.settings.credit s.settings.size user

  abbrev pub open_side : Transport
  open_side = record (Side x) { stage = stages.Open; edge = s.settings.credit }

  open_always : At x stages.Calling → Hears s true k w x l y h the_cc → AlwaysOf s true (with_transport x open_side) (h ++ the_cc ∷ [])
  open_always e b =
      let q = edge_at s true x h stages.Calling e b.alive in
      let v = b.always in
      always_heard s true (Side x).segments (Side x).given (Side x).acked (Side x).edge (Side x).newest (Side x).contents (Side x).gave x.upper.sent x.upper.accepted h the_cc s.settings.credit refl refl
      (omega (arith, v.gives.below, q.0)) (omega arith) v

  open_alive : At x stages.Calling → Hears s true k w x l y h the_cc → AliveOf s true (with_transport x open_side) (h ++ the_cc ∷ [])
  open_alive e b =
      let st = stages_at s true x h stages.Calling e b.alive in
      let q = edge_at s true x h stages.Calling e b.alive in
      record {
        stages = (omega (arith, length_push h the_cc), st.1);
        role_is = b.alive.role_is;
        size_is = b.alive.size_is;
        credit_is = b.alive.credit_is;
        joined_is = b.alive.joined_is;
        no_dr = b.alive.no_dr;
        no_dr_heard = ap length (flat_none dr_of h the_cc refl) ∙ b.alive.no_dr_heard;
        count = b.alive.count;
        final = b.alive.final;
        edge_is = omega arith;
        due_is = b.alive.due_is;
        awake = b.alive.awake;
      }

  confirmed_left : (text : List ℕ) (next : Safety) (o : SafetyOutcome) (why : Release) (octets : List ℕ) → length octets ≤ 32 → (Agree s → ⊥) → At x stages.Calling → Hears s true k w x l y h the_cc
      → Arrived s true k w (on_safety_release model why octets (spoke (with_transport x open_side) text next o)) l y
  confirmed_left text next o why octets short none e b =
      parted below s true k w (spoke (with_transport x open_side) text next o) l y why octets short
      (leave_ok true stages.Calling (Side x).due h (Side x).gave x.line.phase b.due (stages_at s true x h stages.Calling e b.alive)) none
      (gone_of s true k w x l y h the_cc open_side text next o b refl refl (open_always e b))

  -- AU3 was handed
  confirmed_handed : (peer rb : ℕ) (kmac : TripleKey) (next : Safety) (key : TripleKey) (verified sealed octets : List ℕ) → Follows s true (WaitAu2 peer kmac rb) user next (SentAu3 key verified sealed octets)
      → At x stages.Calling → x.safe.safety.phase ≡ WaitAu2 peer kmac rb → Hears s true k w x l y h the_cc
      → Arrived s true k w (spoke (with_transport x (after_hand open_side octets)) user next (SentAu3 key verified sealed octets)) l y
  confirmed_handed peer rb kmac next key verified sealed octets f e p b =
      let t : Transport = Side x in
      let o : SafetyOutcome = SentAu3 key verified sealed octets in
      let v = open_always e b in
      let segs : List Segment = t.segments ++ segments_of s.settings.size octets in
      let sized : t.segments ++ segments_of t.size octets ≡ segs = ap (λ (n : ℕ). t.segments ++ segments_of n octets) b.alive.size_is in
      let said = said_more below s t.segments octets b.always.cuts in
      let z : Core = spoke (with_transport x (after_hand open_side octets)) user next o in
      let always = always_handed below s true t.segments t.given t.acked s.settings.credit t.newest t.contents t.gave x.upper.sent x.upper.sent x.upper.accepted (h ++ the_cc ∷ []) octets f.6 (omega (arith, f.7))
      (sym (ap (λ (u : List (List ℕ)). x.upper.sent ++ u) f.5 ∙ append-nil x.upper.sent)) b.always.sendable v in
      let out : Agree s → messages_in segs ≡ said_all s true x.upper.sent = λ a.
      let q = phase_at s true x (WaitAu2 peer kmac rb) p b.trusting a in
      said ∙ first_said s true (messages_in t.segments) x.upper.sent octets q.0 q.1 (f.8 a).1 in
      live_arrived s true k w z l y b.live (subst (λ (ss : List Segment). Busy s true k w (spoke (with_transport x (record open_side { segments = ss })) user next o) l y) (sym sized) (record {
        beside = b.beside;
        always = subst (λ (r : List GivenTpdu). AlwaysOf s true (with_transport x (record open_side { segments = segs })) r) (sym b.heard_is) always;
        told = λ a. let d = b.told a in record { proper = d.proper; said = inr (out a); good = d.good };
        alive = subst (λ (r : List GivenTpdu). AliveOf s true (with_transport x open_side) r) (sym b.heard_is) (open_alive e b);
        trusting = subst (λ (n : Safety). Trusting s true stages.Open n segs t.contents x.upper.sent x.upper.accepted t.taken x.upper.used) (sym f.3) (record {
          joint = refl;
          side_is = refl;
          users_is = b.trusting.users_is;
          took_is = b.trusting.took_is;
          phase_is = λ a.
              let q = phase_at s true x (WaitAu2 peer kmac rb) p b.trusting a in
              (out a ∙ ap (said_all s true) q.1, q.1, q.2, q.3, (f.8 a).0);
        });
      }))

  -- it was not, which isn't where the keys agree
  confirmed_not : (peer rb : ℕ) (kmac : TripleKey) (next : Safety) (key : TripleKey) (verified sealed octets : List ℕ) → Follows s true (WaitAu2 peer kmac rb) user next (SentAu3 key verified sealed octets)
      → (Agree s → ⊥) → At x stages.Calling → Hears s true k w x l y h the_cc
      → Arrived s true k w (spoke (with_transport x open_side) user next (SentAu3 key verified sealed octets)) l y
  confirmed_not peer rb kmac next key verified sealed octets f none e b =
      let t : Transport = Side x in
      let o : SafetyOutcome = SentAu3 key verified sealed octets in
      let z : Core = spoke (with_transport x open_side) user next o in
      live_arrived s true k w z l y b.live (record {
        beside = b.beside;
        always = subst (λ (r : List GivenTpdu). AlwaysOf s true (with_transport x open_side) r) (sym b.heard_is) (open_always e b);
        told = b.told;
        alive = subst (λ (r : List GivenTpdu). AliveOf s true (with_transport x open_side) r) (sym b.heard_is) (open_alive e b);
        trusting = subst (λ (n : Safety). Trusting s true stages.Open n t.segments t.contents x.upper.sent x.upper.accepted t.taken x.upper.used) (sym f.3) (record {
          joint = refl;
          side_is = refl;
          users_is = b.trusting.users_is;
          took_is = b.trusting.took_is;
          phase_is = λ a. absurd (none a);
        });
      })

  pub confirmed_by : (peer rb : ℕ) (kmac : TripleKey) (next : Safety) (o : SafetyOutcome) → Follows s true (WaitAu2 peer kmac rb) user next o → At x stages.Calling
      → x.safe.safety.phase ≡ WaitAu2 peer kmac rb → Hears s true k w x l y h the_cc
      → Arrived s true k w (on_safety_report model InCc (report_of o) (octets_sent_in_outcome o) (spoke (with_transport x open_side) user next o)) l y
  confirmed_by peer rb kmac next (SentAu2 key sealed octets) f e p b = absurd (let q = f.1 in let u : ⊥ = cc in u)
  confirmed_by peer rb kmac next (SentAu3 key verified sealed octets) f e p b =
      let o : SafetyOutcome = SentAu3 key verified sealed octets in
      let test : Bool = is_some_octets octets && nat_lt (waiting_count open_side) 16 in
      cond_both test (spoke (with_transport x (after_hand open_side octets)) user next o) (spoke (with_transport x open_side) user next o) (λ z. Arrived s true k w z l y)
      (λ yes'. confirmed_handed peer rb kmac next key verified sealed octets f e p b)
      (λ no'. confirmed_not peer rb kmac next key verified sealed octets f (λ a.
      let q = phase_at s true x (WaitAu2 peer kmac rb) p b.trusting a in
      true≢false (sym (ap (λ (t : Bool). t && nat_lt (waiting_count open_side) 16) (lt-ltb 0 (length octets) f.6) ∙ none_waiting s.settings.size (Side x).given (Side x).segments b.always.cuts q.0) ∙ no')) e b)
  confirmed_by peer rb kmac next (SentAr connection verified sealed octets) f e p b = absurd (let q = f.0 in let u : ⊥ = cc in u)
  confirmed_by peer rb kmac next (ReceivedAr connection verified) f e p b = absurd (let q = f.0 in let u : ⊥ = cc in u)
  confirmed_by peer rb kmac next (AcceptedDt key u verified) f e p b = absurd (let q = f.1 in let u : ⊥ = cc in u)
  confirmed_by peer rb kmac next (ReleasedLocally why octets) f e p b = confirmed_left user next (ReleasedLocally why octets) why octets f.0 f.1 e b
  confirmed_by peer rb kmac next (ReleasedByPeer why) f e p b = confirmed_left user next (ReleasedByPeer why) why [] (omega arith) f e b
  confirmed_by peer rb kmac next _ f e p b = absurd f

-- ---- a DT

-- what was heard and got, with this segment
pub always_got : LawsBelow → (s : EndLinkOpening) (c : Bool) (segs : List Segment) (given acked edge newest : ℕ) (contents contents' : List Segment) (gave : List GivenTpdu)
    (sent accepted : List (List ℕ)) (h : List GivenTpdu) (last : Bool) (n : ℕ) (user : List ℕ) → n ≡ length contents → contents' ≡ contents ++ (last, user) ∷ []
    → Head accepted (users (messages_in contents'))
    → Always s c segs given acked edge newest contents gave sent accepted h
    → Always s c segs given acked edge newest contents' gave sent accepted (h ++ Dt last n user ∷ [])
always_got below s c segs given acked edge newest contents contents' gave sent accepted h last n user same e within v = record {
  gives = record {
    all = v.gives.all;
    most = v.gives.most;
    below = v.gives.below;
    near = v.gives.near;
    behind = v.gives.behind;
    tells = v.gives.tells;
    lag = omega (arith, v.gives.lag, ap length e, length_push contents (last, user));
  };
  gets = record {
    all = flat_one dt_of h (Dt last n user) (n, (last, user)) refl ∙ ap (λ (t : List (ℕ × Segment)). t ++ (n, (last, user)) ∷ []) v.gets.all
        ∙ sym (ap (number 0) e ∙ number_push 0 contents (last, user) ∙ ap (λ (m : ℕ). number 0 contents ++ (m, (last, user)) ∷ []) (let q : 0 + length contents ≡ n = omega arith in q));
    last = subst (λ (t : List ℕ). Ends 0 t acked) (sym (flat_none ak_of h (Dt last n user) refl)) v.gets.last;
  };
  cuts = v.cuts;
  opens = v.opens;
  dc_few = subst (λ (t : List ℕ). length (dcs gave) ≤ length t) (sym (flat_none dr_of h (Dt last n user) refl)) v.dc_few;
  out = v.out;
  within = within;
  fits = v.fits;
  sendable = v.sendable;
}
