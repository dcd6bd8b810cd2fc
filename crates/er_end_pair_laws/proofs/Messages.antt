-- A DT comes to a live end: a part of a message, or the last one.
use Rattle.std.proofs.Common.{◌≡◌, ℕ, ◌+◌, ◌≤◌, inr, Bool, true, false, not, ◌&&◌, List, [], ◌∷◌, ◌++◌, length, Some, refl, sym, ◌∙◌, ap, subst, arith, lt-ltb, true≢false, append-nil}
use Rattle.hdlc_station_model.specs.Receiving.{is_some_octets}
use Rattle.std.specs.Prelude.{nat_lt}
use Rattle.std.proofs.lemmas.Bool.{cond_both}
use Rattle.std.proofs.lemmas.List.{map-append}
use Rattle.er_base.specs.declared.release.Release.{Release}
use Rattle.des_block.specs.declared.triple_key.TripleKey.{TripleKey}
use Rattle.safety_automaton.specs.Reports.{report_of}
use Rattle.safety_automaton.specs.Safety.{Safety, Connection, Phase, WaitAu3, WaitAr, Connected, SafetyOutcome, SentAu2, SentAu3, SentAr, ReceivedAr, AcceptedDt, ReleasedLocally, ReleasedByPeer, octets_sent_in_outcome}
use Rattle.hdlc_station_model.specs.Frames.{Frame}
use Rattle.x224_class2.specs.Segments.{Segment, segments_of, messages_in, text_so_far}
use Rattle.x224_class2.specs.Tpdus.{GivenTpdu, Dt}
use Rattle.x224_class2.specs.Transport.{Transport, after_hand, after_taken, waiting_count, is_open}
use Rattle.x224_class2.specs.declared.stage.Stage.{Stage}
use Rattle.x224_class2.specs.declared.stage.Stage.TheVariants as stages
use Rattle.er_end_model.specs.Layers.{Core, model}
use Rattle.er_end_model.specs.Steps.{InDt, on_safety_report, on_safety_release}
use Rattle.er_end_pair_laws.specs.Openings.{EndLinkOpening, Agree}
use Rattle.er_end_pair_laws.specs.LawsBelow.{LawsBelow}
use Rattle.er_end_pair_laws.proofs.Lists.{Head, head_more, head_equal, flat_none, length_push}
use Rattle.er_end_pair_laws.proofs.Segments.{messages_last, messages_same}
use Rattle.er_end_pair_laws.proofs.Locals.{dr_of}
use Rattle.er_end_pair_laws.proofs.Constants.{side_in, opening_text, sealed_text, said_all, users_of}
use Rattle.er_end_pair_laws.proofs.Follows.{Follows, Awaits}
use Rattle.er_end_pair_laws.proofs.Own.{AlwaysOf, Alive, AliveOf, Joint, PhaseIs, Trusting, users, Busy}
use Rattle.er_end_pair_laws.proofs.Leaves.{leave_ok}
use Rattle.er_end_pair_laws.proofs.Arrives.{Arrived, live_arrived, parted, always_handed, said_more, users_more}
use Rattle.er_end_pair_laws.proofs.Hears.{Hears, none_waiting}
use Rattle.er_end_pair_laws.proofs.Comes.{At, Side, with_transport, spoke, stages_at, edge_at, phase_at, gone_of}
use Rattle.er_end_pair_laws.proofs.Confirms.{first_said, always_got}

module _ (below : LawsBelow) (s : EndLinkOpening) (c : Bool) (k : ℕ) (w : List Frame) (x : Core) (l : List Frame) (y : Core) (h : List GivenTpdu) (last : Bool) (n : ℕ) (user : List ℕ) where
  abbrev pub the_dt : GivenTpdu
  the_dt = Dt last n user

  abbrev pub got_side : Transport
  got_side = record (Side x) { contents = (Side x).contents ++ (last, user) ∷ [] }

  got_always : Hears s c k w x l y h the_dt → n ≡ length (Side x).contents → Head x.upper.accepted (users (messages_in got_side.contents)) → AlwaysOf s c (with_transport x got_side) (h ++ the_dt ∷ [])
  got_always b same within =
      always_got below s c (Side x).segments (Side x).given (Side x).acked (Side x).edge (Side x).newest (Side x).contents got_side.contents (Side x).gave x.upper.sent x.upper.accepted h last n user same refl
      within b.always

  got_alive : At x stages.Open → Hears s c k w x l y h the_dt → AliveOf s c (with_transport x got_side) (h ++ the_dt ∷ [])
  got_alive e b =
      let st = stages_at s c x h stages.Open e b.alive in
      let t : Transport = Side x in
      let q = edge_at s c x h stages.Open e b.alive in
      subst (λ (z : Stage). Alive s c z t.is_caller t.credit t.size t.due t.gave (h ++ the_dt ∷ []) t.given t.acked t.edge t.newest x.joined x.line.phase) (sym e) (record {
        stages = (omega (arith, length_push h the_dt), st.1);
        role_is = b.alive.role_is;
        size_is = b.alive.size_is;
        credit_is = b.alive.credit_is;
        joined_is = b.alive.joined_is;
        no_dr = b.alive.no_dr;
        no_dr_heard = ap length (flat_none dr_of h the_dt refl) ∙ b.alive.no_dr_heard;
        count = b.alive.count;
        final = b.alive.final;
        edge_is = q;
        due_is = b.alive.due_is;
        awake = b.alive.awake;
      })

-- ---- a part of a message

pub part_comes : (below : LawsBelow) (s : EndLinkOpening) (c : Bool) (k : ℕ) (w : List Frame) (x : Core) (l : List Frame) (y : Core) (h : List GivenTpdu) (n : ℕ) (user : List ℕ)
    → At x stages.Open → n ≡ length (Side x).contents → Hears s c k w x l y h (Dt false n user)
    → Arrived s c k w (with_transport x (got_side below s c k w x l y h false n user)) l y
part_comes below s c k w x l y h n user e same b =
    let t : Transport = Side x in
    let g : Transport = got_side below s c k w x l y h false n user in
    let z : Core = with_transport x g in
    let m : messages_in g.contents ≡ messages_in t.contents = messages_same below.parts t.contents user in
    live_arrived s c k w z l y b.live (record {
      beside = b.beside;
      always = subst (λ (r : List GivenTpdu). AlwaysOf s c z r) (sym b.heard_is)
          (got_always below s c k w x l y h false n user b same (subst (λ (ms : List (List ℕ)). Head x.upper.accepted (users ms)) (sym m) b.always.within));
      told = b.told;
      alive = subst (λ (r : List GivenTpdu). AliveOf s c z r) (sym b.heard_is) (got_alive below s c k w x l y h false n user e b);
      trusting = record {
        joint = b.trusting.joint;
        side_is = b.trusting.side_is;
        users_is = ap users m ∙ b.trusting.users_is;
        took_is = b.trusting.took_is ∙ sym (ap (λ (ms : List (List ℕ)). length ms + x.upper.used) m);
        phase_is = λ a. subst (λ (ms : List (List ℕ)). PhaseIs s c x.safe.safety.phase (messages_in t.segments) x.upper.sent ms x.upper.accepted) (sym m) (b.trusting.phase_is a);
      };
    })

-- ---- the last part

module _ (below : LawsBelow) (s : EndLinkOpening) (c : Bool) (k : ℕ) (w : List Frame) (x : Core) (l : List Frame) (y : Core) (h : List GivenTpdu) (n : ℕ) (user : List ℕ) where
  abbrev the_last : GivenTpdu
  the_last = Dt true n user

  abbrev whole_side : Transport
  whole_side = got_side below s c k w x l y h true n user

  abbrev pub whole : List ℕ
  whole = text_so_far (Side x).contents ++ user

  more_messages : messages_in whole_side.contents ≡ messages_in (Side x).contents ++ whole ∷ []
  more_messages = messages_last below.parts (Side x).contents user

  more_users : users (messages_in whole_side.contents) ≡ users (messages_in (Side x).contents) ++ users_of whole
  more_users = ap users more_messages ∙ users_more (messages_in (Side x).contents) whole

  -- what was accepted before
  whole_always : n ≡ length (Side x).contents → Hears s c k w x l y h the_last → AlwaysOf s c (with_transport x whole_side) (h ++ the_last ∷ [])
  whole_always same b =
      got_always below s c k w x l y h true n user b same
      (subst (Head x.upper.accepted) (sym more_users) (head_more x.upper.accepted (users (messages_in (Side x).contents)) (users_of whole) b.always.within))

  whole_left : (next : Safety) (o : SafetyOutcome) (why : Release) (octets : List ℕ) → length octets ≤ 32 → (Agree s → ⊥) → At x stages.Open → n ≡ length (Side x).contents → Hears s c k w x l y h the_last
      → Arrived s c k w (on_safety_release model why octets (spoke (with_transport x whole_side) whole next o)) l y
  whole_left next o why octets short none e same b =
      parted below s c k w (spoke (with_transport x whole_side) whole next o) l y why octets short
      (leave_ok c stages.Open (Side x).due h (Side x).gave x.line.phase b.due (stages_at s c x h stages.Open e b.alive)) none
      (gone_of s c k w x l y h the_last whole_side whole next o b refl refl (whole_always same b))

  -- a message of the set-up: one more is taken
  set_up_trusting : (next : Safety) (q : Phase) → At x stages.Open → next ≡ side_in s c q → Joint s c stages.Open q → users_of whole ≡ [] → Hears s c k w x l y h the_last
      → (segs : List Segment) → (Agree s → PhaseIs s c q (messages_in segs) x.upper.sent (messages_in whole_side.contents) x.upper.accepted)
      → Trusting s c (Side x).stage next segs whole_side.contents x.upper.sent x.upper.accepted ((Side x).taken + 1) x.upper.used
  set_up_trusting next q e is joint no_user b segs phase =
      subst (λ (z : Stage). Trusting s c z next segs whole_side.contents x.upper.sent x.upper.accepted ((Side x).taken + 1) x.upper.used) (sym e)
      (subst (λ (n : Safety). Trusting s c stages.Open n segs whole_side.contents x.upper.sent x.upper.accepted ((Side x).taken + 1) x.upper.used) (sym is) (record {
        joint = joint;
        side_is = refl;
        users_is = more_users ∙ ap (λ (u : List (List ℕ)). users (messages_in (Side x).contents) ++ u) no_user ∙ append-nil (users (messages_in (Side x).contents)) ∙ b.trusting.users_is;
        took_is = omega (arith, b.trusting.took_is, ap length more_messages, length_push (messages_in (Side x).contents) whole);
        phase_is = phase;
      }))

  -- AU3 came, and AR was handed
  au3_handed : (connection : Connection) (next : Safety) (verified sealed octets : List ℕ) → Follows s c (WaitAu3 connection) whole next (SentAr connection verified sealed octets)
      → (Agree s → Awaits s c (WaitAu3 connection) whole) → c ≡ false → At x stages.Open → n ≡ length (Side x).contents → x.safe.safety.phase ≡ WaitAu3 connection → Hears s c k w x l y h the_last
      → Arrived s c k w (record (spoke (with_transport x (after_hand (after_taken whole_side) octets)) whole next (SentAr connection verified sealed octets)) { connected = Some connection.peer }) l y
  au3_handed connection next verified sealed octets f awaits role e same p b =
      let t : Transport = Side x in
      let o : SafetyOutcome = SentAr connection verified sealed octets in
      let v = whole_always same b in
      let segs : List Segment = t.segments ++ segments_of s.settings.size octets in
      let sized : t.segments ++ segments_of t.size octets ≡ segs = ap (λ (n : ℕ). t.segments ++ segments_of n octets) b.alive.size_is in
      let said = said_more below s t.segments octets b.always.cuts in
      let always = always_handed below s c t.segments t.given t.acked t.edge t.newest whole_side.contents t.gave x.upper.sent x.upper.sent x.upper.accepted (h ++ the_last ∷ []) octets f.4 (omega (arith, f.5))
      (sym (ap (λ (u : List (List ℕ)). x.upper.sent ++ u) f.3 ∙ append-nil x.upper.sent)) b.always.sendable v in
      let out : Agree s → messages_in segs ≡ said_all s c x.upper.sent = λ a.
      let q = phase_at s c x (WaitAu3 connection) p b.trusting a in
      said ∙ first_said s c (messages_in t.segments) x.upper.sent octets q.0 q.1 ((f.6 a).2 ∙ ap (opening_text s) (sym role)) in
      let came : Agree s → messages_in whole_side.contents ≡ said_all s (not c) x.upper.accepted = λ a.
      let q = phase_at s c x (WaitAu3 connection) p b.trusting a in
      more_messages ∙ first_said s (not c) (messages_in t.contents) x.upper.accepted whole q.2 q.3 ((awaits a).2 ∙ ap (λ (r : Bool). opening_text s (not r)) (sym role)) in
      live_arrived s c k w (record (spoke (with_transport x (after_hand (after_taken whole_side) octets)) whole next o) { connected = Some connection.peer }) l y b.live
      (subst (λ (ss : List Segment). Busy s c k w (record (spoke (with_transport x (record (after_taken whole_side) { segments = ss })) whole next o) { connected = Some connection.peer }) l y) (sym sized) (record {
        beside = b.beside;
        always = subst (λ (r : List GivenTpdu). AlwaysOf s c (with_transport x (record whole_side { segments = segs })) r) (sym b.heard_is) always;
        told = λ a. let d = b.told a in record { proper = d.proper; said = inr (out a); good = d.good };
        alive = subst (λ (r : List GivenTpdu). AliveOf s c (with_transport x whole_side) r) (sym b.heard_is) (got_alive below s c k w x l y h true n user e b);
        trusting = set_up_trusting next (Connected connection.peer connection.session) e f.1 tt f.2 b segs (λ a. (out a, came a, (f.6 a).0, (f.6 a).1));
      }))

  au3_not : (connection : Connection) (next : Safety) (verified sealed octets : List ℕ) → Follows s c (WaitAu3 connection) whole next (SentAr connection verified sealed octets)
      → (Agree s → ⊥) → At x stages.Open → n ≡ length (Side x).contents → Hears s c k w x l y h the_last
      → Arrived s c k w (record (spoke (with_transport x (after_taken whole_side)) whole next (SentAr connection verified sealed octets)) { connected = Some connection.peer }) l y
  au3_not connection next verified sealed octets f none e same b =
      let t : Transport = Side x in
      let o : SafetyOutcome = SentAr connection verified sealed octets in
      live_arrived s c k w (record (spoke (with_transport x (after_taken whole_side)) whole next o) { connected = Some connection.peer }) l y b.live (record {
        beside = b.beside;
        always = subst (λ (r : List GivenTpdu). AlwaysOf s c (with_transport x whole_side) r) (sym b.heard_is) (whole_always same b);
        told = b.told;
        alive = subst (λ (r : List GivenTpdu). AliveOf s c (with_transport x whole_side) r) (sym b.heard_is) (got_alive below s c k w x l y h true n user e b);
        trusting = set_up_trusting next (Connected connection.peer connection.session) e f.1 tt f.2 b t.segments (λ a. absurd (none a));
      })

  au3_by : (connection : Connection) (next : Safety) (o : SafetyOutcome) → Follows s c (WaitAu3 connection) whole next o
      → (Agree s → Awaits s c (WaitAu3 connection) whole) → c ≡ false → At x stages.Open → n ≡ length (Side x).contents → x.safe.safety.phase ≡ WaitAu3 connection → Hears s c k w x l y h the_last
      → Arrived s c k w (on_safety_report model InDt (report_of o) (octets_sent_in_outcome o) (spoke (with_transport x whole_side) whole next o)) l y
  au3_by connection next (SentAu2 key sealed octets) f awaits role e same p b = absurd (let q = f.1 in let u : ⊥ = cc in u)
  au3_by connection next (SentAu3 key verified sealed octets) f awaits role e same p b = absurd (let q = f.2 in let u : ⊥ = cc in u)
  au3_by connection next (SentAr other verified sealed octets) f awaits role e same p b =
      let one : connection ≡ other = connection_same connection other f.0 in
      let f' = subst (λ (q : Connection). Follows s c (WaitAu3 q) whole next (SentAr other verified sealed octets)) one f in
      let awaits' = subst (λ (q : Connection). Agree s → Awaits s c (WaitAu3 q) whole) one awaits in
      let p' : x.safe.safety.phase ≡ WaitAu3 other = p ∙ ap WaitAu3 one in
      let o : SafetyOutcome = SentAr other verified sealed octets in
      let test : Bool = is_some_octets octets && (is_open (Side x).stage && nat_lt (waiting_count whole_side) 16) in
      cond_both test (spoke (with_transport x (after_hand (after_taken whole_side) octets)) whole next o) (spoke (with_transport x (after_taken whole_side)) whole next o)
      (λ z. Arrived s c k w (record z { connected = Some other.peer }) l y)
      (λ yes'. au3_handed other next verified sealed octets f' awaits' role e same p' b)
      (λ no'. au3_not other next verified sealed octets f' (λ a.
      let q = phase_at s c x (WaitAu3 other) p' b.trusting a in
      true≢false (sym (ap (λ (t : Bool). t && (is_open (Side x).stage && nat_lt (waiting_count whole_side) 16)) (lt-ltb 0 (length octets) f'.4)
      ∙ ap (λ (z : Stage). is_open z && nat_lt (waiting_count whole_side) 16) e ∙ none_waiting s.settings.size (Side x).given (Side x).segments b.always.cuts q.0) ∙ no')) e same b)
    where
      connection_same : (a b : Connection) → WaitAu3 a ≡ WaitAu3 b → a ≡ b
      connection_same a b q = cc
  au3_by connection next (ReceivedAr other verified) f awaits role e same p b = absurd (let q = f.0 in let u : ⊥ = cc in u)
  au3_by connection next (AcceptedDt key u verified) f awaits role e same p b = absurd (let q = f.1 in let u : ⊥ = cc in u)
  au3_by connection next (ReleasedLocally why octets) f awaits role e same p b = whole_left next (ReleasedLocally why octets) why octets f.0 f.1 e same b
  au3_by connection next (ReleasedByPeer why) f awaits role e same p b = whole_left next (ReleasedByPeer why) why [] (omega arith) f e same b
  au3_by connection next _ f awaits role e same p b = absurd f

  -- AR came
  ar_by : (connection : Connection) (next : Safety) (o : SafetyOutcome) → Follows s c (WaitAr connection) whole next o
      → (Agree s → Awaits s c (WaitAr connection) whole) → c ≡ true → At x stages.Open → n ≡ length (Side x).contents → x.safe.safety.phase ≡ WaitAr connection → Hears s c k w x l y h the_last
      → Arrived s c k w (on_safety_report model InDt (report_of o) (octets_sent_in_outcome o) (spoke (with_transport x whole_side) whole next o)) l y
  ar_by connection next (SentAu2 key sealed octets) f awaits role e same p b = absurd (let q = f.1 in let u : ⊥ = cc in u)
  ar_by connection next (SentAu3 key verified sealed octets) f awaits role e same p b = absurd (let q = f.2 in let u : ⊥ = cc in u)
  ar_by connection next (SentAr other verified sealed octets) f awaits role e same p b = absurd (let q = f.0 in let u : ⊥ = cc in u)
  ar_by connection next (ReceivedAr other verified) f awaits role e same p b =
      let t : Transport = Side x in
      let o : SafetyOutcome = ReceivedAr other verified in
      let came : Agree s → messages_in whole_side.contents ≡ said_all s (not c) x.upper.accepted = λ a.
      let q = phase_at s c x (WaitAr connection) p b.trusting a in
      more_messages ∙ first_said s (not c) (messages_in t.contents) x.upper.accepted whole q.2 q.3 ((awaits a).2 ∙ ap (λ (r : Bool). opening_text s (not r)) (sym role)) in
      let out : Agree s → messages_in t.segments ≡ said_all s c x.upper.sent = λ a.
      let q = phase_at s c x (WaitAr connection) p b.trusting a in q.0 ∙ ap (said_all s c) (sym q.1) in
      live_arrived s c k w (record (spoke (with_transport x (after_taken whole_side)) whole next o) { connected = Some other.peer }) l y b.live (record {
        beside = b.beside;
        always = subst (λ (r : List GivenTpdu). AlwaysOf s c (with_transport x whole_side) r) (sym b.heard_is) (whole_always same b);
        told = b.told;
        alive = subst (λ (r : List GivenTpdu). AliveOf s c (with_transport x whole_side) r) (sym b.heard_is) (got_alive below s c k w x l y h true n user e b);
        trusting = set_up_trusting next (Connected other.peer other.session) e f.1 tt f.2 b t.segments (λ a. (out a, came a, (f.3 a).0, (f.3 a).1));
      })
  ar_by connection next (AcceptedDt key u verified) f awaits role e same p b = absurd (let q = f.1 in let u : ⊥ = cc in u)
  ar_by connection next (ReleasedLocally why octets) f awaits role e same p b = whole_left next (ReleasedLocally why octets) why octets f.0 f.1 e same b
  ar_by connection next (ReleasedByPeer why) f awaits role e same p b = whole_left next (ReleasedByPeer why) why [] (omega arith) f e same b
  ar_by connection next _ f awaits role e same p b = absurd f

  -- a message of the peer's user came
  user_by : (peer : ℕ) (key : TripleKey) (next : Safety) (o : SafetyOutcome) → Follows s c (Connected peer key) whole next o
      → At x stages.Open → n ≡ length (Side x).contents → x.safe.safety.phase ≡ Connected peer key → Hears s c k w x l y h the_last
      → Arrived s c k w (on_safety_report model InDt (report_of o) (octets_sent_in_outcome o) (spoke (with_transport x whole_side) whole next o)) l y
  user_by peer key next (SentAu2 k' sealed octets) f e same p b = absurd (let q = f.1 in let u : ⊥ = cc in u)
  user_by peer key next (SentAu3 k' verified sealed octets) f e same p b = absurd (let q = f.2 in let u : ⊥ = cc in u)
  user_by peer key next (SentAr other verified sealed octets) f e same p b = absurd (let q = f.0 in let u : ⊥ = cc in u)
  user_by peer key next (ReceivedAr other verified) f e same p b = absurd (let q = f.0 in let u : ⊥ = cc in u)
  user_by peer key next (AcceptedDt k' u verified) f e same p b =
      let t : Transport = Side x in
      let o : SafetyOutcome = AcceptedDt k' u verified in
      let more : users (messages_in whole_side.contents) ≡ x.upper.accepted ++ u ∷ [] =
      more_users ∙ ap (λ (us : List (List ℕ)). users (messages_in t.contents) ++ us) f.3 ∙ ap (λ (us : List (List ℕ)). us ++ u ∷ []) b.trusting.users_is in
      let z : Core = record (spoke (with_transport x whole_side) whole next o) {
        upper = record ((spoke (with_transport x whole_side) whole next o).upper) { accepted = x.upper.accepted ++ u ∷ []; news = Some u };
      } in
      live_arrived s c k w z l y b.live (record {
        beside = b.beside;
        always = subst (λ (r : List GivenTpdu). AlwaysOf s c z r) (sym b.heard_is)
            (let v = whole_always same b in
            record {
              gives = v.gives;
              gets = v.gets;
              cuts = v.cuts;
              opens = v.opens;
              dc_few = v.dc_few;
              out = v.out;
              within = head_equal (x.upper.accepted ++ u ∷ []) (users (messages_in whole_side.contents)) (sym more);
              fits = v.fits;
              sendable = v.sendable;
            });
        told = b.told;
        alive = subst (λ (r : List GivenTpdu). AliveOf s c (with_transport x whole_side) r) (sym b.heard_is) (got_alive below s c k w x l y h true n user e b);
        trusting = subst (λ (z : Stage). Trusting s c z next t.segments whole_side.contents x.upper.sent (x.upper.accepted ++ u ∷ []) t.taken x.upper.used) (sym e)
            (subst (λ (n : Safety). Trusting s c stages.Open n t.segments whole_side.contents x.upper.sent (x.upper.accepted ++ u ∷ []) t.taken x.upper.used) (sym f.2) (record {
              joint = tt;
              side_is = refl;
              users_is = more;
              took_is = omega (arith, b.trusting.took_is, ap length more_messages, length_push (messages_in t.contents) whole, length_push x.upper.accepted u);
              phase_is = λ a.
                  let q = phase_at s c x (Connected peer key) p b.trusting a in (
                    q.0,
                    more_messages ∙ ap (λ (ms : List (List ℕ)). ms ++ whole ∷ []) q.1 ∙ ap (λ (m : List ℕ). said_all s (not c) x.upper.accepted ++ m ∷ []) (f.4 a)
                        ∙ ap (λ (ms : List (List ℕ)). opening_text s (not c) ∷ ms) (sym (map-append (sealed_text s (not c)) x.upper.accepted (u ∷ []))),
                    q.2,
                    q.3,
                  );
            }));
      })
  user_by peer key next (ReleasedLocally why octets) f e same p b = whole_left next (ReleasedLocally why octets) why octets f.0 f.1 e same b
  user_by peer key next (ReleasedByPeer why) f e same p b = whole_left next (ReleasedByPeer why) why [] (omega arith) f e same b
  user_by peer key next _ f e same p b = absurd f

  -- by the phase
  pub message_by : (p : Phase) (next : Safety) (o : SafetyOutcome) → Follows s c p whole next o → (Agree s → Awaits s c p whole) → Joint s c stages.Open p
      → At x stages.Open → n ≡ length (Side x).contents → x.safe.safety.phase ≡ p → Hears s c k w x l y h the_last
      → Arrived s c k w (on_safety_report model InDt (report_of o) (octets_sent_in_outcome o) (spoke (with_transport x whole_side) whole next o)) l y
  message_by (WaitAu3 connection) next o f awaits j e same p b = au3_by connection next o f awaits j e same p b
  message_by (WaitAr connection) next o f awaits j e same p b = ar_by connection next o f awaits j e same p b
  message_by (Connected peer key) next o f awaits j e same p b = user_by peer key next o f e same p b
  message_by _ next o f awaits j e same p b = absurd j
