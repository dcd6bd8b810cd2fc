-- A TPDU comes to a live end, by its stage and its kind.
use Rattle.std.proofs.Common.{◌≡◌, ℕ, suc, ◌+◌, ◌-◌, ◌%◌, ◌<◌, ◌≤◌, inr, Bool, true, false, not, List, [], ◌∷◌, ◌++◌, length, take, Some, Ok, refl, sym, ◌∙◌, ap, subst, arith, true≢false}
use Rattle.std.specs.Prelude.{if◌then◌else◌}
use Rattle.std.proofs.lemmas.List.{length-take-le}
use Rattle.er_base.specs.declared.release.Release.{Release}
use Rattle.des_block.specs.declared.triple_key.TripleKey.{TripleKey}
use Rattle.sapdu.specs.Spelling.{di_in}
use Rattle.safety_automaton.specs.Reports.{report_of}
use Rattle.safety_automaton.specs.Rules.{IsOpen}
use Rattle.safety_automaton.specs.Safety.{Safety, Phase, Ready, WaitAu1, WaitAu2, WaitAu3, WaitAr, Connected, Received, peer_flag, octets_sent_in_outcome, step}
use Rattle.hdlc_station_model.specs.Frames.{Frame}
use Rattle.x224_class2.specs.Segments.{messages_in, text_so_far}
use Rattle.x224_class2.specs.Tpdus.{GivenTpdu, Cr, Cc, Dt, Ak, Dr, Dc, pdu_given, octets_given}
use Rattle.x224_class2.specs.Transport.{Transport, ReceptionDeed, Nothing, Message, is_new, is_calling, is_open, on_request, on_confirm, on_disconnect, on_data, on_acknowledgement, on_reading}
use Rattle.x224_class2.specs.declared.stage.Stage.{Stage}
use Rattle.x224_class2.specs.declared.stage.Stage.TheVariants as stages
use Rattle.er_end_model.specs.Layers.{Core, model}
use Rattle.er_end_model.specs.Steps.{Carrier, InCr, InCc, InDt, on_safety_report, on_text, on_transport_deed, on_tpdu, why_of}
use Rattle.er_end_pair_laws.specs.Openings.{EndLinkOpening, Agree}
use Rattle.er_end_pair_laws.specs.Reasons.{IsLosingLineRelease}
use Rattle.er_end_pair_laws.specs.LawsBelow.{LawsBelow}
use Rattle.er_end_pair_laws.proofs.Lists.{Head, head_trans, head_take, head_length, each_next, Ends, ends_push, flat_none, flat_one, length_push}
use Rattle.er_end_pair_laws.proofs.Segments.{IsShort, text_small}
use Rattle.er_end_pair_laws.proofs.Locals.{dt_of, ak_of, dr_of, aks, drs, dcs, First, Later, Fits}
use Rattle.er_end_pair_laws.proofs.Ports.{dt_next, dt_heard, ak_next, ak_heard, cr_heard, cc_heard, dr_heard, came_is, got_most, acked_most}
use Rattle.er_end_pair_laws.proofs.Constants.{side_in, flag_at}
use Rattle.er_end_pair_laws.proofs.Follows.{Awaits, answer_of, follows, peers_flag}
use Rattle.er_end_pair_laws.proofs.Own.{AlwaysOf, Proper, Alive, AliveOf, Joint, Own, heard}
use Rattle.er_end_pair_laws.proofs.Moves.{size_known, credit_known, live_stage}
use Rattle.er_end_pair_laws.proofs.Leaves.{cut_gone}
use Rattle.er_end_pair_laws.proofs.Arrives.{Arrived, live_arrived, always_heard}
use Rattle.er_end_pair_laws.proofs.Hears.{Hears, next_of, first_is, later_is, no_dr_next, no_dc_next, message_next, IsMessagePhase, text_awaited}
use Rattle.er_end_pair_laws.proofs.Comes.{At, Side, with_transport, spoke, stages_at, edge_at, called_by}
use Rattle.er_end_pair_laws.proofs.Confirms.{confirmed_by}
use Rattle.er_end_pair_laws.proofs.Messages.{part_comes, message_by}

-- the end behind what its transport made of a TPDU
abbrev heard_at : EndLinkOpening → Core → Transport × ReceptionDeed → Core
heard_at s x r = on_transport_deed model s.finder r.1 (with_transport x r.0)

-- a text comes to a side in this phase
abbrev TextComes : EndLinkOpening → Bool → ℕ → List Frame → List Frame → Core → Carrier → List ℕ → Core → Safety → Type 0
TextComes s c k w l y carrier text x side =
    let a = step (s.finder x.moment) side (Received text) in
    Arrived s c k w (on_safety_report model carrier (report_of a.1) (octets_sent_in_outcome a.1) (spoke x text a.0 a.1)) l y

text_arrives : (s : EndLinkOpening) (c : Bool) (k : ℕ) (w : List Frame) (x : Core) (l : List Frame) (y : Core) (carrier : Carrier) (text : List ℕ) (p : Phase) → x.safe.safety ≡ side_in s c p
    → TextComes s c k w l y carrier text x (side_in s c p) → Arrived s c k w (on_text model s.finder carrier text x) l y
text_arrives s c k w x l y carrier text p e h = subst (TextComes s c k w l y carrier text x) (sym e) h

module _ (below : LawsBelow) (s : EndLinkOpening) (c : Bool) (k : ℕ) (w : List Frame) (x : Core) (l : List Frame) (y : Core) (h : List GivenTpdu) where
  their_own : (g : GivenTpdu) → Hears s c k w x l y h g → Own s (not c) y (heard y x)
  their_own g b = b.beside.3

  mine_heard : Head (heard y x) (Side x).gave
  mine_heard = head_take (length y.line.taken) (Side x).gave

  -- ---- DR

  dr_comes : (st : Stage) (reason : ℕ) (user : List ℕ) → At x st → is_new st ≡ false → 1 ≤ length (Side x).gave → Hears s c k w x l y h (Dr reason user)
      → Arrived s c k w (heard_at s x (on_disconnect (Side x) 1 1 user)) l y
  dr_comes st reason user e begun some b =
      let t : Transport = Side x in
      let g : GivenTpdu = Dr reason user in
      let own = their_own g b in
      let next = next_of s c k w x l y h g b in
      let over : Transport = record t { stage = stages.Over } in
      let x' : Core = with_transport x over in
      let v = b.always in
      let flag : peer_flag x.safe.safety ≡ flag_at (not c) = ap peer_flag b.trusting.side_is ∙ sym (peers_flag s c x.safe.safety.phase) in
      let why : Release = why_of (di_in user (peer_flag x.safe.safety)) in
      let good : Agree s → IsLosingLineRelease (Some why) = λ a.
      subst (λ (f : Bool). IsLosingLineRelease (Some (why_of (di_in user f)))) (sym flag) (each_next (Proper s (not c)) h g y.upper.transport.gave next (own.told a).proper) in
      let one : length (drs (h ++ g ∷ [])) ≡ suc (length (drs h)) = ap length (flat_one dr_of h g 0 refl) ∙ length_push (drs h) 0 in
      let few : length (dcs t.gave) + 1 ≤ length (drs (heard x y)) = subst (λ (r : List GivenTpdu). length (dcs t.gave) + 1 ≤ length (drs r)) (sym b.heard_is) (omega (arith, v.dc_few, b.alive.no_dr_heard)) in
      subst (λ (r : Transport × ReceptionDeed). Arrived s c k w (heard_at s x r) l y) (sym (dr_heard t user (ap is_new e ∙ begun))) (record {
        state = inr (
          why,
          refl,
          cut_gone below s c k w x' l y why some few good (record {
            beside = b.beside;
            always = subst (λ (r : List GivenTpdu). AlwaysOf s c x' r) (sym b.heard_is)
                (always_heard s c t.segments t.given t.acked t.edge t.newest t.contents t.gave x.upper.sent x.upper.accepted h g t.edge refl refl v.gives.below v.gives.near v);
            told = b.told;
          }),
        );
        good = λ a live. absurd (no_dr_next h y.upper.transport.gave reason user (own.lives live).alive.no_dr next);
      })

  -- ---- AK

  ak_comes : (n : ℕ) → At x stages.Open → Hears s c k w x l y h (Ak s.settings.credit n)
      → Arrived s c k w (heard_at s x (on_acknowledgement (Side x) s.settings.credit 1 (n % 128))) l y
  ak_comes n e b =
      let t : Transport = Side x in
      let u : Transport = Side y in
      let C : ℕ = s.settings.credit in
      let g : GivenTpdu = Ak C n in
      let own = their_own g b in
      let next = next_of s c k w x l y h g b in
      let v = b.always in
      let z = own.always in
      let q = edge_at s c x h stages.Open e b.alive in
      let a = ak_next h u.gave t.acked u.newest C n v.gets.last z.gives.tells next in
      let got : length u.contents ≤ t.given = got_most (heard y x) t.gave u.contents t.segments t.given z.gets.all v.gives.all mine_heard v.gives.most in
      let high : n ≤ t.given = omega (arith, a.1, z.gives.lag) in
      let few = (credit_known below s).1 in
      let low : t.given ≤ t.acked + 15 = omega (arith, v.gives.below) in
      let named : Transport = record t { acked = n; edge = n + C } in
      let x' : Core = with_transport x named in
      let st = stages_at s c x h stages.Open e b.alive in
      subst (λ (r : Transport × ReceptionDeed). Arrived s c k w (heard_at s x r) l y) (sym (ak_heard t C n (ap is_open e) a.0 high low (omega (arith, a.0))))
      (live_arrived s c k w x' l y b.live (record {
        beside = b.beside;
        always = subst (λ (r : List GivenTpdu). AlwaysOf s c x' r) (sym b.heard_is) (record {
          gives = record { all = v.gives.all; most = v.gives.most; below = omega (arith, v.gives.below, a.0); near = omega arith; behind = high; tells = v.gives.tells; lag = v.gives.lag };
          gets = record {
            all = flat_none dt_of h g refl ∙ v.gets.all;
            last = subst (λ (r : List ℕ). Ends 0 r n) (sym (flat_one ak_of h g n refl)) (ends_push 0 n (aks h));
          };
          cuts = v.cuts;
          opens = v.opens;
          dc_few = subst (λ (r : List ℕ). length (dcs t.gave) ≤ length r) (sym (flat_none dr_of h g refl)) v.dc_few;
          out = v.out;
          within = v.within;
          fits = v.fits;
          sendable = v.sendable;
        });
        told = b.told;
        alive = subst (λ (r : List GivenTpdu). AliveOf s c x' r) (sym b.heard_is)
            (subst (λ (z : Stage). Alive s c z t.is_caller t.credit t.size t.due t.gave (h ++ g ∷ []) t.given n (n + C) t.newest x.joined x.line.phase) (sym e) (record {
              stages = (omega (arith, length_push h g), st.1);
              role_is = b.alive.role_is;
              size_is = b.alive.size_is;
              credit_is = b.alive.credit_is;
              joined_is = b.alive.joined_is;
              no_dr = b.alive.no_dr;
              no_dr_heard = ap length (flat_none dr_of h g refl) ∙ b.alive.no_dr_heard;
              count = b.alive.count;
              final = b.alive.final;
              edge_is = refl;
              due_is = b.alive.due_is;
              awake = b.alive.awake;
            }));
        trusting = b.trusting;
      }))

  -- ---- DT

  message_phase : (p : Phase) → Joint s c stages.Open p → IsMessagePhase c p × IsOpen p
  message_phase (WaitAu3 connection) j = (j, tt)
  message_phase (WaitAr connection) j = (j, tt)
  message_phase (Connected peer key) j = (tt, tt)
  message_phase _ j = absurd j

  dt_ends : (last : Bool) (n : ℕ) (user : List ℕ) → At x stages.Open → n ≡ length (Side x).contents → Head ((Side x).contents ++ (last, user) ∷ []) (take (Side y).given (Side y).segments)
      → Hears s c k w x l y h (Dt last n user)
      → Arrived s c k w (heard_at s x (record (Side x) { contents = (Side x).contents ++ (last, user) ∷ [] }, if last then Message (text_so_far (Side x).contents ++ user) else Nothing)) l y
  dt_ends false n user e same head b = part_comes below s c k w x l y h n user e same b
  dt_ends true n user e same head b =
      let t : Transport = Side x in
      let u : Transport = Side y in
      let g : GivenTpdu = Dt true n user in
      let own = their_own g b in
      let p : Phase = x.safe.safety.phase in
      let text : List ℕ = text_so_far t.contents ++ user in
      let x' : Core = with_transport x (record t { contents = t.contents ++ (true, user) ∷ [] }) in
      let joint = subst (λ (z : Stage). Joint s c z p) e b.trusting.joint in
      let m = message_phase p joint in
      let awaits : Agree s → Awaits s c p text = λ a.
      text_awaited s c p (messages_in t.segments) x.upper.sent (messages_in t.contents) x.upper.accepted text (messages_in u.segments) y.upper.sent
      (message_next below t.contents u.segments u.given user head) (own.told a).said own.always.sendable (b.trusting.phase_is a) m.0 in
      text_arrives s c k w x' l y InDt text p b.trusting.side_is
      (message_by below s c k w x l y h n user p (answer_of s x.moment c p text).0 (answer_of s x.moment c p text).1
      (follows below.safety s x.moment c p text m.1 awaits) awaits joint e same refl b)

  dt_comes : (last : Bool) (n : ℕ) (user : List ℕ) → At x stages.Open → Hears s c k w x l y h (Dt last n user)
      → Arrived s c k w (heard_at s x (on_data (Side x) 1 last (n % 128) user)) l y
  dt_comes last n user e b =
      let t : Transport = Side x in
      let u : Transport = Side y in
      let g : GivenTpdu = Dt last n user in
      let own = their_own g b in
      let next = next_of s c k w x l y h g b in
      let v = b.always in
      let z = own.always in
      let d = dt_next h u.gave t.contents u.segments u.given last n user v.gets.all z.gives.all next in
      let all : Head (t.contents ++ (last, user) ∷ []) u.segments = head_trans (t.contents ++ (last, user) ∷ []) (take u.given u.segments) u.segments d.1 (head_take u.given u.segments) in
      let len = head_length (t.contents ++ (last, user) ∷ []) (take u.given u.segments) d.1 in
      let low : length t.contents < u.given = omega (arith, len, length_push t.contents (last, user), length-take-le u.given u.segments z.gives.most) in
      let told : u.acked ≤ t.newest = acked_most (heard y x) t.gave u.acked t.newest z.gets.last v.gives.tells mine_heard in
      let granted : length t.contents < t.newest + t.credit = omega (arith, z.gives.below, z.gives.near, b.alive.credit_is) in
      let short = each_next (IsShort s.settings.size) t.contents (last, user) u.segments all z.cuts.short in
      let small = text_small 1032 [] t.contents u.segments last user z.cuts.closed z.cuts.small all in
      subst (λ (r : Transport × ReceptionDeed). Arrived s c k w (heard_at s x r) l y)
      (sym (dt_heard t last n user (ap is_open e) d.0 granted (subst (λ (m : ℕ). length user ≤ m - 5) (sym b.alive.size_is) short.1) small))
      (dt_ends last n user e d.0 d.1 b)

  -- ---- by the stage

  open_comes : (g : GivenTpdu) → At x stages.Open → Later s.settings.credit g → Hears s c k w x l y h g → Arrived s c k w (heard_at s x (on_reading (Side x) (Ok (pdu_given g)))) l y
  open_comes (Cr credit size user) e later b = absurd later
  open_comes (Cc credit size user) e later b = absurd later
  open_comes (Dt last n user) e later b = dt_comes last n user e b
  open_comes (Ak credit n) e later b =
      subst (λ (m : ℕ). Arrived s c k w (heard_at s x (on_acknowledgement (Side x) m 1 (n % 128))) l y) (sym later)
      (ak_comes n e (subst (λ (m : ℕ). Hears s c k w x l y h (Ak m n)) later b))
  open_comes (Dr reason user) e later b = dr_comes stages.Open reason user e refl ((stages_at s c x h stages.Open e b.alive).1 b.due) b
  open_comes Dc e later b =
      let own = their_own Dc b in
      absurd (no_dc_next h y.upper.transport.gave (Side x).gave (heard y x) own.always.dc_few mine_heard b.alive.no_dr (next_of s c k w x l y h Dc b))

-- ---- the first TPDU

joint_called : (s : EndLinkOpening) (p : Phase) → Joint s false stages.New p → (ra : ℕ) × (p ≡ WaitAu1 ra) × (ra ≡ s.ra)
joint_called s (Ready peer kmac rb) j = absurd (let e = j.0 in let u : ⊥ = cc in u)
joint_called s (WaitAu1 ra) j = (ra, refl, j.1)
joint_called s _ j = absurd j

joint_calling : (s : EndLinkOpening) (p : Phase) → Joint s true stages.Calling p
    → (peer : ℕ) × (kmac : TripleKey) × (rb : ℕ) × (p ≡ WaitAu2 peer kmac rb) × (peer ≡ s.rbc) × (kmac ≡ s.kmac) × (rb ≡ s.rb)
joint_calling s (WaitAu2 peer kmac rb) j = (peer, kmac, rb, refl, j.1, j.2, j.3)
joint_calling s _ j = absurd j

module _ (below : LawsBelow) (s : EndLinkOpening) (k : ℕ) (w : List Frame) (x : Core) (l : List Frame) (y : Core) (h : List GivenTpdu) where
  cr_comes : (user : List ℕ) → At x stages.New → Hears s false k w x l y h (Cr s.settings.credit s.settings.size user)
      → Arrived s false k w (heard_at s x (on_request (Side x) s.settings.credit 0 1 s.settings.size user)) l y
  cr_comes user e b =
      let t : Transport = Side x in
      let g : GivenTpdu = Cr s.settings.credit s.settings.size user in
      let own = b.beside.3 in
      let j = joint_called s x.safe.safety.phase (subst (λ (z : Stage). Joint s false z x.safe.safety.phase) e b.trusting.joint) in
      let p : Phase = WaitAu1 j.0 in
      let side : x.safe.safety ≡ side_in s false p = b.trusting.side_is ∙ ap (side_in s false) j.1 in
      let x' : Core = with_transport x (record t { stage = stages.Called; edge = s.settings.credit }) in
      let awaits : Agree s → Awaits s false p user = λ a.
      (refl, j.2, each_next (Proper s true) h g y.upper.transport.gave (next_of s false k w x l y h g b) (own.told a).proper) in
      subst (λ (r : Transport × ReceptionDeed). Arrived s false k w (heard_at s x r) l y)
      (sym (cr_heard t s.settings.credit s.settings.size user b.alive.role_is (ap is_new e) (sym b.alive.size_is) (size_known below s).1))
      (text_arrives s false k w x' l y InCr user p side
      (called_by below s k w x l y h user j.0 (answer_of s x.moment false p user).0 (answer_of s x.moment false p user).1
      (follows below.safety s x.moment false p user tt awaits) e j.1 b))

  cc_comes : (user : List ℕ) → At x stages.Calling → Hears s true k w x l y h (Cc s.settings.credit s.settings.size user)
      → Arrived s true k w (heard_at s x (on_confirm (Side x) s.settings.credit 1 1 s.settings.size user)) l y
  cc_comes user e b =
      let t : Transport = Side x in
      let g : GivenTpdu = Cc s.settings.credit s.settings.size user in
      let own = b.beside.3 in
      let j = joint_calling s x.safe.safety.phase (subst (λ (z : Stage). Joint s true z x.safe.safety.phase) e b.trusting.joint) in
      let p : Phase = WaitAu2 j.0 j.1 j.2 in
      let side : x.safe.safety ≡ side_in s true p = b.trusting.side_is ∙ ap (side_in s true) j.3 in
      let x' : Core = with_transport x (record t { stage = stages.Open; edge = s.settings.credit }) in
      let awaits : Agree s → Awaits s true p user = λ a.
      (refl, j.4, j.5, j.6, each_next (Proper s false) h g y.upper.transport.gave (next_of s true k w x l y h g b) (own.told a).proper) in
      subst (λ (r : Transport × ReceptionDeed). Arrived s true k w (heard_at s x r) l y)
      (sym (cc_heard t s.settings.credit s.settings.size user (ap is_calling e) (sym b.alive.size_is)))
      (text_arrives s true k w x' l y InCc user p side
      (confirmed_by below s k w x l y h user j.0 j.2 j.1 (answer_of s x.moment true p user).0 (answer_of s x.moment true p user).1
      (follows below.safety s x.moment true p user tt awaits) e j.3 b))

  -- a callee waits for CR
  new_comes : (g : GivenTpdu) → At x stages.New → First true s.settings.credit s.settings.size g → Hears s false k w x l y h g
      → Arrived s false k w (heard_at s x (on_reading (Side x) (Ok (pdu_given g)))) l y
  new_comes (Cr credit size user) e first b =
      subst (λ (m : ℕ). Arrived s false k w (heard_at s x (on_request (Side x) m 0 1 size user)) l y) (sym first.0)
      (subst (λ (m : ℕ). Arrived s false k w (heard_at s x (on_request (Side x) s.settings.credit 0 1 m user)) l y) (sym first.1)
      (cr_comes user e (subst (λ (m : ℕ). Hears s false k w x l y h (Cr s.settings.credit m user)) first.1 (subst (λ (m : ℕ). Hears s false k w x l y h (Cr m size user)) first.0 b))))
  new_comes _ e first b = absurd first

  -- a caller waits for CC or DR
  calling_comes : (g : GivenTpdu) → At x stages.Calling → First false s.settings.credit s.settings.size g → Hears s true k w x l y h g
      → Arrived s true k w (heard_at s x (on_reading (Side x) (Ok (pdu_given g)))) l y
  calling_comes (Cc credit size user) e first b =
      subst (λ (m : ℕ). Arrived s true k w (heard_at s x (on_confirm (Side x) m 1 1 size user)) l y) (sym first.0)
      (subst (λ (m : ℕ). Arrived s true k w (heard_at s x (on_confirm (Side x) s.settings.credit 1 1 m user)) l y) (sym first.1)
      (cc_comes user e (subst (λ (m : ℕ). Hears s true k w x l y h (Cc s.settings.credit m user)) first.1 (subst (λ (m : ℕ). Hears s true k w x l y h (Cc m size user)) first.0 b))))
  calling_comes (Dr reason user) e first b = dr_comes below s true k w x l y h stages.Calling reason user e refl ((stages_at s true x h stages.Calling e b.alive).1 b.due) b
  calling_comes _ e first b = absurd first

-- at any stage
stage_comes : LawsBelow → (s : EndLinkOpening) (c : Bool) (k : ℕ) (w : List Frame) (x : Core) (l : List Frame) (y : Core) (h : List GivenTpdu) (g : GivenTpdu) (st : Stage) → At x st
    → Hears s c k w x l y h g → Arrived s c k w (heard_at s x (on_reading (Side x) (Ok (pdu_given g)))) l y
stage_comes below s true k w x l y h g stages.New e b = absurd (true≢false (sym b.up ∙ (stages_at s true x h stages.New e b.alive).3))
stage_comes below s false k w x l y h g stages.New e b =
    new_comes below s k w x l y h g e
    (first_is true s.settings.credit s.settings.size h y.upper.transport.gave g (stages_at s false x h stages.New e b.alive).1 (next_of s false k w x l y h g b) b.beside.3.always.opens) b
stage_comes below s true k w x l y h g stages.Calling e b =
    calling_comes below s k w x l y h g e
    (first_is false s.settings.credit s.settings.size h y.upper.transport.gave g (stages_at s true x h stages.Calling e b.alive).0 (next_of s true k w x l y h g b) b.beside.3.always.opens) b
stage_comes below s false k w x l y h g stages.Calling e b = absurd (stages_at s false x h stages.Calling e b.alive)
stage_comes below s c k w x l y h g stages.Called e b = absurd (stages_at s c x h stages.Called e b.alive)
stage_comes below s c k w x l y h g stages.Open e b =
    open_comes below s c k w x l y h g e
    (later_is (not c) s.settings.credit s.settings.size h y.upper.transport.gave g (stages_at s c x h stages.Open e b.alive).0 (next_of s c k w x l y h g b) b.beside.3.always.opens) b
stage_comes below s c k w x l y h g stages.Over e b = absurd (stages_at s c x h stages.Over e b.alive)

pub tpdu_keeps : LawsBelow → (s : EndLinkOpening) (c : Bool) (k : ℕ) (w : List Frame) (x : Core) (l : List Frame) (y : Core) (h : List GivenTpdu) (g : GivenTpdu)
    → Hears s c k w x l y h g → Arrived s c k w (on_tpdu model s.finder (octets_given g) x) l y
tpdu_keeps below s c k w x l y h g b =
    let t : Transport = Side x in
    let fits = each_next Fits h g y.upper.transport.gave (next_of s c k w x l y h g b) b.beside.3.always.fits in
    subst (λ (r : Transport × ReceptionDeed). Arrived s c k w (heard_at s x r) l y)
    (sym (came_is below.reading t g (live_stage c t.stage t.due h t.gave x.line.phase b.alive.stages) fits))
    (stage_comes below s c k w x l y h g t.stage refl b)
