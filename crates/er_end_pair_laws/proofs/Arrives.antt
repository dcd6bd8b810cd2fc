-- What an event makes of an end, before what goes down behind it: the end is live, or it was released.
use Rattle.std.proofs.Common.{◌≡◌, ℕ, ◌+◌, ◌<◌, ◌≤◌, ◌⊎◌, inl, inr, Bool, List, [], ◌∷◌, ◌++◌, length, Some, None, refl, sym, ◌∙◌, ap, subst, arith, length-append}
use Rattle.std.specs.List.{flat_map}
use Rattle.std.proofs.lemmas.Bool.{cond_both}
use Rattle.er_base.specs.declared.release.Release.{Release}
use Rattle.hdlc_station_model.specs.Frames.{Frame}
use Rattle.x224_class2.specs.Segments.{Segment, segments_of, messages_in}
use Rattle.x224_class2.specs.Tpdus.{GivenTpdu}
use Rattle.std.proofs.lemmas.List.{take-append-le}
use Rattle.er_end_model.specs.Layers.{Core, model}
use Rattle.er_end_model.specs.Steps.{on_safety_release, send_dr, end_after_di, normal_disconnect}
use Rattle.er_end_pair_laws.specs.Openings.{EndLinkOpening, Agree}
use Rattle.er_end_pair_laws.specs.LawsBelow.{LawsBelow}
use Rattle.er_end_pair_laws.proofs.Lists.{Each, each_push, each_join, number, Ends, flat_none, flat_push}
use Rattle.er_end_pair_laws.proofs.Segments.{IsShort, carried_each, messages_push}
use Rattle.er_end_pair_laws.proofs.Locals.{dt_of, ak_of, dr_of, drs, Cuts}
use Rattle.er_end_pair_laws.proofs.Turns.{fits_dr}
use Rattle.er_end_pair_laws.proofs.Constants.{users_of, Sendable}
use Rattle.er_end_pair_laws.proofs.Own.{Always, users, Busy, Gone}
use Rattle.er_end_pair_laws.proofs.Moves.{size_known}
use Rattle.er_end_pair_laws.proofs.Leaves.{LeaveOk, departs_gone, deserted_gone}

-- x is live or was released; where the keys agree, a live peer releases no end
pub record Arrived (s : EndLinkOpening) (c : Bool) (k : ℕ) (w : List Frame) (x : Core) (l : List Frame) (y : Core) : Type 0 where
  pub state : ((x.released ≡ None) × Busy s c k w x l y) ⊎ ((why : Release) × (x.released ≡ Some why) × Gone s c k w x l y)
  pub good : Agree s → y.released ≡ None → x.released ≡ None

pub live_arrived : (s : EndLinkOpening) (c : Bool) (k : ℕ) (w : List Frame) (x : Core) (l : List Frame) (y : Core) → x.released ≡ None → Busy s c k w x l y → Arrived s c k w x l y
live_arrived s c k w x l y live b = record { state = inl (live, b); good = λ a p. live }

-- the safety side was released, which isn't where the keys agree
pub parted : LawsBelow → (s : EndLinkOpening) (c : Bool) (k : ℕ) (w : List Frame) (x : Core) (l : List Frame) (y : Core) (why : Release) (octets : List ℕ) → length octets ≤ 32
    → LeaveOk c x.upper.transport.gave x.line.phase → (Agree s → ⊥) → Gone s c k w x l y → Arrived s c k w (on_safety_release model why octets x) l y
parted below s c k w x l y why octets short ok none b =
    cond_both why.by_peer (end_after_di model why x) (send_dr model why normal_disconnect octets x) (λ z. Arrived s c k w z l y)
    (λ e. record {
      state = inr (why, refl, deserted_gone below s c k w x l y why (λ a. absurd (none a)) b);
      good = λ a p. absurd (none a);
    })
    (λ e. record {
      state = inr (
        why,
        refl,
        departs_gone below s c k w x l y why normal_disconnect octets (fits_dr normal_disconnect octets (omega arith) (omega arith)) ok (λ a. absurd (none a))
            (λ a. absurd (none a)) b,
      );
      good = λ a p. absurd (none a);
    })

-- ---- what was heard grows

-- a TPDU that is neither DT nor AK; the edge is as it comes to be
pub always_heard : (s : EndLinkOpening) (c : Bool) (segs : List Segment) (given acked edge newest : ℕ) (contents : List Segment) (gave : List GivenTpdu)
    (sent accepted : List (List ℕ)) (h : List GivenTpdu) (g : GivenTpdu) (edge' : ℕ) → dt_of g ≡ [] → ak_of g ≡ [] → given ≤ edge' → edge' ≤ acked + s.settings.credit
    → Always s c segs given acked edge newest contents gave sent accepted h → Always s c segs given acked edge' newest contents gave sent accepted (h ++ g ∷ [])
always_heard s c segs given acked edge newest contents gave sent accepted h g edge' d a low near v = record {
  gives = record { all = v.gives.all; most = v.gives.most; below = low; near = near; behind = v.gives.behind; tells = v.gives.tells; lag = v.gives.lag };
  gets = record { all = flat_none dt_of h g d ∙ v.gets.all; last = subst (λ (t : List ℕ). Ends 0 t acked) (sym (flat_none ak_of h g a)) v.gets.last };
  cuts = v.cuts;
  opens = v.opens;
  dc_few = omega (arith, v.dc_few, ap length (flat_push dr_of h g) ∙ length-append (drs h) (dr_of g));
  out = v.out;
  within = v.within;
  fits = v.fits;
  sendable = v.sendable;
}

-- ---- what is said grows by a message

-- segments of whole messages, with those of one message more
pub cuts_more : LawsBelow → (s : EndLinkOpening) (segs : List Segment) (m : List ℕ) → 0 < length m → length m ≤ 1032 → Cuts s.settings.size segs
    → Cuts s.settings.size (segs ++ segments_of s.settings.size m)
cuts_more below s segs m some small v =
    let S : ℕ = s.settings.size in
    let p = messages_push below.joined below.parts S segs m v.closed in
    record {
      closed = p.1;
      short = each_join (IsShort S) segs (segments_of S m) v.short (carried_each S (segments_of S m) (below.fit S m (size_known below s).2 some));
      small = subst (Each (λ (t : List ℕ). length t ≤ 1032)) (sym p.0) (each_push (λ (t : List ℕ). length t ≤ 1032) (messages_in segs) m v.small small);
      cut_is = ap (λ (t : List Segment). t ++ segments_of S m) v.cut_is
          ∙ sym (ap (flat_map (segments_of S)) p.0 ∙ flat_push (segments_of S) (messages_in segs) m);
    }

pub said_more : LawsBelow → (s : EndLinkOpening) (segs : List Segment) (m : List ℕ) → Cuts s.settings.size segs
    → messages_in (segs ++ segments_of s.settings.size m) ≡ messages_in segs ++ m ∷ []
said_more below s segs m v = (messages_push below.joined below.parts s.settings.size segs m v.closed).0

pub users_more : (ms : List (List ℕ)) (m : List ℕ) → users (ms ++ m ∷ []) ≡ users ms ++ users_of m
users_more ms m = flat_push users_of ms m

-- a message is handed to the transport
pub always_handed : LawsBelow → (s : EndLinkOpening) (c : Bool) (segs : List Segment) (given acked edge newest : ℕ) (contents : List Segment) (gave : List GivenTpdu)
    (sent sent' accepted : List (List ℕ)) (h : List GivenTpdu) (m : List ℕ) → 0 < length m → length m ≤ 1032 → sent' ≡ sent ++ users_of m → Each Sendable sent'
    → Always s c segs given acked edge newest contents gave sent accepted h
    → Always s c (segs ++ segments_of s.settings.size m) given acked edge newest contents gave sent' accepted h
always_handed below s c segs given acked edge newest contents gave sent sent' accepted h m some small e sendable v =
    let S : ℕ = s.settings.size in
    record {
      gives = record {
        all = v.gives.all ∙ sym (ap (number 0) (take-append-le given segs (segments_of S m) v.gives.most));
        most = omega (arith, v.gives.most, length-append segs (segments_of S m));
        below = v.gives.below;
        near = v.gives.near;
        behind = v.gives.behind;
        tells = v.gives.tells;
        lag = v.gives.lag;
      };
      gets = v.gets;
      cuts = cuts_more below s segs m some small v.cuts;
      opens = v.opens;
      dc_few = v.dc_few;
      out = ap users (said_more below s segs m v.cuts) ∙ users_more (messages_in segs) m ∙ ap (λ (t : List (List ℕ)). t ++ users_of m) v.out ∙ sym e;
      within = v.within;
      fits = v.fits;
      sendable = sendable;
    }
