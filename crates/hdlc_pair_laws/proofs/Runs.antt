-- The steps of a link, one after the other, and the two laws of an order-keeping line.
use Rattle.std.proofs.Common.{◌≡◌, ℕ, ◌≤◌, max, Bool, true, false, not, ◌&&◌, List, [], ◌∷◌, ◌++◌, length, refl, sym, ◌∙◌, leb-true}
use Rattle.std.specs.Prelude.{nat_lt, nat_le, is_some}
use Rattle.std.proofs.lemmas.Bool.{and_parts}
use Rattle.er_base.specs.declared.side.Side.{Side}
use Rattle.er_base.specs.declared.side.Side.TheVariants.{E, R}
use Rattle.hdlc_station_model.specs.Frames.{Frame, SetUp}
use Rattle.hdlc_station_model.specs.Stations.{Station}
use Rattle.hdlc_station_model.specs.Sending.{waiting}
use Rattle.hdlc_station_model.specs.Calls.{hands, finishes, ticks}
use Rattle.hdlc_station_model.specs.Events.{quits}
use Rattle.pair_model.specs.Links.{frames_from}
use Rattle.pair_model.specs.Steps.{PairStep, send, pass, lose, repeat, release, tick_at, tick}
use Rattle.pair_model.specs.Walks.{all_send_any, runs_keep_in_order}
use Rattle.hdlc_pair_laws.specs.Links.{StationLink, may_hand_down, station_kind, opened_station_link}
use Rattle.hdlc_pair_laws.specs.Laws.{StationLinkOpening, after, Prefix, LosingLineReasons}
use Rattle.hdlc_pair_laws.specs.Invariant.{Both}
use Rattle.hdlc_pair_laws.proofs.Events.{finishes_keeps, hands_keeps, ticks_keeps, quits_keeps}
use Rattle.hdlc_pair_laws.proofs.Lines.{first_of_line, answered}
use Rattle.hdlc_pair_laws.proofs.Opened.{span_of, opened_stands}
use Rattle.hdlc_pair_laws.proofs.Acts.{Frames, did, at_moment, unmoved_keeps, sends, releases, StandsAt, e_begun, r_begun, e_acted, r_acted, e_gives, r_gives, e_lost, r_lost, e_repeated, r_repeated}

pub record Holds (selective : Bool) (l : StationLink) : Type 0 where
  pub k : ℕ
  pub fe : List Frame
  pub fr : List Frame
  pub stands : StandsAt selective k fe fr l

pub short_enough : (p : List ℕ) (s : Station) → may_hand_down p s ≡ true → length p ≤ 1026
short_enough p s e =
    let fits : Bool = nat_le 1 (length p) && nat_le (length p) 1026 in
    let both = and_parts (not (is_some s.released)) fits (and_parts (not (is_some s.released) && fits) (nat_lt (waiting s) 16) e).0 in
    leb-true (length p) 1026 (and_parts (nat_le 1 (length p)) (nat_le (length p) 1026) both.1).1

module _ (selective : Bool) where
  -- ---- an event at an end

  e_did : (l : StationLink) (h : Holds selective l) (x : Station) → Both selective h.k h.fe x h.fr l.r.station → Holds selective (did E x l)
  e_did l h x b = record { k = h.k; fe = h.fe ++ x.said; fr = h.fr; stands = e_acted selective l h.stands x b }

  r_did : (l : StationLink) (h : Holds selective l) (x : Station) → Both selective h.k h.fr x h.fe l.e.station → Holds selective (did R x l)
  r_did l h x b = record { k = h.k; fe = h.fe; fr = h.fr ++ x.said; stands = r_acted selective l h.stands x b }

  -- ---- sends

  send_holds : (side : Side) (p : List ℕ) (l : StationLink) → Holds selective l → Holds selective (send (station_kind selective) side p l)
  send_holds E p l h =
      let x : Station = hands l.moment p l.e.station in
      sends selective (Holds selective) E p l
      (λ may. e_did l h (finishes x)
      (finishes_keeps selective h.k h.fe x h.fr l.r.station (hands_keeps selective h.k h.fe l.moment l.e.station h.fr l.r.station p (short_enough p l.e.station may) (e_begun selective l h.stands)))) h
  send_holds R p l h =
      let x : Station = hands l.moment p l.r.station in
      sends selective (Holds selective) R p l
      (λ may. r_did l h (finishes x)
      (finishes_keeps selective h.k h.fr x h.fe l.e.station (hands_keeps selective h.k h.fr l.moment l.r.station h.fe l.e.station p (short_enough p l.r.station may) (r_begun selective l h.stands)))) h

  -- ---- a frame is passed, lost or repeated

  pass_holds : Frames → (side : Side) (line : List (List ℕ)) (l : StationLink) → frames_from l side ≡ line → Holds selective l → Holds selective (pass (station_kind selective) side line l)
  pass_holds laws side [] l e h = h
  pass_holds laws E (octets ∷ rest) l e h =
      let f = first_of_line l.e.station octets rest h.fe (sym e ∙ h.stands.lined_x) in
      e_gives selective l h.stands laws (Holds selective) octets rest f
      (λ before stands. record { k = h.k; fe = f.frames; fr = h.fr ++ (answered selective l.moment l.e.station f.frame l.r.station).said; stands = stands })
  pass_holds laws R (octets ∷ rest) l e h =
      let f = first_of_line l.r.station octets rest h.fr (sym e ∙ h.stands.lined_y) in
      r_gives selective l h.stands laws (Holds selective) octets rest f
      (λ before stands. record { k = h.k; fe = h.fe ++ (answered selective l.moment l.r.station f.frame l.e.station).said; fr = f.frames; stands = stands })

  lost_holds : (side : Side) (line : List (List ℕ)) (l : StationLink) → frames_from l side ≡ line → Holds selective l → Holds selective (lose side line l)
  lost_holds side [] l e h = h
  lost_holds E (octets ∷ rest) l e h =
      let f = first_of_line l.e.station octets rest h.fe (sym e ∙ h.stands.lined_x) in
      record { k = h.k; fe = f.frames; fr = h.fr; stands = e_lost selective l h.stands octets rest f }
  lost_holds R (octets ∷ rest) l e h =
      let f = first_of_line l.r.station octets rest h.fr (sym e ∙ h.stands.lined_y) in
      record { k = h.k; fe = h.fe; fr = f.frames; stands = r_lost selective l h.stands octets rest f }

  repeated_holds : (side : Side) (line : List (List ℕ)) (l : StationLink) → frames_from l side ≡ line → Holds selective l → Holds selective (repeat side line l)
  repeated_holds side [] l e h = h
  repeated_holds E (octets ∷ rest) l e h =
      let f = first_of_line l.e.station octets rest h.fe (sym e ∙ h.stands.lined_x) in
      record { k = h.k; fe = f.frame ∷ f.frame ∷ f.frames; fr = h.fr; stands = e_repeated selective l h.stands octets rest f }
  repeated_holds R (octets ∷ rest) l e h =
      let f = first_of_line l.r.station octets rest h.fr (sym e ∙ h.stands.lined_y) in
      record { k = h.k; fe = h.fe; fr = f.frame ∷ f.frame ∷ f.frames; stands = r_repeated selective l h.stands octets rest f }

  -- ---- a release, a tick

  released_holds : (side : Side) (sub : ℕ) (l : StationLink) → Holds selective l → Holds selective (release (station_kind selective) side sub l)
  released_holds E sub l h =
      let lossy : StationLink = record l { loss_free = false } in
      let g : Holds selective lossy = record { k = h.k; fe = h.fe; fr = h.fr; stands = h.stands } in
      releases selective (Holds selective) E sub l g (λ live. e_did lossy g (quits sub l.e.station) (quits_keeps selective h.k h.fe l.e.station h.fr l.r.station sub (e_begun selective l h.stands)))
  released_holds R sub l h =
      let lossy : StationLink = record l { loss_free = false } in
      let g : Holds selective lossy = record { k = h.k; fe = h.fe; fr = h.fr; stands = h.stands } in
      releases selective (Holds selective) R sub l g (λ live. r_did lossy g (quits sub l.r.station) (quits_keeps selective h.k h.fr l.r.station h.fe l.e.station sub (r_begun selective l h.stands)))

  e_ticked : (l : StationLink) → Holds selective l → Holds selective (tick_at (station_kind selective) E l)
  e_ticked l h =
      let x : Station = ticks l.moment l.e.station in
      e_did l h (finishes x) (finishes_keeps selective h.k h.fe x h.fr l.r.station (ticks_keeps selective h.k h.fe l.moment l.e.station h.fr l.r.station (e_begun selective l h.stands)))

  r_ticked : (l : StationLink) → Holds selective l → Holds selective (tick_at (station_kind selective) R l)
  r_ticked l h =
      let x : Station = ticks l.moment l.r.station in
      r_did l h (finishes x) (finishes_keeps selective h.k h.fr x h.fe l.e.station (ticks_keeps selective h.k h.fr l.moment l.r.station h.fe l.e.station (r_begun selective l h.stands)))

  tick_holds : (now : ℕ) (l : StationLink) → Holds selective l → Holds selective (tick (station_kind selective) now l)
  tick_holds now l h =
      let first : StationLink = at_moment (max l.moment now) l in
      r_ticked (tick_at (station_kind selective) E first) (e_ticked first (record { k = h.k; fe = h.fe; fr = h.fr; stands = h.stands }))

-- ---- a link that was just opened

opened_holds : (s : StationLinkOpening) → Holds s.selective (opened_station_link s.selective s.extended s.window s.n2 s.t1 s.moment)
opened_holds s = record { k = span_of s.selective s.extended s.window; fe = SetUp ∷ []; fr = []; stands = opened_stands s }

-- ---- the laws

pub after_holds : Frames → (s : StationLinkOpening) (steps : List PairStep) → (after s steps).order_kept ≡ true → Holds s.selective (after s steps)
after_holds laws s steps =
    let b : Bool = s.selective in
    runs_keep_in_order (station_kind b) (λ user. Unit {0}) (Holds b) (record {
      sent = λ side user l any. send_holds b side user l;
      passed = λ side l. pass_holds b laws side (frames_from l side) l refl;
      lost = λ side l. lost_holds b side (frames_from l side) l refl;
      repeated = λ side l. repeated_holds b side (frames_from l side) l refl;
      took = unmoved_keeps (Holds b);
      released = released_holds b;
      ticked = tick_holds b;
    }) steps (opened_station_link b s.extended s.window s.n2 s.t1 s.moment) (all_send_any steps) (opened_holds s)

pub prefix : Frames → Prefix
prefix laws s steps e = let h = after_holds laws s steps e in (h.stands.pair.0.0.prefix, h.stands.pair.1.0.prefix)

pub reasons : Frames → LosingLineReasons
reasons laws s steps e = let h = after_holds laws s steps e in (h.stands.pair.0.5, h.stands.pair.1.5)
