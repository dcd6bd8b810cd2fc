-- What a station keeps at every call, over a list of steps.
use Rattle.std.proofs.Common.{ℕ, max, Bool, false, List, [], ◌∷◌, refl, sym, arith, true≢false}
use Rattle.er_base.specs.declared.side.Side.{Side}
use Rattle.er_base.specs.declared.side.Side.TheVariants.{E, R}
use Rattle.hdlc_frames.specs.Framing.{Verdict}
use Rattle.hdlc_station_model.specs.Stations.{Station, settled}
use Rattle.hdlc_station_model.specs.Calls.{hands, finishes, ticks}
use Rattle.hdlc_station_model.specs.Selective.{receives_as}
use Rattle.hdlc_station_model.specs.Events.{news, quits}
use Rattle.pair_model.specs.Links.{frames_from, with_frames_from}
use Rattle.pair_model.specs.Steps.{PairStep, send, pass, lose, repeat, release}
use Rattle.pair_model.specs.Walks.{all_send_any, runs_keep}
use Rattle.hdlc_pair_laws.specs.Links.{StationLink, station_behind_each, station_kind, opened_station_link}
use Rattle.hdlc_pair_laws.specs.Laws.{StationLinkOpening, after}
use Rattle.hdlc_pair_laws.proofs.Acts.{unmoved_keeps, sends, releases}
use Rattle.hdlc_pair_laws.proofs.Windows.{InWindow, own_handed, receives_in, finishes_in, hands_in, ticks_in, quits_in}

abbrev OwnWindow : (window : ℕ) → Station → Type 0
OwnWindow window x = InWindow window x.handed x

abbrev pub Windowed : (window : ℕ) → StationLink → Type 0
Windowed window l = OwnWindow window l.e.station × OwnWindow window l.r.station

-- ---- what a station does

module _ (selective : Bool) (window : ℕ) where
  heard : (now : ℕ) (vs : List Verdict) (x : Station) → OwnWindow window x → OwnWindow window (station_behind_each selective now vs x)
  heard now [] x h = h
  heard now (v ∷ vs) x h =
      let t : Station = receives_as selective now v x in
      heard now vs (settled (finishes t)) (own_handed window x.handed (finishes t) (finishes_in window x.handed t (receives_in window x.handed selective now v x h)))

  handed : (now : ℕ) (p : List ℕ) (x : Station) → OwnWindow window x → OwnWindow window (finishes (hands now p x))
  handed now p x h =
      let t : Station = hands now p x in
      own_handed window t.handed (finishes t) (finishes_in window t.handed t (hands_in window now p x h))

  quit : (sub : ℕ) (x : Station) → OwnWindow window x → OwnWindow window (quits sub x)
  quit sub x h = own_handed window x.handed (quits sub x) (quits_in window x.handed sub x h)

  ticked : (now : ℕ) (x : Station) → OwnWindow window x → OwnWindow window (finishes (ticks now x))
  ticked now x h = own_handed window x.handed (finishes (ticks now x)) (finishes_in window x.handed (ticks now x) (ticks_in window x.handed now x h))

  -- ---- the steps

  sent : (side : Side) (p : List ℕ) (l : StationLink) → Windowed window l → Windowed window (send (station_kind selective) side p l)
  sent E p l h = sends selective (Windowed window) E p l (λ may. (handed l.moment p l.e.station h.0, h.1)) h
  sent R p l h = sends selective (Windowed window) R p l (λ may. (h.0, handed l.moment p l.r.station h.1)) h

  passed : (side : Side) (line : List (List ℕ)) (l : StationLink) → Windowed window l → Windowed window (pass (station_kind selective) side line l)
  passed side [] l h = h
  passed E (octets ∷ rest) l h = (h.0, heard l.moment (news l.r.stream octets) l.r.station h.1)
  passed R (octets ∷ rest) l h = (heard l.moment (news l.e.stream octets) l.e.station h.0, h.1)

  lost : (side : Side) (line : List (List ℕ)) (l : StationLink) → Windowed window l → Windowed window (lose side line l)
  lost side [] l h = h
  lost E (octets ∷ rest) l h = h
  lost R (octets ∷ rest) l h = h

  repeated : (side : Side) (line : List (List ℕ)) (l : StationLink) → Windowed window l → Windowed window (repeat side line l)
  repeated side [] l h = h
  repeated E (octets ∷ rest) l h = h
  repeated R (octets ∷ rest) l h = h

  changed : (side : Side) (line : List (List ℕ)) (l : StationLink) → Windowed window l → Windowed window (with_frames_from side line (record l { order_kept = false; loss_free = false }))
  changed E line l h = h
  changed R line l h = h

  released : (side : Side) (sub : ℕ) (l : StationLink) → Windowed window l → Windowed window (release (station_kind selective) side sub l)
  released E sub l h = releases selective (Windowed window) E sub l h (λ live. (quit sub l.e.station h.0, h.1))
  released R sub l h = releases selective (Windowed window) R sub l h (λ live. (h.0, quit sub l.r.station h.1))

pub after_windowed : (s : StationLinkOpening) (steps : List PairStep) → Windowed s.window (after s steps)
after_windowed s steps =
    let b : Bool = s.selective in
    let w : ℕ = s.window in
    runs_keep (station_kind b) (λ user. Unit {0}) (Windowed w) (record {
      sent = λ side user l any. sent b w side user l;
      passed = λ side l. passed b w side (frames_from l side) l;
      lost = λ side l. lost b w side (frames_from l side) l;
      repeated = λ side l. repeated b w side (frames_from l side) l;
      changed = changed b w;
      took = unmoved_keeps (Windowed w);
      released = released b w;
      ticked = λ now l h. (ticked b w (max l.moment now) l.e.station h.0, ticked b w (max l.moment now) l.r.station h.1);
    }) steps (opened_station_link b s.extended w s.n2 s.t1 s.moment) (all_send_any steps) (
      record { is = refl; room = omega arith; owes = λ e. absurd (true≢false (sym e)); handed_is = refl },
      record { is = refl; room = omega arith; owes = λ e. absurd (true≢false (sym e)); handed_is = refl },
    )
