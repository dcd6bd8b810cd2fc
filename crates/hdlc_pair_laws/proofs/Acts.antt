-- What the events of a link come to: a call of a station, and the frames that it said. A claim P on links is led over each of them; an end that does
-- nothing sends no frames.
use Rattle.std.proofs.Common.{◌≡◌, ℕ, ◌+◌, Bool, true, false, not, ◌&&◌, ◌||◌, List, [], ◌∷◌, ◌++◌, sym, ◌∙◌, ap, subst, append-nil}
use Rattle.std.proofs.lemmas.Bool.{cond_both}
use Rattle.er_base.specs.declared.side.Side.{Side}
use Rattle.er_base.specs.declared.side.Side.TheVariants.{E, R}
use Rattle.hdlc_frames.specs.Framing.{Verdict, Frame as Frame_found}
use Rattle.hdlc_frames.specs.Laws.{ControlReadsBack, FlagParts, FrameAlone}
use Rattle.hdlc_station_model.specs.Frames.{Frame, sent_address, sent_body}
use Rattle.hdlc_station_model.specs.Stations.{Station, settled, is_down}
use Rattle.hdlc_station_model.specs.Calls.{hands, finishes}
use Rattle.hdlc_station_model.specs.Selective.{receives_as}
use Rattle.hdlc_station_model.specs.Events.{said_octets, news, quits, is_late}
use Rattle.pair_model.specs.Links.{end_of_side, end_did}
use Rattle.pair_model.specs.Steps.{send, release, pass}
use Rattle.hdlc_pair_laws.specs.Links.{StationOnLine, StationLink, station_behind_call, unmoved, station_behind_each, frames_behind_each, behind_octets, may_hand_down, station_kind}
use Rattle.hdlc_pair_laws.specs.Invariant.{IsStationPair, Both}
use Rattle.hdlc_pair_laws.proofs.Streams.{AtFlag}
use Rattle.hdlc_pair_laws.proofs.Lines.{Stands, turned, begun, acted, First, answered, one_event, flag_behind, answered_keeps, lost, repeated}

-- the three laws of frames that a pass rests on
pub record Frames : Type 0 where
  pub back : ControlReadsBack
  pub parts : FlagParts
  pub alone : FrameAlone

-- a call of the station of this end led here
abbrev pub did : Side → Station → StationLink → StationLink
did side s l = end_did side (station_behind_call (end_of_side l side) s) l

-- a link at this moment, before its ends tick
abbrev pub at_moment : ℕ → StationLink → StationLink
at_moment to l = record l { moment = to; loss_free = l.loss_free && not (is_late to l.e.station || is_late to l.r.station) }

-- ---- claims

-- this end did nothing
pub unmoved_keeps : (P : StationLink → Type 0) (side : Side) (l : StationLink) → P l → P (end_did side (unmoved (end_of_side l side)) l)
unmoved_keeps P E l h = subst (λ (frames : List (List ℕ)). P (record l { from_e = frames })) (sym (append-nil l.from_e)) h
unmoved_keeps P R l h = subst (λ (frames : List (List ℕ)). P (record l { from_r = frames })) (sym (append-nil l.from_r)) h

module _ (selective : Bool) (P : StationLink → Type 0) where
  pub sends : (side : Side) (p : List ℕ) (l : StationLink)
      → (may_hand_down p (end_of_side l side).station ≡ true → P (did side (finishes (hands l.moment p (end_of_side l side).station)) l)) → P l → P (send (station_kind selective) side p l)
  sends side p l given h =
      let x : StationOnLine = end_of_side l side in
      cond_both (may_hand_down p x.station) (station_behind_call x (finishes (hands l.moment p x.station))) (unmoved x) (λ (a : StationOnLine × List (List ℕ)). P (end_did side a l))
      given (λ refused. unmoved_keeps P side l h)

  pub releases : (side : Side) (sub : ℕ) (l : StationLink) → let lossy : StationLink = record l { loss_free = false } in
      P lossy → (is_down (end_of_side lossy side).station.phase ≡ false → P (did side (quits sub (end_of_side lossy side).station) lossy)) → P (release (station_kind selective) side sub l)
  releases E sub l h quit =
      let lossy : StationLink = record l { loss_free = false } in
      cond_both (is_down l.e.station.phase) (unmoved l.e) (station_behind_call l.e (quits sub l.e.station)) (λ (a : StationOnLine × List (List ℕ)). P (end_did E a lossy))
      (λ down. unmoved_keeps P E lossy h) quit
  releases R sub l h quit =
      let lossy : StationLink = record l { loss_free = false } in
      cond_both (is_down l.r.station.phase) (unmoved l.r) (station_behind_call l.r (quits sub l.r.station)) (λ (a : StationOnLine × List (List ℕ)). P (end_did R a lossy))
      (λ down. unmoved_keeps P R lossy h) quit

  -- octets come that close one frame
  hears_one : (side : Side) (octets : List ℕ) (verdict : Verdict) (l : StationLink) → news (end_of_side l side).stream octets ≡ verdict ∷ []
      → let x : Station = finishes (receives_as selective l.moment verdict (end_of_side l side).station) in
      P (end_did side (record { station = settled x; stream = (end_of_side l side).stream ++ octets }, said_octets x) l) → P (end_did side (behind_octets selective l.moment octets (end_of_side l side)) l)
  hears_one side octets verdict l one h =
      let a : StationOnLine = end_of_side l side in
      let x : Station = finishes (receives_as selective l.moment verdict a.station) in
      subst (λ (verdicts : List Verdict). P (end_did side (
        record { station = station_behind_each selective l.moment verdicts a.station; stream = a.stream ++ octets },
        frames_behind_each selective l.moment verdicts a.station,
      ) l)) (sym one)
      (subst (λ (frames : List (List ℕ)). P (end_did side (record { station = settled x; stream = a.stream ++ octets }, frames) l)) (sym (append-nil (said_octets x))) h)

-- a list of steps behind another
-- ---- the invariant of the stations and the lines

abbrev pub StandsAt : (selective : Bool) → ℕ → (fe fr : List Frame) → StationLink → Type 0
StandsAt selective k fe fr l = Stands selective k fe l.e.station fr l.r.station l.from_e l.from_r l.e.stream l.r.stream

-- e was given the first octets of r, which led it here; and r those of e
abbrev pub e_given : (octets : List ℕ) (rest : List (List ℕ)) → Station → StationLink → StationLink
e_given octets rest x l =
    record l { e = record { station = settled x; stream = l.e.stream ++ octets }; from_e = l.from_e ++ said_octets x; from_r = rest; passes = l.passes + 1 }

abbrev pub r_given : (octets : List ℕ) (rest : List (List ℕ)) → Station → StationLink → StationLink
r_given octets rest x l =
    record l { r = record { station = settled x; stream = l.r.stream ++ octets }; from_e = rest; from_r = l.from_r ++ said_octets x; passes = l.passes + 1 }

module _ (selective : Bool) {k : ℕ} {fe fr : List Frame} (l : StationLink) (h : StandsAt selective k fe fr l) where
  turned_at : Stands selective k fr l.r.station fe l.e.station l.from_r l.from_e l.r.stream l.e.stream
  turned_at = turned selective k fe l.e.station fr l.r.station l.from_e l.from_r l.e.stream l.r.stream h

  -- the invariant at the start of a call of e, of r
  pub e_begun : Both selective k fe l.e.station fr l.r.station
  e_begun = begun selective k fe l.e.station fr l.r.station l.from_e l.from_r l.e.stream l.r.stream h

  pub r_begun : Both selective k fr l.r.station fe l.e.station
  r_begun = begun selective k fr l.r.station fe l.e.station l.from_r l.from_e l.r.stream l.e.stream turned_at

  -- behind the call
  pub e_acted : (x : Station) → Both selective k fe x fr l.r.station → StandsAt selective k (fe ++ x.said) fr (did E x l)
  e_acted x b = acted selective k fe l.e.station fr l.r.station l.from_e l.from_r l.e.stream l.r.stream x fr l.from_r l.e.stream h h.lined_y h.flag_x b

  pub r_acted : (x : Station) → Both selective k fr x fe l.e.station → StandsAt selective k fe (fr ++ x.said) (did R x l)
  r_acted x b =
      turned selective k (fr ++ x.said) _ fe l.e.station _ _ _ _
      (acted selective k fr l.r.station fe l.e.station l.from_r l.from_e l.r.stream l.e.stream x fe l.from_e l.r.stream turned_at h.lined_x h.flag_y b)

  -- ---- the first frame of an end is given to the other, where the claim holds behind its answer

  pub e_gives : Frames → (P : StationLink → Type 0) (octets : List ℕ) (rest : List (List ℕ)) (f : First l.e.station octets rest fe)
      → let x : Station = answered selective l.moment l.e.station f.frame l.r.station in (
      Both selective k fr l.r.station (f.frame ∷ f.frames) l.e.station → StandsAt selective k f.frames (fr ++ x.said) (r_given octets rest x l)
      → P (r_given octets rest x l)
      ) → P (pass (station_kind selective) E (octets ∷ rest) l)
  e_gives laws P octets rest f led =
      let y : Station = l.e.station in
      let b : Both selective k fr l.r.station (f.frame ∷ f.frames) y = subst (λ (q : List Frame). Both selective k fr l.r.station q y) f.all r_begun in
      let p : IsStationPair selective k fr l.r.station (f.frame ∷ f.frames) y = subst (λ (q : List Frame). IsStationPair selective k fr l.r.station q y) f.all turned_at.pair in
      let x : Station = answered selective l.moment y f.frame l.r.station in
      let kept = answered_keeps laws.back selective k fr l.moment l.r.station f.frame f.frames y b in
      let flag = subst (λ (os : List ℕ). AtFlag (l.r.stream ++ os)) (sym f.octets_are) (flag_behind y f.frame l.r.stream) in
      hears_one selective P R octets (Frame_found (sent_address y.calling f.frame) (sent_body y.extended f.frame)) (record l { from_e = rest; passes = l.passes + 1 })
      (ap (news l.r.stream) f.octets_are ∙ one_event laws.parts laws.alone selective k fr l.r.station f.frame f.frames y l.r.stream h.flag_y p)
      (led b
      (turned selective k (fr ++ x.said) _ f.frames y _ _ _ _
      (acted selective k fr l.r.station fe y l.from_r l.from_e l.r.stream l.e.stream x f.frames rest (l.r.stream ++ octets) turned_at f.rest_are flag kept)))

  pub r_gives : Frames → (P : StationLink → Type 0) (octets : List ℕ) (rest : List (List ℕ)) (f : First l.r.station octets rest fr)
      → let x : Station = answered selective l.moment l.r.station f.frame l.e.station in (
      Both selective k fe l.e.station (f.frame ∷ f.frames) l.r.station → StandsAt selective k (fe ++ x.said) f.frames (e_given octets rest x l)
      → P (e_given octets rest x l)
      ) → P (pass (station_kind selective) R (octets ∷ rest) l)
  r_gives laws P octets rest f led =
      let y : Station = l.r.station in
      let b : Both selective k fe l.e.station (f.frame ∷ f.frames) y = subst (λ (q : List Frame). Both selective k fe l.e.station q y) f.all e_begun in
      let p : IsStationPair selective k fe l.e.station (f.frame ∷ f.frames) y = subst (λ (q : List Frame). IsStationPair selective k fe l.e.station q y) f.all h.pair in
      let x : Station = answered selective l.moment y f.frame l.e.station in
      let kept = answered_keeps laws.back selective k fe l.moment l.e.station f.frame f.frames y b in
      let flag = subst (λ (os : List ℕ). AtFlag (l.e.stream ++ os)) (sym f.octets_are) (flag_behind y f.frame l.e.stream) in
      hears_one selective P E octets (Frame_found (sent_address y.calling f.frame) (sent_body y.extended f.frame)) (record l { from_r = rest; passes = l.passes + 1 })
      (ap (news l.e.stream) f.octets_are ∙ one_event laws.parts laws.alone selective k fe l.e.station f.frame f.frames y l.e.stream h.flag_x p)
      (led b (acted selective k fe l.e.station fr y l.from_e l.from_r l.e.stream l.r.stream x f.frames rest (l.e.stream ++ octets) h f.rest_are flag kept))

  -- ---- the first frame of an end is lost, or stands twice

  pub e_lost : (octets : List ℕ) (rest : List (List ℕ)) (f : First l.e.station octets rest fe) → StandsAt selective k f.frames fr (record l { from_e = rest })
  e_lost octets rest f =
      turned selective k fr l.r.station f.frames l.e.station l.from_r rest l.r.stream l.e.stream
      (lost selective k fr l.r.station fe l.e.station l.from_r l.from_e l.r.stream l.e.stream octets rest turned_at f)

  pub r_lost : (octets : List ℕ) (rest : List (List ℕ)) (f : First l.r.station octets rest fr) → StandsAt selective k fe f.frames (record l { from_r = rest })
  r_lost octets rest f = lost selective k fe l.e.station fr l.r.station l.from_e l.from_r l.e.stream l.r.stream octets rest h f

  pub e_repeated : (octets : List ℕ) (rest : List (List ℕ)) (f : First l.e.station octets rest fe)
      → StandsAt selective k (f.frame ∷ f.frame ∷ f.frames) fr (record l { from_e = octets ∷ octets ∷ rest })
  e_repeated octets rest f =
      turned selective k fr l.r.station (f.frame ∷ f.frame ∷ f.frames) l.e.station l.from_r (octets ∷ octets ∷ rest) l.r.stream l.e.stream
      (repeated selective k fr l.r.station fe l.e.station l.from_r l.from_e l.r.stream l.e.stream octets rest turned_at f)

  pub r_repeated : (octets : List ℕ) (rest : List (List ℕ)) (f : First l.r.station octets rest fr)
      → StandsAt selective k fe (f.frame ∷ f.frame ∷ f.frames) (record l { from_r = octets ∷ octets ∷ rest })
  r_repeated octets rest f = repeated selective k fe l.e.station fr l.r.station l.from_e l.from_r l.e.stream l.r.stream octets rest h f
