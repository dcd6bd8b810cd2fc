-- Two stations over an order-keeping line, step by step: what holds of each alone, beside the invariant of both; and while frames are given
-- alone, no live end is released.
use Rattle.std.proofs.Common.{◌≡◌, ℕ, Bool, true, false, List, [], ◌∷◌, ◌++◌, refl, sym, ◌∙◌, ap, subst, append-nil}
use Rattle.er_base.specs.declared.side.Side.{Side}
use Rattle.er_base.specs.declared.side.Side.TheVariants.{E, R}
use Rattle.hdlc_station_model.specs.declared.phase.Phase.TheVariants.{Idle}
use Rattle.hdlc_station_model.specs.Frames.{Frame}
use Rattle.hdlc_station_model.specs.Stations.{Station, is_up, settled}
use Rattle.pair_model.specs.Links.{frames_from}
use Rattle.pair_model.specs.Steps.{PairStep, pass, lose, pair_run, ArePassesAndTakes}
use Rattle.pair_model.specs.Walks.{passes_run}
use Rattle.hdlc_pair_laws.specs.Links.{StationLink, station_kind}
use Rattle.hdlc_pair_laws.specs.Invariant.{Both}
use Rattle.hdlc_pair_laws.specs.Recovery.{AreLive}
use Rattle.hdlc_pair_laws.specs.Mending.{Own, Rested}
use Rattle.hdlc_pair_laws.proofs.Lines.{First, first_of_line, answered}
use Rattle.hdlc_pair_laws.proofs.Acts.{Frames, did, unmoved_keeps, StandsAt, e_acted, r_acted, e_gives, r_gives, e_lost, r_lost}
use Rattle.hdlc_pair_laws.proofs.Sound.{OwnIn}
use Rattle.hdlc_pair_laws.proofs.SoundCalls.{Leaves, answered_lives}

-- what is claimed besides of the kind, the frames that wait and the stations: from e, e, from r, r
abbrev pub Claim : Type 1
Claim = (selective : Bool) → List Frame → Station → List Frame → Station → Type 0

pub record Sounds (selective : Bool) (window : ℕ) (Q : Claim) (l : StationLink) : Type 0 where
  pub k : ℕ
  pub fe : List Frame
  pub fr : List Frame
  pub stands : StandsAt selective k fe fr l
  pub own_e : Own true window fe l.e.station
  pub own_r : Own false window fr l.r.station
  pub rests_e : Rested l.e.station
  pub rests_r : Rested l.r.station
  -- the called station is up before the calling one
  pub first : l.r.station.phase ≡ Idle → is_up l.e.station.phase ≡ false
  -- with selective reject the greatest window is the window
  pub wide : selective ≡ true → k ≡ window
  -- the calling station started
  pub begun : l.e.station.phase ≡ Idle → ⊥
  pub claim : Q selective fe l.e.station fr l.r.station

-- between two calls nothing is said
pub own_begun : (c : Bool) (wd : ℕ) (w : List Frame) (x : Station) → x.said ≡ [] → Own c wd w x → OwnIn c wd w x
own_begun c wd w x quiet h = subst (λ t. Own c wd t x) (sym (ap (λ (t : List Frame). w ++ t) quiet ∙ append-nil w)) h

-- the first frame goes, or stands twice
pub own_gone : (c : Bool) (wd : ℕ) (f : Frame) (fs : List Frame) (x : Station) → Own c wd (f ∷ fs) x → Own c wd fs x
own_gone c wd f fs x h = (h.0, h.1, h.2, h.3, h.4, h.5, λ live. (h.6 live).1, λ idle. absurd (let e : f ∷ fs ≡ [] = (h.7 idle).0 in let u : ⊥ = cc in u))

pub own_twice : (c : Bool) (wd : ℕ) (f : Frame) (fs : List Frame) (x : Station) → Own c wd (f ∷ fs) x → Own c wd (f ∷ f ∷ fs) x
own_twice c wd f fs x h = (h.0, h.1, h.2, h.3, h.4, h.5, λ live. ((h.6 live).0, h.6 live), λ idle. absurd (let e : f ∷ fs ≡ [] = (h.7 idle).0 in let u : ⊥ = cc in u))

module _ (selective : Bool) (wd : ℕ) (Q P : Claim) where
  -- ---- an event at an end

  pub e_does : (l : StationLink) (h : Sounds selective wd Q l) (x : Station) → Both selective h.k h.fe x h.fr l.r.station → Leaves true wd h.fe l.e.station.phase x
      → (l.r.station.phase ≡ Idle → is_up x.phase ≡ false) → P selective (h.fe ++ x.said) (settled x) h.fr l.r.station → Sounds selective wd P (did E x l)
  e_does l h x b o first claim = record {
    k = h.k;
    fe = h.fe ++ x.said;
    fr = h.fr;
    stands = e_acted selective l h.stands x b;
    own_e = o.0;
    own_r = h.own_r;
    rests_e = o.1;
    rests_r = h.rests_r;
    first = first;
    wide = h.wide;
    begun = λ idle. h.begun (o.2 idle);
    claim = claim;
  }

  pub r_does : (l : StationLink) (h : Sounds selective wd Q l) (x : Station) → Both selective h.k h.fr x h.fe l.e.station → Leaves false wd h.fr l.r.station.phase x
      → P selective h.fe l.e.station (h.fr ++ x.said) (settled x) → Sounds selective wd P (did R x l)
  r_does l h x b o claim = record {
    k = h.k;
    fe = h.fe;
    fr = h.fr ++ x.said;
    stands = r_acted selective l h.stands x b;
    own_e = h.own_e;
    own_r = o.0;
    rests_e = h.rests_e;
    rests_r = o.1;
    first = λ idle. h.first (o.2 idle);
    wide = h.wide;
    begun = h.begun;
    claim = claim;
  }

  -- ---- a frame is lost

  pub e_loses : (l : StationLink) (octets : List ℕ) (rest : List (List ℕ)) (h : Sounds selective wd Q l) (f : First l.e.station octets rest h.fe)
      → P selective f.frames l.e.station h.fr l.r.station → Sounds selective wd P (lose E (octets ∷ rest) l)
  e_loses l octets rest h f claim = record {
    k = h.k;
    fe = f.frames;
    fr = h.fr;
    stands = e_lost selective l h.stands octets rest f;
    own_e = own_gone true wd f.frame f.frames l.e.station (subst (λ (q : List Frame). Own true wd q l.e.station) f.all h.own_e);
    own_r = h.own_r;
    rests_e = h.rests_e;
    rests_r = h.rests_r;
    first = h.first;
    wide = h.wide;
    begun = h.begun;
    claim = claim;
  }

  pub r_loses : (l : StationLink) (octets : List ℕ) (rest : List (List ℕ)) (h : Sounds selective wd Q l) (f : First l.r.station octets rest h.fr)
      → P selective h.fe l.e.station f.frames l.r.station → Sounds selective wd P (lose R (octets ∷ rest) l)
  r_loses l octets rest h f claim = record {
    k = h.k;
    fe = h.fe;
    fr = f.frames;
    stands = r_lost selective l h.stands octets rest f;
    own_e = h.own_e;
    own_r = own_gone false wd f.frame f.frames l.r.station (subst (λ (q : List Frame). Own false wd q l.r.station) f.all h.own_r);
    rests_e = h.rests_e;
    rests_r = h.rests_r;
    first = h.first;
    wide = h.wide;
    begun = h.begun;
    claim = claim;
  }

module _ (selective : Bool) (wd : ℕ) (Q : Claim) where
  pub e_own : (l : StationLink) (h : Sounds selective wd Q l) → OwnIn true wd h.fe l.e.station
  e_own l h = own_begun true wd h.fe l.e.station h.stands.quiet_x h.own_e

  pub r_own : (l : StationLink) (h : Sounds selective wd Q l) → OwnIn false wd h.fr l.r.station
  r_own l h = own_begun false wd h.fr l.r.station h.stands.quiet_y h.own_r

  -- the parts of a link that nothing is claimed of
  pub same : (l : StationLink) (h : Sounds selective wd Q l) (moment passes : ℕ) (order_kept loss_free : Bool)
      → Sounds selective wd Q (record l { moment = moment; passes = passes; order_kept = order_kept; loss_free = loss_free })
  same l h moment passes order_kept loss_free =
      record { k = h.k; fe = h.fe; fr = h.fr; stands = h.stands; own_e = h.own_e; own_r = h.own_r; rests_e = h.rests_e; rests_r = h.rests_r; first = h.first; wide = h.wide; begun = h.begun; claim = h.claim }

module _ (wd : ℕ) (Q : Claim) where
  -- the claim outlasts the frame that comes to r, and to e
  abbrev pub ToR : Type 0
  ToR = (selective : Bool) (k now : ℕ) (fr : List Frame) (r : Station) (f : Frame) (fs : List Frame) (e : Station) → (selective ≡ true → k ≡ wd) → r.said ≡ []
      → Both selective k fr r (f ∷ fs) e → Own false wd fr r → Own true wd (f ∷ fs) e → Rested r → Rested e → Q selective (f ∷ fs) e fr r
      → Q selective fs e (fr ++ (answered selective now e f r).said) (settled (answered selective now e f r))

  abbrev pub ToE : Type 0
  ToE = (selective : Bool) (k now : ℕ) (fe : List Frame) (e : Station) (f : Frame) (fs : List Frame) (r : Station) → (selective ≡ true → k ≡ wd) → e.said ≡ []
      → Both selective k fe e (f ∷ fs) r → Own true wd fe e → Own false wd (f ∷ fs) r → Rested e → Rested r → Q selective fe e (f ∷ fs) r
      → Q selective (fe ++ (answered selective now r f e).said) (settled (answered selective now r f e)) fs r

module _ (selective : Bool) (wd : ℕ) (Q : Claim) where
  -- and live ends stay so
  abbrev pub Gone : StationLink → StationLink → Type 0
  Gone l l' = Sounds selective wd Q l' × (AreLive l → AreLive l')

  e_first : Frames → ToR wd Q → (l : StationLink) (octets : List ℕ) (rest : List (List ℕ)) (h : Sounds selective wd Q l) → First l.e.station octets rest h.fe
      → Gone l (pass (station_kind selective) E (octets ∷ rest) l)
  e_first laws keeps l octets rest h f =
      let y : Station = l.e.station in
      let o : Own true wd (f.frame ∷ f.frames) y = subst (λ (q : List Frame). Own true wd q y) f.all h.own_e in
      e_gives selective l h.stands laws (Gone l) octets rest f (λ b stands.
      let g = answered_lives laws.back selective h.k false wd h.fr l.moment l.r.station f.frame f.frames y b (r_own selective wd Q l h) in (
        record {
          k = h.k;
          fe = f.frames;
          fr = h.fr ++ (answered selective l.moment y f.frame l.r.station).said;
          stands = stands;
          own_e = own_gone true wd f.frame f.frames y o;
          own_r = g.0.0;
          rests_e = h.rests_e;
          rests_r = g.0.1;
          first = λ idle. h.first (g.0.2 idle);
          wide = h.wide;
          begun = h.begun;
          claim = keeps selective h.k l.moment h.fr l.r.station f.frame f.frames y h.wide h.stands.quiet_y b h.own_r o h.rests_r h.rests_e
              (subst (λ (q : List Frame). Q selective q y h.fr l.r.station) f.all h.claim);
        },
        λ live. (live.0, g.1 (o.6 live.0).0 live.1),
      ))

  r_first : Frames → ToE wd Q → (l : StationLink) (octets : List ℕ) (rest : List (List ℕ)) (h : Sounds selective wd Q l) → First l.r.station octets rest h.fr
      → Gone l (pass (station_kind selective) R (octets ∷ rest) l)
  r_first laws keeps l octets rest h f =
      let y : Station = l.r.station in
      let o : Own false wd (f.frame ∷ f.frames) y = subst (λ (q : List Frame). Own false wd q y) f.all h.own_r in
      r_gives selective l h.stands laws (Gone l) octets rest f (λ b stands.
      let g = answered_lives laws.back selective h.k true wd h.fe l.moment l.e.station f.frame f.frames y b (e_own selective wd Q l h) in (
        record {
          k = h.k;
          fe = h.fe ++ (answered selective l.moment y f.frame l.e.station).said;
          fr = f.frames;
          stands = stands;
          own_e = g.0.0;
          own_r = own_gone false wd f.frame f.frames y o;
          rests_e = g.0.1;
          rests_r = h.rests_r;
          -- in Idle the called station sent nothing
          first = λ idle. absurd (let n : f.frame ∷ f.frames ≡ [] = (o.7 idle).0 in let u : ⊥ = cc in u);
          wide = h.wide;
          begun = λ idle. h.begun (g.0.2 idle);
          claim = keeps selective h.k l.moment h.fe l.e.station f.frame f.frames y h.wide h.stands.quiet_x b h.own_e o h.rests_e h.rests_r
              (subst (λ (q : List Frame). Q selective h.fe l.e.station q y) f.all h.claim);
        },
        λ live. (g.1 (o.6 live.1).0 live.0, live.1),
      ))

  passed_line : Frames → ToR wd Q → ToE wd Q → (side : Side) (line : List (List ℕ)) (l : StationLink) → frames_from l side ≡ line → Sounds selective wd Q l
      → Gone l (pass (station_kind selective) side line l)
  passed_line laws to_r to_e side [] l e h = (h, λ live. live)
  passed_line laws to_r to_e E (octets ∷ rest) l e h = e_first laws to_r l octets rest h (first_of_line l.e.station octets rest h.fe (sym e ∙ h.stands.lined_x))
  passed_line laws to_r to_e R (octets ∷ rest) l e h = r_first laws to_e l octets rest h (first_of_line l.r.station octets rest h.fr (sym e ∙ h.stands.lined_y))

  pub passed : Frames → ToR wd Q → ToE wd Q → (side : Side) (l : StationLink) → Sounds selective wd Q l → Gone l (pass (station_kind selective) side (frames_from l side) l)
  passed laws to_r to_e side l h = passed_line laws to_r to_e side (frames_from l side) l refl h

  -- frames are given alone
  pub passes_keep : Frames → ToR wd Q → ToE wd Q → (passes : List PairStep) (l : StationLink) → ArePassesAndTakes passes → Sounds selective wd Q l → Gone l (pair_run (station_kind selective) l passes)
  passes_keep laws to_r to_e passes l are h =
      passes_run (station_kind selective) (Gone l) (λ side m g. let next = passed laws to_r to_e side m g.0 in (next.0, λ live. next.1 (g.1 live))) (unmoved_keeps (Gone l))
      passes l are (h, λ live. live)
