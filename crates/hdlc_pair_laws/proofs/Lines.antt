-- A link whose waiting octets are frames that its stations sent: each step of an order-keeping line keeps that, and the invariant.
use Rattle.std.proofs.Common.{◌≡◌, ℕ, ◌≤◌, Bool, List, [], ◌∷◌, ◌++◌, length, map, refl, sym, ◌∙◌, ap, subst, arith, append-nil}
use Rattle.std.proofs.lemmas.List.{map-append}
use Rattle.hdlc_frames.specs.Framing.{Frame as Frame_found}
use Rattle.hdlc_frames.specs.Laws.{ControlReadsBack, FlagParts, FrameAlone}
use Rattle.hdlc_station_model.specs.Frames.{Frame, Info, Rr, Rej, Srej, SetUp, Disc, Dm, Ua, information, sent_address, sent_body, sent_octets}
use Rattle.hdlc_station_model.specs.Stations.{Station, settled}
use Rattle.hdlc_station_model.specs.Calls.{finishes}
use Rattle.hdlc_station_model.specs.Selective.{receives_as}
use Rattle.hdlc_station_model.specs.Events.{said_octets, news}
use Rattle.hdlc_pair_laws.specs.Invariant.{IsStationPair, Both}
use Rattle.hdlc_pair_laws.proofs.Ways.{short_at}
use Rattle.hdlc_pair_laws.proofs.Hearing.{body_fits}
use Rattle.hdlc_pair_laws.proofs.Streams.{AtFlag, one_new, at_flag_again}
use Rattle.hdlc_pair_laws.proofs.Rows.{first_gone, first_twice}
use Rattle.hdlc_pair_laws.proofs.Events.{swap, receives_keeps, finishes_keeps}

-- the octets of a frame that this station sends
abbrev pub octets_of : Station → Frame → List ℕ
octets_of x f = sent_octets x.calling x.extended f

-- x and y between two calls: lx waits from x and stands on its line as octets, and each deframer is at a flag
pub record Stands (selective : Bool) (k : ℕ) (lx : List Frame) (x : Station) (ly : List Frame) (y : Station) (line_x line_y : List (List ℕ)) (read_x read_y : List ℕ) : Type 0 where
  pub lined_x : line_x ≡ map (octets_of x) lx
  pub lined_y : line_y ≡ map (octets_of y) ly
  pub quiet_x : x.said ≡ []
  pub quiet_y : y.said ≡ []
  pub flag_x : AtFlag read_x
  pub flag_y : AtFlag read_y
  pub pair : IsStationPair selective k lx x ly y

pub turned : (selective : Bool) (k : ℕ) (lx : List Frame) (x : Station) (ly : List Frame) (y : Station) (line_x line_y : List (List ℕ)) (read_x read_y : List ℕ)
    → Stands selective k lx x ly y line_x line_y read_x read_y → Stands selective k ly y lx x line_y line_x read_y read_x
turned selective k lx x ly y line_x line_y read_x read_y h =
    record { lined_x = h.lined_y; lined_y = h.lined_x; quiet_x = h.quiet_y; quiet_y = h.quiet_x; flag_x = h.flag_y; flag_y = h.flag_x; pair = swap selective k lx x ly y h.pair }

-- the invariant at the start of a call
pub begun : (selective : Bool) (k : ℕ) (lx : List Frame) (x : Station) (ly : List Frame) (y : Station) (line_x line_y : List (List ℕ)) (read_x read_y : List ℕ)
    → Stands selective k lx x ly y line_x line_y read_x read_y → Both selective k lx x ly y
begun selective k lx x ly y line_x line_y read_x read_y h = subst (λ (t : List Frame). IsStationPair selective k (lx ++ t) x ly y) (sym h.quiet_x) (subst (λ (t : List Frame). IsStationPair selective k t x ly y) (sym (append-nil lx)) h.pair)

-- x did something: before it, lx waited; behind it, what it said stands behind
pub acted : (selective : Bool) (k : ℕ) (lx : List Frame) (x : Station) (ly : List Frame) (y : Station) (line_x line_y : List (List ℕ)) (read_x read_y : List ℕ)
    (x' : Station) (ly' : List Frame) (line_y' : List (List ℕ)) (read_x' : List ℕ)
    → Stands selective k lx x ly y line_x line_y read_x read_y → line_y' ≡ map (octets_of y) ly' → AtFlag read_x' → Both selective k lx x' ly' y
    → Stands selective k (lx ++ x'.said) (settled x') ly' y (line_x ++ said_octets x') line_y' read_x' read_y
acted selective k lx x ly y line_x line_y read_x read_y x' ly' line_y' read_x' h line flag b =
    let c : x.calling ≡ x'.calling = h.pair.2 ∙ sym b.2 in
    let e : x.extended ≡ x'.extended = h.pair.3 ∙ sym b.3 in
    record {
      lined_x = ap (λ t. t ++ said_octets x')
          (h.lined_x ∙ ap (λ (c : Bool). map (sent_octets c x.extended) lx) c ∙ ap (λ (e : Bool). map (sent_octets x'.calling e) lx) e)
          ∙ sym (map-append (octets_of x') lx x'.said);
      lined_y = line;
      quiet_x = refl;
      quiet_y = h.quiet_y;
      flag_x = flag;
      flag_y = h.flag_y;
      pair = b;
    }

-- ---- the first octets that wait are those of the first frame

pub record First (y : Station) (octets : List ℕ) (rest : List (List ℕ)) (l : List Frame) : Type 0 where
  pub frame : Frame
  pub frames : List Frame
  pub all : l ≡ frame ∷ frames
  pub octets_are : octets ≡ octets_of y frame
  pub rest_are : rest ≡ map (octets_of y) frames

pub first_of_line : (y : Station) (octets : List ℕ) (rest : List (List ℕ)) (l : List Frame) → octets ∷ rest ≡ map (octets_of y) l → First y octets rest l
first_of_line y octets rest [] e = absurd cc
first_of_line y octets rest (f ∷ fs) e = record { frame = f; frames = fs; all = refl; octets_are = cc; rest_are = cc }

pub none_on_line : (y : Station) (l : List Frame) → [] ≡ map (octets_of y) l → l ≡ []
none_on_line y [] e = refl
none_on_line y (f ∷ fs) e = absurd cc

-- an I frame that waits has the payload of its number, so it is short
short_info : (selective : Bool) (k : ℕ) (lx : List Frame) (x : Station) (f : Frame) (fs : List Frame) (y : Station) → IsStationPair selective k lx x (f ∷ fs) y → length (information f) ≤ 1026
short_info selective k lx x (Info n r p) fs y h = subst (λ (q : List ℕ). length q ≤ 1026) (sym h.1.0.chain.1) (short_at y.handed n h.1.4)
short_info selective k lx x (Rr r) fs y h = omega arith
short_info selective k lx x (Rej r) fs y h = omega arith
short_info selective k lx x (Srej r) fs y h = omega arith
short_info selective k lx x SetUp fs y h = omega arith
short_info selective k lx x Disc fs y h = omega arith
short_info selective k lx x Dm fs y h = omega arith
short_info selective k lx x (Ua final) fs y h = omega arith

-- the event that a frame brings
abbrev pub answered : (selective : Bool) → ℕ → Station → Frame → Station → Station
answered selective now y f x = finishes (receives_as selective now (Frame_found (sent_address y.calling f) (sent_body y.extended f)) x)

-- the first frame of y comes to x: it is one event
pub one_event : FlagParts → FrameAlone → (selective : Bool) (k : ℕ) (lx : List Frame) (x : Station) (f : Frame) (fs : List Frame) (y : Station) (read_x : List ℕ) → AtFlag read_x → IsStationPair selective k lx x (f ∷ fs) y
    → news read_x (octets_of y f) ≡ Frame_found (sent_address y.calling f) (sent_body y.extended f) ∷ []
one_event parts alone selective k lx x f fs y read_x flag h =
    let fits = body_fits y.extended f (short_info selective k lx x f fs y h) in
    one_new parts alone read_x (sent_address y.calling f) (sent_body y.extended f) flag fits.0 fits.1

pub flag_behind : (y : Station) (f : Frame) (read_x : List ℕ) → AtFlag (read_x ++ octets_of y f)
flag_behind y f read_x = at_flag_again read_x (sent_address y.calling f) (sent_body y.extended f)

pub answered_keeps : ControlReadsBack → (selective : Bool) (k : ℕ) (lx : List Frame) (now : ℕ) (x : Station) (f : Frame) (fs : List Frame) (y : Station)
    → Both selective k lx x (f ∷ fs) y → Both selective k lx (answered selective now y f x) fs y
answered_keeps law selective k lx now x f fs y b =
    finishes_keeps selective k lx (receives_as selective now (Frame_found (sent_address y.calling f) (sent_body y.extended f)) x) fs y (receives_keeps law selective k lx now x f fs y b)

-- ---- the first frame of y is lost, or stands twice

pub lost : (selective : Bool) (k : ℕ) (lx : List Frame) (x : Station) (ly : List Frame) (y : Station) (line_x line_y : List (List ℕ)) (read_x read_y : List ℕ) (octets : List ℕ) (rest : List (List ℕ))
    → Stands selective k lx x ly y line_x line_y read_x read_y → (f : First y octets rest ly) → Stands selective k lx x f.frames y line_x rest read_x read_y
lost selective k lx x ly y line_x line_y read_x read_y octets rest h f =
    record {
      lined_x = h.lined_x;
      lined_y = f.rest_are;
      quiet_x = h.quiet_x;
      quiet_y = h.quiet_y;
      flag_x = h.flag_x;
      flag_y = h.flag_y;
      pair = first_gone selective k lx x f.frame f.frames y (subst (λ (l : List Frame). IsStationPair selective k lx x l y) f.all h.pair);
    }

pub repeated : (selective : Bool) (k : ℕ) (lx : List Frame) (x : Station) (ly : List Frame) (y : Station) (line_x line_y : List (List ℕ)) (read_x read_y : List ℕ) (octets : List ℕ) (rest : List (List ℕ))
    → Stands selective k lx x ly y line_x line_y read_x read_y → (f : First y octets rest ly) → Stands selective k lx x (f.frame ∷ f.frame ∷ f.frames) y line_x (octets ∷ octets ∷ rest) read_x read_y
repeated selective k lx x ly y line_x line_y read_x read_y octets rest h f =
    record {
      lined_x = h.lined_x;
      lined_y = ap (λ o. o ∷ o ∷ rest) f.octets_are ∙ ap (λ r. octets_of y f.frame ∷ octets_of y f.frame ∷ r) f.rest_are;
      quiet_x = h.quiet_x;
      quiet_y = h.quiet_y;
      flag_x = h.flag_x;
      flag_y = h.flag_y;
      pair = first_twice selective k lx x f.frame f.frames y (subst (λ (l : List Frame). IsStationPair selective k lx x l y) f.all h.pair);
    }
