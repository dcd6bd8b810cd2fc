-- What a station does at what a deframer found, and what that is to an ear.
use Rattle.std.proofs.Common.{◌≡◌, ◌∙◌, inl, inr, ℕ, Bool, true, false, ◌&&◌, List, [], ◌∷◌, length, Option, Some, None, refl, sym, ap, subst, eqb-true}
use Rattle.std.specs.Prelude.{◌/◌, ◌==◌, bit_and, not, if◌then◌else◌, option_map}
use Rattle.std.proofs.lemmas.Bool.{cases_Bool}
use Rattle.er_base.specs.declared.side.Side.{Side}
use Rattle.er_base.specs.declared.side.Side.TheVariants.{E, R}
use Rattle.er_base.specs.Sides.{other}
use Rattle.hdlc_frames.specs.declared.controls.Control.{Control}
use Rattle.hdlc_frames.specs.declared.controls.Control.TheVariants as control
use Rattle.hdlc_frames.specs.ControlOctets.{unnumbered_at, control_at, control_of}
use Rattle.hdlc_frames.specs.Framing.{Verdict, Frame, BadFcs, TooShort, TooLong, Aborted}
use Rattle.hdlc_station_model.specs.declared.phase.Phase.{Phase}
use Rattle.hdlc_station_model.specs.Stations.{Station, is_down, sees}
use Rattle.hdlc_station_model.specs.Sending.{sends_waiting}
use Rattle.hdlc_station_model.specs.Receiving.{strays, hears_control, hears_frame, hears}
use Rattle.hdlc_station_model.specs.Calls.{receives}
use Rattle.tap_model.specs.Hearing.{read_as, read_frame, address_of_side, Sort, Carries, SetsUp, Agrees, Disconnects, Leaves, Passes, sort_of, is_end, has_number}
use Rattle.tap_hearing.proofs.Noting.{tuned, waiting_tuned}
use Rattle.tap_hearing.proofs.Sorting.{Weight, Nothing, Opens, Counts, EndsIt, weight_if, weight_in, IsOne}
use Rattle.tap_hearing.proofs.Stations.{sender, phase_at, shape, Does, refused, read_at, IsBasic, setting_3, setting_1, calling_3, calling_1, idle_1, idle_3, called_1, called_3}

-- ---- controls at modulo 8

abbrev BasicAt : Option Control → Type 0
BasicAt None = Unit {0}
BasicAt (Some c) = IsBasic c

basic_or : (b : Bool) (c : Control) (o : Option Control) → IsBasic c → BasicAt o → BasicAt (if b then Some c else o)
basic_or true c o h g = h
basic_or false c o h g = g

-- along the tests, in their order
unnumbered : (octet : ℕ) (poll : Bool) → BasicAt (unnumbered_at octet poll)
unnumbered octet poll =
    let frmr : Option Control = if octet == 0x87 then Some control.Frmr else None in
    let dm : Option Control = if octet == 0x0f then Some control.Dm else frmr in
    let ua : Option Control = if octet == 0x63 then Some control.Ua else dm in
    let disc : Option Control = if octet == 0x43 then Some (control.Disc poll) else ua in
    basic_or (octet == 0x2f) (control.Sabm poll) disc tt
    (basic_or (octet == 0x43) (control.Disc poll) ua tt
    (basic_or (octet == 0x63) control.Ua dm tt
    (basic_or (octet == 0x0f) control.Dm frmr tt
    (basic_or (octet == 0x87) control.Frmr None tt tt))))

basic_at : (octet : ℕ) → BasicAt (control_at octet)
basic_at octet =
    let nr : ℕ = octet / 32 in
    let rest : Option Control = unnumbered_at (bit_and octet 0xef) (not (bit_and octet 0x10 == 0)) in
    let srej : Option Control = if bit_and octet 0x0f == 0x0d then Some (control.Srej nr) else rest in
    let rej : Option Control = if bit_and octet 0x0f == 0x09 then Some (control.Rej nr) else srej in
    let rnr : Option Control = if bit_and octet 0x0f == 0x05 then Some (control.Rnr nr) else rej in
    let rr : Option Control = if bit_and octet 0x0f == 0x01 then Some (control.Rr nr) else rnr in
    basic_or (bit_and octet 0x01 == 0) (control.Info (bit_and (octet / 2) 0x07) nr) rr tt
    (basic_or (bit_and octet 0x0f == 0x01) (control.Rr nr) rnr tt
    (basic_or (bit_and octet 0x0f == 0x05) (control.Rnr nr) rej tt
    (basic_or (bit_and octet 0x0f == 0x09) (control.Rej nr) srej tt
    (basic_or (bit_and octet 0x0f == 0x0d) (control.Srej nr) rest tt
    (unnumbered (bit_and octet 0xef) (not (bit_and octet 0x10 == 0)))))))

-- what was read is basic
abbrev AllBasic : Option (Control × List ℕ) → Type 0
AllBasic None = Unit {0}
AllBasic (Some read) = IsBasic read.0

mapped : (o : Option Control) (information : List ℕ) → BasicAt o → AllBasic (option_map (λ c. (c, information)) o)
mapped None information b = tt
mapped (Some c) information b = b

basic_of : (body : List ℕ) → AllBasic (control_of 8 body)
unfolding control_of
basic_of [] = tt
basic_of (octet ∷ information) = mapped (control_at octet) information (basic_at octet)

-- ---- another address than those of the two ends

module _ (address : ℕ) (not_3 : (address == 3) ≡ false) (not_1 : (address == 1) ≡ false) where
  up_other : (side : Side) (sort : Sort) (n : ℕ) (i : List ℕ)
      → (if is_end side sort address then EndsIt else if (address == address_of_side (other side)) && has_number n sort then Counts i else Nothing) ≡ Nothing
  up_other E (Carries ns) n i = rw not_1 refl
  up_other E SetsUp n i = rw not_1 refl
  up_other E Agrees n i = rw not_1 refl
  up_other E Disconnects n i = rw not_1 refl
  up_other E Leaves n i = rw (not_3, not_1) refl
  up_other E Passes n i = rw not_1 refl
  up_other R (Carries ns) n i = rw not_3 refl
  up_other R SetsUp n i = rw not_3 refl
  up_other R Agrees n i = rw not_3 refl
  up_other R Disconnects n i = rw not_3 refl
  up_other R Leaves n i = rw (not_1, not_3) refl
  up_other R Passes n i = rw not_3 refl

  weight_other : (opened : Bool) (side : Side) (n : ℕ) (c : Control) (i : List ℕ) → weight_if opened side n (read_at address c i) ≡ Nothing
  weight_other true side n c i = up_other side (sort_of c) n i
  weight_other false side n c i = rw not_1 refl

  weight_read : (opened : Bool) (side : Side) (n : ℕ) (read : Option (Control × List ℕ)) → weight_in opened side n (read_as address read) ≡ Nothing
  weight_read opened side n None = refl
  weight_read opened side n (Some read) = weight_other opened side n read.0 read.1

  hears_other : (s : Station) (body : List ℕ) → hears_frame address body s ≡ strays s
  hears_other s body = rw (not_3, not_1) refl

-- ---- a frame

-- at a station of this shape
abbrev FrameDoes : (opened calling : Bool) → Station → (address : ℕ) → (body : List ℕ) → Type 0
FrameDoes opened calling s address body =
    Does (weight_in opened (sender calling) (length s.taken) (read_as address (control_of 8 body))) (shape opened calling s) (hears_frame address body (shape opened calling s))

abbrev ReadDoes : (opened calling : Bool) → Station → (address : ℕ) → Option (Control × List ℕ) → Type 0
ReadDoes opened calling s address read =
    Does (weight_in opened (sender calling) (length s.taken) (read_as address read)) (shape opened calling s) (hears_control address read (shape opened calling s))

read_3 : (opened calling : Bool) (s : Station) (read : Option (Control × List ℕ)) → ReadDoes opened calling s 3 read
read_3 true calling s None = refused Nothing (shape true calling s)
read_3 false true s None = refused Nothing (shape false true s)
read_3 false false s None = inl refl
read_3 true true s (Some read) = calling_3 s read.0 read.1
read_3 true false s (Some read) = called_3 s read.0 read.1
read_3 false true s (Some read) = setting_3 s read.0 read.1
read_3 false false s (Some read) = idle_3 s read.0 read.1

read_1 : (opened calling : Bool) (s : Station) (read : Option (Control × List ℕ)) → AllBasic read → ReadDoes opened calling s 1 read
read_1 true calling s None b = refused Nothing (shape true calling s)
read_1 false true s None b = refused Nothing (shape false true s)
read_1 false false s None b = inl refl
read_1 true true s (Some read) b = calling_1 s read.0 read.1
read_1 true false s (Some read) b = called_1 s read.0 read.1
read_1 false true s (Some read) b = setting_1 s read.0 read.1
read_1 false false s (Some read) b = idle_1 s read.0 read.1 b

frame_other : (opened calling : Bool) (s : Station) (address : ℕ) (body : List ℕ) → (address == 3) ≡ false → (address == 1) ≡ false → FrameDoes opened calling s address body
frame_other opened calling s address body a b =
    let t : Station = shape opened calling s in
    subst (λ (w : Weight). Does w t (hears_frame address body t)) (sym (weight_read address a b opened (sender calling) (length s.taken) (control_of 8 body)))
    (subst (λ (u : Station). Does Nothing t u) (sym (hears_other address a b t body)) (inl refl))

frame_does : (opened calling : Bool) (s : Station) (address : ℕ) (body : List ℕ) → FrameDoes opened calling s address body
frame_does opened calling s address body = elim (cases_Bool (address == 3)) [
  | inl a ↦ subst (λ (n : ℕ). FrameDoes opened calling s n body) (sym (eqb-true address 3 a)) (read_3 opened calling s (control_of 8 body))
  | inr a ↦ elim (cases_Bool (address == 1)) [
    | inl b ↦ subst (λ (n : ℕ). FrameDoes opened calling s n body) (sym (eqb-true address 1 b)) (read_1 opened calling s (control_of 8 body) (basic_of body))
    | inr b ↦ frame_other opened calling s address body a b
  ]
]

verdict_does : (opened calling : Bool) (s : Station) (v : Verdict)
    → Does (weight_in opened (sender calling) (length s.taken) (read_frame v)) (shape opened calling s) (hears v (shape opened calling s))
verdict_does opened calling s (Frame address body) = frame_does opened calling s address body
verdict_does opened calling s BadFcs = inl refl
verdict_does opened calling s TooShort = inl refl
verdict_does opened calling s TooLong = inl refl
verdict_does opened calling s Aborted = inl refl

-- ---- a call of a station

pub does_as : (w : Weight) (s t u : Station) → tuned u ≡ tuned t → Does w s t → Does w s u
does_as Nothing s t u e (inl h) = inl (e ∙ h)
does_as Nothing s t u e (inr l) = inr (l.0, e ∙ l.1)
does_as Opens s t u e (inl h) = inl (e ∙ h)
does_as Opens s t u e (inr l) = inr (l.0, e ∙ l.1)
does_as (Counts piece) s t u e (inl h) = inl (e ∙ h)
does_as (Counts piece) s t u e (inr l) = inr (l.0, e ∙ l.1)
does_as EndsIt s t u e l = (l.0, e ∙ l.1)

pub does_seen : (w : Weight) (s : Station) (now : ℕ) (u : Station) → Does w (sees now s) u → Does w s u
does_seen Nothing s now u h = h
does_seen Opens s now u h = h
does_seen (Counts piece) s now u h = h
does_seen EndsIt s now u h = h

pub awake : (opened calling : Bool) → is_down (phase_at opened calling) ≡ false
awake true calling = refl
awake false true = refl
awake false false = refl

pub shaped : (opened calling : Bool) (s : Station) → s.calling ≡ calling → s.extended ≡ false → s.phase ≡ phase_at opened calling → shape opened calling s ≡ s
shaped opened calling s c x p =
    sym (ap (λ (b : Bool). record s { calling = b }) c
    ∙ ap (λ (b : Bool). record s { calling = calling; extended = b }) x
    ∙ ap (λ (q : Phase). record s { calling = calling; extended = false; phase = q }) p)

-- a station that is up, or waits to be so, and something that comes
pub station_does : (opened calling : Bool) (s : Station) (now : ℕ) (v : Verdict) → s.calling ≡ calling → s.extended ≡ false → s.phase ≡ phase_at opened calling
    → Does (weight_in opened (sender calling) (length s.taken) (read_frame v)) s (receives now v s)
station_does opened calling s now v c x p =
    let t : Station = sees now s in
    let w : Weight = weight_in opened (sender calling) (length s.taken) (read_frame v) in
    let up : is_down s.phase ≡ false = ap is_down p ∙ awake opened calling in
    let h : Does w t (hears v t) =
    subst (λ (z : Station). Does (weight_in opened (sender calling) (length z.taken) (read_frame v)) z (hears v z)) (shaped opened calling t c x p) (verdict_does opened calling t v) in
    rw up (does_as w s (hears v t) (sends_waiting (hears v t)) (waiting_tuned (hears v t)) (does_seen w s now (hears v t) h))

-- at most one frame is read
one_read : (address : ℕ) (read : Option (Control × List ℕ)) → IsOne (read_as address read)
one_read address None = tt
one_read address (Some read) = tt

pub is_one : (v : Verdict) → IsOne (read_frame v)
is_one (Frame address body) = one_read address (control_of 8 body)
is_one BadFcs = tt
is_one TooShort = tt
is_one TooLong = tt
is_one Aborted = tt
