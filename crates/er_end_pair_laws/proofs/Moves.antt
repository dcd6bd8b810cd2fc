-- One end hands TPDUs down: each keeps what two ends rest on.
use Rattle.std.proofs.Common.{◌≡◌, ℕ, ◌+◌, ◌<◌, ◌≤◌, inl, inr, min, Bool, true, false, not, ◌&&◌, List, [], ◌∷◌, ◌++◌, length, map, take, Option, Some, None, refl, sym, ◌∙◌, ap, subst, arith, ltb-true, true≢false, length-take}
use Rattle.std.specs.Prelude.{nat_lt, slice_index_or, if◌then◌else◌, is_some}
use Rattle.std.proofs.lemmas.Bool.{and_parts}
use Rattle.std.proofs.lemmas.List.{take-append-le, map-append, length-map}
use Rattle.hdlc_station_model.specs.declared.phase.Phase.{Phase as Link_phase}
use Rattle.hdlc_station_model.specs.Frames.{Frame}
use Rattle.hdlc_station_model.specs.Stations.{is_down}
use Rattle.hdlc_station_model.specs.Calls.{hands}
use Rattle.t70_header.specs.Blocks.{last_block}
use Rattle.x224_tpdu.specs.Spellings.{IsSize}
use Rattle.x224_class2.specs.Segments.{Segment}
use Rattle.x224_class2.specs.Tpdus.{GivenTpdu, Cr, Cc, Dt, Ak, pdu_given}
use Rattle.x224_class2.specs.Transport.{Transport, is_over, TpduTurn, Rest, Opening as Opens_next, Acknowledgement, Data, turn_among, turn_of, ack_of, tpdu_at, state_behind, with_given, next_tpdu}
use Rattle.x224_class2.specs.declared.stage.Stage.{Stage}
use Rattle.x224_class2.specs.declared.stage.Stage.TheVariants as stages
use Rattle.er_end_model.specs.Layers.{Core, Upper, model, octets_due}
use Rattle.er_end_model.specs.Steps.{hand_next_tpdu}
use Rattle.er_end_pair_laws.specs.Openings.{EndLinkOpening}
use Rattle.er_end_pair_laws.specs.LawsBelow.{LawsBelow}
use Rattle.er_end_pair_laws.proofs.Lists.{each_push, number, Ends, ends_push, flat_none, flat_one, length_push}
use Rattle.er_end_pair_laws.proofs.Locals.{dt_of, ak_of, dr_of, dc_of, dts, aks, drs, Opens, Fits}
use Rattle.er_end_pair_laws.proofs.Turns.{gives_other, gives_ak, gives_dt, opens_later, segment_at, fits_dt, fits_ak, fits_cr, fits_cc}
use Rattle.er_end_pair_laws.proofs.Constants.{greeting}
use Rattle.er_end_pair_laws.proofs.Own.{Always, AlwaysOf, Proper, Stages, DueIs, EdgeIs, Alive, AliveOf, Own, heard, block, Beside, Busy}

-- ---- what the other end took is what this one gave

pub taken_few : (s : EndLinkOpening) (c : Bool) (k : ℕ) (w : List Frame) (x : Core) (l : List Frame) (y : Core) → Beside s c k w x l y
    → length y.line.taken ≤ length x.upper.transport.gave
taken_few s c k w x l y b =
    let p = b.0.0.0.prefix in
    let a : length y.line.taken ≡ min (length y.line.taken) (length x.line.handed) = ap length p ∙ length-take (length y.line.taken) x.line.handed in
    let e : length x.line.handed ≡ length x.upper.transport.gave = ap length b.1 ∙ length-map x.upper.transport.gave block in
    omega arith

-- the block of a TPDU is handed down
pub gives_beside : LawsBelow → (s : EndLinkOpening) (c : Bool) (k : ℕ) (w : List Frame) (x : Core) (l : List Frame) (y : Core) (g : GivenTpdu) (u : Upper) → Fits g → is_down x.line.phase ≡ false
    → u.transport.gave ≡ x.upper.transport.gave ++ g ∷ [] → Beside s c k w x l y
    → Beside s c k w (record x { line = hands x.moment (block g) x.line; upper = u }) l y
gives_beside below s c k w x l y g u fits live e b =
    let few = taken_few s c k w x l y b in
    let h = below.hands x.moment (block g) x.line in
    let short : length (block g) ≤ 1026 = omega (arith, below.short (pdu_given g) fits) in
    let handed : (hands x.moment (block g) x.line).handed ≡ x.line.handed ++ block g ∷ [] =
    elim h.0 [ inl down ↦ absurd (true≢false (sym down ∙ live)) | inr more ↦ more ] in (
      below.keep.handed false k w x.moment x.line l y.line (block g) short b.0,
      handed ∙ ap (λ (t : List (List ℕ)). t ++ block g ∷ []) b.1 ∙ sym (ap (map block) e ∙ map-append block x.upper.transport.gave (g ∷ [])),
      b.2,
      subst (λ (t : List GivenTpdu). Own s (not c) y (take (length y.line.taken) t)) (sym e)
          (subst (λ (t : List GivenTpdu). Own s (not c) y t) (sym (take-append-le (length y.line.taken) x.upper.transport.gave (g ∷ []) few)) b.3),
    )

pub gives_heard : LawsBelow → (x y : Core) (g : GivenTpdu) (u : Upper) → heard (record x { line = hands x.moment (block g) x.line; upper = u }) y ≡ heard x y
gives_heard below x y g u = ap (λ (t : List (List ℕ)). take (length t) y.upper.transport.gave) (below.hands x.moment (block g) x.line).1

-- ---- one TPDU more in what holds always

pub always_push : (s : EndLinkOpening) (c : Bool) (segs : List Segment) (given acked edge newest : ℕ) (contents : List Segment) (gave : List GivenTpdu)
    (sent accepted : List (List ℕ)) (h : List GivenTpdu) (g : GivenTpdu) → dt_of g ≡ [] → ak_of g ≡ [] → dc_of g ≡ [] → Opens c s.settings.credit s.settings.size (gave ++ g ∷ []) → Fits g
    → Always s c segs given acked edge newest contents gave sent accepted h → Always s c segs given acked edge newest contents (gave ++ g ∷ []) sent accepted h
always_push s c segs given acked edge newest contents gave sent accepted h g d a o opens fits v = record {
  gives = gives_other s.settings.credit segs given acked edge newest contents gave g d a v.gives;
  gets = v.gets;
  cuts = v.cuts;
  opens = opens;
  dc_few = subst (λ (t : List ℕ). length t ≤ length (drs h)) (sym (flat_none dc_of gave g o)) v.dc_few;
  out = v.out;
  within = v.within;
  fits = each_push Fits gave g v.fits fits;
  sendable = v.sendable;
}

-- ---- the next TPDU

-- the end behind a turn of its transport
abbrev pub gives_at : TpduTurn → Core → Core
gives_at u x = record x {
  line = hands x.moment (last_block (octets_due (tpdu_at x.upper.transport u))) x.line;
  upper = record (x.upper) { transport = with_given (state_behind x.upper.transport u) (tpdu_at x.upper.transport u) };
}

abbrev TurnIs : Option (List ℕ) → (owed granted : Bool) → TpduTurn → Type 0
TurnIs due owed granted Rest = Unit {0}
TurnIs due owed granted (Opens_next user) = due ≡ Some user
TurnIs due owed granted Acknowledgement = (due ≡ None) × (owed ≡ true)
TurnIs due owed granted Data = (due ≡ None) × (granted ≡ true)

turn_tells : (due : Option (List ℕ)) (owed granted : Bool) → TurnIs due owed granted (turn_among due owed granted)
turn_tells (Some user) owed granted = refl
turn_tells None true granted = (refl, refl)
turn_tells None false true = (refl, refl)
turn_tells None false false = tt

pub live_stage : (c : Bool) (stage : Stage) (due : Option (List ℕ)) (h gave : List GivenTpdu) (phase : Link_phase) → Stages c stage due h gave phase → is_over stage ≡ false
live_stage true stages.New due h gave phase a = refl
live_stage false stages.New due h gave phase a = refl
live_stage true stages.Calling due h gave phase a = refl
live_stage false stages.Calling due h gave phase a = refl
live_stage c stages.Called due h gave phase a = refl
live_stage c stages.Open due h gave phase a = refl
live_stage c stages.Over due h gave phase a = absurd a

-- the turn of a live end
abbrev pub turn_live : Transport → TpduTurn
turn_live t = turn_among t.due (nat_lt t.newest (ack_of t)) (nat_lt t.given (length t.segments) && nat_lt t.given t.edge)

pub turn_is : (t : Transport) → is_over t.stage ≡ false → turn_of t ≡ turn_live t
turn_is t live = ap (λ (b : Bool). if b then Rest else turn_live t) live

-- nothing was got before anything was heard
pub none_got : (h : List GivenTpdu) (contents : List Segment) → dts h ≡ number 0 contents → h ≡ [] → contents ≡ []
none_got h [] e none = refl
none_got h (x ∷ xs) e none = absurd (let u : [] ≡ number 0 (x ∷ xs) = sym (ap dts none) ∙ e in let v : ⊥ = cc in v)

-- an end whose transport owes an AK, or may give a DT, gave something before
some_given : (c : Bool) (stage : Stage) (due : Option (List ℕ)) (h gave : List GivenTpdu) (phase : Link_phase) → due ≡ None → (stage ≡ stages.New → ⊥) → Stages c stage due h gave phase → 1 ≤ length gave
some_given true stages.New due h gave phase e not_new a = absurd (not_new refl)
some_given false stages.New due h gave phase e not_new a = absurd (not_new refl)
some_given true stages.Calling due h gave phase e not_new a = a.1 e
some_given false stages.Calling due h gave phase e not_new a = absurd a
some_given c stages.Called due h gave phase e not_new a = absurd a
some_given c stages.Open due h gave phase e not_new a = a.1 e
some_given c stages.Over due h gave phase e not_new a = absurd a

-- a stage with more given
stages_more : (c : Bool) (stage : Stage) (h gave : List GivenTpdu) (g : GivenTpdu) (due : Option (List ℕ)) (phase : Link_phase) → (stage ≡ stages.New → ⊥) → Stages c stage due h gave phase
    → Stages c stage None h (gave ++ g ∷ []) phase
stages_more true stages.New h gave g due phase not_new a = absurd (not_new refl)
stages_more false stages.New h gave g due phase not_new a = absurd (not_new refl)
stages_more true stages.Calling h gave g due phase not_new a = (a.0, λ e. omega (arith, length_push gave g), a.2)
stages_more false stages.Calling h gave g due phase not_new a = absurd a
stages_more c stages.Called h gave g due phase not_new a = absurd a
stages_more c stages.Open h gave g due phase not_new a = (a.0, λ e. omega (arith, length_push gave g))
stages_more c stages.Over h gave g due phase not_new a = absurd a

-- ---- what is given at a turn

-- a size of TPDUs, as the settings have it
pub size_known : LawsBelow → (s : EndLinkOpening) → IsSize s.settings.size × (s.settings.size ≤ 1024) × (6 ≤ s.settings.size)
size_known below s =
    let b = below.bounded s.settings s.allowed in
    elim b.size [
      | inl e ↦ (inl e, omega arith, omega arith)
      | inr (inl e) ↦ (inr (inl e), omega arith, omega arith)
      | inr (inr (inl e)) ↦ (inr (inr (inl e)), omega arith, omega arith)
      | inr (inr (inr e)) ↦ (inr (inr (inr (inl e))), omega arith, omega arith)
    ]

pub credit_known : LawsBelow → (s : EndLinkOpening) → (1 ≤ s.settings.credit) × (s.settings.credit ≤ 15)
credit_known below s = (below.bounded s.settings s.allowed).credit

-- the station gets the block of a TPDU that is given at a turn
given_beside : LawsBelow → (s : EndLinkOpening) (c : Bool) (k : ℕ) (w : List Frame) (x : Core) (l : List Frame) (y : Core) (g : GivenTpdu) (t : Transport) → Fits g
    → t.gave ≡ x.upper.transport.gave → Busy s c k w x l y
    → Beside s c k w (record x { line = hands x.moment (block g) x.line; upper = record (x.upper) { transport = with_given t (Some g) } }) l y
given_beside below s c k w x l y g t fits e b =
    gives_beside below s c k w x l y g (record (x.upper) { transport = with_given t (Some g) }) fits b.alive.awake (ap (λ (r : List GivenTpdu). r ++ g ∷ []) e) b.beside

-- with the AK of a higher number
ack_keeps : LawsBelow → (s : EndLinkOpening) (c : Bool) (k : ℕ) (w : List Frame) (x : Core) (l : List Frame) (y : Core) → x.upper.transport.due ≡ None
    → nat_lt x.upper.transport.newest (ack_of x.upper.transport) ≡ true → Busy s c k w x l y → Busy s c k w (gives_at Acknowledgement x) l y
ack_keeps below s c k w x l y none owed b =
    let t : Transport = x.upper.transport in
    let n : ℕ = ack_of t in
    let g : GivenTpdu = Ak t.credit n in
    let more : t.newest < n = ltb-true t.newest n owed in
    let lag : n ≤ length t.contents = below.most t.taken t.contents in
    let C : ℕ = s.settings.credit in
    let fits : Fits g = fits_ak t.credit n (omega (arith, b.alive.credit_is, (credit_known below s).1)) in
    let not_new : t.stage ≡ stages.New → ⊥ = λ e.
    let z = none_got (heard x y) t.contents b.always.gets.all (new_heard c t.due (heard x y) t.gave x.line.phase (subst (λ (st : Stage). Stages c st t.due (heard x y) t.gave x.line.phase) e b.alive.stages)) in
    let q : length t.contents ≡ 0 = ap length z in omega arith in
    let u : Upper = record (x.upper) { transport = with_given (record t { newest = n }) (Some g) } in
    let x' : Core = record x { line = hands x.moment (block g) x.line; upper = u } in
    let eh = gives_heard below x y g u in
    let some = some_given c t.stage t.due (heard x y) t.gave x.line.phase none not_new b.alive.stages in
    let len = length_push t.gave g in
    record {
      beside = given_beside below s c k w x l y g (record t { newest = n }) fits refl b;
      always = subst (λ (h : List GivenTpdu). AlwaysOf s c x' h) (sym eh) (record {
        gives = gives_ak C t.segments t.given t.acked t.edge t.newest t.contents t.gave t.credit n (omega arith) lag b.always.gives;
        gets = b.always.gets;
        cuts = b.always.cuts;
        opens = opens_later c C s.settings.size t.gave g some b.alive.credit_is b.always.opens;
        dc_few = subst (λ (q : List ℕ). length q ≤ length (drs (heard x y))) (sym (flat_none dc_of t.gave g refl)) b.always.dc_few;
        out = b.always.out;
        within = b.always.within;
        fits = each_push Fits t.gave g b.always.fits fits;
        sendable = b.always.sendable;
      });
      told = λ a. let v = b.told a in record { proper = each_push (Proper s c) t.gave g v.proper tt; said = v.said; good = v.good };
      alive = subst (λ (h : List GivenTpdu). AliveOf s c x' h) (sym eh) (subst (λ (p : Link_phase). Alive s c t.stage t.is_caller t.credit t.size t.due (t.gave ++ g ∷ []) (heard x y) t.given t.acked t.edge n x.joined p) (sym (below.phases.hands x.moment (block g) x.line))
          (record {
            stages = subst (λ (d : Option (List ℕ)). Stages c t.stage d (heard x y) (t.gave ++ g ∷ []) x.line.phase) (sym none) (stages_more c t.stage (heard x y) t.gave g t.due x.line.phase not_new b.alive.stages);
            role_is = b.alive.role_is;
            size_is = b.alive.size_is;
            credit_is = b.alive.credit_is;
            joined_is = b.alive.joined_is;
            no_dr = ap length (flat_none dr_of t.gave g refl) ∙ b.alive.no_dr;
            no_dr_heard = b.alive.no_dr_heard;
            count = omega (arith, b.alive.count);
            final = subst (λ (q : List ℕ). Ends 0 q n) (sym (flat_one ak_of t.gave g n refl)) (ends_push 0 n (aks t.gave));
            edge_is = b.alive.edge_is;
            due_is = subst (λ (d : Option (List ℕ)). DueIs s c d (t.gave ++ g ∷ [])) (sym none) tt;
            awake = b.alive.awake;
          }));
      trusting = b.trusting;
    }
  where
    new_heard : (c : Bool) (due : Option (List ℕ)) (h gave : List GivenTpdu) (phase : Link_phase) → Stages c stages.New due h gave phase → h ≡ []
    new_heard true due h gave phase a = a.1
    new_heard false due h gave phase a = a.1

-- with the next segment
data_keeps : LawsBelow → (s : EndLinkOpening) (c : Bool) (k : ℕ) (w : List Frame) (x : Core) (l : List Frame) (y : Core) → x.upper.transport.due ≡ None
    → (nat_lt x.upper.transport.given (length x.upper.transport.segments) && nat_lt x.upper.transport.given x.upper.transport.edge) ≡ true
    → Busy s c k w x l y → Busy s c k w (gives_at Data x) l y
data_keeps below s c k w x l y none granted b =
    let t : Transport = x.upper.transport in
    let next : Segment = slice_index_or t.segments t.given (true, []) in
    let g : GivenTpdu = Dt next.0 t.given next.1 in
    let parts = and_parts (nat_lt t.given (length t.segments)) (nat_lt t.given t.edge) granted in
    let some : t.given < length t.segments = ltb-true t.given (length t.segments) parts.0 in
    let low : t.given < t.edge = ltb-true t.given t.edge parts.1 in
    let C : ℕ = s.settings.credit in
    let fits : Fits g = fits_dt s.settings.size next.0 t.given next.1 (size_known below s).1 (segment_at s.settings.size t.segments t.given (true, []) some b.always.cuts.short) in
    let not_new : t.stage ≡ stages.New → ⊥ = λ e.
    let q : t.edge ≡ 0 = new_edge t.acked t.edge C (subst (λ (st : Stage). EdgeIs st t.acked t.edge C) e b.alive.edge_is) in omega arith in
    let u : Upper = record (x.upper) { transport = with_given (record t { given = t.given + 1 }) (Some g) } in
    let x' : Core = record x { line = hands x.moment (block g) x.line; upper = u } in
    let eh = gives_heard below x y g u in
    let gave_some = some_given c t.stage t.due (heard x y) t.gave x.line.phase none not_new b.alive.stages in
    let len = length_push t.gave g in
    record {
      beside = given_beside below s c k w x l y g (record t { given = t.given + 1 }) fits refl b;
      always = subst (λ (h : List GivenTpdu). AlwaysOf s c x' h) (sym eh) (record {
        gives = gives_dt C t.segments t.given t.acked t.edge t.newest t.contents t.gave next.0 next.1 some low refl b.always.gives;
        gets = b.always.gets;
        cuts = b.always.cuts;
        opens = opens_later c C s.settings.size t.gave g gave_some tt b.always.opens;
        dc_few = subst (λ (q : List ℕ). length q ≤ length (drs (heard x y))) (sym (flat_none dc_of t.gave g refl)) b.always.dc_few;
        out = b.always.out;
        within = b.always.within;
        fits = each_push Fits t.gave g b.always.fits fits;
        sendable = b.always.sendable;
      });
      told = λ a. let v = b.told a in record { proper = each_push (Proper s c) t.gave g v.proper tt; said = v.said; good = v.good };
      alive = subst (λ (h : List GivenTpdu). AliveOf s c x' h) (sym eh) (subst (λ (p : Link_phase). Alive s c t.stage t.is_caller t.credit t.size t.due (t.gave ++ g ∷ []) (heard x y) (t.given + 1) t.acked t.edge t.newest x.joined p) (sym (below.phases.hands x.moment (block g) x.line))
          (record {
            stages = subst (λ (d : Option (List ℕ)). Stages c t.stage d (heard x y) (t.gave ++ g ∷ []) x.line.phase) (sym none) (stages_more c t.stage (heard x y) t.gave g t.due x.line.phase not_new b.alive.stages);
            role_is = b.alive.role_is;
            size_is = b.alive.size_is;
            credit_is = b.alive.credit_is;
            joined_is = b.alive.joined_is;
            no_dr = ap length (flat_none dr_of t.gave g refl) ∙ b.alive.no_dr;
            no_dr_heard = b.alive.no_dr_heard;
            count = omega (arith, b.alive.count);
            final = subst (λ (q : List ℕ). Ends 0 q t.newest) (sym (flat_none ak_of t.gave g refl)) b.alive.final;
            edge_is = b.alive.edge_is;
            due_is = subst (λ (d : Option (List ℕ)). DueIs s c d (t.gave ++ g ∷ [])) (sym none) tt;
            awake = b.alive.awake;
          }));
      trusting = b.trusting;
    }
  where
    new_edge : (acked edge credit : ℕ) → EdgeIs stages.New acked edge credit → edge ≡ 0
    new_edge acked edge credit a = a.0

-- the CR or CC
abbrev first_of : Bool → (credit size : ℕ) → List ℕ → GivenTpdu
first_of true credit size user = Cr credit size user
first_of false credit size user = Cc credit size user

first_parts : (c : Bool) (credit size : ℕ) (user : List ℕ)
    → (dt_of (first_of c credit size user) ≡ []) × (ak_of (first_of c credit size user) ≡ []) × (dr_of (first_of c credit size user) ≡ []) × (dc_of (first_of c credit size user) ≡ [])
first_parts true credit size user = (refl, refl, refl, refl)
first_parts false credit size user = (refl, refl, refl, refl)

first_fits : (c : Bool) (C S : ℕ) (user : List ℕ) → C ≤ 15 → IsSize S → length user ≤ 32 → Fits (first_of c C S user)
first_fits true C S user most size short = fits_cr C S user most size short
first_fits false C S user most size short = fits_cc C S user most size short

first_opens : (c : Bool) (C S : ℕ) (user : List ℕ) (gave : List GivenTpdu) → gave ≡ [] → Opens c C S (gave ++ first_of c C S user ∷ [])
first_opens true C S user gave e = subst (λ (t : List GivenTpdu). Opens true C S (t ++ Cr C S user ∷ [])) (sym e) ((refl, refl), tt)
first_opens false C S user gave e = subst (λ (t : List GivenTpdu). Opens false C S (t ++ Cc C S user ∷ [])) (sym e) ((refl, refl), tt)

first_proper : (s : EndLinkOpening) (c : Bool) (C S : ℕ) (user : List ℕ) → user ≡ greeting s c → Proper s c (first_of c C S user)
first_proper s true C S user e = e
first_proper s false C S user e = e

stages_first : (c : Bool) (stage : Stage) (h gave : List GivenTpdu) (g : GivenTpdu) (user : List ℕ) (phase : Link_phase) → Stages c stage (Some user) h gave phase
    → Stages c stage None h (gave ++ g ∷ []) phase
stages_first true stages.New h gave g user phase a = absurd (let e = a.0 in let u : ⊥ = cc in u)
stages_first false stages.New h gave g user phase a = absurd (let e = a.0 in let u : ⊥ = cc in u)
stages_first true stages.Calling h gave g user phase a = (a.0, λ e. omega (arith, length_push gave g), a.2)
stages_first false stages.Calling h gave g user phase a = absurd a
stages_first c stages.Called h gave g user phase a = absurd a
stages_first c stages.Open h gave g user phase a = (a.0, λ e. omega (arith, length_push gave g))
stages_first c stages.Over h gave g user phase a = absurd a

opening_keeps : LawsBelow → (s : EndLinkOpening) (c : Bool) (k : ℕ) (w : List Frame) (x : Core) (l : List Frame) (y : Core) (user : List ℕ) → x.upper.transport.due ≡ Some user
    → Busy s c k w x l y → Busy s c k w (gives_at (Opens_next user) x) l y
opening_keeps below s c k w x l y user e b =
    let t : Transport = x.upper.transport in
    let C : ℕ = s.settings.credit in
    let S : ℕ = s.settings.size in
    let g : GivenTpdu = first_of c C S user in
    let is_first : (if t.is_caller then Cr t.credit t.size user else Cc t.credit t.size user) ≡ g =
    ap (λ (r : Bool). if r then Cr t.credit t.size user else Cc t.credit t.size user) b.alive.role_is
    ∙ ap (λ (n : ℕ). if c then Cr n t.size user else Cc n t.size user) b.alive.credit_is
    ∙ ap (λ (n : ℕ). if c then Cr C n user else Cc C n user) b.alive.size_is ∙ chosen c C S user in
    let due = subst (λ (d : Option (List ℕ)). DueIs s c d t.gave) e b.alive.due_is in
    let p = first_parts c C S user in
    let fits : Fits g = first_fits c C S user (credit_known below s).1 (size_known below s).0 due.1 in
    let none : Transport = record t { due = None } in
    let u : Upper = record (x.upper) { transport = with_given none (Some g) } in
    let x' : Core = record x { line = hands x.moment (block g) x.line; upper = u } in
    let eh = gives_heard below x y g u in
    let len = length_push t.gave g in
    let zero_length : length t.gave ≡ 0 = ap length due.0 in
    subst (λ (z : GivenTpdu). Busy s c k w (record x { line = hands x.moment (block z) x.line; upper = record (x.upper) { transport = with_given none (Some z) } }) l y) (sym is_first)
    (record {
      beside = given_beside below s c k w x l y g none fits refl b;
      always = subst (λ (h : List GivenTpdu). AlwaysOf s c x' h) (sym eh)
          (always_push s c t.segments t.given t.acked t.edge t.newest t.contents t.gave x.upper.sent x.upper.accepted (heard x y) g p.0 p.1 p.3
          (first_opens c C S user t.gave due.0) fits b.always);
      told = λ a. let v = b.told a in record { proper = each_push (Proper s c) t.gave g v.proper (first_proper s c C S user (due.2 a)); said = v.said; good = v.good };
      alive = subst (λ (h : List GivenTpdu). AliveOf s c x' h) (sym eh) (subst (λ (p : Link_phase). Alive s c t.stage t.is_caller t.credit t.size None (t.gave ++ g ∷ []) (heard x y) t.given t.acked t.edge t.newest x.joined p) (sym (below.phases.hands x.moment (block g) x.line))
          (record {
            stages = stages_first c t.stage (heard x y) t.gave g user x.line.phase (subst (λ (d : Option (List ℕ)). Stages c t.stage d (heard x y) t.gave x.line.phase) e b.alive.stages);
            role_is = b.alive.role_is;
            size_is = b.alive.size_is;
            credit_is = b.alive.credit_is;
            joined_is = b.alive.joined_is;
            no_dr = ap length (flat_none dr_of t.gave g p.2) ∙ b.alive.no_dr;
            no_dr_heard = b.alive.no_dr_heard;
            count = omega arith;
            final = subst (λ (q : List ℕ). Ends 0 q t.newest) (sym (flat_none ak_of t.gave g p.1)) b.alive.final;
            edge_is = b.alive.edge_is;
            due_is = tt;
            awake = b.alive.awake;
          }));
      trusting = b.trusting;
    })
  where
    chosen : (c : Bool) (C S : ℕ) (user : List ℕ) → (if c then Cr C S user else Cc C S user) ≡ first_of c C S user
    chosen true C S user = refl
    chosen false C S user = refl

-- at any turn
turn_keeps : LawsBelow → (s : EndLinkOpening) (c : Bool) (k : ℕ) (w : List Frame) (x : Core) (l : List Frame) (y : Core) (u : TpduTurn)
    → TurnIs x.upper.transport.due (nat_lt x.upper.transport.newest (ack_of x.upper.transport)) (nat_lt x.upper.transport.given (length x.upper.transport.segments) && nat_lt x.upper.transport.given x.upper.transport.edge) u
    → is_some (tpdu_at x.upper.transport u) ≡ true → Busy s c k w x l y → Busy s c k w (gives_at u x) l y
turn_keeps below s c k w x l y Rest h some b = absurd cc
turn_keeps below s c k w x l y (Opens_next user) h some b = opening_keeps below s c k w x l y user h b
turn_keeps below s c k w x l y Acknowledgement h some b = ack_keeps below s c k w x l y h.0 h.1 b
turn_keeps below s c k w x l y Data h some b = data_keeps below s c k w x l y h.0 h.1 b

pub next_keeps : LawsBelow → (s : EndLinkOpening) (c : Bool) (k : ℕ) (w : List Frame) (x : Core) (l : List Frame) (y : Core) → is_some (next_tpdu x.upper.transport) ≡ true
    → Busy s c k w x l y → Busy s c k w (hand_next_tpdu model x) l y
next_keeps below s c k w x l y some b =
    let t : Transport = x.upper.transport in
    let e = turn_is t (live_stage c t.stage t.due (heard x y) t.gave x.line.phase b.alive.stages) in
    subst (λ (u : TpduTurn). Busy s c k w (gives_at u x) l y) (sym e)
    (turn_keeps below s c k w x l y (turn_live t) (turn_tells t.due (nat_lt t.newest (ack_of t)) (nat_lt t.given (length t.segments) && nat_lt t.given t.edge))
    (sym (ap (λ (u : TpduTurn). is_some (tpdu_at t u)) e) ∙ some) b)
