-- One end leaves: with a DR, with a DC, or without a word.
use Rattle.std.proofs.Common.{◌≡◌, ℕ, ◌+◌, ◌-◌, ◌≤◌, ◌⊎◌, inl, inr, Bool, true, false, not, ◌&&◌, ◌||◌, List, [], ◌∷◌, ◌++◌, length, take, Option, Some, None, refl, sym, ◌∙◌, subst, arith, true≢false}
use Rattle.std.specs.Prelude.{nat_lt, ◌==◌}
use Rattle.std.proofs.lemmas.Bool.{cond_both, and_parts}
use Rattle.er_base.specs.declared.release.Release.{Release}
use Rattle.hdlc_station_model.specs.declared.phase.Phase.{Phase as Link_phase}
use Rattle.hdlc_station_model.specs.declared.phase.Phase.TheVariants as link
use Rattle.hdlc_station_model.specs.Frames.{Frame}
use Rattle.hdlc_station_model.specs.Stations.{Station, is_up, is_down}
use Rattle.hdlc_station_model.specs.Sending.{can_send, waiting}
use Rattle.hdlc_station_model.specs.Calls as station
use Rattle.x224_class2.specs.Tpdus.{GivenTpdu, Dr, Dc}
use Rattle.x224_class2.specs.Transport.{Transport, with_given}
use Rattle.x224_class2.specs.declared.stage.Stage.{Stage}
use Rattle.x224_class2.specs.declared.stage.Stage.TheVariants as stages
use Rattle.er_end_model.specs.Layers.{Core, Upper, model}
use Rattle.er_end_model.specs.Steps.{with_release, hand_tpdu, hand_tpdu_if_may, close_link, send_owed_answer, send_dr, answer_dr, end_after_di}
use Rattle.er_end_pair_laws.specs.Openings.{EndLinkOpening, Agree}
use Rattle.er_end_pair_laws.specs.Reasons.{IsLosingLineRelease}
use Rattle.er_end_pair_laws.specs.LawsBelow.{LawsBelow}
use Rattle.er_end_pair_laws.proofs.Lists.{each_push, flat_one, length_push}
use Rattle.er_end_pair_laws.proofs.Locals.{dc_of, drs, dcs, Opens, Fits}
use Rattle.er_end_pair_laws.proofs.Turns.{gives_other, opens_later, fits_dc}
use Rattle.er_end_pair_laws.proofs.Own.{AlwaysOf, Proper, Stages, heard, Gone}
use Rattle.er_end_pair_laws.proofs.Moves.{gives_beside, gives_heard, always_push}
use Rattle.er_end_pair_laws.proofs.Concludes.{finishes_beside, finishes_heard}

-- ---- a DR may be given: something was given before, or a callee gives it first, or the station isn't up

abbrev pub LeaveOk : Bool → List GivenTpdu → Link_phase → Type 0
LeaveOk c gave phase = (1 ≤ length gave) ⊎ ((c ≡ false) × (gave ≡ [])) ⊎ (is_up phase ≡ false)

pub leave_ok : (c : Bool) (stage : Stage) (due : Option (List ℕ)) (h gave : List GivenTpdu) (phase : Link_phase) → due ≡ None → Stages c stage due h gave phase → LeaveOk c gave phase
leave_ok true stages.New due h gave phase e a = inr (inr a.3)
leave_ok false stages.New due h gave phase e a = inr (inl (refl, a.2))
leave_ok true stages.Calling due h gave phase e a = inl (a.1 e)
leave_ok false stages.Calling due h gave phase e a = absurd a
leave_ok c stages.Called due h gave phase e a = absurd a
leave_ok c stages.Open due h gave phase e a = inl (a.1 e)
leave_ok c stages.Over due h gave phase e a = absurd a

-- a station that may send is up
pub may_up : (x : Station) → station.may_send x ≡ true → is_up x.phase ≡ true
may_up x h =
    let a = and_parts (can_send x) (waiting x == 0) h in
    let b = and_parts (is_up x.phase && not x.busy && nat_lt (x.sent - x.acked) x.window) (x.calling || nat_lt 0 (length x.taken)) a.0 in
    let d = and_parts (is_up x.phase && not x.busy) (nat_lt (x.sent - x.acked) x.window) b.0 in
    (and_parts (is_up x.phase) (not x.busy) d.0).0

pub up_lives : (p : Link_phase) → is_up p ≡ true → is_down p ≡ false
up_lives link.Down h = absurd cc
up_lives _ h = refl

opens_dr : (c : Bool) (C S : ℕ) (gave : List GivenTpdu) (phase : Link_phase) (reason : ℕ) (user : List ℕ) → is_up phase ≡ true → LeaveOk c gave phase → Opens c C S gave → Opens c C S (gave ++ Dr reason user ∷ [])
opens_dr c C S gave phase reason user up (inl some) h = opens_later c C S gave (Dr reason user) some tt h
opens_dr c C S gave phase reason user up (inr (inl first)) h =
    subst (λ (b : Bool). Opens b C S (gave ++ Dr reason user ∷ [])) (sym first.0) (subst (λ (t : List GivenTpdu). Opens false C S (t ++ Dr reason user ∷ [])) (sym first.1) (tt, tt))
opens_dr c C S gave phase reason user up (inr (inr asleep)) h = absurd (true≢false (sym up ∙ asleep))

-- ---- a TPDU of the end's own

-- one that is neither DT, AK nor DC
given_gone : LawsBelow → (s : EndLinkOpening) (c : Bool) (k : ℕ) (w : List Frame) (x : Core) (l : List Frame) (y : Core) (reason : ℕ) (user : List ℕ) → Fits (Dr reason user)
    → LeaveOk c x.upper.transport.gave x.line.phase → (Agree s → Proper s c (Dr reason user)) → station.may_send x.line ≡ true → Gone s c k w x l y
    → Gone s c k w (hand_tpdu model (Dr reason user) x) l y
given_gone below s c k w x l y reason user fits ok proper may b =
    let t : Transport = x.upper.transport in
    let g : GivenTpdu = Dr reason user in
    let u : Upper = record (x.upper) { transport = with_given t (Some g) } in
    let up = may_up x.line may in
    record {
      beside = gives_beside below s c k w x l y g u fits (up_lives x.line.phase up) refl b.beside;
      always = subst (λ (h : List GivenTpdu). AlwaysOf s c (hand_tpdu model g x) h) (sym (gives_heard below x y g u))
          (always_push s c t.segments t.given t.acked t.edge t.newest t.contents t.gave x.upper.sent x.upper.accepted (heard x y) g refl refl refl
          (opens_dr c s.settings.credit s.settings.size t.gave x.line.phase reason user up ok b.always.opens) fits b.always);
      told = λ a. let v = b.told a in record { proper = each_push (Proper s c) t.gave g v.proper (proper a); said = v.said; good = v.good };
    }

pub drops : LawsBelow → (s : EndLinkOpening) (c : Bool) (k : ℕ) (w : List Frame) (x : Core) (l : List Frame) (y : Core) (reason : ℕ) (user : List ℕ) → Fits (Dr reason user)
    → LeaveOk c x.upper.transport.gave x.line.phase → (Agree s → Proper s c (Dr reason user)) → Gone s c k w x l y
    → Gone s c k w (hand_tpdu_if_may model (Dr reason user) x) l y
drops below s c k w x l y reason user fits ok proper b =
    cond_both (station.may_send x.line) (hand_tpdu model (Dr reason user) x) x (λ z. Gone s c k w z l y)
    (λ may. given_gone below s c k w x l y reason user fits ok proper may b) (λ may. b)

-- a DC
dc_gone : LawsBelow → (s : EndLinkOpening) (c : Bool) (k : ℕ) (w : List Frame) (x : Core) (l : List Frame) (y : Core) → 1 ≤ length x.upper.transport.gave
    → length (dcs x.upper.transport.gave) + 1 ≤ length (drs (heard x y)) → station.may_send x.line ≡ true → Gone s c k w x l y
    → Gone s c k w (hand_tpdu model Dc x) l y
dc_gone below s c k w x l y some few may b =
    let t : Transport = x.upper.transport in
    let u : Upper = record (x.upper) { transport = with_given t (Some Dc) } in
    let C : ℕ = s.settings.credit in
    let v = b.always in
    let len = length_push (dcs t.gave) 0 in
    record {
      beside = gives_beside below s c k w x l y Dc u fits_dc (up_lives x.line.phase (may_up x.line may)) refl b.beside;
      always = subst (λ (h : List GivenTpdu). AlwaysOf s c (hand_tpdu model Dc x) h) (sym (gives_heard below x y Dc u)) (record {
        gives = gives_other C t.segments t.given t.acked t.edge t.newest t.contents t.gave Dc refl refl v.gives;
        gets = v.gets;
        cuts = v.cuts;
        opens = opens_later c C s.settings.size t.gave Dc some tt v.opens;
        dc_few = subst (λ (q : List ℕ). length q ≤ length (drs (heard x y))) (sym (flat_one dc_of t.gave Dc 0 refl)) (omega arith);
        out = v.out;
        within = v.within;
        fits = each_push Fits t.gave Dc v.fits fits_dc;
        sendable = v.sendable;
      });
      told = λ a. let v = b.told a in record { proper = each_push (Proper s c) t.gave Dc v.proper tt; said = v.said; good = v.good };
    }

drops_dc : LawsBelow → (s : EndLinkOpening) (c : Bool) (k : ℕ) (w : List Frame) (x : Core) (l : List Frame) (y : Core) → 1 ≤ length x.upper.transport.gave
    → length (dcs x.upper.transport.gave) + 1 ≤ length (drs (heard x y)) → Gone s c k w x l y → Gone s c k w (hand_tpdu_if_may model Dc x) l y
drops_dc below s c k w x l y some few b =
    cond_both (station.may_send x.line) (hand_tpdu model Dc x) x (λ z. Gone s c k w z l y) (λ may. dc_gone below s c k w x l y some few may b) (λ may. b)

-- ---- the link is ended, the end is released

shut_gone : LawsBelow → (s : EndLinkOpening) (c : Bool) (k : ℕ) (w : List Frame) (x : Core) (l : List Frame) (y : Core) → Gone s c k w x l y → Gone s c k w (close_link model x) l y
shut_gone below s c k w x l y b =
    let o = (below.others 0 x.line).2 in
    record {
      beside = (below.keep.closed false k w x.line l y.line b.beside.0, o.0 ∙ b.beside.1, b.beside.2, b.beside.3);
      always = subst (λ (t : List (List ℕ)). AlwaysOf s c (close_link model x) (take (length t) y.upper.transport.gave)) (sym o.1) b.always;
      told = b.told;
    }

finished_gone : LawsBelow → (s : EndLinkOpening) (c : Bool) (k : ℕ) (w : List Frame) (x : Core) (l : List Frame) (y : Core) → Gone s c k w x l y → Gone s c k w (send_owed_answer model x) l y
finished_gone below s c k w x l y b =
    record {
      beside = finishes_beside below s c k w x l y b.beside;
      always = subst (λ (h : List GivenTpdu). AlwaysOf s c (send_owed_answer model x) h) (sym (finishes_heard below x y)) b.always;
      told = b.told;
    }

pub ended_gone : (s : EndLinkOpening) (c : Bool) (k : ℕ) (w : List Frame) (x : Core) (l : List Frame) (y : Core) (why : Release) → (Agree s → IsLosingLineRelease (Some why))
    → Gone s c k w x l y → Gone s c k w (with_release why x) l y
ended_gone s c k w x l y why good b =
    record { beside = b.beside; always = b.always; told = λ a. let v = b.told a in record { proper = v.proper; said = v.said; good = good a } }

-- this end leaves
pub departs_gone : LawsBelow → (s : EndLinkOpening) (c : Bool) (k : ℕ) (w : List Frame) (x : Core) (l : List Frame) (y : Core) (why : Release) (reason : ℕ) (user : List ℕ) → Fits (Dr reason user)
    → LeaveOk c x.upper.transport.gave x.line.phase → (Agree s → Proper s c (Dr reason user)) → (Agree s → IsLosingLineRelease (Some why)) → Gone s c k w x l y
    → Gone s c k w (send_dr model why reason user x) l y
departs_gone below s c k w x l y why reason user fits ok proper good b =
    let d : Core = hand_tpdu_if_may model (Dr reason user) x in
    ended_gone s c k w (close_link model d) l y why good (shut_gone below s c k w d l y (drops below s c k w x l y reason user fits ok proper b))

-- the peer left by a DI in a message, which no peer does whose keys agree
pub deserted_gone : LawsBelow → (s : EndLinkOpening) (c : Bool) (k : ℕ) (w : List Frame) (x : Core) (l : List Frame) (y : Core) (why : Release) → (Agree s → IsLosingLineRelease (Some why))
    → Gone s c k w x l y → Gone s c k w (end_after_di model why x) l y
deserted_gone below s c k w x l y why good b = ended_gone s c k w (close_link model x) l y why good (shut_gone below s c k w x l y b)

-- the peer left by a DR
pub cut_gone : LawsBelow → (s : EndLinkOpening) (c : Bool) (k : ℕ) (w : List Frame) (x : Core) (l : List Frame) (y : Core) (why : Release) → 1 ≤ length x.upper.transport.gave
    → length (dcs x.upper.transport.gave) + 1 ≤ length (drs (heard x y)) → (Agree s → IsLosingLineRelease (Some why)) → Gone s c k w x l y
    → Gone s c k w (answer_dr model why x) l y
cut_gone below s c k w x l y why some few good b =
    let d : Core = hand_tpdu_if_may model Dc x in
    ended_gone s c k w (send_owed_answer model d) l y why good (finished_gone below s c k w d l y (drops_dc below s c k w x l y some few b))
