-- Each event at one end keeps what two ends rest on.
use Rattle.std.proofs.Common.{◌≡◌, ℕ, ◌⊎◌, inl, inr, Bool, true, false, List, [], ◌∷◌, ◌++◌, length, map, take, Option, Some, None, Ok, refl, sym, ◌∙◌, ap, subst, true≢false}
use Rattle.std.specs.Prelude.{if◌then◌else◌, is_some}
use Rattle.std.specs.Option.{option_to_list}
use Rattle.std.proofs.lemmas.Bool.{cases_Bool}
use Rattle.er_base.specs.declared.release.Release.{Release}
use Rattle.t70_header.specs.Joining as joining
use Rattle.safety_automaton.specs.Rules.{IsOpen}
use Rattle.safety_automaton.specs.Safety.{Phase, Released}
use Rattle.hdlc_station_model.specs.declared.phase.Phase.{Phase as Link_phase}
use Rattle.hdlc_station_model.specs.Frames.{Frame}
use Rattle.hdlc_station_model.specs.Stations.{Station, no_deed, is_up, is_down}
use Rattle.hdlc_station_model.specs.Calls as station
use Rattle.hdlc_pair_laws.specs.Invariant.{Both}
use Rattle.hdlc_pair_laws.specs.Laws as pair
use Rattle.hdlc_pair_laws.specs.Keeping.{found}
use Rattle.x224_class2.specs.Tpdus.{GivenTpdu, pdu_given, octets_given}
use Rattle.x224_class2.specs.declared.stage.Stage.{Stage}
use Rattle.x224_class2.specs.declared.stage.Stage.TheVariants as stages
use Rattle.er_end_model.specs.Layers.{Core, model}
use Rattle.er_end_model.specs.Steps.{on_joined_block, on_block, conclude_event}
use Rattle.er_end_pair_laws.specs.Openings.{EndLinkOpening, Agree}
use Rattle.er_end_pair_laws.specs.Reasons.{IsLosingLineRelease}
use Rattle.er_end_pair_laws.specs.LawsBelow.{LawsBelow}
use Rattle.er_end_pair_laws.proofs.Lists.{each_next}
use Rattle.er_end_pair_laws.proofs.Locals.{Fits}
use Rattle.er_end_pair_laws.proofs.Own.{AlwaysOf, Stages, AliveOf, Joint, heard, block, Beside, Busy, Gone, Done}
use Rattle.er_end_pair_laws.proofs.Leaves.{up_lives}
use Rattle.er_end_pair_laws.proofs.Concludes.{concludes_keeps, gone_concludes}
use Rattle.er_end_pair_laws.proofs.Hears.{Hears, next_of}
use Rattle.er_end_pair_laws.proofs.Arrives.{Arrived}
use Rattle.er_end_pair_laws.proofs.Tpdus.{tpdu_keeps}

-- ---- between events and within them

pub busy_of_done : (s : EndLinkOpening) (c : Bool) (k : ℕ) (w : List Frame) (x : Core) (l : List Frame) (y : Core) → x.released ≡ None → Done s c k w x l y → Busy s c k w x l y
busy_of_done s c k w x l y live d =
    let v = d.own.lives live in
    record { beside = d.beside; always = d.own.always; told = d.own.told; alive = v.alive; trusting = v.trusting }

pub gone_of_busy : (s : EndLinkOpening) (c : Bool) (k : ℕ) (w : List Frame) (x : Core) (l : List Frame) (y : Core) → Busy s c k w x l y → Gone s c k w x l y
gone_of_busy s c k w x l y b = record { beside = b.beside; always = b.always; told = b.told }

-- an end live or released, before what goes down
abbrev pub State : EndLinkOpening → Bool → ℕ → List Frame → Core → List Frame → Core → Type 0
State s c k w x l y = ((x.released ≡ None) × Busy s c k w x l y) ⊎ ((why : Release) × (x.released ≡ Some why) × Gone s c k w x l y)

pub state_done : LawsBelow → (s : EndLinkOpening) (c : Bool) (k : ℕ) (w : List Frame) (x : Core) (l : List Frame) (y : Core) → State s c k w x l y → Done s c k w (conclude_event model x) l y
state_done below s c k w x l y (inl live) = concludes_keeps below s c k w x l y live.0 live.1
state_done below s c k w x l y (inr gone) = gone_concludes s c k w x l y gone.0 gone.1 gone.2

-- a live end or not
pub at_release : (s : EndLinkOpening) (c : Bool) (k : ℕ) (w : List Frame) (x : Core) (l : List Frame) (y : Core) (o : Option Release) → x.released ≡ o → (z : Core) → Done s c k w x l y
    → (x.released ≡ None → Done s c k w z l y) → Done s c k w (if is_some o then x else z) l y
at_release s c k w x l y None e z d live = live e
at_release s c k w x l y (Some why) e z d live = d

pub live_phase_open : (s : EndLinkOpening) (c : Bool) (st : Stage) (p : Phase) → Joint s c st p → IsOpen p
live_phase_open s c stages.New (Released release known) j = j
live_phase_open s c stages.Calling (Released release known) j = j
live_phase_open s c stages.Called (Released release known) j = j
live_phase_open s c stages.Open (Released release known) j = j
live_phase_open s c stages.Over (Released release known) j = j
live_phase_open s c st _ j = tt

-- ---- the station of x did something, and took nothing

abbrev pub with_line : Core → Station → Core
with_line x line = record x { line = line }

pub heard_same : (x y : Core) (line : Station) → line.taken ≡ x.line.taken → heard (with_line x line) y ≡ heard x y
heard_same x y line e = ap (λ (t : List (List ℕ)). take (length t) y.upper.transport.gave) e

pub line_beside : (s : EndLinkOpening) (c : Bool) (k : ℕ) (w : List Frame) (x : Core) (l l' : List Frame) (y : Core) (line : Station) → Both false k w line l' y.line → line.handed ≡ x.line.handed
    → Beside s c k w x l y → Beside s c k w (with_line x line) l' y
line_beside s c k w x l l' y line both e b = (both, e ∙ b.1, b.2, b.3)

pub line_gone : (s : EndLinkOpening) (c : Bool) (k : ℕ) (w : List Frame) (x : Core) (l l' : List Frame) (y : Core) (line : Station) → Both false k w line l' y.line → line.handed ≡ x.line.handed → line.taken ≡ x.line.taken
    → Gone s c k w x l y → Gone s c k w (with_line x line) l' y
line_gone s c k w x l l' y line both e t g = record {
  beside = line_beside s c k w x l l' y line both e g.beside;
  always = subst (λ (h : List GivenTpdu). AlwaysOf s c (with_line x line) h) (sym (heard_same x y line t)) g.always;
  told = g.told;
}

-- a stage at another phase of the station
pub stages_phase : (c : Bool) (st : Stage) (due : Option (List ℕ)) (h gave : List GivenTpdu) (p q : Link_phase) → (is_up p ≡ false → is_up q ≡ false) → (is_up p ≡ true → is_up q ≡ true)
    → Stages c st due h gave p → Stages c st due h gave q
stages_phase true stages.New due h gave p q down up a = (a.0, a.1, a.2, down a.3)
stages_phase false stages.New due h gave p q down up a = a
stages_phase true stages.Calling due h gave p q down up a = (a.0, a.1, up a.2)
stages_phase false stages.Calling due h gave p q down up a = a
stages_phase c _ due h gave p q down up a = a

pub alive_phase : (s : EndLinkOpening) (c : Bool) (x : Core) (h : List GivenTpdu) (line : Station) → is_down line.phase ≡ false → Stages c x.upper.transport.stage x.upper.transport.due h x.upper.transport.gave line.phase
    → AliveOf s c x h → AliveOf s c (with_line x line) h
alive_phase s c x h line live st a = record {
  stages = st;
  role_is = a.role_is;
  size_is = a.size_is;
  credit_is = a.credit_is;
  joined_is = a.joined_is;
  no_dr = a.no_dr;
  no_dr_heard = a.no_dr_heard;
  count = a.count;
  final = a.final;
  edge_is = a.edge_is;
  due_is = a.due_is;
  awake = live;
}

pub line_busy : (s : EndLinkOpening) (c : Bool) (k : ℕ) (w : List Frame) (x : Core) (l l' : List Frame) (y : Core) (line : Station) → Both false k w line l' y.line → line.handed ≡ x.line.handed → line.taken ≡ x.line.taken
    → is_down line.phase ≡ false → Stages c x.upper.transport.stage x.upper.transport.due (heard x y) x.upper.transport.gave line.phase
    → Busy s c k w x l y → Busy s c k w (with_line x line) l' y
line_busy s c k w x l l' y line both e t live st b =
    let h = sym (heard_same x y line t) in
    record {
      beside = line_beside s c k w x l l' y line both e b.beside;
      always = subst (λ (r : List GivenTpdu). AlwaysOf s c (with_line x line) r) h b.always;
      told = b.told;
      alive = subst (λ (r : List GivenTpdu). AliveOf s c (with_line x line) r) h (alive_phase s c x (heard x y) line live st b.alive);
      trusting = b.trusting;
    }

-- ---- releases of the station

station_reason : (why : Release) (o : Option Release) → pair.IsLosingLineRelease o → Some why ≡ o → IsLosingLineRelease (Some why)
station_reason why None h e = absurd (let u : ⊥ = cc in u)
station_reason why (Some release) h e =
    let same : why ≡ release = cc in
    subst (λ (r : Release). IsLosingLineRelease (Some r)) (sym same) (elim h.1 [ inl zero' ↦ inl zero' | inr one ↦ inr (inl one) ])

pub told_reason : (why : Release) (line : Station) → (line.deed.released ≡ None) ⊎ (line.deed.released ≡ line.released) → line.deed.released ≡ Some why → pair.IsLosingLineRelease line.released
    → IsLosingLineRelease (Some why)
told_reason why line (inl none) e h = absurd (let q : None ≡ Some why = sym none ∙ e in let u : ⊥ = cc in u)
told_reason why line (inr same) e h = station_reason why line.released h (sym e ∙ same)

-- ---- a payload came up: it is the block of the next TPDU

taken_next : (taken : List (List ℕ)) (p : List ℕ) (gave : List GivenTpdu) → taken ++ p ∷ [] ≡ take (length (taken ++ p ∷ [])) (map block gave)
    → (g : GivenTpdu) × (take (length (taken ++ p ∷ [])) gave ≡ take (length taken) gave ++ g ∷ []) × (p ≡ block g)
taken_next [] p [] e = absurd (let u : ⊥ = cc in u)
taken_next [] p (g ∷ gs) e = (g, refl, first p (block g) [] (take 0 (map block gs)) e)
  where
    first : (a b : List ℕ) (r q : List (List ℕ)) → a ∷ r ≡ b ∷ q → a ≡ b
    first a b r q e = cc
taken_next (t ∷ ts) p [] e = absurd (let u : ⊥ = cc in u)
taken_next (t ∷ ts) p (g ∷ gs) e =
    let r = taken_next ts p gs (rest t (block g) (ts ++ p ∷ []) (take (length (ts ++ p ∷ [])) (map block gs)) e) in
    (r.0, ap (λ (q : List GivenTpdu). g ∷ q) r.1, r.2)
  where
    rest : (a b : List ℕ) (r q : List (List ℕ)) → a ∷ r ≡ b ∷ q → r ≡ q
    rest a b r q e = cc

-- ---- a frame comes

-- what came of what the station told, and that a live peer whose keys agree ends no link
pub record Heard (s : EndLinkOpening) (c : Bool) (k : ℕ) (w : List Frame) (x : Core) (l : List Frame) (y : Core) (told : Option Release) : Type 0 where
  pub state : State s c k w x l y
  pub good : told ≡ None → Agree s → y.released ≡ None → x.released ≡ None

module _ (below : LawsBelow) (s : EndLinkOpening) (c : Bool) (k : ℕ) (w : List Frame) (x : Core) (f : Frame) (fs : List Frame) (y : Core) where
  abbrev pub line_behind : Station
  line_behind = station.receives x.moment (found y.line f) x.line

  abbrev pub behind_frame : Core
  behind_frame = with_line x line_behind

  pub both_behind : Busy s c k w x (f ∷ fs) y → Both false k w line_behind fs y.line
  both_behind b = below.keep.received false k w x.moment x.line f fs y.line b.beside.0

  -- a payload
  pub payload_by : (p : List ℕ) → x.line.deed ≡ no_deed → line_behind.deed.payload ≡ Some p → x.upper.transport.due ≡ None → x.released ≡ None → Busy s c k w x (f ∷ fs) y
      → Arrived s c k w (on_block model s.finder p behind_frame) fs y
  payload_by p quiet told due live b =
      let line : Station = line_behind in
      let r = below.received x.moment (found y.line f) x.line quiet in
      let t = below.receives false x.moment (found y.line f) x.line quiet in
      let was_up : is_up x.line.phase ≡ true = elim (cases_Bool (is_up x.line.phase)) [
        | inl up ↦ up
        | inr asleep ↦ absurd (let q : None ≡ Some p = sym (t.asleep asleep).0 ∙ told in let u : ⊥ = cc in u)
      ] in
      let unreleased : line.deed.released ≡ None = elim t.alone [
        | inl none ↦ none
        | inr alone ↦ absurd (let q : None ≡ Some p = sym alone.0 ∙ told in let u : ⊥ = cc in u)
      ] in
      let up : is_up line.phase ≡ true = (t.awake was_up).1 unreleased in
      let more : line.taken ≡ x.line.taken ++ p ∷ [] = r.taken ∙ ap (λ (o : Option (List ℕ)). x.line.taken ++ option_to_list o) told in
      let both = both_behind b in
      let prefix : line.taken ≡ take (length line.taken) y.line.handed = both.1.0.prefix in
      let spelled : x.line.taken ++ p ∷ [] ≡ take (length (x.line.taken ++ p ∷ [])) (map block y.upper.transport.gave) =
      subst (λ (ts : List (List ℕ)). ts ≡ take (length ts) (map block y.upper.transport.gave)) more (prefix ∙ ap (take (length line.taken)) b.beside.2) in
      let n = taken_next x.line.taken p y.upper.transport.gave spelled in
      let g : GivenTpdu = n.0 in
      let h : List GivenTpdu = heard x y in
      let x' : Core = record behind_frame { joined = [] } in
      let heard_is : heard behind_frame y ≡ h ++ g ∷ [] = ap (λ (ts : List (List ℕ)). take (length ts) y.upper.transport.gave) more ∙ n.1 in
      let hears : Hears s c k w x' fs y h g = record {
        beside = line_beside s c k w x (f ∷ fs) fs y line both r.handed b.beside;
        heard_is = heard_is;
        always = b.always;
        told = b.told;
        alive = (let a = alive_phase s c x h line (up_lives line.phase up) (stages_phase c x.upper.transport.stage x.upper.transport.due h x.upper.transport.gave x.line.phase line.phase
            (λ asleep. absurd (true≢false (sym was_up ∙ asleep))) (λ e. up) b.alive.stages) b.alive in
            record {
              stages = a.stages;
              role_is = a.role_is;
              size_is = a.size_is;
              credit_is = a.credit_is;
              joined_is = refl;
              no_dr = a.no_dr;
              no_dr_heard = a.no_dr_heard;
              count = a.count;
              final = a.final;
              edge_is = a.edge_is;
              due_is = a.due_is;
              awake = a.awake;
            });
        trusting = b.trusting;
        due = due;
        live = live;
        up = up;
      } in
      let fits = each_next Fits h g y.upper.transport.gave (next_of s c k w x' fs y h g hears) b.beside.3.always.fits in
      let whole : joining.block_step [] (block g) ≡ ([], Ok (Some (octets_given g))) = below.wrapped (octets_given g) (below.short (pdu_given g) fits) in
      subst (λ (q : List ℕ). Arrived s c k w (on_block model s.finder q behind_frame) fs y) (sym n.2)
      (subst (λ (j : List ℕ). Arrived s c k w (on_joined_block model s.finder (joining.block_step j (block g)).1 (record behind_frame { joined = (joining.block_step j (block g)).0 })) fs y) (sym b.alive.joined_is)
      (subst (λ (a : List ℕ × joining.BlockJoiningResult). Arrived s c k w (on_joined_block model s.finder a.1 (record behind_frame { joined = a.0 })) fs y) (sym whole)
      (tpdu_keeps below s c k w x' fs y h g hears)))
