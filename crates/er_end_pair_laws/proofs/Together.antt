-- A frame that waits is one frame; and on a loss-free line, where the keys agree, the two safety sides are in step: read off what the two ends
-- gave and heard.
use Rattle.std.proofs.Common.{◌≡◌, ℕ, ◌≤◌, Bool, true, false, not, List, [], ◌∷◌, length, take, Option, refl, sym, ◌∙◌, ap, arith}
use Rattle.std.specs.Prelude.{is_some}
use Rattle.safety_automaton.specs.Safety.{Phase, Ready, WaitAu1, WaitAu2, WaitAu3, WaitAr, Connected, Released, session_in}
use Rattle.hdlc_station_model.specs.declared.phase.Phase.{Phase as Link_phase}
use Rattle.hdlc_station_model.specs.Events.{news}
use Rattle.x224_class2.specs.Segments.{messages_in}
use Rattle.x224_class2.specs.Tpdus.{GivenTpdu}
use Rattle.x224_class2.specs.declared.stage.Stage.{Stage}
use Rattle.x224_class2.specs.declared.stage.Stage.TheVariants as stages
use Rattle.er_end_model.specs.Layers.{Core}
use Rattle.er_end_model.specs.Steps.{is_connected}
use Rattle.er_end_pair_laws.specs.Openings.{EndLinkOpening}
use Rattle.er_end_pair_laws.specs.Links.{EndLink}
use Rattle.er_end_pair_laws.specs.Phases.{IsEnginesPhase, IsCentres}
use Rattle.er_end_pair_laws.specs.Laws.{end_link_after, OneFrame}
use Rattle.er_end_pair_laws.specs.LawsBelow.{LawsBelow}
use Rattle.er_end_pair_laws.proofs.Lists.{Head, head_trans, head_take}
use Rattle.er_end_pair_laws.proofs.Segments.{messages_head}
use Rattle.er_end_pair_laws.proofs.Ports.{got_head}
use Rattle.er_end_pair_laws.proofs.Constants.{said_all}
use Rattle.er_end_pair_laws.proofs.Own.{Stages, Joint, PhaseIs, Own, heard}
use Rattle.er_end_pair_laws.proofs.Worlds.{first_of_line, r_news, e_news}
use Rattle.er_end_pair_laws.proofs.Ordered.{after_holds}

-- ---- a frame that waits

pub one_frame : LawsBelow → OneFrame
one_frame below s steps fits kept =
    let h = after_holds below s steps fits kept in
    let l : EndLink = end_link_after s steps in (
      λ octets rest line.
          let f = first_of_line l.e.core.line octets rest h.fe (sym line ∙ h.lined_e) in
          ap (λ (os : List ℕ). length (news l.r.stream os)) f.octets_are ∙ ap length (r_news below s l h octets rest f),
      λ octets rest line.
          let f = first_of_line l.r.core.line octets rest h.fr (sym line ∙ h.lined_r) in
          ap (λ (os : List ℕ). length (news l.e.stream os)) f.octets_are ∙ ap length (e_news below s l h octets rest f),
    )

-- ---- the phases of each side

abbrev Engines : EndLinkOpening → Phase → Type 0
Engines s p = IsEnginesPhase s.engine s.rbc s.kmac s.ra s.rb p

abbrev Centres : EndLinkOpening → Phase → Type 0
Centres s p = IsCentres s.engine s.rbc s.kmac s.ra s.rb p

not_caller : true ≡ false → ⊥
not_caller e = cc

not_called : false ≡ true → ⊥
not_called e = cc

pub engines : (s : EndLinkOpening) (stage : Stage) (p : Phase) (out sent came accepted : List (List ℕ)) → Joint s true stage p → PhaseIs s true p out sent came accepted → Engines s p
engines s stage (Ready peer kmac rb) out sent came accepted j h = tt
engines s stages.New (WaitAu1 ra) out sent came accepted j h = not_caller j.0
engines s stages.Calling (WaitAu1 ra) out sent came accepted j h = j
engines s stages.Called (WaitAu1 ra) out sent came accepted j h = j
engines s stages.Open (WaitAu1 ra) out sent came accepted j h = j
engines s stages.Over (WaitAu1 ra) out sent came accepted j h = j
engines s stage (WaitAu2 peer kmac rb) out sent came accepted j h = tt
engines s stages.New (WaitAu3 connection) out sent came accepted j h = j
engines s stages.Calling (WaitAu3 connection) out sent came accepted j h = j
engines s stages.Called (WaitAu3 connection) out sent came accepted j h = j
engines s stages.Open (WaitAu3 connection) out sent came accepted j h = not_caller j
engines s stages.Over (WaitAu3 connection) out sent came accepted j h = j
engines s stage (WaitAr connection) out sent came accepted j h = h.4
engines s stage (Connected peer key) out sent came accepted j h = (h.2, h.3)
engines s stage (Released release known) out sent came accepted j h = h

pub centres : (s : EndLinkOpening) (stage : Stage) (p : Phase) (out sent came accepted : List (List ℕ)) → Joint s false stage p → PhaseIs s false p out sent came accepted → Centres s p
centres s stages.New (Ready peer kmac rb) out sent came accepted j h = not_called j.0
centres s stages.Calling (Ready peer kmac rb) out sent came accepted j h = j
centres s stages.Called (Ready peer kmac rb) out sent came accepted j h = j
centres s stages.Open (Ready peer kmac rb) out sent came accepted j h = j
centres s stages.Over (Ready peer kmac rb) out sent came accepted j h = j
centres s stage (WaitAu1 ra) out sent came accepted j h = tt
centres s stages.New (WaitAu2 peer kmac rb) out sent came accepted j h = j
centres s stages.Calling (WaitAu2 peer kmac rb) out sent came accepted j h = not_called j.0
centres s stages.Called (WaitAu2 peer kmac rb) out sent came accepted j h = j
centres s stages.Open (WaitAu2 peer kmac rb) out sent came accepted j h = j
centres s stages.Over (WaitAu2 peer kmac rb) out sent came accepted j h = j
centres s stage (WaitAu3 connection) out sent came accepted j h = h.4
centres s stages.New (WaitAr connection) out sent came accepted j h = j
centres s stages.Calling (WaitAr connection) out sent came accepted j h = j
centres s stages.Called (WaitAr connection) out sent came accepted j h = j
centres s stages.Open (WaitAr connection) out sent came accepted j h = not_called j
centres s stages.Over (WaitAr connection) out sent came accepted j h = j
centres s stage (Connected peer key) out sent came accepted j h = (h.2, h.3)
centres s stage (Released release known) out sent came accepted j h = h

-- ---- where session keys are known

-- the transport is open at an engine that knows them
pub known_open : (s : EndLinkOpening) (stage : Stage) (p : Phase) → Joint s true stage p → Engines s p → is_some (session_in p) ≡ true → stage ≡ stages.Open
known_open s stage (Ready peer kmac rb) j h e = absurd (not_called e)
known_open s stage (WaitAu2 peer kmac rb) j h e = absurd (not_called e)
known_open s stages.New (WaitAr connection) j h e = absurd j
known_open s stages.Calling (WaitAr connection) j h e = absurd j
known_open s stages.Called (WaitAr connection) j h e = absurd j
known_open s stages.Open (WaitAr connection) j h e = refl
known_open s stages.Over (WaitAr connection) j h e = absurd j
known_open s stages.New (Connected peer key) j h e = absurd j
known_open s stages.Calling (Connected peer key) j h e = absurd j
known_open s stages.Called (Connected peer key) j h e = absurd j
known_open s stages.Open (Connected peer key) j h e = refl
known_open s stages.Over (Connected peer key) j h e = absurd j
known_open s stage _ j h e = absurd h

-- a radio block centre that gave a TPDU knows them
pub gave_known : (s : EndLinkOpening) (stage : Stage) (p : Phase) (due : Option (List ℕ)) (h gave : List GivenTpdu) (phase : Link_phase) → Stages false stage due h gave phase → 1 ≤ length gave
    → Joint s false stage p → Centres s p → is_some (session_in p) ≡ true
gave_known s stages.New p due h gave phase a some j c =
    let none : length gave ≡ 0 = ap length a.2 in
    absurd (omega (arith, some, none))
gave_known s stages.Open (Ready peer kmac rb) due h gave phase a some j c = absurd j
gave_known s stages.Open (WaitAu1 ra) due h gave phase a some j c = absurd j
gave_known s stages.Open (WaitAu2 peer kmac rb) due h gave phase a some j c = absurd j
gave_known s stages.Open (WaitAu3 connection) due h gave phase a some j c = refl
gave_known s stages.Open (WaitAr connection) due h gave phase a some j c = absurd c
gave_known s stages.Open (Connected peer key) due h gave phase a some j c = refl
gave_known s stages.Open (Released release known) due h gave phase a some j c = absurd j
gave_known s _ p due h gave phase a some j c = absurd a

-- ---- what was said and what came

-- messages that begin others are none where those are none
pub none_of : (xs ys : List (List ℕ)) → Head xs ys → ys ≡ [] → xs ≡ []
none_of [] ys h e = refl
none_of (x ∷ xs) [] h e = absurd h
none_of (x ∷ xs) (y ∷ ys) h e = absurd cc

-- to a side that is connected a message came
pub came_some : (s : EndLinkOpening) (c : Bool) (p : Phase) (out sent came accepted : List (List ℕ)) → PhaseIs s c p out sent came accepted → is_connected p ≡ true → came ≡ [] → ⊥
came_some s c (Connected peer key) out sent came accepted h e none = said_some s c accepted came h.1 none
  where
    said_some : (s : EndLinkOpening) (c : Bool) (accepted came : List (List ℕ)) → came ≡ said_all s (not c) accepted → came ≡ [] → ⊥
    said_some s c accepted came is none = cc
came_some s c (Released release known) out sent came accepted h e none = h
came_some s c _ out sent came accepted h e none = not_called e

-- an engine that said something knows session keys
pub e_said : (s : EndLinkOpening) (p : Phase) (out sent came accepted : List (List ℕ)) → PhaseIs s true p out sent came accepted → Engines s p → (out ≡ [] → ⊥) → is_some (session_in p) ≡ true
e_said s (Ready peer kmac rb) out sent came accepted h c some = absurd (some h.0)
e_said s (WaitAu1 ra) out sent came accepted h c some = absurd (some h.0)
e_said s (WaitAu2 peer kmac rb) out sent came accepted h c some = absurd (some h.0)
e_said s (WaitAu3 connection) out sent came accepted h c some = refl
e_said s (WaitAr connection) out sent came accepted h c some = refl
e_said s (Connected peer key) out sent came accepted h c some = refl
e_said s (Released release known) out sent came accepted h c some = absurd h

-- a radio block centre that said something is connected
pub r_said : (s : EndLinkOpening) (p : Phase) (out sent came accepted : List (List ℕ)) → PhaseIs s false p out sent came accepted → Centres s p → (out ≡ [] → ⊥) → is_connected p ≡ true
r_said s (WaitAr connection) out sent came accepted h c some = absurd c
r_said s (Connected peer key) out sent came accepted h c some = refl
r_said s (Released release known) out sent came accepted h c some = absurd h
r_said s _ out sent came accepted h c some = absurd (some h.0)

-- ---- between two ends

-- the messages that came to x are a beginning of those that y said
pub messages_from : (s : EndLinkOpening) (c d : Bool) (x y : Core) (h : List GivenTpdu) → Own s c x (heard x y) → Own s d y h
    → Head (messages_in x.upper.transport.contents) (messages_in y.upper.transport.segments)
messages_from s c d x y h a b =
    let t = x.upper.transport in
    let u = y.upper.transport in
    let got = got_head (heard x y) u.gave t.contents u.segments u.given a.always.gets.all b.always.gives.all (head_take (length x.line.taken) u.gave) in
    messages_head [] t.contents u.segments (head_trans t.contents (take u.given u.segments) u.segments got (head_take u.given u.segments))

pub open_heard : (stage : Stage) (due : Option (List ℕ)) (h gave : List GivenTpdu) (phase : Link_phase) → stage ≡ stages.Open → Stages true stage due h gave phase → 1 ≤ length h
open_heard stages.New due h gave phase e a = absurd cc
open_heard stages.Calling due h gave phase e a = absurd cc
open_heard stages.Called due h gave phase e a = absurd a
open_heard stages.Open due h gave phase e a = a.0
open_heard stages.Over due h gave phase e a = absurd a
