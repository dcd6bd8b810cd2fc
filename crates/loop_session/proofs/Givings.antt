-- What came of an event: the octets that the end gave, what the user hears of it, and why a text was refused.
use Rattle.std.proofs.Common.{◌≡◌, ◌∙◌, ℕ, List, [], ◌∷◌, ◌++◌, if◌then◌else◌, Option, Some, None, option_map, refl, sym, append-nil}
use Rattle.er_base.specs.declared.release.Release.{Release}
use Rattle.er_end_model.specs.Outcomes.{Outcome}
use Rattle.er_end_model.specs.Steps.{if_connected, if_accepted, if_released, if_octets}
use Rattle.er_end.specs.declared.deeds.Deeds.{Deeds}
use Rattle.er_end.specs.declared.deeds.SendRefused.{SendRefused}
use Rattle.er_end.specs.declared.event.Taking.{Taking}
use Rattle.er_end.specs.declared.event.Taking.TheVariants.{NotAsked, Nothing, Message}
use Rattle.er_end.specs.Given.{if_refused, taking_told, outcomes_of_deeds}
use Rattle.er_end.specs.Shown.{refusal_view}
use Rattle.er_users.specs.Saying.{is_text}
use Rattle.er_users.specs.Users.{Heard}
use Rattle.er_users.specs.Users as users
use Rattle.loop_model.specs.Sessions.{octets_in, heard_by_user, refused_in}
use Rattle.loop_session.specs.Giving.{peer_heard}

-- ---- octets

octets_if : (octets : List ℕ) → octets_in (if_octets octets) ≡ octets
octets_if [] = refl
octets_if (octet ∷ octets) = append-nil (octet ∷ octets)

octets_behind : (connected : Option ℕ) (accepted : Option (List ℕ)) (released : Option Release) (octets : List ℕ)
    → octets_in (if_connected connected ++ if_accepted accepted ++ if_released released ++ if_octets octets) ≡ octets
octets_behind None None None octets = octets_if octets
octets_behind None None (Some r) octets = octets_if octets
octets_behind None (Some m) None octets = octets_if octets
octets_behind None (Some m) (Some r) octets = octets_if octets
octets_behind (Some p) None None octets = octets_if octets
octets_behind (Some p) None (Some r) octets = octets_if octets
octets_behind (Some p) (Some m) None octets = octets_if octets
octets_behind (Some p) (Some m) (Some r) octets = octets_if octets

octets_past : (r : Option SendRefused) (t : Taking) (told : List Outcome) → octets_in (if_refused r ++ taking_told t ++ told) ≡ octets_in told
octets_past None NotAsked told = refl
octets_past None Nothing told = refl
octets_past None (Message m) told = refl
octets_past (Some r) NotAsked told = refl
octets_past (Some r) Nothing told = refl
octets_past (Some r) (Message m) told = refl

pub octets_told : (r : Option SendRefused) (t : Taking) (d : Deeds) → octets_in (if_refused r ++ taking_told t ++ outcomes_of_deeds d) ≡ d.out.now
octets_told r t d = octets_past r t (outcomes_of_deeds d) ∙ octets_behind d.connected (option_map (λ m. m.now) d.accepted) d.released d.out.now

-- ---- what the user hears

heard_if : (octets : List ℕ) → heard_by_user (if_octets octets) ≡ None
heard_if [] = refl
heard_if (octet ∷ octets) = refl

heard_behind : (connected : Option ℕ) (accepted : Option (List ℕ)) (released : Option Release) (octets : List ℕ)
    → heard_by_user (if_connected connected ++ if_accepted accepted ++ if_released released ++ if_octets octets) ≡ peer_heard connected
heard_behind None None None octets = heard_if octets
heard_behind None None (Some r) octets = heard_if octets
heard_behind None (Some m) None octets = heard_if octets
heard_behind None (Some m) (Some r) octets = heard_if octets
heard_behind (Some p) accepted released octets = refl

-- a message that was taken, or else the connection
abbrev pub heard_of : Taking → Option ℕ → Option Heard
heard_of NotAsked connected = peer_heard connected
heard_of Nothing connected = peer_heard connected
heard_of (Message m) connected = if is_text m.now then Some (users.Message m.now) else None

heard_deeds : (d : Deeds) → heard_by_user (outcomes_of_deeds d) ≡ peer_heard d.connected
heard_deeds d = heard_behind d.connected (option_map (λ m. m.now) d.accepted) d.released d.out.now

pub heard_told : (r : Option SendRefused) (t : Taking) (d : Deeds) → heard_by_user (if_refused r ++ taking_told t ++ outcomes_of_deeds d) ≡ heard_of t d.connected
heard_told None NotAsked d = heard_deeds d
heard_told None Nothing d = heard_deeds d
heard_told None (Message m) d = refl
heard_told (Some r) NotAsked d = heard_deeds d
heard_told (Some r) Nothing d = heard_deeds d
heard_told (Some r) (Message m) d = refl

-- ---- a text that was refused

refused_if : (octets : List ℕ) → refused_in (if_octets octets) ≡ None
refused_if [] = refl
refused_if (octet ∷ octets) = refl

refused_behind : (connected : Option ℕ) (accepted : Option (List ℕ)) (released : Option Release) (octets : List ℕ)
    → refused_in (if_connected connected ++ if_accepted accepted ++ if_released released ++ if_octets octets) ≡ None
refused_behind None None None octets = refused_if octets
refused_behind None None (Some r) octets = refused_if octets
refused_behind None (Some m) None octets = refused_if octets
refused_behind None (Some m) (Some r) octets = refused_if octets
refused_behind (Some p) None None octets = refused_if octets
refused_behind (Some p) None (Some r) octets = refused_if octets
refused_behind (Some p) (Some m) None octets = refused_if octets
refused_behind (Some p) (Some m) (Some r) octets = refused_if octets

refused_deeds : (d : Deeds) → None ≡ refused_in (outcomes_of_deeds d)
refused_deeds d = sym (refused_behind d.connected (option_map (λ m. m.now) d.accepted) d.released d.out.now)

pub refused_told : (r : Option SendRefused) (t : Taking) (d : Deeds) → option_map refusal_view r ≡ refused_in (if_refused r ++ taking_told t ++ outcomes_of_deeds d)
refused_told None NotAsked d = refused_deeds d
refused_told None Nothing d = refused_deeds d
refused_told None (Message m) d = refused_deeds d
refused_told (Some r) t d = refl
