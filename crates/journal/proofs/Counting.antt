-- What came of an event, counted: among the outcomes of effects each kind stands at most once.
use Rattle.std.proofs.Common.{◌≡◌, ℕ, List, [], ◌∷◌, ◌++◌, if◌then◌else◌, Option, Some, None, option_map, is_some, refl, ap, ◌∙◌, suc}
use Rattle.er_base.specs.declared.release.Release.{Release}
use Rattle.er_end_model.specs.Outcomes.{Outcome}
use Rattle.er_end_model.specs.Steps.{if_connected, if_accepted, if_released, if_octets}
use Rattle.er_end.specs.declared.deeds.SendRefused.{SendRefused}
use Rattle.er_end.specs.declared.event.Effects.{Effects}
use Rattle.er_end.specs.declared.event.Taking.{Taking}
use Rattle.er_end.specs.declared.event.Taking.TheVariants.{NotAsked, Nothing, Message}
use Rattle.er_end.specs.Given.{if_refused, taking_told, outcomes_of_deeds, outcomes_in}
use Rattle.er_trace.specs.declared.event.Event.{Event}
use Rattle.journal.specs.Tallies.{count_outcomes, tells_connection, tells_acceptance, tells_refusal, releases_told, release_or_none}
use Rattle.journal.specs.Tallies.{what_event_begins, messages_said_by_event, IsTallyOfEntry}
use Rattle.journal.specs.declared.event_tally.EventTally.{EventTally}

abbrev one_for : {A : Type 0} → Option A → ℕ
one_for item = if is_some item then 1 else 0

-- ---- refusals

refusals_if_octets : (octets : List ℕ) → 0 ≡ count_outcomes tells_refusal (if_octets octets)
refusals_if_octets [] = refl
refusals_if_octets (octet ∷ octets) = refl

refusals_of_deeds : (connected : Option ℕ) (accepted : Option (List ℕ)) (released : Option Release) (octets : List ℕ)
    → 0 ≡ count_outcomes tells_refusal (if_connected connected ++ if_accepted accepted ++ if_released released ++ if_octets octets)
refusals_of_deeds None None None octets = refusals_if_octets octets
refusals_of_deeds None None (Some w) octets = refusals_if_octets octets
refusals_of_deeds None (Some m) None octets = refusals_if_octets octets
refusals_of_deeds None (Some m) (Some w) octets = refusals_if_octets octets
refusals_of_deeds (Some p) None None octets = refusals_if_octets octets
refusals_of_deeds (Some p) None (Some w) octets = refusals_if_octets octets
refusals_of_deeds (Some p) (Some m) None octets = refusals_if_octets octets
refusals_of_deeds (Some p) (Some m) (Some w) octets = refusals_if_octets octets

refusals_in_front : (refused : Option SendRefused) (taken : Taking) (told : List Outcome) → 0 ≡ count_outcomes tells_refusal told
    → one_for refused ≡ count_outcomes tells_refusal (if_refused refused ++ taking_told taken ++ told)
refusals_in_front None NotAsked told p = p
refusals_in_front None Nothing told p = p
refusals_in_front None (Message m) told p = p
refusals_in_front (Some r) NotAsked told p = ap suc p
refusals_in_front (Some r) Nothing told p = ap suc p
refusals_in_front (Some r) (Message m) told p = ap suc p

-- ---- acceptances

acceptances_if_octets : (octets : List ℕ) → 0 ≡ count_outcomes tells_acceptance (if_octets octets)
acceptances_if_octets [] = refl
acceptances_if_octets (octet ∷ octets) = refl

acceptances_of_deeds : (connected : Option ℕ) (accepted : Option (List ℕ)) (released : Option Release) (octets : List ℕ)
    → one_for accepted ≡ count_outcomes tells_acceptance (if_connected connected ++ if_accepted accepted ++ if_released released ++ if_octets octets)
acceptances_of_deeds None None None octets = acceptances_if_octets octets
acceptances_of_deeds None None (Some w) octets = acceptances_if_octets octets
acceptances_of_deeds None (Some m) None octets = ap suc (acceptances_if_octets octets)
acceptances_of_deeds None (Some m) (Some w) octets = ap suc (acceptances_if_octets octets)
acceptances_of_deeds (Some p) None None octets = acceptances_if_octets octets
acceptances_of_deeds (Some p) None (Some w) octets = acceptances_if_octets octets
acceptances_of_deeds (Some p) (Some m) None octets = ap suc (acceptances_if_octets octets)
acceptances_of_deeds (Some p) (Some m) (Some w) octets = ap suc (acceptances_if_octets octets)

acceptances_in_front : (n : ℕ) (refused : Option SendRefused) (taken : Taking) (told : List Outcome) → n ≡ count_outcomes tells_acceptance told
    → n ≡ count_outcomes tells_acceptance (if_refused refused ++ taking_told taken ++ told)
acceptances_in_front n None NotAsked told p = p
acceptances_in_front n None Nothing told p = p
acceptances_in_front n None (Message m) told p = p
acceptances_in_front n (Some r) NotAsked told p = p
acceptances_in_front n (Some r) Nothing told p = p
acceptances_in_front n (Some r) (Message m) told p = p

-- ---- connections

connections_if_octets : (octets : List ℕ) → 0 ≡ count_outcomes tells_connection (if_octets octets)
connections_if_octets [] = refl
connections_if_octets (octet ∷ octets) = refl

connections_of_deeds : (connected : Option ℕ) (accepted : Option (List ℕ)) (released : Option Release) (octets : List ℕ)
    → one_for connected ≡ count_outcomes tells_connection (if_connected connected ++ if_accepted accepted ++ if_released released ++ if_octets octets)
connections_of_deeds None None None octets = connections_if_octets octets
connections_of_deeds None None (Some w) octets = connections_if_octets octets
connections_of_deeds None (Some m) None octets = connections_if_octets octets
connections_of_deeds None (Some m) (Some w) octets = connections_if_octets octets
connections_of_deeds (Some p) None None octets = ap suc (connections_if_octets octets)
connections_of_deeds (Some p) None (Some w) octets = ap suc (connections_if_octets octets)
connections_of_deeds (Some p) (Some m) None octets = ap suc (connections_if_octets octets)
connections_of_deeds (Some p) (Some m) (Some w) octets = ap suc (connections_if_octets octets)

connections_in_front : (n : ℕ) (refused : Option SendRefused) (taken : Taking) (told : List Outcome) → n ≡ count_outcomes tells_connection told
    → n ≡ count_outcomes tells_connection (if_refused refused ++ taking_told taken ++ told)
connections_in_front n None NotAsked told p = p
connections_in_front n None Nothing told p = p
connections_in_front n None (Message m) told p = p
connections_in_front n (Some r) NotAsked told p = p
connections_in_front n (Some r) Nothing told p = p
connections_in_front n (Some r) (Message m) told p = p

-- ---- releases

releases_if_octets : (octets : List ℕ) → [] ≡ releases_told (if_octets octets)
releases_if_octets [] = refl
releases_if_octets (octet ∷ octets) = refl

releases_of_deeds : (connected : Option ℕ) (accepted : Option (List ℕ)) (released : Option Release) (octets : List ℕ)
    → release_or_none released ≡ releases_told (if_connected connected ++ if_accepted accepted ++ if_released released ++ if_octets octets)
releases_of_deeds None None None octets = releases_if_octets octets
releases_of_deeds None None (Some w) octets = ap (λ (ws : List Release). w ∷ ws) (releases_if_octets octets)
releases_of_deeds None (Some m) None octets = releases_if_octets octets
releases_of_deeds None (Some m) (Some w) octets = ap (λ (ws : List Release). w ∷ ws) (releases_if_octets octets)
releases_of_deeds (Some p) None None octets = releases_if_octets octets
releases_of_deeds (Some p) None (Some w) octets = ap (λ (ws : List Release). w ∷ ws) (releases_if_octets octets)
releases_of_deeds (Some p) (Some m) None octets = releases_if_octets octets
releases_of_deeds (Some p) (Some m) (Some w) octets = ap (λ (ws : List Release). w ∷ ws) (releases_if_octets octets)

releases_in_front : (ws : List Release) (refused : Option SendRefused) (taken : Taking) (told : List Outcome) → ws ≡ releases_told told
    → ws ≡ releases_told (if_refused refused ++ taking_told taken ++ told)
releases_in_front ws None NotAsked told p = p
releases_in_front ws None Nothing told p = p
releases_in_front ws None (Message m) told p = p
releases_in_front ws (Some r) NotAsked told p = p
releases_in_front ws (Some r) Nothing told p = p
releases_in_front ws (Some r) (Message m) told p = p

-- ---- all together

-- whether there is a message doesn't depend on how its octets are told
one_for_map : {A B : Type 0} (f : A → B) (item : Option A) → one_for item ≡ one_for (option_map f item)
one_for_map f None = refl
one_for_map f (Some x) = refl

pub effects_counted : (moment : ℕ) (event : Event) (e : Effects) (t : EventTally)
    → t.began ≡ what_event_begins event → t.said ≡ messages_said_by_event event
    → t.refused ≡ one_for e.refused → t.accepted ≡ one_for e.deeds.accepted → t.connected ≡ one_for e.deeds.connected → t.released ≡ e.deeds.released
    → IsTallyOfEntry (record { moment = moment; conn = t.conn; event = event; outcomes = outcomes_in e }) t
effects_counted moment event e t began said refused accepted connected released =
    let message : Option (List ℕ) = option_map (λ m. m.now) e.deeds.accepted in
    record {
      conn = refl;
      began = began;
      said = said;
      refused = refused
          ∙ refusals_in_front e.refused e.taken (outcomes_of_deeds e.deeds) (refusals_of_deeds e.deeds.connected message e.deeds.released e.deeds.out.now);
      accepted = accepted ∙ one_for_map (λ m. m.now) e.deeds.accepted
          ∙ acceptances_in_front (one_for message) e.refused e.taken (outcomes_of_deeds e.deeds)
          (acceptances_of_deeds e.deeds.connected message e.deeds.released e.deeds.out.now);
      connected = connected
          ∙ connections_in_front (one_for e.deeds.connected) e.refused e.taken (outcomes_of_deeds e.deeds)
          (connections_of_deeds e.deeds.connected message e.deeds.released e.deeds.out.now);
      released = ap release_or_none released
          ∙ releases_in_front (release_or_none e.deeds.released) e.refused e.taken (outcomes_of_deeds e.deeds)
          (releases_of_deeds e.deeds.connected message e.deeds.released e.deeds.out.now);
    }
