-- A connection that comes was nothing to the loop before.
use Rattle.std.proofs.Common.{inl, inr, ◌≡◌, ◌∙◌, ◌==◌, ℕ, Bool, if◌then◌else◌, List, [], ◌∷◌, ◌++◌, refl, sym, ap, append-nil, append_assoc}
use Rattle.std.specs.List.{flat_map}
use Rattle.std.proofs.lemmas.Bool.{cases_Bool}
use Rattle.application_lines.specs.declared.application_line.ApplicationLine.TheVariants.{Asks, Faulty}
use Rattle.application_lines.specs.declared.request.Request.TheVariants as request
use Rattle.application_model.specs.Ends.{EventAt}
use Rattle.application_model.specs.Claims.{events_of_item, events_at, outcomes_at_connection}
use Rattle.application_model.specs.Histories.{ServiceItem, Came, LineRead, Occurred, Informed, KeysFetched, Attaches, Departs, Brings, Takes, Opens, Befalls, Closes}
use Rattle.application_model.specs.Histories.{KeysRead}
use Rattle.application_model.specs.Services.{Service, at_start, behind_item, behind_items}
use Rattle.application_serving.specs.Serving.{octets_of_outcome, octets_event_brings, octets_told_at, octets_heard_at}

-- ---- what came at an end is its events

item_ends : (s : Service) (item : ServiceItem) (conn : ℕ) → (behind_item s item).ends conn ≡ s.ends conn ++ events_of_item conn item
item_ends s (Came Attaches) conn = sym (append-nil (s.ends conn))
item_ends s (Came Departs) conn = sym (append-nil (s.ends conn))
item_ends s (Came (Brings octets)) conn = sym (append-nil (s.ends conn))
item_ends s (Came (Takes count)) conn = sym (append-nil (s.ends conn))
item_ends s (Came (Opens what)) conn = sym (append-nil (s.ends conn))
item_ends s (Came (Befalls c what)) conn = sym (append-nil (s.ends conn))
item_ends s (Came (Closes c)) conn = sym (append-nil (s.ends conn))
item_ends s (Came (KeysRead answer)) conn = sym (append-nil (s.ends conn))
item_ends s (LineRead (Asks (request.Send c text))) conn = sym (append-nil (s.ends conn))
item_ends s (LineRead (Asks (request.Release c sub))) conn = sym (append-nil (s.ends conn))
item_ends s (LineRead (Asks request.Drain)) conn = sym (append-nil (s.ends conn))
item_ends s (LineRead (Asks request.Keys)) conn = sym (append-nil (s.ends conn))
item_ends s (LineRead (Asks request.Counts)) conn = sym (append-nil (s.ends conn))
item_ends s (LineRead (Faulty line why)) conn = sym (append-nil (s.ends conn))
item_ends s (Occurred time c what outcomes) conn =
    elim (cases_Bool (conn == c)) [
      | inl same ↦ rw same refl
      | inr other ↦ rw other (sym (append-nil (s.ends conn)))
    ]
item_ends s (Informed notice) conn = sym (append-nil (s.ends conn))
item_ends s KeysFetched conn = sym (append-nil (s.ends conn))

ends_by_events : (s : Service) (items : List ServiceItem) (conn : ℕ) → (behind_items s items).ends conn ≡ s.ends conn ++ events_at conn items
unfolding behind_items
ends_by_events s [] conn = sym (append-nil (s.ends conn))
ends_by_events s (item ∷ items) conn =
    ends_by_events (behind_item s item) items conn
    ∙ ap (λ (e : List EventAt). e ++ events_at conn items) (item_ends s item conn)
    ∙ append_assoc (s.ends conn) (events_of_item conn item) (events_at conn items)

pub no_ends : (items : List ServiceItem) (conn : ℕ) → events_at conn items ≡ [] → (behind_items at_start items).ends conn ≡ []
no_ends items conn none = ends_by_events at_start items conn ∙ none

-- ---- where none came, nothing was told or heard

some_not_none : {A : Type 0} (x : A) (xs : List A) → x ∷ xs ≡ [] → ⊥
some_not_none x xs none = absurd cc

no_outcomes : (items : List ServiceItem) (conn : ℕ) → events_at conn items ≡ [] → outcomes_at_connection conn items ≡ []
no_outcomes [] conn none = refl
no_outcomes (Came what ∷ items) conn none = no_outcomes items conn none
no_outcomes (LineRead line ∷ items) conn none = no_outcomes items conn none
no_outcomes (Occurred time c what outcomes ∷ items) conn none =
    elim (cases_Bool (conn == c)) [
      | inl same ↦ absurd (some_not_none (record { time = time; event = what }) (events_at conn items)
          (sym (ap (λ (b : Bool). (if b then record { time = time; event = what } ∷ [] else []) ++ events_at conn items) same) ∙ none))
      | inr other ↦ ap (λ (b : Bool). (if b then outcomes else []) ++ outcomes_at_connection conn items) other
          ∙ no_outcomes items conn
          (sym (ap (λ (b : Bool). (if b then record { time = time; event = what } ∷ [] else []) ++ events_at conn items) other) ∙ none)
    ]
no_outcomes (Informed notice ∷ items) conn none = no_outcomes items conn none
no_outcomes (KeysFetched ∷ items) conn none = no_outcomes items conn none

pub none_told : (items : List ServiceItem) (conn : ℕ) → events_at conn items ≡ [] → octets_told_at conn items ≡ []
none_told items conn none = ap (flat_map octets_of_outcome) (no_outcomes items conn none)

pub none_heard : (items : List ServiceItem) (conn : ℕ) → events_at conn items ≡ [] → octets_heard_at conn items ≡ []
none_heard items conn none = ap (flat_map (λ (x : EventAt). octets_event_brings x.event)) none
