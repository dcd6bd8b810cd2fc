-- Lemmas: a history that isn't ended, by what was done so far, and what the model is still to do then; for the proofs of the loop.
use Rattle.std.specs.Prelude.{ℕ, ◌≡◌, List, [], ◌∷◌, ◌++◌, length, Result, Ok, Err}
use Rattle.std.specs.List.{All}
use Rattle.safety_automaton.specs.Keys.{KmacEntry}
use Rattle.er_settings.specs.Values.{Settings}
use Rattle.er_end_model.specs.Steps.{Finds}
use Rattle.outside.specs.Doings.{Told, Did}
use Rattle.application_model.specs.Ends.{EndKind}
use Rattle.application_model.specs.Histories.{ServiceHappening, ServiceItem}
use Rattle.application_model.specs.Services.{Service, at_start, behind_items, one_then, serves_all, service_history}
use Rattle.application_model.specs.Laws.{readings_in}
use Rattle.application_ends.specs.StackEnds.{HeldKeys, stack_kind}
use Rattle.application_serving.specs.Serving.{key_files_in_acts, held_by_files, ServesSoFar, ServiceDeed, acts_in_service, items_in_service, greatest_moment}
use Rattle.application_serving.specs.Serving.{IsAtMoment, Serves}

-- a run of a loop: its settings, the keys of its start, and the outside as it found it
pub record ServiceRun : Type 0 where
  pub settings : Settings
  pub start : Finds
  pub before : Told

-- what the model is still to do, over ends of a kind
abbrev pub ToDo : Type 0
ToDo = EndKind → Service → List ServiceItem

abbrev pub and_then : ToDo → ToDo → ToDo
and_then first rest kind s = one_then (first kind) (rest kind) s

abbrev pub nothing_to_do : ToDo
nothing_to_do kind s = []

-- the model behind what was done
abbrev pub service_behind : List ServiceDeed → Service
service_behind deeds = behind_items at_start (items_in_service deeds)

-- the keys of the start, those of each file that was fetched so far, and those of files that are fetched later
abbrev pub held_behind : ServiceRun → List ServiceDeed → (later : List (List KmacEntry)) → HeldKeys
held_behind run deeds later = held_by_files run.start (key_files_in_acts (acts_in_service deeds) ++ later)

abbrev pub kind_behind : ServiceRun → List ServiceDeed → (later : List (List KmacEntry)) → EndKind
kind_behind run deeds later = stack_kind run.settings (held_behind run deeds later)

-- these deeds were done and nothing else; whatever comes later, they are the beginning of a history, of which this is left
pub record Going (run : ServiceRun) (now : Told) (deeds : List ServiceDeed) (rest : ToDo) : Type 0 where
  pub did : Did run.before now (acts_in_service deeds)
  pub happenings : List (ℕ × ServiceHappening)
  pub history : (later : List (List KmacEntry)) (more : List (ℕ × ServiceHappening))
      → service_history (kind_behind run deeds later) (happenings ++ more)
      ≡ items_in_service deeds
      ++ one_then (rest (kind_behind run deeds later)) (serves_all (kind_behind run deeds later) more) (service_behind deeds)
  pub always : (front back : List ServiceDeed) → deeds ≡ front ++ back → ServesSoFar run.settings (acts_in_service front) (items_in_service front)
  pub timely : (front back : List ServiceDeed) (deed : ServiceDeed) → deeds ≡ front ++ deed ∷ back
      → All (IsAtMoment (greatest_moment (acts_in_service front))) deed.items
  pub fetched : (front back : List ServiceDeed) → deeds ≡ front ++ back
      → readings_in (items_in_service front) ≡ length (key_files_in_acts (acts_in_service front))

-- what is so behind a part that was done to its end
pub record Went (run : ServiceRun) (now : Told) (rest : ToDo) (Leaves : List ServiceDeed → Type 0) : Type 0 where
  pub deeds : List ServiceDeed
  pub going : Going run now deeds rest
  pub leaves : Leaves deeds

-- what a run did so far is the beginning of a history
abbrev pub ServesBy : ServiceRun → Told → Type 0
ServesBy run now = Serves run.settings run.start run.before now

-- a part was done to its end, or it broke off: then what was done is the beginning of a history
abbrev pub Goes : {T E : Type 0} → ServiceRun → Told → ToDo → Result T E → (T → List ServiceDeed → Type 0) → Type 0
Goes run now rest (Ok done) Leaves = Went run now rest (Leaves done)
Goes run now rest (Err fault) Leaves = ServesBy run now
