-- Representation: a loop with an application, by what was done so far; no claim rests on it.
use Rattle.std.specs.Prelude.{ℕ, ◌≡◌, Bool, false, true, List, [], ◌∷◌, Result, Ok, Err}
use Rattle.safety_automaton.specs.Keys.{KmacEntry, key_at}
use Rattle.safety_automaton.specs.Pairs.{pair_entries}
use Rattle.outside.specs.Doings.{Told}
use Rattle.application_model.specs.Histories.{KeysFetched}
use Rattle.application_model.specs.Services.{takes_waiting}
use Rattle.application_serving.specs.Going.{ServiceRun, ToDo, and_then, ServesBy}
use Rattle.application_loop.specs.Standing.{Beside, Scene, scene, Serving, Rested, none_left}
use Rattle.application_loop.specs.declared.live_service.LiveService.{LiveService}
use Rattle.application_loop.specs.declared.service_keys.ServiceKeys.{ServiceKeys}
use Rattle.application_loop.specs.declared.service_keys.ServiceKeys.TheVariants.{File, Pair}

abbrev pub entries_for_service : ServiceKeys → List KmacEntry
entries_for_service (File store) = store
entries_for_service (Pair pair) = pair_entries pair

abbrev pub scene_of_live : Told → LiveService → Scene
scene_of_live told live = scene told live.links.list.items live.desk

-- a loop that serves opens each connection that comes, until nothing more is accepted
abbrev pub accepts_more : (draining calls : Bool) → Bool
accepts_more true calls = false
accepts_more false true = false
accepts_more false false = true

-- the loop stands where what was done leads, and this is left for the model to do
pub record Living (run : ServiceRun) (told : Told) (rest : ToDo) (live : LiveService) : Type 0 where
  pub beside : Beside
  pub serving : Serving run beside rest (scene_of_live told live)
  pub moment : beside.moment ≡ live.moment
  pub finds : beside.finds ≡ key_at (entries_for_service live.keys)
  pub held : beside.held ≡ live.speaker.held.items
  pub draining : beside.draining ≡ live.draining
  pub accepts : beside.accepts ≡ accepts_more live.draining live.calls
  pub left : beside.left ≡ none_left

-- all that came is done
pub record Resting (run : ServiceRun) (told : Told) (live : LiveService) : Type 0 where
  pub living : Living run told (λ kind s. []) live
  pub rested : Rested (scene_of_live told live)

abbrev pub RestingOr : {T E : Type 0} → ServiceRun → Told → LiveService → Result T E → Type 0
RestingOr run told live (Ok done) = Resting run told live
RestingOr run told live (Err fault) = ServesBy run told

abbrev pub LivingOr : {T E : Type 0} → ServiceRun → Told → ToDo → LiveService → Result T E → Type 0
LivingOr run told rest live (Ok done) = Living run told rest live
LivingOr run told rest live (Err fault) = ServesBy run told

-- a part that begins and ends where all that came is done
abbrev pub RestsAgain : {T E : Type 0} → (told : Told) → LiveService → (told' : Told) → LiveService → Result T E → Type 0
RestsAgain told live told' live' result = (run : ServiceRun) → Resting run told live → RestingOr run told' live' result

-- the key file is fetched, and then the messages that wait are taken
abbrev pub fetch_then : (moment : ℕ) → ToDo
fetch_then moment = and_then (λ kind s. KeysFetched ∷ []) (λ kind s. takes_waiting kind moment s)
