-- Behind a read of the application the loop goes on as before, and more is held.
use Rattle.std.proofs.Common.{◌≡◌, ◌∙◌, ◌==◌, ℕ, false, List, [], ◌∷◌, ◌++◌, arith, refl, sym, ap, subst, append-nil, append_assoc, Bool}
use Rattle.std.proofs.lemmas.Bool.{ne_eqb}
use Rattle.link_trait.specs.Wires.{Reading}
use Rattle.outside.specs.Acts.{Called, Read}
use Rattle.outside.specs.Doings.{Told, Did}
use Rattle.application_model.specs.Histories.{ServiceItem}
use Rattle.application_model.specs.Services.{Service}
use Rattle.application_port.specs.Ports.{PortState, NobodyThere, Talking}
use Rattle.application_serving.specs.SeenOctets.{octets_of_reading, SeenApplication, SeenThere, seen_to_say, application_in_acts}
use Rattle.application_serving.specs.Serving.{acts_in_service, items_in_service, application_in_items}
use Rattle.application_serving.specs.Going.{ServiceRun, ToDo, service_behind}
use Rattle.application_serving.specs.OneMore.{application_one, moment_quiet}
use Rattle.application_serving.specs.ActDeeds.{does_read}
use Rattle.application_serving.specs.GoingSteps.{deed_of, acts_one_more, items_without_items, service_without_items, going_quietly}
use Rattle.application_loop.specs.Standing.{Beside, scene, IsAtPort, Serving}
use Rattle.application_loop.specs.declared.link.Link.{Link}
use Rattle.application_loop.specs.declared.desk.Desk.{Desk}
use Rattle.std.specs.Prelude.{Result, Ok, Err}
use Rattle.std.specs.Result.{IsErrAnd}
use Rattle.safety_automaton.specs.Keys.{key_at}
use Rattle.outside.specs.Acts.{Closed}
use Rattle.application_serving.specs.Going.{ServesBy}
use Rattle.application_serving.specs.GoingSteps.{serves_of_going}
use Rattle.application_loop.specs.Standing.{AtRest}
use Rattle.application_loop.specs.Living.{accepts_more, Resting, RestingOr, entries_for_service}
use Rattle.application_loop.specs.declared.links.Links.{Links}
use Rattle.application_loop.specs.declared.live_service.LiveService.{LiveService}
use Rattle.application_loop.specs.declared.service_keys.ServiceKeys.{ServiceKeys}
use Rattle.application_loop.proofs.Departing.{nobody_at, departs_at_rest}
use Rattle.application_loop.proofs.ActServing.{IsAside, adds_one, act_is_silent, desk_on, standing_by_act}

read_is_aside : (size : ℕ) (reading : Reading) → IsAside (Called (Read 0 size reading))
read_is_aside size reading = record {
  files = refl;
  text = refl;
  brings = λ conn. refl;
  given = λ conn above. refl;
  read = λ conn above. let apart : (0 == conn) ≡ false = ne_eqb 0 conn (λ is. let e : 0 ≡ conn = is in absurd (omega (arith, above, e))) in rw apart refl;
  closes = λ conn above. refl;
}

says_at_port : (seen told : SeenApplication) (held octets : List ℕ) (port : PortState) → IsAtPort seen told held port
    → IsAtPort (seen_to_say octets seen) told (held ++ octets) port
says_at_port seen told held octets NobodyThere is = (ap (seen_to_say octets) is.0, is.1)
says_at_port seen told held octets (Talking standing output) is = record {
  brought = is.brought;
  given = is.given;
  acts = ap (seen_to_say octets) is.acts ∙ ap (λ (o : List ℕ). SeenThere o is.given) (append_assoc is.brought held octets);
  items = is.items;
}

abbrev pub holding_more : Beside → List ℕ → Beside
holding_more beside octets = record beside { held = beside.held ++ octets }

-- so many octets more are held
pub serving_read : {run : ServiceRun} {beside : Beside} {rest : ToDo} (told now : Told) (links : List Link) (desk : Desk) (size : ℕ) (reading : Reading)
    → Did told now (Called (Read 0 size reading) ∷ []) → Serving run beside rest (scene told links desk)
    → Serving run (holding_more beside (octets_of_reading reading)) rest (scene now links desk)
serving_read {run} {beside} {rest} told now links desk size reading did serving =
    let deeds = serving.deeds in
    let act = Called (Read 0 size reading) in
    let octets = octets_of_reading reading in
    let held = beside.held ++ octets in
    let adds = adds_one deeds (deed_of act []) (act_is_silent (service_behind deeds) act refl refl (λ conn. refl)) in
    let seen : application_in_acts (acts_in_service (deeds ++ deed_of act [] ∷ [])) ≡ seen_to_say octets (application_in_acts (acts_in_service deeds)) =
    ap application_in_acts (acts_one_more deeds (deed_of act [])) ∙ application_one (acts_in_service deeds) act in
    let is = serving.stands.desk in
    record {
      deeds = deeds ++ deed_of act [] ∷ [];
      going = going_quietly act serving.going did refl (does_read (serving.going.always deeds [] (sym (append-nil deeds))) 0 size reading);
      stands = standing_by_act act (read_is_aside size reading) serving.stands beside.moment held now desk
          (desk_on adds beside.held held desk desk is (ap (λ (s : Service). s.application) (service_without_items deeds act) ∙ is.application)
          (subst (λ (a : SeenApplication). IsAtPort a (application_in_items (items_in_service (deeds ++ deed_of act [] ∷ []))) held desk.port) (sym seen)
          (subst (λ (i : List ServiceItem). IsAtPort (seen_to_say octets (application_in_acts (acts_in_service deeds))) (application_in_items i) held desk.port)
          (sym (items_without_items deeds act))
          (says_at_port (application_in_acts (acts_in_service deeds)) (application_in_items (items_in_service deeds)) beside.held octets desk.port is.port)))
          refl refl refl)
          (moment_quiet (acts_in_service deeds) act refl ∙ serving.stands.moment)
          did.wires.opened;
    }

-- ---- a loop that is at rest

-- it stands in another, of which the connections, the desk, the keys, the moment and whether it drains are the same, and this is held
pub rests_in : {run : ServiceRun} {told : Told} {live : LiveService} (now : Told) (other : LiveService) (rests : Resting run told live)
    → AtRest run (record rests.living.beside { held = other.speaker.held.items }) (scene now other.links.list.items other.desk) → other.keys ≡ live.keys
    → other.moment ≡ live.moment → other.draining ≡ live.draining → other.calls ≡ live.calls → Resting run now other
rests_in {run} {told} {live} now other rests at_rest keys moment draining calls = record {
  living = record {
    beside = record rests.living.beside { held = other.speaker.held.items };
    serving = at_rest.serving;
    moment = rests.living.moment ∙ sym moment;
    finds = rests.living.finds ∙ ap (λ (k : ServiceKeys). key_at (entries_for_service k)) (sym keys);
    held = refl;
    draining = rests.living.draining ∙ sym draining;
    accepts =
        rests.living.accepts
        ∙ ap (λ (d : Bool). accepts_more d live.calls) (sym draining)
        ∙ ap (λ (c : Bool). accepts_more other.draining c) (sym calls);
    left = rests.living.left;
  };
  rested = at_rest.rested;
}

-- behind a read: all that it gave is held
pub reads_at_rest : {run : ServiceRun} {told : Told} {live : LiveService} (now : Told) (other : LiveService) (size : ℕ) (reading : Reading)
    → Resting run told live → Did told now (Called (Read 0 size reading) ∷ [])
    → other.links ≡ live.links → other.desk ≡ live.desk → other.speaker.held.items ≡ live.speaker.held.items ++ octets_of_reading reading
    → other.keys ≡ live.keys → other.moment ≡ live.moment → other.draining ≡ live.draining → other.calls ≡ live.calls → Resting run now other
reads_at_rest {run} {told} {live} now other size reading rests did links desk held keys moment draining calls =
    let beside = rests.living.beside in
    let read = serving_read told now live.links.list.items live.desk size reading did rests.living.serving in
    let is : beside.held ++ octets_of_reading reading ≡ other.speaker.held.items =
    ap (λ (o : List ℕ). o ++ octets_of_reading reading) rests.living.held ∙ sym held in
    rests_in now other rests
    (subst (λ (l : Links). AtRest run (record beside { held = other.speaker.held.items }) (scene now l.list.items other.desk)) (sym links)
    (subst (λ (d : Desk). AtRest run (record beside { held = other.speaker.held.items }) (scene now live.links.list.items d)) (sym desk)
    (subst (λ (o : List ℕ). AtRest run (record beside { held = o }) (scene now live.links.list.items live.desk)) is
    (record { serving = read; rested = rests.rested }))))
    keys moment draining calls

-- behind a read that ended or failed the application departs
pub departs_behind_read : {run : ServiceRun} {told : Told} {live : LiveService} (then now : Told) (other : LiveService) (size : ℕ) (reading : Reading)
    → Resting run told live → Did told then (Called (Read 0 size reading) ∷ []) → Did then now (Called (Closed 0) ∷ [])
    → other.links ≡ live.links → other.desk ≡ nobody_at live.desk → other.keys ≡ live.keys → other.moment ≡ live.moment → other.draining ≡ live.draining
    → other.calls ≡ live.calls → Resting run now other
departs_behind_read {run} {told} {live} then now other size reading rests did closes links desk keys moment draining calls =
    let beside = rests.living.beside in
    let read = serving_read told then live.links.list.items live.desk size reading did rests.living.serving in
    rests_in now other rests
    (subst (λ (l : Links). AtRest run (record beside { held = other.speaker.held.items }) (scene now l.list.items other.desk)) (sym links)
    (subst (λ (d : Desk). AtRest run (record beside { held = other.speaker.held.items }) (scene now live.links.list.items d)) (sym desk)
    (departs_at_rest now other.speaker.held.items read closes)))
    keys moment draining calls

-- memory ran out behind a read
pub broke_behind_read : {run : ServiceRun} {told : Told} {live : LiveService} (now : Told) (size : ℕ) (reading : Reading) → Resting run told live
    → Did told now (Called (Read 0 size reading) ∷ []) → ServesBy run now
broke_behind_read {run} {told} {live} now size reading rests did =
    serves_of_going (serving_read told now live.links.list.items live.desk size reading did rests.living.serving).going

pub broke : {T E : Type 0} (run : ServiceRun) (told : Told) (live : LiveService) (P : E → Type 0) (result : Result T E) → IsErrAnd result P → ServesBy run told
    → RestingOr run told live result
broke run told live P (Ok done) is serves = absurd is
broke run told live P (Err fault) is serves = serves
