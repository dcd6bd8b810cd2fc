-- An application departs: it is closed, nobody is there any more, and no message is taken.
use Rattle.std.proofs.Common.{◌≡◌, ◌∙◌, ◌==◌, ℕ, true, false, List, [], ◌∷◌, ◌++◌, map, arith, refl, sym, ap, subst, append-nil}
use Rattle.std.proofs.lemmas.Bool.{ne_eqb}
use Rattle.std.proofs.lemmas.List.Elements.{All-nil}
use Rattle.er_base.specs.LineTexts.{line_text}
use Rattle.er_trace.specs.Texts.{header_words}
use Rattle.outside.specs.Acts.{Called, Closed}
use Rattle.outside.specs.Doings.{Told, Did}
use Rattle.application_model.specs.Ends.{numbers_known}
use Rattle.application_model.specs.Claims.{RiseTo}
use Rattle.application_model.specs.Histories.{Came, Departs}
use Rattle.application_model.specs.Services.{Service, Absent, behind_items, meets}
use Rattle.application_port.specs.Ports.{NobodyThere}
use Rattle.application_ends.specs.Laws.{recording_of_service}
use Rattle.application_serving.specs.SeenOctets.{application_in_acts}
use Rattle.application_serving.specs.Serving.{ServiceDeed, acts_in_service, items_in_service, application_in_items, text_written_by_acts, greatest_moment, IsAtMoment}
use Rattle.application_serving.specs.Going.{ServiceRun, ToDo, and_then, service_behind, kind_behind, Going}
use Rattle.application_serving.specs.OneMore.{application_leaves, application_items_more, behind_one, moment_quiet, none_is_zero}
use Rattle.application_serving.specs.ModelSteps.{meets_departs}
use Rattle.application_serving.specs.ActDeeds.{does_departed}
use Rattle.application_serving.specs.GoingSteps.{deed_of, acts_one_more, items_one_more, service_one_more, begins_to_meet, going_by_act, going_and_nothing, timely_behind}
use Rattle.application_loop.specs.Standing.{Beside, Scene, scene, Standing, Serving, AtRest, Rested, known_of_link, number_of_link}
use Rattle.application_loop.specs.declared.link.Link.{Link}
use Rattle.application_loop.specs.declared.desk.Desk.{Desk}
use Rattle.application_loop.proofs.ActServing.{IsAside, IsSilent, GoesAside, aside_act, aside_then, desk_on, standing_aside, adds_nothing}
use Rattle.application_loop.proofs.Happenings.{takes_then, takes_end}

closes_aside : IsAside (Called (Closed 0))
closes_aside = record {
  files = refl;
  text = refl;
  brings = λ conn. refl;
  given = λ conn above. refl;
  read = λ conn above. refl;
  closes = λ conn above. let apart : (0 == conn) ≡ false = ne_eqb 0 conn (λ is. let e : 0 ≡ conn = is in absurd (omega (arith, above, e))) in rw apart refl;
}

departs_silent : (s : Service) → IsSilent s (deed_of (Called (Closed 0)) (Came Departs ∷ []))
unfolding behind_items
departs_silent s = record {
  told = λ conn. refl;
  heard = λ conn. refl;
  records = refl;
  keeps = refl;
  files = refl;
  text = refl;
  brings = λ conn. refl;
}

pub numbers_of_links : (links : List Link) → numbers_known (map known_of_link links) ≡ map number_of_link links
numbers_of_links [] = refl
numbers_of_links (link ∷ links) = ap (λ (ns : List ℕ). link.number ∷ ns) (numbers_of_links links)

abbrev pub nobody_at : Desk → Desk
nobody_at desk = record desk { port = NobodyThere }

-- behind deeds aside, after which nothing is left, the application is closed; the model is left to take messages, of which it takes none
pub departs_behind : {run : ServiceRun} {deeds more : List ServiceDeed} {beside : Beside} {x : Scene} (then now : Told) (moment : ℕ) (held : List ℕ)
    → Standing run deeds beside x → GoesAside deeds more → (service_behind more).known ≡ (service_behind deeds).known
    → greatest_moment (acts_in_service more) ≡ beside.moment → then.wires.opened ≡ x.told.wires.opened → Going run then more (λ kind s. [])
    → Did then now (Called (Closed 0) ∷ [])
    → Serving run (record beside { held = held }) (and_then (takes_then moment) (λ kind s. [])) (scene now x.links (nobody_at x.desk))
departs_behind {run} {deeds} {more} {beside} {x} then now moment held stands aside known at wires going did =
    let act = Called (Closed 0) in
    let items = Came Departs ∷ [] in
    let acts = acts_in_service more in
    let deed = deed_of act items in
    let s = service_behind more in
    let met : ToDo = λ kind s'. meets kind moment Departs s' in
    let recorded : text_written_by_acts acts ≡ line_text (header_words run.settings) ++ recording_of_service (items_in_service more) =
    aside.adds.written ∙ stands.written ∙ ap (λ (t : List ℕ). line_text (header_words run.settings) ++ t) (sym aside.adds.recorded) in
    let rise : RiseTo 0 (numbers_known s.known) beside.opened =
    subst (λ (ns : List ℕ). RiseTo 0 ns beside.opened) (sym (ap numbers_known (known ∙ stands.known) ∙ numbers_of_links x.links)) stands.rise in
    let so = does_departed (going.always more [] (sym (append-nil more))) recorded (none_is_zero s.known beside.opened rise) in
    let on = going_by_act met (takes_then moment) act items (begins_to_meet moment Departs going) did refl
    (λ later. meets_departs (kind_behind run more later) moment s) so
    (timely_behind (greatest_moment acts) (Came Departs) [] tt (All-nil (IsAtMoment (greatest_moment acts)))) refl in
    let goes = aside_then aside (aside_act more act items closes_aside (departs_silent s)) in
    let behind : service_behind (more ++ deed ∷ []) ≡ record s { application = Absent } = service_one_more more deed ∙ behind_one s (Came Departs) in
    record {
      deeds = more ++ deed ∷ [];
      going = going_and_nothing on;
      stands = standing_aside goes stands beside.moment held now (nobody_at x.desk) (ap (λ (t : Service). t.known) behind ∙ known)
          (desk_on goes.adds beside.held held x.desk (nobody_at x.desk) stands.desk (ap (λ (t : Service). t.application) behind) (
            ap application_in_acts (acts_one_more more deed) ∙ application_leaves acts,
            ap application_in_items (items_one_more more deed) ∙ application_items_more (items_in_service more) items,
          )
          refl refl refl)
          (ap greatest_moment (acts_one_more more deed) ∙ moment_quiet acts act refl ∙ at)
          (did.wires.opened ∙ wires);
    }

nobody_rests : (x : Scene) (told : Told) → Rested (scene told x.links (nobody_at x.desk))
nobody_rests x told room = let none : false ≡ true = room in absurd cc

aside_nothing : (deeds : List ServiceDeed) → GoesAside deeds deeds
aside_nothing deeds = record { adds = adds_nothing deeds; given = λ conn above. refl; read = λ conn above. refl; closed = λ conn above. refl }

-- where all was done, it is again
pub departs_at_rest : {run : ServiceRun} {beside : Beside} {x : Scene} (now : Told) (held : List ℕ) → Serving run beside (λ kind s. []) x
    → Did x.told now (Called (Closed 0) ∷ []) → AtRest run (record beside { held = held }) (scene now x.links (nobody_at x.desk))
departs_at_rest {run} {beside} {x} now held serving did = record {
  serving = takes_end run (record beside { held = held }) (scene now x.links (nobody_at x.desk)) beside.moment (λ kind s. []) (nobody_rests x now)
      (departs_behind x.told now beside.moment held serving.stands (aside_nothing serving.deeds) refl serving.stands.moment refl serving.going did);
  rested = nobody_rests x now;
}
