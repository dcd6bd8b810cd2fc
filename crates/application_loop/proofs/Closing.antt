-- A live connection is closed: the loop is at rest as before, without it.
use Rattle.std.proofs.Common.{arith, ◌≡◌, ◌∙◌, ◌<◌, ◌≤◌, ◌==◌, ℕ, zero, suc, Bool, false, not, if◌then◌else◌, List, [], ◌∷◌, ◌++◌, map, length, slice_index_or, refl, sym, ap, append-nil, eq-eqb, true≢false}
use Rattle.std.specs.List.{All, remove}
use Rattle.std.proofs.lemmas.Bool.{ne_eqb}
use Rattle.std.proofs.lemmas.List.Elements.{All-nil, All-cons, All-head, All-tail}
use Rattle.er_base.specs.LineTexts.{line_text}
use Rattle.er_trace.specs.Texts.{header_words}
use Rattle.er_end.specs.KeptEnds.{waiting_in}
use Rattle.outside.specs.Acts.{Called, Closed}
use Rattle.outside.specs.Doings.{Told, Did}
use Rattle.application_model.specs.Ends.{KnownEnd, without_end}
use Rattle.application_model.specs.Claims.{RiseTo}
use Rattle.application_model.specs.Histories.{Came, Closes}
use Rattle.application_model.specs.Services.{Service, came_alone, meets}
use Rattle.application_ends.specs.StackEnds.{HeldKeys}
use Rattle.application_serving.specs.SeenOctets.{is_brought_in}
use Rattle.application_serving.specs.Serving.{ServiceDeed, acts_in_service, greatest_moment}
use Rattle.application_serving.specs.Going.{ServiceRun, ToDo, and_then, nothing_to_do, service_behind, kind_behind, Going}
use Rattle.application_serving.specs.ActDeeds.{does_closed}
use Rattle.application_serving.specs.ModelSteps.{meets_closes}
use Rattle.application_serving.specs.GoingSteps.{deed_of, begins_to_meet, going_first_as, going_by_act, going_and_nothing, going_regrouped, timely_behind}
use Rattle.application_loop.specs.Standing.{Beside, scene, Standing, Rested, AtRest, LinkIs, known_of_link, number_of_link}
use Rattle.application_loop.specs.declared.link.Link.{Link}
use Rattle.application_loop.specs.declared.desk.Desk.{Desk}
use Rattle.application_loop.proofs.Happenings.{takes_then, takes_end}
use Rattle.application_loop.proofs.LinkLists.{IsApart, apart_behind}
use Rattle.application_loop.proofs.LinkWriting.{below_isnt, above_isnt, others_on, number_above}
use Rattle.application_loop.proofs.StandingCloses.{closed_service, closed_held, closed_recorded, closed_written, closed_moment, closed_link}
use Rattle.application_loop.proofs.StandingCloses.{closed_fresh_apart, closed_desk}

-- ---- links with rising numbers but one of them

each_but : (P Q : Link → Type 0) (links : List Link) (place low top : ℕ) (d : Link) → RiseTo low (map number_of_link links) top → place < length links
    → ((l : Link) → P l → ((slice_index_or links place d).number == l.number) ≡ false → Q l) → All P links → All Q (remove links place)
each_but P Q [] place low top d rise within others each = absurd (omega (arith, within))
each_but P Q (link ∷ links) zero low top d rise within others each =
    others_on P Q link.number links link.number top (omega arith) rise.1 others (All-tail P link links each)
each_but P Q (link ∷ links) (suc place) low top d rise within others each =
    let inside : place < length links = omega (arith, within) in
    let higher = number_above links place link.number top d rise.1 inside in
    All-cons Q link (remove links place)
    (others link (All-head P link links each) (above_isnt (slice_index_or links place d).number link.number higher))
    (each_but P Q links place link.number top d rise.1 inside others (All-tail P link links each))

rises_from_lower : (low least top : ℕ) (ns : List ℕ) → low ≤ least → RiseTo least ns top → RiseTo low ns top
rises_from_lower low least top [] less rise = omega (arith, rise, less)
rises_from_lower low least top (n ∷ ns) less rise = (omega (arith, rise.0, less), rise.1)

rise_but : (links : List Link) (place low top : ℕ) → RiseTo low (map number_of_link links) top → place < length links
    → RiseTo low (map number_of_link (remove links place)) top
rise_but [] place low top rise within = absurd (omega (arith, within))
rise_but (link ∷ links) zero low top rise within =
    let above : low < link.number = rise.0 in rises_from_lower low link.number top (map number_of_link links) (omega (arith, above)) rise.1
rise_but (link ∷ links) (suc place) low top rise within = (rise.0, rise_but links place link.number top rise.1 (omega (arith, within)))

known_apart : (conn : ℕ) (links : List Link) → All (IsApart conn) links → without_end conn (map known_of_link links) ≡ map known_of_link links
known_apart conn [] apart = refl
known_apart conn (link ∷ links) apart =
    ap
    (λ (b : Bool).
    if not b then known_of_link link ∷ without_end conn (map known_of_link links) else without_end conn (map known_of_link links))
    (All-head (IsApart conn) link links apart)
    ∙ ap (λ (ks : List KnownEnd). known_of_link link ∷ ks) (known_apart conn links (All-tail (IsApart conn) link links apart))

known_but : (links : List Link) (place low top : ℕ) (d : Link) → RiseTo low (map number_of_link links) top → place < length links
    → without_end (slice_index_or links place d).number (map known_of_link links) ≡ map known_of_link (remove links place)
known_but [] place low top d rise within = absurd (omega (arith, within))
known_but (link ∷ links) zero low top d rise within =
    let n = link.number in
    ap
    (λ (b : Bool). if not b then known_of_link link ∷ without_end n (map known_of_link links) else without_end n (map known_of_link links))
    (eq-eqb n n refl)
    ∙ known_apart n links (apart_behind low top [] links link rise)
known_but (link ∷ links) (suc place) low top d rise within =
    let inside : place < length links = omega (arith, within) in
    let n = (slice_index_or links place d).number in
    let higher = number_above links place link.number top d rise.1 inside in
    ap
    (λ (b : Bool). if not b then known_of_link link ∷ without_end n (map known_of_link links) else without_end n (map known_of_link links))
    (below_isnt link.number n higher)
    ∙ ap (λ (ks : List KnownEnd). known_of_link link ∷ ks) (known_but links place link.number top d rise.1 inside)

-- ---- one is closed

module _ {run : ServiceRun} {beside : Beside} (told now : Told) (links : List Link) (place : ℕ) (d : Link) (desk : Desk) (within : place < length links)
    (did : Did told now (Called (Closed (slice_index_or links place d).number) ∷ [])) (at_rest : AtRest run beside (scene told links desk)) where
  abbrev conn : ℕ
  conn = (slice_index_or links place d).number

  abbrev deeds : List ServiceDeed
  deeds = at_rest.serving.deeds

  abbrev more : List ServiceDeed
  more = deeds ++ deed_of (Called (Closed conn)) (Came (Closes conn) ∷ []) ∷ []

  is : Standing run deeds beside (scene told links desk)
  is = at_rest.serving.stands

  some : 0 < conn
  some = number_above links place 0 beside.opened d is.rise within

  going_closed : Going run now more (and_then (takes_then beside.moment) nothing_to_do)
  going_closed =
      let takes = takes_then beside.moment in
      let going = at_rest.serving.going in
      let meets_it : ToDo = λ kind s. meets kind beside.moment (Closes conn) s in
      let alone : ToDo = λ kind s. came_alone (Closes conn) s in
      let begun = going_regrouped meets_it takes nothing_to_do (going_and_nothing (begins_to_meet beside.moment (Closes conn) going)) in
      let met =
      going_first_as meets_it alone (and_then takes nothing_to_do) begun
      (λ later. meets_closes (kind_behind run deeds later) beside.moment conn (service_behind deeds)) in
      let so = does_closed (going.always deeds [] (sym (append-nil deeds))) is.written conn some in
      going_by_act alone (and_then takes nothing_to_do) (Called (Closed conn)) (Came (Closes conn) ∷ []) met did refl (λ later. refl) so
      (timely_behind (greatest_moment (acts_in_service deeds)) (Came (Closes conn)) [] tt (All-nil _)) refl

  stands_closed : Standing run more beside (scene now (remove links place) desk)
  stands_closed = record {
    each =
        each_but (LinkIs run deeds beside.left) (LinkIs run more beside.left) links place 0 beside.opened d is.rise within
        (λ l before apart. closed_link run deeds conn beside.left l before) is.each;
    known =
        ap (λ (s : Service). s.known) (closed_service run deeds conn)
        ∙ ap (without_end conn) is.known
        ∙ known_but links place 0 beside.opened d is.rise within;
    rise = rise_but links place 0 beside.opened is.rise within;
    below = is.below;
    fresh = λ c beyond.
        let fresh = is.fresh c beyond in
        closed_fresh_apart run deeds conn c
        (ne_eqb conn c
        (λ e.
        true≢false
        (sym (is.each place d within).brought ∙ ap (λ (n : ℕ). is_brought_in n (acts_in_service deeds)) e ∙ fresh.brought)))
        fresh;
    desk = closed_desk run deeds conn beside.held desk some is.desk;
    written =
        closed_written run deeds conn
        ∙ is.written
        ∙ ap (λ (t : List ℕ). line_text (header_words run.settings) ++ t) (sym (closed_recorded run deeds conn));
    moment = closed_moment run deeds conn ∙ is.moment;
    finds = λ later. ap (λ (h : HeldKeys). h beside.keys) (closed_held run deeds conn later) ∙ is.finds later;
    keys = ap (λ (s : Service). s.keys) (closed_service run deeds conn) ∙ is.keys;
    draining = ap (λ (s : Service). s.draining) (closed_service run deeds conn) ∙ is.draining;
    opened = ap (λ (s : Service). s.opened) (closed_service run deeds conn) ∙ is.opened;
    numbered = did.wires.opened ∙ is.numbered;
  }

  pub closed_rests : AtRest run beside (scene now (remove links place) desk)
  closed_rests =
      let Rests : Link → Type 0 = λ l. waiting_in l.end.value ≡ [] in
      let still : Rested (scene now (remove links place) desk) =
      λ room. each_but Rests Rests links place 0 beside.opened d is.rise within (λ l none apart. none) (at_rest.rested room) in
      record {
        serving =
            takes_end run beside (scene now (remove links place) desk) beside.moment nothing_to_do still
            (record { deeds = more; going = going_closed; stands = stands_closed });
        rested = still;
      }
