-- The octets of a read at a connection: those that the end uses are an event, and the rest is left.
use Rattle.std.proofs.Common.{◌≡◌, ◌∙◌, ◌⊎◌, inl, inr, ◌<◌, ◌≤◌, ◌==◌, ℕ, zero, suc, Bool, true, false, if◌then◌else◌, List, [], ◌∷◌, ◌++◌, map, length, take, drop, Option, Some, Result, Ok, Err, OnOk, slice_set, slice_index_or, refl, sym, ap, subst, eq-eqb, eqb-true, arith}
use Rattle.std.specs.List.{slice_get, All}
use Rattle.std.specs.Result.{IsErrAnd}
use Rattle.std.proofs.lemmas.Bool.{cases_Bool}
use Rattle.std.proofs.lemmas.List.Elements.{All-weaker}
use Rattle.std.proofs.lemmas.List.{take-append-drop, set-get_or, nil_from_length}
use Rattle.std.proofs.lemmas.Option.{get_or_from_slice_get, slice_get-get_or}
use Rattle.safety_automaton.specs.Keys.{KmacEntry, key_at}
use Rattle.er_trace.specs.declared.event.Event.TheVariants as event
use Rattle.er_end.specs.KeptEnds.{KEnd, used_of}
use Rattle.er_end.specs.Keeping.{Uses}
use Rattle.loop_model.specs.Sessions.{Rules, Hears}
use Rattle.loop_session.specs.declared.loop_fault.LoopFault.{LoopFault}
use Rattle.loop_session.specs.Giving.{IsSameWith}
use Rattle.loop_session.specs.Parts.{writes_of_entries, OnlyPrints, Puts}
use Rattle.outside.specs.Doings.{Told}
use Rattle.application_model.specs.Claims.{RiseTo}
use Rattle.application_serving.specs.Serving.{ServiceDeed, items_in_service, octets_heard_at}
use Rattle.application_serving.specs.Going.{ServiceRun, ToDo, and_then, ServesBy}
use Rattle.application_loop.specs.StackSteps.{KeptGoOnAlike}
use Rattle.application_loop.specs.LinkGoing.{OccursByTheModel, StagesGoOn}
use Rattle.application_loop.specs.Occurring.{entry_at_link, Occurs}
use Rattle.application_loop.specs.Standing.{Beside, Scene, scene, number_of_link, LinkIs, Standing, Serving, AtRest, pouring, left_at, none_left}
use Rattle.application_loop.specs.ServingParts.{ServesOn, HearsSome}
use Rattle.application_loop.specs.declared.link.Link.{Link}
use Rattle.application_loop.specs.declared.desk.Desk.{Desk}
use Rattle.application_loop.proofs.LinkLists.{apart_before, apart_behind, one_moves, numbers_alike}
use Rattle.application_loop.proofs.EventServing.{LeavesOctets, event_serves}
use Rattle.application_loop.proofs.Happenings.{occurs_then}

-- ---- a link at its place

record IsAtPlace (links : List Link) (place : ℕ) (old now : Link) : Type 0 where
  front : List Link
  back : List Link
  was : links ≡ front ++ old ∷ back
  is : slice_set links place now ≡ front ++ now ∷ back

at_place : (links : List Link) (place : ℕ) (old now : Link) → slice_get links place ≡ Some old → IsAtPlace links place old now
at_place [] place old now found = absurd cc
at_place (link ∷ links) zero old now found =
    let same : link ≡ old = cc in
    record { front = []; back = links; was = ap (λ (l : Link). l ∷ links) same; is = refl }
at_place (link ∷ links) (suc place) old now found =
    let rest = at_place links place old now found in
    record {
      front = link ∷ rest.front;
      back = rest.back;
      was = ap (λ (ls : List Link). link ∷ ls) rest.was;
      is = ap (λ (ls : List Link). link ∷ ls) rest.is;
    }

-- ---- octets that are heard

left_apart : (conn n : ℕ) (octets : List ℕ) → (conn == n) ≡ false → left_at n octets conn ≡ []
left_apart conn n octets apart = ap (λ (b : Bool). if b then octets else []) apart

left_itself : (n : ℕ) (octets : List ℕ) → left_at n octets n ≡ octets
left_itself n octets = ap (λ (b : Bool). if b then octets else []) (eq-eqb n n refl)

leaves_octets : (link : Link) (octets : List ℕ) → link.broken ≡ false
    → LeavesOctets link (Hears octets) (left_at link.number octets) (left_at link.number (drop (used_of link.end.value octets) octets))
leaves_octets link octets whole = record {
  others = λ conn apart. left_apart conn link.number _ apart ∙ sym (left_apart conn link.number _ apart);
  this =
      left_itself link.number octets
      ∙ sym (take-append-drop (used_of link.end.value octets) octets)
      ∙ ap (λ (l : List ℕ). take (used_of link.end.value octets) octets ++ l) (sym (left_itself link.number (drop (used_of link.end.value octets) octets)));
  heard = inr whole;
}

-- what the clauses of an event at a link say
pub record HeardAt {T : Type 0} (entries : List KmacEntry) (moment : ℕ) (octets : List ℕ) (old now : Link) (desk after : Desk) (told told' : Told)
    (result : Result T LoopFault) : Type 0 where
  pub records : (r : Rules) → IsSameWith entries r (Hears octets) → Puts told told' (writes_of_entries (entry_at_link r moment old (Hears octets) ∷ [])) result
  pub occurs : (r : Rules) → IsSameWith entries r (Hears octets) → OnOk result (Occurs r moment (Hears octets) old now desk after)
  pub only : OnlyPrints told told'

module _ (on : KeptGoOnAlike) (by_model : OccursByTheModel) (stages : StagesGoOn) (run : ServiceRun) (beside : Beside) (rest : ToDo)
    (entries : List KmacEntry) (moment : ℕ) (octets : List ℕ) (links : List Link) (place : ℕ) (old : Link) (desk : Desk) (told : Told)
    (found : slice_get links place ≡ Some old) (whole : old.broken ≡ false) (at : beside.moment ≡ moment) (looks : key_at entries ≡ beside.finds) where
  abbrev rules : Rules
  rules = record { keys = entries; setup = 0 }

  pub octets_serve : (now : Link) (after : Desk) (told' : Told) (result : Result ℕ LoopFault)
      → HeardAt entries moment octets old now desk after told told' result
      → Serving run (pouring beside old.number octets)
      (and_then (occurs_then moment old.number (event.Octets (take (used_of old.end.value octets) octets))) rest) (scene told links desk)
      → ServesOn run (pouring beside old.number (drop (used_of old.end.value octets) octets)) rest (scene told' (slice_set links place now) after) result
  octets_serve now after told' result heard serving =
      let cut = at_place links place old now found in
      let left = pouring beside old.number (drop (used_of old.end.value octets) octets) in
      subst (λ (ls : List Link). ServesOn run left rest (scene told' ls after) result) (sym cut.is)
      (event_serves on by_model stages run (pouring beside old.number octets) rest moment rules (Hears octets) tt cut.front cut.back old desk told left.left at
      looks (leaves_octets old octets whole)
      (subst
      (λ (ls : List Link). Serving run (pouring beside old.number octets)
      (and_then (occurs_then moment old.number (event.Octets (take (used_of old.end.value octets) octets))) rest) (scene told ls desk))
      cut.was serving)
      now after told' result (heard.records rules refl) (heard.occurs rules refl) heard.only)

-- ---- how it ends

pub hears_broke : {F : Type 0} (P : F → Type 0) (run : ServiceRun) (beside : Beside) (link : Link) (octets : List ℕ) (x : Scene) (result : Result (Option ℕ) F)
    → IsErrAnd result P → ServesBy run x.told → HearsSome run beside link octets x result
hears_broke P run beside link octets x (Ok some) broke serves = absurd broke
hears_broke P run beside link octets x (Err fault) broke serves = serves

pub none_came : (octets : List ℕ) → (length octets == 0) ≡ true → octets ≡ []
none_came octets none = nil_from_length octets (eqb-true (length octets) 0 none)

pub some_octet : (octets : List ℕ) → (length octets == 0) ≡ false → Uses → (k : KEnd) → (0 < used_of k octets) × (used_of k octets ≤ length octets)
some_octet [] some uses k = absurd cc
some_octet (octet ∷ octets) some uses k =
    let one : 1 ≤ used_of k (octet ∷ octets) = uses.one k octet octets in
    (omega (arith, one), uses.most k (octet ∷ octets))

-- the link that is lent is the one at the place
pub lent_found : (links : List Link) (place : ℕ) (lent : Link) → place < length links → lent ≡ slice_index_or links place lent
    → slice_get links place ≡ Some lent
lent_found links place lent within is = slice_get-get_or links place lent within ∙ ap Some (sym is)

pub lent_is : (links : List Link) (place : ℕ) (link lent : Link) → slice_get links place ≡ Some link → lent ≡ slice_index_or links place lent → lent ≡ link
lent_is links place link lent found is = is ∙ get_or_from_slice_get links place link lent found

-- nothing came at it
pub set_itself : (links : List Link) (place : ℕ) (lent : Link) → lent ≡ slice_index_or links place lent → slice_set links place lent ≡ links
set_itself links place lent is = ap (slice_set links place) is ∙ set-get_or links place lent

pub numbers_behind : (links : List Link) (place : ℕ) (old now : Link) → slice_get links place ≡ Some old → now.number ≡ old.number
    → map number_of_link (slice_set links place now) ≡ map number_of_link links
numbers_behind links place old now found same =
    let cut = at_place links place old now found in
    ap (map number_of_link) cut.is ∙ numbers_alike cut.front cut.back old now same ∙ ap (map number_of_link) (sym cut.was)

-- ---- how it ends: nothing is left, or nothing is heard any more

module _ (run : ServiceRun) (deeds : List ServiceDeed) (beside : Beside) (n : ℕ) (octets : List ℕ) (none : beside.left ≡ none_left) where
  left_gone : (link : Link) → left_at n octets link.number ≡ [] → LinkIs run deeds (left_at n octets) link → LinkIs run deeds beside.left link
  left_gone link gone is = record {
    end = is.end;
    waits = is.waits;
    heard = λ whole.
        ap (λ (l : List ℕ). octets_heard_at link.number (items_in_service deeds) ++ l) (ap (λ (left : ℕ → List ℕ). left link.number) none ∙ sym gone)
        ∙ is.heard whole;
    brought = is.brought;
  }

  broken_is : (link : Link) → link.broken ≡ true → LinkIs run deeds (left_at n octets) link → LinkIs run deeds beside.left link
  broken_is link broken is = record { end = is.end; waits = is.waits; heard = λ whole. absurd cc; brought = is.brought }

  stands_beside : (x : Scene) → Standing run deeds (pouring beside n octets) x → All (LinkIs run deeds beside.left) x.links → Standing run deeds beside x
  stands_beside x stands each = record {
    each = each;
    known = stands.known;
    rise = stands.rise;
    below = stands.below;
    fresh = stands.fresh;
    desk = stands.desk;
    written = stands.written;
    moment = stands.moment;
    finds = stands.finds;
    keys = stands.keys;
    draining = stands.draining;
    opened = stands.opened;
    numbered = stands.numbered;
  }

none_at : (n conn : ℕ) → left_at n [] conn ≡ []
none_at n conn = elim (cases_Bool (conn == n)) [ inl this ↦ rw this refl | inr other ↦ rw other refl ]

-- all was heard
pub poured : (run : ServiceRun) (beside : Beside) (n : ℕ) (octets : List ℕ) (x : Scene) → octets ≡ [] → beside.left ≡ none_left
    → AtRest run (pouring beside n octets) x → AtRest run beside x
poured run beside n octets x empty none at_rest =
    let deeds = at_rest.serving.deeds in
    let gone = λ (link : Link). ap (λ (os : List ℕ). left_at n os link.number) empty ∙ none_at n link.number in
    record {
      serving = record {
        deeds = deeds;
        going = at_rest.serving.going;
        stands = stands_beside run deeds beside n octets none x at_rest.serving.stands
            (All-weaker (LinkIs run deeds (left_at n octets)) (LinkIs run deeds beside.left) (λ link. left_gone run deeds beside n octets none link (gone link))
            x.links at_rest.serving.stands.each);
      };
      rested = at_rest.rested;
    }

-- it broke off
pub poured_broken : (run : ServiceRun) (beside : Beside) (link : Link) (octets : List ℕ) (x : Scene) (place : ℕ) → slice_get x.links place ≡ Some link
    → link.broken ≡ true → beside.left ≡ none_left → AtRest run (pouring beside link.number octets) x → AtRest run beside x
poured_broken run beside link octets x place found broken none at_rest =
    let deeds = at_rest.serving.deeds in
    let stands = at_rest.serving.stands in
    let n = link.number in
    let P = LinkIs run deeds (left_at n octets) in
    let Q = LinkIs run deeds beside.left in
    let cut = at_place x.links place link link found in
    let rise = subst (λ (ls : List Link). RiseTo 0 (map number_of_link ls) beside.opened) cut.was stands.rise in
    let each =
    one_moves P Q n cut.front cut.back link link
    (λ l apart. left_gone run deeds beside n octets none l (left_apart l.number n octets apart)) (apart_before 0 beside.opened cut.front cut.back link rise)
    (apart_behind 0 beside.opened cut.front cut.back link rise) (broken_is run deeds beside n octets none link broken)
    (subst (λ (ls : List Link). All P ls) cut.was stands.each) in
    record {
      serving = record {
        deeds = deeds;
        going = at_rest.serving.going;
        stands = stands_beside run deeds beside n octets none x stands (subst (λ (ls : List Link). All Q ls) (sym cut.was) each);
      };
      rested = at_rest.rested;
    }

-- by what hearing none says
pub poured_so_far : (run : ServiceRun) (beside : Beside) (link : Link) (octets : List ℕ) (x : Scene) (place : ℕ) → slice_get x.links place ≡ Some link
    → beside.left ≡ none_left → AtRest run (pouring beside link.number octets) x × ((octets ≡ []) ⊎ (link.broken ≡ true)) → AtRest run beside x
poured_so_far run beside link octets x place found none (at_rest, inl empty) = poured run beside link.number octets x empty none at_rest
poured_so_far run beside link octets x place found none (at_rest, inr broken) = poured_broken run beside link octets x place found broken none at_rest
