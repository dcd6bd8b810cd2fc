-- Where links stay as they are but for what is to be done at them next, all stands as before.
use Rattle.std.proofs.Common.{◌≡◌, ◌∙◌, ◌<◌, ℕ, zero, suc, List, [], ◌∷◌, ◌++◌, map, length, Option, Some, inl, inr, arith, refl, sym, ap, subst, slice_index_or, slice_set}
use Rattle.std.specs.Prelude.{option_map}
use Rattle.std.specs.List.{slice_get, All}
use Rattle.std.proofs.lemmas.List.{length-map, length-set, get_or-set_same}
use Rattle.std.proofs.lemmas.Option.{slice_get-get_or, slice_get_cases, slice_get_within, slice_get-map}
use Rattle.std.proofs.lemmas.List.Elements.{AllZip-get_or, length_all_zip}
use Rattle.er_end.specs.KeptEnds.{KEnd, waiting_in}
use Rattle.outside.specs.Doings.{Told}
use Rattle.application_model.specs.Ends.{KnownEnd}
use Rattle.application_model.specs.Claims.{RiseTo}
use Rattle.application_serving.specs.SeenOctets.{octets_given_to, octets_read_of, is_brought_in}
use Rattle.application_serving.specs.Serving.{ServiceDeed, acts_in_service, items_in_service, octets_told_at, octets_heard_at}
use Rattle.application_serving.specs.Going.{ServiceRun, ToDo, service_behind, held_behind}
use Rattle.application_loop.specs.StackSteps.{StandsBehind}
use Rattle.application_loop.specs.Standing.{Beside, scene, known_of_link, number_of_link, stage_by, LinkIs, Serving, AtRest}
use Rattle.application_loop.specs.Staying.{StaysAtLink, LinksStay}
use Rattle.application_loop.specs.declared.link.Link.{Link}
use Rattle.application_loop.specs.declared.desk.Desk.{Desk}

stays_itself : (link : Link) → StaysAtLink link link
stays_itself link = record { number = refl; end = refl; output = refl; peer = refl; broken = refl }

pub all_stay : (links : List Link) → LinksStay links links
all_stay [] = tt
all_stay (link ∷ links) = (stays_itself link, all_stay links)

-- one of them is set
stays_set : (links : List Link) (place : ℕ) (now : Link) → StaysAtLink (slice_index_or links place now) now → LinksStay links (slice_set links place now)
stays_set [] place now stays = tt
stays_set (link ∷ links) zero now stays = (stays, all_stay links)
stays_set (link ∷ links) (suc place) now stays = (stays_itself link, stays_set links place now stays)

pub one_stays : (links : List Link) (place : ℕ) (link now : Link) → place < length links → link ≡ slice_index_or links place now → StaysAtLink link now
    → LinksStay links (slice_set links place now)
one_stays links place link now within is stays = stays_set links place now (subst (λ (l : Link). StaysAtLink l now) is stays)

pub set_is_there : (links : List Link) (place : ℕ) (now : Link) → place < length links → slice_get (slice_set links place now) place ≡ Some now
set_is_there links place now within =
    slice_get-get_or (slice_set links place now) place now (subst (λ (n : ℕ). place < n) (sym (length-set links place now)) within)
    ∙ ap Some (get_or-set_same links place now now within)

known_stays : (old new : Link) → StaysAtLink old new → known_of_link new ≡ known_of_link old
known_stays old new stays =
    ap (λ (n : ℕ). record { number = n; stage = stage_by new.end.value.core.released new.peer }) stays.number
    ∙ ap (λ (k : KEnd). record { number = old.number; stage = stage_by k.core.released new.peer }) stays.end
    ∙ ap (λ (p : Option ℕ). record { number = old.number; stage = stage_by old.end.value.core.released p }) stays.peer

pub numbers_stay : (old new : List Link) → LinksStay old new → map number_of_link new ≡ map number_of_link old
numbers_stay [] [] stays = refl
numbers_stay [] (now ∷ new) stays = absurd stays
numbers_stay (link ∷ old) [] stays = absurd stays
numbers_stay (link ∷ old) (now ∷ new) (first, rest) =
    ap (λ (n : ℕ). n ∷ map number_of_link new) first.number ∙ ap (λ (ns : List ℕ). number_of_link link ∷ ns) (numbers_stay old new rest)

knowns_stay : (old new : List Link) → LinksStay old new → map known_of_link new ≡ map known_of_link old
knowns_stay [] [] stays = refl
knowns_stay [] (now ∷ new) stays = absurd stays
knowns_stay (link ∷ old) [] stays = absurd stays
knowns_stay (link ∷ old) (now ∷ new) (first, rest) =
    ap (λ (k : KnownEnd). k ∷ map known_of_link new) (known_stays link now first)
    ∙ ap (λ (ks : List KnownEnd). known_of_link link ∷ ks) (knowns_stay old new rest)

each_stays : (P : Link → Type 0) (old new : List Link) → LinksStay old new → ((link now : Link) → StaysAtLink link now → P link → P now) → All P old → All P new
each_stays P old new stay goes each place d within =
    let same = length_all_zip StaysAtLink old new stay in
    let before = subst (λ (n : ℕ). place < n) (sym same) within in
    goes (slice_index_or old place d) (slice_index_or new place d) (AllZip-get_or StaysAtLink old new place d d stay before) (each place d before)

link_stays : (run : ServiceRun) (deeds : List ServiceDeed) (left : ℕ → List ℕ) (old new : Link) → StaysAtLink old new → LinkIs run deeds left old
    → LinkIs run deeds left new
link_stays run deeds left old new stays is = record {
  end = λ later.
      subst (λ (n : ℕ). StandsBehind run.settings (held_behind run deeds later) ((service_behind deeds).ends n) new.end.value) (sym stays.number)
      (subst (StandsBehind run.settings (held_behind run deeds later) ((service_behind deeds).ends old.number)) (sym stays.end) (is.end later));
  waits = λ whole.
      subst (λ (n : ℕ). octets_told_at n (items_in_service deeds) ≡ octets_given_to n (acts_in_service deeds) ++ new.output.items) (sym stays.number)
      (is.waits (sym stays.broken ∙ whole) ∙ ap (λ (o : List ℕ). octets_given_to old.number (acts_in_service deeds) ++ o) (sym stays.output));
  heard = λ whole.
      subst (λ (n : ℕ). octets_heard_at n (items_in_service deeds) ++ left n ≡ octets_read_of n (acts_in_service deeds)) (sym stays.number)
      (is.heard (sym stays.broken ∙ whole));
  brought = ap (λ (n : ℕ). is_brought_in n (acts_in_service deeds)) stays.number ∙ is.brought;
}

pub serving_stays : (run : ServiceRun) (beside : Beside) (rest : ToDo) (told : Told) (old new : List Link) (desk : Desk) → LinksStay old new
    → Serving run beside rest (scene told old desk) → Serving run beside rest (scene told new desk)
serving_stays run beside rest told old new desk stay serving = record {
  deeds = serving.deeds;
  going = serving.going;
  stands = record {
    each = each_stays (LinkIs run serving.deeds beside.left) old new stay (link_stays run serving.deeds beside.left) serving.stands.each;
    known = serving.stands.known ∙ sym (knowns_stay old new stay);
    rise = subst (λ (n : List ℕ). RiseTo 0 n beside.opened) (sym (numbers_stay old new stay)) serving.stands.rise;
    below = serving.stands.below;
    fresh = serving.stands.fresh;
    desk = serving.stands.desk;
    written = serving.stands.written;
    moment = serving.stands.moment;
    finds = serving.stands.finds;
    keys = serving.stands.keys;
    draining = serving.stands.draining;
    opened = serving.stands.opened;
    numbered = serving.stands.numbered;
  };
}

pub rest_stays : (run : ServiceRun) (beside : Beside) (told : Told) (old new : List Link) (desk : Desk) → LinksStay old new
    → AtRest run beside (scene told old desk) → AtRest run beside (scene told new desk)
rest_stays run beside told old new desk stay at_rest = record {
  serving = serving_stays run beside (λ kind s. []) told old new desk stay at_rest.serving;
  rested = λ room.
      each_stays (λ (l : Link). waiting_in l.end.value ≡ []) old new stay (λ link now stays none. ap waiting_in stays.end ∙ none) (at_rest.rested room);
}

-- ---- the same connections are there

pub record IsSomeLink (links : List Link) (place : ℕ) : Type 0 where
  pub link : Link
  pub at : slice_get links place ≡ Some link

pub link_at : (links : List Link) (place : ℕ) → place < length links → IsSomeLink links place
link_at links place within =
    elim (slice_get_cases links place).1 [
      | inl (link, l, at, same) ↦ record { link = link; at = at }
      | inr (past, none) ↦ absurd (omega (arith, within, past))
    ]

pub same_length : (old new : List Link) → map number_of_link new ≡ map number_of_link old → length new ≡ length old
same_length old new same = sym (length-map new number_of_link) ∙ ap (λ (ns : List ℕ). length ns) same ∙ length-map old number_of_link

-- one of them, behind what left the numbers as they were
pub record IsStillThere (links : List Link) (place : ℕ) (old : Link) : Type 0 where
  pub link : Link
  pub at : slice_get links place ≡ Some link
  pub number : link.number ≡ old.number

same_some : (a b : ℕ) → Some a ≡ Some b → a ≡ b
same_some a b same = cc

pub still_there : (old new : List Link) (place : ℕ) (link : Link) → map number_of_link new ≡ map number_of_link old → slice_get old place ≡ Some link
    → IsStillThere new place link
still_there old new place link same found =
    let within = slice_get_within old place link found in
    let there = link_at new place (subst (λ (n : ℕ). place < n) (sym (same_length old new same)) within) in
    record {
      link = there.link;
      at = there.at;
      number = same_some there.link.number link.number
          (ap (option_map number_of_link) (sym there.at)
          ∙ sym (slice_get-map number_of_link new place)
          ∙ ap (λ (ns : List ℕ). slice_get ns place) same
          ∙ slice_get-map number_of_link old place
          ∙ ap (option_map number_of_link) found);
    }
