-- All ends that aren't released are, one after the other.
use Rattle.std.proofs.Common.{◌≡◌, ◌∙◌, ◌<◌, ◌+◌, ℕ, true, false, not, List, [], ◌∷◌, ◌++◌, map, length, drop, Option, Some, None, refl, sym, ap, is_some}
use Rattle.std.specs.List.{slice_get}
use Rattle.std.proofs.lemmas.Option.{get_or_from_slice_get}
use Rattle.er_base.specs.declared.release.Release.{Release}
use Rattle.er_trace.specs.declared.event.Event.TheVariants as event
use Rattle.application_model.specs.Ends.{KnownEnd, number_unless_parted, numbers_unparted}
use Rattle.application_model.specs.Services.{releases_all}
use Rattle.application_serving.specs.Going.{ServiceRun, ToDo, and_then, service_behind, kind_behind}
use Rattle.application_serving.specs.ModelSteps.{releases_none, releases_one}
use Rattle.application_serving.specs.GoingSteps.{going_past, going_first_as, going_regrouped}
use Rattle.application_loop.specs.Standing.{Beside, Scene, known_of_link, stage_by, Serving}
use Rattle.application_loop.specs.declared.link.Link.{Link}
use Rattle.application_loop.proofs.Happenings.{occurs_then}
use Rattle.application_loop.proofs.Staying.{link_at}
use Rattle.application_loop.proofs.Introducing.{one_visited}

-- those of these connections that aren't released
abbrev pub unparted : List Link → List ℕ
unparted links = numbers_unparted (map known_of_link links)

abbrev pub releases : ℕ → List Link → ToDo
releases moment links kind s = releases_all kind moment (unparted links) s

pub releases_begins : {run : ServiceRun} {beside : Beside} {x : Scene} (rest : ToDo) (moment : ℕ)
    → Serving run beside (and_then (λ kind s. releases_all kind moment (numbers_unparted s.known) s) rest) x
    → Serving run beside (and_then (releases moment x.links) rest) x
releases_begins {run = run} {x = x} rest moment serving = record {
  deeds = serving.deeds;
  going = going_first_as (λ kind s. releases_all kind moment (numbers_unparted s.known) s) (releases moment x.links) rest serving.going
      (λ later.
      ap (λ (k : List KnownEnd). releases_all (kind_behind run serving.deeds later) moment (numbers_unparted k) (service_behind serving.deeds))
      serving.stands.known);
  stands = serving.stands;
}

-- ---- by whether an end is released

stage_going : (number : ℕ) (released : Option Release) (peer : Option ℕ) → true ≡ not (is_some released)
    → number_unless_parted number (stage_by released peer) ≡ number ∷ []
stage_going number (Some why) peer heard = absurd cc
stage_going number None (Some peer) heard = refl
stage_going number None None heard = refl

stage_parted : (number : ℕ) (released : Option Release) (peer : Option ℕ) → false ≡ not (is_some released)
    → number_unless_parted number (stage_by released peer) ≡ []
stage_parted number (Some why) peer parted = refl
stage_parted number None peer parted = absurd cc

-- ---- the next one

-- one link more is visited, which stands as it did at the start
pub record Visits (links now : List Link) (place : ℕ) : Type 0 where
  pub link : Link
  pub at : slice_get now place ≡ Some link
  pub is : drop place links ≡ link ∷ drop (place + 1) links

pub visits : (links now : List Link) (place : ℕ) → place < length links → slice_get now place ≡ slice_get links place → Visits links now place
visits links now place within same =
    let there = link_at links place within in
    record {
      link = there.link;
      at = same ∙ there.at;
      is = one_visited links place there.link within (sym (get_or_from_slice_get links place there.link there.link there.at));
    }

module _ {run : ServiceRun} {beside : Beside} {x : Scene} (rest : ToDo) (moment : ℕ) (links now : List Link) (place : ℕ) (v : Visits links now place)
    (serving : Serving run beside (and_then (releases moment (drop place links)) rest) x) where
  abbrev more : List Link
  more = drop (place + 1) links

  -- it isn't released: it is, and then the others
  pub release_next : true ≡ not (is_some v.link.end.value.core.released)
      → Serving run beside (and_then (occurs_then moment v.link.number (event.Release 0)) (and_then (releases moment more) rest)) x
  release_next heard =
      let first = occurs_then moment v.link.number (event.Release 0) in
      let same : unparted (drop place links) ≡ v.link.number ∷ unparted more =
      ap unparted v.is ∙ ap (λ (ns : List ℕ). ns ++ unparted more) (stage_going v.link.number v.link.end.value.core.released v.link.peer heard) in
      record {
        deeds = serving.deeds;
        going = going_regrouped first (releases moment more) rest
            (going_first_as (releases moment (drop place links)) (and_then first (releases moment more)) rest serving.going
            (λ later.
            ap (λ (ns : List ℕ). releases_all (kind_behind run serving.deeds later) moment ns (service_behind serving.deeds)) same
            ∙ releases_one (kind_behind run serving.deeds later) moment v.link.number (unparted more) (service_behind serving.deeds)));
        stands = serving.stands;
      }

  -- it is released
  pub release_past : false ≡ not (is_some v.link.end.value.core.released) → Serving run beside (and_then (releases moment more) rest) x
  release_past parted =
      let same : unparted (drop place links) ≡ unparted more =
      ap unparted v.is ∙ ap (λ (ns : List ℕ). ns ++ unparted more) (stage_parted v.link.number v.link.end.value.core.released v.link.peer parted) in
      record {
        deeds = serving.deeds;
        going = going_first_as (releases moment (drop place links)) (releases moment more) rest serving.going
            (λ later. ap (λ (ns : List ℕ). releases_all (kind_behind run serving.deeds later) moment ns (service_behind serving.deeds)) same);
        stands = serving.stands;
      }

pub releases_ends : {run : ServiceRun} {beside : Beside} {x : Scene} (rest : ToDo) (moment : ℕ) → Serving run beside (and_then (releases moment []) rest) x
    → Serving run beside rest x
releases_ends {run = run} rest moment serving = record {
  deeds = serving.deeds;
  going = going_past (releases moment []) rest serving.going
      (λ later. releases_none (kind_behind run serving.deeds later) moment (service_behind serving.deeds));
  stands = serving.stands;
}
