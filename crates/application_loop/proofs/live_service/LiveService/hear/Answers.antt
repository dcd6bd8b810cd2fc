-- What is read of a connection comes to its end.
use Rattle.std.proofs.Common.{◌∙◌, ℕ, List, refl, sym, ap, subst}
use Rattle.safety_automaton.specs.Keys.{key_at}
use Rattle.application_loop.specs.Standing.{AtRest, pouring}
use Rattle.application_loop.specs.Living.{entries_for_service, scene_of_live}
use Rattle.application_loop.specs.Turning.{HasRead}
use Rattle.application_loop.proofs.LivingParts.{beside_live, at_rest, resting_of, besides_same}
use Rattle.application_loop.proofs.live_service.LiveService.hear.Goals as goal

pub returns-in-File : goal.returns-in-File
returns-in-File g c =
    record {
      hears = λ run link at moment has.
          let pours = subst (HasRead run (g.O.Outside.told c.args.outside.now) c.args.self.now link.number) c.in-Some.is has in
          let waits =
          subst (λ (o : List ℕ). AtRest run (pouring pours.beside link.number o) (scene_of_live (g.O.Outside.told c.args.outside.now) c.args.self.now)) (sym c.front-octets.ensures.front) pours.rests in
          resting_of run _ _ pours.beside c.pour.result (besides_same pours.beside c.args.self.now _ pours.is refl refl refl refl refl)
          (c.pour.ensures.pours link run pours.beside at (pours.is.moment ∙ sym moment)
          (sym (pours.is.finds ∙ ap (λ k. key_at (entries_for_service k)) c.in-File.is)) pours.is.left waits);
    }

pub returns-in-Pair : goal.returns-in-Pair
returns-in-Pair g c =
    record {
      hears = λ run link at moment has.
          let pours = subst (HasRead run (g.O.Outside.told c.args.outside.now) c.args.self.now link.number) c.in-Some.is has in
          let waits =
          subst (λ (o : List ℕ). AtRest run (pouring pours.beside link.number o) (scene_of_live (g.O.Outside.told c.args.outside.now) c.args.self.now)) (sym c.front-octets.ensures.front) pours.rests in
          resting_of run _ _ pours.beside c.pour-in-Pair.result (besides_same pours.beside c.args.self.now _ pours.is refl refl refl refl refl)
          (c.pour-in-Pair.ensures.pours link run pours.beside at (pours.is.moment ∙ sym moment)
          (sym (pours.is.finds ∙ ap (λ k. key_at (entries_for_service k)) c.in-Pair.is)) pours.is.left waits);
    }

pub returns-in-End : goal.returns-in-End
returns-in-End g c =
    record {
      hears = λ run link at moment has.
          let resting = subst (HasRead run (g.O.Outside.told c.args.outside.now) c.args.self.now link.number) c.in-End.is has in
          resting_of run _ _ resting.living.beside c.befall.result
          (besides_same resting.living.beside c.args.self.now _ (beside_live resting.living) refl refl refl refl refl)
          (c.befall.ensures.serves link at tt run resting.living.beside (resting.living.moment ∙ sym moment) (at_rest resting));
    }

pub returns-in-Failed : goal.returns-in-Failed
returns-in-Failed g c =
    record {
      hears = λ run link at moment has.
          let resting = subst (HasRead run (g.O.Outside.told c.args.outside.now) c.args.self.now link.number) c.in-Failed.is has in
          resting_of run _ _ resting.living.beside c.befall-in-Failed.result
          (besides_same resting.living.beside c.args.self.now _ (beside_live resting.living) refl refl refl refl refl)
          (c.befall-in-Failed.ensures.serves link at tt run resting.living.beside (resting.living.moment ∙ sym moment) (at_rest resting));
    }
