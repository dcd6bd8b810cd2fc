-- An application came.
use Rattle.std.proofs.Common.{◌∙◌, ℕ, refl, sym, subst}
use Rattle.application_serving.specs.Going.{nothing_to_do, Going}
use Rattle.application_serving.specs.GoingSteps.{going_and_nothing}
use Rattle.application_loop.proofs.Turns.{broke_resting}
use Rattle.application_loop.proofs.Happenings.{takes_then, befell}
use Rattle.application_loop.proofs.LivingParts.{beside_live, besides_same, resting_of}
use Rattle.application_loop.proofs.live_service.LiveService.meet_application.Goals as goal

pub returns-in_err-introduce : goal.returns-in_err-introduce
returns-in_err-introduce g c =
    record {
      meets = λ run moment living.
          broke_resting _ run _ _ c.from_residual.result c.from_residual.ensures.1
          (c.in_err-introduce.ensures _ c.args.self.now.moment run living.beside (takes_then c.args.self.now.moment) living.moment living.serving);
    }

pub returns : goal.returns
returns g c =
    record {
      meets = λ run moment living.
          let on = c.in_ok-introduce.ensures _ c.args.self.now.moment run living.beside (takes_then c.args.self.now.moment) living.moment living.serving in
          let going = going_and_nothing (subst (λ (m : ℕ). Going run (g.O.Outside.told c.args.outside.now) on.deeds (takes_then m)) (sym moment) on.going) in
          resting_of run _ _ living.beside c.take_waiting.result (besides_same living.beside c.args.self.now _ (beside_live living) refl refl refl refl refl)
          (befell run living.beside _ c.take_waiting.result
          (c.take_waiting.ensures.takes run living.beside nothing_to_do (living.moment ∙ sym moment)
          (record { deeds = on.deeds; going = going; stands = on.leaves }))
          c.take_waiting.ensures.rests);
    }
