-- A connection gets an end that answers.
use Rattle.std.proofs.Common.{ℕ, refl, sym, ap, ◌∙◌}
use Rattle.er_end_model.specs.Ends as model
use Rattle.er_end.specs.KeptEnds.{kept_opened}
use Rattle.application_loop.proofs.Openers.{answer_rests, answer_broke, answer_serves, new_link_of}
use Rattle.application_loop.proofs.Turns.{broke_resting, coming_alike, accepts_alike}
use Rattle.application_loop.proofs.live_service.LiveService.answer.Goals as goal

pub returns-in_default : goal.returns-in_default
returns-in_default g c =
    record {
      opens = λ run same coming accepts.
          c.turn_away.ensures.opens run (coming_alike _ c.args.self.now c.answering_end.new.self c.args.number c.in_default.ensures.only coming)
          (accepts_alike c.args.self.now c.answering_end.new.self c.in_default.ensures.only accepts);
    }

pub returns-in_err-write_event : goal.returns-in_err-write_event
returns-in_err-write_event g c =
    record {
      opens = λ run same coming accepts.
          let here = coming_alike _ c.args.self.now c.answering_end.new.self c.args.number c.in-Ok.ensures.only coming in
          let open_yet = accepts_alike c.args.self.now c.answering_end.new.self c.in-Ok.ensures.only accepts in
          broke_resting _ run _ _ c.from_residual.result c.from_residual.ensures.1
          (answer_broke _ c.answering_end.new.self c.args.number c.ranges.number.fits here open_yet c.kept_ends_tell_alike.ensures.answers
          c.args.plan.now.settings same c.see_settings.ensures c.args.plan.now.rbc c.args.ra _ _ c.in_err-write_event.ensures.puts);
    }

pub returns-in_err-add : goal.returns-in_err-add
returns-in_err-add g c =
    record {
      opens = λ run same coming accepts.
          let here = coming_alike _ c.args.self.now c.answering_end.new.self c.args.number c.in-Ok.ensures.only coming in
          let open_yet = accepts_alike c.args.self.now c.answering_end.new.self c.in-Ok.ensures.only accepts in
          broke_resting _ run _ _ c.from_residual-in_err-add.result c.from_residual-in_err-add.ensures.1
          (answer_serves _ c.answering_end.new.self c.args.number c.ranges.number.fits here open_yet c.kept_ends_tell_alike.ensures.answers
          c.args.plan.now.settings same c.see_settings.ensures c.args.plan.now.rbc c.args.ra _ c.in_ok-write_event.ensures.puts);
    }

pub returns : goal.returns
returns g c =
    record {
      opens = λ run same coming accepts.
          let here = coming_alike _ c.args.self.now c.answering_end.new.self c.args.number c.in-Ok.ensures.only coming in
          let open_yet = accepts_alike c.args.self.now c.answering_end.new.self c.in-Ok.ensures.only accepts in
          answer_rests _ c.answering_end.new.self c.args.number c.ranges.number.fits here open_yet c.kept_ends_tell_alike.ensures.answers
          c.args.plan.now.settings same c.see_settings.ensures c.args.plan.now.rbc c.args.ra _ _ c.new.result c.in_ok-write_event.ensures.puts
          (new_link_of c.args.number c.in-Ok.end.value _ c.new.result (c.in-Ok.ensures.end
          ∙ ap (λ (m : ℕ). kept_opened (model.Answer c.args.plan.now.settings c.args.plan.now.rbc c.args.ra m)) (sym c.in-Ok.ensures.only.moment)) c.new.ensures)
          (record { desk = c.count_opened.ensures; held = refl; keys = refl; moment = refl; draining = refl; calls = refl })
          c.in_ok-add.ensures;
    }
