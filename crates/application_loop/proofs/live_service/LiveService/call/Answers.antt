-- The one connection of a call was opened.
use Rattle.std.proofs.Common.{ℕ, ◌≤◌, refl, sym, ap, subst, ◌∙◌}
use Rattle.er_end_model.specs.Ends as model
use Rattle.er_end.specs.KeptEnds.{kept_opened}
use Rattle.loop_model.specs.Sessions.{Begins}
use Rattle.application_serving.specs.Going.{nothing_to_do}
use Rattle.application_loop.proofs.Calls.{dialled_here, same_keys_here, dialled_serves, call_broke, call_serves, called, at_when, living_called, rules}
use Rattle.application_loop.proofs.Openers.{new_link_of}
use Rattle.application_loop.proofs.Turns.{broke_resting}
use Rattle.application_loop.proofs.live_service.LiveService.call.Goals as goal

pub returns-in_err-end : goal.returns-in_err-end
returns-in_err-end g c =
    record {
      calls = λ run same keys dialled.
          let here =
          dialled_here _ _ _ c.args.self.now c.see_moment.new.self c.calling_end.new.self c.args.number c.word-rb.result c.see_moment.ensures.sees
          c.word-rb.ensures.does c.in_err-end.ensures.only dialled in
          broke_resting _ run _ _ c.from_residual.result c.from_residual.ensures.1 (dialled_serves here);
    }

pub returns-in_err-occur : goal.returns-in_err-occur
returns-in_err-occur g c =
    record {
      calls = λ run same keys dialled.
          let here =
          dialled_here _ _ _ c.args.self.now c.see_moment.new.self c.calling_end.new.self c.args.number c.word-rb.result c.see_moment.ensures.sees
          c.word-rb.ensures.does c.in_ok-end.ensures.only dialled in
          let found = same_keys_here _ _ c.args.self.now c.see_moment.new.self c.calling_end.new.self _ c.see_moment.ensures.sees c.in_ok-end.ensures.only keys in
          let new =
          new_link_of c.args.number c.in_ok-end.end.value _ c.new-link.result (c.in_ok-end.ensures.end
          ∙ ap (λ (m : ℕ). kept_opened (model.Call c.args.plan.now.settings c.args.pair.now.engine c.args.pair.now.rbc c.args.pair.now.kmac c.word-rb.result m))
          (sym c.in_ok-end.ensures.only.moment)) c.new-link.ensures in
          let given =
          ap (λ (e : ℕ). Begins e c.rbc.result c.word-rb.result) c.engine.ensures
          ∙ ap (λ (b : ℕ). Begins c.args.pair.now.engine b c.word-rb.result) c.rbc.ensures in
          let within = subst (λ (n : ℕ). n ≤ 1000000000000000) c.get-at.ensures.same c.get-at.ensures.within in
          broke_resting _ run _ _ c.from_residual-in_err-occur.result c.from_residual-in_err-occur.ensures.1
          (call_broke _ c.calling_end.new.self c.args.number c.ranges.number.fits within here c.opens_calls.ensures.calls c.opens_calls.ensures.stages
          c.opens_calls.ensures.made c.args.plan.now.settings same c.see_settings.ensures c.args.pair.now found c.word-rb.result c.new-link.result new _ c.when-when.ensures.moment _ given _ _
          (c.in_err-occur.ensures.records (rules) refl));
    }

pub returns-in_err-add : goal.returns-in_err-add
returns-in_err-add g c =
    record {
      calls = λ run same keys dialled.
          let here =
          dialled_here _ _ _ c.args.self.now c.see_moment.new.self c.calling_end.new.self c.args.number c.word-rb.result c.see_moment.ensures.sees
          c.word-rb.ensures.does c.in_ok-end.ensures.only dialled in
          let found = same_keys_here _ _ c.args.self.now c.see_moment.new.self c.calling_end.new.self _ c.see_moment.ensures.sees c.in_ok-end.ensures.only keys in
          let new =
          new_link_of c.args.number c.in_ok-end.end.value _ c.new-link.result (c.in_ok-end.ensures.end
          ∙ ap (λ (m : ℕ). kept_opened (model.Call c.args.plan.now.settings c.args.pair.now.engine c.args.pair.now.rbc c.args.pair.now.kmac c.word-rb.result m))
          (sym c.in_ok-end.ensures.only.moment)) c.new-link.ensures in
          let given =
          ap (λ (e : ℕ). Begins e c.rbc.result c.word-rb.result) c.engine.ensures
          ∙ ap (λ (b : ℕ). Begins c.args.pair.now.engine b c.word-rb.result) c.rbc.ensures in
          let within = subst (λ (n : ℕ). n ≤ 1000000000000000) c.get-at.ensures.same c.get-at.ensures.within in
          broke_resting _ run _ _ c.from_residual-in_err-add.result c.from_residual-in_err-add.ensures.1
          (call_serves _ c.calling_end.new.self c.args.number c.ranges.number.fits within here c.opens_calls.ensures.calls c.opens_calls.ensures.stages
          c.opens_calls.ensures.made c.args.plan.now.settings same c.see_settings.ensures c.args.pair.now found c.word-rb.result c.new-link.result new _ c.when-when.ensures.moment _ given _
          (c.in_ok-occur.ensures.records (rules) refl));
    }

pub returns-in_err-take_waiting : goal.returns-in_err-take_waiting
returns-in_err-take_waiting g c =
    record {
      calls = λ run same keys dialled.
          let here =
          dialled_here _ _ _ c.args.self.now c.see_moment.new.self c.calling_end.new.self c.args.number c.word-rb.result c.see_moment.ensures.sees
          c.word-rb.ensures.does c.in_ok-end.ensures.only dialled in
          let found = same_keys_here _ _ c.args.self.now c.see_moment.new.self c.calling_end.new.self _ c.see_moment.ensures.sees c.in_ok-end.ensures.only keys in
          let new =
          new_link_of c.args.number c.in_ok-end.end.value _ c.new-link.result (c.in_ok-end.ensures.end
          ∙ ap (λ (m : ℕ). kept_opened (model.Call c.args.plan.now.settings c.args.pair.now.engine c.args.pair.now.rbc c.args.pair.now.kmac c.word-rb.result m))
          (sym c.in_ok-end.ensures.only.moment)) c.new-link.ensures in
          let given =
          ap (λ (e : ℕ). Begins e c.rbc.result c.word-rb.result) c.engine.ensures
          ∙ ap (λ (b : ℕ). Begins c.args.pair.now.engine b c.word-rb.result) c.rbc.ensures in
          let within = subst (λ (n : ℕ). n ≤ 1000000000000000) c.get-at.ensures.same c.get-at.ensures.within in
          let stands =
          called _ c.calling_end.new.self c.args.number c.ranges.number.fits within here c.opens_calls.ensures.calls c.opens_calls.ensures.stages
          c.opens_calls.ensures.made c.args.plan.now.settings same c.see_settings.ensures c.args.pair.now found c.word-rb.result c.new-link.result new _ c.when-when.ensures.moment _ given _ _ c.occur.new.self
          c.occur.new.desk c.count_opened.new.self (c.in_ok-occur.ensures.records rules refl) (c.in_ok-occur.ensures.occurs rules refl)
          c.count_opened.ensures c.in_ok-add.ensures in
          let moment =
          at_when _ c.calling_end.new.self c.args.number c.ranges.number.fits within here c.opens_calls.ensures.calls c.opens_calls.ensures.stages
          c.opens_calls.ensures.made c.args.plan.now.settings same c.see_settings.ensures c.args.pair.now found c.word-rb.result c.new-link.result new _ c.when-when.ensures.moment in
          broke_resting _ run _ _ c.from_residual-in_err-take_waiting.result c.from_residual-in_err-take_waiting.ensures.1
          (c.in_err-take_waiting.ensures.takes run _ nothing_to_do moment stands);
    }

pub returns : goal.returns
returns g c =
    record {
      calls = λ run same keys dialled.
          let here =
          dialled_here _ _ _ c.args.self.now c.see_moment.new.self c.calling_end.new.self c.args.number c.word-rb.result c.see_moment.ensures.sees
          c.word-rb.ensures.does c.in_ok-end.ensures.only dialled in
          let found = same_keys_here _ _ c.args.self.now c.see_moment.new.self c.calling_end.new.self _ c.see_moment.ensures.sees c.in_ok-end.ensures.only keys in
          let new =
          new_link_of c.args.number c.in_ok-end.end.value _ c.new-link.result (c.in_ok-end.ensures.end
          ∙ ap (λ (m : ℕ). kept_opened (model.Call c.args.plan.now.settings c.args.pair.now.engine c.args.pair.now.rbc c.args.pair.now.kmac c.word-rb.result m))
          (sym c.in_ok-end.ensures.only.moment)) c.new-link.ensures in
          let given =
          ap (λ (e : ℕ). Begins e c.rbc.result c.word-rb.result) c.engine.ensures
          ∙ ap (λ (b : ℕ). Begins c.args.pair.now.engine b c.word-rb.result) c.rbc.ensures in
          let within = subst (λ (n : ℕ). n ≤ 1000000000000000) c.get-at.ensures.same c.get-at.ensures.within in
          let stands =
          called _ c.calling_end.new.self c.args.number c.ranges.number.fits within here c.opens_calls.ensures.calls c.opens_calls.ensures.stages
          c.opens_calls.ensures.made c.args.plan.now.settings same c.see_settings.ensures c.args.pair.now found c.word-rb.result c.new-link.result new _ c.when-when.ensures.moment _ given _ _ c.occur.new.self
          c.occur.new.desk c.count_opened.new.self (c.in_ok-occur.ensures.records rules refl) (c.in_ok-occur.ensures.occurs rules refl)
          c.count_opened.ensures c.in_ok-add.ensures in
          let moment =
          at_when _ c.calling_end.new.self c.args.number c.ranges.number.fits within here c.opens_calls.ensures.calls c.opens_calls.ensures.stages
          c.opens_calls.ensures.made c.args.plan.now.settings same c.see_settings.ensures c.args.pair.now found c.word-rb.result c.new-link.result new _ c.when-when.ensures.moment in
          let took = c.in_ok-take_waiting.ensures.takes run _ nothing_to_do moment stands in
          c.settle.ensures.rests run
          (living_called _ c.calling_end.new.self c.args.number c.ranges.number.fits within here c.opens_calls.ensures.calls c.opens_calls.ensures.stages
          c.opens_calls.ensures.made c.args.plan.now.settings same c.see_settings.ensures c.args.pair.now found c.word-rb.result c.new-link.result new _ _ refl refl refl refl refl
          (record { deeds = took.deeds; going = took.going; stands = took.leaves }) c.in_ok-take_waiting.ensures.rests);
    }
