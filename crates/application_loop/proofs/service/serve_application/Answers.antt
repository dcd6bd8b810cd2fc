-- As a radio block centre.
use Rattle.application_serving.specs.Serving.{found_in_entries}
use Rattle.application_serving.specs.GoingSteps.{going_start, serves_of_going}
use Rattle.application_loop.proofs.service.serve_application.Goals as goal

pub returns-in_err-live : goal.returns-in_err-live
returns-in_err-live g c =
    record {
      serves = λ none.
          serves_of_going
          (going_start
          (record { settings = c.args.plan.now.settings; start = found_in_entries c.args.keys; before = g.O.Outside.told c.args.outside.now }));
    }
