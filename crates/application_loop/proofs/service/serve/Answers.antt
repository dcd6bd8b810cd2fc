-- It listens, and does the turns.
use Rattle.std.proofs.Common.{refl}
use Rattle.application_serving.specs.Serving.{found_in_entries}
use Rattle.application_serving.specs.Going.{ServiceRun}
use Rattle.application_loop.proofs.Starts.{serves_or, one_serves, both_serve, header_broke, begins_resting}
use Rattle.application_loop.proofs.service.serve.Goals as goal

pub returns-in_err-listen : goal.returns-in_err-listen
returns-in_err-listen g c =
    record {
      serves = λ keys unused calls none.
          let run : ServiceRun = record { settings = c.args.plan.now.settings; start = found_in_entries keys; before = g.O.Outside.told c.args.outside.now } in
          one_serves run _ c.args.plan.now.application.now _ c.listen.ensures.does;
    }

pub returns-in_err-listen-2 : goal.returns-in_err-listen-2
returns-in_err-listen-2 g c =
    record {
      serves = λ keys unused calls none.
          let run : ServiceRun = record { settings = c.args.plan.now.settings; start = found_in_entries keys; before = g.O.Outside.told c.args.outside.now } in
          both_serve run _ c.args.plan.now.application.now _ c.listen.ensures.does _ c.args.plan.now.address.now _ c.listen-2.ensures.does;
    }

pub returns-in_err-write_header : goal.returns-in_err-write_header
returns-in_err-write_header g c =
    record {
      serves = λ keys unused calls none.
          let run : ServiceRun = record { settings = c.args.plan.now.settings; start = found_in_entries keys; before = g.O.Outside.told c.args.outside.now } in
          header_broke run _ c.args.plan.now.application.now _ c.listen.ensures.does _ c.args.plan.now.address.now _ c.listen-2.ensures.does _ _
          c.in_err-write_header.ensures.puts;
    }

pub returns : goal.returns
returns g c =
    record {
      serves = λ keys unused calls none.
          let run : ServiceRun = record { settings = c.args.plan.now.settings; start = found_in_entries keys; before = g.O.Outside.told c.args.outside.now } in
          serves_or run _ _ c.run.result
          (c.run.ensures.rests run refl
          (begins_resting run _ c.args.plan.now.application.now _ c.listen.ensures.does _ c.args.plan.now.address.now _ c.listen-2.ensures.does _ c.args.live.now
          keys c.in_ok-write_header.ensures.puts unused calls none refl));
    }
