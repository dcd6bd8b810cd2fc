-- It listens and dials, and does the turns.
use Rattle.std.proofs.Common.{refl}
use Rattle.safety_automaton.specs.Pairs.{pair_entries}
use Rattle.application_serving.specs.Serving.{found_in_entries}
use Rattle.application_serving.specs.Going.{ServiceRun}
use Rattle.application_loop.proofs.Starts.{serves_or, one_serves, called_serves, call_header_broke, begins_dialled}
use Rattle.application_loop.proofs.service.call.Goals as goal

pub returns-in_err-listen : goal.returns-in_err-listen
returns-in_err-listen g c =
    record {
      serves = λ unused calls none.
          let run : ServiceRun = record {
            settings = c.args.plan.now.settings;
            start = found_in_entries (pair_entries c.args.pair.now);
            before = g.O.Outside.told c.args.outside.now;
          } in
          one_serves run _ c.args.plan.now.application.now _ c.listen.ensures.does;
    }

pub returns-in-Err : goal.returns-in-Err
returns-in-Err g c =
    record {
      serves = λ unused calls none.
          let run : ServiceRun = record {
            settings = c.args.plan.now.settings;
            start = found_in_entries (pair_entries c.args.pair.now);
            before = g.O.Outside.told c.args.outside.now;
          } in
          called_serves run _ c.args.plan.now.application.now _ c.listen.ensures.does _ c.args.plan.now.address.now _ c.dial.ensures.does;
    }

pub returns-in_err-write_header : goal.returns-in_err-write_header
returns-in_err-write_header g c =
    record {
      serves = λ unused calls none.
          let run : ServiceRun = record {
            settings = c.args.plan.now.settings;
            start = found_in_entries (pair_entries c.args.pair.now);
            before = g.O.Outside.told c.args.outside.now;
          } in
          call_header_broke run _ c.args.plan.now.application.now _ c.listen.ensures.does _ c.args.plan.now.address.now _ c.in-Ok.ensures.does _ _
          c.in_err-write_header.ensures.puts;
    }

pub returns-in_err-call : goal.returns-in_err-call
returns-in_err-call g c =
    record {
      serves = λ unused calls none.
          let run : ServiceRun = record {
            settings = c.args.plan.now.settings;
            start = found_in_entries (pair_entries c.args.pair.now);
            before = g.O.Outside.told c.args.outside.now;
          } in
          c.in_err-call.ensures.calls run refl unused.keys
          (begins_dialled run _ c.args.plan.now.application.now _ c.listen.ensures.does _ c.args.plan.now.address.now _ c.in-Ok.ensures.does _
          c.in_ok-write_header.ensures.puts c.args.live.now (pair_entries c.args.pair.now) unused calls none c.in-Ok.ensures.number refl);
    }

pub returns : goal.returns
returns g c =
    record {
      serves = λ unused calls none.
          let run : ServiceRun = record {
            settings = c.args.plan.now.settings;
            start = found_in_entries (pair_entries c.args.pair.now);
            before = g.O.Outside.told c.args.outside.now;
          } in
          serves_or run _ _ c.run.result
          (c.run.ensures.rests run refl
          (c.in_ok-call.ensures.calls run refl unused.keys
          (begins_dialled run _ c.args.plan.now.application.now _ c.listen.ensures.does _ c.args.plan.now.address.now _ c.in-Ok.ensures.does _
          c.in_ok-write_header.ensures.puts c.args.live.now (pair_entries c.args.pair.now) unused calls none c.in-Ok.ensures.number refl)));
    }
