-- A line of the application is answered, and behind it the messages that wait are taken.
use Rattle.std.proofs.Common.{refl, sym}
use Rattle.application_lines.specs.declared.application_line.ApplicationLine.TheVariants.{Asks, Faulty}
use Rattle.application_lines.specs.Notices.{Fault}
use Rattle.application_loop.specs.declared.live_service.LiveService.{LiveService}
use Rattle.application_loop.proofs.Happenings.{takes_then}
use Rattle.application_loop.proofs.RequestParts.{living_serves, resting_broke_off, lives_by_notice}
use Rattle.application_loop.proofs.LinesRead.{line_read}
use Rattle.application_loop.proofs.LinesAnswered.{line_whole, takes_to_rest}
use Rattle.application_loop.proofs.live_service.LiveService.answer_line.Goals as goal

pub returns-in_err-tell-in-Faulty : goal.returns-in_err-tell-in-Faulty
returns-in_err-tell-in-Faulty g c = record {
  answers = λ run living rested there.
      resting_broke_off _ _ _ c.from_residual.result c.from_residual.ensures.1 (living_serves living);
}

pub returns-in-Asks : goal.returns-in-Asks
returns-in-Asks g c = record {
  answers = λ run living rested there.
      c.do_request.ensures.does run
      (line_whole c.args.self.now.moment c.args.line (Asks c.in-Asks.request) (takes_then c.args.self.now.moment) c.in-Asks.is living) rested there;
}

pub returns-in_ok-tell-in-Faulty : goal.returns-in_ok-tell-in-Faulty
returns-in_ok-tell-in-Faulty g c = record {
  answers = λ run living rested there.
      let m = c.args.self.now.moment in
      let told : LiveService = record c.args.self.now { desk = record c.args.self.now.desk { port = c.tell.new.self } } in
      takes_to_rest _ (record told { links = c.take_waiting.new.self; desk = c.take_waiting.new.desk }) m c.when-when.result.moment
      c.take_waiting.result (sym c.when-when.ensures.moment) c.when-when.ensures.moment c.take_waiting.ensures.takes c.take_waiting.ensures.rests
      (record { keys = refl; held = refl; moment = refl; draining = refl; calls = refl })
      (lives_by_notice {old = c.args.self.now} {now = told} (takes_then m) (Fault c.in-Faulty.line c.in-Faulty.why)
      (record { port = c.in_ok-tell-in-Faulty.ensures.ok; opened = refl; connected = refl; messages = refl }) refl
      (record { keys = refl; held = refl; moment = refl; draining = refl; calls = refl })
      (line_read m (Faulty c.in-Faulty.line c.in-Faulty.why) (takes_then m) (λ s. refl) there
      (line_whole m c.args.line (Faulty c.in-Faulty.line c.in-Faulty.why) (takes_then m) c.in-Faulty.is living)));
}
