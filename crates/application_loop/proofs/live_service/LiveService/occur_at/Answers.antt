-- An event of the application at a connection that is live, or a line that tells that none is; and then the messages that wait are taken.
use Rattle.std.proofs.Common.{Ok, Err, refl, sym}
use Rattle.loop_session.specs.Giving.{event_given_to_session}
use Rattle.loop_session.specs.declared.loop_fault.LoopFault.{LoopFault}
use Rattle.application_loop.specs.Living.{Living}
use Rattle.application_loop.specs.declared.live_service.LiveService.{LiveService}
use Rattle.application_loop.proofs.Happenings.{takes_then}
use Rattle.application_loop.proofs.LinesAnswered.{takes_to_rest}
use Rattle.application_loop.proofs.RequestParts.{resting_broke_off, living_serves, lives_at_live, lives_by_gone}
use Rattle.application_loop.proofs.live_service.LiveService.occur_at.Goals as goal

pub returns-in_err-tell_gone : goal.returns-in_err-tell_gone
returns-in_err-tell_gone g c = record {
  occurs = λ what gives at without run living rested.
      resting_broke_off _ _ _ c.from_residual.result c.from_residual.ensures.1 (living_serves living);
}

pub returns-in_default : goal.returns-in_default
returns-in_default g c = record {
  occurs = λ what gives at without run living rested.
      let told : LiveService = record c.args.self.now { desk = c.tell_gone.new.self } in
      takes_to_rest _ (record told { links = c.take_waiting.new.self; desk = c.take_waiting.new.desk }) c.args.self.now.moment c.args.when.now.moment
      c.take_waiting.result (sym at) at c.take_waiting.ensures.takes c.take_waiting.ensures.rests
      (record { keys = refl; held = refl; moment = refl; draining = refl; calls = refl })
      (lives_by_gone {now = told} (takes_then c.args.self.now.moment) c.args.connection what (c.place_of.ensures.none c.in_default.is)
      c.in_ok-tell_gone.ensures.tells refl (record { keys = refl; held = refl; moment = refl; draining = refl; calls = refl }) living);
}

pub returns-in_err-occur : goal.returns-in_err-occur
returns-in_err-occur g c = record {
  occurs = λ what gives at without run living rested.
      resting_broke_off _ _ _ c.from_residual-in_err-occur.result c.from_residual-in_err-occur.ensures.1
      (lives_at_live {T = Unit {0}} {E = LoopFault} (g.O.Outside.told c.occur.new.outside) (record c.args.self.now { links = c.occur.new.self; desk = c.occur.new.desk }) (takes_then c.args.self.now.moment) c.in-Some.place
      c.args.connection c.args.when.now.moment what (event_given_to_session c.args.event.now) (Err c.in_err-occur.field-0.0)
      c.in-Some.ensures.found gives at (λ link is. c.in_err-occur.ensures.occurs link is without) (record { keys = refl; held = refl; moment = refl; draining = refl; calls = refl }) living);
}

pub returns : goal.returns
returns g c = record {
  occurs = λ what gives at without run living rested.
      let occurred : LiveService = record c.args.self.now { links = c.occur.new.self; desk = c.occur.new.desk } in
      let but = c.in_ok-occur.ensures.rests rested in
      let lives : Living run (g.O.Outside.told c.occur.new.outside) (takes_then c.args.self.now.moment) occurred =
      lives_at_live {T = Unit {0}} {E = LoopFault} (g.O.Outside.told c.occur.new.outside) occurred (takes_then c.args.self.now.moment) c.in-Some.place c.args.connection
      c.args.when.now.moment what (event_given_to_session c.args.event.now) (Ok c.in_ok-occur.field-0) c.in-Some.ensures.found gives at
      (λ link is. c.in_ok-occur.ensures.occurs link is without) (record { keys = refl; held = refl; moment = refl; draining = refl; calls = refl }) living in
      takes_to_rest {old = occurred} (g.O.Outside.told c.take_at.new.outside) (record occurred { links = c.take_at.new.self; desk = c.take_at.new.desk })
      c.args.self.now.moment c.args.when.now.moment c.take_at.result (sym at) at (c.take_at.ensures.takes but) (c.take_at.ensures.rests but)
      (record { keys = refl; held = refl; moment = refl; draining = refl; calls = refl }) lives;
}
