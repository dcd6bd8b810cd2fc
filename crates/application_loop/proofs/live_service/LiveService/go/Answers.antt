-- One turn, with what comes before and behind it.
use Rattle.application_loop.proofs.Turns.{resting_seen, brought_seen, broke_resting, rests_or}
use Rattle.application_loop.proofs.live_service.LiveService.go.Goals as goal

pub returns-in_err-do_due : goal.returns-in_err-do_due
returns-in_err-do_due g c =
    record {
      rests = λ run same resting.
          broke_resting _ run _ _ c.from_residual.result c.from_residual.ensures.1
          (c.in_err-do_due.ensures.rests run (resting_seen _ _ c.args.self.now _ c.see_moment.ensures.sees resting));
    }

pub returns-in-Some : goal.returns-in-Some
returns-in-Some g c =
    record { rests = λ run same resting. c.in_ok-do_due.ensures.rests run (resting_seen _ _ c.args.self.now _ c.see_moment.ensures.sees resting) }

pub returns-in_err-meet : goal.returns-in_err-meet
returns-in_err-meet g c =
    record {
      rests = λ run same resting.
          let due = c.in_ok-do_due.ensures.rests run (resting_seen _ _ c.args.self.now _ c.see_moment.ensures.sees resting) in
          broke_resting _ run _ _ c.from_residual-in_err-meet.result c.from_residual-in_err-meet.ensures.1
          (c.in_err-meet.ensures.meets run same
          (brought_seen run _ _ c.turn-brought.new.self _ c.turn-brought.result c.see_moment-2.ensures.sees (λ moment. c.turn-brought.ensures.turns run moment due)));
    }

pub returns-in_err-settle : goal.returns-in_err-settle
returns-in_err-settle g c =
    record {
      rests = λ run same resting.
          let due = c.in_ok-do_due.ensures.rests run (resting_seen _ _ c.args.self.now _ c.see_moment.ensures.sees resting) in
          let met =
          c.in_ok-meet.ensures.meets run same
          (brought_seen run _ _ c.turn-brought.new.self _ c.turn-brought.result c.see_moment-2.ensures.sees (λ moment. c.turn-brought.ensures.turns run moment due)) in
          broke_resting _ run _ _ c.from_residual-in_err-settle.result c.from_residual-in_err-settle.ensures.1 (c.in_err-settle.ensures.rests run met);
    }

pub returns : goal.returns
returns g c =
    record {
      rests = λ run same resting.
          let due = c.in_ok-do_due.ensures.rests run (resting_seen _ _ c.args.self.now _ c.see_moment.ensures.sees resting) in
          let met =
          c.in_ok-meet.ensures.meets run same
          (brought_seen run _ _ c.turn-brought.new.self _ c.turn-brought.result c.see_moment-2.ensures.sees (λ moment. c.turn-brought.ensures.turns run moment due)) in
          rests_or run _ _ c.behind.result (c.in_ok-settle.ensures.rests run met);
    }
