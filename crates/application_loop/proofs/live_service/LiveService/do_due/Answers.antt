-- Ends are ticked, connections are closed, and what comes of it is settled.
use Rattle.std.proofs.Common.{refl, sym}
use Rattle.application_loop.specs.Living.{Resting}
use Rattle.application_loop.proofs.RestingParts.{rests_on, broke_in, settles_links, closes_links}
use Rattle.application_loop.proofs.live_service.LiveService.do_due.Goals as goal

pub returns-in_err-tick : goal.returns-in_err-tick
returns-in_err-tick g c = record {
  rests = λ run rests.
      let ticked = record c.args.self.now { links = c.tick.new.self; desk = c.tick.new.desk } in
      broke_in run (g.O.Outside.told c.tick.new.outside) ticked c.tick.result c.in_err-tick.field-0.0 c.from_residual.result _
      c.in_err-tick.was c.from_residual.ensures.1
      (settles_links (g.O.Outside.told c.tick.new.outside) ticked c.when-when.result.moment c.tick.result c.tick.ensures.serves (sym c.when-when.ensures.moment)
      refl rests);
}

pub returns : goal.returns
returns g c = record {
  rests = λ run rests.
      let ticked = record c.args.self.now { links = c.tick.new.self; desk = c.tick.new.desk } in
      let closed = record ticked { links = c.close_expired.new.self } in
      let behind_ticks : Resting run (g.O.Outside.told c.tick.new.outside) ticked =
      rests_on c.tick.result c.in_ok-tick.field-0 c.in_ok-tick.was
      (settles_links (g.O.Outside.told c.tick.new.outside) ticked c.when-when.result.moment c.tick.result c.tick.ensures.serves (sym c.when-when.ensures.moment)
      refl rests) in
      c.settle.ensures.rests run
      (closes_links (g.O.Outside.told c.close_expired.new.outside) closed (λ beside. c.close_expired.ensures.rests run beside c.tick.new.desk) refl
      behind_ticks);
}
