-- One part behind the other, each of which begins and ends where all that came is done.
use Rattle.std.proofs.Common.{refl, sym}
use Rattle.application_loop.specs.Living.{Resting}
use Rattle.application_loop.proofs.RestingParts.{rests_on, broke_in, settles_links}
use Rattle.application_loop.proofs.live_service.LiveService.settle.Goals as goal

pub returns-in_err-write_to_application : goal.returns-in_err-write_to_application
returns-in_err-write_to_application g c = record {
  rests = λ run rests.
      broke_in run (g.O.Outside.told c.write_to_application.new.outside) c.write_to_application.new.self c.write_to_application.result
      c.in_err-write_to_application.field-0.0 c.from_residual.result _ c.in_err-write_to_application.was c.from_residual.ensures.1
      (c.write_to_application.ensures.rests c.when-when.ensures.moment run rests);
}

pub returns-in_err-hear_held : goal.returns-in_err-hear_held
returns-in_err-hear_held g c = record {
  rests = λ run rests.
      let behind1 : Resting run (g.O.Outside.told c.write_to_application.new.outside) c.write_to_application.new.self =
      rests_on c.write_to_application.result c.in_ok-write_to_application.field-0 c.in_ok-write_to_application.was
      (c.write_to_application.ensures.rests c.when-when.ensures.moment run rests) in
      broke_in run (g.O.Outside.told c.hear_held.new.outside) c.hear_held.new.self c.hear_held.result c.in_err-hear_held.field-0.0
      c.from_residual-in_err-hear_held.result _ c.in_err-hear_held.was c.from_residual-in_err-hear_held.ensures.1
      (c.hear_held.ensures.rests run behind1);
}

pub returns-in_err-read_application : goal.returns-in_err-read_application
returns-in_err-read_application g c = record {
  rests = λ run rests.
      let behind1 : Resting run (g.O.Outside.told c.write_to_application.new.outside) c.write_to_application.new.self =
      rests_on c.write_to_application.result c.in_ok-write_to_application.field-0 c.in_ok-write_to_application.was
      (c.write_to_application.ensures.rests c.when-when.ensures.moment run rests) in
      let behind2 : Resting run (g.O.Outside.told c.hear_held.new.outside) c.hear_held.new.self =
      rests_on c.hear_held.result c.in_ok-hear_held.field-0 c.in_ok-hear_held.was
      (c.hear_held.ensures.rests run behind1) in
      broke_in run (g.O.Outside.told c.read_application.new.outside) c.read_application.new.self c.read_application.result c.in_err-read_application.field-0.0
      c.from_residual-in_err-read_application.result _ c.in_err-read_application.was c.from_residual-in_err-read_application.ensures.1
      (c.read_application.ensures.rests run behind2);
}

pub returns-in_err-hear_held-2 : goal.returns-in_err-hear_held-2
returns-in_err-hear_held-2 g c = record {
  rests = λ run rests.
      let behind1 : Resting run (g.O.Outside.told c.write_to_application.new.outside) c.write_to_application.new.self =
      rests_on c.write_to_application.result c.in_ok-write_to_application.field-0 c.in_ok-write_to_application.was
      (c.write_to_application.ensures.rests c.when-when.ensures.moment run rests) in
      let behind2 : Resting run (g.O.Outside.told c.hear_held.new.outside) c.hear_held.new.self =
      rests_on c.hear_held.result c.in_ok-hear_held.field-0 c.in_ok-hear_held.was
      (c.hear_held.ensures.rests run behind1) in
      let behind3 : Resting run (g.O.Outside.told c.read_application.new.outside) c.read_application.new.self =
      rests_on c.read_application.result c.in_ok-read_application.field-0 c.in_ok-read_application.was
      (c.read_application.ensures.rests run behind2) in
      broke_in run (g.O.Outside.told c.hear_held-2.new.outside) c.hear_held-2.new.self c.hear_held-2.result c.in_err-hear_held-2.field-0.0
      c.from_residual-in_err-hear_held-2.result _ c.in_err-hear_held-2.was c.from_residual-in_err-hear_held-2.ensures.1
      (c.hear_held-2.ensures.rests run behind3);
}

pub returns-in_err-settle : goal.returns-in_err-settle
returns-in_err-settle g c = record {
  rests = λ run rests.
      let behind1 : Resting run (g.O.Outside.told c.write_to_application.new.outside) c.write_to_application.new.self =
      rests_on c.write_to_application.result c.in_ok-write_to_application.field-0 c.in_ok-write_to_application.was
      (c.write_to_application.ensures.rests c.when-when.ensures.moment run rests) in
      let behind2 : Resting run (g.O.Outside.told c.hear_held.new.outside) c.hear_held.new.self =
      rests_on c.hear_held.result c.in_ok-hear_held.field-0 c.in_ok-hear_held.was
      (c.hear_held.ensures.rests run behind1) in
      let behind3 : Resting run (g.O.Outside.told c.read_application.new.outside) c.read_application.new.self =
      rests_on c.read_application.result c.in_ok-read_application.field-0 c.in_ok-read_application.was
      (c.read_application.ensures.rests run behind2) in
      let behind4 : Resting run (g.O.Outside.told c.hear_held-2.new.outside) c.hear_held-2.new.self =
      rests_on c.hear_held-2.result c.in_ok-hear_held-2.field-0 c.in_ok-hear_held-2.was
      (c.hear_held-2.ensures.rests run behind3) in
      broke_in run (g.O.Outside.told c.settle.new.outside) (record c.hear_held-2.new.self { links = c.settle.new.self; desk = c.settle.new.desk })
      c.settle.result c.in_err-settle.field-0.0 c.from_residual-in_err-settle.result _ c.in_err-settle.was c.from_residual-in_err-settle.ensures.1
      (settles_links (g.O.Outside.told c.settle.new.outside)
      (record c.hear_held-2.new.self { links = c.settle.new.self; desk = c.settle.new.desk }) c.when-when-2.result.moment c.settle.result
      c.settle.ensures.serves (sym c.when-when-2.ensures.moment) refl behind4);
}

pub returns : goal.returns
returns g c = record {
  rests = λ run rests.
      let behind1 : Resting run (g.O.Outside.told c.write_to_application.new.outside) c.write_to_application.new.self =
      rests_on c.write_to_application.result c.in_ok-write_to_application.field-0 c.in_ok-write_to_application.was
      (c.write_to_application.ensures.rests c.when-when.ensures.moment run rests) in
      let behind2 : Resting run (g.O.Outside.told c.hear_held.new.outside) c.hear_held.new.self =
      rests_on c.hear_held.result c.in_ok-hear_held.field-0 c.in_ok-hear_held.was
      (c.hear_held.ensures.rests run behind1) in
      let behind3 : Resting run (g.O.Outside.told c.read_application.new.outside) c.read_application.new.self =
      rests_on c.read_application.result c.in_ok-read_application.field-0 c.in_ok-read_application.was
      (c.read_application.ensures.rests run behind2) in
      let behind4 : Resting run (g.O.Outside.told c.hear_held-2.new.outside) c.hear_held-2.new.self =
      rests_on c.hear_held-2.result c.in_ok-hear_held-2.field-0 c.in_ok-hear_held-2.was
      (c.hear_held-2.ensures.rests run behind3) in
      let behind5 : Resting run (g.O.Outside.told c.settle.new.outside)
      (record c.hear_held-2.new.self { links = c.settle.new.self; desk = c.settle.new.desk }) =
      rests_on c.settle.result c.in_ok-settle.field-0 c.in_ok-settle.was
      (settles_links (g.O.Outside.told c.settle.new.outside)
      (record c.hear_held-2.new.self { links = c.settle.new.self; desk = c.settle.new.desk }) c.when-when-2.result.moment c.settle.result
      c.settle.ensures.serves (sym c.when-when-2.ensures.moment) refl behind4) in
      c.write_to_application-2.ensures.rests c.when-when-2.ensures.moment run behind5;
}
