-- The application took some of what waited for it, or it departed.
use Rattle.std.proofs.Common.{ap, refl}
use Rattle.application_loop.specs.declared.live_service.LiveService.{LiveService}
use Rattle.application_loop.proofs.ApplicationWriting.{lives_written, lives_departed}
use Rattle.application_loop.proofs.live_service.LiveService.write_out.Goals as goal

pub returns-in-Going : goal.returns-in-Going
returns-in-Going g c = record {
  writes = λ run some rests.
      lives_written (g.O.Outside.told c.write_all.new.outside) _ c.write_all.new.port rests some c.write_all.ensures.writes c.write_all.ensures.port refl refl;
  moment = refl;
  links = refl;
}

pub returns-in-PutOff : goal.returns-in-PutOff
returns-in-PutOff g c = record {
  writes = λ run some rests.
      lives_written (g.O.Outside.told c.write_all.new.outside) _ c.write_all.new.port rests some c.write_all.ensures.writes c.write_all.ensures.port refl refl;
  moment = refl;
  links = refl;
}

pub returns-in-Failing : goal.returns-in-Failing
returns-in-Failing g c = record {
  writes = λ run some rests.
      lives_departed (g.O.Outside.told c.write_all.new.outside) (g.O.Outside.told c.depart.new.outside) c.depart.new.self c.write_all.new.port rests some
      c.write_all.ensures.writes c.write_all.ensures.port c.depart.ensures.closes c.depart.ensures.departs;
  moment = ap (λ (l : LiveService). l.moment) c.depart.ensures.departs;
  links = ap (λ (l : LiveService). l.links) c.depart.ensures.departs;
}
