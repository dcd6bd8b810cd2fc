-- What was read is held; where the read ended or failed, the application departs.
use Rattle.std.proofs.Common.{ap, refl, sym, append-nil, ◌∙◌, List, ℕ, ◌++◌}
use Rattle.link_trait.specs.Wires.{reading_of}
use Rattle.link_trait.specs.declared.wires.ReadAnswer.{ReadAnswer}
use Rattle.application_serving.specs.SeenOctets.{octets_of_reading}
use Rattle.application_loop.specs.declared.live_service.LiveService.{LiveService}
use Rattle.application_loop.proofs.Reading.{reads_at_rest, departs_behind_read, broke_behind_read, broke}
use Rattle.application_loop.proofs.live_service.LiveService.read_application.Goals as goal

pub returns-in_err-keep-in-Some : goal.returns-in_err-keep-in-Some
returns-in_err-keep-in-Some g c = record {
  rests = λ run rests. broke run _ _ _ c.from_residual.result c.from_residual.ensures.1 (broke_behind_read _ _ _ rests c.read.ensures.does);
}

pub returns-in_ok-keep-in-Some : goal.returns-in_ok-keep-in-Some
returns-in_ok-keep-in-Some g c = record {
  rests = λ run rests.
      reads_at_rest _ _ _ _ rests c.read.ensures.does refl refl
      (c.in_ok-keep-in-Some.ensures
      ∙ ap (λ (o : List ℕ). c.args.self.now.speaker.held.items ++ o) c.front.ensures.front
      ∙ ap (λ (a : ReadAnswer). c.args.self.now.speaker.held.items ++ octets_of_reading (reading_of a c.read.new.into)) (sym c.in-Some.is))
      refl refl refl refl;
}

pub returns-in-NotNow : goal.returns-in-NotNow
returns-in-NotNow g c = record {
  rests = λ run rests.
      reads_at_rest _ _ _ _ rests c.read.ensures.does refl refl
      (sym (append-nil c.args.self.now.speaker.held.items)
      ∙ ap (λ (a : ReadAnswer). c.args.self.now.speaker.held.items ++ octets_of_reading (reading_of a c.read.new.into)) (sym c.in-NotNow.is))
      refl refl refl refl;
}

pub returns-in-End : goal.returns-in-End
returns-in-End g c = record {
  rests = λ run rests.
      let is = c.depart.ensures.departs in
      departs_behind_read _ _ _ _ _ rests c.read.ensures.does c.depart.ensures.closes (ap (λ (l : LiveService). l.links) is)
      (ap (λ (l : LiveService). l.desk) is) (ap (λ (l : LiveService). l.keys) is) (ap (λ (l : LiveService). l.moment) is)
      (ap (λ (l : LiveService). l.draining) is) (ap (λ (l : LiveService). l.calls) is);
}
