-- Octets may wait at a connection.
use Rattle.std.proofs.Common.{ℕ, length, [], ◌∷◌, refl, sym, subst}
use Rattle.link_trait.specs.Wires.{reading_of}
use Rattle.outside.specs.Acts.{Called, Read}
use Rattle.outside.specs.Doings.{Did}
use Rattle.application_loop.proofs.Turns.{has_read}
use Rattle.application_loop.proofs.LivingParts.{found}
use Rattle.application_loop.proofs.live_service.LiveService.read.Goals as goal

pub returns : goal.returns
returns g c =
    record {
      rests = λ moment run resting.
          let there = found c.args.self.now.links.list.items c.in-Some.place c.args.conn.0 c.in-Some.ensures.found in
          let did =
          subst
          (λ (n : ℕ).
          Did (g.O.Outside.told c.args.outside.now) (g.O.Outside.told c.read-answer.new.self) (Called (Read n (length c.args.self.now.read) (reading_of c.read-answer.result c.read-answer.new.into)) ∷ [])) (sym there.number)
          c.read-answer.ensures.does in
          c.hear.ensures.hears run there.link there.at moment
          (has_read _ _ c.args.self.now (record c.args.self.now { read = c.read-answer.new.into }) c.in-Some.place there.link (length c.args.self.now.read) c.read-answer.result there.at
          (record { links = refl; desk = refl; held = refl; keys = refl; moment = refl; draining = refl; calls = refl }) did resting);
    }
