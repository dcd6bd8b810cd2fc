use Rattle.std.proofs.Common.{List, ℕ, ◌∙◌, ap, subst}
use Rattle.er_base.specs.Stored.{Appends}
use Rattle.safety_automaton.specs.Keys.{key_at}
use Rattle.safety_automaton.specs.Safety.{Received, step, octets_sent_in_outcome}
use Rattle.safety_automaton.specs.Reports.{KeptSafe}
use Rattle.safety_automaton.specs.Views.{state_of}
use Rattle.safety_automaton.proofs.Lengths.{few_appended, few_accepted}
use Rattle.safety_automaton.proofs.Flags.{not_released}
use Rattle.safety_automaton.proofs.safe.Safe.receive.Goals as goal

pub returns : goal.returns
returns g c =
    let s = c.args.self.now.safety in
    let keys = key_at (g.K.KeyFinder.entries c.args.keys.now) c.args.now in
    let event = Received c.args.octets.now in
    let d = c.receive_octets-sends.ensures in
    let appends : Appends c.args.out.now c.write_if.new.out (octets_sent_in_outcome (step keys s event).1) =
    subst (λ (octets : List ℕ). Appends c.args.out.now c.write_if.new.out octets) d.sends c.write_if.ensures in
    record {
      safety = d.safety;
      report = d.report;
      sealed = d.sealed;
      verified = d.verified;
      out = appends;
      sent = few_appended c.args.out.now c.write_if.new.out _ 21 appends (c.lengths.ensures.most keys s event);
      accepted = few_accepted _ (step keys s event).1 (c.lengths.ensures.each keys s event (λ k. (c.type_inv.octets k).fits)) d.report;
      inert = λ released. absurd (not_released c.self.inside.me c.self.inside.phase c.in_default.not-Released (ap (λ (k : KeptSafe). state_of k.safety.phase) c.self.view_is ∙ released));
    }
