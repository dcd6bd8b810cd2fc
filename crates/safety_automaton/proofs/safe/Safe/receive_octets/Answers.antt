use Rattle.std.proofs.Common.{◌≡◌, ◌∙◌, true, not, false, ap, subst}
use Rattle.std.proofs.Math.Bool.{beq}
use Rattle.safety_automaton.specs.Keys.{key_at}
use Rattle.safety_automaton.specs.Safety.{flag_of, same_flag, peer_flag}
use Rattle.safety_automaton.specs.Reports.{KeptSafe}
use Rattle.safety_automaton.proofs.Flags.{same_flag_if}
use Rattle.safety_automaton.proofs.Each.{reads_open}
use Rattle.safety_automaton.proofs.safe.Safe.receive_octets.Goals as goal

pub returns : goal.returns
returns g c =
    let s = c.args.self.now.safety in
    let keys = key_at (g.K.KeyFinder.entries c.args.keys.now) c.args.now in
    let flag : c.flag.result ≡ peer_flag s = c.flag.ensures ∙ ap flag_of c.other.ensures ∙ ap (λ (k : KeptSafe). peer_flag k.safety) c.self.view_is in
    let test : same_flag c.in-Ok.flag (peer_flag s) ≡ true =
    same_flag_if c.in-Ok.flag (peer_flag s) (subst (λ f. not (beq c.in-Ok.flag f) ≡ false) flag c.if-flag.false) in
    rw (reads_open keys s s.phase c.args.octets.now c.requires, ← c.in-Ok.ensures.value, test) c.receive_pdu.ensures
