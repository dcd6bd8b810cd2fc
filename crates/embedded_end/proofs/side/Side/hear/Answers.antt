use Rattle.std.proofs.Common.{rules, ◌≡◌, ◌++◌, [], take, refl, sym, ap, append-nil}
use Rattle.safety_automaton.specs.Keys.{key_at}
use Rattle.er_end_model.specs.Ends.{Event, Come}
use Rattle.er_end.specs.KeptEnds.{KEnd, after_octets, used_of}
use Rattle.embedded_end.proofs.Doing.{did_one, heard_by, line_of, none_for_user}
use Rattle.embedded_end.proofs.side.Side.hear.Goals as goal

pub returns-clause-heard : goal.returns-clause-heard
returns-clause-heard c =
    let k : KEnd = c.args.self.now.end.value in
    let event : Event = Come (key_at c.args.keys.now) c.args.octets.now in
    let k' : KEnd = after_octets (key_at c.args.keys.now) c.args.now c.args.octets.now k in
    let is : c.octets.follows.lender-at-none ≡ k' = search rules in
    let used : c.octets.result.0 ≡ used_of k c.args.octets.now = search rules in
    let out : c.extend_from_slice.new.self.items ≡ c.args.self.now.to_line.items ++ k'.core.line.out = search rules in
    heard_by c.args.now event c.args.self.now _ (take c.octets.result.0 c.args.octets.now)
    (did_one c.args.now event c.args.self.now _ k'.core.line.out [] is out (line_of c.calls_in_turn.ensures.deeds c.args.now event k tt)
    (sym (append-nil c.args.self.now.to_user.items)) (none_for_user c.calls_in_turn.ensures.deeds c.args.now event k refl))
    (ap (λ n. take n c.args.octets.now) (sym used))
