use Rattle.std.proofs.Common.{rules, ◌≡◌, ◌++◌, [], refl, sym, append-nil}
use Rattle.std.specs.Prelude.{None}
use Rattle.er_end_model.specs.Ends.{Event, Send}
use Rattle.er_end.specs.KeptEnds.{KEnd, after_send, refusal_of_send}
use Rattle.embedded_end.proofs.Doing.{did_one, line_of, none_for_user}
use Rattle.embedded_end.proofs.side.Side.send.Goals as goal

pub returns-in_ok-extend_from_slice : goal.returns-in_ok-extend_from_slice
returns-in_ok-extend_from_slice c =
    let k : KEnd = c.args.self.now.end.value in
    let event : Event = Send c.args.message.now in
    let k' : KEnd = after_send c.args.now c.args.message.now k in
    let is : c.send.follows.lender-at-none ≡ k' = search rules in
    let done : refusal_of_send c.args.message.now k ≡ None = search rules in
    let out : c.extend_from_slice.new.self.items ≡ c.args.self.now.to_line.items ++ k'.core.line.out = search rules in
    did_one c.args.now event c.args.self.now _ k'.core.line.out [] is out (line_of c.calls_in_turn.ensures.deeds c.args.now event k done)
    (sym (append-nil c.args.self.now.to_user.items)) (none_for_user c.calls_in_turn.ensures.deeds c.args.now event k refl)
