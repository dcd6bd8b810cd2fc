use Rattle.std.proofs.Common.{rules, ◌≡◌, ◌++◌, [], refl, sym, append-nil}
use Rattle.er_end_model.specs.Ends.{Start}
use Rattle.er_end.specs.KeptEnds.{KEnd, after_start}
use Rattle.embedded_end.proofs.Doing.{did_one, line_of, none_for_user}
use Rattle.embedded_end.proofs.side.Side.start.Goals as goal

pub returns : goal.returns
returns c =
    let k : KEnd = c.args.self.now.end.value in
    let k' : KEnd = after_start c.args.now k in
    let is : c.start-deeds.follows.lender-at-none ≡ k' = search rules in
    let out : c.extend_from_slice.new.self.items ≡ c.args.self.now.to_line.items ++ k'.core.line.out = search rules in
    did_one c.args.now Start c.args.self.now _ k'.core.line.out [] is out (line_of c.calls_in_turn.ensures.deeds c.args.now Start k tt)
    (sym (append-nil c.args.self.now.to_user.items)) (none_for_user c.calls_in_turn.ensures.deeds c.args.now Start k refl)
