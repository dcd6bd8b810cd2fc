use Rattle.std.proofs.Common.{rules, ◌≡◌, ◌++◌, [], length, refl}
use Rattle.er_end_model.specs.Ends.{Take}
use Rattle.er_end.specs.Inboxes.{first_in}
use Rattle.er_end.specs.KeptEnds.{KEnd, after_take, waiting_in}
use Rattle.embedded_end.proofs.Doing.{did_one, heard_by, did_nothing, line_of, first_for_user}
use Rattle.embedded_end.proofs.side.Side.take.Goals as goal

pub returns-in_ok-extend_from_slice-2 : goal.returns-in_ok-extend_from_slice-2
returns-in_ok-extend_from_slice-2 c =
    let k : KEnd = c.args.self.now.end.value in
    let k' : KEnd = after_take c.args.now k in
    let is : c.take.follows.lender-at-none ≡ k' = search rules in
    let out : c.extend_from_slice-in-Some.new.self.items ≡ c.args.self.now.to_line.items ++ k'.core.line.out = search rules in
    let user : c.extend_from_slice.new.self.items ≡ c.args.self.now.to_user.items ++ first_in (waiting_in k) = search rules in
    heard_by c.args.now Take c.args.self.now _ []
    (did_one c.args.now Take c.args.self.now _ k'.core.line.out (first_in (waiting_in k)) is out (line_of c.calls_in_turn.ensures.deeds c.args.now Take k tt)
    user (first_for_user c.calls_in_turn.ensures.deeds c.args.now k)) refl

pub returns-in_default : goal.returns-in_default
returns-in_default c =
    let k : KEnd = c.args.self.now.end.value in
    let is : c.take.follows.lender-at-none ≡ after_take c.args.now k = search rules in
    let none : length (waiting_in k) ≡ 0 = search rules in
    heard_by c.args.now Take c.args.self.now _ [] (did_nothing c.calls_in_turn.ensures.deeds c.args.now c.args.self.now _ is refl refl none) refl
