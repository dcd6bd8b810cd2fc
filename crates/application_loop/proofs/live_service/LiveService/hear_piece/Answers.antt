use Rattle.std.proofs.Common.{◌∙◌, Option, None, Some, refl, sym, ap, take}
use Rattle.application_lines.specs.declared.application_line.ApplicationLine.{ApplicationLine}
use Rattle.application_loop.specs.declared.live_service.LiveService.{LiveService}
use Rattle.application_loop.proofs.RequestParts.{living_serves, resting_broke_off}
use Rattle.application_loop.proofs.Hearing.{HearsPiece, hears_piece, still_rested, rests_by_piece, living_with_line, heard_attached}
use Rattle.application_loop.proofs.live_service.LiveService.hear_piece.Goals as goal

abbrev some_line : ApplicationLine → Option ApplicationLine
some_line line = Some line

pub returns-in_err-taken : goal.returns-in_err-taken
returns-in_err-taken g c = record {
  rests = λ run rests. resting_broke_off _ _ _ c.from_residual.result c.from_residual.ensures.1 (living_serves rests.living);
}

pub returns-in_err-answer_line-in-Some : goal.returns-in_err-answer_line-in-Some
returns-in_err-answer_line-in-Some g c = record {
  rests = λ run rests.
      let heard : LiveService = record c.args.self.now { desk = record c.args.self.now.desk { port = c.hear.new.self }; speaker = c.heard.new.self } in
      let hears =
      hears_piece {old = c.args.self.now} {now = heard} c.in_ok-taken.taken.used c.held-2.result.now c.in_ok-taken.taken.line _
      (sym c.has_room.ensures ∙ c.if-not-has_room.false) c.held-2.ensures c.in_ok-taken.ensures.hears
      (c.in-Some.is ∙ ap some_line (sym c.in-Some.line-is)) c.heard.ensures
      refl refl refl refl refl refl refl refl in
      let piece = take c.in_ok-taken.taken.used c.held-2.result.now in
      let answered =
      c.in_err-answer_line-in-Some.ensures.answers run (living_with_line piece _ hears rests)
      (still_rested (g.O.Outside.told c.args.outside.now) piece _ hears rests.rested)
      (heard_attached piece _ c.args.self.now.desk.port c.hear.new.self hears.hears) in
      resting_broke_off _ _ _ c.from_residual-in_err-answer_line-in-Some.result c.from_residual-in_err-answer_line-in-Some.ensures.1 answered;
}

pub returns-in_ok-answer_line-in-Some : goal.returns-in_ok-answer_line-in-Some
returns-in_ok-answer_line-in-Some g c = record {
  rests = λ run rests.
      let heard : LiveService = record c.args.self.now { desk = record c.args.self.now.desk { port = c.hear.new.self }; speaker = c.heard.new.self } in
      let hears =
      hears_piece {old = c.args.self.now} {now = heard} c.in_ok-taken.taken.used c.held-2.result.now c.in_ok-taken.taken.line _
      (sym c.has_room.ensures ∙ c.if-not-has_room.false) c.held-2.ensures c.in_ok-taken.ensures.hears
      (c.in-Some.is ∙ ap some_line (sym c.in-Some.line-is)) c.heard.ensures
      refl refl refl refl refl refl refl refl in
      let piece = take c.in_ok-taken.taken.used c.held-2.result.now in
      let answered =
      c.in_ok-answer_line-in-Some.ensures.answers run (living_with_line piece _ hears rests)
      (still_rested (g.O.Outside.told c.args.outside.now) piece _ hears rests.rested)
      (heard_attached piece _ c.args.self.now.desk.port c.hear.new.self hears.hears) in
      answered;
}

pub returns-in-None : goal.returns-in-None
returns-in-None g c = record {
  rests = λ run rests.
      let heard : LiveService = record c.args.self.now { desk = record c.args.self.now.desk { port = c.hear.new.self }; speaker = c.heard.new.self } in
      let hears : HearsPiece (take c.in_ok-taken.taken.used c.held-2.result.now) (None) c.args.self.now heard =
      hears_piece c.in_ok-taken.taken.used c.held-2.result.now c.in_ok-taken.taken.line (None)
      (sym c.has_room.ensures ∙ c.if-not-has_room.false) c.held-2.ensures c.in_ok-taken.ensures.hears c.in-None.is c.heard.ensures
      refl refl refl refl refl refl refl refl in
      rests_by_piece (take c.in_ok-taken.taken.used c.held-2.result.now) hears rests;
}
