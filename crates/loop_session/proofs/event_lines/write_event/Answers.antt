use Rattle.std.proofs.Common.{List, [], ◌∷◌, subst, ◌∙◌}
use Rattle.std.proofs.lemmas.Result.{err_from_is_err_and}
use Rattle.outside.specs.Acts.{Act}
use Rattle.loop_session.specs.Parts.{writes_of_entries, Puts}
use Rattle.loop_session.proofs.Written.{line_written, event_line, puts_wanted}
use Rattle.loop_session.proofs.event_lines.write_event.Goals as goal

pub returns-clause-puts : goal.returns-clause-puts
returns-clause-puts g c =
    subst (λ (z : List Act). Puts (g.O.Outside.told c.args.outside.now) (g.O.Outside.told c.record_lines.new.outside) z c.record_lines.result)
    (line_written c.as_slice.result.now (record { moment = c.args.moment; conn = c.args.conn; event = c.args.event; outcomes = [] })
    (c.as_slice.ensures.value ∙ event_line c.args.moment c.args.conn c.args.event _ c.clear.new.self.items c.clear.ensures.items c.in_ok-put.ensures.text))
    c.record_lines.ensures.puts

pub returns-in_err-put-clause-puts : goal.returns-in_err-put-clause-puts
returns-in_err-put-clause-puts g c =
    let p = err_from_is_err_and c.from_residual.result c.from_residual.ensures.1 in
    puts_wanted (g.O.Outside.told c.args.outside.now)
    (writes_of_entries (record { moment = c.args.moment; conn = c.args.conn; event = c.args.event; outcomes = [] } ∷ [])) c.from_residual.result p.0 _ p.1 p.2

pub record_lines-requires : goal.record_lines-requires
record_lines-requires g c = record {
  entry = record { moment = c.args.moment; conn = c.args.conn; event = c.args.event; outcomes = [] };
  text = c.as_slice.ensures.value ∙ event_line c.args.moment c.args.conn c.args.event _ c.clear.new.self.items c.clear.ensures.items c.in_ok-put.ensures.text;
  counts = c.of_event-tally.ensures c.args.moment;
}
