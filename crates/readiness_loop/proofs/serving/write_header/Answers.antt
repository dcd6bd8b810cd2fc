use Rattle.std.proofs.lemmas.Result.{err_from_is_err_and}
use Rattle.loop_model.specs.Journals.{trace_header}
use Rattle.outside.specs.Scripts.{printing}
use Rattle.readiness_loop.proofs.Acceptings.{line_wanted}
use Rattle.readiness_loop.proofs.Listening.{header_put}
use Rattle.readiness_loop.proofs.serving.write_header.Goals as goal

pub returns-clause-puts : goal.returns-clause-puts
returns-clause-puts g c =
    header_put (g.O.Outside.told c.args.outside.now) (g.O.Outside.told c.write_lines.new.outside)
    c.args.settings.now c.new-line.result.items c.print_header.new.out.items c.as_slice.result.now c.write_lines.result
    c.new-line.ensures.items c.in_ok-print_header.ensures.ok c.as_slice.ensures.value c.write_lines.ensures.puts

pub returns-in_err-print_header-clause-puts : goal.returns-in_err-print_header-clause-puts
returns-in_err-print_header-clause-puts g c =
    let p = err_from_is_err_and c.from_residual.result c.from_residual.ensures.1 in
    rw (p.1, p.2) (line_wanted (g.O.Outside.told c.args.outside.now) (printing (trace_header c.args.settings.now)) _)
