-- By the lemma on headers.
use Rattle.std.proofs.Common.{sym, ◌∙◌, arith}
use Rattle.er_trace.proofs.KeptLines.{trace_behind}
use Rattle.er_trace.proofs.reader.read.Goals as goal

pub returns-in_default-read_settings-clause-exact : goal.returns-in_default-read_settings-clause-exact
returns-in_default-read_settings-clause-exact c =
    let cut = rw c.in-Some.is at c.next_row.ensures.cut in
    let kept = rw (sym c.as_slice.ensures.value) at cut.kept in
    trace_behind c.args.bytes.now _ _ _ _ (omega (arith, c.if-bytes-gt-MOST_OCTETS.false)) cut.rows kept (sym c.read_settings.ensures.value ∙ c.in_default-read_settings.is)

pub returns-clause-exact : goal.returns-clause-exact
returns-clause-exact c =
    let cut = rw c.in-Some.is at c.next_row.ensures.cut in
    let kept = rw (sym c.as_slice.ensures.value) at cut.kept in
    rw (trace_behind c.args.bytes.now _ _ _ _ (omega (arith, c.if-bytes-gt-MOST_OCTETS.false)) cut.rows kept (sym c.read_settings.ensures.value ∙ c.in-Some-read_settings.is))
    c.read_behind.ensures.exact
