-- By the lemma on headers.
use Rattle.std.proofs.Common.{sym, ◌∙◌, arith}
use Rattle.relay_script.proofs.KeptLines.{script_behind}
use Rattle.relay_script.proofs.reader.read.Goals as goal

pub returns-then-not-is_header-clause-exact : goal.returns-then-not-is_header-clause-exact
returns-then-not-is_header-clause-exact c =
    let cut = rw c.in-Some.is at c.next_row.ensures.cut in
    let kept = rw (sym c.as_slice.ensures.value) at cut.kept in
    script_behind c.args.bytes.now _ _ _ _ (omega arith) cut.rows kept (sym c.is_header.ensures ∙ c.if-not-is_header.true)

pub returns-clause-exact : goal.returns-clause-exact
returns-clause-exact c =
    let cut = rw c.in-Some.is at c.next_row.ensures.cut in
    let kept = rw (sym c.as_slice.ensures.value) at cut.kept in
    rw (script_behind c.args.bytes.now _ _ _ _ (omega arith) cut.rows kept (sym c.is_header.ensures ∙ c.if-not-is_header.false))
    c.read_behind.ensures.exact
