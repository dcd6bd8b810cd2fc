-- By the lemma on headers.
use Rattle.std.proofs.Common.{sym, ◌∙◌}
use Rattle.er_tap.proofs.KeptLines.{tap_behind}
use Rattle.er_tap.proofs.reader.read.Goals as goal

pub returns-then-not-is_header-clause-exact : goal.returns-then-not-is_header-clause-exact
returns-then-not-is_header-clause-exact c =
    let cut = rw c.in-Some.ensures.all at c.in-Some-next_row.ensures.cut in
    let kept = rw (sym c.as_slice.ensures.value) at cut.kept in
    tap_behind c.args.bytes.now _ _ _ _ c.in-Some.ensures.short cut.rows kept (sym c.is_header.ensures ∙ c.if-not-is_header.true)

pub returns-clause-exact : goal.returns-clause-exact
returns-clause-exact c =
    let cut = rw c.in-Some.ensures.all at c.in-Some-next_row.ensures.cut in
    let kept = rw (sym c.as_slice.ensures.value) at cut.kept in
    rw (tap_behind c.args.bytes.now _ _ _ _ c.in-Some.ensures.short cut.rows kept (sym c.is_header.ensures ∙ c.if-not-is_header.false))
    (rw c.in-Some-next_row.ensures.number at c.read_behind.ensures.exact)
