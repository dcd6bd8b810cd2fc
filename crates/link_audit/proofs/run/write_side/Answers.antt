-- The end behind the items.
use Rattle.std.proofs.Common.{◌++◌, ℕ, List, ap, ◌∙◌}
use Rattle.std.proofs.lemmas.Result.{err_from_is_err_and, on_ok_weaker}
use Rattle.er_base.specs.LineTexts.{line_text}
use Rattle.link_audit.specs.declared.told.Told.{Told}
use Rattle.link_audit.specs.Counts.{told_words}
use Rattle.link_audit.proofs.Written.{writes_then, writes_part}
use Rattle.link_audit.proofs.run.write_side.Goals as goal

pub returns-clause-writes : goal.returns-clause-writes
returns-clause-writes g c =
    writes_then _ _ _ _ _ c.tell_end.result c.in_ok-write_items.ensures.writes
    (rw (c.end-end.ensures ∙ c.in_ok-write_items.ensures.told) at c.tell_end.ensures.writes)

pub returns-clause-told : goal.returns-clause-told
returns-clause-told g c =
    on_ok_weaker c.tell_end.result
    (λ told. told ∙ ap (λ (old : List ℕ). old ++ line_text (told_words c.args.link c.args.side c.end-end.result)) c.in_ok-write_items.ensures.ends
    ∙ ap (λ (t : Told). c.args.made.now.ends.items ++ line_text (told_words c.args.link c.args.side t)) (c.end-end.ensures ∙ c.in_ok-write_items.ensures.told))
    c.tell_end.ensures.told

pub returns-in_err-write_items-clause-writes : goal.returns-in_err-write_items-clause-writes
returns-in_err-write_items-clause-writes g c =
    let p = err_from_is_err_and c.from_residual.result c.from_residual.ensures.1 in
    rw (p.1, p.2) (writes_part _ _ _ _ c.in_err-write_items.field-0.0 c.in_err-write_items.ensures.writes)
