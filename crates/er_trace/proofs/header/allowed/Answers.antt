-- By the ranges of the settings.
use Rattle.std.proofs.Common.{sym, subst, ◌∙◌, ap, Some}
use Rattle.er_settings.specs.Values.{Settings}
use Rattle.er_settings.specs.Ranges.{AllAllowed}
use Rattle.er_trace.proofs.HeaderRanges.{allowed_some, refused_none}
use Rattle.er_trace.proofs.header.allowed.Goals as goal

pub returns-in-Ok-clause-value : goal.returns-in-Ok-clause-value
returns-in-Ok-clause-value c =
    ap (λ (s : Settings). Some s) c.in-Ok.ensures.exact
    ∙ sym (allowed_some _ _ _ _ _ _ (subst AllAllowed c.in-Ok.ensures.exact c.in-Ok.ensures.allowed))

pub returns-in-Err-clause-value : goal.returns-in-Err-clause-value
returns-in-Err-clause-value c = sym (refused_none _ _ _ _ _ _ _ _ c.in-Err.ensures.exact)
