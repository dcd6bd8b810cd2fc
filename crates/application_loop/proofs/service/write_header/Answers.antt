-- The header is written.
use Rattle.std.proofs.Common.{◌≡◌, ◌∙◌, List, ℕ, [], ◌∷◌, ◌++◌, true, ap, subst}
use Rattle.std.proofs.lemmas.Result.{err_from_is_err_and}
use Rattle.er_base.specs.LineTexts.{line_text}
use Rattle.er_trace.specs.Texts.{header_words}
use Rattle.outside.specs.Acts.{Act, Wrote}
use Rattle.outside.specs.Scripts.{printing}
use Rattle.loop_session.specs.Parts.{Puts}
use Rattle.application_loop.proofs.Occurrences.{wanted_puts}
use Rattle.application_loop.proofs.LinesPut.{printing_line}
use Rattle.application_loop.proofs.service.write_header.Goals as goal

pub returns-in_err-print_header : goal.returns-in_err-print_header
returns-in_err-print_header g c =
    let p = err_from_is_err_and c.from_residual.result c.from_residual.ensures.1 in
    record {
      puts = wanted_puts (g.O.Outside.told c.args.outside.now) (Wrote (line_text (header_words c.args.settings.now)) true ∷ []) c.from_residual.result p.0 _ p.1 p.2;
    }

pub returns : goal.returns
returns g c =
    let text : c.as_slice.result.now ≡ line_text (header_words c.args.settings.now) =
    c.as_slice.ensures.value
    ∙ c.in_ok-print_header.ensures.ok
    ∙ ap (λ (o : List ℕ). o ++ line_text (header_words c.args.settings.now)) c.new-line.ensures.items in
    record {
      puts =
          subst (λ (a : List Act). Puts (g.O.Outside.told c.args.outside.now) (g.O.Outside.told c.write_lines.new.outside) a c.write_lines.result)
          (ap printing text ∙ printing_line (header_words c.args.settings.now)) c.write_lines.ensures.puts;
    }
