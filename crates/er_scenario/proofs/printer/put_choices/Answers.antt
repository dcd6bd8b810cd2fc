-- Eight texts in a row.
use Rattle.std.proofs.Common.{sym, ap, ◌∙◌, append_assoc, refl}
use Rattle.er_settings.specs.Values.{Settings}
use Rattle.er_scenario.proofs.LineTexts.{lines_text_append, begins_same, begins_more, begins_on, on_err}
use Rattle.er_scenario.proofs.printer.put_choices.Goals as goal

pub returns-in_err-put_set-4-clause-err : goal.returns-in_err-put_set-4-clause-err
returns-in_err-put_set-4-clause-err c = on_err _ _ (begins_on _ _ _ (begins_more _ _ _ _ (begins_more _ _ _ _ (begins_more _ _ _ _ (begins_same _ _ refl) c.in_ok-put_set.ensures.ok) c.in_ok-put_set-2.ensures.ok) c.in_ok-put_set-3.ensures.ok) c.in_err-put_set-4.ensures.err)

pub returns-in_err-put_set-5-clause-err : goal.returns-in_err-put_set-5-clause-err
returns-in_err-put_set-5-clause-err c = on_err _ _ (begins_on _ _ _ (begins_more _ _ _ _ (begins_more _ _ _ _ (begins_more _ _ _ _ (begins_more _ _ _ _ (begins_same _ _ refl) c.in_ok-put_set.ensures.ok) c.in_ok-put_set-2.ensures.ok) c.in_ok-put_set-3.ensures.ok) c.in_ok-put_set-4.ensures.ok) c.in_err-put_set-5.ensures.err)

pub returns-in_err-put_set-6-clause-err : goal.returns-in_err-put_set-6-clause-err
returns-in_err-put_set-6-clause-err c = on_err _ _ (begins_on _ _ _ (begins_more _ _ _ _ (begins_more _ _ _ _ (begins_more _ _ _ _ (begins_more _ _ _ _ (begins_more _ _ _ _ (begins_same _ _ refl) c.in_ok-put_set.ensures.ok) c.in_ok-put_set-2.ensures.ok) c.in_ok-put_set-3.ensures.ok) c.in_ok-put_set-4.ensures.ok) c.in_ok-put_set-5.ensures.ok) c.in_err-put_set-6.ensures.err)

pub returns-in_err-put_set-7-clause-err : goal.returns-in_err-put_set-7-clause-err
returns-in_err-put_set-7-clause-err c = on_err _ _ (begins_on _ _ _ (begins_more _ _ _ _ (begins_more _ _ _ _ (begins_more _ _ _ _ (begins_more _ _ _ _ (begins_more _ _ _ _ (begins_more _ _ _ _ (begins_same _ _ refl) c.in_ok-put_set.ensures.ok) c.in_ok-put_set-2.ensures.ok) c.in_ok-put_set-3.ensures.ok) c.in_ok-put_set-4.ensures.ok) c.in_ok-put_set-5.ensures.ok) c.in_ok-put_set-6.ensures.ok) c.in_err-put_set-7.ensures.err)

pub returns-in_err-put_show-clause-err : goal.returns-in_err-put_show-clause-err
returns-in_err-put_show-clause-err c = on_err _ _ (begins_on _ _ _ (begins_more _ _ _ _ (begins_more _ _ _ _ (begins_more _ _ _ _ (begins_more _ _ _ _ (begins_more _ _ _ _ (begins_more _ _ _ _ (begins_more _ _ _ _ (begins_same _ _ refl) c.in_ok-put_set.ensures.ok) c.in_ok-put_set-2.ensures.ok) c.in_ok-put_set-3.ensures.ok) c.in_ok-put_set-4.ensures.ok) c.in_ok-put_set-5.ensures.ok) c.in_ok-put_set-6.ensures.ok) c.in_ok-put_set-7.ensures.ok) c.in_err-put_show.ensures.err)

pub returns-clause-ok : goal.returns-clause-ok
returns-clause-ok c =
    let usual = c.usual.view_is ∙ c.default_settings-usual.ensures.value in
    let modulo = ap (λ (s : Settings). s.modulo) usual in
    let window = ap (λ (s : Settings). s.window) usual in
    let credit = ap (λ (s : Settings). s.credit) usual in
    let size = ap (λ (s : Settings). s.size) usual in
    let t1 = ap (λ (s : Settings). s.t1) usual in
    let n2 = ap (λ (s : Settings). s.n2) usual in
    let setup = ap (λ (s : Settings). s.setup) usual in
    rw (sym c.settings.view_is, c.in_ok-put_show.ensures.ok, c.in_ok-put_set-7.ensures.ok, c.in_ok-put_set-6.ensures.ok, c.in_ok-put_set-5.ensures.ok, c.in_ok-put_set-4.ensures.ok, c.in_ok-put_set-3.ensures.ok, c.in_ok-put_set-2.ensures.ok, c.in_ok-put_set.ensures.ok, c.word.ensures, c.word-2.ensures, c.word-3.ensures, c.word-4.ensures, c.word-5.ensures, c.word-6.ensures, modulo, window, credit, size, t1, n2, setup)
    (simp (lines_text_append, append_assoc))
