-- The words of the line, by the lemma that cuts it behind its first word.
use Rattle.std.proofs.Common.{◌≡◌, ◌<◌, length, ◌∙◌, sym, arith}
use Rattle.std.specs.List.{prefix_len}
use Rattle.std.proofs.lemmas.Bool.{eqb-true, eqb-false}
use Rattle.er_base.specs.Words.{without_spaces, is_of_word}
use Rattle.er_base.proofs.Splitting.{no_words, next_words, word_length_pos, empty_list}
use Rattle.er_base.proofs.words.next_word.Goals as goal

pub returns-then-is_empty-clause-words : goal.returns-then-is_empty-clause-words
returns-then-is_empty-clause-words c =
    let none : length c.behind_spaces-rest.result.now ≡ 0 = eqb-true _ _ (sym c.is_empty.ensures ∙ c.if-is_empty.true) in
    no_words c.args.line.now (sym c.behind_spaces-rest.ensures ∙ empty_list _ none)

pub returns-clause-nonempty : goal.returns-clause-nonempty
returns-clause-nonempty c =
    let some : length c.behind_spaces-rest.result.now ≡ 0 → ⊥ = eqb-false _ _ (sym c.is_empty.ensures ∙ c.if-is_empty.false) in
    let long : 0 < length (without_spaces c.args.line.now) = rw c.behind_spaces-rest.ensures at (let h : 0 < length c.behind_spaces-rest.result.now = omega arith in h) in
    let pos = word_length_pos c.args.line.now long in
    let same : 0 < prefix_len is_of_word c.behind_spaces-rest.result.now = rw c.behind_spaces-rest.ensures pos in
    omega (arith, c.split_at.ensures.front_len, c.word_length.ensures.value)

pub returns-clause-words : goal.returns-clause-words
returns-clause-words c =
    let some : length c.behind_spaces-rest.result.now ≡ 0 → ⊥ = eqb-false _ _ (sym c.is_empty.ensures ∙ c.if-is_empty.false) in
    let long : 0 < length (without_spaces c.args.line.now) = rw c.behind_spaces-rest.ensures at (let h : 0 < length c.behind_spaces-rest.result.now = omega arith in h) in
    rw (c.split_at.ensures.front, c.split_at.ensures.back, c.word_length.ensures.value, c.behind_spaces-rest.ensures) (next_words c.args.line.now long)
