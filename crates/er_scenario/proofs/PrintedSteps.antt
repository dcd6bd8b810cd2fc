-- Lines of steps that are printed are read as the same steps.
use Rattle.std.proofs.Common.{arith, ◌≡◌, ℕ, ◌+◌, nat_lt, Bool, true, false, List, [], ◌∷◌, length, map, Ok, inl, inr, refl, ap, codes}
use Rattle.std.specs.List.{list_all}
use Rattle.std.proofs.lemmas.Bool.{cases_Bool, ltb-true}
use Rattle.er_base.specs.LineTexts.{AreSolid, IsSolid, IsLine, AreLines, rows_from}
use Rattle.er_scenario.specs.declared.level.Level.{Level}
use Rattle.er_scenario.specs.declared.numbered.Numbered.{Numbered}
use Rattle.er_scenario.specs.declared.choices.Choices.{Choices}
use Rattle.er_scenario.specs.declared.said.Said.TheVariants.{Does}
use Rattle.er_scenario.specs.declared.step.Step.{Step}
use Rattle.er_scenario.specs.declared.step.Step.TheVariants.{Fixed, Link, Wire, Send, Pass, Lose, Repeat, Alter, Put, Copy, Take, Release, Tick, Drain}
use Rattle.er_scenario.specs.Files.{line_says, scenario_body_of}
use Rattle.er_scenario.specs.Texts.{IsReadableStep, AreReadableSteps, step_words, words_of_numbered_steps}
use Rattle.er_scenario.proofs.PrintedArguments.{Laws, octets_within, one_octet, mask_read, key_read, optional_key_read, solid_key, solid_optional_key, link_read}

-- a word that is written out
solid_from : (word : List ℕ) → list_all (λ x. nat_lt 35 x) word ≡ true → AreSolid word
solid_from [] h = tt
solid_from (x ∷ word) h =
    elim (cases_Bool (nat_lt 35 x)) [
      | inl t ↦ (ltb-true 35 x t, solid_from word (rw t at h))
      | inr f ↦ let e : false ≡ true = rw f at h in absurd (cc)
    ]

pub solid_codes : (word : List ℕ) → nat_lt 0 (length word) ≡ true → list_all (λ x. nat_lt 35 x) word ≡ true → IsSolid word
solid_codes word some all = record { some = ltb-true 0 (length word) some; octets = solid_from word all }

-- the line of a step that can be read
step_read : (laws : Laws) (level : Level) (late : Bool) (choices : Choices) (step : Step) → IsReadableStep level step
    → line_says level late choices (step_words step) ≡ Ok (Does step)
unfolding line_says
step_read laws level late choices (Fixed link engine rbc ke kr) h =
    rw (h.of_level, link_read laws link h.range.0.0 h.range.0.1, laws.words.number 0 16777215 engine (omega arith) (omega (arith, h.range.1)) (omega (arith, h.range.1)), laws.words.number 0 16777215 rbc (omega arith) (omega (arith, h.range.2)) (omega (arith, h.range.2)), key_read laws ke h.range.3, key_read laws kr h.range.4) refl
step_read laws level late choices (Link link engine rbc ke kr ra rb) h =
    rw (h.of_level, link_read laws link h.range.0.0 h.range.0.1, laws.words.number 0 16777215 engine (omega arith) (omega (arith, h.range.1)) (omega (arith, h.range.1)), laws.words.number 0 16777215 rbc (omega arith) (omega (arith, h.range.2)) (omega (arith, h.range.2)), key_read laws ke h.range.3, optional_key_read laws kr h.range.4, laws.words.number16 ra h.range.5, laws.words.number16 rb h.range.6) refl
step_read laws level late choices (Wire link) h =
    rw (h.of_level, link_read laws link h.range.0 h.range.1) refl
step_read laws level late choices (Send link side text) h =
    rw (h.of_level, link_read laws link h.range.0.0 h.range.0.1, laws.words.side side, laws.words.text 4096 text (octets_within text h.range.1) h.range.1.0) refl
step_read laws level late choices (Pass link side) h =
    rw (h.of_level, link_read laws link h.range.0 h.range.1, laws.words.side side) refl
step_read laws level late choices (Lose link side) h =
    rw (h.of_level, link_read laws link h.range.0 h.range.1, laws.words.side side) refl
step_read laws level late choices (Repeat link side) h =
    rw (h.of_level, link_read laws link h.range.0 h.range.1, laws.words.side side) refl
step_read laws level late choices (Alter link side place mask) h =
    rw (h.of_level, link_read laws link h.range.0.0 h.range.0.1, laws.words.side side, laws.words.number 0 18446744073709551615 place (omega arith) (omega (arith, h.range.1)) h.range.1, mask_read laws mask h.range.2 h.range.3) refl
step_read laws level late choices (Put link side text) h =
    rw (h.of_level, link_read laws link h.range.0.0 h.range.0.1, laws.words.side side, laws.words.text 4096 text (octets_within text h.range.1) h.range.1.0) refl
step_read laws level late choices (Copy link side to_link to_side) h =
    rw (h.of_level, link_read laws link h.range.0.0 h.range.0.1, laws.words.side side, link_read laws to_link h.range.1.0 h.range.1.1, laws.words.side to_side) refl
step_read laws level late choices (Take link side) h =
    rw (h.of_level, link_read laws link h.range.0 h.range.1, laws.words.side side) refl
step_read laws level late choices (Release link side sub) h =
    rw (h.of_level, link_read laws link h.range.0.0 h.range.0.1, laws.words.side side, laws.words.number 0 255 sub (omega arith) (omega (arith, h.range.1)) (omega (arith, h.range.1))) refl
step_read laws level late choices (Tick moment) h =
    rw (h.of_level, laws.words.number 0 1000000000000000 moment (omega arith) h.range (omega (arith, h.range))) refl
step_read laws level late choices (Drain link most) h =
    rw (h.of_level, link_read laws link h.range.0.0 h.range.0.1, laws.words.number 1 100000 most h.range.1 h.range.2 (omega (arith, h.range.2))) refl

-- and it is a line
step_line : (laws : Laws) (level : Level) (step : Step) → IsReadableStep level step → IsLine (step_words step)
step_line laws level (Fixed link engine rbc ke kr) h = (solid_codes (codes "fixed") refl refl, (laws.words.number_word link (omega (arith, h.range.0.1)), (laws.words.number_word engine (omega (arith, h.range.1)), (laws.words.number_word rbc (omega (arith, h.range.2)), (solid_key laws ke h.range.3, (solid_key laws kr h.range.4, tt))))))
step_line laws level (Link link engine rbc ke kr ra rb) h = (solid_codes (codes "link") refl refl, (laws.words.number_word link (omega (arith, h.range.0.1)), (laws.words.number_word engine (omega (arith, h.range.1)), (laws.words.number_word rbc (omega (arith, h.range.2)), (solid_key laws ke h.range.3, (solid_optional_key laws kr h.range.4, (laws.words.number16_word ra h.range.5, (laws.words.number16_word rb h.range.6, tt))))))))
step_line laws level (Wire link) h = (solid_codes (codes "wire") refl refl, (laws.words.number_word link (omega (arith, h.range.1)), tt))
step_line laws level (Send link side text) h = (solid_codes (codes "send") refl refl, (laws.words.number_word link (omega (arith, h.range.0.1)), (laws.words.side_is_word side, (laws.words.octets_word text (octets_within text h.range.1), tt))))
step_line laws level (Pass link side) h = (solid_codes (codes "pass") refl refl, (laws.words.number_word link (omega (arith, h.range.1)), (laws.words.side_is_word side, tt)))
step_line laws level (Lose link side) h = (solid_codes (codes "lose") refl refl, (laws.words.number_word link (omega (arith, h.range.1)), (laws.words.side_is_word side, tt)))
step_line laws level (Repeat link side) h = (solid_codes (codes "repeat") refl refl, (laws.words.number_word link (omega (arith, h.range.1)), (laws.words.side_is_word side, tt)))
step_line laws level (Alter link side place mask) h = (solid_codes (codes "alter") refl refl, (laws.words.number_word link (omega (arith, h.range.0.1)), (laws.words.side_is_word side, (laws.words.number_word place h.range.1, (laws.words.octets_word (mask ∷ []) (one_octet mask h.range.3), tt)))))
step_line laws level (Put link side text) h = (solid_codes (codes "put") refl refl, (laws.words.number_word link (omega (arith, h.range.0.1)), (laws.words.side_is_word side, (laws.words.octets_word text (octets_within text h.range.1), tt))))
step_line laws level (Copy link side to_link to_side) h = (solid_codes (codes "copy") refl refl, (laws.words.number_word link (omega (arith, h.range.0.1)), (laws.words.side_is_word side, (laws.words.number_word to_link (omega (arith, h.range.1.1)), (laws.words.side_is_word to_side, tt)))))
step_line laws level (Take link side) h = (solid_codes (codes "take") refl refl, (laws.words.number_word link (omega (arith, h.range.1)), (laws.words.side_is_word side, tt)))
step_line laws level (Release link side sub) h = (solid_codes (codes "release") refl refl, (laws.words.number_word link (omega (arith, h.range.0.1)), (laws.words.side_is_word side, (laws.words.number_word sub (omega (arith, h.range.1)), tt))))
step_line laws level (Tick moment) h = (solid_codes (codes "tick") refl refl, (laws.words.number_word moment (omega (arith, h.range)), tt))
step_line laws level (Drain link most) h = (solid_codes (codes "drain") refl refl, (laws.words.number_word link (omega (arith, h.range.0.1)), (laws.words.number_word most (omega (arith, h.range.2)), tt)))

pub steps_are_lines : (laws : Laws) (level : Level) (steps : List Numbered) → AreReadableSteps level steps
    → AreLines (words_of_numbered_steps steps)
steps_are_lines laws level [] h = tt
steps_are_lines laws level (numbered ∷ steps) h =
    (step_line laws level numbered.step h.0, steps_are_lines laws level steps h.1)

-- the steps of lines that are printed, each with its line
abbrev pub done_from : ℕ → List Numbered → List Numbered
done_from before [] = []
done_from before (numbered ∷ steps) = record { line = before + 1; step = numbered.step } ∷ done_from (before + 1) steps

pub steps_read : (laws : Laws) (level : Level) (late : Bool) (choices : Choices) (before : ℕ) (steps : List Numbered)
    → AreReadableSteps level steps
    → scenario_body_of level late choices (rows_from before (words_of_numbered_steps steps)) ≡ Ok (record { choices = choices; steps = done_from before steps })
unfolding scenario_body_of
steps_read laws level late choices before [] h = refl
steps_read laws level late choices before (numbered ∷ steps) h =
    rw (step_read laws level late choices numbered.step h.0, steps_read laws level true choices (before + 1) steps h.1) refl

-- and they are the same, line numbers aside
pub same_steps : (before : ℕ) (steps : List Numbered) → map (λ n. n.step) (done_from before steps) ≡ map (λ n. n.step) steps
same_steps before [] = refl
same_steps before (numbered ∷ steps) = ap (λ (rest : List Step). numbered.step ∷ rest) (same_steps (before + 1) steps)
