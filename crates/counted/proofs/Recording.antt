-- What was recorded and its counts, with the lines of one event more.
use Rattle.std.proofs.Common.{◌≡◌, ℕ, true, false, List, [], ◌∷◌, ◌++◌, ap, ◌∙◌, sym, map}
use Rattle.std.proofs.Math.Logic.{∥∥₁_map}
use Rattle.std.proofs.lemmas.List.{append-nil, map-append}
use Rattle.std.proofs.lemmas.List.Concat.{flat_map-append}
use Rattle.loop_model.specs.Journals.{JournalEntry, entry_text}
use Rattle.outside.specs.Acts.{Act, Wrote}
use Rattle.journal.specs.Tallies.{IsTallyOf, IsTallyOfEntry}
use Rattle.journal.specs.declared.event_tally.EventTally.{EventTally}
use Rattle.counted.specs.declared.counts.JournalCounts.{JournalCounts}
use Rattle.counted.specs.Counting.{lines_recorded_by, lines_recorded_in, AreCounts, HaveTallies, IsCountOf}
use Rattle.journal.specs.Saying.{HasTallyRanges}

one_more_has : (xs : List JournalEntry) (ts : List EventTally) (x : JournalEntry) (t : EventTally) → HaveTallies xs ts → IsTallyOfEntry x t
    → HasTallyRanges t → HaveTallies (xs ++ x ∷ []) (ts ++ t ∷ [])
unfolding HaveTallies
one_more_has [] [] x t have is ranges = (is, (ranges, tt))
one_more_has [] (u ∷ us) x t have is ranges = absurd have
one_more_has (y ∷ ys) [] x t have is ranges = absurd have
one_more_has (y ∷ ys) (u ∷ us) x t have is ranges = (have.0, (have.1.0, one_more_has ys us x t have.1.1 is ranges))

pub counted_more : (acts next : List Act) (lines : List ℕ) (t : EventTally) (old new : JournalCounts) → next ≡ acts ++ Wrote lines true ∷ [] → IsTallyOf lines t
    → HasTallyRanges t
    → ((xs : List JournalEntry) (x : JournalEntry) → AreCounts xs old → IsTallyOfEntry x t → AreCounts (xs ++ x ∷ []) new)
    → ∥ IsCountOf acts old ∥₁ → ∥ IsCountOf next new ∥₁
counted_more acts next lines t old new e tally ranges adds is = ∥∥₁_map is (λ (c : IsCountOf acts old). record {
  entries = c.entries ++ tally.entry ∷ [];
  lines =
      ap lines_recorded_in e ∙ flat_map-append lines_recorded_by acts (Wrote lines true ∷ []) ∙
      ap (λ xs. xs ++ lines ∷ []) c.lines ∙ ap (λ text. map entry_text c.entries ++ text ∷ []) tally.text ∙
      sym (map-append entry_text c.entries (tally.entry ∷ []));
  tallies = c.tallies ++ t ∷ [];
  have = one_more_has c.entries c.tallies tally.entry t c.have tally.counts ranges;
  are = adds c.entries tally.entry c.are tally.counts;
})

pub counted_still : (acts next : List Act) (lines : List ℕ) (counts : JournalCounts) → next ≡ acts ++ Wrote lines false ∷ []
    → ∥ IsCountOf acts counts ∥₁ → ∥ IsCountOf next counts ∥₁
counted_still acts next lines counts e is = ∥∥₁_map is (λ (c : IsCountOf acts counts). record {
  entries = c.entries;
  lines =
      ap lines_recorded_in e ∙ flat_map-append lines_recorded_by acts (Wrote lines false ∷ []) ∙
      append-nil (lines_recorded_in acts) ∙ c.lines;
  tallies = c.tallies;
  have = c.have;
  are = c.are;
})
