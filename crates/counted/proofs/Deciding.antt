-- Entries of the same lines have the same counts.
use Rattle.std.proofs.Common.{◌≡◌, ℕ, ◌+◌, ◌-◌, Bool, cond, List, [], ◌∷◌, ◌++◌, length, map, refl, ap, ◌∙◌, sym, if◌then◌else◌}
use Rattle.std.specs.Prelude.{slice_get}
use Rattle.std.specs.List.{count_by}
use Rattle.std.proofs.lemmas.List.Elements.{filter_map-append}
use Rattle.std.proofs.lemmas.List.Sums.{sum_by-cons, sum_by-append, length-filter}
use Rattle.er_end_model.specs.Outcomes.{Outcome}
use Rattle.loop_model.specs.Journals.{JournalEntry, entry_text}
use Rattle.outside.specs.Acts.{Act}
use Rattle.journal.specs.declared.event_tally.EventTally.{EventTally}
use Rattle.journal.specs.Tallies.{what_event_begins, messages_said_by_event, tells_connection, tells_acceptance, tells_refusal, told_release}
use Rattle.journal.specs.Tallies.{count_outcomes, release_or_none, IsTallyOfEntry}
use Rattle.journal.specs.Saying.{CountAlike, LinesSayCounts}
use Rattle.counted.specs.declared.counts.JournalCounts.{JournalCounts}
use Rattle.counted.specs.Counting.{begins_an_end, turns_away, ends_begun_in_journal, turned_away_in_journal, said_in_journal, outcomes_of_entries}
use Rattle.counted.specs.Counting.{connected_in_journal, accepted_in_journal, refused_in_journal, releases_in_journal, shown_count, counts_of_releases}
use Rattle.counted.specs.Counting.{HaveTallies, IsCountOf, CountTheSame}

-- ---- what one entry adds to the counts behind it

begun : (x : JournalEntry) (xs : List JournalEntry) (t : EventTally) → IsTallyOfEntry x t
    → ends_begun_in_journal (x ∷ xs) ≡ (if begins_an_end t.began then 1 else 0) + ends_begun_in_journal xs
begun x xs t is =
    sum_by-cons (λ (y : JournalEntry). cond (begins_an_end (what_event_begins y.event)) 1 0) x xs ∙
    ap (λ b. (if begins_an_end b then 1 else 0) + ends_begun_in_journal xs) (sym is.began)

turned : (x : JournalEntry) (xs : List JournalEntry) (t : EventTally) → IsTallyOfEntry x t
    → turned_away_in_journal (x ∷ xs) ≡ (if turns_away t.began then 1 else 0) + turned_away_in_journal xs
turned x xs t is =
    sum_by-cons (λ (y : JournalEntry). cond (turns_away (what_event_begins y.event)) 1 0) x xs ∙
    ap (λ b. (if turns_away b then 1 else 0) + turned_away_in_journal xs) (sym is.began)

said : (x : JournalEntry) (xs : List JournalEntry) (t : EventTally) → IsTallyOfEntry x t → said_in_journal (x ∷ xs) ≡ t.said + said_in_journal xs
said x xs t is = sum_by-cons (λ (y : JournalEntry). messages_said_by_event y.event) x xs ∙ ap (λ n. n + said_in_journal xs) (sym is.said)

came : (is_one : Outcome → Bool) (x : JournalEntry) (xs : List JournalEntry) (n : ℕ) → n ≡ count_outcomes is_one x.outcomes
    → count_by is_one (outcomes_of_entries (x ∷ xs)) ≡ n + count_by is_one (outcomes_of_entries xs)
came is_one x xs n e =
    sum_by-append (λ o. cond (is_one o) 1 0) x.outcomes (outcomes_of_entries xs) ∙
    ap (λ m. m + count_by is_one (outcomes_of_entries xs)) (sym (length-filter is_one x.outcomes) ∙ sym e)

left : (x : JournalEntry) (xs : List JournalEntry) (t : EventTally) → IsTallyOfEntry x t
    → releases_in_journal (x ∷ xs) ≡ release_or_none t.released ++ releases_in_journal xs
left x xs t is = filter_map-append told_release x.outcomes (outcomes_of_entries xs) ∙ ap (λ rs. rs ++ releases_in_journal xs) (sym is.released)

-- ---- over both lists

record CountTogether (xs ys : List JournalEntry) : Type 0 where
  pub opened : ends_begun_in_journal xs ≡ ends_begun_in_journal ys
  pub turned_away : turned_away_in_journal xs ≡ turned_away_in_journal ys
  pub said : said_in_journal xs ≡ said_in_journal ys
  pub connected : connected_in_journal xs ≡ connected_in_journal ys
  pub accepted : accepted_in_journal xs ≡ accepted_in_journal ys
  pub refused : refused_in_journal xs ≡ refused_in_journal ys
  pub releases : releases_in_journal xs ≡ releases_in_journal ys

sums : (a b m n : ℕ) → a ≡ b → m ≡ n → a + m ≡ b + n
sums a b m n e f = cc

with_one : (x y : JournalEntry) (xs ys : List JournalEntry) (s t : EventTally) → IsTallyOfEntry x s → IsTallyOfEntry y t → CountAlike s t
    → CountTogether xs ys → CountTogether (x ∷ xs) (y ∷ ys)
with_one x y xs ys s t is_x is_y alike both = record {
  opened =
      begun x xs s is_x ∙ sums _ _ _ _ (ap (λ b. if begins_an_end b then 1 else 0) alike.began) both.opened ∙ sym (begun y ys t is_y);
  turned_away =
      turned x xs s is_x ∙ sums _ _ _ _ (ap (λ b. if turns_away b then 1 else 0) alike.began) both.turned_away ∙ sym (turned y ys t is_y);
  said = said x xs s is_x ∙ sums _ _ _ _ alike.said both.said ∙ sym (said y ys t is_y);
  connected =
      came tells_connection x xs s.connected is_x.connected ∙ sums _ _ _ _ alike.connected both.connected ∙
      sym (came tells_connection y ys t.connected is_y.connected);
  accepted =
      came tells_acceptance x xs s.accepted is_x.accepted ∙ sums _ _ _ _ alike.accepted both.accepted ∙
      sym (came tells_acceptance y ys t.accepted is_y.accepted);
  refused =
      came tells_refusal x xs s.refused is_x.refused ∙ sums _ _ _ _ alike.refused both.refused ∙ sym (came tells_refusal y ys t.refused is_y.refused);
  releases =
      left x xs s is_x ∙ ap (λ r. release_or_none r ++ releases_in_journal xs) alike.released ∙
      ap (λ rs. release_or_none t.released ++ rs) both.releases ∙ sym (left y ys t is_y);
}

first_of : (a b : List ℕ) (xs ys : List (List ℕ)) → a ∷ xs ≡ b ∷ ys → a ≡ b
first_of a b xs ys e = cc

rest_of : (a b : List ℕ) (xs ys : List (List ℕ)) → a ∷ xs ≡ b ∷ ys → xs ≡ ys
rest_of a b xs ys e = cc

none_is : (a : List ℕ) (xs : List (List ℕ)) → a ∷ xs ≡ [] → ⊥
none_is a xs e = cc

together : LinesSayCounts → (xs ys : List JournalEntry) (ss ts : List EventTally) → HaveTallies xs ss → HaveTallies ys ts
    → map entry_text xs ≡ map entry_text ys → CountTogether xs ys
unfolding HaveTallies
together law [] [] ss ts have_x have_y e =
    record { opened = refl; turned_away = refl; said = refl; connected = refl; accepted = refl; refused = refl; releases = refl }
together law [] (y ∷ ys) ss ts have_x have_y e = absurd (none_is (entry_text y) (map entry_text ys) (sym e))
together law (x ∷ xs) [] ss ts have_x have_y e = absurd (none_is (entry_text x) (map entry_text xs) e)
together law (x ∷ xs) (y ∷ ys) [] ts have_x have_y e = absurd have_x
together law (x ∷ xs) (y ∷ ys) (s ∷ ss) [] have_x have_y e = absurd have_y
together law (x ∷ xs) (y ∷ ys) (s ∷ ss) (t ∷ ts) have_x have_y e =
    let here = first_of (entry_text x) (entry_text y) (map entry_text xs) (map entry_text ys) e in
    let alike =
    law (entry_text x) s t have_x.1.0 have_y.1.0 (record { entry = x; text = refl; counts = have_x.0 }) (record { entry = y; text = here; counts = have_y.0 }) in
    with_one x y xs ys s t have_x.0 have_y.0 alike
    (together law xs ys ss ts have_x.1.1 have_y.1.1 (rest_of (entry_text x) (entry_text y) (map entry_text xs) (map entry_text ys) e))

pub decided : LinesSayCounts → (recorded : List Act) (c d : JournalCounts) → IsCountOf recorded c → IsCountOf recorded d → CountTheSame c d
decided law recorded c d is_c is_d =
    let both = together law is_c.entries is_d.entries is_c.tallies is_d.tallies is_c.have is_d.have (sym is_c.lines ∙ is_d.lines) in
    record {
      opened = is_c.are.opened ∙ ap shown_count both.opened ∙ sym is_d.are.opened;
      turned_away = is_c.are.turned_away ∙ ap shown_count both.turned_away ∙ sym is_d.are.turned_away;
      connected = is_c.are.connected ∙ ap shown_count both.connected ∙ sym is_d.are.connected;
      accepted = is_c.are.accepted ∙ ap shown_count both.accepted ∙ sym is_d.are.accepted;
      said = is_c.are.said ∙ ap shown_count both.said ∙ sym is_d.are.said;
      refused = is_c.are.refused ∙ ap shown_count both.refused ∙ sym is_d.are.refused;
      releases = is_c.are.releases ∙ ap counts_of_releases both.releases ∙ sym is_d.are.releases;
      newest = is_c.are.newest ∙ ap (λ rs. slice_get rs (length rs - 1)) both.releases ∙ sym is_d.are.newest;
    }
