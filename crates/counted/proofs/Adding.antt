-- Counts of a list of entries, with one entry more.
use Rattle.std.proofs.Common.{◌≡◌, ℕ, zero, suc, ◌+◌, ◌-◌, ◌^◌, Bool, cond, min, List, [], ◌∷◌, ◌++◌, length, refl, ap, ◌∙◌, sym, arith, Some, if◌then◌else◌}
use Rattle.std.specs.Prelude.{slice_get}
use Rattle.std.specs.List.{count_by, filter_map}
use Rattle.std.proofs.lemmas.List.{append-nil, length-append}
use Rattle.std.proofs.lemmas.List.Concat.{flat_map-append}
use Rattle.std.proofs.lemmas.List.Elements.{filter_map-append}
use Rattle.std.proofs.lemmas.List.Sums.{sum_by_push, sum_by-append, length-filter}
use Rattle.er_base.specs.declared.release.Release.{Release}
use Rattle.er_end_model.specs.Outcomes.{Outcome}
use Rattle.loop_model.specs.Journals.{JournalEntry}
use Rattle.journal.specs.Tallies.{what_event_begins, messages_said_by_event, tells_connection, tells_acceptance, tells_refusal, told_release, count_outcomes}
use Rattle.journal.specs.Tallies.{release_or_none, IsTallyOfEntry}
use Rattle.journal.specs.declared.event_tally.EventTally.{EventTally}
use Rattle.counted.specs.Counting.{begins_an_end, turns_away, ends_begun_in_journal, turned_away_in_journal, said_in_journal, outcomes_of_entries}
use Rattle.counted.specs.Counting.{connected_in_journal, accepted_in_journal, refused_in_journal}
use Rattle.counted.specs.Counting.{releases_in_journal, shown_count}

outcomes_with : (xs : List JournalEntry) (x : JournalEntry) → outcomes_of_entries (xs ++ x ∷ []) ≡ outcomes_of_entries xs ++ x.outcomes
outcomes_with xs x =
    flat_map-append (λ (y : JournalEntry). y.outcomes) xs (x ∷ []) ∙ ap (λ os. outcomes_of_entries xs ++ os) (append-nil x.outcomes)

count_with : (is_one : Outcome → Bool) (xs : List JournalEntry) (x : JournalEntry) (n : ℕ) → n ≡ count_outcomes is_one x.outcomes
    → count_by is_one (outcomes_of_entries (xs ++ x ∷ [])) ≡ count_by is_one (outcomes_of_entries xs) + n
count_with is_one xs x n e =
    ap (count_by is_one) (outcomes_with xs x) ∙
    sum_by-append (λ o. cond (is_one o) 1 0) (outcomes_of_entries xs) x.outcomes ∙
    ap (λ m. count_by is_one (outcomes_of_entries xs) + m) (sym (length-filter is_one x.outcomes) ∙ sym e)

pub opened_with : (xs : List JournalEntry) (x : JournalEntry) (t : EventTally) → IsTallyOfEntry x t
    → ends_begun_in_journal (xs ++ x ∷ []) ≡ ends_begun_in_journal xs + (if begins_an_end t.began then 1 else 0)
opened_with xs x t is =
    sum_by_push (λ y. cond (begins_an_end (what_event_begins y.event)) 1 0) xs x ∙
    ap (λ b. ends_begun_in_journal xs + (if begins_an_end b then 1 else 0)) (sym is.began)

pub turned_away_with : (xs : List JournalEntry) (x : JournalEntry) (t : EventTally) → IsTallyOfEntry x t
    → turned_away_in_journal (xs ++ x ∷ []) ≡ turned_away_in_journal xs + (if turns_away t.began then 1 else 0)
turned_away_with xs x t is =
    sum_by_push (λ y. cond (turns_away (what_event_begins y.event)) 1 0) xs x ∙
    ap (λ b. turned_away_in_journal xs + (if turns_away b then 1 else 0)) (sym is.began)

pub said_with : (xs : List JournalEntry) (x : JournalEntry) (t : EventTally) → IsTallyOfEntry x t → said_in_journal (xs ++ x ∷ []) ≡ said_in_journal xs + t.said
said_with xs x t is = sum_by_push (λ y. messages_said_by_event y.event) xs x ∙ ap (λ n. said_in_journal xs + n) (sym is.said)

pub connected_with : (xs : List JournalEntry) (x : JournalEntry) (t : EventTally) → IsTallyOfEntry x t
    → connected_in_journal (xs ++ x ∷ []) ≡ connected_in_journal xs + t.connected
connected_with xs x t is = count_with tells_connection xs x t.connected is.connected

pub accepted_with : (xs : List JournalEntry) (x : JournalEntry) (t : EventTally) → IsTallyOfEntry x t
    → accepted_in_journal (xs ++ x ∷ []) ≡ accepted_in_journal xs + t.accepted
accepted_with xs x t is = count_with tells_acceptance xs x t.accepted is.accepted

pub refused_with : (xs : List JournalEntry) (x : JournalEntry) (t : EventTally) → IsTallyOfEntry x t
    → refused_in_journal (xs ++ x ∷ []) ≡ refused_in_journal xs + t.refused
refused_with xs x t is = count_with tells_refusal xs x t.refused is.refused

pub releases_with : (xs : List JournalEntry) (x : JournalEntry) (t : EventTally) → IsTallyOfEntry x t
    → releases_in_journal (xs ++ x ∷ []) ≡ releases_in_journal xs ++ release_or_none t.released
releases_with xs x t is =
    ap (filter_map told_release) (outcomes_with xs x) ∙
    filter_map-append told_release (outcomes_of_entries xs) x.outcomes ∙
    ap (λ rs. releases_in_journal xs ++ rs) (sym is.released)

-- a count that stands still at its greatest, with more
pub shown_with : (shown old new more : ℕ) → shown ≡ shown_count old → new ≡ old + more → min (shown + more) (2 ^ 64 - 1) ≡ shown_count new
shown_with shown old new more e f = omega arith

last_of : (rs : List Release) (r : Release) (n : ℕ) → n ≡ length rs → slice_get (rs ++ r ∷ []) n ≡ Some r
last_of [] r zero e = refl
last_of [] r (suc n) e = absurd (omega arith)
last_of (x ∷ xs) r zero e = absurd (omega arith)
last_of (x ∷ xs) r (suc n) e = last_of xs r n (omega arith)

pub newest_last : (rs : List Release) (r : Release) → slice_get (rs ++ r ∷ []) (length (rs ++ r ∷ []) - 1) ≡ Some r
newest_last rs r =
    let l : length (rs ++ r ∷ []) ≡ length rs + length (r ∷ []) = length-append rs (r ∷ []) in
    last_of rs r (length (rs ++ r ∷ []) - 1) (omega arith)
