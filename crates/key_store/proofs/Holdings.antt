-- Entries as they are kept hold where they do as they are seen.
use Rattle.std.proofs.Common.{◌≡◌, ℕ, ◌+◌, List, [], ◌∷◌, map, refl, ap, sym, ◌∙◌}
use Rattle.std.specs.Prelude.{count_by, if◌then◌else◌}
use Rattle.std.proofs.lemmas.List.Sums.{sum_by-cons}
use Rattle.key_store.specs.declared.key_entry.KeyEntry.{KeyEntry}
use Rattle.key_store.specs.Kept.{key_entry_of}
use Rattle.key_store.specs.Holding.{holds_at}

pub held_by_view : (now : ℕ) (entries : List KeyEntry)
    → count_by (λ entry. holds_at now (key_entry_of entry)) entries ≡ count_by (holds_at now) (map key_entry_of entries)
held_by_view now [] = refl
held_by_view now (entry ∷ entries) =
    sum_by-cons (λ e. if holds_at now (key_entry_of e) then 1 else 0) entry entries
    ∙ ap (λ n. (if holds_at now (key_entry_of entry) then 1 else 0) + n) (held_by_view now entries)
    ∙ sym (sum_by-cons (λ e. if holds_at now e then 1 else 0) (key_entry_of entry) (map key_entry_of entries))
