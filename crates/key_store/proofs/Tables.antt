-- The tables of a key file that are written, and the entries that they say.
use Rattle.std.proofs.Common.{arith, ◌≡◌, ℕ, ◌+◌, ◌<◌, ◌≤◌, true, List, [], ◌∷◌, ◌++◌, map, take, drop, zero, suc, get_or, length, String, Global, Ordering, Less, Equal, Greater, string_bytes, refl, ap, sym, ◌∙◌}
use Rattle.std.proofs.lemmas.List.{take_more, map-append}
use Rattle.std.specs.Ordering.{match_ordering}
use Rattle.std.specs.BTreeMap.{insert_entry}
use Rattle.std.specs.String.{string_cmp}
use Rattle.toml.specs.Data.{table, Items, item, push_item, items_depth, members_depth, items_have_valid_dates, members_have_valid_dates}
use Rattle.toml.specs.View.{view, members_view, items_view}
use Rattle.toml.specs.declared.value.Value.{Value}
use Rattle.toml.proofs.Views.{items_view-push}
use Rattle.safety_automaton.specs.Keys.{KmacEntry}
use Rattle.key_store.specs.declared.key_entry.KeyEntry.{KeyEntry}
use Rattle.key_store.specs.Kept.{key_entry_of}
use Rattle.key_store.specs.Ranges.{AreInRange}
use Rattle.key_store.specs.Written.{put_member, entry_members, entry_items, file_members}

match_members : (o : Ordering) (a b c : List (String Global × Value))
    → members_view (match_ordering o a b c) ≡ match_ordering o (members_view a) (members_view b) (members_view c)
match_members Less a b c = refl
match_members Equal a b c = refl
match_members Greater a b c = refl

pub members_put : (es : List (String Global × Value)) (k : String Global) (v : Value)
    → members_view (insert_entry string_cmp es k v) ≡ put_member (string_bytes k) (view v) (members_view es)
members_put [] k v = refl
members_put (e ∷ es) k v = match_members (string_cmp k e.0) _ _ _ ∙ rw (members_put es k v) refl

items_last : (es : List KmacEntry) (e : KmacEntry) → entry_items (es ++ e ∷ []) ≡ push_item (entry_items es) (table (entry_members e))
items_last [] e = refl
items_last (x ∷ es) e = ap (item (table (entry_members x))) (items_last es e)

-- where a list is over
abbrev pub no_entry : KeyEntry
no_entry = record { engine = 0; rbc = 0; kmac = record { first = 0; second = 0; third = 0 }; first = 0; last = 0 }

-- one table more
pub tables_more : (values : List Value) (v : Value) (entries : List KeyEntry) (i : ℕ) → i < length entries
    → items_view values ≡ entry_items (map key_entry_of (take i entries)) → view v ≡ table (entry_members (key_entry_of (get_or entries i no_entry)))
    → items_view (values ++ v ∷ []) ≡ entry_items (map key_entry_of (take (i + 1) entries))
tables_more values v entries i inside so_far seen =
    items_view-push values v
    ∙ ap (λ (ds : Items). push_item ds (view v)) so_far
    ∙ ap (push_item (entry_items (map key_entry_of (take i entries)))) seen
    ∙ sym (items_last (map key_entry_of (take i entries)) (key_entry_of (get_or entries i no_entry)))
    ∙ ap entry_items (sym (map-append key_entry_of (take i entries) (get_or entries i no_entry ∷ [])))
    ∙ ap (λ (es : List KeyEntry). entry_items (map key_entry_of es)) (sym (take_more entries i no_entry inside))

-- they aren't deep, and have no dates
items_shallow : (es : List KmacEntry) → items_depth (entry_items es) ≤ 1
items_shallow [] = omega arith
items_shallow (e ∷ es) = omega (arith, items_shallow es)

pub file_shallow : (es : List KmacEntry) → members_depth (file_members es) ≤ 80
file_shallow es = omega (arith, items_shallow es)

items_valid : (es : List KmacEntry) → items_have_valid_dates (entry_items es) ≡ true
items_valid [] = refl
items_valid (e ∷ es) = items_valid es

pub file_valid : (es : List KmacEntry) → members_have_valid_dates (file_members es) ≡ true
file_valid es = rw (items_valid es) refl

-- those that are left behind one are in their ranges
range_behind : (entries : List KeyEntry) (i : ℕ) → AreInRange (map key_entry_of (drop i entries)) → AreInRange (map key_entry_of (drop (suc i) entries))
range_behind [] zero h = tt
range_behind [] (suc i) h = tt
range_behind (e ∷ entries) zero h = h.1
range_behind (e ∷ entries) (suc i) h = range_behind entries i h

pub range_left : (entries : List KeyEntry) (i : ℕ) → AreInRange (map key_entry_of (drop i entries)) → AreInRange (map key_entry_of (drop (i + 1) entries))
range_left entries i h = let plus : i + 1 ≡ suc i = omega arith in rw plus (range_behind entries i h)
