-- Entries that were read, before those that are left.
use Rattle.std.proofs.Common.{◌≡◌, ℕ, ◌+◌, ◌<◌, List, [], ◌∷◌, ◌++◌, length, map, drop, get_or, Result, Ok, Err, refl, ap, sym, ◌∙◌, append_assoc}
use Rattle.std.proofs.lemmas.List.{map-append}
use Rattle.toml.specs.View.{view, items_view}
use Rattle.toml.specs.declared.value.Value.{Value}
use Rattle.toml.proofs.Views.{items_view-drop}
use Rattle.key_store.specs.declared.key_entry.KeyEntry.{KeyEntry}
use Rattle.key_store.specs.Kept.{key_entry_of}
use Rattle.key_store.proofs.Twices.{range_more}
use Rattle.toml.specs.Data.{Data, Items, item}
use Rattle.safety_automaton.specs.Keys.{KmacEntry}
use Rattle.key_store.specs.declared.key_file_fault.KeyFileFault.{KeyFileFault}
use Rattle.key_store.specs.declared.key_file_fault.KeyFileFault.TheVariants as fault
use Rattle.key_store.specs.declared.version.Version.{Version as Form}
use Rattle.key_store.specs.Answers.{RefusesAsKeyFileSays}
use Rattle.key_store.specs.KeyFiles.{◌>>=◌, entry_in, key_entries_in_items}
use Rattle.key_store.specs.Ranges.{IsInRange, AreInRange}

abbrev pub behind : List KmacEntry → Result (List KmacEntry) KeyFileFault → Result (List KmacEntry) KeyFileFault
behind front (Ok entries) = Ok (front ++ entries)
behind front (Err fault) = Err fault

-- an entry before those that follow it
abbrev before_rest : KmacEntry → Result (List KmacEntry) KeyFileFault → Result (List KmacEntry) KeyFileFault
before_rest entry (Ok entries) = Ok (entry ∷ entries)
before_rest entry (Err fault) = Err fault

one_more : (front : List KmacEntry) (entry : KmacEntry) (rest : Result (List KmacEntry) KeyFileFault)
    → behind front (before_rest entry rest) ≡ behind (front ++ entry ∷ []) rest
one_more front entry (Ok entries) = ap (λ (l : List KmacEntry). Ok l) (sym (append_assoc front (entry ∷ []) entries))
one_more front entry (Err fault) = refl

joined : (entry : KmacEntry) (rest : Result (List KmacEntry) KeyFileFault) → (rest >>= λ entries. Ok (entry ∷ entries)) ≡ before_rest entry rest
joined entry (Ok entries) = refl
joined entry (Err fault) = refl

-- one table more that says an entry
pub entry_more : (form : Form) (before : ℕ) (front : List KmacEntry) (entry : KmacEntry) (d : Data) (ds : Items)
    → entry_in form (before + 1) d ≡ Ok entry
    → behind front (key_entries_in_items form before (item d ds)) ≡ behind (front ++ entry ∷ []) (key_entries_in_items form (before + 1) ds)
unfolding key_entries_in_items
entry_more form before front entry d ds e =
    rw e (ap (behind front) (joined entry (key_entries_in_items form (before + 1) ds)) ∙ one_more front entry (key_entries_in_items form (before + 1) ds))

-- one that is refused
pub entry_refused : (form : Form) (before : ℕ) (front : List KmacEntry) (refused : KeyFileFault) (d : Data) (ds : Items)
    → entry_in form (before + 1) d ≡ Err refused → behind front (key_entries_in_items form before (item d ds)) ≡ Err refused
unfolding key_entries_in_items
entry_refused form before front refused d ds e = rw e refl

pub refuses_all : (form : Form) (before : ℕ) (front : List KmacEntry) (refused : KeyFileFault) (d : Data) (ds : Items) (all : Result (List KmacEntry) KeyFileFault)
    → RefusesAsKeyFileSays refused (entry_in form (before + 1) d) → behind front (key_entries_in_items form before (item d ds)) ≡ all → RefusesAsKeyFileSays refused all
refuses_all form before front fault.Document d ds all e h = sym h ∙ entry_refused form before front fault.Document d ds e
refuses_all form before front (fault.Field n name) d ds all e h = sym h ∙ entry_refused form before front (fault.Field n name) d ds e
refuses_all form before front (fault.Hex n) d ds all e h = sym h ∙ entry_refused form before front (fault.Hex n) d ds e
refuses_all form before front (fault.Number n) d ds all e h = sym h ∙ entry_refused form before front (fault.Number n) d ds e
refuses_all form before front (fault.Range n) d ds all e h = sym h ∙ entry_refused form before front (fault.Range n) d ds e
refuses_all form before front (fault.Twice a b) d ds all e h = sym h ∙ entry_refused form before front (fault.Twice a b) d ds e
refuses_all form before front (fault.Version n) d ds all e h = sym h ∙ entry_refused form before front (fault.Version n) d ds e
refuses_all form before front (fault.NoMemory want) d ds all e h = tt

-- the same of the values and the rows that the code has
pub entry_step : (form : Form) (i : ℕ) (front new : List KeyEntry) (read : KeyEntry) (keys : List Value) (key : Value) (all : Result (List KmacEntry) KeyFileFault)
    → i < length keys → key ≡ get_or keys i key → new ≡ front ++ read ∷ [] → entry_in form (i + 1) (view key) ≡ Ok (key_entry_of read)
    → behind (map key_entry_of front) (key_entries_in_items form i (items_view (drop i keys))) ≡ all
    → behind (map key_entry_of new) (key_entries_in_items form (i + 1) (items_view (drop (i + 1) keys))) ≡ all
entry_step form i front new read keys key all inside here grown said so_far =
    let one : items_view (drop i keys) ≡ item (view key) (items_view (drop (i + 1) keys)) =
    items_view-drop keys i key inside ∙ ap (λ (v : Value). item (view v) (items_view (drop (i + 1) keys))) (sym here) in
    ap (λ (es : List KeyEntry). behind (map key_entry_of es) (key_entries_in_items form (i + 1) (items_view (drop (i + 1) keys)))) grown
    ∙ ap (λ (es : List KmacEntry). behind es (key_entries_in_items form (i + 1) (items_view (drop (i + 1) keys)))) (map-append key_entry_of front (read ∷ []))
    ∙ sym (entry_more form i (map key_entry_of front) (key_entry_of read) (view key) (items_view (drop (i + 1) keys)) said)
    ∙ ap (λ (ds : Items). behind (map key_entry_of front) (key_entries_in_items form i ds)) (sym one)
    ∙ so_far

pub range_step : (front new : List KeyEntry) (read : KeyEntry) → new ≡ front ++ read ∷ [] → AreInRange (map key_entry_of front)
    → IsInRange (key_entry_of read) → AreInRange (map key_entry_of new)
range_step front new read grown h k =
    let mapped : map key_entry_of new ≡ map key_entry_of front ++ key_entry_of read ∷ [] = ap (map key_entry_of) grown ∙ map-append key_entry_of front (read ∷ []) in
    rw mapped (range_more (map key_entry_of front) (key_entry_of read) h k)
