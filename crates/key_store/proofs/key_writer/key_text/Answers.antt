-- The text is read back, and has no date.
use Rattle.std.proofs.Common.{◌≡◌, ◌≤◌, true, Some, Err, map, sym, ◌∙◌, ap, string_bytes}
use Rattle.std.proofs.lemmas.Bool.{false≢true}
use Rattle.std.proofs.lemmas.Str.{IsUtf8-string_bytes}
use Rattle.toml.specs.Data.{Members, members_have_valid_dates, members_depth}
use Rattle.toml.specs.View.{table_view}
use Rattle.toml.specs.declared.ser.error.Error.{Error}
use Rattle.key_store.specs.Kept.{key_entry_of}
use Rattle.key_store.proofs.ReadBack.{Laws, file_read, document_read}
use Rattle.key_store.proofs.Tables.{file_shallow, file_valid}
use Rattle.key_store.proofs.key_writer.key_text.Goals as goal

pub returns-in-Ok : goal.returns-in-Ok
returns-in-Ok c =
    let laws : Laws = record { words = c.printed_words.ensures; eights = c.octets_of_numbers.ensures.eight; joins = c.octets_of_parts.ensures.joined } in
    let shallow : members_depth (table_view c.in_ok-table.table) ≤ 80 = rw c.in_ok-table.ensures.made (file_shallow (map key_entry_of c.args.entries.now)) in
    rw c.into_bytes.ensures.value
    (file_read laws (string_bytes c.in-Ok.text) _ c.in_ok-table.ensures.range c.requires
    (document_read _ _ (IsUtf8-string_bytes c.in-Ok.text) (c.in-Ok.ensures.reads_back shallow ∙ ap (λ (m : Members). Some m) c.in_ok-table.ensures.made)))

pub want_of_printing-requires : goal.want_of_printing-requires
want_of_printing-requires c = λ date.
    let valid : members_have_valid_dates (table_view c.in_ok-table.table) ≡ true = rw c.in_ok-table.ensures.made (file_valid (map key_entry_of c.args.entries.now)) in
    false≢true (sym (c.in-Err.ensures.dates.0 (ap (λ (e : Error). Err e) date)) ∙ valid)
