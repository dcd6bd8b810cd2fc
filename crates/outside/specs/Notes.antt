-- Representation: the act that a note of the code is.
use Rattle.std.specs.Prelude.{length, is_ok}
use Rattle.link_trait.specs.Wires.{reading_of, dialled}
use Rattle.outside.specs.Acts.{Listened, Dialled, Turned, Read, Sent, Closed, Act, Fetched, Wrote, Called, Asked, Drew}
use Rattle.outside.specs.Seen.{fetched_by}
use Rattle.outside.specs.declared.note.Note.{Note}
use Rattle.outside.specs.declared.note.Note.TheVariants as note

abbrev pub act_of_note : Note → Act
act_of_note (note.Fetched name answer) = Fetched name.now (fetched_by (λ file. file.items) answer.now)
act_of_note (note.Wrote piece answer) = Wrote piece.now (is_ok answer.now)
act_of_note (note.Listened address answer) = Called (Listened address.now (is_ok answer.now))
act_of_note (note.Dialled address answer) = Called (Dialled address.now (dialled answer.now))
act_of_note (note.Turned until what) = Called (Turned until what)
act_of_note (note.Read conn into answer) = Called (Read conn.0 (length into.now) (reading_of answer into.now))
act_of_note (note.Sent conn piece answer) = Called (Sent conn.0 piece.now answer)
act_of_note (note.Closed conn) = Called (Closed conn.0)
act_of_note (note.Asked moment) = Asked moment
act_of_note (note.Drew word) = Drew word
