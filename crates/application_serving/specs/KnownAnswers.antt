-- Known answers, worked out by hand: what acts show of an application that comes, says a line, gets a part of the answer and leaves; and of a connection.
use Rattle.std.specs.Prelude.{codes, ◌≡◌, ℕ, true, false, List, [], ◌∷◌, ◌++◌, Some, None, refl}
use Rattle.std.specs.Fmt.{digits}
use Rattle.er_base.specs.LineTexts.{line_text, line_end}
use Rattle.er_trace.specs.declared.event.Event.TheVariants as event
use Rattle.er_trace.specs.Outcomes as trace
use Rattle.link_trait.specs.Wires as wires
use Rattle.link_trait.specs.declared.wires.Conn.{Conn}
use Rattle.link_trait.specs.declared.wires.Happening.TheVariants as happening
use Rattle.link_trait.specs.declared.wires.WriteAnswer.TheVariants as write_answer
use Rattle.outside.specs.Acts.{Act, Called, Asked, Wrote, Fetched, Failed, Turned, Read, Sent, Closed}
use Rattle.application_lines.specs.Notices.{Counts}
use Rattle.application_model.specs.Ends.{EventTime}
use Rattle.application_model.specs.Histories.{ServiceItem, Came, Attaches, Departs, Brings, Opens, Informed, Occurred}
use Rattle.application_serving.specs.SeenOctets.{NobodySeen, SeenThere, application_in_acts, octets_read_of, octets_given_to, is_brought_in, is_closed_in}
use Rattle.application_serving.specs.Serving.{application_in_items, octets_told_at, octets_heard_at, text_written_by_acts, key_files_in_acts, greatest_moment}

abbrev conn : ℕ → Conn
conn n = record { 0 = n }

abbrev comes : Act
comes = Called (Turned None (happening.Writable (conn 0)))

abbrev says : List ℕ → Act
says octets = Called (Read 0 4096 (wires.Gave octets))

abbrev takes : List ℕ → ℕ → Act
takes piece count = Called (Sent 0 piece (write_answer.Some count))

abbrev answer : List ℕ
answer = codes "counts 0 0 0 0\n"

-- it came, said a line, and took six octets of the answer
abbrev attached : List Act
attached = Asked 5 ∷ comes ∷ Wrote (codes "x") false ∷ says (codes "counts\nke") ∷ takes answer 6 ∷ []

pub of_an_application :
    (application_in_acts (comes ∷ []) ≡ SeenThere [] [])
    × (application_in_acts attached ≡ SeenThere (codes "counts\nke") (codes "counts"))
    × (application_in_acts (attached ++ comes ∷ []) ≡ SeenThere (codes "counts\nke") (codes "counts"))
    × (application_in_acts (attached ++ Called (Closed 0) ∷ says (codes "lost") ∷ []) ≡ NobodySeen)
    × (application_in_acts (attached ++ Called (Closed 0) ∷ comes ∷ []) ≡ SeenThere [] [])
    × (text_written_by_acts attached ≡ [])
    × (key_files_in_acts (Fetched (codes "k") Failed ∷ []) ≡ [])
of_an_application = (refl, refl, refl, refl, refl, refl, refl)

-- in the history: what it brought was heard up to its line, and the answer waits whole
pub of_its_history :
    (application_in_items (Came Attaches ∷ Came (Brings (codes "counts\n")) ∷ Informed (Counts 0 0 0 0) ∷ []) ≡ SeenThere (codes "counts\n") answer)
    × (application_in_items (Came Attaches ∷ Came Departs ∷ Informed (Counts 0 0 0 0) ∷ []) ≡ NobodySeen)
unfolding line_text line_end digits
of_its_history = (refl, refl)

abbrev at : EventTime
at = record { moment = 5; keys = 0 }

-- a connection that was accepted, heard two octets of three, and told two that were written in part
abbrev spoken : List Act
spoken =
    Called (Turned (Some 9) (happening.Accepted (conn 1))) ∷ Called (Read 1 4096 (wires.Gave (7 ∷ 8 ∷ 9 ∷ [])))
    ∷ Called (Sent 1 (1 ∷ 2 ∷ []) (write_answer.Some 1)) ∷ Called (Sent 1 (2 ∷ []) write_answer.NotNow) ∷ []

abbrev heard : List ServiceItem
heard = Came (Opens (event.Answer 9 1)) ∷ Occurred at 1 (event.Octets (7 ∷ 8 ∷ [])) (trace.Octets (1 ∷ 2 ∷ []) ∷ []) ∷ []

pub of_a_connection :
    (is_brought_in 1 spoken ≡ true)
    × (is_brought_in 2 spoken ≡ false)
    × (is_closed_in 1 spoken ≡ false)
    × (is_closed_in 1 (spoken ++ Called (Closed 1) ∷ []) ≡ true)
    × (octets_read_of 1 spoken ≡ 7 ∷ 8 ∷ 9 ∷ [])
    × (octets_given_to 1 spoken ≡ 1 ∷ [])
    × (octets_heard_at 1 heard ≡ 7 ∷ 8 ∷ [])
    × (octets_told_at 1 heard ≡ 1 ∷ 2 ∷ [])
    × (octets_told_at 2 heard ≡ [])
    × (greatest_moment (Asked 5 ∷ Asked 9 ∷ Asked 7 ∷ []) ≡ 9)
of_a_connection = (refl, refl, refl, refl, refl, refl, refl, refl, refl, refl)
