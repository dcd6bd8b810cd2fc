-- Known answers: a session that is recorded before it goes, of one event, a write of which one octet is taken, and a close.
use Rattle.std.proofs.Common.{◌≡◌, ℕ, true, false, List, [], ◌∷◌, ◌++◌, refl, ap, subst, ◌∙◌, append_assoc, append-nil}
use Rattle.link_trait.specs.declared.wires.WriteAnswer.{WriteAnswer}
use Rattle.link_trait.specs.declared.wires.WriteAnswer.TheVariants as write_answer
use Rattle.outside.specs.Acts.{Sent, Closed, Act, Wrote, Called}
use Rattle.outside.specs.Ties.{IsLeft}
use Rattle.er_end_model.specs.Outcomes.{Octets}
use Rattle.er_trace.specs.declared.event.Event.TheVariants.{Tick}
use Rattle.loop_model.specs.Journals.{JournalEntry, text}
use Rattle.loop_model.specs.Laws.{octets_of_entries}
use Rattle.loop_model.specs.Parts.{of}
use Rattle.recorded.specs.Recordings.{octets_written_in, IsStill}
use Rattle.readiness_loop.specs.Recorded.{pieces_in, given_to_connection}
use Rattle.recorded_runs.specs.Inside.{HaveWritten, IsGivenBehind, IsClosedBehind, GoesBehindRecording}

abbrev pub one_event : JournalEntry
one_event = record { moment = 5; conn = 1; event = Tick; outcomes = Octets (7 ∷ 8 ∷ []) ∷ [] }

abbrev pub one_write : Act
one_write = Called (Sent 1 (7 ∷ 8 ∷ []) (write_answer.Some 1))

-- the header and the lines were written each by itself; inside they are one piece
abbrev pub right_loop : List ℕ → List Act
right_loop header = Wrote header true ∷ Wrote (text (one_event ∷ [])) true ∷ one_write ∷ Called (Closed 1) ∷ []

abbrev pub joined_piece : List ℕ → Act
joined_piece header = Wrote (header ++ text (one_event ∷ [])) true

abbrev pub right_inside : List ℕ → List Act
right_inside header = joined_piece header ∷ one_write ∷ Called (Closed 1) ∷ []

written_first : (header : List ℕ) → HaveWritten (joined_piece header ∷ []) (header ++ text (one_event ∷ []))
unfolding octets_written_in IsLeft
written_first header = record {
  written = append-nil (header ++ text (one_event ∷ []));
  whole = refl;
  left = λ all p. p.4 ∙ ap (λ (os : List ℕ). os ++ p.1) p.2 ∙ ap (λ (os : List ℕ). (header ++ text (one_event ∷ [])) ++ os) p.3
      ∙ append-nil (header ++ text (one_event ∷ []));
}

first_given : (header : List ℕ) → IsGivenBehind header 1 (joined_piece header ∷ []) (given_to_connection 1 (joined_piece header ∷ one_write ∷ []))
unfolding given_to_connection octets_of_entries of
first_given header = record { events = one_event ∷ []; written = written_first header; told = record { rest = 8 ∷ []; is = refl } }

given_so : (header : List ℕ) (x : Act) (conn : ℕ) (piece : List ℕ) (answer : WriteAnswer)
    → joined_piece header ≡ x → one_write ≡ Called (Sent conn piece answer) → 1 ≡ conn
    → IsGivenBehind header conn (x ∷ []) (given_to_connection conn (x ∷ Called (Sent conn piece answer) ∷ []))
given_so header x conn piece answer p q r =
    subst (λ (y : Act). IsGivenBehind header conn (y ∷ []) (given_to_connection conn (y ∷ Called (Sent conn piece answer) ∷ []))) p
    (subst (λ (y : Act). IsGivenBehind header conn (joined_piece header ∷ []) (given_to_connection conn (joined_piece header ∷ y ∷ []))) q
    (subst (λ (c : ℕ). IsGivenBehind header c (joined_piece header ∷ []) (given_to_connection c (joined_piece header ∷ one_write ∷ []))) r
    (first_given header)))

at_given : (header : List ℕ) (conn : ℕ) (piece : List ℕ) (answer : WriteAnswer) (done rest : List Act)
    → right_inside header ≡ done ++ Called (Sent conn piece answer) ∷ rest
    → IsGivenBehind header conn done (given_to_connection conn (done ++ Called (Sent conn piece answer) ∷ []))
at_given header conn piece answer [] rest p = absurd (cc p)
at_given header conn piece answer (x ∷ []) rest p = given_so header x conn piece answer (cc p) (cc p) (cc p)
at_given header conn piece answer (x ∷ y ∷ []) rest p = absurd (cc p)
at_given header conn piece answer (x ∷ y ∷ z ∷ []) rest p = absurd (cc p)
at_given header conn piece answer (x ∷ y ∷ z ∷ w ∷ done) rest p = absurd (cc p)

first_closed : (header : List ℕ) → IsClosedBehind header 1 (right_loop header) (joined_piece header ∷ one_write ∷ []) []
unfolding octets_written_in IsLeft pieces_in of
first_closed header = record {
  before = Wrote header true ∷ Wrote (text (one_event ∷ [])) true ∷ one_write ∷ [];
  behind = [];
  did = refl;
  last = record {
    events = one_event ∷ [];
    written = ap (λ (os : List ℕ). header ++ os) (append-nil (text (one_event ∷ [])));
    later = [];
    behind = refl;
    others = refl;
    untouched = refl;
  };
  written = record {
    written = append_assoc header (text (one_event ∷ [])) [];
    whole = refl;
    left = λ all p. p.4 ∙ ap (λ (os : List ℕ). os ++ p.1) p.2
        ∙ ap (λ (os : List ℕ). (header ++ text (one_event ∷ [])) ++ os) (p.3.4 ∙ ap (λ (os : List ℕ). os ++ p.3.1) p.3.2 ∙ p.3.3)
        ∙ append_assoc header (text (one_event ∷ [])) [];
  };
  untouched = refl;
}

closed_so : (header : List ℕ) (x y : Act) (conn : ℕ) (rest : List Act) → joined_piece header ≡ x → one_write ≡ y → 1 ≡ conn → [] ≡ rest
    → IsClosedBehind header conn (right_loop header) (x ∷ y ∷ []) rest
closed_so header x y conn rest p q r s =
    subst (λ (z : Act). IsClosedBehind header conn (right_loop header) (z ∷ y ∷ []) rest) p
    (subst (λ (z : Act). IsClosedBehind header conn (right_loop header) (joined_piece header ∷ z ∷ []) rest) q
    (subst (λ (c : ℕ). IsClosedBehind header c (right_loop header) (joined_piece header ∷ one_write ∷ []) rest) r
    (subst (λ (zs : List Act). IsClosedBehind header 1 (right_loop header) (joined_piece header ∷ one_write ∷ []) zs) s (first_closed header))))

at_closed : (header : List ℕ) (conn : ℕ) (done rest : List Act) → right_inside header ≡ done ++ Called (Closed conn) ∷ rest
    → IsClosedBehind header conn (right_loop header) done rest
at_closed header conn [] rest p = absurd (cc p)
at_closed header conn (x ∷ []) rest p = absurd (cc p)
at_closed header conn (x ∷ y ∷ []) rest p = closed_so header x y conn rest (cc p) (cc p) (cc p) (cc p)
at_closed header conn (x ∷ y ∷ z ∷ []) rest p = absurd (cc p)
at_closed header conn (x ∷ y ∷ z ∷ w ∷ done) rest p = absurd (cc p)

none_failed : (header piece : List ℕ) (done rest : List Act) → right_inside header ≡ done ++ Wrote piece false ∷ rest → IsStill rest
none_failed header piece [] rest p = absurd (cc p)
none_failed header piece (x ∷ []) rest p = absurd (cc p)
none_failed header piece (x ∷ y ∷ []) rest p = absurd (cc p)
none_failed header piece (x ∷ y ∷ z ∷ []) rest p = absurd (cc p)
none_failed header piece (x ∷ y ∷ z ∷ w ∷ done) rest p = absurd (cc p)

right_goes_behind : (header : List ℕ) → GoesBehindRecording header (right_loop header) (right_inside header)
right_goes_behind header = record { given = at_given header; closed = at_closed header; failed = none_failed header }
