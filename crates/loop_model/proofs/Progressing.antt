-- A readable turn of a live connection takes an octet where one waits.
use Rattle.loop_model.specs.Ends.{ModelEnd, model_ends}
use Rattle.std.proofs.Common.{◌≡◌, ℕ, ◌≤◌, inl, inr, false, List, [], ◌∷◌, ◌++◌, Option, Some, None, refl, sym, ◌∙◌, ap, subst, append_assoc, arith, eqb-true}
use Rattle.std.specs.Prelude.{◌==◌}
use Rattle.std.proofs.lemmas.Bool.{cases_Bool}
use Rattle.link_trait.specs.Wires.{Call, Reading, Gave, NotNow, End, Failed, Reads, Turns}
use Rattle.link_trait.specs.declared.wires.Conn.{Conn}
use Rattle.link_trait.specs.declared.wires.Happening.{Happening}
use Rattle.link_trait.specs.declared.wires.Happening.TheVariants as happening
use Rattle.loop_model.specs.Sessions.{Rules, Session, is_released, made}
use Rattle.loop_model.specs.Visits.{most_read, Met, Read, came, rests_behind, visited, read_once}
use Rattle.loop_model.specs.Loops.{Plan, rules_of, until, visit_at, happened, Halt, Course, asks, Turn, readied, turned_unless, went_unless, went}
use Rattle.loop_model.specs.Parts.{session_of_connection}
use Rattle.loop_model.specs.Turnings.{IsRead, IsReadBy, AreRead, HasTaken, HasReadProgress, ReadableProgress}

-- a call among others
record IsAmong (call : Call) (calls : List Call) : Type 0 where
  first : List Call
  rest : List Call
  is : calls ≡ first ++ call ∷ rest

among_rest : (call : Call) (cs ds : List Call) → IsAmong call ds → IsAmong call (cs ++ ds)
among_rest call cs ds a = record { first = cs ++ a.first; rest = a.rest; is = ap (λ z. cs ++ z) a.is ∙ sym (append_assoc cs a.first (call ∷ a.rest)) }

among_visit : (r : Rules) (m n : ℕ) (ss : List (Session ModelEnd)) (s : Session ModelEnd) (a : Met) → session_of_connection n ss ≡ Some s → is_released model_ends s ≡ false
    → IsAmong (Reads n most_read a.waits a.reading) (visit_at (visited model_ends r m Read) n ss a).calls
unfolding visit_at session_of_connection visited read_once
among_visit r m n [] s a e live = absurd (let x : ⊥ = cc in x)
among_visit r m n (t ∷ ss) s a e live =
    elim (cases_Bool (t.number == n)) [
      | inl p ↦
          let f : Some t ≡ Some s = rw p at e in
          let g : is_released model_ends t ≡ false = subst (λ z. is_released model_ends z ≡ false) (let h : s ≡ t = cc in h) live in
          rw (p, g)
          (let rest = (rests_behind model_ends a.reading r m (came model_ends a.reading r m (made t) a.says).0 a.wrote).calls in
          record { first = []; rest = rest; is = ap (λ z. Reads z most_read a.waits a.reading ∷ rest) (eqb-true t.number n p) })
      | inr p ↦ rw p (among_visit r m n ss s a (rw p at e) live)
    ]

is_read_at : (first rest : List Call) (call : Call) → AreRead (first ++ call ∷ rest) → IsReadBy call
is_read_at [] rest call p = p.0
is_read_at (c ∷ first) rest call p = is_read_at first rest call p.1

has_taken : (waits : ℕ) (reading : Reading) → IsRead waits reading → 1 ≤ waits → HasTaken reading
has_taken waits (Gave octets) p q = p
has_taken waits NotNow p q = omega arith
has_taken waits End p q = omega arith
has_taken waits Failed p q = tt

progress_of : (conn waits : ℕ) (reading : Reading) (calls : List Call) → IsAmong (Reads conn most_read waits reading) calls → AreRead calls → HasReadProgress conn calls
progress_of conn waits reading calls a reads = record {
  first = a.first;
  waits = waits;
  reading = reading;
  rest = a.rest;
  is = a.is;
  taken = has_taken waits reading (is_read_at a.first a.rest (Reads conn most_read waits reading) (subst AreRead a.is reads));
}

turned_among : (halt : Option Halt) (plan : Plan) (d : Course ModelEnd) (a : Turn) (what : Happening) (conn : Conn) (s : Session ModelEnd) → halt ≡ None → a.happening ≡ what → what ≡ happening.Readable conn
    → session_of_connection conn.0 d.loop.sessions ≡ Some s → is_released model_ends s ≡ false
    → IsAmong (Reads conn.0 most_read a.met.waits a.met.reading) (turned_unless model_ends halt plan d a).calls
unfolding happened
turned_among (Some halt) plan d a what conn s p e f is live = absurd (let x : ⊥ = cc in x)
turned_among None plan d a what conn s p e f is live =
    let l = (asks a.second d).loop in
    among_rest (Reads conn.0 most_read a.met.waits a.met.reading) (Turns (until model_ends d.loop.sessions) a.happening ∷ []) (happened model_ends plan l a.happening a.met).calls
    (subst (λ z. IsAmong (Reads conn.0 most_read a.met.waits a.met.reading) (happened model_ends plan l z a.met).calls) (sym (e ∙ f))
    (among_visit (rules_of plan) l.moment conn.0 l.sessions s a.met is live))

went_among : (halt : Option Halt) (plan : Plan) (c : Course ModelEnd) (a : Turn) (conn : Conn) (s : Session ModelEnd) → halt ≡ None → (readied model_ends plan c a).state.halt ≡ None
    → a.happening ≡ happening.Readable conn → session_of_connection conn.0 (readied model_ends plan c a).state.loop.sessions ≡ Some s → is_released model_ends s ≡ false
    → IsAmong (Reads conn.0 most_read a.met.waits a.met.reading) (went_unless model_ends halt plan c a).calls
went_among (Some halt) plan c a conn s p q e is live = absurd (let x : ⊥ = cc in x)
went_among None plan c a conn s p q e is live =
    let d = readied model_ends plan c a in
    among_rest (Reads conn.0 most_read a.met.waits a.met.reading) d.calls (turned_unless model_ends d.state.halt plan d.state a).calls
    (turned_among d.state.halt plan d.state a a.happening conn s q refl e is live)

pub readable_progress : ReadableProgress
unfolding went
readable_progress plan c a conn s p q e is live reads =
    progress_of conn.0 a.met.waits a.met.reading (went model_ends plan c a).calls (went_among c.halt plan c a conn s p q e is live) reads
