-- A fault is told directly behind the read or the write that failed.
use Rattle.loop_model.specs.Ends.{ModelEnd, model_ends}
use Rattle.std.proofs.Common.{◌≡◌, ℕ, ◌+◌, inl, inr, Bool, true, false, ◌||◌, List, [], ◌∷◌, ◌++◌, length, drop, Option, Some, None, refl, sym, subst}
use Rattle.std.specs.Prelude.{◌==◌, nat_lt}
use Rattle.std.proofs.lemmas.Bool.{cases_Bool}
use Rattle.er_users.specs.Users.{Mind}
use Rattle.rand_core.specs.Stream.{next_u64}
use Rattle.link_trait.specs.Wires.{Call, Reading, Gave, NotNow, End, Failed, Reads, Writes}
use Rattle.link_trait.specs.declared.wires.WriteAnswer.{WriteAnswer}
use Rattle.link_trait.specs.declared.wires.WriteAnswer.TheVariants as write
use Rattle.loop_model.specs.Journals.{JournalEntry}
use Rattle.loop_model.specs.Deeds.{LoopDeed, Printing, Calling, printings}
use Rattle.loop_model.specs.Outs.{Out, still, next, makes, acts, exactly, first_answer_of}
use Rattle.loop_model.specs.Sessions.{Rules, Session, GivenToSession, Begins, Hears, Sends, Takes, Leaves, Ticks, Ends, Faults, Stalls, is_released, most_output, journal_event_of_given, end_after, outcomes_of_given_event, entry_of, octets_in, joined, fed, Says, nothing_said, handled, owes_nothing, made}
use Rattle.loop_model.specs.Visits.{WritingState, Going, PutOff, Failing, after_write, writes_once, writes, Wrote, fault_unless, flowed, written_unless, session_behind_writing, session_kept_or_closed, rests, rests_behind, Visit, Tick, Read, Write, Expire, Met, is_due, came, read_once, served, visited}
use Rattle.loop_model.specs.Loops.{Plan, rules_of, Loop, visit_at, next_user, Caller, calling, called_by, called, Course, asks, Turn, run, Dialled, opens, dials_to, dials, begun_dial}
use Rattle.loop_model.specs.Laws.{is_fault}
use Rattle.loop_model.specs.Failures.{Before, Other, ReadFailed, WriteFailed, AreInPlace, FaultsAreInPlace}
use Rattle.loop_model.proofs.Steadies.{Steady, Usual, steady_handled, steady_pours, follows_handled}
use Rattle.loop_model.proofs.Orderwise.{Orderwise, run_wise}

-- ---- events other than `fault`

abbrev NoFault : List JournalEntry → Type 0
NoFault [] = Unit {0}
NoFault (x ∷ xs) = (is_fault x.event ≡ false) × NoFault xs

no_fault-append : (xs ys : List JournalEntry) → NoFault xs → NoFault ys → NoFault (xs ++ ys)
no_fault-append [] ys p q = q
no_fault-append (x ∷ xs) ys p q = (p.0, no_fault-append xs ys p.1 q)

abbrev IsNoFault : GivenToSession → Type 0
IsNoFault (Begins engine rbc rb) = Unit {0}
IsNoFault (Hears octets) = Unit {0}
IsNoFault (Sends text) = Unit {0}
IsNoFault Takes = Unit {0}
IsNoFault (Leaves sub) = Unit {0}
IsNoFault Ticks = Unit {0}
IsNoFault Ends = Unit {0}
IsNoFault Faults = ⊥
IsNoFault Stalls = Unit {0}

no_fault : (k : ModelEnd) (g : GivenToSession) → IsNoFault g → is_fault (journal_event_of_given model_ends k g) ≡ false
no_fault k (Begins engine rbc rb) p = refl
no_fault k (Hears octets) p = refl
no_fault k (Sends text) p = refl
no_fault k Takes p = refl
no_fault k (Leaves sub) p = refl
no_fault k Ticks p = refl
no_fault k Ends p = refl
no_fault k Faults p = absurd p
no_fault k Stalls p = refl

unfoldable Faultless : Session ModelEnd → Session ModelEnd → List JournalEntry → List Call → Type 0
Faultless s t xs cs = NoFault xs

steady : (r : Rules) → Steady r IsNoFault Faultless
unfolding Faultless
steady r = record {
  none = λ s. tt;
  then_ = λ s t u xs ys cs ds p q. no_fault-append xs ys p q;
  given = λ m s g allowed fits. (no_fault s.end g allowed, tt);
  stalls = λ m s g allowed fits. (no_fault s.end g allowed, (refl, tt));
  heard = λ s mind. tt;
  parts = λ s told at gone. tt;
}

usual : Usual IsNoFault
usual = record { sends = λ text. tt; leaves = λ sub. tt; takes = tt }

-- `fault` first, and no other
record OneFault (n : ℕ) (xs : List JournalEntry) : Type 0 where
  first : JournalEntry
  rest : List JournalEntry
  is : xs ≡ first ∷ rest
  conn : first.conn ≡ n
  fault : is_fault first.event ≡ true
  others : NoFault rest

-- ---- deeds in place

placed-append : (ds es : List LoopDeed) (before : Before) → AreInPlace ds before → AreInPlace es Other → AreInPlace (ds ++ es) before
placed-append [] es Other p q = q
placed-append [] es (ReadFailed conn) p q = absurd p
placed-append [] es (WriteFailed conn) p q = absurd p
placed-append (Printing x ∷ ds) es before p q = (p.0, placed-append ds es Other p.1 q)
placed-append (Calling call ∷ ds) es before p q = (p.0, placed-append ds es _ p.1 q)

printed_placed : (xs : List JournalEntry) → NoFault xs → AreInPlace (printings xs) Other
printed_placed [] p = tt
printed_placed (x ∷ xs) p = (p.0, printed_placed xs p.1)

read_fault_placed : (n : ℕ) (xs : List JournalEntry) → OneFault n xs → AreInPlace (printings xs) (ReadFailed n)
read_fault_placed n xs o = subst (λ z. AreInPlace (printings z) (ReadFailed n)) (sym o.is) ((o.conn, o.fault), printed_placed o.rest o.others)

write_fault_placed : (n : ℕ) (xs : List JournalEntry) → OneFault n xs → AreInPlace (printings xs) (WriteFailed n)
write_fault_placed n xs o = subst (λ z. AreInPlace (printings z) (WriteFailed n)) (sym o.is) ((o.conn, o.fault), printed_placed o.rest o.others)

-- ---- a visit

module _ (r : Rules) (m : ℕ) where
  handled_none : (s : Session ModelEnd) (g : GivenToSession) (says : Says) → IsNoFault g → NoFault (handled model_ends r m s g says).1
  unfolding Faultless
  handled_none s g says p = steady_handled r IsNoFault Faultless (steady r) usual m s g says p

  fed_fault : (s : Session ModelEnd) (rest : List JournalEntry) → NoFault rest → OneFault s.number ((fed model_ends r m s Faults).1 ++ rest)
  unfolding fed joined
  fed_fault s rest p =
      elim (cases_Bool (nat_lt most_output (length s.output + length (octets_in (outcomes_of_given_event model_ends r m s.end Faults))))) [
        | inl q ↦
            rw q
            (record {
              first = entry_of model_ends r m s Faults;
              rest = entry_of model_ends r m (record s { end = end_after model_ends r m s.end Faults; broken = true }) Stalls ∷ rest;
              is = refl;
              conn = refl;
              fault = refl;
              others = (refl, p);
            })
        | inr q ↦ rw q (record { first = entry_of model_ends r m s Faults; rest = rest; is = refl; conn = refl; fault = refl; others = p })
      ]

  handled_fault : (s : Session ModelEnd) (says : Says) → OneFault s.number (handled model_ends r m s Faults says).1
  unfolding Faultless
  handled_fault s says =
      let f = follows_handled r IsNoFault Faultless (steady r) usual m s Faults says in
      subst (λ z. OneFault s.number z) (sym f.is) (fed_fault s f.rest f.holds)

  settled_placed : (s : Session ModelEnd) → AreInPlace (session_kept_or_closed model_ends s).order Other
  unfolding session_kept_or_closed
  settled_placed s = elim (cases_Bool (s.broken || owes_nothing model_ends s)) [ inl p ↦ rw p (tt, tt) | inr p ↦ rw p tt ]

  -- ---- writing

  put_off : (s : Session ModelEnd) (answers : List WriteAnswer) → acts writes_once (s, PutOff) answers ≡ still (s, PutOff)
  unfolding acts writes_once
  put_off s [] = refl
  put_off s (a ∷ answers) = put_off s answers

  failing : (s : Session ModelEnd) (answers : List WriteAnswer) → acts writes_once (s, Failing) answers ≡ still (s, Failing)
  unfolding acts writes_once
  failing s [] = refl
  failing s (a ∷ answers) = failing s answers

  -- what is written, what comes of it, and the close
  abbrev flow_of : Out (Session ModelEnd × WritingState) → Says → List LoopDeed
  flow_of o says = (o.order ++ (flowed model_ends r m o.state says).order) ++ (session_kept_or_closed model_ends (flowed model_ends r m o.state says).state).order

  broken_placed : (b : Bool) (s : Session ModelEnd) (says : Says)
      → AreInPlace (printings (fault_unless model_ends b r m s says).1 ++ (session_kept_or_closed model_ends (fault_unless model_ends b r m s says).0).order) (WriteFailed s.number)
  unfolding session_kept_or_closed
  broken_placed true s says = (refl, tt)
  broken_placed false s says =
      let h = handled model_ends r m s Faults says in
      placed-append (printings h.1) (session_kept_or_closed model_ends h.0).order (WriteFailed s.number) (write_fault_placed s.number h.1 (handled_fault s says)) (settled_placed h.0)

  abbrev writing : Session ModelEnd → WriteAnswer → List WriteAnswer → Out (Session ModelEnd × WritingState)
  writing s a answers = next (makes (Writes s.number s.output a) (after_write a s)) (λ x. acts writes_once x answers)

  answer_placed : (a : WriteAnswer) (s : Session ModelEnd) (answers : List WriteAnswer) (says : Says)
      → ((t : Session ModelEnd) → AreInPlace (flow_of (acts writes_once (t, Going) answers) says) Other)
      → AreInPlace (flow_of (writing s a answers) says) Other
  answer_placed (write.Some n) s answers says on = (tt, on (record s { output = drop n s.output }))
  answer_placed write.NotNow s answers says on = (tt, subst (λ (z : Out (Session ModelEnd × WritingState)). AreInPlace (flow_of z says) Other) (sym (put_off s answers)) (settled_placed s))
  answer_placed write.Failed s answers says on =
      (tt, subst (λ (z : Out (Session ModelEnd × WritingState)). AreInPlace (flow_of z says) (WriteFailed s.number)) (sym (failing s answers)) (broken_placed (is_released model_ends s) s says))

  flow_placed : (answers : List WriteAnswer) (s : Session ModelEnd) (says : Says) → AreInPlace (flow_of (acts writes_once (s, Going) answers) says) Other
  unfolding acts writes_once
  flow_placed [] s says = settled_placed s
  flow_placed (a ∷ answers) s says =
      elim (cases_Bool (length s.output == 0)) [
        | inl p ↦ rw p (flow_placed answers s says)
        | inr p ↦ rw p (answer_placed a s answers says (λ t. flow_placed answers t says))
      ]

  unless_placed : (b : Bool) (s : Session ModelEnd) (a : Wrote)
      → AreInPlace ((written_unless model_ends b r m s a).order ++ (session_kept_or_closed model_ends (written_unless model_ends b r m s a).state).order) Other
  unfolding writes
  unless_placed true s a = settled_placed s
  unless_placed false s a = flow_placed (exactly (length s.output) write.NotNow a.answers) s a.says

  rests_placed : (s : Session ModelEnd) (a : Wrote) → AreInPlace (rests model_ends r m s a).order Other
  unfolding rests session_behind_writing
  rests_placed s a = unless_placed s.broken s a

  -- ---- visits

  served_placed : (s : Session ModelEnd) (g : GivenToSession) (a : Met) → IsNoFault g → AreInPlace (served model_ends r m s g a).order Other
  unfolding served
  served_placed s g a p =
      let h = handled model_ends r m s g (first_answer_of nothing_said a.says) in
      placed-append (printings h.1) (rests model_ends r m h.0 a.wrote).order Other (printed_placed h.1 (handled_none s g (first_answer_of nothing_said a.says) p)) (rests_placed h.0 a.wrote)

  -- what comes of a read, and what follows it
  came_placed : (reading : Reading) (s : Session ModelEnd) (waits : ℕ) (says : List Says) (a : Wrote)
      → AreInPlace (Calling (Reads s.number 4096 waits reading) ∷ (printings (came model_ends reading r m s says).1 ++ (rests_behind model_ends reading r m (came model_ends reading r m s says).0 a).order)) Other
  unfolding Faultless
  came_placed (Gave octets) s waits says a =
      let b = came model_ends (Gave octets) r m s says in
      (tt, placed-append (printings b.1) (rests model_ends r m b.0 a).order Other (printed_placed b.1 (steady_pours r IsNoFault Faultless (steady r) usual (λ octets. tt) m s octets says)) (rests_placed b.0 a))
  came_placed NotNow s waits says a = (tt, tt)
  came_placed End s waits says a =
      let b = came model_ends End r m s says in
      (tt, placed-append (printings b.1) (rests model_ends r m b.0 a).order Other (printed_placed b.1 (handled_none s Ends (first_answer_of nothing_said says) tt)) (rests_placed b.0 a))
  came_placed Failed s waits says a =
      let b = came model_ends Failed r m s says in
      (tt, placed-append (printings b.1) (rests model_ends r m b.0 a).order (ReadFailed s.number) (read_fault_placed s.number b.1 (handled_fault s (first_answer_of nothing_said says))) (rests_placed b.0 a))

  visited_placed : (visit : Visit) (s : Session ModelEnd) (a : Met) → AreInPlace (visited model_ends r m visit s a).order Other
  unfolding visited read_once
  visited_placed Tick s a = elim (cases_Bool (is_due m (model_ends.deadline s.end))) [ inl p ↦ rw p (served_placed s Ticks a tt) | inr p ↦ rw p tt ]
  visited_placed Read s a = elim (cases_Bool (is_released model_ends s)) [ inl p ↦ rw p tt | inr p ↦ rw p (came_placed a.reading (made s) a.waits a.says a.wrote) ]
  visited_placed Write s a = rests_placed (made s) a.wrote
  visited_placed Expire s a = elim (cases_Bool (is_due m s.closing)) [ inl p ↦ rw p (tt, tt) | inr p ↦ rw p tt ]

  visit_placed : (visit : Visit) (n : ℕ) (ss : List (Session ModelEnd)) (a : Met) → AreInPlace (visit_at (visited model_ends r m visit) n ss a).order Other
  unfolding visit_at
  visit_placed visit n [] a = tt
  visit_placed visit n (s ∷ ss) a =
      elim (cases_Bool (s.number == n)) [ inl p ↦ rw p (visited_placed visit s a) | inr p ↦ rw p (visit_placed visit n ss a) ]

-- ---- runs

unfoldable Goes : List (Session ModelEnd) → List (Session ModelEnd) → List LoopDeed → Type 0
Goes ss ts ds = AreInPlace ds Other

goes : (plan : Plan) → Orderwise plan Goes
unfolding Goes
goes plan = record {
  none = λ ss. tt;
  then_ = λ ss ts us ds es p q. placed-append ds es Other p q;
  visit = λ m visit n ss a. visit_placed (rules_of plan) m visit n ss a;
  turned = λ ss until happening none. (tt, tt);
  opened = λ l until conn mind. (tt, (refl, tt));
  full = λ ss m live until conn most. (tt, (refl, (tt, tt)));
  unserved = λ ss m handed until conn. (tt, (refl, (tt, tt)));
}

run_placed : (plan : Plan) (c : Course ModelEnd) (turns : List Turn) → AreInPlace (run model_ends plan c turns).order Other
unfolding Goes
run_placed plan c turns = run_wise plan Goes (goes plan) c turns

called_placed : (user : Option Mind) (plan : Plan) (caller : Caller) (l : Loop ModelEnd) (conn : ℕ) (a : Met) → AreInPlace (called_by model_ends user plan caller l conn a).order Other
called_placed None plan caller l conn a = (refl, (tt, tt))
called_placed (Some mind) plan caller l conn a =
    served_placed (rules_of plan) l.moment (begun_dial conn (calling model_ends plan caller l) mind) (Begins caller.engine plan.rbc (next_u64 l.words).0) a tt

dialled_placed : (at : Option ℕ) (plan : Plan) (caller : Caller) (c : Course ModelEnd) (address : List ℕ) (a : Dialled) → AreInPlace (dials_to model_ends at plan caller c address a).order Other
unfolding called
dialled_placed None plan caller c address a = (tt, tt)
dialled_placed (Some conn) plan caller c address a =
    let d = asks a.first c in
    let o = opens model_ends plan caller d conn a.met in
    (tt, placed-append o.order (run model_ends plan o.state a.turns).order Other (called_placed (next_user d.loop.users) plan caller d.loop conn a.met) (run_placed plan o.state a.turns))

pub faults_are_in_place : FaultsAreInPlace
unfolding dials
faults_are_in_place = record { serving = run_placed; dialling = λ plan caller c address a. dialled_placed a.conn plan caller c address a }
