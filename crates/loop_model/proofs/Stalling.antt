-- An event `stalled` comes exactly directly behind an event that gave too many octets.
use Rattle.loop_model.specs.Ends.{ModelEnd, model_ends}
use Rattle.std.proofs.Common.{if◌then◌else◌, ◌≡◌, ℕ, ◌+◌, ◌-◌, ◌≤◌, inl, inr, Bool, true, false, ◌||◌, List, [], ◌∷◌, ◌++◌, length, drop, Option, Some, None, refl, sym, ◌∙◌, ap, subst, append-nil, arith, true≢false, length-append, length-drop, ltb-false, le-ltb}
use Rattle.std.specs.Prelude.{◌==◌, nat_lt, is_some}
use Rattle.std.proofs.lemmas.Bool.{cases_Bool}
use Rattle.er_base.specs.declared.release.Release.{Release}
use Rattle.er_end_model.specs.Outcomes.{Outcome}
use Rattle.er_end_model.specs.Steps.{if_taken, new_event_at, on_take, outcomes_of as shown_by}
use Rattle.er_end_model.specs.Layers.{model}
use Rattle.loop_model.proofs.EndKeepings.{ReleaseStays, BreaksRelease}
use Rattle.link_trait.specs.Wires.{Call, Reading, Gave, NotNow, End, Failed}
use Rattle.link_trait.specs.declared.wires.WriteAnswer.{WriteAnswer}
use Rattle.link_trait.specs.declared.wires.WriteAnswer.TheVariants as write
use Rattle.loop_model.specs.Journals.{JournalEntry}
use Rattle.loop_model.specs.Outs.{acts, exactly, first_answer_of}
use Rattle.loop_model.specs.Sessions.{Rules, Session, GivenToSession, Begins, Hears, Sends, Takes, Leaves, Ticks, Ends, Faults, Stalls, is_released, most_output, outcomes_of_given_event, entry_of, end_after, octets_in, journal_event_of_given as written_as, joined, fed, Says, nothing_said, handled, made}
use Rattle.loop_model.specs.Visits.{WritingState, Going, PutOff, Failing, after_write, writes_if, writes_once, writes, Wrote, fault_unless, flowed, written_unless, session_behind_writing, rests, rests_behind, Visit, Tick, Read, Write, Expire, Met, is_due, came, read_once, served, visited}
use Rattle.loop_model.specs.Loops.{Plan, rules_of, visit_at}
use Rattle.loop_model.specs.Points.{is_stalled}
use Rattle.loop_model.specs.Turnings.{is_ended}
use Rattle.loop_model.specs.Writings.{has_stopped}
use Rattle.loop_model.specs.Stalls.{are_too_many, waiting_then, given_octet_count, begins_stalled, StallSo, IsStalledSo, IsBounded, AreSessionsBounded, StallsAreTold}
use Rattle.loop_model.proofs.Steadies.{Steady, Usual, steady_handled, steady_pours, follows_handled, Calls, Left, Stays, Closed, left_visited}
use Rattle.loop_model.proofs.Owns.{Bare, usual_calls}
use Rattle.loop_model.proofs.Loopwise.{Loopwise, wise_run}
use Rattle.loop_model.proofs.Resting.{stays_released, breaks_released}
use Rattle.loop_model.proofs.Ticking.{acts_none, settled_none}
use Rattle.loop_model.proofs.Givings as givings

-- ---- the octets of some events

break_none : (r : Rules) (m : ℕ) (k : ModelEnd) → (octets_in (outcomes_of_given_event model_ends r m k Faults) ≡ []) × (octets_in (outcomes_of_given_event model_ends r m k Stalls) ≡ [])
unfolding outcomes_of_given_event
break_none r m k = elim (cases_Bool (is_some k.core.released)) [ inl p ↦ rw p (refl, refl) | inr p ↦ rw p (refl, refl) ]

taken_none : (message : Option (List ℕ)) (os : List Outcome) → octets_in (if_taken message ++ os) ≡ octets_in os
taken_none None os = refl
taken_none (Some message) os = refl

-- the events that follow others
abbrev IsAfter : GivenToSession → Type 0
IsAfter (Begins engine rbc rb) = ⊥
IsAfter (Hears octets) = ⊥
IsAfter (Sends text) = Unit {0}
IsAfter Takes = Unit {0}
IsAfter (Leaves sub) = Unit {0}
IsAfter Ticks = ⊥
IsAfter Ends = ⊥
IsAfter Faults = ⊥
IsAfter Stalls = ⊥

-- give none at a released end
after_none : (r : Rules) (m : ℕ) (k : ModelEnd) (g : GivenToSession) (why : Release) → IsAfter g → k.core.released ≡ Some why → octets_in (outcomes_of_given_event model_ends r m k g) ≡ []
unfolding outcomes_of_given_event
after_none r m k (Begins engine rbc rb) why p e = absurd p
after_none r m k (Hears octets) why p e = absurd p
after_none r m k (Sends text) why p e = rw e refl
after_none r m k Takes why p e =
    let x = new_event_at model m k.core in
    taken_none (model.oldest k.core.upper) (shown_by model (on_take model x))
    ∙ elim (cases_Bool (length k.core.upper.accepted - k.core.upper.used == 0)) [ inl q ↦ rw q refl | inr q ↦ rw q (rw e refl) ]
after_none r m k (Leaves sub) why p e = rw e refl
after_none r m k Ticks why p e = absurd p
after_none r m k Ends why p e = absurd p
after_none r m k Faults why p e = absurd p
after_none r m k Stalls why p e = absurd p

released_none : (r : Rules) (m : ℕ) (k : ModelEnd) (g : GivenToSession) (o : Option Release) → k.core.released ≡ o → is_some o ≡ true → IsAfter g → octets_in (outcomes_of_given_event model_ends r m k g) ≡ []
released_none r m k g None e p a = absurd (true≢false (sym p))
released_none r m k g (Some why) e p a = after_none r m k g why a e

is_after : Usual IsAfter
is_after = record { sends = λ text. tt; leaves = λ sub. tt; takes = tt }

no_stall : (k : ModelEnd) (g : GivenToSession) → IsAfter g → is_stalled (written_as model_ends k g) ≡ false
no_stall k (Begins engine rbc rb) p = absurd p
no_stall k (Hears octets) p = absurd p
no_stall k (Sends text) p = refl
no_stall k Takes p = refl
no_stall k (Leaves sub) p = refl
no_stall k Ticks p = absurd p
no_stall k Ends p = absurd p
no_stall k Faults p = absurd p
no_stall k Stalls p = absurd p

-- ---- what waits behind events

behind : ℕ → List JournalEntry → ℕ
behind waiting [] = waiting
behind waiting (x ∷ xs) = behind (waiting_then waiting (given_octet_count x)) xs

behind-append : (waiting : ℕ) (xs ys : List JournalEntry) → behind waiting (xs ++ ys) ≡ behind (behind waiting xs) ys
unfolding behind
behind-append waiting [] ys = refl
behind-append waiting (x ∷ xs) ys = behind-append (waiting_then waiting (given_octet_count x)) xs ys

first-append : (xs ys : List JournalEntry) → begins_stalled ys ≡ false → begins_stalled (xs ++ ys) ≡ begins_stalled xs
first-append [] ys p = p
first-append (x ∷ xs) ys p = refl

first_two : (xs ys : List JournalEntry) → begins_stalled xs ≡ false → begins_stalled ys ≡ false → begins_stalled (xs ++ ys) ≡ false
first_two xs ys p q = first-append xs ys q ∙ p

stall-append : (waiting : ℕ) (xs ys : List JournalEntry) → StallSo waiting xs → begins_stalled ys ≡ false → StallSo (behind waiting xs) ys → StallSo waiting (xs ++ ys)
unfolding behind
stall-append waiting [] ys p q h = h
stall-append waiting (x ∷ xs) ys p q h = (first-append xs ys q ∙ p.0, stall-append (waiting_then waiting (given_octet_count x)) xs ys p.1 q h)

none_more : (waiting : ℕ) → waiting ≤ most_output → are_too_many waiting 0 ≡ false
none_more waiting p = le-ltb most_output (waiting + 0) (omega arith)

plus_none : (n : ℕ) → n + 0 ≡ n
plus_none n = omega arith

same_waiting : (waiting : ℕ) → waiting ≤ most_output → waiting_then waiting 0 ≡ waiting
same_waiting waiting p = ap (λ (b : Bool). if b then waiting else waiting + 0) (none_more waiting p) ∙ plus_none waiting

-- an event that gives none
silent_one : (waiting : ℕ) (x : JournalEntry) (xs : List JournalEntry) → waiting ≤ most_output → given_octet_count x ≡ 0 → begins_stalled xs ≡ false → StallSo waiting xs → StallSo waiting (x ∷ xs)
silent_one waiting x xs p none q h = (
  q ∙ sym (none_more waiting p) ∙ ap (λ z. are_too_many waiting z) (sym none),
  subst (λ z. StallSo z xs) (sym (same_waiting waiting p) ∙ ap (λ z. waiting_then waiting z) (sym none)) h,
)

silent_behind : (waiting : ℕ) (x : JournalEntry) → waiting ≤ most_output → given_octet_count x ≡ 0 → waiting_then waiting (given_octet_count x) ≡ waiting
silent_behind waiting x p none = ap (λ z. waiting_then waiting z) none ∙ same_waiting waiting p

-- ---- events that are no stall

abbrev IsNoStall : GivenToSession → Type 0
IsNoStall (Begins engine rbc rb) = Unit {0}
IsNoStall (Hears octets) = Unit {0}
IsNoStall (Sends text) = Unit {0}
IsNoStall Takes = Unit {0}
IsNoStall (Leaves sub) = Unit {0}
IsNoStall Ticks = Unit {0}
IsNoStall Ends = Unit {0}
IsNoStall Faults = Unit {0}
IsNoStall Stalls = ⊥

not_stalled : (k : ModelEnd) (g : GivenToSession) → IsNoStall g → is_stalled (written_as model_ends k g) ≡ false
not_stalled k (Begins engine rbc rb) p = refl
not_stalled k (Hears octets) p = refl
not_stalled k (Sends text) p = refl
not_stalled k Takes p = refl
not_stalled k (Leaves sub) p = refl
not_stalled k Ticks p = refl
not_stalled k Ends p = refl
not_stalled k Faults p = refl
not_stalled k Stalls p = absurd p

usual : Usual IsNoStall
usual = record { sends = λ text. tt; leaves = λ sub. tt; takes = tt }

pub record Told (s t : Session ModelEnd) (xs : List JournalEntry) : Type 0 where
  pub bounded : IsBounded t
  first : begins_stalled xs ≡ false
  rest : StallSo (length s.output) xs
  now : behind (length s.output) xs ≡ length t.output

Tells : Session ModelEnd → Session ModelEnd → List JournalEntry → List Call → Type 0
Tells s t xs cs = IsBounded s → Told s t xs

tells_then : (s t u : Session ModelEnd) (xs ys : List JournalEntry) (cs ds : List Call) → Tells s t xs cs → Tells t u ys ds → Tells s u (xs ++ ys) (cs ++ ds)
unfolding Tells
tells_then s t u xs ys cs ds p q b =
    let x = p b in
    let y = q x.bounded in
    record {
      bounded = y.bounded;
      first = first_two xs ys x.first y.first;
      rest = stall-append (length s.output) xs ys x.rest y.first (subst (λ z. StallSo z ys) (sym x.now) y.rest);
      now = behind-append (length s.output) xs ys ∙ ap (λ z. behind z ys) x.now ∙ y.now;
    }

told_nothing : (s t : Session ModelEnd) → t.output ≡ s.output → Tells s t [] []
unfolding Tells behind
told_nothing s t e b = record { bounded = subst (λ z. length z ≤ most_output) (sym e) b; first = refl; rest = tt; now = ap length (sym e) }

steady : (r : Rules) → Steady r IsNoStall Tells
unfolding Tells behind
steady r = record {
  none = λ s. told_nothing s s refl;
  then_ = tells_then;
  given = λ m s g p fits b.
      let new = octets_in (outcomes_of_given_event model_ends r m s.end g) in
      let sum : length (s.output ++ new) ≡ length s.output + length new = length-append s.output new in
      record {
        bounded = (let f : length s.output + length new ≤ most_output = ltb-false most_output (length s.output + length new) fits in subst (λ z. z ≤ most_output) (sym sum) f);
        first = not_stalled s.end g p;
        rest = (sym fits, tt);
        now = ap (λ (b : Bool). if b then length s.output else length s.output + length new) fits ∙ sym sum;
      };
  stalls = λ m s g p fits b.
      let x = entry_of model_ends r m s g in
      let y = entry_of model_ends r m (record s { end = end_after model_ends r m s.end g }) Stalls in
      let none : given_octet_count y ≡ 0 = ap length (break_none r m (end_after model_ends r m s.end g)).1 in
      let here : waiting_then (length s.output) (given_octet_count x) ≡ length s.output = ap (λ (b : Bool). if b then length s.output else length s.output + given_octet_count x) fits in
      record {
        bounded = b;
        first = not_stalled s.end g p;
        rest = (sym fits, subst (λ z. StallSo z (y ∷ [])) (sym here) (silent_one (length s.output) y [] b none refl tt));
        now = ap (λ z. waiting_then z (given_octet_count y)) here ∙ silent_behind (length s.output) y b none;
      };
  heard = λ s mind. told_nothing s (record s { mind = mind }) refl;
  parts = λ s told at gone. told_nothing s (record s { mind = None; told = told; closing = Some at }) refl;
}

-- ---- events at a released session

stopped-append : (xs ys : List JournalEntry) → has_stopped (xs ++ ys) ≡ (has_stopped xs || has_stopped ys)
unfolding has_stopped
stopped-append [] ys = refl
stopped-append (x ∷ xs) ys =
    ap (λ z. (is_ended x.event || is_stalled x.event) || z) (stopped-append xs ys) ∙ or_assoc (is_ended x.event || is_stalled x.event) (has_stopped xs) (has_stopped ys)
  where
    or_assoc : (a b c : Bool) → (a || (b || c)) ≡ ((a || b) || c)
    or_assoc true b c = refl
    or_assoc false b c = refl

pub calm_two : (xs ys : List JournalEntry) → has_stopped xs ≡ false → has_stopped ys ≡ false → has_stopped (xs ++ ys) ≡ false
calm_two xs ys p q = stopped-append xs ys ∙ ap (λ z. z || has_stopped ys) p ∙ q

calm_one : (x : JournalEntry) → (is_ended x.event || is_stalled x.event) ≡ false → has_stopped (x ∷ []) ≡ false
unfolding has_stopped
calm_one x p = ap (λ z. z || false) p

no_stop : (k : ModelEnd) (g : GivenToSession) → IsAfter g → (is_ended (written_as model_ends k g) || is_stalled (written_as model_ends k g)) ≡ false
no_stop k (Begins engine rbc rb) p = absurd p
no_stop k (Hears octets) p = absurd p
no_stop k (Sends text) p = refl
no_stop k Takes p = refl
no_stop k (Leaves sub) p = refl
no_stop k Ticks p = absurd p
no_stop k Ends p = absurd p
no_stop k Faults p = absurd p
no_stop k Stalls p = absurd p

record Silent (t : Session ModelEnd) (xs : List JournalEntry) : Type 0 where
  calm : has_stopped xs ≡ false
  gone : is_released model_ends t ≡ true
  bounded : IsBounded t
  first : begins_stalled xs ≡ false
  rest : (waiting : ℕ) → waiting ≤ most_output → StallSo waiting xs
  now : (waiting : ℕ) → waiting ≤ most_output → behind waiting xs ≡ waiting

Silences : Session ModelEnd → Session ModelEnd → List JournalEntry → List Call → Type 0
Silences s t xs cs = is_released model_ends s ≡ true → IsBounded s → Silent t xs

silences_then : (s t u : Session ModelEnd) (xs ys : List JournalEntry) (cs ds : List Call) → Silences s t xs cs → Silences t u ys ds → Silences s u (xs ++ ys) (cs ++ ds)
unfolding Silences
silences_then s t u xs ys cs ds p q gone b =
    let x = p gone b in
    let y = q x.gone x.bounded in
    record {
      calm = calm_two xs ys x.calm y.calm;
      gone = y.gone;
      bounded = y.bounded;
      first = first_two xs ys x.first y.first;
      rest = λ w few. stall-append w xs ys (x.rest w few) y.first (subst (λ z. StallSo z ys) (sym (x.now w few)) (y.rest w few));
      now = λ w few. behind-append w xs ys ∙ ap (λ z. behind z ys) (x.now w few) ∙ y.now w few;
    }

silent_nothing : (s t : Session ModelEnd) → t.output ≡ s.output → t.end ≡ s.end → Silences s t [] []
unfolding Silences behind has_stopped
silent_nothing s t e f gone b = record {
  calm = refl;
  gone = ap (λ (k : ModelEnd). is_some k.core.released) f ∙ gone;
  bounded = subst (λ z. length z ≤ most_output) (sym e) b;
  first = refl;
  rest = λ w few. tt;
  now = λ w few. refl;
}

module _ (stays : ReleaseStays) (breaks_release : BreaksRelease) (r : Rules) where
  silences : Steady r IsAfter Silences
  unfolding Silences behind
  silences = record {
    none = λ s. silent_nothing s s refl refl;
    then_ = silences_then;
    given = λ m s g p fits gone b.
        let new = octets_in (outcomes_of_given_event model_ends r m s.end g) in
        let nothing : new ≡ [] = released_none r m s.end g s.end.core.released refl gone p in
        let x = entry_of model_ends r m s g in
        let none : given_octet_count x ≡ 0 = ap length nothing in
        record {
          calm = calm_one x (no_stop s.end g p);
          gone = stays_released stays breaks_release r m s.end g gone;
          bounded = subst (λ z. length z ≤ most_output) (sym (ap (λ z. s.output ++ z) nothing ∙ append-nil s.output)) b;
          first = no_stall s.end g p;
          rest = λ w few. silent_one w x [] few none refl tt;
          now = λ w few. silent_behind w x few none;
        };
    stalls = λ m s g p fits gone b.
        let new = octets_in (outcomes_of_given_event model_ends r m s.end g) in
        let none : length new ≡ 0 = ap length (released_none r m s.end g s.end.core.released refl gone p) in
        absurd (true≢false (sym fits ∙ ap (λ z. nat_lt most_output (length s.output + z)) none ∙ none_more (length s.output) b));
    heard = λ s mind. silent_nothing s (record s { mind = mind }) refl refl;
    parts = λ s told at gone. silent_nothing s (record s { mind = None; told = told; closing = Some at }) refl refl;
  }

  -- a fault, with what follows it, where any number of octets waits
  pub record Quietly (xs : List JournalEntry) : Type 0 where
    pub calm : has_stopped xs ≡ false
    pub first : begins_stalled xs ≡ false
    pub rest : (waiting : ℕ) → waiting ≤ most_output → StallSo waiting xs

  quietly_none : Quietly []
  unfolding has_stopped
  quietly_none = record { calm = refl; first = refl; rest = λ w few. tt }

  fed_fault : (m : ℕ) (s : Session ModelEnd) → IsBounded s
      → fed model_ends r m s Faults ≡ (record s { end = end_after model_ends r m s.end Faults; output = s.output ++ octets_in (outcomes_of_given_event model_ends r m s.end Faults); broken = s.broken || true }, entry_of model_ends r m s Faults ∷ [])
  unfolding fed joined
  fed_fault m s b =
      let fits : nat_lt most_output (length s.output + length (octets_in (outcomes_of_given_event model_ends r m s.end Faults))) ≡ false =
      ap (λ z. nat_lt most_output (length s.output + length z)) (break_none r m s.end).0 ∙ none_more (length s.output) b in
      rw fits refl

  fault_quietly : (m : ℕ) (s : Session ModelEnd) (says : Says) → IsBounded s → Quietly (handled model_ends r m s Faults says).1
  unfolding Silences
  fault_quietly m s says b =
      let f = follows_handled r IsAfter Silences silences is_after m s Faults says in
      let e = fed_fault m s b in
      let x = entry_of model_ends r m s Faults in
      let nothing = (break_none r m s.end).0 in
      let gone : is_released model_ends (fed model_ends r m s Faults).0 ≡ true = ap (λ (z : Session ModelEnd × List JournalEntry). is_released model_ends z.0) e ∙ breaks_released stays breaks_release r m s.end Faults refl in
      let few : IsBounded (fed model_ends r m s Faults).0 =
      subst (λ (z : Session ModelEnd × List JournalEntry). IsBounded z.0) (sym e) (subst (λ z. length z ≤ most_output) (sym (ap (λ z. s.output ++ z) nothing ∙ append-nil s.output)) b) in
      let h = f.holds gone few in
      subst Quietly (sym (f.is ∙ ap (λ (z : Session ModelEnd × List JournalEntry). z.1 ++ f.rest) e)) (record {
        calm = calm_two (x ∷ []) f.rest (calm_one x refl) h.calm;
        first = refl;
        rest = λ w small. silent_one w x f.rest small (ap length nothing) h.first (h.rest w small);
      })

  -- ---- writing

  drop_few : (n : ℕ) (xs : List ℕ) → length xs ≤ most_output → length (drop n xs) ≤ most_output
  drop_few n xs p = subst (λ z. z ≤ most_output) (sym (length-drop n xs)) (omega arith)

  answered : (s : Session ModelEnd) (a : WriteAnswer) → IsBounded s → IsBounded (after_write a s).0
  answered s (write.Some n) b = drop_few n s.output b
  answered s write.NotNow b = b
  answered s write.Failed b = b

  once_bounded : (flow : WritingState) (s : Session ModelEnd) (a : WriteAnswer) → IsBounded s → IsBounded (writes_if flow s a).state.0
  once_bounded Going s a b = elim (cases_Bool (length s.output == 0)) [ inl p ↦ rw p b | inr p ↦ rw p (answered s a b) ]
  once_bounded PutOff s a b = b
  once_bounded Failing s a b = b

  acts_bounded : (answers : List WriteAnswer) (x : Session ModelEnd × WritingState) → IsBounded x.0 → IsBounded (acts writes_once x answers).state.0
  unfolding acts writes_once
  acts_bounded [] x b = b
  acts_bounded (a ∷ answers) x b = acts_bounded answers (writes_if x.1 x.0 a).state (once_bounded x.1 x.0 a b)

  unless_quietly : (m : ℕ) (gone : Bool) (s : Session ModelEnd) (says : Says) → IsBounded s → Quietly (fault_unless model_ends gone r m s says).1
  unless_quietly m true s says b = quietly_none
  unless_quietly m false s says b = fault_quietly m s says b

  flowed_quietly : (m : ℕ) (flow : WritingState) (s : Session ModelEnd) (says : Says) → IsBounded s → Quietly (flowed model_ends r m (s, flow) says).entries
  flowed_quietly m Going s says b = quietly_none
  flowed_quietly m PutOff s says b = quietly_none
  flowed_quietly m Failing s says b = unless_quietly m (is_released model_ends s) s says b

  written_quietly : (m : ℕ) (whole : Bool) (s : Session ModelEnd) (a : Wrote) → IsBounded s → Quietly (written_unless model_ends whole r m s a).entries
  unfolding writes
  written_quietly m true s a b = quietly_none
  written_quietly m false s a b =
      let answers = exactly (length s.output) write.NotNow a.answers in
      let x = acts writes_once (s, Going) answers in
      subst (λ z. Quietly (z ++ (flowed model_ends r m x.state a.says).entries)) (sym (acts_none r m answers (s, Going)))
      (flowed_quietly m x.state.1 x.state.0 a.says (acts_bounded answers (s, Going) b))

  pub rests_quietly : (m : ℕ) (s : Session ModelEnd) (a : Wrote) → IsBounded s → Quietly (rests model_ends r m s a).entries
  unfolding rests session_behind_writing
  rests_quietly m s a b =
      let w = written_unless model_ends s.broken r m s a in
      subst Quietly (sym (ap (λ z. w.entries ++ z) (settled_none r m w.state) ∙ append-nil w.entries)) (written_quietly m s.broken s a b)

  -- ---- visits

  then_quietly : (s t : Session ModelEnd) (xs ys : List JournalEntry) → Told s t xs → Quietly ys → IsStalledSo s (xs ++ ys)
  then_quietly s t xs ys x y = record {
    first = first_two xs ys x.first y.first;
    rest = stall-append (length s.output) xs ys x.rest y.first (subst (λ z. StallSo z ys) (sym x.now) (y.rest (length t.output) x.bounded));
  }

  served_told : (m : ℕ) (s : Session ModelEnd) (g : GivenToSession) (a : Met) → IsNoStall g → IsBounded s → IsStalledSo s (served model_ends r m s g a).entries
  unfolding served Tells
  served_told m s g a p b =
      let says = first_answer_of nothing_said a.says in
      let h = handled model_ends r m s g says in
      let x = steady_handled r IsNoStall Tells (steady r) usual m s g says p b in
      then_quietly s h.0 h.1 (rests model_ends r m h.0 a.wrote).entries x (rests_quietly m h.0 a.wrote x.bounded)

  pub came_told : (m : ℕ) (reading : Reading) (s : Session ModelEnd) (says : List Says) → IsBounded s → Told s (came model_ends reading r m s says).0 (came model_ends reading r m s says).1
  unfolding Tells
  came_told m (Gave octets) s says b = steady_pours r IsNoStall Tells (steady r) usual (λ octets. tt) m s octets says b
  came_told m NotNow s says b = told_nothing s s refl b
  came_told m End s says b = steady_handled r IsNoStall Tells (steady r) usual m s Ends (first_answer_of nothing_said says) tt b
  came_told m Failed s says b = steady_handled r IsNoStall Tells (steady r) usual m s Faults (first_answer_of nothing_said says) tt b

  behind_quietly : (m : ℕ) (reading : Reading) (s : Session ModelEnd) (a : Wrote) → IsBounded s → Quietly (rests_behind model_ends reading r m s a).entries
  behind_quietly m (Gave octets) s a b = rests_quietly m s a b
  behind_quietly m NotNow s a b = quietly_none
  behind_quietly m End s a b = rests_quietly m s a b
  behind_quietly m Failed s a b = rests_quietly m s a b

  none_told : (s : Session ModelEnd) → IsStalledSo s []
  none_told s = record { first = refl; rest = tt }

  quietly_told : (s : Session ModelEnd) (xs : List JournalEntry) → IsBounded s → Quietly xs → IsStalledSo s xs
  quietly_told s xs b q = record { first = q.first; rest = q.rest (length s.output) b }

  from_made : (s : Session ModelEnd) {xs : List JournalEntry} → IsStalledSo (made s) xs → IsStalledSo s xs
  from_made s p = record { first = p.first; rest = p.rest }

  visit_told : (m : ℕ) (visit : Visit) (s : Session ModelEnd) (a : Met) → IsBounded s → IsStalledSo s (visited model_ends r m visit s a).entries
  unfolding visited read_once
  visit_told m Tick s a b = elim (cases_Bool (is_due m (model_ends.deadline s.end))) [ inl p ↦ rw p (served_told m s Ticks a tt b) | inr p ↦ rw p (none_told s) ]
  visit_told m Read s a b =
      let x = came_told m a.reading (made s) a.says b in
      let t = (came model_ends a.reading r m (made s) a.says).0 in
      elim (cases_Bool (is_released model_ends s)) [
        | inl p ↦ rw p (none_told s)
        | inr p ↦ rw p (from_made s (then_quietly (made s) t (came model_ends a.reading r m (made s) a.says).1 (rests_behind model_ends a.reading r m t a.wrote).entries x (behind_quietly m a.reading t a.wrote x.bounded)))
      ]
  visit_told m Write s a b = quietly_told s (rests model_ends r m (made s) a.wrote).entries b (rests_quietly m (made s) a.wrote b)
  visit_told m Expire s a b = elim (cases_Bool (is_due m s.closing)) [ inl p ↦ rw p (none_told s) | inr p ↦ rw p (none_told s) ]

-- ---- how much waits

unfoldable pub Bounds : Session ModelEnd → Session ModelEnd → List JournalEntry → List Call → Type 0
Bounds s t xs cs = IsBounded s → IsBounded t

pub bounds : (r : Rules) → Steady r (λ g. Unit {0}) Bounds
unfolding Bounds
bounds r = record {
  none = λ s b. b;
  then_ = λ s t u xs ys cs ds p q b. q (p b);
  given = λ m s g allowed fits b.
      let new = octets_in (outcomes_of_given_event model_ends r m s.end g) in
      subst (λ z. z ≤ most_output) (sym (length-append s.output new)) (ltb-false most_output (length s.output + length new) fits);
  stalls = λ m s g allowed fits b. b;
  heard = λ s mind b. b;
  parts = λ s told at gone b. b;
}

less_few : (n : ℕ) (xs : List ℕ) → length xs ≤ most_output → length (drop n xs) ≤ most_output
less_few n xs p = subst (λ z. z ≤ most_output) (sym (length-drop n xs)) (omega arith)

bounds_bare : Bare Bounds
unfolding Bounds
bounds_bare = record { wrote = λ s n whole b. less_few n s.output b; put_off = λ s b. b; failed = λ s b. b; breaks = λ s gone b. b; noted = λ s b. b }

bounds_calls : (r : Rules) → Calls r Bounds
unfolding Bounds
bounds_calls r = usual_calls r (λ g. Unit {0}) Bounds (bounds r) givings.all_given bounds_bare (λ s waits reading b. b)

bounded_two : (ss ts : List (Session ModelEnd)) → AreSessionsBounded ss → AreSessionsBounded ts → AreSessionsBounded (ss ++ ts)
bounded_two [] ts p q = q
bounded_two (s ∷ ss) ts p q = (p.0, bounded_two ss ts p.1 q)

left_bounded : (s : Session ModelEnd) (ts : List (Session ModelEnd)) (xs : List JournalEntry) (cs : List Call) → Left Bounds s ts xs cs → IsBounded s → AreSessionsBounded ts
unfolding Bounds
left_bounded s ts xs cs (Stays t p q) b = subst AreSessionsBounded (sym p) (q b, tt)
left_bounded s ts xs cs (Closed t ds over p e q) b = subst AreSessionsBounded (sym p) tt

visit_bounded : (r : Rules) (m : ℕ) (visit : Visit) (n : ℕ) (ss : List (Session ModelEnd)) (a : Met) → AreSessionsBounded ss → AreSessionsBounded (visit_at (visited model_ends r m visit) n ss a).state
unfolding visit_at
visit_bounded r m visit n [] a p = tt
visit_bounded r m visit n (s ∷ ss) a p =
    elim (cases_Bool (s.number == n)) [
      | inl q ↦ rw q (bounded_two (visited model_ends r m visit s a).state ss (left_bounded s _ _ _ (left_visited r Bounds (bounds_calls r) visit m s a) p.0) p.1)
      | inr q ↦ rw q (p.0, visit_bounded r m visit n ss a p.1)
    ]

Stay : List (Session ModelEnd) → List (Session ModelEnd) → List JournalEntry → List Call → Type 0
Stay ss ts xs cs = AreSessionsBounded ss → AreSessionsBounded ts

wise : (plan : Plan) → Loopwise plan Stay
unfolding Stay
wise plan = record {
  none = λ ss p. p;
  then_ = λ ss ts us xs ys cs ds p q k. q (p k);
  visit = λ m visit n ss a p. visit_bounded (rules_of plan) m visit n ss a p;
  turned = λ ss until happening none p. p;
  opened = λ l until conn mind fits p. bounded_two l.sessions _ p ((omega arith), tt);
  full = λ ss m live until conn most p. p;
  unserved = λ ss m handed until conn p. p;
}

pub stalls_are_told : ReleaseStays → BreaksRelease → StallsAreTold
unfolding Stay
stalls_are_told stays breaks_release = record {
  at_visit = λ r m visit s a b. visit_told stays breaks_release r m visit s a b;
  at_opening = λ r m s engine rbc rb a b. served_told stays breaks_release r m s (Begins engine rbc rb) a tt b;
  bounded = λ plan c turns p. wise_run plan Stay (wise plan) c turns p;
}
