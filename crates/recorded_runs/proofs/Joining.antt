-- The acts of a run, and those inside, joined: at each write to a connection, at each close, and behind a fault.
use Rattle.std.proofs.Common.{◌≡◌, ℕ, false, List, [], ◌∷◌, ◌++◌, filter, IsTrue, IsFalse, refl, sym, ap, subst, ◌∙◌, append_assoc}
use Rattle.std.specs.List.{list_any}
use Rattle.link_trait.specs.Wires.{Reading}
use Rattle.link_trait.specs.declared.wires.WriteAnswer.{WriteAnswer}
use Rattle.outside.specs.Acts.{SeenCall, Listened, Dialled, Turned, Read, Sent, Closed, Act, Fetched, Wrote, Called, Asked, Drew, is_call}
use Rattle.outside.specs.Doings.{Told}
use Rattle.outside.specs.Ties.{IsLeft, PutsInSink}
use Rattle.er_settings.specs.Making.{usual_settings}
use Rattle.loop_model.specs.Journals.{text, trace_header}
use Rattle.loop_model.specs.Laws.{octets_of_entries, IsBeginning}
use Rattle.loop_model.specs.Parts.{of}
use Rattle.recorded.specs.Recordings.{is_outward, octets_written_in, octets_offered_in, acts_but_writes, inward_acts, IsBehindItsLines, IsBeginningOf, IsStill}
use Rattle.readiness_loop.specs.Recorded.{pieces_in, given_to_connection, is_act_at, AreToldBefore, IsClosedLast, IsRecordedFirst}
use Rattle.er_serving.specs.RecordedLines.{IsLineRecorded}
use Rattle.recorded_runs.specs.Inside.{HaveWritten, IsGivenBehind, IsClosedBehind, GoesBehindRecording, octets_of_run}
use Rattle.recorded_runs.proofs.Gathering.{tail_is, same_rest, not_among, none_of_both, none_by_filter, filter_by_none, none_at_places}
use Rattle.recorded_runs.proofs.Gathering.{written_then, acts_with_call, inward_then, inward_close, inward_read, none_written, no_pieces, pieces_whole, pieces_offered, offered_then}
use Rattle.recorded_runs.proofs.Gathering.{given_alike, given_then, none_given, none_at, none_at_but_writes, inward_but_writes, none_inward_at}
use Rattle.recorded_runs.proofs.Placing.{IsOfLoop, of_loop, unfailed}

-- ---- the acts of a run

-- all that was done to the outside, from no acts on
pub run_acts : (before now : Told) → before.acts ≡ [] → (run : IsLineRecorded before now) → now.acts ≡ run.ahead.acts ++ (run.loop.acts ++ run.behind.acts)
run_acts before now none run =
    run.behind.did.grew
    ∙ ap (λ (xs : List Act). xs ++ run.behind.acts) (run.loop.did.grew ∙ ap (λ (xs : List Act). xs ++ run.loop.acts) (run.ahead.did.grew ∙ ap (λ (xs : List Act). xs ++ run.ahead.acts) none))
    ∙ append_assoc run.ahead.acts run.loop.acts run.behind.acts

module _ (header : List ℕ) (began ended : Told) (loop : IsRecordedFirst header began ended) (first last inside program : List Act)
    (is : program ≡ first ++ (loop.acts ++ last)) (none_first : IsFalse (list_any is_call first)) (unwritten : octets_written_in first ≡ []) (none_last : IsFalse (list_any is_call last))
    (lines : (done rest : List Act) (act : Act) → inside ≡ done ++ act ∷ rest → IsTrue (is_outward act) → IsBehindItsLines done act program) where
  -- the place of a call that the run did
  placed : (done : List Act) (call : SeenCall) (b : IsBehindItsLines done (Called call) program) → IsOfLoop first loop.acts last b.before call b.behind
  placed done call b = of_loop first loop.acts last b.before call b.behind none_first none_last (sym is ∙ b.did)

  -- what was written inside before it
  written_before : (done : List Act) (call : SeenCall) (b : IsBehindItsLines done (Called call) program) → octets_written_in b.before ≡ pieces_in (placed done call b).done
  written_before done call b =
      let p : IsOfLoop first loop.acts last b.before call b.behind = placed done call b in
      ap octets_written_in p.before_is ∙ written_then first p.done
      ∙ ap (λ (os : List ℕ). os ++ octets_written_in p.done) unwritten
      ∙ pieces_whole p.done (unfailed p.done call p.rest (λ piece before behind e. loop.failed piece before behind (e ∙ sym p.loop_is)))

  have_written : (done : List Act) (call : SeenCall) (b : IsBehindItsLines done (Called call) program) (octets : List ℕ) → octets_written_in b.before ≡ octets → HaveWritten done octets
  have_written done call b octets e = record { written = b.written ∙ e; whole = b.whole; left = λ all left. b.held all left ∙ e }

  -- ---- a write to a connection

  given_before : (conn : ℕ) (done before : List Act) (call : SeenCall) (b : IsBehindItsLines done (Called call) program) → b.before ≡ first ++ before
      → given_to_connection conn (done ++ Called call ∷ []) ≡ given_to_connection conn (before ++ Called call ∷ [])
  given_before conn done before call b e =
      given_alike conn done b.before call b.acts
      ∙ ap (λ (xs : List Act). given_to_connection conn (xs ++ Called call ∷ [])) e
      ∙ ap (given_to_connection conn) (append_assoc first before (Called call ∷ []))
      ∙ given_then conn first (before ++ Called call ∷ [])
      ∙ ap (λ (os : List ℕ). os ++ given_to_connection conn (before ++ Called call ∷ [])) (none_given conn first none_first)

  given_behind : (conn : ℕ) (piece : List ℕ) (answer : WriteAnswer) (done rest : List Act) → inside ≡ done ++ Called (Sent conn piece answer) ∷ rest
      → IsGivenBehind header conn done (given_to_connection conn (done ++ Called (Sent conn piece answer) ∷ []))
  given_behind conn piece answer done rest e =
      let call : SeenCall = Sent conn piece answer in
      let b : IsBehindItsLines done (Called call) program = lines done rest (Called call) e refl in
      let p : IsOfLoop first loop.acts last b.before call b.behind = placed done call b in
      let told : AreToldBefore header conn p.done (given_to_connection conn (p.done ++ Called call ∷ [])) = loop.given conn piece answer p.done p.rest (sym p.loop_is) in
      record {
        events = told.events;
        written = have_written done call b (header ++ text told.events) (written_before done call b ∙ told.written);
        told = subst (λ (os : List ℕ). IsBeginning os (octets_of_entries (of conn told.events))) (sym (given_before conn done p.done call b p.before_is)) told.told;
      }

  -- ---- a close

  module _ (comes : inward_acts inside ≡ inward_acts program) (conn : ℕ) (done rest : List Act) (e : inside ≡ done ++ Called (Closed conn) ∷ rest)
      (b : IsBehindItsLines done (Called (Closed conn)) program) (none : IsFalse (list_any (is_act_at conn) b.behind)) where
    -- what comes in behind the close is alike
    comes_behind : inward_acts rest ≡ inward_acts b.behind
    comes_behind =
        let before : inward_acts done ≡ inward_acts b.before = sym (inward_but_writes done) ∙ ap inward_acts b.acts ∙ inward_but_writes b.before in
        same_rest (inward_acts b.before) (inward_acts rest) (inward_acts b.behind)
        (ap (λ (xs : List Act). xs ++ inward_acts rest) (sym before)
        ∙ ap (λ (xs : List Act). inward_acts done ++ xs) (sym (inward_close conn rest)) ∙ sym (inward_then done (Called (Closed conn) ∷ rest))
        ∙ ap inward_acts (sym e) ∙ comes ∙ ap inward_acts b.did
        ∙ inward_then b.before (Called (Closed conn) ∷ b.behind) ∙ ap (λ (xs : List Act). inward_acts b.before ++ xs) (inward_close conn b.behind))

    no_read : (other size : ℕ) (reading : Reading) (mid more : List Act) → rest ≡ mid ++ Called (Read other size reading) ∷ more → IsFalse (is_act_at conn (Called (Read other size reading)))
    no_read other size reading mid more p =
        not_among (is_act_at conn) (inward_acts mid) (Called (Read other size reading)) (inward_acts more)
        (subst (λ (xs : List Act). IsFalse (list_any (is_act_at conn) xs))
        (sym comes_behind ∙ ap inward_acts p ∙ inward_then mid (Called (Read other size reading) ∷ more) ∙ ap (λ (xs : List Act). inward_acts mid ++ xs) (inward_read other size reading more))
        (none_inward_at conn b.behind none))

    -- a later call that goes out stands behind the close in the run too
    behind_too : (call : SeenCall) (mid : List Act) (c : IsBehindItsLines (done ++ Called (Closed conn) ∷ mid) (Called call) program)
        → acts_but_writes b.behind ≡ acts_but_writes mid ++ Called call ∷ acts_but_writes c.behind
    behind_too call mid c =
        let close : Act = Called (Closed conn) in
        let last_acts : List Act = Called call ∷ acts_but_writes c.behind in
        tail_is close close (acts_but_writes b.behind) (acts_but_writes mid ++ last_acts)
        (same_rest (acts_but_writes b.before) (close ∷ acts_but_writes b.behind) (close ∷ (acts_but_writes mid ++ last_acts))
        (sym (acts_with_call b.before (Closed conn) b.behind) ∙ ap acts_but_writes (sym b.did ∙ c.did) ∙ acts_with_call c.before call c.behind
        ∙ ap (λ (xs : List Act). xs ++ last_acts) (sym c.acts ∙ acts_with_call done (Closed conn) mid ∙ ap (λ (xs : List Act). xs ++ close ∷ acts_but_writes mid) b.acts)
        ∙ append_assoc (acts_but_writes b.before) (close ∷ acts_but_writes mid) last_acts))

    no_outward : (call : SeenCall) (mid more : List Act) → IsTrue (is_outward (Called call)) → rest ≡ mid ++ Called call ∷ more → IsFalse (is_act_at conn (Called call))
    no_outward call mid more out p =
        let close : Act = Called (Closed conn) in
        let at : inside ≡ (done ++ close ∷ mid) ++ Called call ∷ more =
        e ∙ ap (λ (xs : List Act). done ++ close ∷ xs) p ∙ sym (append_assoc done (close ∷ mid) (Called call ∷ more)) in
        let c : IsBehindItsLines (done ++ close ∷ mid) (Called call) program = lines (done ++ close ∷ mid) more (Called call) at out in
        not_among (is_act_at conn) (acts_but_writes mid) (Called call) (acts_but_writes c.behind)
        (subst (λ (xs : List Act). IsFalse (list_any (is_act_at conn) xs)) (behind_too call mid c) (none_at_but_writes conn b.behind none))

    nothing_at : (mid : List Act) (x : Act) (more : List Act) → rest ≡ mid ++ x ∷ more → IsFalse (is_act_at conn x)
    nothing_at mid (Fetched name answer) more p = refl
    nothing_at mid (Wrote piece whole) more p = refl
    nothing_at mid (Called (Listened address listens)) more p = refl
    nothing_at mid (Called (Dialled address opened)) more p = refl
    nothing_at mid (Called (Turned until what)) more p = refl
    nothing_at mid (Called (Read other size reading)) more p = no_read other size reading mid more p
    nothing_at mid (Called (Sent other piece answer)) more p = no_outward (Sent other piece answer) mid more refl p
    nothing_at mid (Called (Closed other)) more p = no_outward (Closed other) mid more refl p
    nothing_at mid (Asked moment) more p = refl
    nothing_at mid (Drew word) more p = refl

    untouched_inside : filter (is_act_at conn) rest ≡ []
    untouched_inside = filter_by_none (is_act_at conn) rest (none_at_places (is_act_at conn) rest nothing_at)

  closed_behind : inward_acts inside ≡ inward_acts program → (conn : ℕ) (done rest : List Act) → inside ≡ done ++ Called (Closed conn) ∷ rest
      → IsClosedBehind header conn loop.acts done rest
  closed_behind comes conn done rest e =
      let b : IsBehindItsLines done (Called (Closed conn)) program = lines done rest (Called (Closed conn)) e refl in
      let p : IsOfLoop first loop.acts last b.before (Closed conn) b.behind = placed done (Closed conn) b in
      let at_end : IsClosedLast header conn p.done p.rest = loop.closed conn p.done p.rest (sym p.loop_is) in
      let none : IsFalse (list_any (is_act_at conn) b.behind) =
      subst (λ (xs : List Act). IsFalse (list_any (is_act_at conn) xs)) (sym p.behind_is)
      (none_of_both (is_act_at conn) p.rest last (none_by_filter (is_act_at conn) p.rest at_end.untouched) (none_at conn last none_last)) in
      record {
        before = p.done;
        behind = p.rest;
        did = p.loop_is;
        last = at_end;
        written = have_written done (Closed conn) b (pieces_in p.done) (written_before done (Closed conn) b);
        untouched = untouched_inside comes conn done rest e b none;
      }

-- ---- the laws

pub goes_behind : (before now : Told) (inside : List Act)
    → ((done rest : List Act) (act : Act) → inside ≡ done ++ act ∷ rest → IsTrue (is_outward act) → IsBehindItsLines done act now.acts)
    → ((done rest : List Act) (piece : List ℕ) → inside ≡ done ++ Wrote piece false ∷ rest → IsStill rest)
    → inward_acts inside ≡ inward_acts now.acts
    → before.acts ≡ [] → (run : IsLineRecorded before now) → GoesBehindRecording (trace_header usual_settings) run.loop.acts inside
goes_behind before now inside lines still comes none run =
    let header : List ℕ = trace_header usual_settings in
    let is : now.acts ≡ run.ahead.acts ++ (run.loop.acts ++ run.behind.acts) = run_acts before now none run in
    record {
      given = given_behind header run.began run.ended run.loop run.ahead.acts run.behind.acts inside now.acts is run.ahead.none (none_written run.ahead.acts run.ahead.unwritten) run.behind.none lines;
      closed = closed_behind header run.began run.ended run.loop run.ahead.acts run.behind.acts inside now.acts is run.ahead.none (none_written run.ahead.acts run.ahead.unwritten) run.behind.none lines comes;
      failed = λ piece done rest e. still done rest piece e;
    }

pub holds_beginning : (before now : Told) (inside : List Act)
    → ((octets : List ℕ) → IsLeft PutsInSink inside octets → IsBeginningOf octets (octets_offered_in now.acts))
    → before.acts ≡ [] → (run : IsLineRecorded before now) → (octets : List ℕ) → IsLeft PutsInSink inside octets
    → IsBeginningOf octets (octets_of_run run.loop.acts run.behind.acts)
holds_beginning before now inside holds none run octets left =
    subst (λ (os : List ℕ). IsBeginningOf octets os)
    (pieces_offered now.acts ∙ ap pieces_in (run_acts before now none run)
    ∙ pieces_then run.ahead.acts (run.loop.acts ++ run.behind.acts) ∙ ap (λ (os : List ℕ). os ++ pieces_in (run.loop.acts ++ run.behind.acts)) (no_pieces run.ahead.acts run.ahead.unwritten)
    ∙ pieces_then run.loop.acts run.behind.acts)
    (holds octets left)
  where
    pieces_then : (xs ys : List Act) → pieces_in (xs ++ ys) ≡ pieces_in xs ++ pieces_in ys
    pieces_then xs ys =
        sym (pieces_offered (xs ++ ys)) ∙ offered_then xs ys ∙ ap (λ (os : List ℕ). os ++ octets_offered_in ys) (pieces_offered xs)
        ∙ ap (λ (os : List ℕ). pieces_in xs ++ os) (pieces_offered ys)
