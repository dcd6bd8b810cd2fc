-- Each turn of a loop, and its whole journal, are lawful for the record of its calls.
use Rattle.loop_model.specs.Ends.{ModelEnd, model_ends}
use Rattle.std.proofs.Common.{◌≡◌, ℕ, ◌<◌, ◌≤◌, List, [], ◌∷◌, ◌++◌, length, Option, Some, None, refl, sym, ◌∙◌, ap, subst, arith}
use Rattle.er_users.specs.Users.{Mind}
use Rattle.rand_core.specs.Stream.{next_u64}
use Rattle.link_trait.specs.Wires.{Call, Closes}
use Rattle.loop_model.specs.Journals.{JournalEntry}
use Rattle.loop_model.specs.Outs.{Out, first_answer_of}
use Rattle.loop_model.specs.Sessions.{Rules, Session, GivenToSession, Begins, nothing_said}
use Rattle.loop_model.specs.Visits.{Met, served}
use Rattle.loop_model.specs.Loops.{Plan, rules_of, numbers, Loop, next_user, Caller, calling, called_by, called, Course, asks, Turn, run, Dialled, opens, dials_to, dials, begun_dial}
use Rattle.loop_model.specs.Parts.{opened_in, Rises}
use Rattle.loop_model.specs.Laws.{IsServing, IsDialling, IsFew}
use Rattle.loop_model.specs.Lawful.{HasOrderlySessions, TurnsAreLawful, JournalsAreLawful}
use Rattle.loop_model.proofs.EndKeepings.{steps_alike, made_stands, shows_alike, release_stays, breaks_release, uses_octets}
use Rattle.loop_model.proofs.Projections.{opened_in-append}
use Rattle.loop_model.proofs.Steadies.{Usual, Left, Stays, Closed, left_served, steady_handled}
use Rattle.loop_model.proofs.Lives.{Own}
use Rattle.loop_model.proofs.Owns.{own_steady}
use Rattle.loop_model.proofs.Loopwise.{wise_run}
use Rattle.loop_model.proofs.Orders.{own_calls, left_few, Few, few, few_are_live, UpTo, Ordered, InOrder, in_order, sessions_rise}
use Rattle.loop_model.proofs.Opening.{openings_are_told}
use Rattle.loop_model.proofs.Readings.{one_read_a_turn}
use Rattle.loop_model.proofs.Ticking.{ticks_are_due}
use Rattle.loop_model.proofs.Untils.{turns_wait}
use Rattle.loop_model.proofs.Timing.{events_are_timed}
use Rattle.loop_model.proofs.Printings.{all_isolated, all_printed}
use Rattle.loop_model.proofs.Expiring.{closings_are_in_time}
use Rattle.loop_model.proofs.Emptying.{sessions_are_led, all_are_taken}
use Rattle.loop_model.proofs.Cutting.{events_are_cut, turns_cut, rests_are_dropped}
use Rattle.loop_model.proofs.Hearing.{octets_are_heard}
use Rattle.loop_model.proofs.Endings.{ends_are_told}
use Rattle.loop_model.proofs.Faulting.{faults_are_told}
use Rattle.loop_model.proofs.Givings.{accounted}
use Rattle.loop_model.proofs.Writing.{all_are_given, live_are_whole, rest_waits, output_is_written, serving_kept, dialling_kept}
use Rattle.loop_model.proofs.Closings.{on_open}

-- ---- a turn

pub turns_are_lawful : TurnsAreLawful
turns_are_lawful plan c a orderly going = record {
  openings = openings_are_told.events plan c a going;
  reads = one_read_a_turn plan c a going;
  cut = λ conn. turns_cut plan c a conn going orderly.rise;
  ticks = ticks_are_due plan c a going orderly.rise;
  until = λ on. turns_wait plan c a going on;
  timed = events_are_timed.turns plan c a going;
}

-- ---- the session that a dial opens

any_usual : Usual (λ g. Unit {0})
any_usual = record { sends = λ text. tt; leaves = λ sub. tt; takes = tt }

served_own : (r : Rules) (m : ℕ) (s : Session ModelEnd) (g : GivenToSession) (a : Met)
    → Left Own s (served model_ends r m s g a).state (served model_ends r m s g a).entries (served model_ends r m s g a).calls
served_own r m s g a =
    left_served r Own (own_calls r).quiet m s g a (steady_handled r (λ g. Unit {0}) Own (own_steady r) any_usual m s g (first_answer_of nothing_said a.says) tt)

left_ordered : (conn : ℕ) (s : Session ModelEnd) (ts : List (Session ModelEnd)) (xs : List JournalEntry) (cs : List Call) → 0 < conn → s.number ≡ conn → Left Own s ts xs cs
    → Ordered conn ts
unfolding UpTo
left_ordered conn s ts xs cs up num (Stays t p q) =
    let e : t.number ≡ conn = q.number ∙ num in
    subst (λ z. Ordered conn z) (sym p) (record { rises = (subst (λ z. 0 < z) (sym e) up, tt); up_to = ((let h : t.number ≤ conn = omega arith in h), tt) })
left_ordered conn s ts xs cs up num (Closed t ds over p e q) = subst (λ z. Ordered conn z) (sym p) (record { rises = tt; up_to = tt })

left_opens : (s : Session ModelEnd) (ts : List (Session ModelEnd)) (xs : List JournalEntry) (cs : List Call) → Left Own s ts xs cs → opened_in cs ≡ []
unfolding opened_in
left_opens s ts xs cs (Stays t p q) = q.opens
left_opens s ts xs cs (Closed t ds over p e q) = ap opened_in e ∙ opened_in-append ds (Closes t.number ∷ []) ∙ ap (λ z. z ++ []) q.opens

-- what is known of the opening
record Opened (conn : ℕ) (o : Out (Loop ModelEnd)) : Type 0 where
  ordered : Ordered conn o.state.sessions
  few : IsFew o.state.sessions
  opens : opened_in o.calls ≡ []

one_few : (n : ℕ) → n ≤ 1 → n ≤ 256
one_few n p = omega arith

called_opened : (plan : Plan) (caller : Caller) (user : Option Mind) (l : Loop ModelEnd) (conn : ℕ) (a : Met) → 0 < conn → l.sessions ≡ []
    → Opened conn (called_by model_ends user plan caller l conn a)
unfolding UpTo opened_in
called_opened plan caller None l conn a up none = record {
  ordered = subst (λ z. Ordered conn z) (sym none) (record { rises = tt; up_to = tt });
  few = subst IsFew (sym none) (omega arith);
  opens = refl;
}
called_opened plan caller (Some mind) l conn a up none =
    let s = begun_dial conn (calling model_ends plan caller l) mind in
    let g = Begins caller.engine plan.rbc (next_u64 l.words).0 in
    let o = served model_ends (rules_of plan) l.moment s g a in
    let left = served_own (rules_of plan) l.moment s g a in
    record {
      ordered = left_ordered conn s o.state o.entries o.calls up refl left;
      few = one_few (length o.state) (left_few s o.state o.entries o.calls left);
      opens = left_opens s o.state o.entries o.calls left;
    }

record DialSo (o : Out (Course ModelEnd)) : Type 0 where
  few : IsFew o.state.loop.sessions
  rise : Rises 0 (numbers o.state.loop.sessions)

dial_so : (plan : Plan) (caller : Caller) (conn : Option ℕ) (c : Course ModelEnd) (address : List ℕ) (a : Dialled) → c.loop.sessions ≡ []
    → Rises 0 (opened_in (dials_to model_ends conn plan caller c address a).calls) → DialSo (dials_to model_ends conn plan caller c address a)
unfolding called opened_in InOrder Few
dial_so plan caller None c address a none rises =
    record { few = subst IsFew (sym none) (omega arith); rise = subst (λ z. Rises 0 (numbers z)) (sym none) tt }
dial_so plan caller (Some conn) c address a none rises =
    let d = asks a.first c in
    let l = called_by model_ends (next_user d.loop.users) plan caller d.loop conn a.met in
    let h = called_opened plan caller (next_user d.loop.users) d.loop conn a.met rises.0 none in
    let e = (opens model_ends plan caller d conn a.met).state in
    let t = run model_ends plan e a.turns in
    let on : Rises conn (opened_in t.calls) = subst (λ z. Rises conn z) (opened_in-append l.calls t.calls ∙ ap (λ z. z ++ opened_in t.calls) h.opens) rises.1 in
    record {
      few = wise_run plan Few (few plan) e a.turns h.few;
      rise = (wise_run plan InOrder (in_order plan) e a.turns conn on h.ordered).rises;
    }

-- ---- the whole

serving_orderly : (plan : Plan) (c : Course ModelEnd) (turns : List Turn) → IsServing plan c turns → HasOrderlySessions (run model_ends plan c turns).state
serving_orderly plan c turns h = record {
  few = few_are_live plan c turns (subst IsFew (sym h.none) (omega arith));
  rise = sessions_rise plan c turns h;
  kept = serving_kept plan c turns h;
}

dialling_orderly : (plan : Plan) (caller : Caller) (c : Course ModelEnd) (address : List ℕ) (a : Dialled) → IsDialling plan caller c address a
    → HasOrderlySessions (dials model_ends plan caller c address a).state
unfolding dials
dialling_orderly plan caller c address a h =
    let d = dial_so plan caller a.conn c address a h.none h.rises in record { few = d.few; rise = d.rise; kept = dialling_kept plan caller c address a h }

pub journals_are_lawful : JournalsAreLawful
journals_are_lawful = record {
  serving = λ plan c turns h. record {
    isolated = (all_isolated steps_alike made_stands).serving plan c turns h;
    lives = sessions_are_led.serving plan c turns h;
    printed = (all_printed steps_alike made_stands).serving plan c turns h;
    heard = (octets_are_heard release_stays breaks_release uses_octets).serving plan c turns h;
    cut = events_are_cut.serving plan c turns h;
    dropped = rests_are_dropped.serving plan c turns h;
    ended = ends_are_told.serving plan c turns;
    faults = (faults_are_told steps_alike made_stands shows_alike release_stays breaks_release).serving plan c turns h;
    taken = all_are_taken.serving plan c turns h;
    accounted = accounted.serving plan c turns h;
    given = all_are_given.serving plan c turns h;
    waits = rest_waits.serving plan c turns h;
    written = output_is_written.serving plan c turns h;
    on_open = on_open.serving plan c turns h;
    whole = live_are_whole.serving plan c turns h;
    closing = (closings_are_in_time steps_alike made_stands shows_alike release_stays breaks_release).serving plan c turns h;
    orderly = serving_orderly plan c turns h;
  };
  dialling = λ plan caller c address a h. record {
    isolated = (all_isolated steps_alike made_stands).dialling plan caller c address a h;
    lives = sessions_are_led.dialling plan caller c address a h;
    printed = (all_printed steps_alike made_stands).dialling plan caller c address a h;
    heard = (octets_are_heard release_stays breaks_release uses_octets).dialling plan caller c address a h;
    cut = events_are_cut.dialling plan caller c address a h;
    dropped = rests_are_dropped.dialling plan caller c address a h;
    ended = ends_are_told.dialling plan caller c address a;
    faults = (faults_are_told steps_alike made_stands shows_alike release_stays breaks_release).dialling plan caller c address a h;
    taken = all_are_taken.dialling plan caller c address a h;
    accounted = accounted.dialling plan caller c address a h;
    given = all_are_given.dialling plan caller c address a h;
    waits = rest_waits.dialling plan caller c address a h;
    written = output_is_written.dialling plan caller c address a h;
    on_open = on_open.dialling plan caller c address a h;
    whole = live_are_whole.dialling plan caller c address a h;
    closing = (closings_are_in_time steps_alike made_stands shows_alike release_stays breaks_release).dialling plan caller c address a h;
    orderly = dialling_orderly plan caller c address a h;
  };
}
