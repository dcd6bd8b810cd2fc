-- No call is made on a connection that was closed.
use Rattle.loop_model.specs.Ends.{ModelEnd, model_ends}
use Rattle.std.proofs.Common.{◌≡◌, ℕ, max, false, List, [], ◌∷◌, ◌++◌, Option, Some, None, refl, true≢false, sym, ◌∙◌, append_assoc, subst}
use Rattle.link_trait.specs.Wires.{Call, Reading, Reads, Closes}
use Rattle.loop_model.specs.Journals.{JournalEntry}
use Rattle.loop_model.specs.Outs.{Out}
use Rattle.loop_model.specs.Sessions.{Rules, Session}
use Rattle.loop_model.specs.Visits.{most_read}
use Rattle.loop_model.specs.Loops.{Plan, rules_of, Course, run, dials}
use Rattle.loop_model.specs.Parts.{session_of_connection, of, calls_at}
use Rattle.loop_model.specs.Laws.{AreOnOpen, is_close, EndAtClose, CallsAreOnOpen}
use Rattle.loop_model.proofs.Steadies.{Steady, AllLeft, all_left_of}
use Rattle.loop_model.proofs.Lives.{Own, Keeps, Fits, Knows, knows_run}
use Rattle.loop_model.proofs.Dialling.{knows_dial}
use Rattle.loop_model.proofs.Owns.{Bare, AllGiven, Both, steady_both, bare_both, own_steady, own_bare, own_reads, usual_calls}

-- none is a close
abbrev pub NoClose : List Call → Type 0
NoClose [] = Unit {0}
NoClose (call ∷ calls) = (is_close call ≡ false) × NoClose calls

pub no_close-append : (cs ds : List Call) → NoClose cs → NoClose ds → NoClose (cs ++ ds)
no_close-append [] ds p q = q
no_close-append (call ∷ cs) ds p q = (p.0, no_close-append cs ds p.1 q)

open_ends : (cs : List Call) → NoClose cs → EndAtClose cs
open_ends [] p = tt
open_ends (call ∷ cs) p = (λ e. absurd (true≢false (sym e ∙ p.0)), open_ends cs p.1)

closed_ends : (cs : List Call) (n : ℕ) → NoClose cs → EndAtClose (cs ++ Closes n ∷ [])
closed_ends [] n p = (λ e. refl, tt)
closed_ends (call ∷ cs) n p = (λ e. absurd (true≢false (sym e ∙ p.0)), closed_ends cs n p.1)

unfoldable pub Opens : Session ModelEnd → Session ModelEnd → List JournalEntry → List Call → Type 0
Opens s t xs cs = NoClose cs

pub steady : (r : Rules) → Steady r (λ g. Unit {0}) Opens
unfolding Opens
steady r = record {
  none = λ s. tt;
  then_ = λ s t u xs ys cs ds p q. no_close-append cs ds p q;
  given = λ m s g allowed fits. tt;
  stalls = λ m s g allowed fits. tt;
  heard = λ s mind. tt;
  parts = λ s told at gone. tt;
}

pub bare : Bare Opens
unfolding Opens
bare = record {
  wrote = λ s n whole. (refl, tt);
  put_off = λ s. (refl, tt);
  noted = λ s. tt;
  failed = λ s. (refl, tt);
  breaks = λ s gone. tt;
}

all_given : AllGiven (λ g. Unit {0})
all_given = record { usual = record { sends = λ text. tt; leaves = λ sub. tt; takes = tt }; hears = λ octets. tt; ticks = tt; ends = tt; faults = tt }

pub reads : (s : Session ModelEnd) (waits : ℕ) (reading : Reading) → Opens s s [] (Reads s.number most_read waits reading ∷ [])
unfolding Opens
reads s waits reading = (refl, tt)

abbrev Q : Session ModelEnd → Session ModelEnd → List JournalEntry → List Call → Type 0
Q = Both Own Opens

q_steady : (r : Rules) → Steady r (λ g. Unit {0}) Q
q_steady r = steady_both r (λ g. Unit {0}) Own Opens (own_steady r) (steady r)

q_calls : (r : Rules) → AllLeft r Q
q_calls r =
    all_left_of r Q
    (usual_calls r (λ g. Unit {0}) Q (q_steady r) all_given (bare_both Own Opens own_bare bare)
    (λ s n reading. (own_reads s n reading, reads s n reading)))

abbrev Live : Session ModelEnd → List JournalEntry → List Call → Type 0
Live s xs cs = NoClose cs

abbrev Gone : List JournalEntry → List Call → Type 0
Gone xs cs = EndAtClose cs

keeps : (plan : Plan) → Keeps plan Q Live Gone
unfolding Opens
keeps plan = record {
  visit = λ s t xs ys cs ds h q. no_close-append cs ds h q.1;
  close = λ s t xs ys cs ds over h q. subst EndAtClose (append_assoc cs ds (Closes t.number ∷ [])) (closed_ends (cs ++ ds) t.number (no_close-append cs ds h q.1));
  open_ = λ l conn mind. tt;
  never = tt;
  full = λ m conn live most. (λ e. refl, tt);
  unserved = λ m conn handed. (λ e. refl, tt);
}

closes_last : (plan : Plan) (s : Option (Session ModelEnd)) (conn : ℕ) (xs : List JournalEntry) (cs : List Call)
    → Fits plan Q (q_calls (rules_of plan)) (λ s t xs cs p. p.0) Live Gone (keeps plan) s conn xs cs → EndAtClose cs
unfolding Fits
closes_last plan None conn xs cs h = h
closes_last plan (Some s) conn xs cs h = open_ends cs h.1

all_so : (plan : Plan) (o : Out (Course ModelEnd))
    → Knows plan Q (q_calls (rules_of plan)) (λ s t xs cs p. p.0) Live Gone (keeps plan) o.entries o.calls o.state.loop.sessions → AreOnOpen o
all_so plan o k conn = closes_last plan (session_of_connection conn o.state.loop.sessions) conn (of conn o.entries) (calls_at conn o.calls) (k.fits conn)

pub on_open : CallsAreOnOpen
on_open = record {
  serving = λ plan c turns h.
      all_so plan (run model_ends plan c turns)
      (knows_run plan Q (q_calls (rules_of plan)) (λ s t xs cs p. p.0) Live Gone (keeps plan) c turns h.none h.rises);
  dialling = λ plan caller c address a h.
      all_so plan (dials model_ends plan caller c address a)
      (knows_dial plan caller (λ g. Unit {0}) Q (q_steady (rules_of plan)) all_given.usual (q_calls (rules_of plan)) (λ s t xs cs p. p.0) Live Gone (keeps plan)
      (max c.loop.moment a.first) (λ l conn mind now. tt) c address a h.none refl h.rises);
}
