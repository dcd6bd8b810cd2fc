-- What deeds of a visit leave of other connections.
use Rattle.std.proofs.Common.{◌≡◌, ◌≢◌, ◌⊎◌, ℕ, ◌==◌, Bool, ◌||◌, false, List, [], ◌∷◌, ◌++◌, refl, sym, ◌∙◌, inl, inr, fold, ap, subst, append_assoc, append-nil}
use Rattle.std.proofs.lemmas.Bool.{ne_eqb}
use Rattle.std.proofs.lemmas.List.Sums.{fold-append}
use Rattle.er_base.specs.declared.side.Side.{Side}
use Rattle.er_base.specs.declared.side.Side.TheVariants.{E, R}
use Rattle.outside.specs.Acts.{Listened, Dialled, Turned, Read, Sent, Closed, Act, calls_in_acts}
use Rattle.outside.specs.Scripts.{printing}
use Rattle.outside.specs.Seen.{opened_by_call}
use Rattle.relay_script.specs.declared.script.Script.{Script}
use Rattle.relay_loop.specs.RelayLines.{RelayLine, Heading, Opening, Received, Given, SideEnd, Closing, text_of_line, told_by_line}
use Rattle.relay_loop.specs.Connections.{Far, Nobody, Unreached, Reached, RelayedConnection}
use Rattle.relay_loop.specs.RelayDeeds.{RelayDeed, Puts, Flushes, Calls, Asks, acts_from, read_by_deed, given_by_deed, closes_by_deed, told_by_deed, socket_behind, closes_in, loop_calls_in, octets_told_of, IsLineOf, IsOfVisit, AreOfVisit}
use Rattle.relay_loop.specs.Links.{IsSafe, IsFinished, IsUntouched, IsUntold}
use Rattle.relay_loop.specs.Rings.{behind_deed, connections_in, far_conn, IsQuiet, IsForsaken, IsSafeConnection, IsOwnDeed, AreOwnDeeds, SettlesBefore, SettleAll, IsLeftClosed, AllLeft}
use Rattle.relay_loop.proofs.Deeds.{closing_more, opening_more, ending_more, closes_append}
use Rattle.relay_loop.proofs.LinkSafety.{given_still, read_still, told_still, closes_still, closes_more}
use Rattle.relay_loop.proofs.WayGoes.{other_conn}
use Rattle.relay_loop.proofs.LinkReads.{safe_read}
use Rattle.relay_loop.proofs.Tellings.{silent_append, silent_still, other_told}
use Rattle.relay_loop.specs.Settled.{SocketTold}

-- ---- deeds of a visit, at another socket and of another number

elsewhere : (e r conn at : ℕ) → (at ≡ e) ⊎ (at ≡ r) → conn ≢ e → conn ≢ r → at ≢ conn
elsewhere e r conn at (inl is) not_e not_r same = not_e (sym same ∙ is)
elsewhere e r conn at (inr is) not_e not_r same = not_r (sym same ∙ is)

visit_reads : (number e r conn : ℕ) (deed : RelayDeed) → IsOfVisit number e r deed → conn ≢ e → conn ≢ r → read_by_deed conn deed ≡ []
visit_reads number e r conn (Puts line) h not_e not_r = refl
visit_reads number e r conn Flushes h not_e not_r = refl
visit_reads number e r conn (Calls (Listened address listens)) h not_e not_r = refl
visit_reads number e r conn (Calls (Dialled address to)) h not_e not_r = refl
visit_reads number e r conn (Calls (Turned until what)) h not_e not_r = refl
visit_reads number e r conn (Calls (Read at size reading)) h not_e not_r = other_conn at conn _ (elsewhere e r conn at h not_e not_r)
visit_reads number e r conn (Calls (Sent at piece answer)) h not_e not_r = refl
visit_reads number e r conn (Calls (Closed at)) h not_e not_r = refl
visit_reads number e r conn (Asks moment) h not_e not_r = refl

visit_gives : (number e r conn : ℕ) (deed : RelayDeed) → IsOfVisit number e r deed → conn ≢ e → conn ≢ r → given_by_deed conn deed ≡ []
visit_gives number e r conn (Puts line) h not_e not_r = refl
visit_gives number e r conn Flushes h not_e not_r = refl
visit_gives number e r conn (Calls (Listened address listens)) h not_e not_r = refl
visit_gives number e r conn (Calls (Dialled address to)) h not_e not_r = refl
visit_gives number e r conn (Calls (Turned until what)) h not_e not_r = refl
visit_gives number e r conn (Calls (Read at size reading)) h not_e not_r = refl
visit_gives number e r conn (Calls (Sent at piece answer)) h not_e not_r = other_conn at conn _ (elsewhere e r conn at h not_e not_r)
visit_gives number e r conn (Calls (Closed at)) h not_e not_r = refl
visit_gives number e r conn (Asks moment) h not_e not_r = refl

visit_closes : (number e r conn : ℕ) (deed : RelayDeed) → IsOfVisit number e r deed → conn ≢ e → conn ≢ r → closes_by_deed conn deed ≡ false
visit_closes number e r conn (Puts line) h not_e not_r = refl
visit_closes number e r conn Flushes h not_e not_r = refl
visit_closes number e r conn (Calls (Listened address listens)) h not_e not_r = refl
visit_closes number e r conn (Calls (Dialled address to)) h not_e not_r = refl
visit_closes number e r conn (Calls (Turned until what)) h not_e not_r = refl
visit_closes number e r conn (Calls (Read at size reading)) h not_e not_r = refl
visit_closes number e r conn (Calls (Sent at piece answer)) h not_e not_r = refl
visit_closes number e r conn (Calls (Closed at)) h not_e not_r = ne_eqb at conn (elsewhere e r conn at h not_e not_r)
visit_closes number e r conn (Asks moment) h not_e not_r = refl

visit_told : (number e r conn : ℕ) (deed : RelayDeed) (t : SocketTold) → IsOfVisit number e r deed → conn ≢ e → conn ≢ r → told_by_deed conn t deed ≡ t
visit_told number e r conn (Puts line) t h not_e not_r = refl
visit_told number e r conn Flushes t h not_e not_r = refl
visit_told number e r conn (Calls (Listened address listens)) t h not_e not_r = refl
visit_told number e r conn (Calls (Dialled address to)) t h not_e not_r = refl
visit_told number e r conn (Calls (Turned until what)) t h not_e not_r = refl
visit_told number e r conn (Calls (Read at size reading)) t h not_e not_r = other_told at conn _ t (elsewhere e r conn at h not_e not_r)
visit_told number e r conn (Calls (Sent at piece answer)) t h not_e not_r = other_told at conn _ t (elsewhere e r conn at h not_e not_r)
visit_told number e r conn (Calls (Closed at)) t h not_e not_r = refl
visit_told number e r conn (Asks moment) t h not_e not_r = refl

pub visit_untouched : (number e r conn : ℕ) (deeds : List RelayDeed) → AreOfVisit number e r deeds → conn ≢ e → conn ≢ r → IsUntouched conn deeds
visit_untouched number e r conn [] h not_e not_r = record { unread = refl; ungiven = refl; unclosed = refl; silent = λ t. refl }
visit_untouched number e r conn (deed ∷ deeds) h not_e not_r =
    let rest = visit_untouched number e r conn deeds h.1 not_e not_r in record {
      unread = rw (visit_reads number e r conn deed h.0 not_e not_r) rest.unread;
      ungiven = rw (visit_gives number e r conn deed h.0 not_e not_r) rest.ungiven;
      unclosed = rw (visit_closes number e r conn deed h.0 not_e not_r) rest.unclosed;
      silent = λ t. ap (λ (s : SocketTold). socket_behind conn s deeds) (visit_told number e r conn deed t h.0 not_e not_r) ∙ rest.silent t;
    }

line_elsewhere : (number other : ℕ) (side : Side) (line : RelayLine) → IsLineOf number line → other ≢ number → told_by_line other side line ≡ []
line_elsewhere number other side Heading h differ = refl
line_elsewhere number other side (Opening moment of) h differ = refl
line_elsewhere number other side (Received moment of from octets) h differ = refl
line_elsewhere number other side (Given moment of from octets) h differ =
    let not : (of == other) ≡ false = ne_eqb of other (λ same. differ (sym same ∙ h)) in rw not refl
line_elsewhere number other side (SideEnd moment of from) h differ = refl
line_elsewhere number other side (Closing moment of) h differ = refl

visit_tells : (number e r other : ℕ) (side : Side) (deeds : List RelayDeed) → AreOfVisit number e r deeds → other ≢ number → octets_told_of other side deeds ≡ []
visit_tells number e r other side [] h differ = refl
visit_tells number e r other side (Puts line ∷ deeds) h differ =
    rw (line_elsewhere number other side line h.0 differ) (visit_tells number e r other side deeds h.1 differ)
visit_tells number e r other side (Flushes ∷ deeds) h differ = visit_tells number e r other side deeds h.1 differ
visit_tells number e r other side (Calls call ∷ deeds) h differ = visit_tells number e r other side deeds h.1 differ
visit_tells number e r other side (Asks moment ∷ deeds) h differ = visit_tells number e r other side deeds h.1 differ

pub visit_untold : (number e r other : ℕ) (deeds : List RelayDeed) → AreOfVisit number e r deeds → other ≢ number → IsUntold other deeds
visit_untold number e r other deeds h differ =
    record { of_e = visit_tells number e r other E deeds h differ; of_r = visit_tells number e r other R deeds h differ }

-- no connection is accepted or dialled
pub visit_same : (number e r : ℕ) (deeds : List RelayDeed) → AreOfVisit number e r deeds → (before : List RelayedConnection) → fold behind_deed before deeds ≡ before
visit_same number e r [] h before = refl
visit_same number e r (Puts line ∷ deeds) h before = visit_same number e r deeds h.1 before
visit_same number e r (Flushes ∷ deeds) h before = visit_same number e r deeds h.1 before
visit_same number e r (Calls (Listened address listens) ∷ deeds) h before = absurd h.0
visit_same number e r (Calls (Dialled address to) ∷ deeds) h before = absurd h.0
visit_same number e r (Calls (Turned until what) ∷ deeds) h before = absurd h.0
visit_same number e r (Calls (Read at size reading) ∷ deeds) h before = visit_same number e r deeds h.1 before
visit_same number e r (Calls (Sent at piece answer) ∷ deeds) h before = visit_same number e r deeds h.1 before
visit_same number e r (Calls (Closed at) ∷ deeds) h before = visit_same number e r deeds h.1 before
visit_same number e r (Asks moment ∷ deeds) h before = absurd h.0

-- nor does it listen or turn
pub visit_calls : (number e r : ℕ) (deeds : List RelayDeed) → AreOfVisit number e r deeds → loop_calls_in deeds ≡ []
visit_calls number e r [] h = refl
visit_calls number e r (Puts line ∷ deeds) h = visit_calls number e r deeds h.1
visit_calls number e r (Flushes ∷ deeds) h = visit_calls number e r deeds h.1
visit_calls number e r (Calls (Listened address listens) ∷ deeds) h = absurd h.0
visit_calls number e r (Calls (Dialled address to) ∷ deeds) h = absurd h.0
visit_calls number e r (Calls (Turned until what) ∷ deeds) h = absurd h.0
visit_calls number e r (Calls (Read at size reading) ∷ deeds) h = visit_calls number e r deeds h.1
visit_calls number e r (Calls (Sent at piece answer) ∷ deeds) h = visit_calls number e r deeds h.1
visit_calls number e r (Calls (Closed at) ∷ deeds) h = visit_calls number e r deeds h.1
visit_calls number e r (Asks moment ∷ deeds) h = absurd h.0

printing_opens : (text : List ℕ) (acts : List Act) (n : ℕ) → fold opened_by_call n (calls_in_acts (printing text ++ acts)) ≡ fold opened_by_call n (calls_in_acts acts)
printing_opens [] acts n = refl
printing_opens (octet ∷ octets) acts n = refl

pub visit_opens : (number e r : ℕ) (waiting : List ℕ) (deeds : List RelayDeed) → AreOfVisit number e r deeds → (n : ℕ)
    → fold opened_by_call n (calls_in_acts (acts_from waiting deeds)) ≡ n
unfolding acts_from
visit_opens number e r waiting [] h n = refl
visit_opens number e r waiting (Puts line ∷ deeds) h n = visit_opens number e r (waiting ++ text_of_line line) deeds h.1 n
visit_opens number e r waiting (Flushes ∷ deeds) h n = printing_opens waiting (acts_from [] deeds) n ∙ visit_opens number e r [] deeds h.1 n
visit_opens number e r waiting (Calls (Listened address listens) ∷ deeds) h n = absurd h.0
visit_opens number e r waiting (Calls (Dialled address to) ∷ deeds) h n = absurd h.0
visit_opens number e r waiting (Calls (Turned until what) ∷ deeds) h n = absurd h.0
visit_opens number e r waiting (Calls (Read at size reading) ∷ deeds) h n = visit_opens number e r waiting deeds h.1 n
visit_opens number e r waiting (Calls (Sent at piece answer) ∷ deeds) h n = visit_opens number e r waiting deeds h.1 n
visit_opens number e r waiting (Calls (Closed at) ∷ deeds) h n = visit_opens number e r waiting deeds h.1 n
visit_opens number e r waiting (Asks moment ∷ deeds) h n = absurd h.0

-- ---- what stays of another connection

or_false : (a b : Bool) → a ≡ false → b ≡ false → (a || b) ≡ false
or_false a b p q = rw (p, q) refl

pub open_still : (conn : ℕ) (xs ys : List RelayDeed) → closes_in conn xs ≡ false → closes_in conn ys ≡ false → closes_in conn (xs ++ ys) ≡ false
open_still conn xs ys p q = closes_append conn xs ys ∙ or_false (closes_in conn xs) (closes_in conn ys) p q

pub untouched_append : (conn : ℕ) (xs ys : List RelayDeed) → IsUntouched conn xs → IsUntouched conn ys → IsUntouched conn (xs ++ ys)
untouched_append conn xs ys p q = record {
  unread = read_still conn xs ys q.unread ∙ p.unread;
  ungiven = given_still conn xs ys q.ungiven ∙ p.ungiven;
  unclosed = open_still conn xs ys p.unclosed q.unclosed;
  silent = silent_append conn xs ys p.silent q.silent;
}

pub untold_append : (number : ℕ) (xs ys : List RelayDeed) → IsUntold number xs → IsUntold number ys → IsUntold number (xs ++ ys)
untold_append number xs ys p q =
    record { of_e = told_still number E xs ys q.of_e ∙ p.of_e; of_r = told_still number R xs ys q.of_r ∙ p.of_r }

pub safe_on : (script : Script) (number e r : ℕ) (done deeds : List RelayDeed) → IsUntouched e deeds → IsUntouched r deeds → IsUntold number deeds
    → IsSafe script number e r done → IsSafe script number e r (done ++ deeds)
safe_on script number e r done deeds at_e at_r untold s =
    safe_read script number e r done deeds at_e.ungiven at_r.ungiven at_e.unclosed at_r.unclosed
    (rw (told_still number E done deeds untold.of_e, read_still e done deeds at_e.unread) s.carried_of_e)
    (rw (told_still number R done deeds untold.of_r, read_still r done deeds at_r.unread) s.carried_of_r) s

pub quiet_on : (number e : ℕ) (done deeds : List RelayDeed) → IsUntouched e deeds → IsUntold number deeds → IsQuiet number e done → IsQuiet number e (done ++ deeds)
quiet_on number e done deeds at_e untold q = record {
  unread = read_still e done deeds at_e.unread ∙ q.unread;
  ungiven = given_still e done deeds at_e.ungiven ∙ q.ungiven;
  closed = λ c. closing_more number done deeds (q.closed (closes_still e done deeds at_e.unclosed c));
  untold = untold_append number done deeds q.untold untold;
}

pub forsaken_on : (number e : ℕ) (done deeds : List RelayDeed) → IsUntouched e deeds → IsUntold number deeds → IsForsaken number e done
    → IsForsaken number e (done ++ deeds)
forsaken_on number e done deeds at_e untold f = record {
  quiet = quiet_on number e done deeds at_e untold f.quiet;
  ended = λ c. ending_more number R done deeds (f.ended (closes_still e done deeds at_e.unclosed c));
}

pub connection_on : (script : Script) (dial : List ℕ) (number e : ℕ) (far : Far) (done deeds : List RelayDeed) → IsUntouched e deeds → IsUntouched (far_conn e far) deeds
    → IsUntold number deeds → IsSafeConnection script dial done number e far → IsSafeConnection script dial (done ++ deeds) number e far
connection_on script dial number e Nobody done deeds at_e at_r untold s = quiet_on number e done deeds at_e untold s
connection_on script dial number e (Unreached address) done deeds at_e at_r untold s = (s.0, forsaken_on number e done deeds at_e untold s.1)
connection_on script dial number e (Reached address r) done deeds at_e at_r untold s =
    (s.0, (opening_more number done deeds s.1.0, safe_on script number e r done deeds at_e at_r untold s.1.1))

pub own_append : (dial : List ℕ) (before : List RelayedConnection) (xs ys : List RelayDeed) → AreOwnDeeds dial before xs → AreOwnDeeds dial (fold behind_deed before xs) ys
    → AreOwnDeeds dial before (xs ++ ys)
own_append dial before [] ys p q = q
own_append dial before (x ∷ xs) ys p q = (p.0, own_append dial (behind_deed before x) xs ys p.1 q)

-- one more
pub own_more : (dial : List ℕ) (done : List RelayDeed) (deed : RelayDeed) → AreOwnDeeds dial [] done → IsOwnDeed dial (connections_in done) deed
    → AreOwnDeeds dial [] (done ++ deed ∷ [])
own_more dial done deed p q = own_append dial [] done (deed ∷ []) p (q, tt)

-- what was given by each wait
settle_append : (script : Script) (done xs : List RelayDeed) (deed : RelayDeed) → SettleAll script done xs → SettlesBefore script (done ++ xs) deed
    → SettleAll script done (xs ++ deed ∷ [])
settle_append script done [] deed p q = (subst (λ (d : List RelayDeed). SettlesBefore script d deed) (append-nil done) q, tt)
settle_append script done (x ∷ xs) deed p q = (
  p.0,
  settle_append script (done ++ x ∷ []) xs deed p.1 (subst (λ (d : List RelayDeed). SettlesBefore script d deed) (sym (append_assoc done (x ∷ []) xs)) q),
)

pub settle_more : (script : Script) (done : List RelayDeed) (deed : RelayDeed) → SettleAll script [] done → SettlesBefore script done deed
    → SettleAll script [] (done ++ deed ∷ [])
settle_more script done deed p q = settle_append script [] done deed p q

pub settle_visit : (script : Script) (number e r : ℕ) (done : List RelayDeed) (deed : RelayDeed) → IsOfVisit number e r deed → SettlesBefore script done deed
settle_visit script number e r done (Puts line) h = tt
settle_visit script number e r done Flushes h = tt
settle_visit script number e r done (Calls (Listened address listens)) h = tt
settle_visit script number e r done (Calls (Dialled address to)) h = tt
settle_visit script number e r done (Calls (Turned until what)) h = absurd h
settle_visit script number e r done (Calls (Read at size reading)) h = tt
settle_visit script number e r done (Calls (Sent at piece answer)) h = tt
settle_visit script number e r done (Calls (Closed at)) h = tt
settle_visit script number e r done (Asks moment) h = tt

-- what was closed stays so
one_left : (done deeds : List RelayDeed) (e : ℕ) (far : Far) → IsLeftClosed done e far → IsLeftClosed (done ++ deeds) e far
one_left done deeds e Nobody left = closes_more e done deeds left
one_left done deeds e (Unreached address) left = closes_more e done deeds left
one_left done deeds e (Reached address r) left = tt

pub left_on : (done deeds : List RelayDeed) (connections : List RelayedConnection) → AllLeft done connections → AllLeft (done ++ deeds) connections
left_on done deeds [] left = tt
left_on done deeds (one ∷ others) left = (one_left done deeds one.e one.r left.0, left_on done deeds others left.1)

-- what is finished stays so
pub finished_on : (script : Script) (e r : ℕ) (done deeds : List RelayDeed) → IsUntouched e deeds → IsUntouched r deeds → IsFinished script e r done
    → IsFinished script e r (done ++ deeds)
finished_on script e r done deeds at_e at_r f = record {
  of_e = rw (silent_still e done deeds at_e.silent, silent_still r done deeds at_r.silent, read_still e done deeds at_e.unread, read_still r done deeds at_r.unread, given_still r done deeds at_r.ungiven) f.of_e;
  of_r = rw (silent_still e done deeds at_e.silent, silent_still r done deeds at_r.silent, read_still e done deeds at_e.unread, read_still r done deeds at_r.unread, given_still e done deeds at_e.ungiven) f.of_r;
}

pub connections_on : (done deeds : List RelayDeed) → ((before : List RelayedConnection) → fold behind_deed before deeds ≡ before)
    → connections_in (done ++ deeds) ≡ connections_in done
connections_on done deeds same = fold-append behind_deed [] done deeds ∙ same (connections_in done)
