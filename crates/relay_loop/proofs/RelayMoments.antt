-- What a relay did is safe at each moment: from its deeds to its acts.
use Rattle.link_trait.specs.declared.wires.Happening.{Happening}
use Rattle.std.proofs.Common.{◌≡◌, ℕ, Bool, ◌||◌, true, false, List, [], ◌∷◌, ◌++◌, refl, sym, ap, ◌∙◌, subst, append_assoc, append-nil, fold, Result, Ok, Err, Option}
use Rattle.std.proofs.lemmas.List.Concat.{flat_map-append}
use Rattle.std.proofs.lemmas.List.Folds.{list_any-append}
use Rattle.std.proofs.lemmas.List.Sums.{fold-append}
use Rattle.er_base.specs.declared.side.Side.TheVariants.{E, R}
use Rattle.outside.specs.Acts.{Act, Wrote, SeenCall, Listened, Dialled, Turned, Read, Sent, Closed, Fetched, Called, Asked, Drew}
use Rattle.outside.specs.Doings.{Told}
use Rattle.outside.specs.Scripts.{printing}
use Rattle.relay_script.specs.declared.script.Script.{Script}
use Rattle.relay_loop.specs.declared.fault.RelayFault.{RelayFault}
use Rattle.relay_loop.specs.declared.fault.RelayFault.TheVariants as fault
use Rattle.relay_loop.specs.RelayLines.{RelayLine, text_of_line, text_of_lines, opens_in_lines}
use Rattle.relay_loop.specs.Octets.{given_by_call, given_by_act, given_in_acts, read_by_call, read_by_act, read_in_acts}
use Rattle.relay_loop.specs.Connections.{Far, Nobody, Unreached, Reached, RelayedConnection, behind_act, connections_in_acts, closes_by_act, closes_by_call, closes_in_acts, AreOwnActs, AreDialledFor}
use Rattle.relay_loop.specs.RelayDeeds.{RelayDeed, Puts, Flushes, Calls, Asks, acts_from, text_left, IsLastDone, written_from, lines_written, given_in, octets_read_at, closes_in, Steadily, socket_behind}
use Rattle.relay_loop.specs.Settled.{SocketTold, told_nothing, told_by_act, IsSettled, AllSettled, SettlesBy}
use Rattle.relay_loop.specs.Links.{IsSafe}
use Rattle.relay_loop.specs.Rings.{behind_deed, connections_in, IsQuiet, IsSafeConnection, AllSafe, AreOwnDeeds, IsSettledAt, AllSettledAt, SettlesAt, SettleAll, AreSafe, IsLastOf, EndsRun}
use Rattle.relay_loop.specs.Relays.{text_by_act, text_in_acts, IsPassedOn, IsLeftAlone, IsRelayed, AreRelayed, RelaysSoFar, Relays}
use Rattle.relay_loop.proofs.Deeds.{begins_then, acts_append, left_append, written_told, steadily_last}

-- ---- the acts of deeds

printing_gives : (conn : ℕ) (text : List ℕ) → given_in_acts conn (printing text) ≡ []
printing_gives conn [] = refl
printing_gives conn (octet ∷ octets) = refl

printing_reads : (conn : ℕ) (text : List ℕ) → read_in_acts conn (printing text) ≡ []
printing_reads conn [] = refl
printing_reads conn (octet ∷ octets) = refl

printing_closes : (conn : ℕ) (text : List ℕ) → closes_in_acts conn (printing text) ≡ false
printing_closes conn [] = refl
printing_closes conn (octet ∷ octets) = refl

printing_connects : (text : List ℕ) (before : List RelayedConnection) → fold behind_act before (printing text) ≡ before
printing_connects [] before = refl
printing_connects (octet ∷ octets) before = refl

printing_text : (text : List ℕ) → text_in_acts (printing text) ≡ text
printing_text [] = refl
printing_text (octet ∷ octets) = append-nil (octet ∷ octets)

acts_give : (conn : ℕ) (waiting : List ℕ) (deeds : List RelayDeed) → given_in_acts conn (acts_from waiting deeds) ≡ given_in conn deeds
unfolding acts_from
acts_give conn waiting [] = refl
acts_give conn waiting (Puts line ∷ deeds) = acts_give conn (waiting ++ text_of_line line) deeds
acts_give conn waiting (Flushes ∷ deeds) =
    flat_map-append (given_by_act conn) (printing waiting) (acts_from [] deeds) ∙ rw (printing_gives conn waiting) (acts_give conn [] deeds)
acts_give conn waiting (Calls call ∷ deeds) = ap (λ (o : List ℕ). given_by_call conn call ++ o) (acts_give conn waiting deeds)
acts_give conn waiting (Asks moment ∷ deeds) = acts_give conn waiting deeds

acts_read : (conn : ℕ) (waiting : List ℕ) (deeds : List RelayDeed) → read_in_acts conn (acts_from waiting deeds) ≡ octets_read_at conn deeds
unfolding acts_from
acts_read conn waiting [] = refl
acts_read conn waiting (Puts line ∷ deeds) = acts_read conn (waiting ++ text_of_line line) deeds
acts_read conn waiting (Flushes ∷ deeds) =
    flat_map-append (read_by_act conn) (printing waiting) (acts_from [] deeds) ∙ rw (printing_reads conn waiting) (acts_read conn [] deeds)
acts_read conn waiting (Calls call ∷ deeds) = ap (λ (o : List ℕ). read_by_call conn call ++ o) (acts_read conn waiting deeds)
acts_read conn waiting (Asks moment ∷ deeds) = acts_read conn waiting deeds

acts_close : (conn : ℕ) (waiting : List ℕ) (deeds : List RelayDeed) → closes_in_acts conn (acts_from waiting deeds) ≡ closes_in conn deeds
unfolding acts_from
acts_close conn waiting [] = refl
acts_close conn waiting (Puts line ∷ deeds) = acts_close conn (waiting ++ text_of_line line) deeds
acts_close conn waiting (Flushes ∷ deeds) =
    list_any-append (closes_by_act conn) (printing waiting) (acts_from [] deeds) ∙ rw (printing_closes conn waiting) (acts_close conn [] deeds)
acts_close conn waiting (Calls call ∷ deeds) = ap (λ (o : Bool). closes_by_call conn call || o) (acts_close conn waiting deeds)
acts_close conn waiting (Asks moment ∷ deeds) = acts_close conn waiting deeds

acts_connect : (waiting : List ℕ) (deeds : List RelayDeed) (before : List RelayedConnection) → fold behind_act before (acts_from waiting deeds) ≡ fold behind_deed before deeds
unfolding acts_from
acts_connect waiting [] before = refl
acts_connect waiting (Puts line ∷ deeds) before = acts_connect (waiting ++ text_of_line line) deeds before
acts_connect waiting (Flushes ∷ deeds) before =
    fold-append behind_act before (printing waiting) (acts_from [] deeds)
    ∙ ap (λ (c : List RelayedConnection). fold behind_act c (acts_from [] deeds)) (printing_connects waiting before) ∙ acts_connect [] deeds before
acts_connect waiting (Calls call ∷ deeds) before = acts_connect waiting deeds (behind_deed before (Calls call))
acts_connect waiting (Asks moment ∷ deeds) before = acts_connect waiting deeds before

one_more : (lines : List RelayLine) (line : RelayLine) → text_of_lines lines ++ text_of_line line ≡ text_of_lines (lines ++ line ∷ [])
one_more lines line =
    ap (λ (o : List ℕ). text_of_lines lines ++ o) (sym (append-nil (text_of_line line))) ∙ sym (flat_map-append text_of_line lines (line ∷ []))

-- the text that was written is that of the lines that were
acts_text : (lines : List RelayLine) (deeds : List RelayDeed) → text_in_acts (acts_from (text_of_lines lines) deeds) ≡ text_of_lines (written_from lines deeds)
unfolding acts_from written_from
acts_text lines [] = refl
acts_text lines (Puts line ∷ deeds) =
    ap (λ (w : List ℕ). text_in_acts (acts_from w deeds)) (one_more lines line) ∙ acts_text (lines ++ line ∷ []) deeds
acts_text lines (Flushes ∷ deeds) =
    flat_map-append text_by_act (printing (text_of_lines lines)) (acts_from [] deeds) ∙ rw (printing_text (text_of_lines lines), acts_text [] deeds)
    (sym (flat_map-append text_of_line lines (written_from [] deeds)))
acts_text lines (Calls call ∷ deeds) = acts_text lines deeds
acts_text lines (Asks moment ∷ deeds) = acts_text lines deeds

-- each belongs to a connection
own_printing : (dial text : List ℕ) (before : List RelayedConnection) (rest : List Act) → AreOwnActs dial before rest → AreOwnActs dial before (printing text ++ rest)
own_printing dial [] before rest own = own
own_printing dial (octet ∷ octets) before rest own = (tt, own)

acts_own : (dial waiting : List ℕ) (deeds : List RelayDeed) (before : List RelayedConnection) → AreOwnDeeds dial before deeds
    → AreOwnActs dial before (acts_from waiting deeds)
unfolding acts_from
acts_own dial waiting [] before own = tt
acts_own dial waiting (Puts line ∷ deeds) before own = acts_own dial (waiting ++ text_of_line line) deeds before own.1
acts_own dial waiting (Flushes ∷ deeds) before own = own_printing dial waiting before (acts_from [] deeds) (acts_own dial [] deeds before own.1)
acts_own dial waiting (Calls call ∷ deeds) before own = (own.0, acts_own dial waiting deeds (behind_deed before (Calls call)) own.1)
acts_own dial waiting (Asks moment ∷ deeds) before own = (tt, acts_own dial waiting deeds before own.1)

-- ---- one moment

passed_on : (script : Script) (number e r : ℕ) (deeds : List RelayDeed) → opens_in_lines number (lines_written deeds) ≡ true → IsSafe script number e r deeds
    → IsPassedOn script (acts_from [] deeds) (lines_written deeds) number e r
passed_on script number e r deeds opened s = record {
  opened = opened;
  told_to_r = rw (acts_give r [] deeds) s.first_to_r;
  told_to_e = rw (acts_give e [] deeds) s.first_to_e;
  carried_of_e = rw (acts_read e [] deeds) (begins_then _ _ _ (written_told number E deeds) s.carried_of_e);
  carried_of_r = rw (acts_read r [] deeds) (begins_then _ _ _ (written_told number R deeds) s.carried_of_r);
  closed_e = rw (acts_close e [] deeds) s.closed_e;
  closed_r = rw (acts_close r [] deeds) s.closed_r;
}

left_alone : (number e : ℕ) (deeds : List RelayDeed) → IsQuiet number e deeds → IsLeftAlone (acts_from [] deeds) (lines_written deeds) number e
left_alone number e deeds q = record {
  unread = acts_read e [] deeds ∙ q.unread;
  ungiven = acts_give e [] deeds ∙ q.ungiven;
  closed = rw (acts_close e [] deeds) q.closed;
}

one_relayed : (script : Script) (dial : List ℕ) (number e : ℕ) (far : Far) (deeds : List RelayDeed) → IsSafeConnection script dial deeds number e far
    → IsRelayed script dial (acts_from [] deeds) (lines_written deeds) number e far
one_relayed script dial number e Nobody deeds s = left_alone number e deeds s
one_relayed script dial number e (Unreached address) deeds s =
    (s.0, record { alone = left_alone number e deeds s.1.quiet; ended = rw (acts_close e [] deeds) s.1.ended })
one_relayed script dial number e (Reached address r) deeds s = (s.0, passed_on script number e r deeds s.1.0 s.1.1)

all_relayed : (script : Script) (dial : List ℕ) (connections : List RelayedConnection) (deeds : List RelayDeed) → AllSafe script dial deeds connections
    → AreRelayed script dial (acts_from [] deeds) (lines_written deeds) connections
all_relayed script dial [] deeds safe = tt
all_relayed script dial (one ∷ others) deeds safe = (one_relayed script dial one.number one.e one.r deeds safe.0, all_relayed script dial others deeds safe.1)

relays_so_far : (script : Script) (dial : List ℕ) (deeds : List RelayDeed) → AreSafe script dial deeds → RelaysSoFar script dial (acts_from [] deeds)
relays_so_far script dial deeds safe = record {
  lines = lines_written deeds;
  written = acts_text [] deeds;
  relayed = rw (acts_connect [] deeds []) (all_relayed script dial (connections_in deeds) deeds safe.all);
  own = acts_own dial [] deeds [] safe.own;
}

-- ---- each moment

-- this holds behind each of these acts, where those were done before
abbrev Lasts : (List Act → Type 0) → (done acts : List Act) → Type 0
Lasts Holds done [] = Holds done
Lasts Holds done (act ∷ acts) = Holds done × Lasts Holds (done ++ act ∷ []) acts

nil_is_cons : (x : Act) (xs : List Act) → [] ≡ x ∷ xs → ⊥
nil_is_cons x xs e = let q : ⊥ = cc e in q

cons_is : (x y : Act) (xs ys : List Act) → x ∷ xs ≡ y ∷ ys → (x ≡ y) × (xs ≡ ys)
cons_is x y xs ys e = let p : x ≡ y = cc e in let q : xs ≡ ys = cc e in (p, q)

lasts_at : (Holds : List Act → Type 0) (done acts front rest : List Act) → acts ≡ front ++ rest → Lasts Holds done acts → Holds (done ++ front)
lasts_at Holds done [] [] rest is h = subst Holds (sym (append-nil done)) h
lasts_at Holds done [] (a ∷ front) rest is h = absurd (nil_is_cons a (front ++ rest) is)
lasts_at Holds done (act ∷ acts) [] rest is h = subst Holds (sym (append-nil done)) h.0
lasts_at Holds done (act ∷ acts) (a ∷ front) rest is h =
    let same = cons_is act a acts (front ++ rest) is in
    subst Holds (append_assoc done (a ∷ []) front)
    (lasts_at Holds (done ++ a ∷ []) acts front rest same.1 (subst (λ (x : Act). Lasts Holds (done ++ x ∷ []) acts) same.0 h.1))

lasts_then : (Holds : List Act → Type 0) (done xs ys : List Act) → Lasts Holds done xs → Lasts Holds (done ++ xs) ys → Lasts Holds done (xs ++ ys)
lasts_then Holds done [] ys p q = subst (λ (d : List Act). Lasts Holds d ys) (append-nil done) q
lasts_then Holds done (x ∷ xs) ys p q =
    (p.0, lasts_then Holds (done ++ x ∷ []) xs ys p.1 (subst (λ (d : List Act). Lasts Holds d ys) (sym (append_assoc done (x ∷ []) xs)) q))

lasts_printing : (Holds : List Act → Type 0) (done : List Act) (text : List ℕ) (rest : List Act) → Holds done → Lasts Holds (done ++ printing text) rest
    → Lasts Holds done (printing text ++ rest)
lasts_printing Holds done [] rest first last = subst (λ (d : List Act). Lasts Holds d rest) (append-nil done) last
lasts_printing Holds done (octet ∷ octets) rest first last = (first, last)

acts_behind : (done : List RelayDeed) (deed : RelayDeed) → acts_from [] (done ++ deed ∷ []) ≡ acts_from [] done ++ acts_from (text_left [] done) (deed ∷ [])
acts_behind done deed = acts_append [] done (deed ∷ [])

steady_acts : (script : Script) (dial : List ℕ) (done deeds : List RelayDeed) → Steadily (AreSafe script dial) done deeds
    → Lasts (RelaysSoFar script dial) (acts_from [] done) (acts_from (text_left [] done) deeds)
unfolding acts_from text_left
steady_acts script dial done [] safe = relays_so_far script dial done safe
steady_acts script dial done (Puts line ∷ deeds) safe =
    let same : acts_from [] (done ++ Puts line ∷ []) ≡ acts_from [] done = acts_behind done (Puts line) ∙ append-nil (acts_from [] done) in
    let left : text_left [] (done ++ Puts line ∷ []) ≡ text_left [] done ++ text_of_line line = left_append [] done (Puts line ∷ []) in
    subst (λ (a : List Act). Lasts (RelaysSoFar script dial) a (acts_from (text_left [] done ++ text_of_line line) deeds)) same
    (subst (λ (w : List ℕ). Lasts (RelaysSoFar script dial) (acts_from [] (done ++ Puts line ∷ [])) (acts_from w deeds)) left
    (steady_acts script dial (done ++ Puts line ∷ []) deeds safe.1))
steady_acts script dial done (Flushes ∷ deeds) safe =
    let same : acts_from [] (done ++ Flushes ∷ []) ≡ acts_from [] done ++ printing (text_left [] done) =
    acts_behind done Flushes ∙ ap (λ (o : List Act). acts_from [] done ++ o) (append-nil (printing (text_left [] done))) in
    let left : text_left [] (done ++ Flushes ∷ []) ≡ [] = left_append [] done (Flushes ∷ []) in
    lasts_printing (RelaysSoFar script dial) (acts_from [] done) (text_left [] done) (acts_from [] deeds) (relays_so_far script dial done safe.0)
    (subst (λ (a : List Act). Lasts (RelaysSoFar script dial) a (acts_from [] deeds)) same
    (subst (λ (w : List ℕ). Lasts (RelaysSoFar script dial) (acts_from [] (done ++ Flushes ∷ [])) (acts_from w deeds)) left
    (steady_acts script dial (done ++ Flushes ∷ []) deeds safe.1)))
steady_acts script dial done (Calls call ∷ deeds) safe =
    let left : text_left [] (done ++ Calls call ∷ []) ≡ text_left [] done = left_append [] done (Calls call ∷ []) in (
      relays_so_far script dial done safe.0,
      subst (λ (a : List Act). Lasts (RelaysSoFar script dial) a (acts_from (text_left [] done) deeds)) (acts_behind done (Calls call))
          (subst (λ (w : List ℕ). Lasts (RelaysSoFar script dial) (acts_from [] (done ++ Calls call ∷ [])) (acts_from w deeds)) left
          (steady_acts script dial (done ++ Calls call ∷ []) deeds safe.1)),
    )
steady_acts script dial done (Asks moment ∷ deeds) safe =
    let left : text_left [] (done ++ Asks moment ∷ []) ≡ text_left [] done = left_append [] done (Asks moment ∷ []) in (
      relays_so_far script dial done safe.0,
      subst (λ (a : List Act). Lasts (RelaysSoFar script dial) a (acts_from (text_left [] done) deeds)) (acts_behind done (Asks moment))
          (subst (λ (w : List ℕ). Lasts (RelaysSoFar script dial) (acts_from [] (done ++ Asks moment ∷ [])) (acts_from w deeds)) left
          (steady_acts script dial (done ++ Asks moment ∷ []) deeds safe.1)),
    )

-- ---- what is settled at each wait

printing_tells : (conn : ℕ) (text : List ℕ) (t : SocketTold) → fold (told_by_act conn) t (printing text) ≡ t
printing_tells conn [] t = refl
printing_tells conn (octet ∷ octets) t = refl

acts_told : (conn : ℕ) (waiting : List ℕ) (deeds : List RelayDeed) (t : SocketTold) → fold (told_by_act conn) t (acts_from waiting deeds) ≡ socket_behind conn t deeds
unfolding acts_from
acts_told conn waiting [] t = refl
acts_told conn waiting (Puts line ∷ deeds) t = acts_told conn (waiting ++ text_of_line line) deeds t
acts_told conn waiting (Flushes ∷ deeds) t =
    fold-append (told_by_act conn) t (printing waiting) (acts_from [] deeds)
    ∙ (ap (λ (s : SocketTold). fold (told_by_act conn) s (acts_from [] deeds)) (printing_tells conn waiting t) ∙ acts_told conn [] deeds t)
acts_told conn waiting (Calls call ∷ deeds) t = acts_told conn waiting deeds (told_by_act conn t (Called call))
acts_told conn waiting (Asks moment ∷ deeds) t = acts_told conn waiting deeds t

one_settled : (script : Script) (until : Option ℕ) (deeds : List RelayDeed) (e : ℕ) (far : Far) → IsSettledAt script until deeds e far
    → IsSettled script until (acts_from [] deeds) e far
one_settled script until deeds e Nobody h = acts_close e [] deeds ∙ h
one_settled script until deeds e (Unreached address) h = acts_close e [] deeds ∙ h
one_settled script until deeds e (Reached address r) h =
    rw (acts_told e [] deeds told_nothing, acts_told r [] deeds told_nothing, acts_read e [] deeds, acts_read r [] deeds, acts_give e [] deeds, acts_give r [] deeds) h

all_settled : (script : Script) (until : Option ℕ) (deeds : List RelayDeed) (connections : List RelayedConnection) → AllSettledAt script until deeds connections
    → AllSettled script until (acts_from [] deeds) connections
all_settled script until deeds [] h = tt
all_settled script until deeds (one ∷ others) h = (one_settled script until deeds one.e one.r h.0, all_settled script until deeds others h.1)

settles_by : (script : Script) (until : Option ℕ) (deeds : List RelayDeed) → AllSettledAt script until deeds (connections_in deeds)
    → AreDialledFor (connections_in deeds) → SettlesBy script until (acts_from [] deeds)
settles_by script until deeds h dialled = record {
  settled = rw (acts_connect [] deeds []) (all_settled script until deeds (connections_in deeds) h);
  dialled = rw (acts_connect [] deeds []) dialled;
}

abbrev CallSettles : Script → (before : List Act) → SeenCall → Type 0
CallSettles script before (Listened address listens) = Unit {0}
CallSettles script before (Dialled address to) = Unit {0}
CallSettles script before (Turned until what) = SettlesBy script until before
CallSettles script before (Read conn size reading) = Unit {0}
CallSettles script before (Sent conn piece answer) = Unit {0}
CallSettles script before (Closed conn) = Unit {0}

abbrev ActSettles : Script → (before : List Act) → Act → Type 0
ActSettles script before (Fetched name answer) = Unit {0}
ActSettles script before (Wrote piece done) = Unit {0}
ActSettles script before (Called call) = CallSettles script before call
ActSettles script before (Asked moment) = Unit {0}
ActSettles script before (Drew word) = Unit {0}

abbrev ActsSettle : Script → (before acts : List Act) → Type 0
ActsSettle script before [] = Unit {0}
ActsSettle script before (act ∷ acts) = ActSettles script before act × ActsSettle script (before ++ act ∷ []) acts

settles_then : (script : Script) (before xs ys : List Act) → ActsSettle script before xs → ActsSettle script (before ++ xs) ys → ActsSettle script before (xs ++ ys)
settles_then script before [] ys p q = subst (λ (d : List Act). ActsSettle script d ys) (append-nil before) q
settles_then script before (x ∷ xs) ys p q =
    (p.0, settles_then script (before ++ x ∷ []) xs ys p.1 (subst (λ (d : List Act). ActsSettle script d ys) (sym (append_assoc before (x ∷ []) xs)) q))

printing_settles : (script : Script) (before : List Act) (text : List ℕ) → ActsSettle script before (printing text)
printing_settles script before [] = tt
printing_settles script before (octet ∷ octets) = (tt, tt)

call_settles : (script : Script) (done : List RelayDeed) (call : SeenCall) → SettlesAt script done call → CallSettles script (acts_from [] done) call
call_settles script done (Listened address listens) h = tt
call_settles script done (Dialled address to) h = tt
call_settles script done (Turned until what) h = settles_by script until done h.0 h.1
call_settles script done (Read conn size reading) h = tt
call_settles script done (Sent conn piece answer) h = tt
call_settles script done (Closed conn) h = tt

acts_settle : (script : Script) (done deeds : List RelayDeed) → SettleAll script done deeds
    → ActsSettle script (acts_from [] done) (acts_from (text_left [] done) deeds)
unfolding acts_from text_left
acts_settle script done [] h = tt
acts_settle script done (Puts line ∷ deeds) h =
    let same : acts_from [] (done ++ Puts line ∷ []) ≡ acts_from [] done = acts_behind done (Puts line) ∙ append-nil (acts_from [] done) in
    let left : text_left [] (done ++ Puts line ∷ []) ≡ text_left [] done ++ text_of_line line = left_append [] done (Puts line ∷ []) in
    subst (λ (a : List Act). ActsSettle script a (acts_from (text_left [] done ++ text_of_line line) deeds)) same
    (subst (λ (w : List ℕ). ActsSettle script (acts_from [] (done ++ Puts line ∷ [])) (acts_from w deeds)) left
    (acts_settle script (done ++ Puts line ∷ []) deeds h.1))
acts_settle script done (Flushes ∷ deeds) h =
    let same : acts_from [] (done ++ Flushes ∷ []) ≡ acts_from [] done ++ printing (text_left [] done) =
    acts_behind done Flushes ∙ ap (λ (o : List Act). acts_from [] done ++ o) (append-nil (printing (text_left [] done))) in
    let left : text_left [] (done ++ Flushes ∷ []) ≡ [] = left_append [] done (Flushes ∷ []) in
    settles_then script (acts_from [] done) (printing (text_left [] done)) (acts_from [] deeds) (printing_settles script (acts_from [] done) (text_left [] done))
    (subst (λ (a : List Act). ActsSettle script a (acts_from [] deeds)) same
    (subst (λ (w : List ℕ). ActsSettle script (acts_from [] (done ++ Flushes ∷ [])) (acts_from w deeds)) left
    (acts_settle script (done ++ Flushes ∷ []) deeds h.1)))
acts_settle script done (Calls call ∷ deeds) h =
    let left : text_left [] (done ++ Calls call ∷ []) ≡ text_left [] done = left_append [] done (Calls call ∷ []) in (
      call_settles script done call h.0,
      subst (λ (a : List Act). ActsSettle script a (acts_from (text_left [] done) deeds)) (acts_behind done (Calls call))
          (subst (λ (w : List ℕ). ActsSettle script (acts_from [] (done ++ Calls call ∷ [])) (acts_from w deeds)) left
          (acts_settle script (done ++ Calls call ∷ []) deeds h.1)),
    )
acts_settle script done (Asks moment ∷ deeds) h =
    let left : text_left [] (done ++ Asks moment ∷ []) ≡ text_left [] done = left_append [] done (Asks moment ∷ []) in (
      tt,
      subst (λ (a : List Act). ActsSettle script a (acts_from (text_left [] done) deeds)) (acts_behind done (Asks moment))
          (subst (λ (w : List ℕ). ActsSettle script (acts_from [] (done ++ Asks moment ∷ [])) (acts_from w deeds)) left
          (acts_settle script (done ++ Asks moment ∷ []) deeds h.1)),
    )

none_is_some : (xs ys : List Act) (y : Act) → [] ≡ xs ++ y ∷ ys → ⊥
none_is_some [] ys y is = nil_is_cons y ys is
none_is_some (x ∷ xs) ys y is = nil_is_cons x (xs ++ y ∷ ys) is

settled_at : (script : Script) (done acts front rest : List Act) (until : Option ℕ) (what : Happening) → acts ≡ front ++ Called (Turned until what) ∷ rest
    → ActsSettle script done acts → SettlesBy script until (done ++ front)
settled_at script done [] front rest until what is h = absurd (none_is_some front rest (Called (Turned until what)) is)
settled_at script done (act ∷ acts) [] rest until what is h =
    subst (λ (d : List Act). SettlesBy script until d) (sym (append-nil done))
    (subst (λ (a : Act). ActSettles script done a) (cons_is act (Called (Turned until what)) acts rest is).0 h.0)
settled_at script done (act ∷ acts) (x ∷ front) rest until what is h =
    let same = cons_is act x acts (front ++ Called (Turned until what) ∷ rest) is in
    subst (λ (d : List Act). SettlesBy script until d) (append_assoc done (x ∷ []) front)
    (settled_at script (done ++ x ∷ []) acts front rest until what same.1 (subst (λ (a : Act). ActsSettle script (done ++ a ∷ []) acts) same.0 h.1))

-- ---- behind a write that failed

sunk_append : (acts : List Act) (text : List ℕ) → text_in_acts (acts ++ Wrote text false ∷ []) ≡ text_in_acts acts
sunk_append acts text = flat_map-append text_by_act acts (Wrote text false ∷ []) ∙ append-nil (text_in_acts acts)

sunk_gives : (conn : ℕ) (acts : List Act) (text : List ℕ) → given_in_acts conn (acts ++ Wrote text false ∷ []) ≡ given_in_acts conn acts
sunk_gives conn acts text = flat_map-append (given_by_act conn) acts (Wrote text false ∷ []) ∙ append-nil (given_in_acts conn acts)

sunk_reads : (conn : ℕ) (acts : List Act) (text : List ℕ) → read_in_acts conn (acts ++ Wrote text false ∷ []) ≡ read_in_acts conn acts
sunk_reads conn acts text = flat_map-append (read_by_act conn) acts (Wrote text false ∷ []) ∙ append-nil (read_in_acts conn acts)

or_none : (a : Bool) → (a || false) ≡ a
or_none true = refl
or_none false = refl

sunk_closes : (conn : ℕ) (acts : List Act) (text : List ℕ) → closes_in_acts conn (acts ++ Wrote text false ∷ []) ≡ closes_in_acts conn acts
sunk_closes conn acts text = list_any-append (closes_by_act conn) acts (Wrote text false ∷ []) ∙ or_none (closes_in_acts conn acts)

sunk_alone : (acts : List Act) (text : List ℕ) (lines : List RelayLine) (number e : ℕ) → IsLeftAlone acts lines number e
    → IsLeftAlone (acts ++ Wrote text false ∷ []) lines number e
sunk_alone acts text lines number e h = record {
  unread = sunk_reads e acts text ∙ h.unread;
  ungiven = sunk_gives e acts text ∙ h.ungiven;
  closed = rw (sunk_closes e acts text) h.closed;
}

sunk_relayed : (script : Script) (dial : List ℕ) (acts : List Act) (text : List ℕ) (lines : List RelayLine) (number e : ℕ) (far : Far)
    → IsRelayed script dial acts lines number e far → IsRelayed script dial (acts ++ Wrote text false ∷ []) lines number e far
sunk_relayed script dial acts text lines number e Nobody h = sunk_alone acts text lines number e h
sunk_relayed script dial acts text lines number e (Unreached address) h =
    (h.0, record { alone = sunk_alone acts text lines number e h.1.alone; ended = rw (sunk_closes e acts text) h.1.ended })
sunk_relayed script dial acts text lines number e (Reached address r) h = (
  h.0,
  record {
    opened = h.1.opened;
    told_to_r = rw (sunk_gives r acts text) h.1.told_to_r;
    told_to_e = rw (sunk_gives e acts text) h.1.told_to_e;
    carried_of_e = rw (sunk_reads e acts text) h.1.carried_of_e;
    carried_of_r = rw (sunk_reads r acts text) h.1.carried_of_r;
    closed_e = rw (sunk_closes e acts text) h.1.closed_e;
    closed_r = rw (sunk_closes r acts text) h.1.closed_r;
  },
)

sunk_all : (script : Script) (dial : List ℕ) (acts : List Act) (text : List ℕ) (lines : List RelayLine) (connections : List RelayedConnection)
    → AreRelayed script dial acts lines connections → AreRelayed script dial (acts ++ Wrote text false ∷ []) lines connections
sunk_all script dial acts text lines [] h = tt
sunk_all script dial acts text lines (one ∷ others) h =
    (sunk_relayed script dial acts text lines one.number one.e one.r h.0, sunk_all script dial acts text lines others h.1)

sunk_own : (dial text : List ℕ) (acts : List Act) (before : List RelayedConnection) → AreOwnActs dial before acts
    → AreOwnActs dial before (acts ++ Wrote text false ∷ [])
sunk_own dial text [] before own = (tt, tt)
sunk_own dial text (act ∷ acts) before own = (own.0, sunk_own dial text acts (behind_act before act) own.1)

sunk_so_far : (script : Script) (dial : List ℕ) (acts : List Act) (text : List ℕ) → RelaysSoFar script dial acts → RelaysSoFar script dial (acts ++ Wrote text false ∷ [])
sunk_so_far script dial acts text h = record {
  lines = h.lines;
  written = sunk_append acts text ∙ h.written;
  relayed = rw (fold-append behind_act [] acts (Wrote text false ∷ [])) (sunk_all script dial acts text h.lines (connections_in_acts acts) h.relayed);
  own = sunk_own dial text acts [] h.own;
}

-- whatever was done last
sunk_lasts : (script : Script) (dial : List ℕ) (acts last : List Act) → IsLastDone fault.Sink last → Lasts (RelaysSoFar script dial) [] acts
    → Lasts (RelaysSoFar script dial) [] (acts ++ last)
sunk_lasts script dial acts last is h =
    let end : RelaysSoFar script dial acts = lasts_at (RelaysSoFar script dial) [] acts acts [] (sym (append-nil acts)) h in
    rw is.1 (lasts_then (RelaysSoFar script dial) [] acts (Wrote is.0 false ∷ []) h (end, sunk_so_far script dial acts is.0 end))

last_lasts : {T : Type 0} (result : Result T RelayFault) (script : Script) (dial : List ℕ) (acts last : List Act) → IsLastOf result last
    → Lasts (RelaysSoFar script dial) [] acts → Lasts (RelaysSoFar script dial) [] (acts ++ last)
last_lasts (Ok value) script dial acts last is h = rw (is, append-nil acts) h
last_lasts (Err fault.Wires) script dial acts last is h = rw (is, append-nil acts) h
last_lasts (Err fault.Sink) script dial acts last is h = sunk_lasts script dial acts last is h
last_lasts (Err (fault.NoMemory want)) script dial acts last is h = rw (is, append-nil acts) h

nothing_left : acts_from [] [] ≡ []
unfolding acts_from
nothing_left = refl

none_left : text_left [] [] ≡ []
unfolding text_left
none_left = refl

from_begin : (script : Script) (dial : List ℕ) (deeds : List RelayDeed) → Steadily (AreSafe script dial) [] deeds → Lasts (RelaysSoFar script dial) [] (acts_from [] deeds)
from_begin script dial deeds steady =
    subst (λ (w : List ℕ). Lasts (RelaysSoFar script dial) [] (acts_from w deeds)) none_left
    (subst (λ (a : List Act). Lasts (RelaysSoFar script dial) a (acts_from (text_left [] []) deeds)) nothing_left (steady_acts script dial [] deeds steady))

-- nothing that is done last is a wait
last_settles : {T : Type 0} (result : Result T RelayFault) (script : Script) (acts last : List Act) → IsLastOf result last → ActsSettle script [] acts
    → ActsSettle script [] (acts ++ last)
last_settles (Ok value) script acts last is h = rw (is, append-nil acts) h
last_settles (Err fault.Wires) script acts last is h = rw (is, append-nil acts) h
last_settles (Err fault.Sink) script acts last is h = rw is.1 (settles_then script [] acts (Wrote is.0 false ∷ []) h (tt, tt))
last_settles (Err (fault.NoMemory want)) script acts last is h = rw (is, append-nil acts) h

all_waits : (script : Script) (dial : List ℕ) (deeds : List RelayDeed) → Steadily (AreSafe script dial) [] deeds → ActsSettle script [] (acts_from [] deeds)
all_waits script dial deeds steady =
    subst (λ (w : List ℕ). ActsSettle script [] (acts_from w deeds)) none_left
    (subst (λ (a : List Act). ActsSettle script a (acts_from (text_left [] []) deeds)) nothing_left
    (acts_settle script [] deeds (steadily_last (AreSafe script dial) [] deeds steady).waits))

pub relays_end : {T : Type 0} (result : Result T RelayFault) (listen : List ℕ) (turns : ℕ) (script : Script) (dial : List ℕ) (first now : Told)
    → EndsRun result listen turns script dial first now → Relays script dial first now
relays_end result listen turns script dial first now r = record {
  acts = acts_from [] r.deeds ++ r.last;
  did = r.did;
  always = λ front rest is.
      lasts_at (RelaysSoFar script dial) [] (acts_from [] r.deeds ++ r.last) front rest is
      (last_lasts result script dial (acts_from [] r.deeds) r.last r.is_last (from_begin script dial r.deeds r.steady));
  settles = λ front rest until what is.
      settled_at script [] (acts_from [] r.deeds ++ r.last) front rest until what is
      (last_settles result script (acts_from [] r.deeds) r.last r.is_last (all_waits script dial r.deeds r.steady));
}
