-- One way of a connection, as deeds go on.
use Rattle.std.proofs.Common.{◌≡◌, ◌≢◌, ◌⊎◌, ℕ, ◌==◌, if◌then◌else◌, false, List, [], ◌∷◌, ◌++◌, refl, sym, ap, ◌∙◌, subst, append-nil, inl, inr}
use Rattle.std.proofs.lemmas.Bool.{ne_eqb}
use Rattle.er_base.specs.declared.side.Side.{Side}
use Rattle.outside.specs.Acts.{Listened, Dialled, Turned, Read, Sent, Closed, Act, Fetched, Wrote, Called, Asked, Drew}
use Rattle.outside.specs.Doings.{Told, Did}
use Rattle.relay_script.specs.declared.script.Script.{Script}
use Rattle.relay_loop.specs.declared.stamp.Stamp.{Stamp}
use Rattle.relay_loop.specs.declared.way.Way.{Way}
use Rattle.relay_loop.specs.Octets.{given_by_act, given_in_acts, read_in_acts}
use Rattle.relay_loop.specs.Ways.{HoldsWay}
use Rattle.relay_loop.specs.WaySteps.{WayMoves, PrintsGiven, joined}
use Rattle.relay_loop.specs.Sending.{IsSendTo, AreSendsTo}
use Rattle.relay_loop.specs.Reading.{AreReadsOf}
use Rattle.relay_loop.specs.RelayDeeds.{RelayDeed, acts_from, text_left, Performs, deeds_of_acts, given_in, octets_read_at, closes_in, octets_told_of, AreOfVisit, Steadily}
use Rattle.relay_loop.proofs.WayCalls.{moves_none}
use Rattle.relay_loop.proofs.Deeds.{told_append, given_append, read_append}
use Rattle.relay_loop.proofs.LinkSafety.{NoReads}

-- these octets were read of the side, these told as given, and these written to the other
abbrev pub WayGoes : Script → (octets news written : List ℕ) → (old new : Way) → Type 0
WayGoes script octets news written old new =
    (side : Side) (read told gave : List ℕ) → HoldsWay script side read told gave old → HoldsWay script side (read ++ octets) (told ++ news) (gave ++ written) new

pub moves_go : (script : Script) (octets written : List ℕ) (old new : Way) → WayMoves script octets written old new → WayGoes script octets [] written old new
moves_go script octets written old new moves side read told gave h =
    subst (λ (t : List ℕ). HoldsWay script side (read ++ octets) t (gave ++ written) new) (sym (append-nil told)) (moves side read told gave h)

pub prints_go : (script : Script) (at : Stamp) (old new : Way) (x y : List ℕ) (p : PrintsGiven at old new x y) → WayGoes script [] (joined p.parts) [] old new
prints_go script at old new x y p side read told gave h =
    subst (λ (r : List ℕ). HoldsWay script side r (told ++ joined p.parts) (gave ++ []) new) (sym (append-nil read))
    (subst (λ (g : List ℕ). HoldsWay script side read (told ++ joined p.parts) g new) (sym (append-nil gave)) (p.holds script side read told gave h))

pub rests_go : (script : Script) (way : Way) → WayGoes script [] [] [] way way
rests_go script way = moves_go script [] [] way way (moves_none script way)

pub way_goes : (script : Script) (side : Side) (from to number : ℕ) (done xs : List RelayDeed) (octets news written : List ℕ) (old new : Way)
    → octets_read_at from xs ≡ octets → octets_told_of number side xs ≡ news → given_in to xs ≡ written → WayGoes script octets news written old new
    → HoldsWay script side (octets_read_at from done) (octets_told_of number side done) (given_in to done) old
    → HoldsWay script side (octets_read_at from (done ++ xs)) (octets_told_of number side (done ++ xs)) (given_in to (done ++ xs)) new
way_goes script side from to number done xs octets news written old new read told gave goes h =
    let reads : octets_read_at from (done ++ xs) ≡ octets_read_at from done ++ octets = read_append from done xs ∙ ap (λ (o : List ℕ). octets_read_at from done ++ o) read in
    let tells : octets_told_of number side (done ++ xs) ≡ octets_told_of number side done ++ news =
    told_append number side done xs ∙ ap (λ (o : List ℕ). octets_told_of number side done ++ o) told in
    let gives : given_in to (done ++ xs) ≡ given_in to done ++ written = given_append to done xs ∙ ap (λ (o : List ℕ). given_in to done ++ o) gave in
    subst (λ (r : List ℕ). HoldsWay script side r (octets_told_of number side (done ++ xs)) (given_in to (done ++ xs)) new) (sym reads)
    (subst (λ (t : List ℕ). HoldsWay script side (octets_read_at from done ++ octets) t (given_in to (done ++ xs)) new) (sym tells)
    (subst (λ (g : List ℕ). HoldsWay script side (octets_read_at from done ++ octets) (octets_told_of number side done ++ news) g new) (sym gives)
    (goes side (octets_read_at from done) (octets_told_of number side done) (given_in to done) h)))

-- ---- acts of one kind

pub other_conn : (a b : ℕ) (xs : List ℕ) → a ≢ b → (if a == b then xs else []) ≡ []
other_conn a b xs differ = let other : (a == b) ≡ false = ne_eqb a b differ in rw other refl

along_conn : (a b e r : ℕ) → a ≡ b → (b ≡ e) ⊎ (b ≡ r) → (a ≡ e) ⊎ (a ≡ r)
along_conn a b e r same (inl h) = inl (same ∙ h)
along_conn a b e r same (inr h) = inr (same ∙ h)

pub text_stays : (waiting : List ℕ) (acts : List Act) → text_left waiting (deeds_of_acts acts) ≡ waiting
unfolding text_left
text_stays waiting [] = refl
text_stays waiting (Fetched name answer ∷ acts) = text_stays waiting acts
text_stays waiting (Wrote piece done ∷ acts) = text_stays waiting acts
text_stays waiting (Called call ∷ acts) = text_stays waiting acts
text_stays waiting (Asked moment ∷ acts) = text_stays waiting acts
text_stays waiting (Drew word ∷ acts) = text_stays waiting acts

pub performs_acts : (waiting : List ℕ) (before now : Told) (acts : List Act) → acts_from waiting (deeds_of_acts acts) ≡ acts → Did before now acts
    → Performs waiting waiting before now (deeds_of_acts acts)
performs_acts waiting before now acts same did = record {
  did = subst (λ (o : List Act). Did before now o) (sym same) did;
  left_is = sym (text_stays waiting acts);
}

-- ---- a read

pub reads_are : (waiting : List ℕ) (conn : ℕ) (acts : List Act) → AreReadsOf conn acts → acts_from waiting (deeds_of_acts acts) ≡ acts
unfolding acts_from
reads_are waiting conn [] h = refl
reads_are waiting conn (Fetched name answer ∷ []) h = absurd h
reads_are waiting conn (Wrote piece done ∷ []) h = absurd h
reads_are waiting conn (Called call ∷ []) h = refl
reads_are waiting conn (Asked moment ∷ []) h = absurd h
reads_are waiting conn (Drew word ∷ []) h = absurd h
reads_are waiting conn (first ∷ second ∷ acts) h = absurd h

pub reads_give_nothing : (conn at : ℕ) (acts : List Act) → AreReadsOf conn acts → given_in_acts at acts ≡ []
reads_give_nothing conn at [] h = refl
reads_give_nothing conn at (Fetched name answer ∷ []) h = refl
reads_give_nothing conn at (Wrote piece done ∷ []) h = refl
reads_give_nothing conn at (Called (Listened address listens) ∷ []) h = refl
reads_give_nothing conn at (Called (Dialled address to) ∷ []) h = refl
reads_give_nothing conn at (Called (Turned until what) ∷ []) h = refl
reads_give_nothing conn at (Called (Read from size reading) ∷ []) h = refl
reads_give_nothing conn at (Called (Sent to piece answer) ∷ []) h = absurd h
reads_give_nothing conn at (Called (Closed c) ∷ []) h = refl
reads_give_nothing conn at (Asked moment ∷ []) h = refl
reads_give_nothing conn at (Drew word ∷ []) h = refl
reads_give_nothing conn at (first ∷ second ∷ acts) h = absurd h

pub reads_elsewhere : (conn at : ℕ) (acts : List Act) → conn ≢ at → AreReadsOf conn acts → read_in_acts at acts ≡ []
reads_elsewhere conn at [] differ h = refl
reads_elsewhere conn at (Fetched name answer ∷ []) differ h = refl
reads_elsewhere conn at (Wrote piece done ∷ []) differ h = refl
reads_elsewhere conn at (Called (Listened address listens) ∷ []) differ h = refl
reads_elsewhere conn at (Called (Dialled address to) ∷ []) differ h = refl
reads_elsewhere conn at (Called (Turned until what) ∷ []) differ h = refl
reads_elsewhere conn at (Called (Read from size reading) ∷ []) differ h = rw (other_conn from at _ (λ same. differ (sym h ∙ same))) refl
reads_elsewhere conn at (Called (Sent to piece answer) ∷ []) differ h = refl
reads_elsewhere conn at (Called (Closed c) ∷ []) differ h = refl
reads_elsewhere conn at (Asked moment ∷ []) differ h = refl
reads_elsewhere conn at (Drew word ∷ []) differ h = refl
reads_elsewhere conn at (first ∷ second ∷ acts) differ h = absurd h

pub reads_close_nothing : (conn at : ℕ) (acts : List Act) → AreReadsOf conn acts → closes_in at (deeds_of_acts acts) ≡ false
reads_close_nothing conn at [] h = refl
reads_close_nothing conn at (Fetched name answer ∷ []) h = refl
reads_close_nothing conn at (Wrote piece done ∷ []) h = refl
reads_close_nothing conn at (Called (Listened address listens) ∷ []) h = refl
reads_close_nothing conn at (Called (Dialled address to) ∷ []) h = refl
reads_close_nothing conn at (Called (Turned until what) ∷ []) h = refl
reads_close_nothing conn at (Called (Read from size reading) ∷ []) h = refl
reads_close_nothing conn at (Called (Sent to piece answer) ∷ []) h = refl
reads_close_nothing conn at (Called (Closed c) ∷ []) h = absurd h
reads_close_nothing conn at (Asked moment ∷ []) h = refl
reads_close_nothing conn at (Drew word ∷ []) h = refl
reads_close_nothing conn at (first ∷ second ∷ acts) h = absurd h

pub reads_of_visit : (number e r conn : ℕ) (acts : List Act) → (conn ≡ e) ⊎ (conn ≡ r) → AreReadsOf conn acts → AreOfVisit number e r (deeds_of_acts acts)
reads_of_visit number e r conn [] is h = tt
reads_of_visit number e r conn (Fetched name answer ∷ []) is h = absurd h
reads_of_visit number e r conn (Wrote piece done ∷ []) is h = absurd h
reads_of_visit number e r conn (Called (Listened address listens) ∷ []) is h = absurd h
reads_of_visit number e r conn (Called (Dialled address to) ∷ []) is h = absurd h
reads_of_visit number e r conn (Called (Turned until what) ∷ []) is h = absurd h
reads_of_visit number e r conn (Called (Read from size reading) ∷ []) is h = (along_conn from conn e r h is, tt)
reads_of_visit number e r conn (Called (Sent to piece answer) ∷ []) is h = absurd h
reads_of_visit number e r conn (Called (Closed c) ∷ []) is h = absurd h
reads_of_visit number e r conn (Asked moment ∷ []) is h = absurd h
reads_of_visit number e r conn (Drew word ∷ []) is h = absurd h
reads_of_visit number e r conn (first ∷ second ∷ acts) is h = absurd h

-- it is one, or none
pub reads_steady : (Holds : List RelayDeed → Type 0) (conn : ℕ) (done : List RelayDeed) (acts : List Act) → AreReadsOf conn acts → Holds done
    → Holds (done ++ deeds_of_acts acts) → Steadily Holds done (deeds_of_acts acts)
reads_steady Holds conn done [] h first last = first
reads_steady Holds conn done (Fetched name answer ∷ []) h first last = absurd h
reads_steady Holds conn done (Wrote piece wrote ∷ []) h first last = absurd h
reads_steady Holds conn done (Called call ∷ []) h first last = (first, last)
reads_steady Holds conn done (Asked moment ∷ []) h first last = absurd h
reads_steady Holds conn done (Drew word ∷ []) h first last = absurd h
reads_steady Holds conn done (a ∷ b ∷ acts) h first last = absurd h

-- ---- writes

pub sends_are : (waiting : List ℕ) (conn : ℕ) (acts : List Act) → AreSendsTo conn acts → acts_from waiting (deeds_of_acts acts) ≡ acts
unfolding acts_from
sends_are waiting conn [] h = refl
sends_are waiting conn (Fetched name answer ∷ acts) h = absurd h.0
sends_are waiting conn (Wrote piece done ∷ acts) h = absurd h.0
sends_are waiting conn (Called call ∷ acts) h = ap (λ (o : List Act). Called call ∷ o) (sends_are waiting conn acts h.1)
sends_are waiting conn (Asked moment ∷ acts) h = absurd h.0
sends_are waiting conn (Drew word ∷ acts) h = absurd h.0

pub sends_read_nothing : (conn e r : ℕ) (acts : List Act) → AreSendsTo conn acts → NoReads e r (deeds_of_acts acts)
sends_read_nothing conn e r [] h = tt
sends_read_nothing conn e r (Fetched name answer ∷ acts) h = absurd h.0
sends_read_nothing conn e r (Wrote piece done ∷ acts) h = absurd h.0
sends_read_nothing conn e r (Called (Listened address listens) ∷ acts) h = absurd h.0
sends_read_nothing conn e r (Called (Dialled address to) ∷ acts) h = absurd h.0
sends_read_nothing conn e r (Called (Turned until what) ∷ acts) h = absurd h.0
sends_read_nothing conn e r (Called (Read from size reading) ∷ acts) h = absurd h.0
sends_read_nothing conn e r (Called (Sent to piece answer) ∷ acts) h = ((refl, refl), sends_read_nothing conn e r acts h.1)
sends_read_nothing conn e r (Called (Closed c) ∷ acts) h = absurd h.0
sends_read_nothing conn e r (Asked moment ∷ acts) h = absurd h.0
sends_read_nothing conn e r (Drew word ∷ acts) h = absurd h.0

send_elsewhere : (conn at : ℕ) (act : Act) → conn ≢ at → IsSendTo conn act → given_by_act at act ≡ []
send_elsewhere conn at (Fetched name answer) differ h = refl
send_elsewhere conn at (Wrote piece done) differ h = refl
send_elsewhere conn at (Called (Listened address listens)) differ h = refl
send_elsewhere conn at (Called (Dialled address to)) differ h = refl
send_elsewhere conn at (Called (Turned until what)) differ h = refl
send_elsewhere conn at (Called (Read from size reading)) differ h = refl
send_elsewhere conn at (Called (Sent to piece answer)) differ h = other_conn to at _ (λ same. differ (sym h ∙ same))
send_elsewhere conn at (Called (Closed c)) differ h = refl
send_elsewhere conn at (Asked moment) differ h = refl
send_elsewhere conn at (Drew word) differ h = refl

pub sends_elsewhere : (conn at : ℕ) (acts : List Act) → conn ≢ at → AreSendsTo conn acts → given_in_acts at acts ≡ []
sends_elsewhere conn at [] differ h = refl
sends_elsewhere conn at (act ∷ acts) differ h = rw (send_elsewhere conn at act differ h.0) (sends_elsewhere conn at acts differ h.1)

pub sends_close_nothing : (conn at : ℕ) (acts : List Act) → AreSendsTo conn acts → closes_in at (deeds_of_acts acts) ≡ false
sends_close_nothing conn at [] h = refl
sends_close_nothing conn at (Fetched name answer ∷ acts) h = absurd h.0
sends_close_nothing conn at (Wrote piece done ∷ acts) h = absurd h.0
sends_close_nothing conn at (Called (Listened address listens) ∷ acts) h = absurd h.0
sends_close_nothing conn at (Called (Dialled address to) ∷ acts) h = absurd h.0
sends_close_nothing conn at (Called (Turned until what) ∷ acts) h = absurd h.0
sends_close_nothing conn at (Called (Read from size reading) ∷ acts) h = absurd h.0
sends_close_nothing conn at (Called (Sent to piece answer) ∷ acts) h = sends_close_nothing conn at acts h.1
sends_close_nothing conn at (Called (Closed c) ∷ acts) h = absurd h.0
sends_close_nothing conn at (Asked moment ∷ acts) h = absurd h.0
sends_close_nothing conn at (Drew word ∷ acts) h = absurd h.0

pub sends_of_visit : (number e r conn : ℕ) (acts : List Act) → (conn ≡ e) ⊎ (conn ≡ r) → AreSendsTo conn acts → AreOfVisit number e r (deeds_of_acts acts)
sends_of_visit number e r conn [] is h = tt
sends_of_visit number e r conn (Fetched name answer ∷ acts) is h = absurd h.0
sends_of_visit number e r conn (Wrote piece done ∷ acts) is h = absurd h.0
sends_of_visit number e r conn (Called (Listened address listens) ∷ acts) is h = absurd h.0
sends_of_visit number e r conn (Called (Dialled address to) ∷ acts) is h = absurd h.0
sends_of_visit number e r conn (Called (Turned until what) ∷ acts) is h = absurd h.0
sends_of_visit number e r conn (Called (Read from size reading) ∷ acts) is h = absurd h.0
sends_of_visit number e r conn (Called (Sent to piece answer) ∷ acts) is h = (along_conn to conn e r h.0 is, sends_of_visit number e r conn acts is h.1)
sends_of_visit number e r conn (Called (Closed c) ∷ acts) is h = absurd h.0
sends_of_visit number e r conn (Asked moment ∷ acts) is h = absurd h.0
sends_of_visit number e r conn (Drew word ∷ acts) is h = absurd h.0
