-- What sockets told of their ends, of writes that failed and of room.
use Rattle.std.proofs.Common.{◌≡◌, ◌≢◌, ℕ, ◌==◌, if◌then◌else◌, Bool, true, false, List, [], ◌∷◌, ◌++◌, refl, sym, ap, ◌∙◌, fold, inl, inr}
use Rattle.std.proofs.lemmas.Bool.{ne_eqb}
use Rattle.std.proofs.lemmas.List.Sums.{fold-append}
use Rattle.link_trait.specs.Wires.{Reading}
use Rattle.link_trait.specs.Wires as wires
use Rattle.link_trait.specs.declared.wires.WriteAnswer.{WriteAnswer}
use Rattle.link_trait.specs.declared.wires.WriteAnswer.TheVariants as write_answer
use Rattle.outside.specs.Acts.{Listened, Dialled, Turned, Read, Sent, Closed, Act, Fetched, Wrote, Called, Asked, Drew}
use Rattle.relay_loop.specs.declared.link.Link.{Link}
use Rattle.relay_loop.specs.declared.way.Way.{Way}
use Rattle.relay_loop.specs.RelayLines.{RelayLine}
use Rattle.relay_loop.specs.Settled.{SocketTold, told_nothing, told_by_read, told_by_write, told_by_act}
use Rattle.relay_loop.specs.WaySteps.{StaysOpen}
use Rattle.relay_loop.specs.Reading.{AreReadsOf, EndsAsTold}
use Rattle.relay_loop.specs.Sending.{IsSendTo, AreSendsTo}
use Rattle.relay_loop.specs.RelayDeeds.{RelayDeed, Puts, Flushes, Calls, Asks, deeds_of_acts, deeds_of_lines, told_by_deed, socket_behind, socket_in}
use Rattle.relay_loop.specs.Links.{AreTold, IsOut, KnowsEnds}

-- ---- what was told stays told

if_failed : (b : Bool) (x y : SocketTold) → x.failed ≡ true → y.failed ≡ true → (if b then x else y).failed ≡ true
if_failed true x y p q = p
if_failed false x y p q = q

if_ended : (b : Bool) (x y : SocketTold) → x.ended ≡ true → y.ended ≡ true → (if b then x else y).ended ≡ true
if_ended true x y p q = p
if_ended false x y p q = q

read_failed : (t : SocketTold) (reading : Reading) → t.failed ≡ true → (told_by_read t reading).failed ≡ true
read_failed t (wires.Gave octets) h = h
read_failed t wires.NotNow h = h
read_failed t wires.End h = h
read_failed t wires.Failed h = h

read_ended : (t : SocketTold) (reading : Reading) → t.ended ≡ true → (told_by_read t reading).ended ≡ true
read_ended t (wires.Gave octets) h = h
read_ended t wires.NotNow h = h
read_ended t wires.End h = refl
read_ended t wires.Failed h = refl

write_failed : (t : SocketTold) (answer : WriteAnswer) → t.failed ≡ true → (told_by_write t answer).failed ≡ true
write_failed t (write_answer.Some count) h = h
write_failed t write_answer.NotNow h = h
write_failed t write_answer.Failed h = refl

write_ended : (t : SocketTold) (answer : WriteAnswer) → t.ended ≡ true → (told_by_write t answer).ended ≡ true
write_ended t (write_answer.Some count) h = h
write_ended t write_answer.NotNow h = h
write_ended t write_answer.Failed h = refl

deed_failed : (conn : ℕ) (t : SocketTold) (deed : RelayDeed) → t.failed ≡ true → (told_by_deed conn t deed).failed ≡ true
deed_failed conn t (Puts line) h = h
deed_failed conn t Flushes h = h
deed_failed conn t (Calls (Listened address listens)) h = h
deed_failed conn t (Calls (Dialled address to)) h = h
deed_failed conn t (Calls (Turned until what)) h = h
deed_failed conn t (Calls (Read from size reading)) h = if_failed (from == conn) (told_by_read t reading) t (read_failed t reading h) h
deed_failed conn t (Calls (Sent to piece answer)) h = if_failed (to == conn) (told_by_write t answer) t (write_failed t answer h) h
deed_failed conn t (Calls (Closed at)) h = h
deed_failed conn t (Asks moment) h = h

deed_ended : (conn : ℕ) (t : SocketTold) (deed : RelayDeed) → t.ended ≡ true → (told_by_deed conn t deed).ended ≡ true
deed_ended conn t (Puts line) h = h
deed_ended conn t Flushes h = h
deed_ended conn t (Calls (Listened address listens)) h = h
deed_ended conn t (Calls (Dialled address to)) h = h
deed_ended conn t (Calls (Turned until what)) h = h
deed_ended conn t (Calls (Read from size reading)) h = if_ended (from == conn) (told_by_read t reading) t (read_ended t reading h) h
deed_ended conn t (Calls (Sent to piece answer)) h = if_ended (to == conn) (told_by_write t answer) t (write_ended t answer h) h
deed_ended conn t (Calls (Closed at)) h = h
deed_ended conn t (Asks moment) h = h

pub more_failed : (conn : ℕ) (t : SocketTold) (xs : List RelayDeed) → t.failed ≡ true → (socket_behind conn t xs).failed ≡ true
more_failed conn t [] h = h
more_failed conn t (x ∷ xs) h = more_failed conn (told_by_deed conn t x) xs (deed_failed conn t x h)

pub more_ended : (conn : ℕ) (t : SocketTold) (xs : List RelayDeed) → t.ended ≡ true → (socket_behind conn t xs).ended ≡ true
more_ended conn t [] h = h
more_ended conn t (x ∷ xs) h = more_ended conn (told_by_deed conn t x) xs (deed_ended conn t x h)

pub tells_append : (conn : ℕ) (done xs : List RelayDeed) → socket_in conn (done ++ xs) ≡ socket_behind conn (socket_in conn done) xs
tells_append conn done xs = fold-append (told_by_deed conn) told_nothing done xs

pub failed_on : (conn : ℕ) (done xs : List RelayDeed) → (socket_in conn done).failed ≡ true → (socket_in conn (done ++ xs)).failed ≡ true
failed_on conn done xs h = ap (λ (t : SocketTold). t.failed) (tells_append conn done xs) ∙ more_failed conn (socket_in conn done) xs h

pub ended_on : (conn : ℕ) (done xs : List RelayDeed) → (socket_in conn done).ended ≡ true → (socket_in conn (done ++ xs)).ended ≡ true
ended_on conn done xs h = ap (λ (t : SocketTold). t.ended) (tells_append conn done xs) ∙ more_ended conn (socket_in conn done) xs h

pub not_before : (a b : Bool) → (a ≡ true → b ≡ true) → b ≡ false → a ≡ false
not_before false b more none = refl
not_before true b more none = sym (more refl) ∙ none

pub unfailed_before : (conn : ℕ) (done xs : List RelayDeed) → (socket_in conn (done ++ xs)).failed ≡ false → (socket_in conn done).failed ≡ false
unfailed_before conn done xs none = not_before (socket_in conn done).failed (socket_in conn (done ++ xs)).failed (failed_on conn done xs) none

-- ---- deeds of which a socket tells nothing

abbrev pub AreSilent : (conn : ℕ) → List RelayDeed → Type 0
AreSilent conn xs = (t : SocketTold) → socket_behind conn t xs ≡ t

pub silent_still : (conn : ℕ) (done xs : List RelayDeed) → AreSilent conn xs → socket_in conn (done ++ xs) ≡ socket_in conn done
silent_still conn done xs silent = tells_append conn done xs ∙ silent (socket_in conn done)

pub tells_then : (conn : ℕ) (t : SocketTold) (xs ys : List RelayDeed) → socket_behind conn t (xs ++ ys) ≡ socket_behind conn (socket_behind conn t xs) ys
tells_then conn t xs ys = fold-append (told_by_deed conn) t xs ys

pub silent_append : (conn : ℕ) (xs ys : List RelayDeed) → AreSilent conn xs → AreSilent conn ys → AreSilent conn (xs ++ ys)
silent_append conn xs ys p q t = tells_then conn t xs ys ∙ (q (socket_behind conn t xs) ∙ p t)

pub lines_silent : (conn : ℕ) (lines : List RelayLine) → AreSilent conn (deeds_of_lines lines)
lines_silent conn [] t = refl
lines_silent conn (line ∷ lines) t = lines_silent conn lines t

pub acts_tell : (conn : ℕ) (acts : List Act) (t : SocketTold) → socket_behind conn t (deeds_of_acts acts) ≡ fold (told_by_act conn) t acts
acts_tell conn [] t = refl
acts_tell conn (Fetched name answer ∷ acts) t = acts_tell conn acts t
acts_tell conn (Wrote piece done ∷ acts) t = acts_tell conn acts t
acts_tell conn (Called call ∷ acts) t = acts_tell conn acts (told_by_act conn t (Called call))
acts_tell conn (Asked moment ∷ acts) t = acts_tell conn acts t
acts_tell conn (Drew word ∷ acts) t = acts_tell conn acts t

pub other_told : (a b : ℕ) (x y : SocketTold) → a ≢ b → (if a == b then x else y) ≡ y
other_told a b x y differ = let other : (a == b) ≡ false = ne_eqb a b differ in rw other refl

reads_tell_nothing : (conn at : ℕ) (acts : List Act) (t : SocketTold) → conn ≢ at → AreReadsOf conn acts → fold (told_by_act at) t acts ≡ t
reads_tell_nothing conn at [] t differ h = refl
reads_tell_nothing conn at (Fetched name answer ∷ []) t differ h = refl
reads_tell_nothing conn at (Wrote piece done ∷ []) t differ h = refl
reads_tell_nothing conn at (Called (Listened address listens) ∷ []) t differ h = refl
reads_tell_nothing conn at (Called (Dialled address to) ∷ []) t differ h = refl
reads_tell_nothing conn at (Called (Turned until what) ∷ []) t differ h = refl
reads_tell_nothing conn at (Called (Read from size reading) ∷ []) t differ h = other_told from at _ t (λ same. differ (sym h ∙ same))
reads_tell_nothing conn at (Called (Sent to piece answer) ∷ []) t differ h = absurd h
reads_tell_nothing conn at (Called (Closed c) ∷ []) t differ h = refl
reads_tell_nothing conn at (Asked moment ∷ []) t differ h = refl
reads_tell_nothing conn at (Drew word ∷ []) t differ h = refl
reads_tell_nothing conn at (first ∷ second ∷ acts) t differ h = absurd h

pub reads_silent : (conn at : ℕ) (acts : List Act) → conn ≢ at → AreReadsOf conn acts → AreSilent at (deeds_of_acts acts)
reads_silent conn at acts differ h t = acts_tell at acts t ∙ reads_tell_nothing conn at acts t differ h

send_tells_nothing : (conn at : ℕ) (act : Act) (t : SocketTold) → conn ≢ at → IsSendTo conn act → told_by_act at t act ≡ t
send_tells_nothing conn at (Fetched name answer) t differ h = refl
send_tells_nothing conn at (Wrote piece done) t differ h = refl
send_tells_nothing conn at (Called (Listened address listens)) t differ h = refl
send_tells_nothing conn at (Called (Dialled address to)) t differ h = refl
send_tells_nothing conn at (Called (Turned until what)) t differ h = refl
send_tells_nothing conn at (Called (Read from size reading)) t differ h = absurd h
send_tells_nothing conn at (Called (Sent to piece answer)) t differ h = other_told to at _ t (λ same. differ (sym h ∙ same))
send_tells_nothing conn at (Called (Closed c)) t differ h = refl
send_tells_nothing conn at (Asked moment) t differ h = refl
send_tells_nothing conn at (Drew word) t differ h = refl

sends_tell_nothing : (conn at : ℕ) (acts : List Act) (t : SocketTold) → conn ≢ at → AreSendsTo conn acts → fold (told_by_act at) t acts ≡ t
sends_tell_nothing conn at [] t differ h = refl
sends_tell_nothing conn at (act ∷ acts) t differ h =
    ap (λ (s : SocketTold). fold (told_by_act at) s acts) (send_tells_nothing conn at act t differ h.0) ∙ sends_tell_nothing conn at acts t differ h.1

pub sends_silent : (conn at : ℕ) (acts : List Act) → conn ≢ at → AreSendsTo conn acts → AreSilent at (deeds_of_acts acts)
sends_silent conn at acts differ h t = acts_tell at acts t ∙ sends_tell_nothing conn at acts t differ h

-- ---- what a connection keeps of that

pub stays_none : (way : Way) → StaysOpen way way
stays_none way = record { ended = refl; lost = refl; closing = λ c. c }

pub flags_on : (done xs : List RelayDeed) (old new : Link) → new.e ≡ old.e → new.r ≡ old.r → StaysOpen old.from_e new.from_e → StaysOpen old.from_r new.from_r
    → AreTold done old → AreTold (done ++ xs) new
flags_on done xs old new e r stays_e stays_r f = record {
  lost_e = λ l. rw r (failed_on old.r.0 done xs (f.lost_e (sym stays_e.lost ∙ l)));
  lost_r = λ l. rw e (failed_on old.e.0 done xs (f.lost_r (sym stays_r.lost ∙ l)));
  ended_e = λ l. rw e (ended_on old.e.0 done xs (f.ended_e (sym stays_e.ended ∙ l)));
  ended_r = λ l. rw r (ended_on old.r.0 done xs (f.ended_r (sym stays_r.ended ∙ l)));
}

-- the side whose socket was read ended as it told
ended_told : (conn : ℕ) (done xs : List RelayDeed) (old new : Way) → EndsAsTold old new (socket_in conn done) (socket_behind conn (socket_in conn done) xs)
    → (old.ended ≡ true → (socket_in conn done).ended ≡ true) → new.ended ≡ true → (socket_in conn (done ++ xs)).ended ≡ true
ended_told conn done xs old new (inl h) was is = ended_on conn done xs (was (sym h.0.ended ∙ is))
ended_told conn done xs old new (inr h) was is = ap (λ (t : SocketTold). t.ended) (tells_append conn done xs) ∙ h.1

as_told_lost : (old new : Way) (a b : SocketTold) → EndsAsTold old new a b → new.lost ≡ old.lost
as_told_lost old new a b (inl h) = h.0.lost
as_told_lost old new a b (inr h) = h.0.lost

as_told_closing : (old new : Way) (a b : SocketTold) → EndsAsTold old new a b → old.closing ≡ true → new.closing ≡ true
as_told_closing old new a b (inl h) c = h.0.closing c
as_told_closing old new a b (inr h) c = h.0.closing c

pub flags_read_e : (done xs : List RelayDeed) (link : Link) (way : Way)
    → EndsAsTold link.from_e way (socket_in link.e.0 done) (socket_behind link.e.0 (socket_in link.e.0 done) xs) → AreTold done link
    → AreTold (done ++ xs) (record link { from_e = way })
flags_read_e done xs link way ends f = record {
  lost_e = λ l. failed_on link.r.0 done xs (f.lost_e (sym (as_told_lost link.from_e way (socket_in link.e.0 done) (socket_behind link.e.0 (socket_in link.e.0 done) xs) ends) ∙ l));
  lost_r = λ l. failed_on link.e.0 done xs (f.lost_r l);
  ended_e = ended_told link.e.0 done xs link.from_e way ends f.ended_e;
  ended_r = λ l. ended_on link.r.0 done xs (f.ended_r l);
}

pub flags_read_r : (done xs : List RelayDeed) (link : Link) (way : Way)
    → EndsAsTold link.from_r way (socket_in link.r.0 done) (socket_behind link.r.0 (socket_in link.r.0 done) xs) → AreTold done link
    → AreTold (done ++ xs) (record link { from_r = way })
flags_read_r done xs link way ends f = record {
  lost_e = λ l. failed_on link.r.0 done xs (f.lost_e l);
  lost_r = λ l. failed_on link.e.0 done xs (f.lost_r (sym (as_told_lost link.from_r way (socket_in link.r.0 done) (socket_behind link.r.0 (socket_in link.r.0 done) xs) ends) ∙ l));
  ended_e = λ l. ended_on link.e.0 done xs (f.ended_e l);
  ended_r = ended_told link.r.0 done xs link.from_r way ends f.ended_r;
}

-- ---- ends that are known

pub out_on : (a b c d : Way) → (a.ended ≡ true → b.ended ≡ true) → (a.closing ≡ true → b.closing ≡ true) → (c.closing ≡ true → d.closing ≡ true)
    → IsOut a c → IsOut b d
out_on a b c d ended closing other (inl h) = inl (ended h)
out_on a b c d ended closing other (inr (inl h)) = inr (inl (closing h))
out_on a b c d ended closing other (inr (inr h)) = inr (inr (other h))

pub knows_silent : (done xs : List RelayDeed) (old new : Link) → new.e ≡ old.e → new.r ≡ old.r → AreSilent old.e.0 xs → AreSilent old.r.0 xs
    → StaysOpen old.from_e new.from_e → StaysOpen old.from_r new.from_r → KnowsEnds done old → KnowsEnds (done ++ xs) new
knows_silent done xs old new e r silent_e silent_r stays_e stays_r k = record {
  e = rw (e, r, silent_still old.e.0 done xs silent_e, silent_still old.r.0 done xs silent_r)
      (λ ended open_r.
      out_on old.from_e new.from_e old.from_r new.from_r (λ was. stays_e.ended ∙ was) stays_e.closing stays_r.closing (k.e ended open_r));
  r = rw (e, r, silent_still old.e.0 done xs silent_e, silent_still old.r.0 done xs silent_r)
      (λ ended open_e.
      out_on old.from_r new.from_r old.from_e new.from_e (λ was. stays_r.ended ∙ was) stays_r.closing stays_e.closing (k.r ended open_e));
}

-- the side that was read
out_read : (conn other : ℕ) (done xs : List RelayDeed) (old new back : Way)
    → EndsAsTold old new (socket_in conn done) (socket_behind conn (socket_in conn done) xs)
    → ((socket_in conn done).ended ≡ true → (socket_in other done).failed ≡ false → IsOut old back) → (socket_in conn (done ++ xs)).ended ≡ true
    → (socket_in other (done ++ xs)).failed ≡ false → IsOut new back
out_read conn other done xs old new back (inl h) knows ended open_other =
    out_on old new back back (λ was. h.0.ended ∙ was) h.0.closing (λ c. c)
    (knows (sym h.1 ∙ (sym (ap (λ (t : SocketTold). t.ended) (tells_append conn done xs)) ∙ ended)) (unfailed_before other done xs open_other))
out_read conn other done xs old new back (inr h) knows ended open_other = inl h.0.ended

pub knows_read_e : (done xs : List RelayDeed) (link : Link) (way : Way) → AreSilent link.r.0 xs
    → EndsAsTold link.from_e way (socket_in link.e.0 done) (socket_behind link.e.0 (socket_in link.e.0 done) xs) → KnowsEnds done link
    → KnowsEnds (done ++ xs) (record link { from_e = way })
knows_read_e done xs link way silent ends k = record {
  e = out_read link.e.0 link.r.0 done xs link.from_e way link.from_r ends k.e;
  r = λ ended open_e.
      out_on link.from_r link.from_r link.from_e way (λ was. was) (λ c. c) (as_told_closing link.from_e way (socket_in link.e.0 done) (socket_behind link.e.0 (socket_in link.e.0 done) xs) ends)
      (k.r (sym (ap (λ (t : SocketTold). t.ended) (silent_still link.r.0 done xs silent)) ∙ ended) (unfailed_before link.e.0 done xs open_e));
}

pub knows_read_r : (done xs : List RelayDeed) (link : Link) (way : Way) → AreSilent link.e.0 xs
    → EndsAsTold link.from_r way (socket_in link.r.0 done) (socket_behind link.r.0 (socket_in link.r.0 done) xs) → KnowsEnds done link
    → KnowsEnds (done ++ xs) (record link { from_r = way })
knows_read_r done xs link way silent ends k = record {
  e = λ ended open_r.
      out_on link.from_e link.from_e link.from_r way (λ was. was) (λ c. c) (as_told_closing link.from_r way (socket_in link.r.0 done) (socket_behind link.r.0 (socket_in link.r.0 done) xs) ends)
      (k.e (sym (ap (λ (t : SocketTold). t.ended) (silent_still link.e.0 done xs silent)) ∙ ended) (unfailed_before link.r.0 done xs open_r));
  r = out_read link.r.0 link.e.0 done xs link.from_r way link.from_e ends k.r;
}
