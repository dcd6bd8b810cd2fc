-- What is read of a connection, and the lines of what came.
use Rattle.std.proofs.Common.{◌≡◌, ℕ, false, List, [], ◌∷◌, ◌++◌, refl, sym, ap, ◌∙◌, subst, append-nil, inl, inr, fold, Result, Ok, Err, OnOk}
use Rattle.std.specs.Result.{MatchResult}
use Rattle.er_base.specs.declared.side.Side.{Side}
use Rattle.er_base.specs.declared.side.Side.TheVariants.{E, R}
use Rattle.er_base.specs.Printing.{Begins}
use Rattle.outside.specs.Acts.{Act}
use Rattle.outside.specs.Doings.{Told}
use Rattle.relay_script.specs.declared.script.Script.{Script}
use Rattle.relay_model.specs.Carried.{carried}
use Rattle.relay_loop.specs.declared.fault.RelayFault.{RelayFault}
use Rattle.relay_loop.specs.declared.way.Way.{Way}
use Rattle.relay_loop.specs.declared.link.Link.{Link}
use Rattle.relay_loop.specs.RelayLines.{RelayLine, Heading, Opening, Received, Given, SideEnd, Closing, told_in_lines}
use Rattle.relay_loop.specs.Octets.{read_in_acts}
use Rattle.relay_loop.specs.Reading.{AreReadsOf, EndsAsTold, Hears, HearsOnly, AreNews, PutsNews}
use Rattle.relay_loop.specs.WaySteps.{WayMoves, StaysOpen}
use Rattle.relay_loop.specs.RelayDeeds.{RelayDeed, Performs, deeds_of_acts, deeds_of_lines, given_in, octets_read_at, closes_in, octets_told_of, AreOfVisit, IsLastDone, Steadily, socket_behind, socket_in}
use Rattle.relay_loop.specs.Links.{IsSafe, HoldsLink, Visits, BreaksVisit, VisitsOn, EndsVisit}
use Rattle.relay_loop.specs.Settled.{SocketTold, told_by_act}
use Rattle.relay_loop.proofs.WayCalls.{moves_none}
use Rattle.relay_loop.proofs.Deeds.{begins_then, performs_lines, breaks_here, written_more, closing_more, given_acts, read_acts, read_append, told_acts, told_lines, given_lines_nothing, closes_lines_nothing, steadily_last}
use Rattle.relay_loop.proofs.LinkSafety.{NoReads, no_reads_e, no_reads_r, given_still, told_still, closes_still, IsPlain, steady_segment, still_behind}
use Rattle.relay_loop.proofs.WayGoes.{moves_go, rests_go, performs_acts, reads_are, reads_give_nothing, reads_elsewhere, reads_close_nothing, reads_of_visit, reads_steady}
use Rattle.relay_loop.proofs.LinkCalls.{on_then, link_goes}
use Rattle.relay_loop.proofs.Tellings.{AreSilent, acts_tell, lines_silent, reads_silent, stays_none, flags_on, flags_read_e, flags_read_r, knows_silent, knows_read_e, knows_read_r}

-- ---- safe behind what was read

-- what was given and closed stays so, where what was told is carried
pub safe_read : (script : Script) (number e r : ℕ) (done xs : List RelayDeed) → given_in e xs ≡ [] → given_in r xs ≡ [] → closes_in e xs ≡ false → closes_in r xs ≡ false
    → Begins (octets_told_of number E (done ++ xs)) (carried script E (octets_read_at e (done ++ xs))) → Begins (octets_told_of number R (done ++ xs)) (carried script R (octets_read_at r (done ++ xs)))
    → IsSafe script number e r done → IsSafe script number e r (done ++ xs)
safe_read script number e r done xs ge gr ce cr of_e of_r s = record {
  first_to_r = rw (given_still r done xs gr) (begins_then _ _ _ s.first_to_r (written_more number E done xs));
  first_to_e = rw (given_still e done xs ge) (begins_then _ _ _ s.first_to_e (written_more number R done xs));
  carried_of_e = of_e;
  carried_of_r = of_r;
  closed_e = λ c. closing_more number done xs (s.closed_e (closes_still e done xs ce c));
  closed_r = λ c. closing_more number done xs (s.closed_r (closes_still r done xs cr c));
}

-- what was told is carried of more that was read
read_more : (script : Script) (side : Side) (conn number : ℕ) (done : List RelayDeed) (acts : List Act)
    → Begins (octets_told_of number side done) (carried script side (octets_read_at conn done ++ read_in_acts conn acts))
    → Begins (octets_told_of number side (done ++ deeds_of_acts acts)) (carried script side (octets_read_at conn (done ++ deeds_of_acts acts)))
read_more script side conn number done acts h =
    let reads : octets_read_at conn (done ++ deeds_of_acts acts) ≡ octets_read_at conn done ++ read_in_acts conn acts =
    read_append conn done (deeds_of_acts acts) ∙ ap (λ (o : List ℕ). octets_read_at conn done ++ o) (read_acts conn acts) in
    rw (reads, told_still number side done (deeds_of_acts acts) (told_acts number side acts)) h

read_none : (script : Script) (side : Side) (conn number : ℕ) (done : List RelayDeed) (acts : List Act) → read_in_acts conn acts ≡ []
    → Begins (octets_told_of number side done) (carried script side (octets_read_at conn done))
    → Begins (octets_told_of number side (done ++ deeds_of_acts acts)) (carried script side (octets_read_at conn (done ++ deeds_of_acts acts)))
read_none script side conn number done acts none h =
    read_more script side conn number done acts
    (subst (λ (o : List ℕ). Begins (octets_told_of number side done) (carried script side o))
    (sym (ap (λ (o : List ℕ). octets_read_at conn done ++ o) none ∙ append-nil (octets_read_at conn done))) h)

-- ---- a read

pub safe_read_e : (script : Script) (link : Link) (done : List RelayDeed) (acts : List Act) → AreReadsOf link.e.0 acts
    → Begins (octets_told_of link.number E done) (carried script E (octets_read_at link.e.0 done ++ read_in_acts link.e.0 acts)) → HoldsLink script done link
    → IsSafe script link.number link.e.0 link.r.0 (done ++ deeds_of_acts acts)
safe_read_e script link done acts only of_e l =
    safe_read script link.number link.e.0 link.r.0 done (deeds_of_acts acts)
    (given_acts link.e.0 acts ∙ reads_give_nothing link.e.0 link.e.0 acts only)
    (given_acts link.r.0 acts ∙ reads_give_nothing link.e.0 link.r.0 acts only) (reads_close_nothing link.e.0 link.e.0 acts only)
    (reads_close_nothing link.e.0 link.r.0 acts only) (read_more script E link.e.0 link.number done acts of_e)
    (read_none script R link.r.0 link.number done acts (reads_elsewhere link.e.0 link.r.0 acts l.parted only) l.safe.carried_of_r) l.safe

pub safe_read_r : (script : Script) (link : Link) (done : List RelayDeed) (acts : List Act) → AreReadsOf link.r.0 acts
    → Begins (octets_told_of link.number R done) (carried script R (octets_read_at link.r.0 done ++ read_in_acts link.r.0 acts)) → HoldsLink script done link
    → IsSafe script link.number link.e.0 link.r.0 (done ++ deeds_of_acts acts)
safe_read_r script link done acts only of_r l =
    safe_read script link.number link.e.0 link.r.0 done (deeds_of_acts acts)
    (given_acts link.e.0 acts ∙ reads_give_nothing link.r.0 link.e.0 acts only)
    (given_acts link.r.0 acts ∙ reads_give_nothing link.r.0 link.r.0 acts only) (reads_close_nothing link.r.0 link.e.0 acts only)
    (reads_close_nothing link.r.0 link.r.0 acts only)
    (read_none script E link.e.0 link.number done acts (reads_elsewhere link.r.0 link.e.0 acts (λ same. l.parted (sym same)) only) l.safe.carried_of_e)
    (read_more script R link.r.0 link.number done acts of_r) l.safe

as_told : (conn : ℕ) (done : List RelayDeed) (acts : List Act) (old new : Way)
    → EndsAsTold old new (socket_in conn done) (fold (told_by_act conn) (socket_in conn done) acts)
    → EndsAsTold old new (socket_in conn done) (socket_behind conn (socket_in conn done) (deeds_of_acts acts))
as_told conn done acts old new h =
    subst (λ (t : SocketTold). EndsAsTold old new (socket_in conn done) t) (sym (acts_tell conn acts (socket_in conn done))) h

reads_e : (script : Script) (link : Link) (way : Way) (waiting : List ℕ) (before now : Told) → Hears script link.e.0 link.from_e way before now
    → Visits script link (record link { from_e = way }) waiting waiting before now
reads_e script link way waiting before now h =
    let gives : (at : ℕ) → given_in at (deeds_of_acts h.acts) ≡ [] = λ at. given_acts at h.acts ∙ reads_give_nothing link.e.0 at h.acts h.only in
    let safe : (done : List RelayDeed) → HoldsLink script done link → IsSafe script link.number link.e.0 link.r.0 (done ++ deeds_of_acts h.acts) =
    λ done l. safe_read_e script link done h.acts h.only (h.moves E (octets_read_at link.e.0 done) (octets_told_of link.number E done) (given_in link.r.0 done) l.from_e).is_carried l in
    record {
      deeds = deeds_of_acts h.acts;
      performs = performs_acts waiting before now h.acts (reads_are waiting link.e.0 h.acts h.only) h.did;
      only = reads_of_visit link.number link.e.0 link.r.0 link.e.0 h.acts (inl refl) h.only;
      number = refl;
      e = refl;
      r = refl;
      holds = λ done l.
          link_goes script done (deeds_of_acts h.acts) link (record link { from_e = way }) (read_in_acts link.e.0 h.acts) [] [] [] [] [] refl refl refl
          (read_acts link.e.0 h.acts) (told_acts link.number E h.acts) (gives link.r.0)
          (read_acts link.r.0 h.acts ∙ reads_elsewhere link.e.0 link.r.0 h.acts l.parted h.only) (told_acts link.number R h.acts) (gives link.e.0)
          (moves_go script (read_in_acts link.e.0 h.acts) [] link.from_e way h.moves) (rests_go script link.from_r) (safe done l)
          (flags_read_e done (deeds_of_acts h.acts) link way (as_told link.e.0 done h.acts link.from_e way (h.ends (socket_in link.e.0 done))) l.flags) l;
      steady = λ done l. reads_steady (IsSafe script link.number link.e.0 link.r.0) link.e.0 done h.acts h.only l.safe (safe done l);
    }

reads_r : (script : Script) (link : Link) (way : Way) (waiting : List ℕ) (before now : Told) → Hears script link.r.0 link.from_r way before now
    → Visits script link (record link { from_r = way }) waiting waiting before now
reads_r script link way waiting before now h =
    let gives : (at : ℕ) → given_in at (deeds_of_acts h.acts) ≡ [] = λ at. given_acts at h.acts ∙ reads_give_nothing link.r.0 at h.acts h.only in
    let safe : (done : List RelayDeed) → HoldsLink script done link → IsSafe script link.number link.e.0 link.r.0 (done ++ deeds_of_acts h.acts) =
    λ done l. safe_read_r script link done h.acts h.only (h.moves R (octets_read_at link.r.0 done) (octets_told_of link.number R done) (given_in link.e.0 done) l.from_r).is_carried l in
    record {
      deeds = deeds_of_acts h.acts;
      performs = performs_acts waiting before now h.acts (reads_are waiting link.r.0 h.acts h.only) h.did;
      only = reads_of_visit link.number link.e.0 link.r.0 link.r.0 h.acts (inr refl) h.only;
      number = refl;
      e = refl;
      r = refl;
      holds = λ done l.
          link_goes script done (deeds_of_acts h.acts) link (record link { from_r = way }) [] [] [] (read_in_acts link.r.0 h.acts) [] [] refl refl refl
          (read_acts link.e.0 h.acts ∙ reads_elsewhere link.r.0 link.e.0 h.acts (λ same. l.parted (sym same)) h.only) (told_acts link.number E h.acts) (gives link.r.0)
          (read_acts link.r.0 h.acts) (told_acts link.number R h.acts) (gives link.e.0)
          (rests_go script link.from_e) (moves_go script (read_in_acts link.r.0 h.acts) [] link.from_r way h.moves) (safe done l)
          (flags_read_r done (deeds_of_acts h.acts) link way (as_told link.r.0 done h.acts link.from_r way (h.ends (socket_in link.r.0 done))) l.flags) l;
      steady = λ done l. reads_steady (IsSafe script link.number link.e.0 link.r.0) link.r.0 done h.acts h.only l.safe (safe done l);
    }

reads_on_e : (script : Script) (link : Link) (way : Way) (waiting : List ℕ) (before now : Told) → Hears script link.e.0 link.from_e way before now
    → VisitsOn script link (record link { from_e = way }) waiting waiting before now
unfolding reads_e
reads_on_e script link way waiting before now h = record {
  visits = reads_e script link way waiting before now h;
  knows = λ done l k.
      knows_read_e done (deeds_of_acts h.acts) link way (reads_silent link.e.0 link.r.0 h.acts l.parted h.only)
      (as_told link.e.0 done h.acts link.from_e way (h.ends (socket_in link.e.0 done))) k;
}

reads_on_r : (script : Script) (link : Link) (way : Way) (waiting : List ℕ) (before now : Told) → Hears script link.r.0 link.from_r way before now
    → VisitsOn script link (record link { from_r = way }) waiting waiting before now
unfolding reads_r
reads_on_r script link way waiting before now h = record {
  visits = reads_r script link way waiting before now h;
  knows = λ done l k.
      knows_read_r done (deeds_of_acts h.acts) link way (reads_silent link.r.0 link.e.0 h.acts (λ same. l.parted (sym same)) h.only)
      (as_told link.r.0 done h.acts link.from_r way (h.ends (socket_in link.r.0 done))) k;
}

-- ---- lines of what came

news_of_visit : (number e r : ℕ) (lines : List RelayLine) → AreNews number lines → AreOfVisit number e r (deeds_of_lines lines)
news_of_visit number e r [] h = tt
news_of_visit number e r (Heading ∷ lines) h = absurd h.0
news_of_visit number e r (Opening moment of ∷ lines) h = absurd h.0
news_of_visit number e r (Received moment of from octets ∷ lines) h = (h.0, news_of_visit number e r lines h.1)
news_of_visit number e r (Given moment of from octets ∷ lines) h = absurd h.0
news_of_visit number e r (SideEnd moment of from ∷ lines) h = (h.0, news_of_visit number e r lines h.1)
news_of_visit number e r (Closing moment of ∷ lines) h = absurd h.0

news_tell_nothing : (number at : ℕ) (side : Side) (lines : List RelayLine) → AreNews number lines → told_in_lines at side lines ≡ []
news_tell_nothing number at side [] h = refl
news_tell_nothing number at side (Heading ∷ lines) h = absurd h.0
news_tell_nothing number at side (Opening moment of ∷ lines) h = absurd h.0
news_tell_nothing number at side (Received moment of from octets ∷ lines) h = news_tell_nothing number at side lines h.1
news_tell_nothing number at side (Given moment of from octets ∷ lines) h = absurd h.0
news_tell_nothing number at side (SideEnd moment of from ∷ lines) h = news_tell_nothing number at side lines h.1
news_tell_nothing number at side (Closing moment of ∷ lines) h = absurd h.0

pub lines_read_nothing : (e r : ℕ) (lines : List RelayLine) → NoReads e r (deeds_of_lines lines)
lines_read_nothing e r [] = tt
lines_read_nothing e r (line ∷ lines) = ((refl, refl), lines_read_nothing e r lines)

pub news_plain : (number e r : ℕ) (lines : List RelayLine) → AreNews number lines → IsPlain number e r (deeds_of_lines lines)
news_plain number e r lines are = record {
  given_e = given_lines_nothing e lines;
  given_r = given_lines_nothing r lines;
  unread = lines_read_nothing e r lines;
  told_e = told_lines number E lines ∙ news_tell_nothing number number E lines are;
  told_r = told_lines number R lines ∙ news_tell_nothing number number R lines are;
}

-- deeds that read, give, tell and close nothing
pub plain_steady : (script : Script) (link : Link) (xs : List RelayDeed) → IsPlain link.number link.e.0 link.r.0 xs → closes_in link.e.0 xs ≡ false
    → closes_in link.r.0 xs ≡ false → (done : List RelayDeed) → HoldsLink script done link → Steadily (IsSafe script link.number link.e.0 link.r.0) done xs
plain_steady script link xs plain open_e open_r done l =
    steady_segment script link.number link.e.0 link.r.0 done xs (still_behind script link.number link.e.0 link.r.0 done xs plain open_e open_r l.safe) plain.unread

-- while what is kept of the ways moves
pub plain_holds : (script : Script) (old new : Link) (xs : List RelayDeed) → IsPlain old.number old.e.0 old.r.0 xs → closes_in old.e.0 xs ≡ false
    → closes_in old.r.0 xs ≡ false → new.number ≡ old.number → new.e ≡ old.e → new.r ≡ old.r → WayMoves script [] [] old.from_e new.from_e
    → WayMoves script [] [] old.from_r new.from_r → StaysOpen old.from_e new.from_e → StaysOpen old.from_r new.from_r → (done : List RelayDeed)
    → HoldsLink script done old → HoldsLink script (done ++ xs) new
plain_holds script old new xs plain open_e open_r number e r moves_e moves_r stays_e stays_r done l =
    link_goes script done xs old new [] [] [] [] [] [] number e r (no_reads_e old.e.0 old.r.0 xs plain.unread) plain.told_e plain.given_r
    (no_reads_r old.e.0 old.r.0 xs plain.unread) plain.told_r plain.given_e (moves_go script [] [] old.from_e new.from_e moves_e)
    (moves_go script [] [] old.from_r new.from_r moves_r)
    (steadily_last (IsSafe script old.number old.e.0 old.r.0) done xs (plain_steady script old xs plain open_e open_r done l))
    (flags_on done xs old new e r stays_e stays_r l.flags) l

pub plain_visit : (script : Script) (old new : Link) (waiting left : List ℕ) (before now : Told) (xs : List RelayDeed) → Performs waiting left before now xs
    → AreOfVisit old.number old.e.0 old.r.0 xs → IsPlain old.number old.e.0 old.r.0 xs → closes_in old.e.0 xs ≡ false → closes_in old.r.0 xs ≡ false
    → new.number ≡ old.number → new.e ≡ old.e → new.r ≡ old.r → WayMoves script [] [] old.from_e new.from_e → WayMoves script [] [] old.from_r new.from_r
    → StaysOpen old.from_e new.from_e → StaysOpen old.from_r new.from_r → Visits script old new waiting left before now
plain_visit script old new waiting left before now xs performs only plain open_e open_r number e r moves_e moves_r stays_e stays_r = record {
  deeds = xs;
  performs = performs;
  only = only;
  number = number;
  e = e;
  r = r;
  holds = plain_holds script old new xs plain open_e open_r number e r moves_e moves_r stays_e stays_r;
  steady = plain_steady script old xs plain open_e open_r;
}

-- of which neither socket tells anything
plain_on : (script : Script) (old new : Link) (waiting left : List ℕ) (before now : Told) (xs : List RelayDeed) → Performs waiting left before now xs
    → AreOfVisit old.number old.e.0 old.r.0 xs → IsPlain old.number old.e.0 old.r.0 xs → closes_in old.e.0 xs ≡ false → closes_in old.r.0 xs ≡ false
    → new.number ≡ old.number → new.e ≡ old.e → new.r ≡ old.r → WayMoves script [] [] old.from_e new.from_e → WayMoves script [] [] old.from_r new.from_r
    → StaysOpen old.from_e new.from_e → StaysOpen old.from_r new.from_r → AreSilent old.e.0 xs → AreSilent old.r.0 xs
    → VisitsOn script old new waiting left before now
unfolding plain_visit
plain_on script old new waiting left before now xs performs only plain open_e open_r number e r moves_e moves_r stays_e stays_r silent_e silent_r = record {
  visits = plain_visit script old new waiting left before now xs performs only plain open_e open_r number e r moves_e moves_r stays_e stays_r;
  knows = λ done l k. knows_silent done xs old new e r silent_e silent_r stays_e stays_r k;
}

pub news_of : (number e r : ℕ) (at : ℕ) (lines : List RelayLine) → at ≡ number → AreNews at lines → AreOfVisit number e r (deeds_of_lines lines)
news_of number e r at lines own are = news_of_visit number e r lines (subst (λ (n : ℕ). AreNews n lines) own are)

pub news_on : (script : Script) (number : ℕ) (link : Link) (waiting left : List ℕ) (t : Told) → number ≡ link.number → PutsNews number waiting left
    → VisitsOn script link link waiting left t t
news_on script number link waiting left t own p =
    let are : AreNews link.number p.news = subst (λ (n : ℕ). AreNews n p.news) own p.are in
    plain_on script link link waiting left t t (deeds_of_lines p.news) (performs_lines waiting left p.news t p.is)
    (news_of_visit link.number link.e.0 link.r.0 p.news are) (news_plain link.number link.e.0 link.r.0 p.news are)
    (closes_lines_nothing link.e.0 p.news) (closes_lines_nothing link.r.0 p.news) refl refl refl (moves_none script link.from_e) (moves_none script link.from_r)
    (stays_none link.from_e) (stays_none link.from_r) (lines_silent link.e.0 p.news) (lines_silent link.r.0 p.news)

-- ---- a read with its lines

pub hears_e : (script : Script) (number : ℕ) (link : Link) (way : Way) (waiting left : List ℕ) (before now : Told) → number ≡ link.number
    → Hears script link.e.0 link.from_e way before now → PutsNews number waiting left → VisitsOn script link (record link { from_e = way }) waiting left before now
hears_e script number link way waiting left before now own h p =
    let new : Link = record link { from_e = way } in
    on_then script link new new waiting waiting left before now now (reads_on_e script link way waiting before now h)
    (news_on script number new waiting left now own p)

pub hears_r : (script : Script) (number : ℕ) (link : Link) (way : Way) (waiting left : List ℕ) (before now : Told) → number ≡ link.number
    → Hears script link.r.0 link.from_r way before now → PutsNews number waiting left → VisitsOn script link (record link { from_r = way }) waiting left before now
hears_r script number link way waiting left before now own h p =
    let new : Link = record link { from_r = way } in
    on_then script link new new waiting waiting left before now now (reads_on_r script link way waiting before now h)
    (news_on script number new waiting left now own p)

-- memory ran out behind a read
pub hears_only_e : (fault : RelayFault) (script : Script) (link : Link) (waiting : List ℕ) (before now : Told) → IsLastDone fault []
    → HearsOnly script link.e.0 link.from_e before now → BreaksVisit fault script link waiting before now
hears_only_e fault script link waiting before now none h = record {
  deeds = deeds_of_acts h.acts;
  breaks = breaks_here fault waiting waiting before now (deeds_of_acts h.acts) none
      (performs_acts waiting before now h.acts (reads_are waiting link.e.0 h.acts h.only) h.did);
  only = reads_of_visit link.number link.e.0 link.r.0 link.e.0 h.acts (inl refl) h.only;
  steady = λ done l.
      reads_steady (IsSafe script link.number link.e.0 link.r.0) link.e.0 done h.acts h.only l.safe
      (safe_read_e script link done h.acts h.only (h.reads E (octets_read_at link.e.0 done) (octets_told_of link.number E done) (given_in link.r.0 done) l.from_e) l);
}

pub hears_only_r : (fault : RelayFault) (script : Script) (link : Link) (waiting : List ℕ) (before now : Told) → IsLastDone fault []
    → HearsOnly script link.r.0 link.from_r before now → BreaksVisit fault script link waiting before now
hears_only_r fault script link waiting before now none h = record {
  deeds = deeds_of_acts h.acts;
  breaks = breaks_here fault waiting waiting before now (deeds_of_acts h.acts) none
      (performs_acts waiting before now h.acts (reads_are waiting link.r.0 h.acts h.only) h.did);
  only = reads_of_visit link.number link.e.0 link.r.0 link.r.0 h.acts (inr refl) h.only;
  steady = λ done l.
      reads_steady (IsSafe script link.number link.e.0 link.r.0) link.r.0 done h.acts h.only l.safe
      (safe_read_r script link done h.acts h.only (h.reads R (octets_read_at link.r.0 done) (octets_told_of link.number R done) (given_in link.e.0 done) l.from_r) l);
}

-- however it ends
pub ends_hear_e : {T : Type 0} (result : Result T RelayFault) (script : Script) (number : ℕ) (link : Link) (way : Way) (waiting left : List ℕ) (before now : Told)
    → number ≡ link.number
    → MatchResult result (λ _. Hears script link.e.0 link.from_e way before now) (λ fault. IsLastDone fault [] × HearsOnly script link.e.0 link.from_e before now)
    → OnOk result (PutsNews number waiting left) → EndsVisit result script link (record link { from_e = way }) waiting left before now
ends_hear_e (Ok value) script number link way waiting left before now own h p = hears_e script number link way waiting left before now own h p
ends_hear_e (Err fault) script number link way waiting left before now own h p = hears_only_e fault script link waiting before now h.0 h.1

pub ends_hear_r : {T : Type 0} (result : Result T RelayFault) (script : Script) (number : ℕ) (link : Link) (way : Way) (waiting left : List ℕ) (before now : Told)
    → number ≡ link.number
    → MatchResult result (λ _. Hears script link.r.0 link.from_r way before now) (λ fault. IsLastDone fault [] × HearsOnly script link.r.0 link.from_r before now)
    → OnOk result (PutsNews number waiting left) → EndsVisit result script link (record link { from_r = way }) waiting left before now
ends_hear_r (Ok value) script number link way waiting left before now own h p = hears_r script number link way waiting left before now own h p
ends_hear_r (Err fault) script number link way waiting left before now own h p = hears_only_r fault script link waiting before now h.0 h.1
