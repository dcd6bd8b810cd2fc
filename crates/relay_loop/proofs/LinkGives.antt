-- What is due of a connection is told, and then written; and both of its sides are closed.
use Rattle.std.proofs.Common.{◌≡◌, ◌≢◌, ℕ, ◌==◌, Bool, ◌||◌, ◌&&◌, if◌then◌else◌, true, false, List, [], ◌∷◌, ◌++◌, refl, sym, ap, ◌∙◌, subst, append_assoc, append-nil, inl, inr, fold, Option}
use Rattle.std.proofs.lemmas.Bool.{eq-eqb}
use Rattle.std.proofs.lemmas.List.Folds.{list_any-append}
use Rattle.er_base.specs.declared.side.Side.{Side}
use Rattle.er_base.specs.declared.side.Side.TheVariants.{E, R}
use Rattle.er_base.specs.Printing.{Begins}
use Rattle.outside.specs.Acts.{Closed, Act, Called}
use Rattle.outside.specs.Doings.{Told, Did}
use Rattle.outside.specs.Scripts.{printing}
use Rattle.relay_script.specs.declared.script.Script.{Script}
use Rattle.relay_loop.specs.declared.stamp.Stamp.{Stamp}
use Rattle.relay_loop.specs.declared.way.Way.{Way}
use Rattle.relay_loop.specs.declared.link.Link.{Link}
use Rattle.relay_loop.specs.RelayLines.{RelayLine, Given, Closing, closed_line, text_of_line, text_of_lines, told_in_lines, closes_in_line, closes_in_lines}
use Rattle.relay_loop.specs.Octets.{given_in_acts}
use Rattle.relay_loop.specs.Ways.{HoldsWay}
use Rattle.relay_loop.specs.WaySteps.{joined, given_lines, PrintsGiven, StaysOpen}
use Rattle.relay_loop.specs.Sending.{Flows, Sends}
use Rattle.relay_loop.specs.RelayDeeds.{RelayDeed, Puts, Flushes, Calls, Performs, Steadily, deeds_of_acts, deeds_of_lines, lines_in, written_from, waiting_from, lines_written, given_in, octets_read_at, octets_told_of, octets_written_of, AreOfVisit, socket_behind}
use Rattle.relay_loop.specs.Links.{IsSafe, HoldsLink, Visits, VisitsOn}
use Rattle.relay_loop.specs.declared.sending.Flow.{Flow}
use Rattle.relay_loop.specs.declared.sending.Flow.TheVariants as flow
use Rattle.relay_loop.specs.Settled.{SocketTold, told_nothing, told_by_act}
use Rattle.relay_loop.specs.Ways.{IsUndue}
use Rattle.relay_loop.specs.Giving.{PrintsBoth, WritesBoth, TellsFirst, failed_of}
use Rattle.relay_loop.proofs.Tellings.{not_before, tells_then, silent_append, lines_silent, sends_silent, acts_tell, stays_none, flags_on, knows_silent}
use Rattle.relay_loop.proofs.WayTakes.{stays_then}
use Rattle.relay_loop.proofs.WayCalls.{moves_none}
use Rattle.relay_loop.proofs.Deeds.{performs_then, performs_call, performs_flush, performs_lines, flushed, told_append, told_lines, told_acts, given_acts, written_append, closes_lines_nothing, given_lines_nothing, acts_flushed, steadily_then, steadily_last}
use Rattle.relay_loop.proofs.LinkSafety.{NoReads, no_reads_e, no_reads_r, given_still, told_still, closes_still, IsPlain, steady_segment, plain_behind}
use Rattle.relay_loop.proofs.WayGoes.{WayGoes, moves_go, prints_go, rests_go, way_goes, performs_acts, sends_are, sends_read_nothing, sends_elsewhere, sends_close_nothing, sends_of_visit}
use Rattle.relay_loop.proofs.LinkCalls.{of_visit_append, visits_then, link_goes}
use Rattle.relay_loop.proofs.LinkReads.{lines_read_nothing, plain_steady, plain_holds, plain_visit}

-- ---- lines of what is given

lines_of_parts : Stamp → Side → List (List ℕ) → List RelayLine
lines_of_parts at side [] = []
lines_of_parts at side (part ∷ parts) = Given at.moment at.number side part ∷ lines_of_parts at side parts

text_of_parts : (at : Stamp) (side : Side) (parts : List (List ℕ)) → text_of_lines (lines_of_parts at side parts) ≡ given_lines at side parts
unfolding text_of_line lines_of_parts
text_of_parts at side [] = refl
text_of_parts at side (part ∷ parts) = ap (λ (o : List ℕ). text_of_line (Given at.moment at.number side part) ++ o) (text_of_parts at side parts)

told_of_e : (at : Stamp) (parts : List (List ℕ)) → told_in_lines at.number E (lines_of_parts at E parts) ≡ joined parts
unfolding lines_of_parts
told_of_e at [] = refl
told_of_e at (part ∷ parts) = let same : (at.number == at.number) ≡ true = eq-eqb at.number at.number refl in rw (same, told_of_e at parts) refl

told_of_r : (at : Stamp) (parts : List (List ℕ)) → told_in_lines at.number R (lines_of_parts at R parts) ≡ joined parts
unfolding lines_of_parts
told_of_r at [] = refl
told_of_r at (part ∷ parts) = let same : (at.number == at.number) ≡ true = eq-eqb at.number at.number refl in rw (same, told_of_r at parts) refl

and_false : (a : Bool) (xs : List ℕ) → (if a && false then xs else []) ≡ []
and_false true xs = refl
and_false false xs = refl

none_of_e : (number : ℕ) (at : Stamp) (parts : List (List ℕ)) → told_in_lines number E (lines_of_parts at R parts) ≡ []
unfolding lines_of_parts
none_of_e number at [] = refl
none_of_e number at (part ∷ parts) = rw (and_false (at.number == number) part, none_of_e number at parts) refl

none_of_r : (number : ℕ) (at : Stamp) (parts : List (List ℕ)) → told_in_lines number R (lines_of_parts at E parts) ≡ []
unfolding lines_of_parts
none_of_r number at [] = refl
none_of_r number at (part ∷ parts) = rw (and_false (at.number == number) part, none_of_r number at parts) refl

parts_of_visit : (number e r : ℕ) (at : Stamp) (side : Side) (parts : List (List ℕ)) → at.number ≡ number → AreOfVisit number e r (deeds_of_lines (lines_of_parts at side parts))
unfolding lines_of_parts
parts_of_visit number e r at side [] own = tt
parts_of_visit number e r at side (part ∷ parts) own = (own, parts_of_visit number e r at side parts own)

-- ---- one way is told

-- the lines that tell it, of this side
told_part_e : (at : Stamp) (number : ℕ) (side : Side) (parts : List (List ℕ)) → at.number ≡ number → side ≡ E
    → octets_told_of number E (deeds_of_lines (lines_of_parts at side parts)) ≡ joined parts
told_part_e at number side parts own is =
    told_lines number E (lines_of_parts at side parts)
    ∙ subst (λ (s : Side). told_in_lines number E (lines_of_parts at s parts) ≡ joined parts) (sym is)
    (subst (λ (n : ℕ). told_in_lines n E (lines_of_parts at E parts) ≡ joined parts) own (told_of_e at parts))

told_part_r : (at : Stamp) (number : ℕ) (side : Side) (parts : List (List ℕ)) → at.number ≡ number → side ≡ R
    → octets_told_of number R (deeds_of_lines (lines_of_parts at side parts)) ≡ joined parts
told_part_r at number side parts own is =
    told_lines number R (lines_of_parts at side parts)
    ∙ subst (λ (s : Side). told_in_lines number R (lines_of_parts at s parts) ≡ joined parts) (sym is)
    (subst (λ (n : ℕ). told_in_lines n R (lines_of_parts at R parts) ≡ joined parts) own (told_of_r at parts))

other_part_r : (at : Stamp) (number : ℕ) (side : Side) (parts : List (List ℕ)) → side ≡ E → octets_told_of number R (deeds_of_lines (lines_of_parts at side parts)) ≡ []
other_part_r at number side parts is =
    told_lines number R (lines_of_parts at side parts)
    ∙ subst (λ (s : Side). told_in_lines number R (lines_of_parts at s parts) ≡ []) (sym is) (none_of_r number at parts)

other_part_e : (at : Stamp) (number : ℕ) (side : Side) (parts : List (List ℕ)) → side ≡ R → octets_told_of number E (deeds_of_lines (lines_of_parts at side parts)) ≡ []
other_part_e at number side parts is =
    told_lines number E (lines_of_parts at side parts)
    ∙ subst (λ (s : Side). told_in_lines number E (lines_of_parts at s parts) ≡ []) (sym is) (none_of_e number at parts)

pub prints_e : (script : Script) (at : Stamp) (link : Link) (way : Way) (x y : List ℕ) (t : Told) → at.number ≡ link.number → PrintsGiven at link.from_e way x y
    → Visits script link (record link { from_e = way }) x y t t
prints_e script at link way x y t own p =
    let lines : List RelayLine = lines_of_parts at link.from_e.side p.parts in
    let xs : List RelayDeed = deeds_of_lines lines in
    let steady : (done : List RelayDeed) → HoldsLink script done link → Steadily (IsSafe script link.number link.e.0 link.r.0) done xs =
    λ done l.
    steady_segment script link.number link.e.0 link.r.0 done xs
    (record {
      first_to_r = rw (given_still link.r.0 done xs (given_lines_nothing link.r.0 lines)) l.safe.first_to_r;
      first_to_e = rw (given_still link.e.0 done xs (given_lines_nothing link.e.0 lines)) l.safe.first_to_e;
      carried_of_e = rw (told_append link.number E done xs, told_part_e at link.number link.from_e.side p.parts own l.from_e.sided)
          (p.holds script E (octets_read_at link.e.0 done) (octets_told_of link.number E done) (given_in link.r.0 done) l.from_e).is_carried;
      carried_of_r = rw (told_still link.number R done xs (other_part_r at link.number link.from_e.side p.parts l.from_e.sided)) l.safe.carried_of_r;
      closed_e = λ c. l.safe.closed_e (closes_still link.e.0 done xs (closes_lines_nothing link.e.0 lines) c);
      closed_r = λ c. l.safe.closed_r (closes_still link.r.0 done xs (closes_lines_nothing link.r.0 lines) c);
    })
    (lines_read_nothing link.e.0 link.r.0 lines) in
    record {
      deeds = xs;
      performs = performs_lines x y lines t (p.lines ∙ ap (λ (o : List ℕ). x ++ o) (sym (text_of_parts at link.from_e.side p.parts)));
      only = parts_of_visit link.number link.e.0 link.r.0 at link.from_e.side p.parts own;
      number = refl;
      e = refl;
      r = refl;
      holds = λ done l.
          link_goes script done xs link (record link { from_e = way }) [] (joined p.parts) [] [] [] [] refl refl refl
          (no_reads_e link.e.0 link.r.0 xs (lines_read_nothing link.e.0 link.r.0 lines)) (told_part_e at link.number link.from_e.side p.parts own l.from_e.sided)
          (given_lines_nothing link.r.0 lines) (no_reads_r link.e.0 link.r.0 xs (lines_read_nothing link.e.0 link.r.0 lines))
          (other_part_r at link.number link.from_e.side p.parts l.from_e.sided) (given_lines_nothing link.e.0 lines)
          (prints_go script at link.from_e way x y p) (rests_go script link.from_r)
          (steadily_last (IsSafe script link.number link.e.0 link.r.0) done xs (steady done l))
          (flags_on done xs link (record link { from_e = way }) refl refl p.stays (stays_none link.from_r) l.flags) l;
      steady = steady;
    }

pub prints_r : (script : Script) (at : Stamp) (link : Link) (way : Way) (x y : List ℕ) (t : Told) → at.number ≡ link.number → PrintsGiven at link.from_r way x y
    → Visits script link (record link { from_r = way }) x y t t
prints_r script at link way x y t own p =
    let lines : List RelayLine = lines_of_parts at link.from_r.side p.parts in
    let xs : List RelayDeed = deeds_of_lines lines in
    let steady : (done : List RelayDeed) → HoldsLink script done link → Steadily (IsSafe script link.number link.e.0 link.r.0) done xs =
    λ done l.
    steady_segment script link.number link.e.0 link.r.0 done xs
    (record {
      first_to_r = rw (given_still link.r.0 done xs (given_lines_nothing link.r.0 lines)) l.safe.first_to_r;
      first_to_e = rw (given_still link.e.0 done xs (given_lines_nothing link.e.0 lines)) l.safe.first_to_e;
      carried_of_e = rw (told_still link.number E done xs (other_part_e at link.number link.from_r.side p.parts l.from_r.sided)) l.safe.carried_of_e;
      carried_of_r = rw (told_append link.number R done xs, told_part_r at link.number link.from_r.side p.parts own l.from_r.sided)
          (p.holds script R (octets_read_at link.r.0 done) (octets_told_of link.number R done) (given_in link.e.0 done) l.from_r).is_carried;
      closed_e = λ c. l.safe.closed_e (closes_still link.e.0 done xs (closes_lines_nothing link.e.0 lines) c);
      closed_r = λ c. l.safe.closed_r (closes_still link.r.0 done xs (closes_lines_nothing link.r.0 lines) c);
    })
    (lines_read_nothing link.e.0 link.r.0 lines) in
    record {
      deeds = xs;
      performs = performs_lines x y lines t (p.lines ∙ ap (λ (o : List ℕ). x ++ o) (sym (text_of_parts at link.from_r.side p.parts)));
      only = parts_of_visit link.number link.e.0 link.r.0 at link.from_r.side p.parts own;
      number = refl;
      e = refl;
      r = refl;
      holds = λ done l.
          link_goes script done xs link (record link { from_r = way }) [] [] [] [] (joined p.parts) [] refl refl refl
          (no_reads_e link.e.0 link.r.0 xs (lines_read_nothing link.e.0 link.r.0 lines)) (other_part_e at link.number link.from_r.side p.parts l.from_r.sided)
          (given_lines_nothing link.r.0 lines) (no_reads_r link.e.0 link.r.0 xs (lines_read_nothing link.e.0 link.r.0 lines))
          (told_part_r at link.number link.from_r.side p.parts own l.from_r.sided) (given_lines_nothing link.e.0 lines)
          (rests_go script link.from_e) (prints_go script at link.from_r way x y p)
          (steadily_last (IsSafe script link.number link.e.0 link.r.0) done xs (steady done l))
          (flags_on done xs link (record link { from_r = way }) refl refl (stays_none link.from_e) p.stays l.flags) l;
      steady = steady;
    }

pub prints_both : (script : Script) (at : Stamp) (old new : Link) (x y : List ℕ) (t : Told) → at.number ≡ old.number → PrintsBoth at old new x y → Visits script old new x y t t
prints_both script at old new x y t own p =
    subst (λ (l : Link). Visits script old l x y t t) (sym p.is)
    (visits_then script old (record old { from_e = new.from_e }) (record old { from_e = new.from_e; from_r = new.from_r }) x p.between y t t t
    (prints_e script at old new.from_e x p.between t own p.from_e) (prints_r script at (record old { from_e = new.from_e }) new.from_r p.between y t own p.from_r))

-- ---- what was told is written, where all lines were

record SendsOn (script : Script) (old new : Link) (waiting : List ℕ) (before now : Told) : Type 0 where
  deeds : List RelayDeed
  performs : Performs waiting waiting before now deeds
  only : AreOfVisit old.number old.e.0 old.r.0 deeds
  number : new.number ≡ old.number
  e : new.e ≡ old.e
  r : new.r ≡ old.r
  leaves : (done : List RelayDeed) → lines_in done ≡ lines_written done → lines_in (done ++ deeds) ≡ lines_written (done ++ deeds)
  holds : (done : List RelayDeed) → lines_in done ≡ lines_written done → HoldsLink script done old → HoldsLink script (done ++ deeds) new
  steady : (done : List RelayDeed) → lines_in done ≡ lines_written done → HoldsLink script done old
      → Steadily (IsSafe script old.number old.e.0 old.r.0) done deeds

all_told : (number : ℕ) (side : Side) (done : List RelayDeed) (acts : List Act) → lines_in done ≡ lines_written done
    → octets_told_of number side (done ++ deeds_of_acts acts) ≡ octets_written_of number side done
all_told number side done acts written =
    told_still number side done (deeds_of_acts acts) (told_acts number side acts) ∙ ap (λ (o : List RelayLine). told_in_lines number side o) written

sends_stay : (closing : Bool) (how : Flow) (conn : ℕ) (old new : Way) (s t : Told) → Sends closing how conn old new s t → StaysOpen old new
sends_stay closing how conn old new s t sends = record {
  ended = ap (λ (w : Way). w.ended) sends.is;
  lost = ap (λ (w : Way). w.lost) sends.is;
  closing = λ c. ap (λ (w : Way). w.closing) sends.is ∙ c;
}

sends_to_r : (script : Script) (closing : Bool) (how : Flow) (link : Link) (way : Way) (waiting : List ℕ) (before now : Told)
    → Sends closing how link.r.0 link.from_e way before now → SendsOn script link (record link { from_e = way }) waiting before now
sends_to_r script closing how link way waiting before now s =
    let xs : List RelayDeed = deeds_of_acts s.acts in
    let none : NoReads link.e.0 link.r.0 xs = sends_read_nothing link.r.0 link.e.0 link.r.0 s.acts s.only in
    let goes : WayGoes script [] [] (given_in_acts link.r.0 s.acts) link.from_e way =
    moves_go script [] (given_in_acts link.r.0 s.acts) link.from_e way (s.moves script) in
    let way_on : (done : List RelayDeed) → HoldsLink script done link
    → HoldsWay script E (octets_read_at link.e.0 (done ++ xs)) (octets_told_of link.number E (done ++ xs)) (given_in link.r.0 (done ++ xs)) way =
    λ done l.
    way_goes script E link.e.0 link.r.0 link.number done xs [] [] (given_in_acts link.r.0 s.acts) link.from_e way (no_reads_e link.e.0 link.r.0 xs none)
    (told_acts link.number E s.acts) (given_acts link.r.0 s.acts) goes l.from_e in
    let elsewhere : (l : link.e.0 ≢ link.r.0) → given_in link.e.0 xs ≡ [] =
    λ parted. given_acts link.e.0 s.acts ∙ sends_elsewhere link.r.0 link.e.0 s.acts (λ same. parted (sym same)) s.only in
    let steady : (done : List RelayDeed) → lines_in done ≡ lines_written done → HoldsLink script done link
    → Steadily (IsSafe script link.number link.e.0 link.r.0) done xs =
    λ done written l.
    steady_segment script link.number link.e.0 link.r.0 done xs
    (record {
      first_to_r = subst (λ (o : List ℕ). Begins (given_in link.r.0 (done ++ xs)) o) (all_told link.number E done s.acts written) (way_on done l).first;
      first_to_e = rw (given_still link.e.0 done xs (elsewhere l.parted)) l.safe.first_to_e;
      carried_of_e = rw (told_still link.number E done xs (told_acts link.number E s.acts)) l.safe.carried_of_e;
      carried_of_r = rw (told_still link.number R done xs (told_acts link.number R s.acts)) l.safe.carried_of_r;
      closed_e = λ c. l.safe.closed_e (closes_still link.e.0 done xs (sends_close_nothing link.r.0 link.e.0 s.acts s.only) c);
      closed_r = λ c. l.safe.closed_r (closes_still link.r.0 done xs (sends_close_nothing link.r.0 link.r.0 s.acts s.only) c);
    })
    none in
    record {
      deeds = xs;
      performs = performs_acts waiting before now s.acts (sends_are waiting link.r.0 s.acts s.only) s.did;
      only = sends_of_visit link.number link.e.0 link.r.0 link.r.0 s.acts (inr refl) s.only;
      number = refl;
      e = refl;
      r = refl;
      leaves = λ done written. acts_flushed done s.acts written;
      holds = λ done written l.
          link_goes script done xs link (record link { from_e = way }) [] [] (given_in_acts link.r.0 s.acts) [] [] [] refl refl refl
          (no_reads_e link.e.0 link.r.0 xs none) (told_acts link.number E s.acts) (given_acts link.r.0 s.acts) (no_reads_r link.e.0 link.r.0 xs none)
          (told_acts link.number R s.acts) (elsewhere l.parted) goes (rests_go script link.from_r)
          (steadily_last (IsSafe script link.number link.e.0 link.r.0) done xs (steady done written l))
          (flags_on done xs link (record link { from_e = way }) refl refl (sends_stay closing how link.r.0 link.from_e way before now s) (stays_none link.from_r) l.flags) l;
      steady = steady;
    }

sends_to_e : (script : Script) (closing : Bool) (how : Flow) (link : Link) (way : Way) (waiting : List ℕ) (before now : Told)
    → Sends closing how link.e.0 link.from_r way before now → SendsOn script link (record link { from_r = way }) waiting before now
sends_to_e script closing how link way waiting before now s =
    let xs : List RelayDeed = deeds_of_acts s.acts in
    let none : NoReads link.e.0 link.r.0 xs = sends_read_nothing link.e.0 link.e.0 link.r.0 s.acts s.only in
    let goes : WayGoes script [] [] (given_in_acts link.e.0 s.acts) link.from_r way =
    moves_go script [] (given_in_acts link.e.0 s.acts) link.from_r way (s.moves script) in
    let way_on : (done : List RelayDeed) → HoldsLink script done link
    → HoldsWay script R (octets_read_at link.r.0 (done ++ xs)) (octets_told_of link.number R (done ++ xs)) (given_in link.e.0 (done ++ xs)) way =
    λ done l.
    way_goes script R link.r.0 link.e.0 link.number done xs [] [] (given_in_acts link.e.0 s.acts) link.from_r way (no_reads_r link.e.0 link.r.0 xs none)
    (told_acts link.number R s.acts) (given_acts link.e.0 s.acts) goes l.from_r in
    let elsewhere : (l : link.e.0 ≢ link.r.0) → given_in link.r.0 xs ≡ [] =
    λ parted. given_acts link.r.0 s.acts ∙ sends_elsewhere link.e.0 link.r.0 s.acts parted s.only in
    let steady : (done : List RelayDeed) → lines_in done ≡ lines_written done → HoldsLink script done link
    → Steadily (IsSafe script link.number link.e.0 link.r.0) done xs =
    λ done written l.
    steady_segment script link.number link.e.0 link.r.0 done xs
    (record {
      first_to_r = rw (given_still link.r.0 done xs (elsewhere l.parted)) l.safe.first_to_r;
      first_to_e = subst (λ (o : List ℕ). Begins (given_in link.e.0 (done ++ xs)) o) (all_told link.number R done s.acts written) (way_on done l).first;
      carried_of_e = rw (told_still link.number E done xs (told_acts link.number E s.acts)) l.safe.carried_of_e;
      carried_of_r = rw (told_still link.number R done xs (told_acts link.number R s.acts)) l.safe.carried_of_r;
      closed_e = λ c. l.safe.closed_e (closes_still link.e.0 done xs (sends_close_nothing link.e.0 link.e.0 s.acts s.only) c);
      closed_r = λ c. l.safe.closed_r (closes_still link.r.0 done xs (sends_close_nothing link.e.0 link.r.0 s.acts s.only) c);
    })
    none in
    record {
      deeds = xs;
      performs = performs_acts waiting before now s.acts (sends_are waiting link.e.0 s.acts s.only) s.did;
      only = sends_of_visit link.number link.e.0 link.r.0 link.e.0 s.acts (inl refl) s.only;
      number = refl;
      e = refl;
      r = refl;
      leaves = λ done written. acts_flushed done s.acts written;
      holds = λ done written l.
          link_goes script done xs link (record link { from_r = way }) [] [] [] [] [] (given_in_acts link.e.0 s.acts) refl refl refl
          (no_reads_e link.e.0 link.r.0 xs none) (told_acts link.number E s.acts) (elsewhere l.parted) (no_reads_r link.e.0 link.r.0 xs none)
          (told_acts link.number R s.acts) (given_acts link.e.0 s.acts) (rests_go script link.from_e) goes
          (steadily_last (IsSafe script link.number link.e.0 link.r.0) done xs (steady done written l))
          (flags_on done xs link (record link { from_r = way }) refl refl (stays_none link.from_e) (sends_stay closing how link.e.0 link.from_r way before now s) l.flags) l;
      steady = steady;
    }

-- behind a write of all lines, to r and then to e
sends_both : (script : Script) (link : Link) (one other : Way) (waiting : List ℕ) (s t u : Told) → SendsOn script link (record link { from_e = one }) waiting s t
    → SendsOn script (record link { from_e = one }) (record link { from_e = one; from_r = other }) waiting t u
    → SendsOn script link (record link { from_e = one; from_r = other }) waiting s u
sends_both script link one other waiting s t u p q = record {
  deeds = p.deeds ++ q.deeds;
  performs = performs_then waiting waiting waiting s t u p.deeds q.deeds p.performs q.performs;
  only = of_visit_append link.number link.e.0 link.r.0 p.deeds q.deeds p.only q.only;
  number = refl;
  e = refl;
  r = refl;
  leaves = λ done written.
      subst (λ (d : List RelayDeed). lines_in d ≡ lines_written d) (append_assoc done p.deeds q.deeds) (q.leaves (done ++ p.deeds) (p.leaves done written));
  holds = λ done written l.
      subst (λ (d : List RelayDeed). HoldsLink script d (record link { from_e = one; from_r = other })) (append_assoc done p.deeds q.deeds)
      (q.holds (done ++ p.deeds) (p.leaves done written) (p.holds done written l));
  steady = λ done written l.
      steadily_then (IsSafe script link.number link.e.0 link.r.0) done p.deeds q.deeds (p.steady done written l)
      (q.steady (done ++ p.deeds) (p.leaves done written) (p.holds done written l));
}

-- ---- lines are written

pub flush_visit : (script : Script) (link : Link) (waiting left : List ℕ) (before now : Told) → Did before now (printing waiting) → left ≡ []
    → Visits script link link waiting left before now
flush_visit script link waiting left before now did none =
    plain_visit script link link waiting left before now (Flushes ∷ []) (performs_flush waiting left before now did none) (tt, tt)
    (record { given_e = refl; given_r = refl; unread = ((refl, refl), tt); told_e = refl; told_r = refl }) refl refl refl refl refl
    (moves_none script link.from_e) (moves_none script link.from_r) (stays_none link.from_e) (stays_none link.from_r)

flush_plain : (number e r : ℕ) → IsPlain number e r (Flushes ∷ [])
flush_plain number e r = record { given_e = refl; given_r = refl; unread = ((refl, refl), tt); told_e = refl; told_r = refl }

flush_sends : (script : Script) (old new : Link) (waiting : List ℕ) (s t u : Told) → Did s t (printing waiting) → SendsOn script old new [] t u
    → Visits script old new waiting [] s u
flush_sends script old new waiting s t u did q =
    let plain = flush_plain old.number old.e.0 old.r.0 in
    let holds : (done : List RelayDeed) → HoldsLink script done old → HoldsLink script (done ++ Flushes ∷ []) old =
    plain_holds script old old (Flushes ∷ []) plain refl refl refl refl refl (moves_none script old.from_e) (moves_none script old.from_r)
    (stays_none old.from_e) (stays_none old.from_r) in
    record {
      deeds = Flushes ∷ q.deeds;
      performs = performs_then waiting [] [] s t u (Flushes ∷ []) q.deeds (performs_flush waiting [] s t did refl) q.performs;
      only = (tt, q.only);
      number = q.number;
      e = q.e;
      r = q.r;
      holds = λ done l.
          subst (λ (d : List RelayDeed). HoldsLink script d new) (append_assoc done (Flushes ∷ []) q.deeds)
          (q.holds (done ++ Flushes ∷ []) (flushed done) (holds done l));
      steady = λ done l.
          steadily_then (IsSafe script old.number old.e.0 old.r.0) done (Flushes ∷ []) q.deeds (plain_steady script old (Flushes ∷ []) plain refl refl done l)
          (q.steady (done ++ Flushes ∷ []) (flushed done) (holds done l));
    }

-- what was told so far is written, and what is due is told before
pub record FirstGiven (script : Script) (how_r how_e : Flow) (old new : Link) (waiting left : List ℕ) (before now : Told) : Type 0 where
  pub visits : Visits script old new waiting left before now
  pub stays_e : StaysOpen old.from_e new.from_e
  pub stays_r : StaysOpen old.from_r new.from_r
  pub told_r : old.e.0 ≢ old.r.0 → (t : SocketTold) → Flows new.from_r.closing how_r new.from_e t (socket_behind old.r.0 t visits.deeds)
  pub told_e : old.e.0 ≢ old.r.0 → (t : SocketTold) → Flows new.from_e.closing how_e new.from_r t (socket_behind old.e.0 t visits.deeds)
  pub due_e : new.from_r.closing ≡ false → new.from_e.lost ≡ false → IsUndue new.from_e.latest new.from_e.waits.items
  pub due_r : new.from_e.closing ≡ false → new.from_r.lost ≡ false → IsUndue new.from_r.latest new.from_r.waits.items
  -- nothing is written where a write failed before
  pub alive_e : how_r ≡ flow.Failing → new.from_e.lost ≡ false
  pub alive_r : how_e ≡ flow.Failing → new.from_r.lost ≡ false

pub fails_told : (closing : Bool) (how : Flow) (way : Way) (a b : SocketTold) → how ≡ flow.Failing → Flows closing how way a b
    → (b.failed ≡ true) × ((b.ended ≡ true) × (way.lost ≡ false))
fails_told closing how way a b is f = subst (λ (h : Flow). Flows closing h way a b) is f

flows_by : (a b : Bool) (how : Flow) (way : Way) (s t u : SocketTold) → b ≡ a → u ≡ t → Flows a how way s t → Flows b how way s u
flows_by a b how way s t u is same h =
    subst (λ (c : Bool). Flows c how way s u) (sym is) (subst (λ (v : SocketTold). Flows a how way s v) (sym same) h)

not_closing : (old new : Way) → StaysOpen old new → new.closing ≡ false → old.closing ≡ false
not_closing old new stays none = not_before old.closing new.closing stays.closing none

-- the two ways as they are printed, and as they are written
first_given : (script : Script) (at : Stamp) (how_r how_e : Flow) (old : Link) (pe pr se sr : Way) (x y z : List ℕ) (s t u v : Told) → at.number ≡ old.number
    → PrintsGiven at old.from_e pe x y → PrintsGiven at old.from_r pr y z
    → (old.from_r.closing ≡ false → pe.lost ≡ false → IsUndue pe.latest pe.waits.items) → (pe.closing ≡ false → pr.lost ≡ false → IsUndue pr.latest pr.waits.items)
    → Did s t (printing z) → Sends pr.closing how_r old.r.0 pe se t u → Sends pe.closing how_e old.e.0 pr sr u v
    → FirstGiven script how_r how_e old (record old { from_e = se; from_r = sr }) x [] s v
unfolding prints_e prints_r sends_to_r sends_to_e sends_both flush_sends visits_then
first_given script at how_r how_e old pe pr se sr x y z s t u v own print_e print_r due_e due_r did send_r send_e =
    let one : Link = record old { from_e = pe } in
    let told : Link = record old { from_e = pe; from_r = pr } in
    let half : Link = record told { from_e = se } in
    let new : Link = record old { from_e = se; from_r = sr } in
    let prints = visits_then script old one told x y z s s s (prints_e script at old pe x y s own print_e) (prints_r script at one pr y z s own print_r) in
    let sends = sends_both script told se sr [] t u v (sends_to_r script pr.closing how_r told se [] t u send_r) (sends_to_e script pe.closing how_e half sr [] u v send_e) in
    let lines_e : List RelayDeed = deeds_of_lines (lines_of_parts at old.from_e.side print_e.parts) in
    let lines_r : List RelayDeed = deeds_of_lines (lines_of_parts at old.from_r.side print_r.parts) in
    let to_r : List RelayDeed = deeds_of_acts send_r.acts in
    let to_e : List RelayDeed = deeds_of_acts send_e.acts in
    let stays_r : StaysOpen pr sr = sends_stay pe.closing how_e old.e.0 pr sr u v send_e in
    let stays_e : StaysOpen pe se = sends_stay pr.closing how_r old.r.0 pe se t u send_r in
    let closing_r : sr.closing ≡ pr.closing = ap (λ (w : Way). w.closing) send_e.is in
    let closing_e : se.closing ≡ pe.closing = ap (λ (w : Way). w.closing) send_r.is in
    let quiet : (conn : ℕ) (w : SocketTold) → socket_behind conn w (lines_e ++ lines_r ++ (Flushes ∷ (to_r ++ to_e))) ≡ socket_behind conn w (to_r ++ to_e) =
    λ conn w.
    tells_then conn w (lines_e ++ lines_r) (Flushes ∷ (to_r ++ to_e))
    ∙ ap (λ (o : SocketTold). socket_behind conn o (to_r ++ to_e)) (silent_append conn lines_e lines_r (lines_silent conn (lines_of_parts at old.from_e.side print_e.parts))
    (lines_silent conn (lines_of_parts at old.from_r.side print_r.parts)) w) in
    record {
      visits = visits_then script old told new x z [] s s v prints (flush_sends script told new z s t v did sends);
      stays_e = stays_then old.from_e pe se print_e.stays stays_e;
      stays_r = stays_then old.from_r pr sr print_r.stays stays_r;
      told_r = λ parted w.
          flows_by pr.closing sr.closing how_r se w (fold (told_by_act old.r.0) w send_r.acts) _ closing_r
          (quiet old.r.0 w ∙ (tells_then old.r.0 w to_r to_e
          ∙ (sends_silent old.e.0 old.r.0 send_e.acts parted send_e.only (socket_behind old.r.0 w to_r) ∙ acts_tell old.r.0 send_r.acts w))) (send_r.flows w);
      told_e = λ parted w.
          flows_by pe.closing se.closing how_e sr w (fold (told_by_act old.e.0) w send_e.acts) _ closing_e
          (quiet old.e.0 w ∙ (tells_then old.e.0 w to_r to_e
          ∙ (ap (λ (o : SocketTold). socket_behind old.e.0 o to_e) (sends_silent old.r.0 old.e.0 send_r.acts (λ same. parted (sym same)) send_r.only w)
          ∙ acts_tell old.e.0 send_e.acts w))) (send_e.flows w);
      alive_e = λ is. (fails_told pr.closing how_r se told_nothing _ is (send_r.flows told_nothing)).1.1;
      alive_r = λ is. (fails_told pe.closing how_e sr told_nothing _ is (send_e.flows told_nothing)).1.1;
      due_e = λ none alive.
          subst (λ (w : Way). IsUndue w.latest w.waits.items) (sym send_r.is)
          (due_e (not_closing old.from_r pr print_r.stays (sym closing_r ∙ none)) (sym stays_e.lost ∙ alive));
      due_r = λ none alive.
          subst (λ (w : Way). IsUndue w.latest w.waits.items) (sym send_e.is) (due_r (sym closing_e ∙ none) (sym stays_r.lost ∙ alive));
    }

-- where all lines were written
pub record GivesFirst (script : Script) (failed : Option Side) (old new : Link) (waiting left : List ℕ) (before now : Told) : Type 0 where
  pub how_r : Flow
  pub how_e : Flow
  pub side : failed ≡ failed_of how_r how_e
  pub first : FirstGiven script how_r how_e old new waiting left before now

gives_plain : (script : Script) (at : Stamp) (failed : Option Side) (old told : Link) (x z : List ℕ) (s t v : Told) (se sr : Way) → at.number ≡ old.number
    → (p : PrintsBoth at old told x z) → Did s t (printing z) → (w : WritesBoth failed (record old { from_e = told.from_e; from_r = told.from_r })
    (record old { from_e = se; from_r = sr }) t v) → GivesFirst script failed old (record old { from_e = se; from_r = sr }) x [] s v
gives_plain script at failed old told x z s t v se sr own p did w = record {
  how_r = w.how_r;
  how_e = w.how_e;
  side = w.side;
  first = first_given script at w.how_r w.how_e old told.from_e told.from_r se sr x p.between z s t w.between v own p.from_e p.from_r p.due_e p.due_r did w.to_r w.to_e;
}

-- what is told goes before what is written
pub first_visits : (script : Script) (at : Stamp) (failed : Option Side) (waiting left : List ℕ) (old new : Link) (before now : Told) → at.number ≡ old.number
    → TellsFirst at failed waiting left old new before now → GivesFirst script failed old new waiting left before now
first_visits script at failed waiting left old new before now own f =
    let plain : Link = record old { from_e = f.told.from_e; from_r = f.told.from_r } in
    let is : new ≡ record old { from_e = new.from_e; from_r = new.from_r } =
    f.writes.is ∙ ap (λ (l : Link). record l { from_e = new.from_e; from_r = new.from_r }) f.prints.is in
    let writes : WritesBoth failed plain (record old { from_e = new.from_e; from_r = new.from_r }) f.between now =
    subst (λ (l : Link). WritesBoth failed plain l f.between now) is (subst (λ (l : Link). WritesBoth failed l new f.between now) f.prints.is f.writes) in
    subst (λ (o : List ℕ). GivesFirst script failed old new waiting o before now) (sym f.left_is)
    (subst (λ (l : Link). GivesFirst script failed old l waiting [] before now) (sym is)
    (gives_plain script at failed old f.told waiting f.lines before f.between now new.from_e new.from_r own f.prints f.tells writes))

-- ---- a close

pub or_second : (a b : Bool) → b ≡ true → (a || b) ≡ true
or_second true b h = refl
or_second false b h = h

-- the line is among those that are written
pub closing_written : (moment number : ℕ) (done : List RelayDeed) → closes_in_lines number (lines_written (done ++ (Puts (Closing moment number) ∷ Flushes ∷ []))) ≡ true
unfolding written_from
closing_written moment number done =
    let waits : List RelayLine = waiting_from [] done in
    let line : List RelayLine = Closing moment number ∷ [] in
    let same : (number == number) ≡ true = eq-eqb number number refl in
    let here : closes_in_lines number line ≡ true = rw same refl in
    ap (λ (o : List RelayLine). closes_in_lines number o) (written_append [] done (Puts (Closing moment number) ∷ Flushes ∷ []))
    ∙ ap (λ (o : List RelayLine). closes_in_lines number (lines_written done ++ o)) (append-nil (waits ++ line))
    ∙ list_any-append (closes_in_line number) (lines_written done) (waits ++ line)
    ∙ or_second (closes_in_lines number (lines_written done)) (closes_in_lines number (waits ++ line))
    (list_any-append (closes_in_line number) waits line ∙ or_second (closes_in_lines number waits) (closes_in_lines number line) here)

pub closing_text : (waiting : List ℕ) (moment number : ℕ) → waiting ++ closed_line moment number ≡ waiting ++ text_of_lines (Closing moment number ∷ [])
unfolding text_of_line
closing_text waiting moment number = ap (λ (o : List ℕ). waiting ++ o) (sym (append-nil (closed_line moment number)))

-- the line waits
pub closing_waits : (script : Script) (at : Stamp) (link : Link) (waiting left : List ℕ) (t : Told) → at.number ≡ link.number
    → left ≡ waiting ++ closed_line at.moment at.number → Visits script link link waiting left t t
closing_waits script at link waiting left t own is =
    plain_visit script link link waiting left t t (Puts (Closing at.moment at.number) ∷ [])
    (performs_lines waiting left (Closing at.moment at.number ∷ []) t (is ∙ closing_text waiting at.moment at.number)) (own, tt)
    (record { given_e = refl; given_r = refl; unread = ((refl, refl), tt); told_e = refl; told_r = refl }) refl refl refl refl refl
    (moves_none script link.from_e) (moves_none script link.from_r) (stays_none link.from_e) (stays_none link.from_r)

closes_visit : (script : Script) (at : Stamp) (link : Link) (waiting lines left : List ℕ) (s t u v : Told) → at.number ≡ link.number
    → lines ≡ waiting ++ closed_line at.moment at.number → Did s t (printing lines) → left ≡ [] → Did t u (Called (Closed link.e.0) ∷ [])
    → Did u v (Called (Closed link.r.0) ∷ []) → Visits script link link waiting left s v
closes_visit script at link waiting lines left s t u v own is wrote none first second =
    let line : RelayDeed = Puts (Closing at.moment at.number) in
    let told : List RelayDeed = line ∷ Flushes ∷ [] in
    let closes : List RelayDeed = Calls (Closed link.e.0) ∷ Calls (Closed link.r.0) ∷ [] in
    let before : IsPlain link.number link.e.0 link.r.0 told =
    record { given_e = refl; given_r = refl; unread = ((refl, refl), ((refl, refl), tt)); told_e = refl; told_r = refl } in
    let written : (done : List RelayDeed) → closes_in_lines link.number (lines_written (done ++ told)) ≡ true =
    λ done. subst (λ (n : ℕ). closes_in_lines n (lines_written (done ++ told)) ≡ true) own (closing_written at.moment at.number done) in
    let plain : IsPlain link.number link.e.0 link.r.0 closes =
    record { given_e = refl; given_r = refl; unread = ((refl, refl), ((refl, refl), tt)); told_e = refl; told_r = refl } in
    let steady : (done : List RelayDeed) → HoldsLink script done link → Steadily (IsSafe script link.number link.e.0 link.r.0) done (told ++ closes) =
    λ done l.
    steadily_then (IsSafe script link.number link.e.0 link.r.0) done told closes (plain_steady script link told before refl refl done l)
    (steady_segment script link.number link.e.0 link.r.0 (done ++ told) closes
    (plain_behind script link.number link.e.0 link.r.0 (done ++ told) closes plain (λ _. written done) (λ _. written done)
    (plain_holds script link link told before refl refl refl refl refl (moves_none script link.from_e) (moves_none script link.from_r)
    (stays_none link.from_e) (stays_none link.from_r) done l).safe)
    plain.unread) in
    record {
      deeds = told ++ closes;
      performs = performs_then waiting left left s t v told closes
          (performs_then waiting lines left s s t (line ∷ []) (Flushes ∷ [])
          (performs_lines waiting lines (Closing at.moment at.number ∷ []) s (is ∙ closing_text waiting at.moment at.number)) (performs_flush lines left s t wrote none))
          (performs_then left left left t u v (Calls (Closed link.e.0) ∷ []) (Calls (Closed link.r.0) ∷ [])
          (performs_call left t u (Closed link.e.0) first) (performs_call left u v (Closed link.r.0) second));
      only = (own, (tt, (inl refl, (inr refl, tt))));
      number = refl;
      e = refl;
      r = refl;
      holds = λ done l.
          link_goes script done (told ++ closes) link link [] [] [] [] [] [] refl refl refl refl refl refl refl refl refl (rests_go script link.from_e)
          (rests_go script link.from_r) (steadily_last (IsSafe script link.number link.e.0 link.r.0) done (told ++ closes) (steady done l))
          (flags_on done (told ++ closes) link link refl refl (stays_none link.from_e) (stays_none link.from_r) l.flags) l;
      steady = steady;
    }

pub closes_on : (script : Script) (at : Stamp) (link : Link) (waiting lines left : List ℕ) (s t u v : Told) → at.number ≡ link.number
    → lines ≡ waiting ++ closed_line at.moment at.number → Did s t (printing lines) → left ≡ [] → Did t u (Called (Closed link.e.0) ∷ [])
    → Did u v (Called (Closed link.r.0) ∷ []) → VisitsOn script link link waiting left s v
unfolding closes_visit
closes_on script at link waiting lines left s t u v own is wrote none first second = record {
  visits = closes_visit script at link waiting lines left s t u v own is wrote none first second;
  knows = λ done l k.
      knows_silent done (Puts (Closing at.moment at.number) ∷ Flushes ∷ Calls (Closed link.e.0) ∷ Calls (Closed link.r.0) ∷ []) link link refl refl (λ t. refl) (λ t. refl)
      (stays_none link.from_e) (stays_none link.from_r) k;
}
