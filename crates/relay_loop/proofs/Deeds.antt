-- Lists of deeds: the acts and the lines that they are.
use Rattle.std.proofs.Common.{◌≡◌, ℕ, Bool, ◌||◌, true, false, List, [], ◌∷◌, ◌++◌, refl, sym, ap, ◌∙◌, subst, append_assoc, append-nil}
use Rattle.std.proofs.lemmas.List.Concat.{flat_map-append}
use Rattle.std.proofs.lemmas.List.Folds.{list_any-append}
use Rattle.er_base.specs.declared.side.Side.{Side}
use Rattle.er_base.specs.Printing.{Begins}
use Rattle.outside.specs.Acts.{SeenCall, Act, Fetched, Wrote, Called, Asked, Drew}
use Rattle.outside.specs.Doings.{Told, Did}
use Rattle.outside.specs.Chains.{did_nothing, did_then}
use Rattle.outside.specs.Scripts.{printing}
use Rattle.relay_loop.specs.declared.fault.RelayFault.{RelayFault}
use Rattle.relay_loop.specs.RelayLines.{RelayLine, text_of_line, text_of_lines, told_by_line, told_in_lines, opens_in_line, opens_in_lines, closes_in_line, closes_in_lines, ends_in_line, ends_in_lines}
use Rattle.relay_loop.specs.Octets.{given_by_call, given_in_acts, read_by_call, read_in_acts}
use Rattle.relay_loop.specs.RelayDeeds.{RelayDeed, Puts, Flushes, Calls, Asks, acts_from, text_left, Performs, BreaksBehind, IsLastDone, deeds_of_acts, deeds_of_lines, line_of_deed, lines_in, written_from, waiting_from, lines_written, given_by_deed, read_by_deed, closes_by_deed, loop_call_by_deed, loop_calls_in, given_in, octets_read_at, closes_in, octets_told_of, octets_written_of, Steadily}

-- ---- beginnings

pub begins_all : (xs : List ℕ) → Begins xs xs
begins_all xs = record { rest = []; is = sym (append-nil xs) }

pub begins_none : (xs : List ℕ) → Begins [] xs
begins_none xs = record { rest = xs; is = refl }

pub begins_then : (a b c : List ℕ) → Begins a b → Begins b c → Begins a c
begins_then a b c p q = record { rest = p.rest ++ q.rest; is = q.is ∙ ap (λ (o : List ℕ). o ++ q.rest) p.is ∙ append_assoc a p.rest q.rest }

pub begins_front : (a b : List ℕ) → Begins a (a ++ b)
begins_front a b = record { rest = b; is = refl }

-- ---- acts and texts

pub acts_append : (waiting : List ℕ) (xs ys : List RelayDeed) → acts_from waiting (xs ++ ys) ≡ acts_from waiting xs ++ acts_from (text_left waiting xs) ys
unfolding acts_from text_left
acts_append waiting [] ys = refl
acts_append waiting (Puts line ∷ xs) ys = acts_append (waiting ++ text_of_line line) xs ys
acts_append waiting (Flushes ∷ xs) ys =
    ap (λ (o : List Act). printing waiting ++ o) (acts_append [] xs ys) ∙ sym (append_assoc (printing waiting) (acts_from [] xs) (acts_from (text_left [] xs) ys))
acts_append waiting (Calls call ∷ xs) ys = ap (λ (o : List Act). Called call ∷ o) (acts_append waiting xs ys)
acts_append waiting (Asks moment ∷ xs) ys = ap (λ (o : List Act). Asked moment ∷ o) (acts_append waiting xs ys)

pub left_append : (waiting : List ℕ) (xs ys : List RelayDeed) → text_left waiting (xs ++ ys) ≡ text_left (text_left waiting xs) ys
unfolding text_left
left_append waiting [] ys = refl
left_append waiting (Puts line ∷ xs) ys = left_append (waiting ++ text_of_line line) xs ys
left_append waiting (Flushes ∷ xs) ys = left_append [] xs ys
left_append waiting (Calls call ∷ xs) ys = left_append waiting xs ys
left_append waiting (Asks moment ∷ xs) ys = left_append waiting xs ys

pub performs_none : (waiting : List ℕ) (t : Told) → Performs waiting waiting t t []
unfolding acts_from text_left
performs_none waiting t = record { did = did_nothing t; left_is = refl }

pub performs_then : (a b c : List ℕ) (s t u : Told) (xs ys : List RelayDeed) → Performs a b s t xs → Performs b c t u ys → Performs a c s u (xs ++ ys)
performs_then a b c s t u xs ys p q =
    let second : Did t u (acts_from (text_left a xs) ys) = subst (λ (w : List ℕ). Did t u (acts_from w ys)) p.left_is q.did in
    record {
      did = subst (λ (o : List Act). Did s u o) (sym (acts_append a xs ys)) (did_then s t u (acts_from a xs) (acts_from (text_left a xs) ys) p.did second);
      left_is = q.left_is ∙ ap (λ (w : List ℕ). text_left w ys) p.left_is ∙ sym (left_append a xs ys);
    }

-- a call, or a question to the clock
pub performs_call : (waiting : List ℕ) (before now : Told) (call : SeenCall) → Did before now (Called call ∷ []) → Performs waiting waiting before now (Calls call ∷ [])
unfolding acts_from text_left
performs_call waiting before now call did = record { did = did; left_is = refl }

pub performs_ask : (waiting : List ℕ) (before now : Told) (moment : ℕ) → Did before now (Asked moment ∷ []) → Performs waiting waiting before now (Asks moment ∷ [])
unfolding acts_from text_left
performs_ask waiting before now moment did = record { did = did; left_is = refl }

-- the lines that wait are written
pub performs_flush : (waiting left : List ℕ) (before now : Told) → Did before now (printing waiting) → left ≡ [] → Performs waiting left before now (Flushes ∷ [])
unfolding acts_from text_left
performs_flush waiting left before now did none =
    record { did = subst (λ (o : List Act). Did before now o) (sym (append-nil (printing waiting))) did; left_is = none }

lines_acts : (waiting : List ℕ) (lines : List RelayLine) → acts_from waiting (deeds_of_lines lines) ≡ []
unfolding acts_from
lines_acts waiting [] = refl
lines_acts waiting (line ∷ lines) = lines_acts (waiting ++ text_of_line line) lines

lines_left : (waiting : List ℕ) (lines : List RelayLine) → text_left waiting (deeds_of_lines lines) ≡ waiting ++ text_of_lines lines
unfolding text_left
lines_left waiting [] = sym (append-nil waiting)
lines_left waiting (line ∷ lines) = lines_left (waiting ++ text_of_line line) lines ∙ append_assoc waiting (text_of_line line) (text_of_lines lines)

-- lines are put
pub performs_lines : (waiting left : List ℕ) (lines : List RelayLine) (t : Told) → left ≡ waiting ++ text_of_lines lines → Performs waiting left t t (deeds_of_lines lines)
performs_lines waiting left lines t is = record {
  did = subst (λ (o : List Act). Did t t o) (sym (lines_acts waiting lines)) (did_nothing t);
  left_is = is ∙ sym (lines_left waiting lines);
}

-- ---- breaking off

pub breaks_then : (fault : RelayFault) (a b : List ℕ) (s t u : Told) (xs ys : List RelayDeed) → Performs a b s t xs → BreaksBehind fault b t u ys
    → BreaksBehind fault a s u (xs ++ ys)
breaks_then fault a b s t u xs ys p q =
    let second : Did t u (acts_from (text_left a xs) ys ++ q.last) = subst (λ (w : List ℕ). Did t u (acts_from w ys ++ q.last)) p.left_is q.did in
    record {
      last = q.last;
      is_last = q.is_last;
      did = subst (λ (o : List Act). Did s u o)
          (sym (append_assoc (acts_from a xs) (acts_from (text_left a xs) ys) q.last) ∙ ap (λ (o : List Act). o ++ q.last) (sym (acts_append a xs ys)))
          (did_then s t u (acts_from a xs) (acts_from (text_left a xs) ys ++ q.last) p.did second);
    }

-- nothing more was done
pub breaks_here : (fault : RelayFault) (waiting left : List ℕ) (before now : Told) (deeds : List RelayDeed) → IsLastDone fault [] → Performs waiting left before now deeds
    → BreaksBehind fault waiting before now deeds
breaks_here fault waiting left before now deeds none p = record {
  last = [];
  is_last = none;
  did = subst (λ (o : List Act). Did before now o) (sym (append-nil (acts_from waiting deeds))) p.did;
}

-- the write of lines failed
pub breaks_sink : (fault : RelayFault) (waiting text : List ℕ) (before now : Told) → IsLastDone fault (Wrote text false ∷ []) → Did before now (Wrote text false ∷ [])
    → BreaksBehind fault waiting before now []
unfolding acts_from
breaks_sink fault waiting text before now is did = record { last = Wrote text false ∷ []; is_last = is; did = did }

-- ---- lines

pub lines_append : (xs ys : List RelayDeed) → lines_in (xs ++ ys) ≡ lines_in xs ++ lines_in ys
lines_append xs ys = flat_map-append line_of_deed xs ys

pub written_append : (waiting : List RelayLine) (xs ys : List RelayDeed) → written_from waiting (xs ++ ys) ≡ written_from waiting xs ++ written_from (waiting_from waiting xs) ys
unfolding written_from waiting_from
written_append waiting [] ys = refl
written_append waiting (Puts line ∷ xs) ys = written_append (waiting ++ line ∷ []) xs ys
written_append waiting (Flushes ∷ xs) ys =
    ap (λ (o : List RelayLine). waiting ++ o) (written_append [] xs ys) ∙ sym (append_assoc waiting (written_from [] xs) (written_from (waiting_from [] xs) ys))
written_append waiting (Calls call ∷ xs) ys = written_append waiting xs ys
written_append waiting (Asks moment ∷ xs) ys = written_append waiting xs ys

pub waiting_append : (waiting : List RelayLine) (xs ys : List RelayDeed) → waiting_from waiting (xs ++ ys) ≡ waiting_from (waiting_from waiting xs) ys
unfolding waiting_from
waiting_append waiting [] ys = refl
waiting_append waiting (Puts line ∷ xs) ys = waiting_append (waiting ++ line ∷ []) xs ys
waiting_append waiting (Flushes ∷ xs) ys = waiting_append [] xs ys
waiting_append waiting (Calls call ∷ xs) ys = waiting_append waiting xs ys
waiting_append waiting (Asks moment ∷ xs) ys = waiting_append waiting xs ys

-- each line that was put was written, or waits
pub lines_are : (waiting : List RelayLine) (deeds : List RelayDeed) → waiting ++ lines_in deeds ≡ written_from waiting deeds ++ waiting_from waiting deeds
unfolding written_from waiting_from
lines_are waiting [] = append-nil waiting
lines_are waiting (Puts line ∷ deeds) = sym (append_assoc waiting (line ∷ []) (lines_in deeds)) ∙ lines_are (waiting ++ line ∷ []) deeds
lines_are waiting (Flushes ∷ deeds) =
    ap (λ (o : List RelayLine). waiting ++ o) (lines_are [] deeds) ∙ sym (append_assoc waiting (written_from [] deeds) (waiting_from [] deeds))
lines_are waiting (Calls call ∷ deeds) = lines_are waiting deeds
lines_are waiting (Asks moment ∷ deeds) = lines_are waiting deeds

flush_waits : (waiting : List RelayLine) → waiting_from waiting (Flushes ∷ []) ≡ []
unfolding waiting_from
flush_waits waiting = refl

-- behind a write of the lines that wait all are written
pub flushed : (deeds : List RelayDeed) → lines_in (deeds ++ Flushes ∷ []) ≡ lines_written (deeds ++ Flushes ∷ [])
flushed deeds =
    lines_are [] (deeds ++ Flushes ∷ [])
    ∙ ap (λ (o : List RelayLine). lines_written (deeds ++ Flushes ∷ []) ++ o) (waiting_append [] deeds (Flushes ∷ []) ∙ flush_waits (waiting_from [] deeds))
    ∙ append-nil (lines_written (deeds ++ Flushes ∷ []))

pub told_append : (number : ℕ) (side : Side) (xs ys : List RelayDeed) → octets_told_of number side (xs ++ ys) ≡ octets_told_of number side xs ++ octets_told_of number side ys
told_append number side xs ys =
    ap (λ (o : List RelayLine). told_in_lines number side o) (lines_append xs ys) ∙ flat_map-append (told_by_line number side) (lines_in xs) (lines_in ys)

-- what was written before stays written
pub written_more : (number : ℕ) (side : Side) (xs ys : List RelayDeed) → Begins (octets_written_of number side xs) (octets_written_of number side (xs ++ ys))
written_more number side xs ys = record {
  rest = told_in_lines number side (written_from (waiting_from [] xs) ys);
  is = ap (λ (o : List RelayLine). told_in_lines number side o) (written_append [] xs ys)
      ∙ flat_map-append (told_by_line number side) (lines_written xs) (written_from (waiting_from [] xs) ys);
}

-- what was written was told
pub written_told : (number : ℕ) (side : Side) (deeds : List RelayDeed) → Begins (octets_written_of number side deeds) (octets_told_of number side deeds)
written_told number side deeds = record {
  rest = told_in_lines number side (waiting_from [] deeds);
  is = ap (λ (o : List RelayLine). told_in_lines number side o) (lines_are [] deeds)
      ∙ flat_map-append (told_by_line number side) (lines_written deeds) (waiting_from [] deeds);
}

or_first : (a b : Bool) → a ≡ true → (a || b) ≡ true
or_first a b h = rw h refl

pub closing_more : (number : ℕ) (xs ys : List RelayDeed) → closes_in_lines number (lines_written xs) ≡ true → closes_in_lines number (lines_written (xs ++ ys)) ≡ true
closing_more number xs ys h =
    ap (λ (o : List RelayLine). closes_in_lines number o) (written_append [] xs ys)
    ∙ list_any-append (closes_in_line number) (lines_written xs) (written_from (waiting_from [] xs) ys)
    ∙ or_first (closes_in_lines number (lines_written xs)) (closes_in_lines number (written_from (waiting_from [] xs) ys)) h

pub opening_more : (number : ℕ) (xs ys : List RelayDeed) → opens_in_lines number (lines_written xs) ≡ true → opens_in_lines number (lines_written (xs ++ ys)) ≡ true
opening_more number xs ys h =
    ap (λ (o : List RelayLine). opens_in_lines number o) (written_append [] xs ys)
    ∙ list_any-append (opens_in_line number) (lines_written xs) (written_from (waiting_from [] xs) ys)
    ∙ or_first (opens_in_lines number (lines_written xs)) (opens_in_lines number (written_from (waiting_from [] xs) ys)) h

pub ending_more : (number : ℕ) (side : Side) (xs ys : List RelayDeed) → ends_in_lines number side (lines_written xs) ≡ true
    → ends_in_lines number side (lines_written (xs ++ ys)) ≡ true
ending_more number side xs ys h =
    ap (λ (o : List RelayLine). ends_in_lines number side o) (written_append [] xs ys)
    ∙ list_any-append (ends_in_line number side) (lines_written xs) (written_from (waiting_from [] xs) ys)
    ∙ or_first (ends_in_lines number side (lines_written xs)) (ends_in_lines number side (written_from (waiting_from [] xs) ys)) h

-- ---- what was read and given

pub given_append : (conn : ℕ) (xs ys : List RelayDeed) → given_in conn (xs ++ ys) ≡ given_in conn xs ++ given_in conn ys
given_append conn xs ys = flat_map-append (given_by_deed conn) xs ys

pub read_append : (conn : ℕ) (xs ys : List RelayDeed) → octets_read_at conn (xs ++ ys) ≡ octets_read_at conn xs ++ octets_read_at conn ys
read_append conn xs ys = flat_map-append (read_by_deed conn) xs ys

-- of listens and turns
pub loop_calls_append : (xs ys : List RelayDeed) (a b : List SeenCall) → loop_calls_in xs ≡ a → loop_calls_in ys ≡ b → loop_calls_in (xs ++ ys) ≡ a ++ b
loop_calls_append xs ys a b p q = flat_map-append loop_call_by_deed xs ys ∙ rw (p, q) refl

pub closes_append : (conn : ℕ) (xs ys : List RelayDeed) → closes_in conn (xs ++ ys) ≡ (closes_in conn xs || closes_in conn ys)
closes_append conn xs ys = list_any-append (closes_by_deed conn) xs ys

pub given_acts : (conn : ℕ) (acts : List Act) → given_in conn (deeds_of_acts acts) ≡ given_in_acts conn acts
given_acts conn [] = refl
given_acts conn (Fetched name answer ∷ acts) = given_acts conn acts
given_acts conn (Wrote piece done ∷ acts) = given_acts conn acts
given_acts conn (Called call ∷ acts) = ap (λ (o : List ℕ). given_by_call conn call ++ o) (given_acts conn acts)
given_acts conn (Asked moment ∷ acts) = given_acts conn acts
given_acts conn (Drew word ∷ acts) = given_acts conn acts

pub read_acts : (conn : ℕ) (acts : List Act) → octets_read_at conn (deeds_of_acts acts) ≡ read_in_acts conn acts
read_acts conn [] = refl
read_acts conn (Fetched name answer ∷ acts) = read_acts conn acts
read_acts conn (Wrote piece done ∷ acts) = read_acts conn acts
read_acts conn (Called call ∷ acts) = ap (λ (o : List ℕ). read_by_call conn call ++ o) (read_acts conn acts)
read_acts conn (Asked moment ∷ acts) = read_acts conn acts
read_acts conn (Drew word ∷ acts) = read_acts conn acts

pub told_acts : (number : ℕ) (side : Side) (acts : List Act) → octets_told_of number side (deeds_of_acts acts) ≡ []
told_acts number side [] = refl
told_acts number side (Fetched name answer ∷ acts) = told_acts number side acts
told_acts number side (Wrote piece done ∷ acts) = told_acts number side acts
told_acts number side (Called call ∷ acts) = told_acts number side acts
told_acts number side (Asked moment ∷ acts) = told_acts number side acts
told_acts number side (Drew word ∷ acts) = told_acts number side acts

acts_put_nothing : (acts : List Act) → lines_in (deeds_of_acts acts) ≡ []
acts_put_nothing [] = refl
acts_put_nothing (Fetched name answer ∷ acts) = acts_put_nothing acts
acts_put_nothing (Wrote piece done ∷ acts) = acts_put_nothing acts
acts_put_nothing (Called call ∷ acts) = acts_put_nothing acts
acts_put_nothing (Asked moment ∷ acts) = acts_put_nothing acts
acts_put_nothing (Drew word ∷ acts) = acts_put_nothing acts

acts_write_nothing : (waiting : List RelayLine) (acts : List Act) → written_from waiting (deeds_of_acts acts) ≡ []
unfolding written_from
acts_write_nothing waiting [] = refl
acts_write_nothing waiting (Fetched name answer ∷ acts) = acts_write_nothing waiting acts
acts_write_nothing waiting (Wrote piece done ∷ acts) = acts_write_nothing waiting acts
acts_write_nothing waiting (Called call ∷ acts) = acts_write_nothing waiting acts
acts_write_nothing waiting (Asked moment ∷ acts) = acts_write_nothing waiting acts
acts_write_nothing waiting (Drew word ∷ acts) = acts_write_nothing waiting acts

-- calls leave all lines written
pub acts_flushed : (done : List RelayDeed) (acts : List Act) → lines_in done ≡ lines_written done
    → lines_in (done ++ deeds_of_acts acts) ≡ lines_written (done ++ deeds_of_acts acts)
acts_flushed done acts h =
    lines_append done (deeds_of_acts acts) ∙ ap (λ (o : List RelayLine). lines_in done ++ o) (acts_put_nothing acts) ∙ append-nil (lines_in done) ∙ h
    ∙ sym (append-nil (lines_written done)) ∙ ap (λ (o : List RelayLine). lines_written done ++ o) (sym (acts_write_nothing (waiting_from [] done) acts))
    ∙ sym (written_append [] done (deeds_of_acts acts))

pub given_lines_nothing : (conn : ℕ) (lines : List RelayLine) → given_in conn (deeds_of_lines lines) ≡ []
given_lines_nothing conn [] = refl
given_lines_nothing conn (line ∷ lines) = given_lines_nothing conn lines

pub read_lines_nothing : (conn : ℕ) (lines : List RelayLine) → octets_read_at conn (deeds_of_lines lines) ≡ []
read_lines_nothing conn [] = refl
read_lines_nothing conn (line ∷ lines) = read_lines_nothing conn lines

pub closes_lines_nothing : (conn : ℕ) (lines : List RelayLine) → closes_in conn (deeds_of_lines lines) ≡ false
closes_lines_nothing conn [] = refl
closes_lines_nothing conn (line ∷ lines) = closes_lines_nothing conn lines

pub lines_of_lines : (lines : List RelayLine) → lines_in (deeds_of_lines lines) ≡ lines
lines_of_lines [] = refl
lines_of_lines (line ∷ lines) = ap (λ (o : List RelayLine). line ∷ o) (lines_of_lines lines)

pub told_lines : (number : ℕ) (side : Side) (lines : List RelayLine) → octets_told_of number side (deeds_of_lines lines) ≡ told_in_lines number side lines
told_lines number side lines = ap (λ (o : List RelayLine). told_in_lines number side o) (lines_of_lines lines)

-- ---- at each moment

pub steadily_then : (Holds : List RelayDeed → Type 0) (done xs ys : List RelayDeed) → Steadily Holds done xs → Steadily Holds (done ++ xs) ys → Steadily Holds done (xs ++ ys)
steadily_then Holds done [] ys p q = subst (λ (d : List RelayDeed). Steadily Holds d ys) (append-nil done) q
steadily_then Holds done (x ∷ xs) ys p q =
    (p.0, steadily_then Holds (done ++ x ∷ []) xs ys p.1 (subst (λ (d : List RelayDeed). Steadily Holds d ys) (sym (append_assoc done (x ∷ []) xs)) q))

pub steadily_first : (Holds : List RelayDeed → Type 0) (done xs : List RelayDeed) → Steadily Holds done xs → Holds done
steadily_first Holds done [] p = p
steadily_first Holds done (x ∷ xs) p = p.0

pub steadily_last : (Holds : List RelayDeed → Type 0) (done xs : List RelayDeed) → Steadily Holds done xs → Holds (done ++ xs)
steadily_last Holds done [] p = subst Holds (sym (append-nil done)) p
steadily_last Holds done (x ∷ xs) p = subst Holds (append_assoc done (x ∷ []) xs) (steadily_last Holds (done ++ x ∷ []) xs p.1)
