-- One way of a connection whose other side didn't fail, call by call.
use Rattle.std.proofs.Common.{◌≡◌, ◌⊎◌, ◌≤◌, arith, ℕ, Bool, true, false, List, [], ◌∷◌, ◌++◌, refl, sym, ap, ◌∙◌, subst, append_assoc, append-nil, take, drop, true≢false, flat_map, inl, inr}
use Rattle.std.proofs.lemmas.List.{take-append-drop}
use Rattle.std.proofs.lemmas.List.Concat.{flat_map-append}
use Rattle.er_base.specs.declared.side.Side.{Side}
use Rattle.er_base.specs.Printing.{Begins}
use Rattle.relay_script.specs.declared.script.Script.{Script}
use Rattle.relay_model.specs.Units.{parts_from}
use Rattle.relay_model.specs.Loads.{loads_from}
use Rattle.relay_model.specs.Carried.{loads_of_sent, octets_of_loads, given_of_sent, is_closed_by, carried}
use Rattle.relay_model.specs.Laws.{ClosedStays}
use Rattle.relay_carrier.specs.Prompt.{NoneDelays}
use Rattle.relay_carrier.specs.Standing.{KCarrier, StandsBehind, TakesBehind, Ends}
use Rattle.relay_loop.specs.declared.piece.Piece.{Piece}
use Rattle.relay_loop.specs.declared.way.Way.{Way}
use Rattle.relay_loop.specs.Settled.{given_so_far}
use Rattle.relay_loop.specs.Ways.{octets_of_pieces, AreDueBy, HoldsLive}
use Rattle.relay_loop.specs.WaySteps.{Keeps}

-- ---- pieces

pub pieces_none : octets_of_pieces [] ≡ []
unfolding octets_of_pieces
pieces_none = refl

pub pieces_first : (piece : Piece) (pieces : List Piece) → octets_of_pieces (piece ∷ pieces) ≡ piece.octets.items ++ octets_of_pieces pieces
unfolding octets_of_pieces
pieces_first piece pieces = refl

pub pieces_last : (pieces : List Piece) (piece : Piece) → octets_of_pieces (pieces ++ piece ∷ []) ≡ octets_of_pieces pieces ++ piece.octets.items
unfolding octets_of_pieces
pieces_last pieces piece =
    flat_map-append (λ (p : Piece). p.octets.items) pieces (piece ∷ [])
    ∙ ap (λ (o : List ℕ). flat_map (λ (p : Piece). p.octets.items) pieces ++ o) (append-nil piece.octets.items)

-- ---- what is carried

pub nothing_given : (script : Script) (side : Side) → given_of_sent script side [] ≡ []
unfolding given_of_sent loads_of_sent parts_from loads_from octets_of_loads
nothing_given script side = refl

pub closed_carried : (script : Script) (side : Side) (came : List ℕ) → is_closed_by script side came ≡ true → carried script side came ≡ given_of_sent script side came
unfolding carried
closed_carried script side came closed = rw closed (append-nil (given_of_sent script side came))

begins_more : (front more rest whole : List ℕ) → front ++ more ≡ whole → Begins front (whole ++ rest)
begins_more front more rest whole e = record { rest = more ++ rest; is = ap (λ (o : List ℕ). o ++ rest) (sym e) ∙ append_assoc front more rest }

given_begins : (script : Script) (side : Side) (came front more : List ℕ) → front ++ more ≡ given_of_sent script side came → Begins front (carried script side came)
unfolding carried
given_begins script side came front more e = begins_more front more _ (given_of_sent script side came) e

so_far_begins : (script : Script) (side : Side) (ended : Bool) (came front more : List ℕ) → front ++ more ≡ given_so_far script side ended came
    → Begins front (carried script side came)
so_far_begins script side true came front more e = record { rest = more; is = sym e }
so_far_begins script side false came front more e = given_begins script side came front more e

so_far_closed : (script : Script) (side : Side) (ended : Bool) (came : List ℕ) → is_closed_by script side came ≡ true
    → given_so_far script side ended came ≡ given_of_sent script side came
so_far_closed script side true came closed = closed_carried script side came closed
so_far_closed script side false came closed = refl

-- what was told is carried of all that was read
pub carried_from : ClosedStays → (script : Script) (came behind told gave : List ℕ) (way : Way) → HoldsLive script came told gave way
    → (behind ≡ []) ⊎ (is_closed_by script way.side came ≡ true) → Begins told (carried script way.side (came ++ behind))
carried_from stays script came behind told gave way l (inl none) =
    let all : came ++ behind ≡ came = ap (λ (o : List ℕ). came ++ o) none ∙ append-nil came in
    subst (λ (o : List ℕ). Begins told (carried script way.side o)) (sym all)
    (so_far_begins script way.side way.ended came told (octets_of_pieces way.waits.items) l.given_is)
carried_from stays script came behind told gave way l (inr closed) = record {
  rest = octets_of_pieces way.waits.items;
  is = (stays script way.side came behind closed).1 ∙ sym (l.given_is ∙ so_far_closed script way.side way.ended came closed);
}

-- where no line has closed the connection, all that was read is taken
pub not_shut : (script : Script) (came behind told gave : List ℕ) (way : Way) → HoldsLive script came told gave way → way.ended ≡ false → way.carrier.closed ≡ false
    → (behind ≡ []) ⊎ (is_closed_by script way.side came ≡ true) → behind ≡ []
not_shut script came behind told gave way l unended unclosed (inl none) = none
not_shut script came behind told gave way l unended unclosed (inr closed) =
    absurd (true≢false
    (sym closed ∙ ap (λ (s : Side). is_closed_by script s came) (sym (l.side unended)) ∙ sym (l.stands unended).closed ∙ unclosed))

pub closed_by_line : (script : Script) (came told gave : List ℕ) (way : Way) → HoldsLive script came told gave way → way.ended ≡ false → way.carrier.closed ≡ true
    → is_closed_by script way.side came ≡ true
closed_by_line script came told gave way l unended closed =
    ap (λ (s : Side). is_closed_by script s came) (sym (l.side unended)) ∙ sym (l.stands unended).closed ∙ closed

-- ---- moments

pub due_by_more : (moment later : ℕ) (pieces : List Piece) → moment ≤ later → AreDueBy moment pieces → AreDueBy later pieces
due_by_more moment later [] less due = tt
due_by_more moment later (piece ∷ pieces) less due = (omega (arith, less, due.0), due_by_more moment later pieces less due.1)

pub due_last : (most : ℕ) (pieces : List Piece) (piece : Piece) → AreDueBy most pieces → piece.due ≤ most → AreDueBy most (pieces ++ piece ∷ [])
due_last most [] piece due by = (by, tt)
due_last most (first ∷ pieces) piece due by = (due.0, due_last most pieces piece due.1 by)

at_most_more : (n moment later : ℕ) → n ≤ moment → moment ≤ later → n ≤ later
at_most_more n moment later first second = omega (arith, first, second)

none_of_side : (script : Script) (a b : Side) → a ≡ b → NoneDelays a script.lines → NoneDelays b script.lines
none_of_side script a b same none = subst (λ (s : Side). NoneDelays s script.lines) same none

-- ---- calls

pub new_live : (script : Script) (way : Way) → way.ended ≡ false → way.carrier.side ≡ way.side → StandsBehind script [] way.carrier
    → way.printed.items ≡ [] → way.waits.items ≡ [] → way.closing ≡ false → way.carrier.newest ≡ 0 → HoldsLive script [] [] [] way
new_live script way unended side stands printed waits closing newest = record {
  closed = λ c. ap (λ (s : Side). is_closed_by script s []) (sym side) ∙ (sym stands.closed ∙ c);
  last = λ c. absurd (true≢false (sym c ∙ closing));
  prompt = λ none. record { newest = λ _. omega (arith, newest); waits = rw waits tt };
  side = λ _. side;
  stands = λ _. stands;
  told_is = sym printed;
  given_is = rw (waits, unended) (pieces_none ∙ sym (nothing_given script way.side));
}

pub given_unended : (script : Script) (came told gave : List ℕ) (way : Way) → HoldsLive script came told gave way → way.ended ≡ false
    → told ++ octets_of_pieces way.waits.items ≡ given_of_sent script way.side came
given_unended script came told gave way l unended =
    subst (λ (b : Bool). told ++ octets_of_pieces way.waits.items ≡ given_so_far script way.side b came) unended l.given_is

-- a carrier whose side no line delays
abbrev pub IsPromptTake : Script → (old : KCarrier) → (moment due : ℕ) → Type 0
IsPromptTake script old moment due =
    (came : List ℕ) → StandsBehind script came old → NoneDelays old.side script.lines → (most : ℕ) → old.newest ≤ most → moment ≤ most → due ≤ most

pub takes_live : (script : Script) (old new : Way) (carrier : KCarrier) (moment due latest : ℕ) (octets given : List ℕ) → old.ended ≡ false
    → old.carrier.closed ≡ false → moment ≤ latest → old.latest ≤ latest → TakesBehind script old.carrier carrier moment octets given due
    → IsPromptTake script old.carrier moment due → carrier.newest ≡ due → carrier.side ≡ old.carrier.side
    → Keeps (record old { carrier = carrier; latest = latest }) new given due
    → (came told gave : List ℕ) → HoldsLive script came told gave old → HoldsLive script (came ++ octets) told gave new
takes_live script old new carrier moment due latest octets given unended unclosed at later takes prompt newest sided k came told gave l =
    let t = takes came (l.stands unended) in
    let same : old.carrier.side ≡ old.side = l.side unended in
    let before = given_unended script came told gave old l unended in
    let gives : given_of_sent script old.side (came ++ octets) ≡ given_of_sent script old.side came ++ given =
    subst (λ (s : Side). given_of_sent script s (came ++ octets) ≡ given_of_sent script s came ++ given) same t.gives in
    let by : (none : NoneDelays new.side script.lines) → due ≤ latest =
    λ none.
    let own = none_of_side script new.side old.side k.side none in
    prompt came (l.stands unended) (none_of_side script old.side old.carrier.side (sym same) own) latest
    (at_most_more old.carrier.newest old.latest latest ((l.prompt own).newest unended) later) at in
    record {
      closed = λ c.
          ap (λ (s : Side). is_closed_by script s (came ++ octets)) (sym (sided ∙ same ∙ sym k.side))
          ∙ (sym t.stands.closed ∙ (ap (λ (c : KCarrier). c.closed) (sym k.carrier) ∙ c));
      last = λ c. absurd (true≢false (sym (l.last (sym k.closing ∙ c)).0 ∙ unclosed));
      prompt = λ none. record {
        newest = λ _.
            subst (λ (n : ℕ). new.carrier.newest ≤ n) (sym k.latest)
            (subst (λ (n : ℕ). n ≤ latest) (sym (ap (λ (c : KCarrier). c.newest) k.carrier ∙ newest)) (by none));
        waits = subst (λ (n : ℕ). AreDueBy n new.waits.items) (sym k.latest)
            (k.dues latest (by none) (due_by_more old.latest latest old.waits.items later (l.prompt (none_of_side script new.side old.side k.side none)).waits));
      };
      side = λ _. ap (λ (c : KCarrier). c.side) k.carrier ∙ sided ∙ same ∙ sym k.side;
      stands = λ _. subst (λ (c : KCarrier). StandsBehind script (came ++ octets) c) (sym k.carrier) t.stands;
      told_is = l.told_is ∙ ap (λ (o : List ℕ). gave ++ o) (sym k.printed);
      given_is =
          subst (λ (b : Bool). told ++ octets_of_pieces new.waits.items ≡ given_so_far script new.side b (came ++ octets)) (sym (k.ended ∙ unended))
          (subst (λ (s : Side). told ++ octets_of_pieces new.waits.items ≡ given_of_sent script s (came ++ octets)) (sym k.side)
          (ap (λ (o : List ℕ). told ++ o) k.waits ∙ sym (append_assoc told (octets_of_pieces old.waits.items) given) ∙ ap (λ (o : List ℕ). o ++ given) before ∙ sym gives));
    }

-- the side ends: what was held of it waits too
pub ends_live : (script : Script) (old mid : Way) (carrier : KCarrier) (moment due latest : ℕ) (given : List ℕ) → old.ended ≡ false → old.carrier.closed ≡ false
    → moment ≤ latest → old.latest ≤ latest → Ends script old.carrier given
    → ((most : ℕ) → old.carrier.newest ≤ most → moment ≤ most → due ≤ most) → carrier.closed ≡ old.carrier.closed
    → Keeps (record old { carrier = carrier; latest = latest }) mid given due
    → (came told gave : List ℕ) → HoldsLive script came told gave old → HoldsLive script came told gave (record mid { ended = true })
ends_live script old mid carrier moment due latest given unended unclosed at later ends prompt shut k came told gave l =
    let before = given_unended script came told gave old l unended in
    let all : given_of_sent script old.side came ++ given ≡ carried script old.side came =
    subst (λ (s : Side). given_of_sent script s came ++ given ≡ carried script s came) (l.side unended) (ends came (l.stands unended)) in
    record {
      closed = λ c. absurd (true≢false (sym c ∙ (ap (λ (c : KCarrier). c.closed) k.carrier ∙ (shut ∙ unclosed))));
      last = λ c. absurd (true≢false (sym (l.last (sym k.closing ∙ c)).0 ∙ unclosed));
      prompt = λ none.
          let p = l.prompt (none_of_side script mid.side old.side k.side none) in
          record {
            newest = λ f. absurd (true≢false f);
            waits = subst (λ (n : ℕ). AreDueBy n mid.waits.items) (sym k.latest)
                (k.dues latest (prompt latest (at_most_more old.carrier.newest old.latest latest (p.newest unended) later) at)
                (due_by_more old.latest latest old.waits.items later p.waits));
          };
      side = λ f. absurd (true≢false f);
      stands = λ f. absurd (true≢false f);
      told_is = l.told_is ∙ ap (λ (o : List ℕ). gave ++ o) (sym k.printed);
      given_is =
          subst (λ (s : Side). told ++ octets_of_pieces mid.waits.items ≡ carried script s came) (sym k.side)
          (ap (λ (o : List ℕ). told ++ o) k.waits ∙ sym (append_assoc told (octets_of_pieces old.waits.items) given) ∙ ap (λ (o : List ℕ). o ++ given) before ∙ all);
    }

-- behind a line that closes the connection nothing is given that was held
pub closed_ends_live : (script : Script) (old : Way) → old.ended ≡ false → old.carrier.closed ≡ true
    → (came told gave : List ℕ) → HoldsLive script came told gave old → HoldsLive script came told gave (record old { ended = true })
closed_ends_live script old unended closed came told gave l = record {
  closed = l.closed;
  last = l.last;
  prompt = λ none. record { newest = λ f. absurd (true≢false f); waits = (l.prompt none).waits };
  side = λ f. absurd (true≢false f);
  stands = λ f. absurd (true≢false f);
  told_is = l.told_is;
  given_is =
      given_unended script came told gave old l unended
      ∙ sym (closed_carried script old.side came (closed_by_line script came told gave old l unended closed));
}

none_is_more : (piece : Piece) (pieces : List Piece) → piece ∷ pieces ≡ [] → ⊥
none_is_more piece pieces is = let q : ⊥ = cc is in q

-- what waits behind the first is none, where a line closes the connection now
last_by : (before now : Bool) (closed : Bool) (piece : Piece) (pieces waits : List Piece) → waits ≡ piece ∷ pieces
    → (before ≡ true → (closed ≡ true) × (waits ≡ [])) → (before ≡ false → now ≡ true → (closed ≡ true) × (pieces ≡ [])) → now ≡ true
    → (closed ≡ true) × (pieces ≡ [])
last_by true now closed piece pieces waits is was closes c = absurd (none_is_more piece pieces (sym is ∙ (was refl).1))
last_by false now closed piece pieces waits is was closes c = closes refl c

-- the first that waits is printed
pub prints_live : (script : Script) (old new : Way) (piece : Piece) (octets : List ℕ) → octets ≡ piece.octets.items → new.ended ≡ old.ended
    → new.side ≡ old.side → new.carrier ≡ old.carrier → old.waits.items ≡ piece ∷ new.waits.items → new.printed.items ≡ old.printed.items ++ octets
    → new.latest ≡ old.latest → (old.closing ≡ false → new.closing ≡ true → (old.carrier.closed ≡ true) × (new.waits.items ≡ []))
    → (came told gave : List ℕ) → HoldsLive script came told gave old → HoldsLive script came (told ++ octets) gave new
prints_live script old new piece octets is ended side carrier waits printed latest closes came told gave l = record {
  closed = λ c. ap (λ (s : Side). is_closed_by script s came) side ∙ l.closed (ap (λ (c : KCarrier). c.closed) (sym carrier) ∙ c);
  last = λ c.
      let both = last_by old.closing new.closing old.carrier.closed piece new.waits.items old.waits.items waits l.last closes c in
      (ap (λ (c : KCarrier). c.closed) carrier ∙ both.0, both.1);
  prompt = λ none.
      let p = l.prompt (none_of_side script new.side old.side side none) in
      record {
        newest = λ f. subst (λ (n : ℕ). new.carrier.newest ≤ n) (sym latest)
            (subst (λ (c : KCarrier). c.newest ≤ old.latest) (sym carrier) (p.newest (sym ended ∙ f)));
        waits = subst (λ (n : ℕ). AreDueBy n new.waits.items) (sym latest) (subst (λ (w : List Piece). AreDueBy old.latest w) waits p.waits).1;
      };
  side = λ f. ap (λ (c : KCarrier). c.side) carrier ∙ l.side (sym ended ∙ f) ∙ sym side;
  stands = λ f. subst (λ (c : KCarrier). StandsBehind script came c) (sym carrier) (l.stands (sym ended ∙ f));
  told_is = ap (λ (o : List ℕ). o ++ octets) l.told_is ∙ append_assoc gave old.printed.items octets ∙ ap (λ (o : List ℕ). gave ++ o) (sym printed);
  given_is =
      append_assoc told octets (octets_of_pieces new.waits.items)
      ∙ ap (λ (o : List ℕ). told ++ (o ++ octets_of_pieces new.waits.items)) is
      ∙ ap (λ (o : List ℕ). told ++ o) (sym (pieces_first piece new.waits.items))
      ∙ ap (λ (p : List Piece). told ++ octets_of_pieces p) (sym waits) ∙ l.given_is
      ∙ ap (λ (b : Bool). given_so_far script old.side b came) (sym ended) ∙ ap (λ (s : Side). given_so_far script s new.ended came) (sym side);
}

-- octets that were printed are written
pub writes_live : (script : Script) (old new : Way) (count : ℕ) → new.ended ≡ old.ended → new.side ≡ old.side → new.carrier ≡ old.carrier
    → new.waits.items ≡ old.waits.items → new.printed.items ≡ drop count old.printed.items → new.closing ≡ old.closing → old.latest ≤ new.latest
    → (came told gave : List ℕ) → HoldsLive script came told gave old → HoldsLive script came told (gave ++ take count old.printed.items) new
writes_live script old new count ended side carrier waits printed closing later came told gave l = record {
  closed = λ c. ap (λ (s : Side). is_closed_by script s came) side ∙ l.closed (ap (λ (c : KCarrier). c.closed) (sym carrier) ∙ c);
  last = λ c. let both = l.last (sym closing ∙ c) in (ap (λ (c : KCarrier). c.closed) carrier ∙ both.0, waits ∙ both.1);
  prompt = λ none.
      let p = l.prompt (none_of_side script new.side old.side side none) in
      record {
        newest = λ f. subst (λ (c : KCarrier). c.newest ≤ new.latest) (sym carrier)
            (at_most_more old.carrier.newest old.latest new.latest (p.newest (sym ended ∙ f)) later);
        waits = subst (λ (w : List Piece). AreDueBy new.latest w) (sym waits) (due_by_more old.latest new.latest old.waits.items later p.waits);
      };
  side = λ f. ap (λ (c : KCarrier). c.side) carrier ∙ l.side (sym ended ∙ f) ∙ sym side;
  stands = λ f. subst (λ (c : KCarrier). StandsBehind script came c) (sym carrier) (l.stands (sym ended ∙ f));
  told_is =
      l.told_is ∙ ap (λ (o : List ℕ). gave ++ o) (sym (take-append-drop count old.printed.items))
      ∙ sym (append_assoc gave (take count old.printed.items) (drop count old.printed.items))
      ∙ ap (λ (o : List ℕ). gave ++ take count old.printed.items ++ o) (sym printed);
  given_is =
      ap (λ (p : List Piece). told ++ octets_of_pieces p) waits ∙ l.given_is
      ∙ ap (λ (b : Bool). given_so_far script old.side b came) (sym ended) ∙ ap (λ (s : Side). given_so_far script s new.ended came) (sym side);
}
