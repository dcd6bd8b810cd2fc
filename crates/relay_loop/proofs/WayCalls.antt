-- One way of a connection, call by call: what was read, what was told and what was written.
use Rattle.std.proofs.Common.{◌≡◌, ◌⊎◌, ◌≤◌, arith, ℕ, true, false, List, [], ◌++◌, refl, sym, ap, ◌∙◌, subst, append_assoc, append-nil, take, drop, true≢false, inl, inr}
use Rattle.er_base.specs.declared.side.Side.{Side}
use Rattle.er_base.specs.Printing.{Begins}
use Rattle.relay_script.specs.declared.script.Script.{Script}
use Rattle.relay_model.specs.Carried.{is_closed_by, carried}
use Rattle.relay_model.specs.Laws.{ClosedStays}
use Rattle.relay_carrier.specs.Standing.{KCarrier, StandsBehind, TakesBehind, Ends}
use Rattle.relay_loop.specs.declared.way.Way.{Way}
use Rattle.relay_loop.specs.Ways.{HoldsLive, HoldsWay}
use Rattle.relay_loop.specs.WaySteps.{Keeps, WayMoves, StaysOpen}
use Rattle.relay_loop.proofs.LiveWays.{carried_from, not_shut, closed_by_line, IsPromptTake, new_live, takes_live, ends_live, closed_ends_live, writes_live}

-- ---- moves

pub moves_still : (script : Script) (old new : Way)
    → ((side : Side) (read told gave : List ℕ) → HoldsWay script side read told gave old → HoldsWay script side read told gave new) → WayMoves script [] [] old new
moves_still script old new still side read told gave h =
    subst (λ (r : List ℕ). HoldsWay script side r told (gave ++ []) new) (sym (append-nil read))
    (subst (λ (g : List ℕ). HoldsWay script side read told g new) (sym (append-nil gave)) (still side read told gave h))

moves_took : (script : Script) (octets : List ℕ) (old new : Way)
    → ((side : Side) (read told gave : List ℕ) → HoldsWay script side read told gave old → HoldsWay script side (read ++ octets) told gave new)
    → WayMoves script octets [] old new
moves_took script octets old new took side read told gave h =
    subst (λ (g : List ℕ). HoldsWay script side (read ++ octets) told g new) (sym (append-nil gave)) (took side read told gave h)

moves_gave : (script : Script) (octets : List ℕ) (old new : Way)
    → ((side : Side) (read told gave : List ℕ) → HoldsWay script side read told gave old → HoldsWay script side read told (gave ++ octets) new)
    → WayMoves script [] octets old new
moves_gave script octets old new given side read told gave h =
    subst (λ (r : List ℕ). HoldsWay script side r told (gave ++ octets) new) (sym (append-nil read)) (given side read told gave h)

-- a call that reads and writes nothing
pub still : (script : Script) (side : Side) (read told gave : List ℕ) (old new : Way) → WayMoves script [] [] old new → HoldsWay script side read told gave old
    → HoldsWay script side read told gave new
still script side read told gave old new moves h =
    subst (λ (r : List ℕ). HoldsWay script side r told gave new) (append-nil read)
    (subst (λ (g : List ℕ). HoldsWay script side (read ++ []) told g new) (append-nil gave) (moves side read told gave h))

pub moves_none : (script : Script) (way : Way) → WayMoves script [] [] way way
moves_none script way = moves_still script way way (λ side read told gave h. h)

pub moves_then : (script : Script) (o p w v : List ℕ) (a b c : Way) → WayMoves script o w a b → WayMoves script p v b c → WayMoves script (o ++ p) (w ++ v) a c
moves_then script o p w v a b c first next side read told gave h =
    subst (λ (r : List ℕ). HoldsWay script side r told (gave ++ (w ++ v)) c) (append_assoc read o p)
    (subst (λ (g : List ℕ). HoldsWay script side (read ++ o ++ p) told g c) (append_assoc gave w v)
    (next side (read ++ o) told (gave ++ w) (first side read told gave h)))

-- ---- what stays

-- what isn't seen of a way by its claims may change
same_way : (script : Script) (side : Side) (read told gave : List ℕ) (old new : Way) (h : HoldsWay script side read told gave old) → new.side ≡ old.side
    → (new.closing ≡ true → old.closing ≡ true) → (new.lost ≡ false → HoldsLive script h.came told gave new) → HoldsWay script side read told gave new
same_way script side read told gave old new h same closing live = record {
  closing = λ c. h.closing (closing c);
  sided = same ∙ h.sided;
  came = h.came;
  behind = h.behind;
  cut = h.cut;
  shut = h.shut;
  live = live;
  first = h.first;
  is_carried = h.is_carried;
}

-- a line has closed the connection, by the side of the way
shut_by : (script : Script) (side : Side) (came behind : List ℕ) (way : Way) → way.side ≡ side → (behind ≡ []) ⊎ (is_closed_by script side came ≡ true)
    → (behind ≡ []) ⊎ (is_closed_by script way.side came ≡ true)
shut_by script side came behind way sided shut = subst (λ (s : Side). (behind ≡ []) ⊎ (is_closed_by script s came ≡ true)) (sym sided) shut

-- ---- calls

pub new_holds : (script : Script) (side : Side) (way : Way) → way.side ≡ side → way.ended ≡ false → way.carrier.side ≡ way.side → StandsBehind script [] way.carrier
    → way.printed.items ≡ [] → way.waits.items ≡ [] → way.closing ≡ false → way.carrier.newest ≡ 0 → HoldsWay script side [] [] [] way
new_holds script side way sided unended same stands printed waits closing newest = record {
  closing = λ c. absurd (true≢false (sym c ∙ closing));
  sided = sided;
  came = [];
  behind = [];
  cut = refl;
  shut = inl refl;
  live = λ _. new_live script way unended same stands printed waits closing newest;
  first = record { rest = []; is = refl };
  is_carried = record { rest = carried script side []; is = refl };
}

pub takes : ClosedStays → (script : Script) (old new : Way) (carrier : KCarrier) (moment due latest : ℕ) (octets given : List ℕ) → old.lost ≡ false
    → old.ended ≡ false → old.carrier.closed ≡ false → moment ≤ latest → old.latest ≤ latest
    → TakesBehind script old.carrier carrier moment octets given due → IsPromptTake script old.carrier moment due → carrier.newest ≡ due
    → carrier.side ≡ old.carrier.side → Keeps (record old { carrier = carrier; latest = latest }) new given due → WayMoves script octets [] old new
takes stays script old new carrier moment due latest octets given alive unended unclosed at later behind prompt newest sided k =
    moves_took script octets old new
    (λ side read told gave h.
    let l = h.live alive in
    let none = not_shut script h.came h.behind told gave old l unended unclosed (shut_by script side h.came h.behind old h.sided h.shut) in
    let all : h.came ≡ read = sym (h.cut ∙ ap (λ (o : List ℕ). h.came ++ o) none ∙ append-nil h.came) in
    let live : HoldsLive script (read ++ octets) told gave new =
    takes_live script old new carrier moment due latest octets given unended unclosed at later behind prompt newest sided k read told gave (subst (λ (c : List ℕ). HoldsLive script c told gave old) all l) in
    let new_sided : new.side ≡ side = k.side ∙ h.sided in
    record {
      sided = new_sided;
      closing = λ c. absurd (true≢false (sym (l.last (sym k.closing ∙ c)).0 ∙ unclosed));
      came = read ++ octets;
      behind = [];
      cut = sym (append-nil (read ++ octets));
      shut = inl refl;
      live = λ _. live;
      first = h.first;
      is_carried = subst (λ (s : Side). Begins told (carried script s (read ++ octets))) new_sided
          (subst (λ (c : List ℕ). Begins told (carried script new.side c)) (append-nil (read ++ octets))
          (carried_from stays script (read ++ octets) [] told gave new live (inl refl)));
    })

-- behind a line that closes the connection octets come to nothing
pub absorbs : ClosedStays → (script : Script) (more : List ℕ) (way : Way) → way.lost ≡ false → way.ended ≡ false → way.carrier.closed ≡ true
    → WayMoves script more [] way way
absorbs stays script more way alive unended closed =
    moves_took script more way way
    (λ side read told gave h.
    let l = h.live alive in
    let by_line = closed_by_line script h.came told gave way l unended closed in
    let cut : read ++ more ≡ h.came ++ (h.behind ++ more) = ap (λ (o : List ℕ). o ++ more) h.cut ∙ append_assoc h.came h.behind more in
    record {
      sided = h.sided;
      closing = h.closing;
      came = h.came;
      behind = h.behind ++ more;
      cut = cut;
      shut = inr (subst (λ (s : Side). is_closed_by script s h.came ≡ true) h.sided by_line);
      live = λ _. l;
      first = h.first;
      is_carried = subst (λ (s : Side). Begins told (carried script s (read ++ more))) h.sided
          (subst (λ (c : List ℕ). Begins told (carried script way.side c)) (sym cut)
          (carried_from stays script h.came (h.behind ++ more) told gave way l (inr by_line)));
    })

pub ends : (script : Script) (old mid : Way) (carrier : KCarrier) (moment due latest : ℕ) (given : List ℕ) → old.ended ≡ false → old.carrier.closed ≡ false
    → moment ≤ latest → old.latest ≤ latest → Ends script old.carrier given
    → ((most : ℕ) → old.carrier.newest ≤ most → moment ≤ most → due ≤ most) → carrier.closed ≡ old.carrier.closed → mid.side ≡ old.side
    → mid.lost ≡ old.lost → mid.closing ≡ old.closing
    → (old.lost ≡ false → Keeps (record old { carrier = carrier; latest = latest }) mid given due) → WayMoves script [] [] old (record mid { ended = true })
ends script old mid carrier moment due latest given unended unclosed at later end prompt shut same lost closing keeps =
    moves_still script old (record mid { ended = true })
    (λ side read told gave h.
    same_way script side read told gave old (record mid { ended = true }) h same (λ c. sym closing ∙ c)
    (λ alive.
    let was = sym lost ∙ alive in
    ends_live script old mid carrier moment due latest given unended unclosed at later end prompt shut (keeps was) h.came told gave (h.live was)))

pub closed_ends : (script : Script) (old : Way) → old.ended ≡ false → old.carrier.closed ≡ true → WayMoves script [] [] old (record old { ended = true })
closed_ends script old unended closed =
    moves_still script old (record old { ended = true })
    (λ side read told gave h.
    same_way script side read told gave old (record old { ended = true }) h refl (λ c. c)
    (λ alive. closed_ends_live script old unended closed h.came told gave (h.live alive)))

-- the other side gets nothing any more
pub loses : (script : Script) (old new : Way) → new.side ≡ old.side → new.closing ≡ old.closing → new.lost ≡ true → WayMoves script [] [] old new
loses script old new same closing lost =
    moves_still script old new
    (λ side read told gave h. same_way script side read told gave old new h same (λ c. sym closing ∙ c) (λ alive. absurd (true≢false (sym lost ∙ alive))))

-- what no claim speaks of changes
same_later : (script : Script) (old new : Way) → new.lost ≡ old.lost → new.ended ≡ old.ended → new.side ≡ old.side → new.carrier ≡ old.carrier
    → new.waits.items ≡ old.waits.items → new.printed.items ≡ old.printed.items → new.closing ≡ old.closing → old.latest ≤ new.latest
    → WayMoves script [] [] old new
same_later script old new lost ended same_side carrier waits printed closing later =
    moves_still script old new
    (λ side read told gave h.
    same_way script side read told gave old new h same_side (λ c. sym closing ∙ c)
    (λ alive.
    subst (λ (g : List ℕ). HoldsLive script h.came told g new) (append-nil gave)
    (writes_live script old new 0 ended same_side carrier waits printed closing later h.came told gave (h.live (sym lost ∙ alive)))))

at_most_same : (n m : ℕ) → m ≡ n → n ≤ m
at_most_same n m is = omega (arith, is)

pub same : (script : Script) (old new : Way) → new.lost ≡ old.lost → new.ended ≡ old.ended → new.side ≡ old.side → new.carrier ≡ old.carrier
    → new.waits.items ≡ old.waits.items → new.printed.items ≡ old.printed.items → new.closing ≡ old.closing → new.latest ≡ old.latest
    → WayMoves script [] [] old new
same script old new lost ended same_side carrier waits printed closing latest =
    same_later script old new lost ended same_side carrier waits printed closing (at_most_same old.latest new.latest latest)

-- a visit
pub sees : (script : Script) (old new : Way) → old.latest ≤ new.latest → new ≡ record old { latest = new.latest } → WayMoves script [] [] old new
sees script old new later is =
    same_later script old new (ap (λ (w : Way). w.lost) is) (ap (λ (w : Way). w.ended) is) (ap (λ (w : Way). w.side) is) (ap (λ (w : Way). w.carrier) is)
    (ap (λ (w : Way). w.waits.items) is) (ap (λ (w : Way). w.printed.items) is) (ap (λ (w : Way). w.closing) is) later

pub sees_open : (old new : Way) → new ≡ record old { latest = new.latest } → StaysOpen old new
sees_open old new is = record {
  ended = ap (λ (w : Way). w.ended) is;
  lost = ap (λ (w : Way). w.lost) is;
  closing = λ c. ap (λ (w : Way). w.closing) is ∙ c;
}

-- octets are taken at a visit
pub takes_seen : ClosedStays → (script : Script) (old mid new : Way) (carrier : KCarrier) (moment due : ℕ) (octets given : List ℕ)
    → mid ≡ record old { latest = mid.latest } → old.latest ≤ mid.latest → moment ≤ mid.latest → old.lost ≡ false → old.ended ≡ false → old.carrier.closed ≡ false
    → TakesBehind script mid.carrier carrier moment octets given due → IsPromptTake script mid.carrier moment due → carrier.newest ≡ due
    → carrier.side ≡ mid.carrier.side → Keeps (record mid { carrier = carrier }) new given due → WayMoves script octets [] old new
takes_seen stays script old mid new carrier moment due octets given is later at alive unended unclosed behind prompt newest sided k =
    moves_then script [] octets [] [] old mid new (sees script old mid later is)
    (takes stays script mid new carrier moment due mid.latest octets given (ap (λ (w : Way). w.lost) is ∙ alive) (ap (λ (w : Way). w.ended) is ∙ unended)
    (ap (λ (w : Way). w.carrier.closed) is ∙ unclosed) at (at_most_same mid.latest mid.latest refl) behind prompt newest sided k)

-- the side ends at a visit
pub ends_seen : (script : Script) (old seen mid : Way) (carrier : KCarrier) (moment due : ℕ) (given : List ℕ) → seen ≡ record old { latest = seen.latest }
    → old.latest ≤ seen.latest → moment ≤ seen.latest → old.ended ≡ false → old.carrier.closed ≡ false → Ends script seen.carrier given
    → ((most : ℕ) → seen.carrier.newest ≤ most → moment ≤ most → due ≤ most) → carrier.closed ≡ seen.carrier.closed → mid.side ≡ seen.side
    → mid.lost ≡ seen.lost → mid.closing ≡ seen.closing
    → (seen.lost ≡ false → Keeps (record seen { carrier = carrier }) mid given due) → WayMoves script [] [] old (record mid { ended = true })
ends_seen script old seen mid carrier moment due given is later at unended unclosed end prompt shut same lost closing keeps =
    moves_then script [] [] [] [] old seen (record mid { ended = true }) (sees script old seen later is)
    (ends script seen mid carrier moment due seen.latest given (ap (λ (w : Way). w.ended) is ∙ unended) (ap (λ (w : Way). w.carrier.closed) is ∙ unclosed) at
    (at_most_same seen.latest seen.latest refl) end prompt shut same lost closing keeps)

pub writes : (script : Script) (old new : Way) (count : ℕ) → new.lost ≡ old.lost → old.lost ≡ false → new.ended ≡ old.ended → new.side ≡ old.side
    → new.carrier ≡ old.carrier → new.waits.items ≡ old.waits.items → new.printed.items ≡ drop count old.printed.items → new.closing ≡ old.closing
    → new.latest ≡ old.latest → WayMoves script [] (take count old.printed.items) old new
writes script old new count lost alive ended same_side carrier waits printed closing latest =
    moves_gave script (take count old.printed.items) old new
    (λ side read told gave h.
    let live = writes_live script old new count ended same_side carrier waits printed closing (at_most_same old.latest new.latest latest) h.came told gave (h.live alive) in
    record {
      closing = λ c. h.closing (sym closing ∙ c);
      sided = same_side ∙ h.sided;
      came = h.came;
      behind = h.behind;
      cut = h.cut;
      shut = h.shut;
      live = λ _. live;
      first = record { rest = new.printed.items; is = live.told_is };
      is_carried = h.is_carried;
    })
