-- What is given is printed, part by part.
use Rattle.std.proofs.Common.{◌≡◌, ◌≤◌, ◌⊎◌, ℕ, true, false, List, [], ◌∷◌, ◌++◌, refl, sym, ap, ◌∙◌, subst, append_assoc, append-nil}
use Rattle.std.proofs.lemmas.List.Concat.{flat_map-append}
use Rattle.er_base.specs.declared.side.Side.{Side}
use Rattle.er_base.specs.Printing.{Begins}
use Rattle.relay_script.specs.declared.script.Script.{Script}
use Rattle.relay_model.specs.Carried.{is_closed_by, carried}
use Rattle.relay_model.specs.Laws.{ClosedStays}
use Rattle.relay_loop.specs.declared.stamp.Stamp.{Stamp}
use Rattle.relay_loop.specs.declared.piece.Piece.{Piece}
use Rattle.relay_loop.specs.declared.way.Way.{Way}
use Rattle.relay_loop.specs.RelayLines.{given_line}
use Rattle.relay_loop.specs.Ways.{HoldsWay}
use Rattle.relay_loop.specs.WaySteps.{WayMoves, StaysOpen, joined, given_lines, PrintsGiven}
use Rattle.relay_carrier.specs.Standing.{KCarrier}
use Rattle.relay_loop.proofs.WayCalls.{still, sees, sees_open}
use Rattle.relay_loop.proofs.LiveWays.{carried_from, prints_live}

pub prints_none : (at : Stamp) (way : Way) (lines : List ℕ) → PrintsGiven at way way lines lines
prints_none at way lines = record {
  parts = [];
  lines = sym (append-nil lines);
  same_side = refl;
  stays = record { ended = refl; lost = refl; closing = λ c. c };
  holds = λ script side read told gave h. subst (λ (t : List ℕ). HoldsWay script side read t gave way) (sym (append-nil told)) h;
}

-- a visit
pub prints_seen : (at : Stamp) (a b c : Way) (x y : List ℕ) → a.latest ≤ b.latest → b ≡ record a { latest = b.latest } → PrintsGiven at b c x y
    → PrintsGiven at a c x y
prints_seen at a b c x y later is p = record {
  parts = p.parts;
  lines = p.lines ∙ ap (λ (s : Side). x ++ given_lines at s p.parts) (ap (λ (w : Way). w.side) is);
  same_side = p.same_side ∙ ap (λ (w : Way). w.side) is;
  stays = let s = sees_open a b is in
      record { ended = p.stays.ended ∙ s.ended; lost = p.stays.lost ∙ s.lost; closing = λ c. p.stays.closing (s.closing c) };
  holds = λ script side read told gave h. p.holds script side read told gave (still script side read told gave a b (sees script a b later is) h);
}

-- nothing is printed by a call that changes what no claim speaks of
pub prints_nothing : (at : Stamp) (old new : Way) (lines : List ℕ) → new.side ≡ old.side → StaysOpen old new → ((script : Script) → WayMoves script [] [] old new)
    → PrintsGiven at old new lines lines
prints_nothing at old new lines same_side stays moves = record {
  stays = stays;
  parts = [];
  lines = sym (append-nil lines);
  same_side = same_side;
  holds = λ script side read told gave h.
      subst (λ (t : List ℕ). HoldsWay script side read t gave new) (sym (append-nil told)) (still script side read told gave old new (moves script) h);
}

one_holds : ClosedStays → (script : Script) (old new : Way) (piece : Piece) (octets : List ℕ) → octets ≡ piece.octets.items → old.lost ≡ false
    → new.ended ≡ old.ended → new.side ≡ old.side → new.carrier ≡ old.carrier → old.waits.items ≡ piece ∷ new.waits.items
    → new.printed.items ≡ old.printed.items ++ octets → new.latest ≡ old.latest
    → (old.closing ≡ false → new.closing ≡ true → (old.carrier.closed ≡ true) × (new.waits.items ≡ []))
    → (s : Side) (read told gave : List ℕ) → HoldsWay script s read told gave old → HoldsWay script s read (told ++ octets) gave new
one_holds stays script old new piece octets is alive ended side carrier waits printed latest closes s read told gave h =
    let live = prints_live script old new piece octets is ended side carrier waits printed latest closes h.came told gave (h.live alive) in
    let sided : new.side ≡ s = side ∙ h.sided in
    let shut : (h.behind ≡ []) ⊎ (is_closed_by script new.side h.came ≡ true) =
    subst (λ (t : Side). (h.behind ≡ []) ⊎ (is_closed_by script t h.came ≡ true)) (sym sided) h.shut in
    record {
      sided = sided;
      closing = λ c. subst (λ (t : Side). is_closed_by script t h.came ≡ true) sided (live.closed (live.last c).0);
      came = h.came;
      behind = h.behind;
      cut = h.cut;
      shut = h.shut;
      live = λ _. live;
      first = record { rest = h.first.rest ++ octets; is = ap (λ (o : List ℕ). o ++ octets) h.first.is ∙ append_assoc gave h.first.rest octets };
      is_carried = subst (λ (t : Side). Begins (told ++ octets) (carried script t read)) sided
          (subst (λ (r : List ℕ). Begins (told ++ octets) (carried script new.side r)) (sym h.cut)
          (carried_from stays script h.came h.behind (told ++ octets) gave new live shut));
    }

pub prints_one : ClosedStays → (at : Stamp) (old new : Way) (piece : Piece) (before after : List ℕ) → old.lost ≡ false → new.ended ≡ old.ended
    → new.side ≡ old.side → new.carrier ≡ old.carrier → old.waits.items ≡ piece ∷ new.waits.items → new.printed.items ≡ old.printed.items ++ piece.octets.items
    → new.latest ≡ old.latest → (old.closing ≡ true → new.closing ≡ true)
    → (old.closing ≡ false → new.closing ≡ true → (old.carrier.closed ≡ true) × (new.waits.items ≡ [])) → new.lost ≡ old.lost
    → after ≡ before ++ given_line at.moment at.number old.side piece.octets.items → PrintsGiven at old new before after
prints_one stays at old new piece before after alive ended side carrier waits printed latest closing closes lost line = record {
  stays = record { ended = ended; lost = lost; closing = closing };
  parts = piece.octets.items ∷ [];
  lines = line ∙ ap (λ (o : List ℕ). before ++ o) (sym (append-nil (given_line at.moment at.number old.side piece.octets.items)));
  same_side = side;
  holds = λ script s read told gave h.
      subst (λ (o : List ℕ). HoldsWay script s read (told ++ o) gave new) (sym (append-nil piece.octets.items))
      (one_holds stays script old new piece piece.octets.items refl alive ended side carrier waits printed latest closes s read told gave h);
}

pub prints_then : (at : Stamp) (a b c : Way) (x y z : List ℕ) → PrintsGiven at a b x y → PrintsGiven at b c y z → PrintsGiven at a c x z
prints_then at a b c x y z p q =
    let line : Side → List ℕ → List ℕ = λ side part. given_line at.moment at.number side part in
    record {
      parts = p.parts ++ q.parts;
      lines =
          q.lines ∙ ap (λ (s : Side). y ++ given_lines at s q.parts) p.same_side ∙ ap (λ (o : List ℕ). o ++ given_lines at a.side q.parts) p.lines
          ∙ append_assoc x (given_lines at a.side p.parts) (given_lines at a.side q.parts)
          ∙ ap (λ (o : List ℕ). x ++ o) (sym (flat_map-append (line a.side) p.parts q.parts));
      same_side = q.same_side ∙ p.same_side;
      stays = record {
        ended = q.stays.ended ∙ p.stays.ended;
        lost = q.stays.lost ∙ p.stays.lost;
        closing = λ c. q.stays.closing (p.stays.closing c);
      };
      holds = λ script side read told gave h.
          subst (λ (o : List ℕ). HoldsWay script side read o gave c)
          (append_assoc told (joined p.parts) (joined q.parts) ∙ ap (λ (o : List ℕ). told ++ o) (sym (flat_map-append (λ (part : List ℕ). part) p.parts q.parts)))
          (q.holds script side read (told ++ joined p.parts) gave (p.holds script side read told gave h));
    }

-- where a line closes the connection behind it, it is the last
pub prints_last : ClosedStays → (at : Stamp) (old mid new : Way) (piece : Piece) (before after : List ℕ) → new ≡ record mid { closing = new.closing }
    → old.lost ≡ false → mid.ended ≡ old.ended → mid.side ≡ old.side → mid.carrier ≡ old.carrier → old.waits.items ≡ piece ∷ mid.waits.items
    → mid.printed.items ≡ old.printed.items ++ piece.octets.items → mid.latest ≡ old.latest → mid.closing ≡ old.closing → mid.lost ≡ old.lost
    → (mid.closing ≡ true → new.closing ≡ true) → (mid.closing ≡ false → new.closing ≡ true → (mid.carrier.closed ≡ true) × (mid.waits.items ≡ []))
    → after ≡ before ++ given_line at.moment at.number old.side piece.octets.items → PrintsGiven at old new before after
prints_last stays at old mid new piece before after is alive ended side carrier waits printed latest same_closing lost closing closes line =
    prints_one stays at old new piece before after alive (ap (λ (w : Way). w.ended) is ∙ ended) (ap (λ (w : Way). w.side) is ∙ side)
    (ap (λ (w : Way). w.carrier) is ∙ carrier) (waits ∙ ap (λ (w : Way). piece ∷ w.waits.items) (sym is)) (ap (λ (w : Way). w.printed.items) is ∙ printed)
    (ap (λ (w : Way). w.latest) is ∙ latest) (λ c. closing (same_closing ∙ c))
    (λ open_before c.
    let both = closes (same_closing ∙ open_before) c in
    (ap (λ (k : KCarrier). k.closed) (sym carrier) ∙ both.0, ap (λ (w : Way). w.waits.items) is ∙ both.1))
    (ap (λ (w : Way). w.lost) is ∙ lost) line
