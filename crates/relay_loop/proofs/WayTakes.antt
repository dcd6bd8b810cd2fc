-- What was read is taken, up to what a line closes the connection with.
use Rattle.std.proofs.Common.{◌≡◌, ℕ, ◌==◌, if◌then◌else◌, true, false, List, [], ◌∷◌, ◌++◌, refl, sym, ap, ◌∙◌, subst, append_assoc, append-nil, take, drop, inl, inr, fold}
use Rattle.std.proofs.lemmas.Bool.{eq-eqb}
use Rattle.std.proofs.lemmas.List.{take-append-drop}
use Rattle.link_trait.specs.Wires.{Reading, reading_of}
use Rattle.link_trait.specs.declared.wires.ReadAnswer.{ReadAnswer}
use Rattle.link_trait.specs.declared.wires.ReadAnswer.TheVariants as read_answer
use Rattle.outside.specs.Acts.{Called, Read}
use Rattle.outside.specs.Doings.{Told, Did}
use Rattle.outside.specs.Chains.{did_nothing}
use Rattle.relay_script.specs.declared.script.Script.{Script}
use Rattle.relay_model.specs.Laws.{ClosedStays}
use Rattle.relay_loop.specs.declared.way.Way.{Way}
use Rattle.relay_loop.specs.Settled.{SocketTold, told_by_read, told_by_act}
use Rattle.relay_loop.specs.WaySteps.{WayMoves, StaysOpen, EndsWay, TakesSoFar}
use Rattle.er_base.specs.declared.side.Side.{Side}
use Rattle.er_base.specs.Printing.{Begins}
use Rattle.relay_model.specs.Carried.{given_of_sent, carried}
use Rattle.relay_model.specs.Laws.{GivenBegins}
use Rattle.relay_loop.specs.Octets.{octets_read, read_in_acts}
use Rattle.relay_loop.specs.RelayLines.{RelayLine, Received, SideEnd, text_of_line, text_of_lines, received_line, side_end_line}
use Rattle.relay_loop.specs.Ways.{octets_of_pieces}
use Rattle.relay_loop.specs.Reading.{WayReads, TakesIn, EndsAsTold, Hears, HearsOnly, AreNews, PutsNews}
use Rattle.std.proofs.lemmas.List.Concat.{flat_map-append}
use Rattle.relay_loop.proofs.LiveWays.{given_unended}
use Rattle.relay_loop.proofs.WayCalls.{still, moves_none, moves_then, absorbs}

pub stays_then : (a b c : Way) → StaysOpen a b → StaysOpen b c → StaysOpen a c
stays_then a b c p q =
    record { ended = q.ended ∙ p.ended; lost = q.lost ∙ p.lost; closing = λ is. q.closing (p.closing is) }

pub stays_end : (a b c : Way) → StaysOpen a b → EndsWay b c → EndsWay a c
stays_end a b c p q = record { ended = q.ended; lost = q.lost ∙ p.lost; closing = λ is. q.closing (p.closing is) }

pub so_far_none : (script : Script) (octets : List ℕ) (way : Way) → way.ended ≡ false → way.lost ≡ false → TakesSoFar script octets octets way way
so_far_none script octets way unended alive = record {
  front = [];
  cut = refl;
  unended = unended;
  alive = alive;
  stays = record { ended = refl; lost = refl; closing = λ c. c };
  moves = moves_none script way;
}

-- some more are taken
pub so_far_more : (script : Script) (octets rest left : List ℕ) (used : ℕ) (old mid new : Way) → new.ended ≡ false → new.lost ≡ false → left ≡ drop used rest
    → TakesSoFar script octets rest old mid → WayMoves script (take used rest) [] mid new → StaysOpen mid new → TakesSoFar script octets left old new
so_far_more script octets rest left used old mid new unended alive is s moves stays = record {
  stays = stays_then old mid new s.stays stays;
  front = s.front ++ take used rest;
  cut =
      s.cut ∙ ap (λ (o : List ℕ). s.front ++ o) (sym (take-append-drop used rest)) ∙ sym (append_assoc s.front (take used rest) (drop used rest))
      ∙ ap (λ (o : List ℕ). s.front ++ take used rest ++ o) (sym is);
  unended = unended;
  alive = alive;
  moves = moves_then script s.front (take used rest) [] [] old mid new s.moves moves;
}

-- all are taken
pub all_taken : (script : Script) (octets rest : List ℕ) (old new : Way) → rest ≡ [] → TakesSoFar script octets rest old new → WayMoves script octets [] old new
all_taken script octets rest old new none s =
    subst (λ (o : List ℕ). WayMoves script o [] old new) (sym (s.cut ∙ ap (λ (o : List ℕ). s.front ++ o) none ∙ append-nil s.front)) s.moves

-- a line closes the connection
pub closed_taken : ClosedStays → (script : Script) (octets rest : List ℕ) (old new : Way) → new.carrier.closed ≡ true → TakesSoFar script octets rest old new
    → WayMoves script octets [] old new
closed_taken stays script octets rest old new closed s =
    subst (λ (o : List ℕ). WayMoves script o [] old new) (sym s.cut)
    (moves_then script s.front rest [] [] old new new s.moves (absorbs stays script rest new s.alive s.unended closed))

-- ---- a read

read_is : (conn : ℕ) (octets : List ℕ) → (if conn == conn then octets else []) ++ [] ≡ octets
read_is conn octets = let same : (conn == conn) ≡ true = eq-eqb conn conn refl in rw same (append-nil octets)

pub hears_none : (script : Script) (conn : ℕ) (way new : Way) (t : Told) → WayMoves script [] [] way new → StaysOpen way new → Hears script conn way new t t
hears_none script conn way new t moves stays =
    record { acts = []; did = did_nothing t; only = tt; moves = moves; ends = λ told. inl (stays, refl) }

by_answer : (script : Script) (answer : ReadAnswer) (slice : List ℕ) (old new : Way) → TakesIn script answer slice old new
    → WayMoves script (octets_read (reading_of answer slice)) [] old new
by_answer script (read_answer.Some count) slice old new t = t.0
by_answer script read_answer.NotNow slice old new t = t.0
by_answer script read_answer.End slice old new t = t.0
by_answer script read_answer.Failed slice old new t = t.0

own_read : (conn : ℕ) (reading : Reading) (told : SocketTold) → (if conn == conn then told_by_read told reading else told) ≡ told_by_read told reading
own_read conn reading told = let same : (conn == conn) ≡ true = eq-eqb conn conn refl in rw same refl

ends_by_answer : (script : Script) (answer : ReadAnswer) (slice : List ℕ) (old new : Way) (told : SocketTold) → TakesIn script answer slice old new
    → EndsAsTold old new told (told_by_read told (reading_of answer slice))
ends_by_answer script (read_answer.Some count) slice old new told t = inl (t.1, refl)
ends_by_answer script read_answer.NotNow slice old new told t = inl (t.1, refl)
ends_by_answer script read_answer.End slice old new told t = inr (t.1, refl)
ends_by_answer script read_answer.Failed slice old new told t = inr (t.1, refl)

pub hears_one : (script : Script) (conn size : ℕ) (old new : Way) (before now : Told) (answer : ReadAnswer) (slice : List ℕ)
    → Did before now (Called (Read conn size (reading_of answer slice)) ∷ []) → TakesIn script answer slice old new → Hears script conn old new before now
hears_one script conn size old new before now answer slice did takes = record {
  acts = Called (Read conn size (reading_of answer slice)) ∷ [];
  did = did;
  only = refl;
  moves = subst (λ (o : List ℕ). WayMoves script o [] old new) (sym (read_is conn (octets_read (reading_of answer slice)))) (by_answer script answer slice old new takes);
  ends = λ told.
      subst (λ (t : SocketTold). EndsAsTold old new told t) (sym (own_read conn (reading_of answer slice) told)) (ends_by_answer script answer slice old new told takes);
}

ends_behind : (a b c : Way) (before now : SocketTold) → StaysOpen a b → EndsAsTold b c before now → EndsAsTold a c before now
ends_behind a b c before now stays (inl e) = inl (stays_then a b c stays e.0, e.1)
ends_behind a b c before now stays (inr e) = inr (stays_end a b c stays e.0, e.1)

-- what was moved before a read that took nothing
pub hears_behind : (script : Script) (conn : ℕ) (a b c : Way) (s t : Told) → WayMoves script [] [] a b → StaysOpen a b → Hears script conn b c s t
    → Hears script conn a c s t
hears_behind script conn a b c s t moves stays h = record {
  ends = λ told. ends_behind a b c told (fold (told_by_act conn) told h.acts) stays (h.ends told);
  acts = h.acts;
  did = h.did;
  only = h.only;
  moves = moves_then script [] (read_in_acts conn h.acts) [] [] a b c moves h.moves;
}

-- ---- what was told is carried of more

begins_on : (a b c : List ℕ) → Begins a b → Begins b c → Begins a c
begins_on a b c p q = record { rest = p.rest ++ q.rest; is = q.is ∙ ap (λ (o : List ℕ). o ++ q.rest) p.is ∙ append_assoc a p.rest q.rest }

-- whatever is read behind, where the side didn't end
pub reads_on : GivenBegins → (script : Script) (octets : List ℕ) (way : Way) → way.lost ≡ false → way.ended ≡ false → WayReads script octets way
reads_on begins script octets way alive unended side read told gave h =
    let l = h.live alive in
    let given : Begins told (given_of_sent script way.side h.came) =
    record { rest = octets_of_pieces way.waits.items; is = sym (given_unended script h.came told gave way l unended) } in
    let cut : read ++ octets ≡ h.came ++ (h.behind ++ octets) = ap (λ (o : List ℕ). o ++ octets) h.cut ∙ append_assoc h.came h.behind octets in
    subst (λ (s : Side). Begins told (carried script s (read ++ octets))) h.sided
    (subst (λ (o : List ℕ). Begins told (carried script way.side o)) (sym cut)
    (begins_on told (given_of_sent script way.side h.came) (carried script way.side (h.came ++ (h.behind ++ octets))) given
    (begins.carried script way.side h.came (h.behind ++ octets))))

pub hears_only : (script : Script) (conn size : ℕ) (old : Way) (before now : Told) (answer : ReadAnswer) (slice : List ℕ)
    → Did before now (Called (Read conn size (reading_of answer slice)) ∷ []) → ((octets : List ℕ) → WayReads script octets old) → HearsOnly script conn old before now
hears_only script conn size old before now answer slice did reads = record {
  acts = Called (Read conn size (reading_of answer slice)) ∷ [];
  did = did;
  only = refl;
  reads = reads _;
}

-- ---- lines of what came

pub news_none : (number : ℕ) (waiting : List ℕ) → PutsNews number waiting waiting
news_none number waiting = record { news = []; are = tt; is = sym (append-nil waiting) }

news_append : (number : ℕ) (xs ys : List RelayLine) → AreNews number xs → AreNews number ys → AreNews number (xs ++ ys)
news_append number [] ys p q = q
news_append number (x ∷ xs) ys p q = (p.0, news_append number xs ys p.1 q)

pub news_then : (number : ℕ) (a b c : List ℕ) → PutsNews number a b → PutsNews number b c → PutsNews number a c
news_then number a b c p q = record {
  news = p.news ++ q.news;
  are = news_append number p.news q.news p.are q.are;
  is = q.is ∙ ap (λ (o : List ℕ). o ++ text_of_lines q.news) p.is ∙ append_assoc a (text_of_lines p.news) (text_of_lines q.news)
      ∙ ap (λ (o : List ℕ). a ++ o) (sym (flat_map-append text_of_line p.news q.news));
}

pub news_received : (moment number : ℕ) (side : Side) (octets waiting left : List ℕ) → left ≡ waiting ++ received_line moment number side octets
    → PutsNews number waiting left
unfolding text_of_line
news_received moment number side octets waiting left is = record {
  news = Received moment number side octets ∷ [];
  are = (refl, tt);
  is = is ∙ ap (λ (o : List ℕ). waiting ++ o) (sym (append-nil (received_line moment number side octets)));
}

pub news_ended : (moment number : ℕ) (side : Side) (waiting left : List ℕ) → left ≡ waiting ++ side_end_line moment number side → PutsNews number waiting left
unfolding text_of_line
news_ended moment number side waiting left is = record {
  news = SideEnd moment number side ∷ [];
  are = (refl, tt);
  is = is ∙ ap (λ (o : List ℕ). waiting ++ o) (sym (append-nil (side_end_line moment number side)));
}

-- what was moved before a read that broke off
pub hears_only_behind : (script : Script) (conn : ℕ) (a b : Way) (s t : Told) → WayMoves script [] [] a b → HearsOnly script conn b s t → HearsOnly script conn a s t
hears_only_behind script conn a b s t moves h = record {
  acts = h.acts;
  did = h.did;
  only = h.only;
  reads = λ side read told gave holds. h.reads side read told gave (still script side read told gave a b moves holds);
}
