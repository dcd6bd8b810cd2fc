-- What is kept of a connection, where nothing is left to give: all was given that can be.
use Rattle.std.proofs.Common.{◌≡◌, ◌⊎◌, ℕ, arith, Bool, ◌||◌, true, false, if◌then◌else◌, List, [], ◌∷◌, ◌++◌, refl, sym, ap, ◌∙◌, subst, append_assoc, append-nil, true≢false, inl, inr, Option, None}
use Rattle.er_base.specs.declared.side.Side.{Side}
use Rattle.er_base.specs.declared.side.Side.TheVariants.{E, R}
use Rattle.outside.specs.Doings.{Told}
use Rattle.relay_script.specs.declared.script.Script.{Script}
use Rattle.relay_script.specs.declared.script_line.ScriptLine.{ScriptLine}
use Rattle.relay_model.specs.Units.{Part, Outside, Whole, Standing, Unbegun, unit_turn, standing_from, parts_from, standing_behind, parts_of_sent}
use Rattle.relay_model.specs.Loads.{Load, load_of_unit, loads_from}
use Rattle.relay_model.specs.Carried.{closes_behind, loads_of_sent, given_of_sent, is_closed_by, carried}
use Rattle.relay_model.specs.Laws.{ClosedStays}
use Rattle.relay_carrier.specs.Prompt.{NoneDelays}
use Rattle.relay_loop.specs.declared.piece.Piece.{Piece}
use Rattle.relay_loop.specs.declared.way.Way.{Way}
use Rattle.relay_loop.specs.declared.link.Link.{Link}
use Rattle.relay_loop.specs.Settled.{given_so_far, IsUndelayed}
use Rattle.relay_loop.specs.Ways.{octets_of_pieces, AreDueBy, IsUndue, HoldsWay}
use Rattle.relay_loop.specs.RelayDeeds.{RelayDeed, given_in, octets_read_at, octets_told_of, socket_in}
use Rattle.relay_loop.specs.Links.{HoldsLink, IsOut, KnowsEnds, KeepsLink, IsFinished, IsOverLink, IsIdleLink, IsSettledOf, VisitsOn, Settles, Leaves}
use Rattle.relay_loop.proofs.LiveWays.{pieces_none, closed_carried}
use Rattle.relay_loop.proofs.LinkCalls.{visits_then}

-- ---- a line that has closed the connection

parts_append : (s : Standing) (xs ys : List ℕ) → parts_from s (xs ++ ys) ≡ parts_from s xs ++ parts_from (standing_from s xs) ys
unfolding parts_from standing_from
parts_append s [] ys = refl
parts_append s (x ∷ xs) ys =
    ap (λ (o : List Part). (unit_turn s x).parts ++ o) (parts_append (unit_turn s x).next xs ys)
    ∙ sym (append_assoc (unit_turn s x).parts (parts_from (unit_turn s x).next xs) (parts_from (standing_from (unit_turn s x).next xs) ys))

closes_if : (closes : Bool) (a b : List Load) → (closes_behind a ≡ true → closes_behind b ≡ true) → (closes || closes_behind (if closes then [] else a)) ≡ true
    → (closes || closes_behind (if closes then [] else b)) ≡ true
closes_if true a b more h = refl
closes_if false a b more h = more h

closes_more : (lines : List ScriptLine) (side : Side) (before : List (List ℕ)) (xs ys : List Part) → closes_behind (loads_from lines side before xs) ≡ true
    → closes_behind (loads_from lines side before (xs ++ ys)) ≡ true
unfolding loads_from
closes_more lines side before [] ys h = absurd (true≢false (sym h))
closes_more lines side before (Outside octets ∷ xs) ys h = closes_more lines side before xs ys h
closes_more lines side before (Whole unit ∷ xs) ys h =
    closes_if (load_of_unit lines side before unit).closes (loads_from lines side (before ++ unit ∷ []) xs) (loads_from lines side (before ++ unit ∷ []) (xs ++ ys))
    (closes_more lines side (before ++ unit ∷ []) xs ys) h

closed_more : (script : Script) (side : Side) (came more : List ℕ) → is_closed_by script side came ≡ true → is_closed_by script side (came ++ more) ≡ true
unfolding is_closed_by loads_of_sent parts_from standing_from
closed_more script side came more h =
    ap (λ (p : List Part). closes_behind (loads_from script.lines side [] p)) (parts_append (standing_from Unbegun []) came more)
    ∙ closes_more script.lines side [] (parts_of_sent came) (parts_from (standing_behind came) more) h

-- ---- what is given of all that was read

closed_read : (script : Script) (side : Side) (read told gave : List ℕ) (way : Way) (h : HoldsWay script side read told gave way) → way.closing ≡ true
    → is_closed_by script side read ≡ true
closed_read script side read told gave way h c =
    subst (λ (o : List ℕ). is_closed_by script side o ≡ true) (sym h.cut) (closed_more script side h.came h.behind (h.closing c))

-- behind a close nothing more is given
so_far_read : ClosedStays → (script : Script) (side : Side) (ended : Bool) (came behind : List ℕ) → (behind ≡ []) ⊎ (is_closed_by script side came ≡ true)
    → given_so_far script side ended came ≡ given_so_far script side ended (came ++ behind)
so_far_read stays script side ended came behind (inl none) =
    ap (λ (o : List ℕ). given_so_far script side ended o) (sym (ap (λ (o : List ℕ). came ++ o) none ∙ append-nil came))
so_far_read stays script side true came behind (inr closed) = closed_carried script side came closed ∙ sym (stays script side came behind closed).1
so_far_read stays script side false came behind (inr closed) = sym (stays script side came behind closed).0

by_line : (script : Script) (side : Side) (read : List ℕ) → (false ≡ true) ⊎ (is_closed_by script side read ≡ true)
    → given_of_sent script side read ≡ carried script side read
by_line script side read (inl f) = absurd (true≢false (sym f))
by_line script side read (inr closed) = sym (closed_carried script side read closed)

-- whether the side ended is as its socket told, unless a line closes the connection
so_far_told : (script : Script) (side : Side) (ended told : Bool) (read : List ℕ) → (ended ≡ true → told ≡ true)
    → (told ≡ true → (ended ≡ true) ⊎ (is_closed_by script side read ≡ true)) → given_so_far script side ended read ≡ given_so_far script side told read
so_far_told script side true true read was knows = refl
so_far_told script side true false read was knows = absurd (true≢false (sym (was refl)))
so_far_told script side false false read was knows = refl
so_far_told script side false true read was knows = by_line script side read (knows refl)

-- a way on which nothing waits
pub all_given : ClosedStays → (script : Script) (side : Side) (ended : Bool) (read told gave : List ℕ) (way : Way) → HoldsWay script side read told gave way
    → way.lost ≡ false → way.waits.items ≡ [] → way.printed.items ≡ [] → (way.ended ≡ true → ended ≡ true)
    → (ended ≡ true → (way.ended ≡ true) ⊎ (is_closed_by script side read ≡ true)) → gave ≡ given_so_far script side ended read
all_given stays script side ended read told gave way h alive waits printed was knows =
    let l = h.live alive in
    sym (append-nil gave) ∙ (ap (λ (o : List ℕ). gave ++ o) (sym printed) ∙ (sym l.told_is
    ∙ (sym (append-nil told) ∙ (ap (λ (o : List ℕ). told ++ o) (sym pieces_none) ∙ (ap (λ (p : List Piece). told ++ octets_of_pieces p) (sym waits)
    ∙ (l.given_is ∙ (ap (λ (s : Side). given_so_far script s way.ended h.came) h.sided
    ∙ (so_far_read stays script side way.ended h.came h.behind h.shut
    ∙ (ap (λ (o : List ℕ). given_so_far script side way.ended o) (sym h.cut) ∙ so_far_told script side way.ended ended read was knows)))))))))

-- ---- one way of a connection

-- a flag that a line, or a failure, would have set
unset : (a b : Bool) → (a ≡ true → b ≡ true) → b ≡ false → a ≡ false
unset false b sets none = refl
unset true b sets none = sym (sets refl) ∙ none

out_of : (script : Script) (side : Side) (read : List ℕ) (way other : Way) → other.closing ≡ false → (way.closing ≡ true → is_closed_by script side read ≡ true)
    → IsOut way other → (way.ended ≡ true) ⊎ (is_closed_by script side read ≡ true)
out_of script side read way other open_other closed (inl h) = inl h
out_of script side read way other open_other closed (inr (inl h)) = inr (closed h)
out_of script side read way other open_other closed (inr (inr h)) = absurd (true≢false (sym h ∙ open_other))

pub way_given_e : ClosedStays → (script : Script) (done : List RelayDeed) (link : Link) → HoldsLink script done link → KnowsEnds done link
    → (socket_in link.r.0 done).failed ≡ false → is_closed_by script R (octets_read_at link.r.0 done) ≡ false
    → (link.from_e.lost ≡ false → link.from_r.closing ≡ false → (link.from_e.waits.items ≡ []) × (link.from_e.printed.items ≡ []))
    → given_in link.r.0 done ≡ given_so_far script E (socket_in link.e.0 done).ended (octets_read_at link.e.0 done)
way_given_e stays script done link h k unfailed unclosed none =
    let alive = unset link.from_e.lost (socket_in link.r.0 done).failed h.flags.lost_e unfailed in
    let open_r = unset link.from_r.closing (is_closed_by script R (octets_read_at link.r.0 done))
    (closed_read script R (octets_read_at link.r.0 done) (octets_told_of link.number R done) (given_in link.e.0 done) link.from_r h.from_r) unclosed in
    let both = none alive open_r in
    all_given stays script E (socket_in link.e.0 done).ended (octets_read_at link.e.0 done) (octets_told_of link.number E done) (given_in link.r.0 done) link.from_e h.from_e
    alive both.0 both.1 h.flags.ended_e
    (λ ended.
    out_of script E (octets_read_at link.e.0 done) link.from_e link.from_r open_r
    (closed_read script E (octets_read_at link.e.0 done) (octets_told_of link.number E done) (given_in link.r.0 done) link.from_e h.from_e) (k.e ended unfailed))

pub way_given_r : ClosedStays → (script : Script) (done : List RelayDeed) (link : Link) → HoldsLink script done link → KnowsEnds done link
    → (socket_in link.e.0 done).failed ≡ false → is_closed_by script E (octets_read_at link.e.0 done) ≡ false
    → (link.from_r.lost ≡ false → link.from_e.closing ≡ false → (link.from_r.waits.items ≡ []) × (link.from_r.printed.items ≡ []))
    → given_in link.e.0 done ≡ given_so_far script R (socket_in link.r.0 done).ended (octets_read_at link.r.0 done)
way_given_r stays script done link h k unfailed unclosed none =
    let alive = unset link.from_r.lost (socket_in link.e.0 done).failed h.flags.lost_r unfailed in
    let open_e = unset link.from_e.closing (is_closed_by script E (octets_read_at link.e.0 done))
    (closed_read script E (octets_read_at link.e.0 done) (octets_told_of link.number E done) (given_in link.r.0 done) link.from_e h.from_e) unclosed in
    let both = none alive open_e in
    all_given stays script R (socket_in link.r.0 done).ended (octets_read_at link.r.0 done) (octets_told_of link.number R done) (given_in link.e.0 done) link.from_r h.from_r
    alive both.0 both.1 h.flags.ended_r
    (λ ended.
    out_of script R (octets_read_at link.r.0 done) link.from_r link.from_e open_e
    (closed_read script R (octets_read_at link.r.0 done) (octets_told_of link.number R done) (given_in link.e.0 done) link.from_r h.from_r) (k.r ended unfailed))

-- ---- a connection that is over

over_e : (script : Script) (done : List RelayDeed) (link : Link) → HoldsLink script done link → IsOverLink link → link.from_e.lost ≡ false → link.from_r.closing ≡ false
    → (link.from_e.waits.items ≡ []) × (link.from_e.printed.items ≡ [])
over_e script done link h (inl over) alive open_r = (((h.from_e.live alive).last over.0).1, over.1)
over_e script done link h (inr (inl over)) alive open_r = absurd (true≢false (sym over.0 ∙ open_r))
over_e script done link h (inr (inr over)) alive open_r = over.0

over_r : (script : Script) (done : List RelayDeed) (link : Link) → HoldsLink script done link → IsOverLink link → link.from_r.lost ≡ false → link.from_e.closing ≡ false
    → (link.from_r.waits.items ≡ []) × (link.from_r.printed.items ≡ [])
over_r script done link h (inl over) alive open_e = absurd (true≢false (sym over.0 ∙ open_e))
over_r script done link h (inr (inl over)) alive open_e = (((h.from_r.live alive).last over.0).1, over.1)
over_r script done link h (inr (inr over)) alive open_e = over.1

finished : ClosedStays → (script : Script) (done : List RelayDeed) (link : Link) → HoldsLink script done link → KnowsEnds done link → IsOverLink link
    → IsFinished script link.e.0 link.r.0 done
finished stays script done link h k over = record {
  of_e = λ unfailed unclosed. way_given_e stays script done link h k unfailed unclosed (over_e script done link h over);
  of_r = λ unfailed unclosed. way_given_r stays script done link h k unfailed unclosed (over_r script done link h over);
}

pub leaves : ClosedStays → (script : Script) (old new : Link) (x y z : List ℕ) (s t u : Told) → IsOverLink new → Settles script old new x y s t
    → VisitsOn script new new y z t u → Leaves script old new x z s u
unfolding visits_then
leaves stays script old new x y z s t u over p q =
    let v = p.visit.visits in
    record {
      visits = visits_then script old new new x y z s t u v q.visits;
      finishes = λ done k.
          let holds = v.holds done k.holds in
          let knows = p.visit.knows done k.holds k.knows in
          let all = done ++ v.deeds ++ q.visits.deeds in
          subst (λ (d : List RelayDeed). IsFinished script old.e.0 old.r.0 d) (append_assoc done v.deeds q.visits.deeds)
          (rw (sym v.e, sym v.r) (finished stays script all new (q.visits.holds (done ++ v.deeds) holds) (q.knows (done ++ v.deeds) holds knows) over));
    }

-- ---- at a wait

due_now : (moment : ℕ) (pieces : List Piece) → AreDueBy moment pieces → IsUndue moment pieces → pieces ≡ []
due_now moment [] due undue = refl
due_now moment (piece ∷ pieces) due undue = absurd (let q : ⊥ = omega (arith, due.0, undue) in q)

waits_by_line : (pieces : List Piece) (way : Way) → (way.closing ≡ true → way.waits.items ≡ []) → (way.closing ≡ true) ⊎ (way.waits.items ≡ []) → way.waits.items ≡ []
waits_by_line pieces way last (inl closing) = last closing
waits_by_line pieces way last (inr none) = none

nothing_waits : (script : Script) (side : Side) (until : Option ℕ) (read told gave : List ℕ) (way : Way) → HoldsWay script side read told gave way → way.lost ≡ false
    → IsUndue way.latest way.waits.items → (until ≡ None → (way.closing ≡ true) ⊎ (way.waits.items ≡ [])) → IsUndelayed script side until → way.waits.items ≡ []
nothing_waits script side until read told gave way h alive undue idle (inl none) =
    due_now way.latest way.waits.items ((h.live alive).prompt (subst (λ (s : Side). NoneDelays s script.lines) (sym h.sided) none)).waits undue
nothing_waits script side until read told gave way h alive undue idle (inr unbound) =
    waits_by_line way.waits.items way (λ c. ((h.live alive).last c).1) (idle unbound)

printed_none : (printed : List ℕ) (full : Bool) → (printed ≡ []) ⊎ (full ≡ true) → full ≡ false → printed ≡ []
printed_none printed full (inl none) room = none
printed_none printed full (inr is) room = absurd (true≢false (sym is ∙ room))

idle_e : (link : Link) → link.from_r.closing ≡ false → IsIdleLink link → (link.from_e.closing ≡ true) ⊎ (link.from_e.waits.items ≡ [])
idle_e link open_r (inl (inl c)) = inl c
idle_e link open_r (inl (inr c)) = absurd (true≢false (sym c ∙ open_r))
idle_e link open_r (inr none) = inr none.0

idle_r : (link : Link) → link.from_e.closing ≡ false → IsIdleLink link → (link.from_r.closing ≡ true) ⊎ (link.from_r.waits.items ≡ [])
idle_r link open_e (inl (inl c)) = absurd (true≢false (sym c ∙ open_e))
idle_r link open_e (inl (inr c)) = inl c
idle_r link open_e (inr none) = inr none.1

pub settled_link : ClosedStays → (script : Script) (until : Option ℕ) (done : List RelayDeed) (link : Link) → KeepsLink script done link → (until ≡ None → IsIdleLink link)
    → IsSettledOf script until done link.e.0 link.r.0
settled_link stays script until done link k idle = (
  λ unfailed room unclosed undelayed.
      way_given_e stays script done link k.holds k.knows unfailed unclosed
      (λ alive open_r. (
        nothing_waits script E until (octets_read_at link.e.0 done) (octets_told_of link.number E done) (given_in link.r.0 done) link.from_e k.holds.from_e alive
            (k.rests.e.waits alive open_r) (λ unbound. idle_e link open_r (idle unbound)) undelayed,
        printed_none link.from_e.printed.items (socket_in link.r.0 done).full (k.rests.e.printed alive open_r) room,
      )),
  λ unfailed room unclosed undelayed.
      way_given_r stays script done link k.holds k.knows unfailed unclosed
      (λ alive open_e. (
        nothing_waits script R until (octets_read_at link.r.0 done) (octets_told_of link.number R done) (given_in link.e.0 done) link.from_r k.holds.from_r alive
            (k.rests.r.waits alive open_e) (λ unbound. idle_r link open_e (idle unbound)) undelayed,
        printed_none link.from_r.printed.items (socket_in link.e.0 done).full (k.rests.r.printed alive open_e) room,
      )),
)

pub settled_finished : (script : Script) (until : Option ℕ) (done : List RelayDeed) (e r : ℕ) → IsFinished script e r done → IsSettledOf script until done e r
settled_finished script until done e r f =
    (λ unfailed room unclosed undelayed. f.of_e unfailed unclosed, λ unfailed room unclosed undelayed. f.of_r unfailed unclosed)
