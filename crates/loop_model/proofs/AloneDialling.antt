-- A loop that dials does of its connection what it does where no other comes.
use Rattle.loop_model.specs.Ends.{ModelEnd, model_ends}
use Rattle.std.proofs.Common.{◌≡◌, ℕ, ◌+◌, ◌<◌, ◌≤◌, max, inl, inr, Bool, false, ◌&&◌, List, [], ◌∷◌, ◌++◌, length, Option, Some, None, refl, sym, ◌∙◌, ap, ap₂, subst, append-nil, arith, ne_eqb}
use Rattle.std.specs.Prelude.{◌==◌, ◌⊎◌, if◌then◌else◌}
use Rattle.std.proofs.lemmas.Bool.{cases_Bool}
use Rattle.er_users.specs.Users.{Mind}
use Rattle.rand_core.specs.Stream.{Stream, next_u64}
use Rattle.link_trait.specs.Wires.{Call, Turns}
use Rattle.link_trait.specs.declared.wires.Conn.{Conn}
use Rattle.link_trait.specs.declared.wires.Happening.{Happening}
use Rattle.link_trait.specs.declared.wires.Happening.TheVariants as happening
use Rattle.loop_model.specs.Journals.{JournalEntry}
use Rattle.loop_model.specs.Outs.{Out, still, next, acts, exactly, first_answer_of}
use Rattle.loop_model.specs.Sessions.{Rules, Session, GivenToSession, Begins, nothing_said}
use Rattle.loop_model.specs.Visits.{Met, Visit, Read, Write, visited, served}
use Rattle.loop_model.specs.Loops.{Plan, rules_of, Loop, visit_at, numbers, swept, Sweeps, before, until, next_user, Caller, calling, called_by, called, happened, visited_at, Halt, OnClosed, Course, asks, halt_by, halt_behind, Turn, nothing_comes, readied, turned_unless, went, run, Dialled, opens, dials_to, dials, begun_dial}
use Rattle.loop_model.specs.Parts.{opened_in, Rises, newest}
use Rattle.loop_model.specs.Laws.{IsDialling}
use Rattle.loop_model.specs.Orderly.{order_dials}
use Rattle.loop_model.specs.Alone.{own_happening, own_met, own_ticks, own_turn, own_turns, deeds_on, own_dialled, DialStandsAlone}
use Rattle.loop_model.proofs.Projections.{opened_in-append, rises_first, rises_rest, newest_later}
use Rattle.loop_model.proofs.Steadies.{Usual, Left, Stays, Closed, left_served, steady_handled}
use Rattle.loop_model.proofs.Lives.{Own, same}
use Rattle.loop_model.proofs.Owns.{own_steady}
use Rattle.loop_model.proofs.Loopwise.{wise_went}
use Rattle.loop_model.proofs.Orders.{own_calls, UpTo, Ordered, InOrder, in_order}
use Rattle.loop_model.proofs.Recording.{halts_rest}
use Rattle.loop_model.proofs.Rounds.{went_goes, went_halted, acts_halted}
use Rattle.loop_model.proofs.Sharing.{deeds_on-append, deeds_on_two, only, only_none, left_own, before_beside}
use Rattle.loop_model.proofs.Alone.{solo_loop, solo, Alike, accepts, accepted_other, visited_other, visited_own, happened_alike, left_opens, readied_opens, exactly_own, same_at}

-- ---- where no session of it is left, nothing is done of it

record Nothing (n : ℕ) (o : Out (Course ModelEnd)) : Type 0 where
  order : deeds_on n o.order ≡ []
  sessions : only n o.state.loop.sessions ≡ []

record NothingHappens (n : ℕ) (o : Out (Loop ModelEnd)) : Type 0 where
  order : deeds_on n o.order ≡ []
  sessions : only n o.state.sessions ≡ []

on_ordered : (plan : Plan) (c : Course ModelEnd) (a : Turn) (top : ℕ) → Rises top (opened_in (went model_ends plan c a).calls) → Ordered top c.loop.sessions
    → Ordered (newest top (opened_in (went model_ends plan c a).calls)) (went model_ends plan c a).state.loop.sessions
unfolding InOrder
on_ordered plan c a top rises ordered = wise_went plan InOrder (in_order plan) c a top rises ordered

upward : (a b c : ℕ) → a ≤ b → b ≤ c → a ≤ c
upward a b c p q = omega arith

module _ (plan : Plan) (n : ℕ) where
  readied_silent : (c : Course ModelEnd) (a : Turn) → Rises 0 (numbers c.loop.sessions) → only n c.loop.sessions ≡ [] → Nothing n (readied model_ends plan c a)
  unfolding readied before swept deeds_on
  readied_silent c a rises none =
      let m = max c.loop.moment a.first in
      let own : Sweeps = record { ticks = own_ticks n a.sweeps.ticks (numbers c.loop.sessions); closings = [] } in
      let h = before_beside (rules_of plan) m n c.loop.sessions a.sweeps rises in
      record {
        order = h.order ∙ ap (λ z. deeds_on n (before model_ends (rules_of plan) m z own).order) none;
        sessions = sym h.state ∙ ap (λ z. (before model_ends (rules_of plan) m z own).state) none;
      }

  other_silent : (l : Loop ModelEnd) (o : Out (Loop ModelEnd)) → Alike n l.users l.words o (still (solo_loop n l l.users l.words)) → only n l.sessions ≡ [] → NothingHappens n o
  unfolding deeds_on
  other_silent l o alike none = record { order = alike.order; sessions = sym (ap (λ (z : Loop ModelEnd). z.sessions) alike.state) ∙ none }

  visited_silent : (visit : Visit) (l : Loop ModelEnd) (conn : Conn) (a : Met) → only n l.sessions ≡ [] → NothingHappens n (visited_at model_ends plan l visit conn.0 a)
  unfolding visit_at deeds_on
  visited_silent visit l conn a none =
      let f = visited model_ends (rules_of plan) l.moment visit in
      elim (cases_Bool (conn.0 == n)) [
        | inl is ↦
            let alike = visited_own plan n visit l l.users l.words conn.0 a is in
            record {
              order = alike.order ∙ ap (λ z. deeds_on n (visit_at f conn.0 z a).order) none;
              sessions = sym (ap (λ (z : Loop ModelEnd). z.sessions) alike.state) ∙ ap (λ z. (visit_at f conn.0 z a).state) none;
            }
        | inr ne ↦ other_silent l (visited_at model_ends plan l visit conn.0 a) (visited_other plan n visit l l.users l.words conn.0 a ne) none
      ]

  happened_silent : (what : Happening) (l : Loop ModelEnd) (a : Met) → accepts n what ≡ false → only n l.sessions ≡ [] → NothingHappens n (happened model_ends plan l what a)
  unfolding happened deeds_on
  happened_silent (happening.Accepted conn) l a ne none = other_silent l (happened model_ends plan l (happening.Accepted conn) a) (accepted_other plan n l l.users l.words conn.0 a.memory ne) none
  happened_silent (happening.Readable conn) l a ne none = visited_silent Read l conn a none
  happened_silent (happening.Writable conn) l a ne none = visited_silent Write l conn a none
  happened_silent happening.Quiet l a ne none = record { order = refl; sessions = none }
  happened_silent happening.Ended l a ne none = record { order = refl; sessions = none }
  happened_silent happening.Failed l a ne none = record { order = refl; sessions = none }

  not_accepted : (what : Happening) (top : ℕ) (ds cs : List Call) (at : Option ℕ) → opened_in ds ≡ [] → n ≤ top → Rises top (opened_in (ds ++ Turns at what ∷ cs)) → accepts n what ≡ false
  unfolding opened_in
  not_accepted (happening.Accepted conn) top ds cs at none le rises =
      let e : opened_in (ds ++ Turns at (happening.Accepted conn) ∷ cs) ≡ conn.0 ∷ opened_in cs =
      opened_in-append ds (Turns at (happening.Accepted conn) ∷ cs) ∙ ap (λ z. z ++ opened_in (Turns at (happening.Accepted conn) ∷ cs)) none in
      let rise : Rises top (conn.0 ∷ opened_in cs) = subst (λ z. Rises top z) e rises in
      let lt : top < conn.0 = rise.0 in
      ne_eqb conn.0 n (λ e. let x : ⊥ = omega arith in x)
  not_accepted (happening.Readable conn) top ds cs at none le rises = refl
  not_accepted (happening.Writable conn) top ds cs at none le rises = refl
  not_accepted happening.Quiet top ds cs at none le rises = refl
  not_accepted happening.Ended top ds cs at none le rises = refl
  not_accepted happening.Failed top ds cs at none le rises = refl

  abbrev goes : Course ModelEnd → Turn → Out (Course ModelEnd)
  goes c a = next (readied model_ends plan c a) (λ d. turned_unless model_ends None plan d a)

  -- that a turn that comes doesn't accept it
  goes_past : (c : Course ModelEnd) (a : Turn) (top : ℕ) → n ≤ top → Rises top (opened_in (goes c a).calls) → accepts n a.happening ≡ false
  goes_past c a top le rises =
      let d = readied model_ends plan c a in
      let h = happened model_ends plan (asks a.second d.state).loop a.happening a.met in
      not_accepted a.happening top d.calls h.calls (until model_ends d.state.loop.sessions) (readied_opens plan c a) le rises

  goes_silent : (c : Course ModelEnd) (a : Turn) (top : ℕ) → n ≤ top → Rises 0 (numbers c.loop.sessions) → Rises top (opened_in (goes c a).calls) → only n c.loop.sessions ≡ []
      → Nothing n (goes c a)
  unfolding deeds_on
  goes_silent c a top le rise rises none =
      let d = readied model_ends plan c a in
      let t = turned_unless model_ends None plan d.state a in
      let r = readied_silent c a rise none in
      let h = happened_silent a.happening (asks a.second d.state).loop a.met (goes_past c a top le rises) r.sessions in
      record { order = deeds_on-append n d.order t.order ∙ ap (λ z. z ++ deeds_on n t.order) r.order ∙ h.order; sessions = h.sessions }

  silent_behind : (halt : Option Halt) (c : Course ModelEnd) (a : Turn) (top : ℕ) → c.halt ≡ None → (readied model_ends plan c a).state.halt ≡ halt → n ≤ top
      → Rises 0 (numbers c.loop.sessions) → Rises top (opened_in (went model_ends plan c a).calls) → only n c.loop.sessions ≡ [] → Nothing n (went model_ends plan c a)
  silent_behind (Some halt) c a top going is le rise rises none =
      subst (λ (z : Out (Course ModelEnd)). Nothing n z) (sym (halts_rest.turn plan c a halt going is)) (readied_silent c a rise none)
  silent_behind None c a top going is le rise rises none =
      let e = went_goes plan c a going is in
      subst (λ (z : Out (Course ModelEnd)). Nothing n z) (sym e)
      (goes_silent c a top le rise (subst (λ (z : Out (Course ModelEnd)). Rises top (opened_in z.calls)) e rises) none)

  silent_from : (halt : Option Halt) (c : Course ModelEnd) (a : Turn) (top : ℕ) → c.halt ≡ halt → n ≤ top
      → Rises 0 (numbers c.loop.sessions) → Rises top (opened_in (went model_ends plan c a).calls) → only n c.loop.sessions ≡ [] → Nothing n (went model_ends plan c a)
  unfolding deeds_on
  silent_from (Some halt) c a top is le rise rises none =
      subst (λ (z : Out (Course ModelEnd)). Nothing n z) (sym (went_halted plan c a halt is)) (record { order = refl; sessions = none })
  silent_from None c a top is le rise rises none = silent_behind (readied model_ends plan c a).state.halt c a top is refl le rise rises none

  acts_silent : (turns : List Turn) (c : Course ModelEnd) (top : ℕ) → n ≤ top → Ordered top c.loop.sessions → Rises top (opened_in (acts (went model_ends plan) c turns).calls)
      → only n c.loop.sessions ≡ [] → Nothing n (acts (went model_ends plan) c turns)
  unfolding acts deeds_on
  acts_silent [] c top le ordered rises none = record { order = refl; sessions = none }
  acts_silent (a ∷ turns) c top le ordered rises none =
      let o = went model_ends plan c a in
      let rest = acts (went model_ends plan) o.state turns in
      let both : Rises top (opened_in o.calls ++ opened_in rest.calls) = subst (λ z. Rises top z) (opened_in-append o.calls rest.calls) rises in
      let here = rises_first top (opened_in o.calls) (opened_in rest.calls) both in
      let s = silent_from c.halt c a top refl le ordered.rises here none in
      let r =
      acts_silent turns o.state (newest top (opened_in o.calls)) (upward n top (newest top (opened_in o.calls)) le (newest_later top (opened_in o.calls) here)) (on_ordered plan c a top here ordered)
      (rises_rest top (opened_in o.calls) (opened_in rest.calls) both) s.sessions in
      record { order = deeds_on-append n o.order rest.order ∙ ap (λ z. z ++ deeds_on n rest.order) s.order ∙ r.order; sessions = r.sessions }

  silent_last : (d k t : Out (Course ModelEnd)) → deeds_on n d.order ≡ deeds_on n k.order → deeds_on n t.order ≡ [] → deeds_on n (d.order ++ t.order) ≡ deeds_on n k.order
  silent_last d k t e none = deeds_on-append n d.order t.order ∙ ap (λ z. deeds_on n d.order ++ z) none ∙ append-nil (deeds_on n d.order) ∙ e

  -- ---- it halts where the last session goes: with others at once, or later

  data Halts (ss : List (Session ModelEnd)) : Type 0 where
    Both : halt_by plan (only n ss) ≡ halt_by plan ss → Halts ss
    First : halt_by plan (only n ss) ≡ Some OnClosed → only n ss ≡ [] → halt_by plan ss ≡ None → Halts ss

  halt_some : (s : Session ModelEnd) (ss : List (Session ModelEnd)) → halt_by plan (s ∷ ss) ≡ None
  halt_some s ss =
      let g : Bool → Option Halt = λ b. if plan.dials && b then Some OnClosed else None in
      let other : (length (s ∷ ss) == 0) ≡ false = ne_eqb (length (s ∷ ss)) 0 (λ e. let x : ⊥ = omega arith in x) in
      let off : (plan.dials && false) ≡ false = elim (cases_Bool plan.dials) [ inl p ↦ rw p refl | inr p ↦ rw p refl ] in
      ap g other ∙ (let k : Bool → Option Halt = λ b. if b then Some OnClosed else None in ap k off)

  halts_by : (ss ts : List (Session ModelEnd)) → only n ss ≡ ts → halt_by plan ss ≡ None → Halts ss
  halts_by ss [] is none =
      let g : Bool → Option Halt = λ b. if b && (length {A = Session ModelEnd} [] == 0) then Some OnClosed else None in
      elim (cases_Bool plan.dials) [
        | inl p ↦ First (ap (halt_by plan) is ∙ ap g p) is none
        | inr p ↦ Both (ap (halt_by plan) is ∙ ap g p ∙ sym none)
      ]
  halts_by ss (t ∷ ts) is none = Both (ap (halt_by plan) is ∙ halt_some t ts ∙ sym none)

  halts : (ss : List (Session ModelEnd)) → Halts ss
  unfolding only
  halts [] = Both refl
  halts (s ∷ ss) = halts_by (s ∷ ss) (only n (s ∷ ss)) refl (halt_some s ss)

  -- ---- a turn

  -- the loop of that connection alone goes on with this, or it has halted, and nothing more is done of the connection
  data Steps (us : List Mind) (ws : Stream) (o p : Out (Course ModelEnd)) : Type 0 where
    On : deeds_on n o.order ≡ deeds_on n p.order → p.state ≡ solo n o.state us ws → Steps us ws o p
    Done : (halt : Halt) → deeds_on n o.order ≡ deeds_on n p.order → p.state.halt ≡ Some halt → p.state.loop.sessions ≡ [] → only n o.state.loop.sessions ≡ [] → Steps us ws o p

  module _ (c : Course ModelEnd) (us : List Mind) (ws : Stream) (a : Turn) where
    abbrev alone : Course ModelEnd
    alone = solo n c us ws

    abbrev own : Turn
    own = own_turn n (numbers c.loop.sessions) a

    -- what comes before it, where both halt or none does
    readied_on : Rises 0 (numbers c.loop.sessions) → halt_by plan (only n (readied model_ends plan c a).state.loop.sessions) ≡ (readied model_ends plan c a).state.halt
        → (readied model_ends plan alone own).state ≡ solo n (readied model_ends plan c a).state us ws
    unfolding readied
    readied_on rises e =
        let m = max c.loop.moment a.first in
        let h = before_beside (rules_of plan) m n c.loop.sessions a.sweeps rises in
        let g : List (Session ModelEnd) → Option Halt → Course ModelEnd =
        λ ss halt. record { loop = record { sessions = ss; users = us; moment = m; words = ws }; turns = c.turns; halt = halt; asked = c.asked ++ a.first ∷ [] } in
        ap₂ g h.state (ap (halt_by plan) h.state ∙ e)

    readied_order : Rises 0 (numbers c.loop.sessions) → deeds_on n (readied model_ends plan c a).order ≡ deeds_on n (readied model_ends plan alone own).order
    unfolding readied
    readied_order rises = (before_beside (rules_of plan) (max c.loop.moment a.first) n c.loop.sessions a.sweeps rises).order

    readied_sessions : Rises 0 (numbers c.loop.sessions) → (readied model_ends plan alone own).state.loop.sessions ≡ only n (readied model_ends plan c a).state.loop.sessions
    unfolding readied
    readied_sessions rises = (before_beside (rules_of plan) (max c.loop.moment a.first) n c.loop.sessions a.sweeps rises).state

    readied_halt : (readied model_ends plan c a).state.halt ≡ halt_by plan (readied model_ends plan c a).state.loop.sessions
    unfolding readied
    readied_halt = refl

    alone_halt : (readied model_ends plan alone own).state.halt ≡ halt_by plan (readied model_ends plan alone own).state.loop.sessions
    unfolding readied
    alone_halt = refl

    -- ---- the turn itself

    abbrev Behind : Happening → List (Session ModelEnd) → List (Session ModelEnd) → Type 0
    Behind what ss ts = (halt_behind plan (own_happening n what) ts ≡ halt_behind plan what ss) ⊎ ((halt_behind plan (own_happening n what) ts ≡ Some OnClosed) × (ts ≡ []))

    behind_so : (ss ts : List (Session ModelEnd)) → ts ≡ only n ss → Halts ss → (halt_by plan ts ≡ halt_by plan ss) ⊎ ((halt_by plan ts ≡ Some OnClosed) × (ts ≡ []))
    behind_so ss ts is (Both e) = inl (ap (halt_by plan) is ∙ e)
    behind_so ss ts is (First e none on) = inr (ap (halt_by plan) is ∙ e, is ∙ none)

    behind_by : (ss ts : List (Session ModelEnd)) → ts ≡ only n ss → (halt_by plan ts ≡ halt_by plan ss) ⊎ ((halt_by plan ts ≡ Some OnClosed) × (ts ≡ []))
    behind_by ss ts is = behind_so ss ts is (halts ss)

    behind : (what : Happening) (ss ts : List (Session ModelEnd)) → ts ≡ only n ss → Behind what ss ts
    behind (happening.Accepted conn) ss ts is = elim (cases_Bool (conn.0 == n)) [ inl p ↦ rw p (behind_by ss ts is) | inr p ↦ rw p (behind_by ss ts is) ]
    behind (happening.Readable conn) ss ts is = elim (cases_Bool (conn.0 == n)) [ inl p ↦ rw p (behind_by ss ts is) | inr p ↦ rw p (behind_by ss ts is) ]
    behind (happening.Writable conn) ss ts is = elim (cases_Bool (conn.0 == n)) [ inl p ↦ rw p (behind_by ss ts is) | inr p ↦ rw p (behind_by ss ts is) ]
    behind happening.Quiet ss ts is = behind_by ss ts is
    behind happening.Ended ss ts is = inl refl
    behind happening.Failed ss ts is = inl refl

    abbrev happens : Course ModelEnd → Out (Loop ModelEnd)
    happens d = happened model_ends plan (asks a.second d).loop a.happening a.met

    abbrev happens_alone : Course ModelEnd → Out (Loop ModelEnd)
    happens_alone d = happened model_ends plan (solo_loop n (asks a.second d).loop us ws) (own_happening n a.happening) (own_met n a.happening a.met)

    turned_so : (d : Course ModelEnd) → Alike n us ws (happens d) (happens_alone d) → Behind a.happening (happens d).state.sessions (happens_alone d).state.sessions
        → Steps us ws (turned_unless model_ends None plan d a) (turned_unless model_ends None plan (solo n d us ws) own)
    unfolding deeds_on
    turned_so d alike (inl e) =
        let g : Loop ModelEnd → Option Halt → Course ModelEnd = λ l halt. record { loop = l; turns = d.turns + 1; halt = halt; asked = d.asked ++ a.second ∷ [] } in
        On alike.order (ap₂ g alike.state e)
    turned_so d alike (inr (e, none)) = Done OnClosed alike.order e none (sym (ap (λ (z : Loop ModelEnd). z.sessions) alike.state) ∙ none)

    turned_on : (d : Course ModelEnd) → accepts n a.happening ≡ false
        → Steps us ws (turned_unless model_ends None plan d a) (turned_unless model_ends None plan (solo n d us ws) own)
    turned_on d ne =
        let alike = happened_alike plan n a.happening (asks a.second d).loop us ws a.met ne in
        turned_so d alike (behind a.happening (happens d).state.sessions (happens_alone d).state.sessions (ap (λ (z : Loop ModelEnd). z.sessions) alike.state))

    -- behind what comes before it
    steps_behind : (d k t u : Out (Course ModelEnd)) → deeds_on n d.order ≡ deeds_on n k.order → Steps us ws t u
        → Steps us ws (record { state = t.state; entries = d.entries ++ t.entries; calls = d.calls ++ t.calls; order = d.order ++ t.order })
        (record { state = u.state; entries = k.entries ++ u.entries; calls = k.calls ++ u.calls; order = k.order ++ u.order })
    steps_behind d k t u e (On order state) = On (deeds_on_two n d.order t.order k.order u.order e order) state
    steps_behind d k t u e (Done halt order halted none gone) = Done halt (deeds_on_two n d.order t.order k.order u.order e order) halted none gone

    steps_by : (top : ℕ) (halt : Option Halt) → c.halt ≡ None → n ≤ top → Rises 0 (numbers c.loop.sessions) → Rises top (opened_in (went model_ends plan c a).calls)
        → (readied model_ends plan c a).state.halt ≡ halt → Halts (readied model_ends plan c a).state.loop.sessions
        → Steps us ws (went model_ends plan c a) (went model_ends plan alone own)
    unfolding deeds_on
    steps_by top (Some halt) going le rise rises is (Both e) =
        let d = readied model_ends plan c a in
        let k = readied model_ends plan alone own in
        let state = readied_on rise (e ∙ sym readied_halt) in
        subst (λ (z : Out (Course ModelEnd)). Steps us ws (went model_ends plan c a) z)
        (sym (halts_rest.turn plan alone own halt going (ap (λ (z : Course ModelEnd). z.halt) state ∙ is)))
        (subst (λ (z : Out (Course ModelEnd)). Steps us ws z k) (sym (halts_rest.turn plan c a halt going is)) (On (readied_order rise) state))
    steps_by top None going le rise rises is (Both e) =
        let d = readied model_ends plan c a in
        let k = readied model_ends plan alone own in
        let state = readied_on rise (e ∙ sym readied_halt) in
        let here = went_goes plan c a going is in
        let ne = goes_past c a top le (subst (λ (z : Out (Course ModelEnd)). Rises top (opened_in z.calls)) here rises) in
        let turned : Steps us ws (turned_unless model_ends None plan d.state a) (turned_unless model_ends None plan k.state own) =
        subst (λ (z : Course ModelEnd). Steps us ws (turned_unless model_ends None plan d.state a) (turned_unless model_ends None plan z own)) (sym state) (turned_on d.state ne) in
        subst (λ (z : Out (Course ModelEnd)). Steps us ws (went model_ends plan c a) z)
        (sym (went_goes plan alone own going (ap (λ (z : Course ModelEnd). z.halt) state ∙ is)))
        (subst (λ (z : Out (Course ModelEnd)). Steps us ws z (goes alone own)) (sym here)
        (steps_behind d k (turned_unless model_ends None plan d.state a) (turned_unless model_ends None plan k.state own) (readied_order rise) turned))
    steps_by top halt going le rise rises is (First e none on) =
        let d = readied model_ends plan c a in
        let k = readied model_ends plan alone own in
        let t = turned_unless model_ends None plan d.state a in
        let here = went_goes plan c a going (readied_halt ∙ on) in
        let ne = goes_past c a top le (subst (λ (z : Out (Course ModelEnd)). Rises top (opened_in z.calls)) here rises) in
        let h = happened_silent a.happening (asks a.second d.state).loop a.met ne none in
        let halted = alone_halt ∙ ap (halt_by plan) (readied_sessions rise) ∙ e in
        subst (λ (z : Out (Course ModelEnd)). Steps us ws (went model_ends plan c a) z) (sym (halts_rest.turn plan alone own OnClosed going halted))
        (subst (λ (z : Out (Course ModelEnd)). Steps us ws z k) (sym here)
        (Done OnClosed (silent_last d k t (readied_order rise) h.order) halted (readied_sessions rise ∙ none) h.sessions))

    steps_from : (top : ℕ) (halt : Option Halt) → c.halt ≡ halt → n ≤ top → Rises 0 (numbers c.loop.sessions) → Rises top (opened_in (went model_ends plan c a).calls)
        → Steps us ws (went model_ends plan c a) (went model_ends plan alone own)
    steps_from top (Some halt) is le rise rises =
        subst (λ (z : Out (Course ModelEnd)). Steps us ws (went model_ends plan c a) z) (sym (went_halted plan alone own halt is))
        (subst (λ (z : Out (Course ModelEnd)). Steps us ws z (still alone)) (sym (went_halted plan c a halt is)) (On refl refl))
    steps_from top None is le rise rises =
        steps_by top (readied model_ends plan c a).state.halt is le rise rises refl (halts (readied model_ends plan c a).state.loop.sessions)

  -- ---- turn by turn

  record Alongside (o p : Out (Course ModelEnd)) : Type 0 where
    order : deeds_on n o.order ≡ deeds_on n p.order
    sessions : p.state.loop.sessions ≡ only n o.state.loop.sessions

  on_or_done : (us : List Mind) (ws : Stream) (o p : Out (Course ModelEnd)) (turns others : List Turn)
      → (p.state ≡ solo n o.state us ws → Alongside (acts (went model_ends plan) o.state turns) (acts (went model_ends plan) p.state others))
      → (only n o.state.loop.sessions ≡ [] → Nothing n (acts (went model_ends plan) o.state turns)) → Steps us ws o p
      → Alongside (next o (λ d. acts (went model_ends plan) d turns)) (next p (λ d. acts (went model_ends plan) d others))
  unfolding deeds_on
  on_or_done us ws o p turns others on done (On order state) =
      let rest = acts (went model_ends plan) o.state turns in
      let there = acts (went model_ends plan) p.state others in
      let r = on state in
      record { order = deeds_on_two n o.order rest.order p.order there.order order r.order; sessions = r.sessions }
  on_or_done us ws o p turns others on done (Done halt order halted none gone) =
      let rest = acts (went model_ends plan) o.state turns in
      let there = acts (went model_ends plan) p.state others in
      let e = acts_halted plan others p.state halt halted in
      let r = done gone in
      record {
        order = deeds_on_two n o.order rest.order p.order there.order order (r.order ∙ sym (ap (λ (z : Out (Course ModelEnd)). deeds_on n z.order) e));
        sessions = ap (λ (z : Out (Course ModelEnd)). z.state.loop.sessions) e ∙ none ∙ sym r.sessions;
      }

  follow : (turns : List Turn) (c : Course ModelEnd) (top : ℕ) (us : List Mind) (ws : Stream) → n ≤ top → Ordered top c.loop.sessions
      → Rises top (opened_in (acts (went model_ends plan) c turns).calls)
      → Alongside (acts (went model_ends plan) c turns) (acts (went model_ends plan) (solo n c us ws) (own_turns n plan c turns))
  unfolding acts own_turns
  follow [] c top us ws le ordered rises = record { order = refl; sessions = refl }
  follow (a ∷ turns) c top us ws le ordered rises =
      let o = went model_ends plan c a in
      let rest = acts (went model_ends plan) o.state turns in
      let p = went model_ends plan (solo n c us ws) (own_turn n (numbers c.loop.sessions) a) in
      let others = own_turns n plan o.state turns in
      let now = newest top (opened_in o.calls) in
      let both : Rises top (opened_in o.calls ++ opened_in rest.calls) = subst (λ z. Rises top z) (opened_in-append o.calls rest.calls) rises in
      let here = rises_first top (opened_in o.calls) (opened_in rest.calls) both in
      let later = rises_rest top (opened_in o.calls) (opened_in rest.calls) both in
      let up : n ≤ now = upward n top now le (newest_later top (opened_in o.calls) here) in
      let ordered_now = on_ordered plan c a top here ordered in
      let behind = follow turns o.state now us ws up ordered_now later in
      on_or_done us ws o p turns others
      (λ state. subst (λ (z : Course ModelEnd). Alongside rest (acts (went model_ends plan) z others)) (sym state) behind)
      (λ gone. acts_silent turns o.state now up ordered_now later gone) (steps_from c us ws a top c.halt refl le ordered.rises here)

-- ---- the opening

any_usual : Usual (λ g. Unit {0})
any_usual = record { sends = λ text. tt; leaves = λ sub. tt; takes = tt }

served_own : (r : Rules) (m : ℕ) (s : Session ModelEnd) (g : GivenToSession) (a : Met)
    → Left Own s (served model_ends r m s g a).state (served model_ends r m s g a).entries (served model_ends r m s g a).calls
served_own r m s g a =
    left_served r Own (own_calls r).quiet m s g a (steady_handled r (λ g. Unit {0}) Own (own_steady r) any_usual m s g (first_answer_of nothing_said a.says) tt)

left_ordered : (conn : ℕ) (s : Session ModelEnd) (ts : List (Session ModelEnd)) (xs : List JournalEntry) (cs : List Call) → 0 < conn → s.number ≡ conn → Left Own s ts xs cs
    → Ordered conn ts
unfolding UpTo
left_ordered conn s ts xs cs up num (Stays t p q) =
    let e : t.number ≡ conn = q.number ∙ num in
    subst (λ z. Ordered conn z) (sym p) (record { rises = (subst (λ z. 0 < z) (sym e) up, tt); up_to = ((let h : t.number ≤ conn = omega arith in h), tt) })
left_ordered conn s ts xs cs up num (Closed t ds over p e q) = subst (λ z. Ordered conn z) (sym p) (record { rises = tt; up_to = tt })

-- what is known of it
record Opened (conn : ℕ) (o : Out (Loop ModelEnd)) : Type 0 where
  ordered : Ordered conn o.state.sessions
  opens : opened_in o.calls ≡ []
  own : only conn o.state.sessions ≡ o.state.sessions

called_opened : (plan : Plan) (caller : Caller) (user : Option Mind) (l : Loop ModelEnd) (conn : ℕ) (a : Met) → 0 < conn → l.sessions ≡ []
    → Opened conn (called_by model_ends user plan caller l conn a)
unfolding UpTo opened_in
called_opened plan caller None l conn a up none = record {
  ordered = subst (λ z. Ordered conn z) (sym none) (record { rises = tt; up_to = tt });
  opens = refl;
  own = subst (λ z. only conn z ≡ z) (sym none) (only_none conn);
}
called_opened plan caller (Some mind) l conn a up none =
    let s = begun_dial conn (calling model_ends plan caller l) mind in
    let g = Begins caller.engine plan.rbc (next_u64 l.words).0 in
    let o = served model_ends (rules_of plan) l.moment s g a in
    let left = served_own (rules_of plan) l.moment s g a in
    record {
      ordered = left_ordered conn s o.state o.entries o.calls up refl left;
      opens = left_opens s o.state o.entries o.calls left;
      own = left_own conn s o.state o.entries o.calls left (same conn);
    }

alongside_to : (plan : Plan) (caller : Caller) (c : Course ModelEnd) (address : List ℕ) (a : Dialled) (conn : ℕ) → c.loop.sessions ≡ []
    → Rises 0 (opened_in (dials_to model_ends (Some conn) plan caller c address a).calls)
    → Alongside plan conn (dials_to model_ends (Some conn) plan caller c address a) (dials_to model_ends (Some conn) plan caller c address (own_dialled plan caller c conn a))
unfolding called opened_in run deeds_on
alongside_to plan caller c address a conn none rises =
    let d = asks a.first c in
    let l = called_by model_ends (next_user d.loop.users) plan caller d.loop conn a.met in
    let h = called_opened plan caller (next_user d.loop.users) d.loop conn a.met rises.0 none in
    let e = (opens model_ends plan caller d conn a.met).state in
    let given = exactly plan.turns nothing_comes a.turns in
    let t = acts (went model_ends plan) e given in
    let on : Rises conn (opened_in t.calls) = subst (λ z. Rises conn z) (opened_in-append l.calls t.calls ∙ ap (λ z. z ++ opened_in t.calls) h.opens) rises.1 in
    let f = follow plan conn given e conn e.loop.users e.loop.words (omega arith) h.ordered on in
    let g : List (Session ModelEnd) → Course ModelEnd =
    λ ss. record { loop = record { sessions = ss; users = e.loop.users; moment = e.loop.moment; words = e.loop.words }; turns = e.turns; halt = e.halt; asked = e.asked } in
    let same : acts (went model_ends plan) (solo conn e e.loop.users e.loop.words) (own_turns conn plan e given) ≡ run model_ends plan e (own_turns conn plan e a.turns) =
    ap₂ (λ (z : Course ModelEnd) (own : List Turn). acts (went model_ends plan) z own) (ap g h.own) (exactly_own conn plan plan.turns a.turns e) in
    let u = run model_ends plan e (own_turns conn plan e a.turns) in
    record {
      order = deeds_on_two conn l.order t.order l.order u.order refl (f.order ∙ ap (λ (z : Out (Course ModelEnd)). deeds_on conn z.order) same);
      sessions = sym (ap (λ (z : Out (Course ModelEnd)). z.state.loop.sessions) same) ∙ f.sessions;
    }

alongside : (plan : Plan) (caller : Caller) (c : Course ModelEnd) (address : List ℕ) (a : Dialled) (conn : ℕ) → IsDialling plan caller c address a → a.conn ≡ Some conn
    → Alongside plan conn (dials model_ends plan caller c address a) (dials model_ends plan caller c address (own_dialled plan caller c conn a))
unfolding dials
alongside plan caller c address a conn h is =
    subst
    (λ (z : Option ℕ). Rises 0 (opened_in (dials_to model_ends z plan caller c address a).calls)
    → Alongside plan conn (dials_to model_ends z plan caller c address a) (dials_to model_ends z plan caller c address (own_dialled plan caller c conn a)))
    (sym is) (alongside_to plan caller c address a conn h.none) h.rises

pub dial_stands_alone : DialStandsAlone
dial_stands_alone plan caller c address a conn h is =
    let own = own_dialled plan caller c conn a in
    let f = alongside plan caller c address a conn h is in
    same_at conn (dials model_ends plan caller c address a) (dials model_ends plan caller c address own) (order_dials model_ends plan caller c address a)
    (order_dials model_ends plan caller c address own) f.order f.sessions
