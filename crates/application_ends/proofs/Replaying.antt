-- A replay prints what the ends of the stack tell: where each event of a trace is taken, none opens an end twice.
use Rattle.std.proofs.Common.{◌≡◌, ◌∙◌, ◌⊎◌, inl, inr, ℕ, Bool, true, false, ◌||◌, ◌&&◌, List, [], ◌∷◌, ◌++◌, map, Option, Some, None, refl, sym, ap, subst}
use Rattle.std.proofs.Common.{append-nil, append_assoc}
use Rattle.std.specs.Prelude.{◌==◌, nat_lt, if◌then◌else◌}
use Rattle.std.proofs.lemmas.Bool.{cases_Bool, eqb-true}
use Rattle.er_settings.specs.Values.{Settings}
use Rattle.er_trace.specs.declared.entry.Entry.{Entry}
use Rattle.er_trace.specs.declared.event.Event.{Event}
use Rattle.er_trace.specs.declared.event.Event.TheVariants as event
use Rattle.er_end_model.specs.Outcomes.{Outcome}
use Rattle.er_end_model.specs.Steps.{Finds}
use Rattle.er_end_model.specs.Ends.{End}
use Rattle.trace_model.specs.declared.replay_fault.ReplayFault.{ReplayFault}
use Rattle.trace_model.specs.declared.replay_fault.ReplayFault.TheVariants.{ConnTwice, MomentBack}
use Rattle.trace_model.specs.Connections.{happens, happens_at, end_behind, end_at}
use Rattle.trace_model.specs.Checks.{Role, Opens, Declines, Belongs, role_of, is_opening_role, names, is_named, last_moment, key_check, many_check}
use Rattle.trace_model.specs.Checks.{live_count, role_check, fault_of_trace_event}
use Rattle.trace_model.specs.Printed.{trace_outcome_of}
use Rattle.trace_model.specs.Replays.{AreTaken}
use Rattle.application_model.specs.Ends.{EventAt}
use Rattle.application_ends.specs.StackEnds.{befalls_end, stack_end_behind}
use Rattle.application_ends.specs.Laws.{held_alone, events_of_entry, events_in_trace, ReplaysTellTheSame}

-- ---- an end that is there was opened

-- where there is none, an event opens one only if it names the connection
opened_by : (settings : Settings) (finds : Finds) (now : ℕ) (what : Event)
    → (names (role_of what) ≡ true) ⊎ ((happens settings finds now what None).0 ≡ None)
opened_by settings finds now (event.Call engine rbc rb) = inl refl
opened_by settings finds now (event.Answer rbc ra) = inl refl
opened_by settings finds now (event.Octets octets) = inr refl
opened_by settings finds now (event.Send text) = inr refl
opened_by settings finds now event.Take = inr refl
opened_by settings finds now (event.Release sub) = inr refl
opened_by settings finds now event.Tick = inr refl
opened_by settings finds now event.Ended = inr refl
opened_by settings finds now event.Fault = inr refl
opened_by settings finds now event.Stalled = inr refl
opened_by settings finds now (event.Full count) = inl refl
opened_by settings finds now (event.Unserved count) = inl refl

or_true : (a : Bool) → (a || true) ≡ true
or_true true = refl
or_true false = refl

named_of : (settings : Settings) (finds : Finds) (conn : ℕ) (entries : List Entry)
    → (is_named conn entries ≡ true) ⊎ (end_behind settings finds conn None entries ≡ None)
unfolding is_named end_behind
named_of settings finds conn [] = inr refl
named_of settings finds conn (e ∷ entries) =
    elim (cases_Bool (e.conn == conn)) [
      | inl mine ↦
          elim (opened_by settings finds e.moment e.event) [
            | inl named ↦ inl (rw (mine, named) refl)
            | inr none ↦ elim (named_of settings finds conn entries) [
              | inl named ↦ inl (ap (λ (b : Bool). (names (role_of e.event) && (e.conn == conn)) || b) named ∙ or_true (names (role_of e.event) && (e.conn == conn)))
              | inr left ↦ inr (rw (mine, none) left)
            ]
          ]
      | inr other ↦ elim (named_of settings finds conn entries) [
        | inl named ↦ inl (ap (λ (b : Bool). (names (role_of e.event) && (e.conn == conn)) || b) named ∙ or_true (names (role_of e.event) && (e.conn == conn)))
        | inr left ↦ inr (rw other left)
      ]
    ]

there_is_named : (settings : Settings) (finds : Finds) (conn : ℕ) (entries : List Entry) (m : End)
    → end_at settings finds conn entries ≡ Some m → is_named conn entries ≡ true
there_is_named settings finds conn entries m there = elim (named_of settings finds conn entries) [ inl named ↦ named | inr none ↦ absurd (cc) ]

-- ---- no event that is taken opens an end twice

not_then : (b : Bool) (fault : ReplayFault) (rest : Option ReplayFault) → (if b then Some fault else rest) ≡ None → rest ≡ None
not_then true fault rest e = absurd (cc)
not_then false fault rest e = e

pub unnamed : (b : Bool) (fault : ReplayFault) (rest : Option ReplayFault) → (if b then Some fault else rest) ≡ None → b ≡ false
unnamed true fault rest e = absurd (cc)
unnamed false fault rest e = refl

new_number : (settings : Settings) (finds : Finds) (before : List Entry) (e : Entry) (role : Role) → role_check settings finds before e role ≡ None
    → is_opening_role role ≡ true → is_named e.conn before ≡ false
new_number settings finds before e Opens taken opening =
    unnamed (is_named e.conn before) (ConnTwice e.line e.conn) (key_check finds e e.event (many_check e.line (live_count settings finds before))) taken
new_number settings finds before e Declines taken opening = absurd (cc)
new_number settings finds before e Belongs taken opening = absurd (cc)

-- an event that is taken is to the end what it is in the trace
same_event : (settings : Settings) (finds : Finds) (before : List Entry) (e : Entry) → fault_of_trace_event settings finds before e ≡ None
    → (m : Option End) → end_at settings finds e.conn before ≡ m
    → befalls_end settings finds e.moment e.event m ≡ happens settings finds e.moment e.event m
unfolding fault_of_trace_event
same_event settings finds before e taken None there = refl
same_event settings finds before e taken (Some m) there =
    let named = there_is_named settings finds e.conn before m there in
    let checked =
    not_then (nat_lt e.moment (last_moment before)) (MomentBack e.line (last_moment before) e.moment) (role_check settings finds before e (role_of e.event)) taken in
    elim (cases_Bool (is_opening_role (role_of e.event))) [
      | inl opening ↦ let fresh = new_number settings finds before e (role_of e.event) checked opening in absurd (cc)
      | inr belongs ↦ rw belongs refl
    ]

-- ---- all events of a connection

end_append : (settings : Settings) (finds : Finds) (conn : ℕ) (m : Option End) (a b : List Entry)
    → end_behind settings finds conn m (a ++ b) ≡ end_behind settings finds conn (end_behind settings finds conn m a) b
unfolding end_behind
end_append settings finds conn m [] b = refl
end_append settings finds conn m (e ∷ a) b = end_append settings finds conn (happens_at settings finds conn m e) a b

module _ (settings : Settings) (finds : Finds) (conn : ℕ) where
  -- behind one of them
  same_at : (first : List Entry) (e : Entry) (xs : List EventAt) → fault_of_trace_event settings finds first e ≡ None
      → stack_end_behind settings (held_alone finds) (end_at settings finds conn first) (events_of_entry conn e ++ xs)
      ≡ stack_end_behind settings (held_alone finds) (happens_at settings finds conn (end_at settings finds conn first) e) xs
  unfolding stack_end_behind
  same_at first e xs taken =
      let now = end_at settings finds conn first in
      elim (cases_Bool (e.conn == conn)) [
        | inl mine ↦
            rw mine
            (ap (λ (r : Option End × List Outcome). stack_end_behind settings (held_alone finds) r.0 xs)
            (same_event settings finds first e taken now (ap (λ (c : ℕ). end_at settings finds c first) (eqb-true e.conn conn mine))))
        | inr other ↦ rw other refl
      ]

  -- behind the first of them the end is the same
  same_from : (first rest : List Entry) → AreTaken settings finds (first ++ rest)
      → stack_end_behind settings (held_alone finds) (end_at settings finds conn first) (events_in_trace conn rest) ≡ end_at settings finds conn (first ++ rest)
  unfolding stack_end_behind end_behind
  same_from first [] taken = ap (end_at settings finds conn) (sym (append-nil first))
  same_from first (e ∷ rest) taken =
      let next = append_assoc first (e ∷ []) rest in
      same_at first e (events_in_trace conn rest) (taken first e rest refl)
      ∙ ap (λ (n : Option End). stack_end_behind settings (held_alone finds) n (events_in_trace conn rest)) (sym (end_append settings finds conn None first (e ∷ [])))
      ∙ same_from (first ++ e ∷ []) rest (subst (AreTaken settings finds) (sym next) taken)
      ∙ ap (end_at settings finds conn) next

pub replays_same : ReplaysTellTheSame
unfolding end_behind
replays_same settings finds before entry taken next =
    let m = end_at settings finds entry.conn before in
    ap (λ (n : Option End). map trace_outcome_of (befalls_end settings finds entry.moment entry.event n).1) (same_from settings finds entry.conn [] before taken)
    ∙ ap (λ (r : Option End × List Outcome). map trace_outcome_of r.1) (same_event settings finds before entry next m refl)
