-- A replay with other keys: where both look-ups do the same at each event, it refuses as little, and prints the same.
use Rattle.std.proofs.Common.{◌≡◌, ◌∙◌, ℕ, Bool, true, false, List, [], ◌∷◌, ◌++◌, length, filter, Option, Some, None, refl, sym, ap, subst, append_assoc}
use Rattle.std.specs.Prelude.{nat_lt, ◌==◌, if◌then◌else◌}
use Rattle.er_base.specs.LineTexts.{line_text}
use Rattle.er_settings.specs.Values.{Settings}
use Rattle.er_trace.specs.declared.entry.Entry.{Entry}
use Rattle.er_trace.specs.declared.event.Event.{Event}
use Rattle.er_trace.specs.declared.event.Event.TheVariants as event
use Rattle.er_trace.specs.Texts.{header_words, entry_words}
use Rattle.er_end_model.specs.Steps.{Finds}
use Rattle.er_end_model.specs.Ends.{End}
use Rattle.er_end_model.specs.Laws.{EventsSpeakOnce}
use Rattle.trace_model.specs.declared.replay_fault.ReplayFault.{ReplayFault}
use Rattle.trace_model.specs.declared.replay_fault.ReplayFault.TheVariants.{MomentBack, ConnTwice}
use Rattle.trace_model.specs.Connections.{happens, happens_at, end_behind, end_at}
use Rattle.trace_model.specs.Checks.{Role, Opens, Declines, Belongs, role_of, last_moment, is_named, is_live, connections_opened_in_trace, live_count, no_key, key_check, many_check, role_check, fault_of_trace_event}
use Rattle.trace_model.specs.Printed.{outcomes_text, outcomes_at, entry_text, entries_text, text_of_trace}
use Rattle.trace_model.specs.Replays.{AreTaken}
use Rattle.des_block.specs.declared.triple_key.TripleKey.{TripleKey}
use Rattle.loop_recordings.specs.Recordings.{FindsToo}
use Rattle.loop_recordings.proofs.Ends.{CallsIfAny, IsAlike, same_happens, happens_calls}

-- at each of these events both look-ups do the same
abbrev pub AreAlike : Finds → Finds → List Entry → Type 0
AreAlike f g [] = Unit {0}
AreAlike f g (e ∷ es) = IsAlike f g e.moment e.event × AreAlike f g es

pub alike_two : (f g : Finds) (first rest : List Entry) → AreAlike f g first → AreAlike f g rest → AreAlike f g (first ++ rest)
alike_two f g [] rest p q = q
alike_two f g (e ∷ first) rest p q = (p.0, alike_two f g first rest p.1 q)

alike_first : (f g : Finds) (first rest : List Entry) → AreAlike f g (first ++ rest) → AreAlike f g first
alike_first f g [] rest p = tt
alike_first f g (e ∷ first) rest p = (p.0, alike_first f g first rest p.1)

alike_rest : (f g : Finds) (first rest : List Entry) → AreAlike f g (first ++ rest) → AreAlike f g rest
alike_rest f g [] rest p = p
alike_rest f g (e ∷ first) rest p = alike_rest f g first rest p.1

module _ (speak : EventsSpeakOnce) (settings : Settings) (f g : Finds) where
  -- ---- the end of a connection

  same_if : (b : Bool) (e : Entry) (m : Option End) → IsAlike f g e.moment e.event → CallsIfAny m
      → (if b then (happens settings f e.moment e.event m).0 else m) ≡ (if b then (happens settings g e.moment e.event m).0 else m)
  same_if true e m alike h = ap (λ r. r.0) (same_happens speak settings f g e.moment e.event m alike h)
  same_if false e m alike h = refl

  calls_if : (b : Bool) (e : Entry) (m : Option End) → IsAlike f g e.moment e.event → CallsIfAny m
      → CallsIfAny (if b then (happens settings f e.moment e.event m).0 else m)
  calls_if true e m alike h = happens_calls speak settings f g e.moment e.event m alike h
  calls_if false e m alike h = h

  same_behind : (conn : ℕ) (m : Option End) (es : List Entry) → AreAlike f g es → CallsIfAny m → end_behind settings f conn m es ≡ end_behind settings g conn m es
  unfolding end_behind
  same_behind conn m [] alike h = refl
  same_behind conn m (e ∷ es) alike h =
      same_behind conn (happens_at settings f conn m e) es alike.1 (calls_if (e.conn == conn) e m alike.0 h)
      ∙ ap (λ z. end_behind settings g conn z es) (same_if (e.conn == conn) e m alike.0 h)

  calls_behind : (conn : ℕ) (m : Option End) (es : List Entry) → AreAlike f g es → CallsIfAny m → CallsIfAny (end_behind settings f conn m es)
  unfolding end_behind
  calls_behind conn m [] alike h = h
  calls_behind conn m (e ∷ es) alike h = calls_behind conn (happens_at settings f conn m e) es alike.1 (calls_if (e.conn == conn) e m alike.0 h)

  same_at : (conn : ℕ) (before : List Entry) → AreAlike f g before → end_at settings f conn before ≡ end_at settings g conn before
  same_at conn before alike = same_behind conn None before alike tt

  -- ---- what is printed

  same_outcomes : (before : List Entry) (e : Entry) → AreAlike f g before → IsAlike f g e.moment e.event
      → outcomes_at settings f before e ≡ outcomes_at settings g before e
  same_outcomes before e alike one =
      ap (λ r. r.1) (same_happens speak settings f g e.moment e.event (end_at settings f e.conn before) one (calls_behind e.conn None before alike tt))
      ∙ ap (λ m. (happens settings g e.moment e.event m).1) (same_at e.conn before alike)

  same_entries : (before es : List Entry) → AreAlike f g before → AreAlike f g es → entries_text settings f before es ≡ entries_text settings g before es
  unfolding entries_text
  same_entries before [] alike rest = refl
  same_entries before (e ∷ es) alike rest =
      ap (λ z. (line_text (entry_words e.moment e.conn e.event) ++ outcomes_text e.conn z) ++ entries_text settings f (before ++ e ∷ []) es)
      (same_outcomes before e alike rest.0)
      ∙ ap (λ z. entry_text settings g before e ++ z)
      (same_entries (before ++ e ∷ []) es (alike_two f g before (e ∷ []) alike (rest.0, tt)) rest.1)

  pub same_printed : (es : List Entry) → AreAlike f g es → text_of_trace settings f es ≡ text_of_trace settings g es
  same_printed es alike = ap (λ z. line_text (header_words settings) ++ z) (same_entries [] es tt alike)

  -- ---- what is refused

  live_among : (conns : List ℕ) (before : List Entry) → AreAlike f g before
      → filter (λ conn. is_live (end_at settings f conn before)) conns ≡ filter (λ conn. is_live (end_at settings g conn before)) conns
  live_among [] before alike = refl
  live_among (conn ∷ conns) before alike =
      ap (λ m. if is_live m then conn ∷ filter (λ n. is_live (end_at settings f n before)) conns else filter (λ n. is_live (end_at settings f n before)) conns)
      (same_at conn before alike)
      ∙ ap (λ z. if is_live (end_at settings g conn before) then conn ∷ z else z) (live_among conns before alike)

  same_count : (before : List Entry) → AreAlike f g before → live_count settings f before ≡ live_count settings g before
  unfolding live_count
  same_count before alike = ap length (live_among (connections_opened_in_trace before) before alike)

  same_key : (e : Entry) (what : Event) (further : Option ReplayFault) → IsAlike f g e.moment what → key_check f e what further ≡ key_check g e what further
  same_key e (event.Call engine rbc rb) further alike = ap (λ key. no_key e.line engine rbc key further) alike
  same_key e (event.Answer rbc ra) further alike = absurd alike
  same_key e (event.Octets octets) further alike = refl
  same_key e (event.Send text) further alike = refl
  same_key e event.Take further alike = refl
  same_key e (event.Release sub) further alike = refl
  same_key e event.Tick further alike = refl
  same_key e event.Ended further alike = refl
  same_key e event.Fault further alike = refl
  same_key e event.Stalled further alike = refl
  same_key e (event.Full count) further alike = refl
  same_key e (event.Unserved count) further alike = refl

  same_role : (role : Role) (before : List Entry) (e : Entry) → AreAlike f g before → IsAlike f g e.moment e.event
      → role_check settings f before e role ≡ role_check settings g before e role
  same_role Opens before e alike one =
      ap (λ z. if is_named e.conn before then Some (ConnTwice e.line e.conn) else z)
      (same_key e e.event (many_check e.line (live_count settings f before)) one
      ∙ ap (λ live. key_check g e e.event (many_check e.line live)) (same_count before alike))
  same_role Declines before e alike one = refl
  same_role Belongs before e alike one = refl

  same_fault : (before : List Entry) (e : Entry) → AreAlike f g before → IsAlike f g e.moment e.event → fault_of_trace_event settings f before e ≡ fault_of_trace_event settings g before e
  unfolding fault_of_trace_event
  same_fault before e alike one =
      ap (λ z. if nat_lt e.moment (last_moment before) then Some (MomentBack e.line (last_moment before) e.moment) else z) (same_role (role_of e.event) before e alike one)

  pub also_taken : (es : List Entry) → AreAlike f g es → AreTaken settings f es → AreTaken settings g es
  also_taken es alike taken first e rest is =
      let both = subst (AreAlike f g) is alike in
      sym (same_fault first e (alike_first f g first (e ∷ rest) both) (alike_rest f g first (e ∷ rest) both).0) ∙ taken first e rest is

-- ---- a call that is taken

-- an event at which the second look-up finds what the first one does: no call, or one for whose pair it finds it; no answer
abbrev pub IsFoundToo : Finds → Finds → ℕ → Event → Type 0
IsFoundToo f g now (event.Call engine rbc rb) = FindsToo f g now engine rbc
IsFoundToo f g now (event.Answer rbc ra) = ⊥
IsFoundToo f g now (event.Octets octets) = Unit {0}
IsFoundToo f g now (event.Send text) = Unit {0}
IsFoundToo f g now event.Take = Unit {0}
IsFoundToo f g now (event.Release sub) = Unit {0}
IsFoundToo f g now event.Tick = Unit {0}
IsFoundToo f g now event.Ended = Unit {0}
IsFoundToo f g now event.Fault = Unit {0}
IsFoundToo f g now event.Stalled = Unit {0}
IsFoundToo f g now (event.Full count) = Unit {0}
IsFoundToo f g now (event.Unserved count) = Unit {0}

abbrev pub AreFoundToo : Finds → Finds → List Entry → Type 0
AreFoundToo f g [] = Unit {0}
AreFoundToo f g (e ∷ es) = IsFoundToo f g e.moment e.event × AreFoundToo f g es

else_none : (b : Bool) (fault : ReplayFault) (further : Option ReplayFault) → (if b then Some fault else further) ≡ None → further ≡ None
else_none true fault further none = absurd (let p : ⊥ = cc in p)
else_none false fault further none = none

module _ (settings : Settings) (f g : Finds) where
  -- its pair has a key
  key_alike : (line engine rbc : ℕ) (key other : Option TripleKey) (further : Option ReplayFault) → no_key line engine rbc key further ≡ None
      → ((kmac : TripleKey) → key ≡ Some kmac → other ≡ Some kmac) → key ≡ other
  key_alike line engine rbc None other further none too = absurd (let p : ⊥ = cc in p)
  key_alike line engine rbc (Some kmac) other further none too = sym (too kmac refl)

  event_alike : (e : Entry) (what : Event) (further : Option ReplayFault) → (role_of what ≡ Opens → key_check f e what further ≡ None)
      → IsFoundToo f g e.moment what → IsAlike f g e.moment what
  event_alike e (event.Call engine rbc rb) further taken too =
      key_alike e.line engine rbc (f e.moment engine rbc) (g e.moment engine rbc) further (taken refl) too
  event_alike e (event.Answer rbc ra) further taken too = absurd too
  event_alike e (event.Octets octets) further taken too = tt
  event_alike e (event.Send text) further taken too = tt
  event_alike e event.Take further taken too = tt
  event_alike e (event.Release sub) further taken too = tt
  event_alike e event.Tick further taken too = tt
  event_alike e event.Ended further taken too = tt
  event_alike e event.Fault further taken too = tt
  event_alike e event.Stalled further taken too = tt
  event_alike e (event.Full count) further taken too = tt
  event_alike e (event.Unserved count) further taken too = tt

  opens_taken : (before : List Entry) (e : Entry) → fault_of_trace_event settings f before e ≡ None → role_of e.event ≡ Opens
      → key_check f e e.event (many_check e.line (live_count settings f before)) ≡ None
  unfolding fault_of_trace_event
  opens_taken before e taken is =
      let checked = else_none (nat_lt e.moment (last_moment before)) (MomentBack e.line (last_moment before) e.moment) (role_check settings f before e (role_of e.event)) taken in
      let opened = subst (λ role. role_check settings f before e role ≡ None) is checked in
      else_none (is_named e.conn before) (ConnTwice e.line e.conn) (key_check f e e.event (many_check e.line (live_count settings f before))) opened

  alike_behind : (before es : List Entry) → AreTaken settings f (before ++ es) → AreFoundToo f g es → AreAlike f g es
  alike_behind before [] taken too = tt
  alike_behind before (e ∷ es) taken too = (
    event_alike e e.event (many_check e.line (live_count settings f before)) (opens_taken before e (taken before e es refl)) too.0,
    alike_behind (before ++ e ∷ []) es (subst (AreTaken settings f) (sym (append_assoc before (e ∷ []) es)) taken) too.1,
  )

  pub found_alike : (es : List Entry) → AreTaken settings f es → AreFoundToo f g es → AreAlike f g es
  found_alike es taken too = alike_behind [] es taken too
