-- An event is taken, or it isn't, by what is kept of its connection.
use Rattle.std.proofs.Common.{◌≡◌, ◌≤◌, ◌∙◌, ◌⊎◌, inl, inr, ℕ, Bool, true, false, not, ◌||◌, if◌then◌else◌, List, [], ◌∷◌, ◌++◌, Option, Some, None, Result, Ok, Err, refl, sym, ap, subst, arith, append-nil, append_assoc}
use Rattle.std.specs.Prelude.{nat_le}
use Rattle.std.proofs.lemmas.Bool.{cases_Bool}
use Rattle.std.specs.BTreeMap.{get, btree_map_len}
use Rattle.std.specs.Ordering.{nat_cmp}
use Rattle.des_block.specs.declared.triple_key.TripleKey.{TripleKey}
use Rattle.er_base.specs.declared.release.Release.{Release}
use Rattle.er_base.specs.LineTexts.{line_text}
use Rattle.er_base.specs.declared.no_memory.NoMemory.{NoMemory as Want}
use Rattle.er_settings.specs.Values.{Settings}
use Rattle.er_settings.specs.Ranges.{AllAllowed}
use Rattle.er_trace.specs.declared.entry.Entry.{Entry}
use Rattle.er_trace.specs.declared.event.Event.{Event}
use Rattle.er_trace.specs.declared.event.Event.TheVariants as event
use Rattle.er_trace.specs.Texts.{entry_words}
use Rattle.er_end_model.specs.Outcomes.{Outcome}
use Rattle.er_end_model.specs.Steps.{Finds}
use Rattle.er_end_model.specs.Ends as of
use Rattle.er_end_model.specs.Ends.{End, step_event}
use Rattle.er_end.specs.KeptEnds.{KEnd, kept_opened, tells}
use Rattle.er_end.specs.KeptEnds as kept
use Rattle.er_end.specs.Standing.{ShowsAlike, MadeStands, StepsAlike}
use Rattle.trace_model.specs.declared.replay_fault.ReplayFault.{ReplayFault}
use Rattle.trace_model.specs.declared.replay_fault.ReplayFault.TheVariants.{NoConn, ConnTwice, NoKey, Many}
use Rattle.trace_model.specs.Connections.{happens, end_at}
use Rattle.trace_model.specs.Checks.{Role, Opens, Declines, Belongs, role_of, is_opening_role, names, is_named, is_opened, last_moment, live_count, key_check, many_check, role_check}
use Rattle.trace_model.specs.Printed.{outcomes_text}
use Rattle.trace_replay.specs.declared.connections.Connections.{Connections}
use Rattle.trace_replay.specs.Places.{ConnectionPlace, Absent, Declined, Live, Over, place_of_connection, place_for, is_absent, unless_live, why_in, Places, StandsForAlikeEnd, KeepsConnection, HoldsOfAllConnections}
use Rattle.trace_replay.specs.Takings.{GivesLive, GivesIfLive, Taken, TakesTraceEvent, told_over}
use Rattle.trace_replay.proofs.Alike.{alike_same, follows_step}
use Rattle.trace_replay.proofs.Overs.{over_step}
use Rattle.trace_replay.proofs.Changes.{live_place, place_is, given_places, same_places}
use Rattle.trace_replay.proofs.Holdings.{named_is, keeps_end, live_is, holds_next, seen, hidden}

-- ---- the checks

module _ (s : Settings) (f : Finds) (before : List Entry) (e : Entry) where
  abbrev pub allowed : Type 0
  allowed = role_check s f before e (role_of e.event) ≡ None

  pub opens_twice : role_of e.event ≡ Opens → is_named e.conn before ≡ true → role_check s f before e (role_of e.event) ≡ Some (ConnTwice e.line e.conn)
  opens_twice role named =
      ap (λ (r : Role). role_check s f before e r) role
      ∙ ap (λ (b : Bool). if b then Some (ConnTwice e.line e.conn) else key_check f e e.event (many_check e.line (live_count s f before))) named

  pub declines_twice : role_of e.event ≡ Declines → is_named e.conn before ≡ true → role_check s f before e (role_of e.event) ≡ Some (ConnTwice e.line e.conn)
  declines_twice role named =
      ap (λ (r : Role). role_check s f before e r) role
      ∙ ap (λ (b : Bool). if b then Some (ConnTwice e.line e.conn) else None) named

  pub declines_new : role_of e.event ≡ Declines → is_named e.conn before ≡ false → allowed
  declines_new role named =
      ap (λ (r : Role). role_check s f before e r) role
      ∙ ap (λ (b : Bool). if b then Some (ConnTwice e.line e.conn) else None) named

  opens_new : (n : ℕ) → role_of e.event ≡ Opens → is_named e.conn before ≡ false → live_count s f before ≡ n
      → role_check s f before e (role_of e.event) ≡ key_check f e e.event (many_check e.line n)
  opens_new n role named live =
      ap (λ (r : Role). role_check s f before e r) role
      ∙ ap (λ (b : Bool). if b then Some (ConnTwice e.line e.conn) else key_check f e e.event (many_check e.line (live_count s f before))) named
      ∙ ap (λ (c : ℕ). key_check f e e.event (many_check e.line c)) live

  pub call_keyless : (n engine rbc rb : ℕ) → e.event ≡ event.Call engine rbc rb → is_named e.conn before ≡ false → live_count s f before ≡ n
      → f e.moment engine rbc ≡ None → role_check s f before e (role_of e.event) ≡ Some (NoKey e.line engine rbc)
  call_keyless n engine rbc rb is named live key =
      opens_new n (ap role_of is) named live
      ∙ ap (λ (x : Event). key_check f e x (many_check e.line n)) is
      ∙ ap (λ (k : Option TripleKey). Rattle.trace_model.specs.Checks.no_key e.line engine rbc k (many_check e.line n)) key

  pub call_keyed : (n engine rbc rb : ℕ) (kmac : TripleKey) → e.event ≡ event.Call engine rbc rb → is_named e.conn before ≡ false → live_count s f before ≡ n
      → f e.moment engine rbc ≡ Some kmac → role_check s f before e (role_of e.event) ≡ many_check e.line n
  call_keyed n engine rbc rb kmac is named live key =
      opens_new n (ap role_of is) named live
      ∙ ap (λ (x : Event). key_check f e x (many_check e.line n)) is
      ∙ ap (λ (k : Option TripleKey). Rattle.trace_model.specs.Checks.no_key e.line engine rbc k (many_check e.line n)) key

  pub answer_new : (n rbc ra : ℕ) → e.event ≡ event.Answer rbc ra → is_named e.conn before ≡ false → live_count s f before ≡ n
      → role_check s f before e (role_of e.event) ≡ many_check e.line n
  answer_new n rbc ra is named live =
      opens_new n (ap role_of is) named live ∙ ap (λ (x : Event). key_check f e x (many_check e.line n)) is

  pub belongs_shut : role_of e.event ≡ Belongs → is_opened e.conn before ≡ false → role_check s f before e (role_of e.event) ≡ Some (NoConn e.line e.conn)
  belongs_shut role shut =
      ap (λ (r : Role). role_check s f before e r) role ∙ ap (λ (b : Bool). if b then None else Some (NoConn e.line e.conn)) shut

  belongs_open : role_of e.event ≡ Belongs → is_opened e.conn before ≡ true → allowed
  belongs_open role shut =
      ap (λ (r : Role). role_check s f before e r) role ∙ ap (λ (b : Bool). if b then None else Some (NoConn e.line e.conn)) shut

  -- ---- taken

  taken_by : (old new : Connections) (p : ConnectionPlace) (out now : List ℕ) (r : Option End × List Outcome)
      → HoldsOfAllConnections s f before old → last_moment before ≤ e.moment → Places old new e.conn p
      → (is_opening_role (role_of e.event) ≡ true → is_named e.conn before ≡ false)
      → happens s f e.moment e.event (end_at s f e.conn before) ≡ r
      → KeepsConnection e.moment p r.0 (is_named e.conn before || names (role_of e.event)) (is_opened e.conn before || is_opening_role (role_of e.event))
      → now ≡ (out ++ line_text (entry_words e.moment e.conn e.event)) ++ outcomes_text e.conn r.1
      → allowed → Taken s f before e new out now
  taken_by old new p out now r h le places fresh does keeps text free = record {
    allowed = free;
    text =
        text ∙ ap (λ (x : Option End × List Outcome). (out ++ line_text (entry_words e.moment e.conn e.event)) ++ outcomes_text e.conn x.1) (sym does)
        ∙ append_assoc out (line_text (entry_words e.moment e.conn e.event)) (outcomes_text e.conn (happens s f e.moment e.event (end_at s f e.conn before)).1);
    holds =
        hidden s f (before ++ e ∷ []) new
        (holds_next s f before e old new p (seen s f before old h) le places fresh
        (subst (λ (x : Option End × List Outcome). KeepsConnection e.moment p x.0 (is_named e.conn before || names (role_of e.event)) (is_opened e.conn before || is_opening_role (role_of e.event))) (sym does) keeps));
  }

  pub named_of : (old : Connections) → HoldsOfAllConnections s f before old → is_named e.conn before ≡ not (is_absent (place_of_connection old e.conn))
  named_of old h = named_is (last_moment before) (place_of_connection old e.conn) (end_at s f e.conn before) (is_named e.conn before) (is_opened e.conn before) ((seen s f before old h).keeps e.conn)

  pub unnamed_of : (old : Connections) → HoldsOfAllConnections s f before old → is_absent (place_of_connection old e.conn) ≡ true → is_named e.conn before ≡ false
  unnamed_of old h absent = named_of old h ∙ ap (λ (b : Bool). not b) absent

  pub twice_of : (old : Connections) → HoldsOfAllConnections s f before old → is_absent (place_of_connection old e.conn) ≡ false → is_named e.conn before ≡ true
  twice_of old h absent = named_of old h ∙ ap (λ (b : Bool). not b) absent

  none_at : (old : Connections) → HoldsOfAllConnections s f before old → is_absent (place_of_connection old e.conn) ≡ true → end_at s f e.conn before ≡ None
  none_at old h absent = at (place_of_connection old e.conn) absent ((seen s f before old h).keeps e.conn)
    where
      at : (p : ConnectionPlace) → is_absent p ≡ true → KeepsConnection (last_moment before) p (end_at s f e.conn before) (is_named e.conn before) (is_opened e.conn before) → end_at s f e.conn before ≡ None
      at Absent a k = k.0
      at Declined a k = absurd (let u : ⊥ = cc in u)
      at (Live x) a k = absurd (let u : ⊥ = cc in u)
      at (Over why) a k = absurd (let u : ⊥ = cc in u)

  or_true : (a b : Bool) → b ≡ true → (a || b) ≡ true
  or_true true b p = refl
  or_true false b p = p

  -- an end was opened
  opened_taken : ShowsAlike → (old new : Connections) (k : KEnd) (m : End) (outs : List Outcome) (out now : List ℕ)
      → HoldsOfAllConnections s f before old → last_moment before ≤ e.moment → role_of e.event ≡ Opens → is_absent (place_of_connection old e.conn) ≡ true
      → Places old new e.conn (place_for k) → happens s f e.moment e.event None ≡ (Some m, outs) → StandsForAlikeEnd e.moment k m
      → now ≡ (out ++ line_text (entry_words e.moment e.conn e.event)) ++ outcomes_text e.conn outs → allowed → Taken s f before e new out now
  opened_taken shows old new k m outs out now h le role absent places does follows text free =
      taken_by old new (place_for k) out now (Some m, outs) h le places (λ o. unnamed_of old h absent)
      (ap (λ (w : Option End). happens s f e.moment e.event w) (none_at old h absent) ∙ does)
      (keeps_end shows e.moment k (Some m) (is_named e.conn before || names (role_of e.event)) (is_opened e.conn before || is_opening_role (role_of e.event)) follows
      (or_true (is_named e.conn before) (names (role_of e.event)) (ap names role)) (or_true (is_opened e.conn before) (is_opening_role (role_of e.event)) (ap is_opening_role role)))
      text free

  pub answered : MadeStands → ShowsAlike → (old new : Connections) (k : KEnd) (rbc ra : ℕ) (out now : List ℕ)
      → HoldsOfAllConnections s f before old → last_moment before ≤ e.moment → AllAllowed s → e.event ≡ event.Answer rbc ra → is_absent (place_of_connection old e.conn) ≡ true
      → many_check e.line (btree_map_len old.live) ≡ None
      → k ≡ kept_opened (of.Answer s rbc ra e.moment) → Places old new e.conn (place_for k)
      → now ≡ out ++ line_text (entry_words e.moment e.conn e.event) → Taken s f before e new out now
  unfolding outcomes_text
  answered made shows old new k rbc ra out now h le good is absent room opened places text =
      let m : End = of.opened (of.Answer s rbc ra e.moment) in
      opened_taken shows old new k m [] out now h le (ap role_of is) absent places
      (ap (λ (x : Event). happens s f e.moment x None) is)
      (record { exact = m; stands = subst (λ (z : KEnd). Rattle.er_end.specs.Standing.EndStands z m) (sym opened) (made (of.Answer s rbc ra e.moment) good); alike = alike_same e.moment m m refl })
      (text ∙ sym (append-nil (out ++ line_text (entry_words e.moment e.conn e.event))))
      (answer_new (btree_map_len old.live) rbc ra is (unnamed_of old h absent) (live_is s f before old (seen s f before old h)) ∙ room)

  pub called : MadeStands → StepsAlike → ShowsAlike → (old new : Connections) (k l : KEnd) (engine rbc rb : ℕ) (kmac : TripleKey) (out line now : List ℕ)
      → HoldsOfAllConnections s f before old → last_moment before ≤ e.moment → AllAllowed s → e.event ≡ event.Call engine rbc rb → is_absent (place_of_connection old e.conn) ≡ true
      → f e.moment engine rbc ≡ Some kmac
      → many_check e.line (btree_map_len old.live) ≡ None
      → k ≡ kept_opened (of.Call s engine rbc kmac rb e.moment) → l ≡ kept.kept_end_behind_event e.moment of.Start k → Places old new e.conn (place_for l)
      → line ≡ out ++ line_text (entry_words e.moment e.conn e.event) → now ≡ line ++ outcomes_text e.conn (tells e.moment of.Start k) → Taken s f before e new out now
  called made steps shows old new k l engine rbc rb kmac out line now h le good is absent key room opened started places head text =
      let m : End = of.opened (of.Call s engine rbc kmac rb e.moment) in
      let n = step_event e.moment of.Start m in
      let follows : StandsForAlikeEnd e.moment k m = record {
        exact = m;
        stands = subst (λ (z : KEnd). Rattle.er_end.specs.Standing.EndStands z m) (sym opened) (made (of.Call s engine rbc kmac rb e.moment) good);
        alike = alike_same e.moment m m refl;
      } in
      let went = follows_step steps e.moment e.moment of.Start k m follows (let p : e.moment ≤ e.moment = omega arith in p) in
      opened_taken shows old new l n.0 n.1 out now h le (ap role_of is) absent places
      (ap (λ (x : Event). happens s f e.moment x None) is
      ∙ ap (λ (o : Option TripleKey). Rattle.trace_model.specs.Connections.end_behind_call s e.moment engine rbc rb o None) key)
      (subst (λ (z : KEnd). StandsForAlikeEnd e.moment z n.0) (sym started) went.0)
      (text ∙ ap (λ (t : List ℕ). t ++ outcomes_text e.conn (tells e.moment of.Start k)) head
      ∙ ap (λ (os : List Outcome). (out ++ line_text (entry_words e.moment e.conn e.event)) ++ outcomes_text e.conn os) went.1)
      (call_keyed (btree_map_len old.live) engine rbc rb kmac is (unnamed_of old h absent) (live_is s f before old (seen s f before old h)) key ∙ room)

  -- none was opened
  quiet_decline : (x : Event) → role_of x ≡ Declines → happens s f e.moment x None ≡ (None, [])
  quiet_decline (event.Call engine rbc rb) role = absurd (let u : ⊥ = cc in u)
  quiet_decline (event.Answer rbc ra) role = absurd (let u : ⊥ = cc in u)
  quiet_decline (event.Octets octets) role = absurd (let u : ⊥ = cc in u)
  quiet_decline (event.Send text) role = absurd (let u : ⊥ = cc in u)
  quiet_decline event.Take role = absurd (let u : ⊥ = cc in u)
  quiet_decline (event.Release sub) role = absurd (let u : ⊥ = cc in u)
  quiet_decline event.Tick role = absurd (let u : ⊥ = cc in u)
  quiet_decline event.Ended role = absurd (let u : ⊥ = cc in u)
  quiet_decline event.Fault role = absurd (let u : ⊥ = cc in u)
  quiet_decline event.Stalled role = absurd (let u : ⊥ = cc in u)
  quiet_decline (event.Full count) role = refl
  quiet_decline (event.Unserved count) role = refl

  shut_of : (old : Connections) → HoldsOfAllConnections s f before old → is_absent (place_of_connection old e.conn) ≡ true → is_opened e.conn before ≡ false
  shut_of old h absent = at (place_of_connection old e.conn) absent ((seen s f before old h).keeps e.conn)
    where
      at : (p : ConnectionPlace) → is_absent p ≡ true → KeepsConnection (last_moment before) p (end_at s f e.conn before) (is_named e.conn before) (is_opened e.conn before) → is_opened e.conn before ≡ false
      at Absent a k = k.2
      at Declined a k = absurd (let u : ⊥ = cc in u)
      at (Live x) a k = absurd (let u : ⊥ = cc in u)
      at (Over why) a k = absurd (let u : ⊥ = cc in u)

  or_both : (a b : Bool) → a ≡ false → b ≡ false → (a || b) ≡ false
  or_both true b p q = p
  or_both false b p q = q

  pub declined : (old new : Connections) (out now : List ℕ) → HoldsOfAllConnections s f before old → last_moment before ≤ e.moment → role_of e.event ≡ Declines
      → is_absent (place_of_connection old e.conn) ≡ true → Places old new e.conn Declined
      → now ≡ out ++ line_text (entry_words e.moment e.conn e.event) → Taken s f before e new out now
  unfolding outcomes_text
  declined old new out now h le role absent places text =
      taken_by old new Declined out now (None, []) h le places (λ o. unnamed_of old h absent)
      (ap (λ (w : Option End). happens s f e.moment e.event w) (none_at old h absent) ∙ quiet_decline e.event role)
      (refl, or_true (is_named e.conn before) (names (role_of e.event)) (ap names role), or_both (is_opened e.conn before) (is_opening_role (role_of e.event)) (shut_of old h absent) (ap is_opening_role role))
      (text ∙ sym (append-nil (out ++ line_text (entry_words e.moment e.conn e.event))))
      (declines_new role (unnamed_of old h absent))

  -- an event at an end
  not_fresh : role_of e.event ≡ Belongs → is_opening_role (role_of e.event) ≡ true → is_named e.conn before ≡ false
  not_fresh role o = absurd (let q : false ≡ true = sym (ap is_opening_role role) ∙ o in let u : ⊥ = cc in u)

  or_first : (a b : Bool) → a ≡ true → (a || b) ≡ true
  or_first a b p = ap (λ (x : Bool). x || b) p

  pub live_taken : ShowsAlike → (old mid new : Connections) (out now : List ℕ) → HoldsOfAllConnections s f before old → last_moment before ≤ e.moment → role_of e.event ≡ Belongs
      → (g : GivesLive f e old mid out now) → Places mid new e.conn (place_for g.behind) → Taken s f before e new out now
  live_taken shows old mid new out now h le role g places =
      at (end_at s f e.conn before) refl
      (subst (λ (p : ConnectionPlace). KeepsConnection (last_moment before) p (end_at s f e.conn before) (is_named e.conn before) (is_opened e.conn before)) (live_place old e.conn g.before g.was) ((seen s f before old h).keeps e.conn))
    where
      at : (w : Option End) → end_at s f e.conn before ≡ w → KeepsConnection (last_moment before) (Live g.before) w (is_named e.conn before) (is_opened e.conn before) → Taken s f before e new out now
      at None is k = absurd k.0
      at (Some m) is k =
          let given = g.gives s (last_moment before) m k.0 le in
          let r = happens s f e.moment e.event (Some m) in
          taken_by old new (place_for g.behind) out now r h le
          (given_places old mid new e.conn g.before g.behind (place_for g.behind) g.was g.here g.others g.over g.count places)
          (not_fresh role)
          (ap (λ (w : Option End). happens s f e.moment e.event w) is)
          (keeps_end shows e.moment g.behind r.0 (is_named e.conn before || names (role_of e.event)) (is_opened e.conn before || is_opening_role (role_of e.event)) given.follows
          (or_first (is_named e.conn before) (names (role_of e.event)) k.2) (or_first (is_opened e.conn before) (is_opening_role (role_of e.event)) k.3))
          given.text
          (belongs_open role k.3)

  pub over_taken : (old new : Connections) (why : Release) (out now : List ℕ) → HoldsOfAllConnections s f before old → last_moment before ≤ e.moment → role_of e.event ≡ Belongs
      → get nat_cmp old.live e.conn ≡ None → get nat_cmp old.over e.conn ≡ Some (Some why) → new ≡ old
      → now ≡ (out ++ line_text (entry_words e.moment e.conn e.event)) ++ outcomes_text e.conn (told_over why e.event) → Taken s f before e new out now
  over_taken old new why out now h le role live over same text =
      at (end_at s f e.conn before) refl
      (subst (λ (p : ConnectionPlace). KeepsConnection (last_moment before) p (end_at s f e.conn before) (is_named e.conn before) (is_opened e.conn before)) here ((seen s f before old h).keeps e.conn))
    where
      here : place_of_connection old e.conn ≡ Over why
      here = place_is old e.conn None (Some (Some why)) live over

      at : (w : Option End) → end_at s f e.conn before ≡ w → KeepsConnection (last_moment before) (Over why) w (is_named e.conn before) (is_opened e.conn before) → Taken s f before e new out now
      at None is k = absurd k.0
      at (Some m) is k =
          let r = over_step s f e.moment why e.event m (ap is_opening_role role) k.0 in
          taken_by old new (Over why) out now (happens s f e.moment e.event (Some m)) h le
          (subst (λ (p : ConnectionPlace). Places old new e.conn p) here (same_places old new e.conn same))
          (not_fresh role)
          (ap (λ (w : Option End). happens s f e.moment e.event w) is)
          (r.0, or_first (is_named e.conn before) (names (role_of e.event)) k.1, or_first (is_opened e.conn before) (is_opening_role (role_of e.event)) k.2)
          (text ∙ ap (λ (os : List Outcome). (out ++ line_text (entry_words e.moment e.conn e.event)) ++ outcomes_text e.conn os) (sym r.1))
          (belongs_open role k.2)

  -- no end was opened
  pub shut : (old : Connections) → HoldsOfAllConnections s f before old → role_of e.event ≡ Belongs → get nat_cmp old.live e.conn ≡ None
      → why_in (get nat_cmp old.over e.conn) ≡ None → role_check s f before e (role_of e.event) ≡ Some (NoConn e.line e.conn)
  shut old h role live none =
      belongs_shut role (at (get nat_cmp old.over e.conn) (place_is old e.conn None (get nat_cmp old.over e.conn) live refl) none)
    where
      at : (o : Option (Option Release)) → place_of_connection old e.conn ≡ unless_live o → why_in o ≡ None → is_opened e.conn before ≡ false
      at None is none = (subst (λ (p : ConnectionPlace). KeepsConnection (last_moment before) p (end_at s f e.conn before) (is_named e.conn before) (is_opened e.conn before)) is ((seen s f before old h).keeps e.conn)).2
      at (Some None) is none = (subst (λ (p : ConnectionPlace). KeepsConnection (last_moment before) p (end_at s f e.conn before) (is_named e.conn before) (is_opened e.conn before)) is ((seen s f before old h).keeps e.conn)).2
      at (Some (Some why)) is none = absurd (let u : ⊥ = cc in u)

  why_is : (o : Option (Option Release)) (why : Release) → why_in o ≡ Some why → o ≡ Some (Some why)
  why_is None why p = absurd (let u : ⊥ = cc in u)
  why_is (Some o) why p = ap (λ (x : Option Release). Some x) p

  -- what giving an event to a live end came to
  pub given_live : (old mid : Connections) (out now : List ℕ) (b : Bool) (r : Result Bool Want) → GivesIfLive f e old mid out now r → r ≡ Ok b → b ≡ true → GivesLive f e old mid out now
  given_live old mid out now b r g is met = subst (λ (x : Result Bool Want). GivesIfLive f e old mid out now x) (is ∙ ap (λ (c : Bool). Ok c) met) g

  given_none : (old mid : Connections) (out now : List ℕ) (b : Bool) (r : Result Bool Want) → GivesIfLive f e old mid out now r → r ≡ Ok b → b ≡ false
      → (get nat_cmp old.live e.conn ≡ None) × (mid ≡ old) × (now ≡ out)
  given_none old mid out now b r g is unmet = subst (λ (x : Result Bool Want). GivesIfLive f e old mid out now x) (is ∙ ap (λ (c : Bool). Ok c) unmet) g

  pub shut_given : (old mid : Connections) (out now : List ℕ) (b : Bool) (r : Result Bool Want) (w : Option Release) → HoldsOfAllConnections s f before old → role_of e.event ≡ Belongs
      → GivesIfLive f e old mid out now r → r ≡ Ok b → b ≡ false → w ≡ why_in (get nat_cmp mid.over e.conn) → w ≡ None
      → role_check s f before e (role_of e.event) ≡ Some (NoConn e.line e.conn)
  shut_given old mid out now b r w h role g is unmet why none =
      let n = given_none old mid out now b r g is unmet in
      shut old h role n.0 (ap (λ (c : Connections). why_in (get nat_cmp c.over e.conn)) (sym n.1) ∙ sym why ∙ none)

  pub over_given : (old mid : Connections) (out now line new : List ℕ) (b : Bool) (r : Result Bool Want) (w : Option Release) (why : Release) → HoldsOfAllConnections s f before old → last_moment before ≤ e.moment
      → role_of e.event ≡ Belongs → GivesIfLive f e old mid out now r → r ≡ Ok b → b ≡ false → w ≡ why_in (get nat_cmp mid.over e.conn) → w ≡ Some why
      → line ≡ now ++ line_text (entry_words e.moment e.conn e.event) → new ≡ line ++ outcomes_text e.conn (told_over why e.event)
      → Taken s f before e mid out new
  over_given old mid out now line new b r w why h le role g is unmet at some text told =
      let n = given_none old mid out now b r g is unmet in
      over_taken old mid why out new h le role n.0
      (why_is (get nat_cmp old.over e.conn) why (ap (λ (c : Connections). why_in (get nat_cmp c.over e.conn)) (sym n.1) ∙ sym at ∙ some))
      n.1
      (told ∙ ap (λ (t : List ℕ). t ++ outcomes_text e.conn (told_over why e.event)) (text ∙ ap (λ (t : List ℕ). t ++ line_text (entry_words e.moment e.conn e.event)) n.2))

  -- ---- refused

  pub twice_err : (old new : Connections) (out now : List ℕ) (fault : ReplayFault) → HoldsOfAllConnections s f before old → names (role_of e.event) ≡ true → ((role_of e.event ≡ Opens) ⊎ (role_of e.event ≡ Declines))
      → (fault ≡ ConnTwice e.line e.conn) × (is_absent (place_of_connection old e.conn) ≡ false) → TakesTraceEvent {T = Unit {0}} s f before e new out now (Err fault)
  twice_err old new out now fault h named role p =
      subst (λ (x : ReplayFault). TakesTraceEvent {T = Unit {0}} s f before e new out now (Err x)) (sym p.0) (at role)
    where
      at : (role_of e.event ≡ Opens) ⊎ (role_of e.event ≡ Declines) → role_check s f before e (role_of e.event) ≡ Some (ConnTwice e.line e.conn)
      at (inl o) = opens_twice o (twice_of old h p.1)
      at (inr o) = declines_twice o (twice_of old h p.1)

  many_is : (line n : ℕ) (fault : ReplayFault) → many_check line n ≡ Some fault → fault ≡ Many line n
  many_is line n fault p = elim (cases_Bool (nat_le 256 n)) [
    | inl y ↦ some (Many line n) fault (sym (ap (λ (b : Bool). if b then Some (Many line n) else None) y) ∙ p)
    | inr y ↦ absurd (let q : None ≡ Some fault = sym (ap (λ (b : Bool). if b then Some (Many line n) else None) y) ∙ p in let u : ⊥ = cc in u)
  ]
    where
      some : (x y : ReplayFault) → Some x ≡ Some y → y ≡ x
      some x y p = sym (ap (λ (o : Option ReplayFault). or o) p)
        where
          or : Option ReplayFault → ReplayFault
          or None = x
          or (Some z) = z

  pub many_err : (old new : Connections) (out now : List ℕ) (fault : ReplayFault)
      → role_check s f before e (role_of e.event) ≡ many_check e.line (btree_map_len old.live) → many_check e.line (btree_map_len old.live) ≡ Some fault
      → TakesTraceEvent {T = Unit {0}} s f before e new out now (Err fault)
  many_err old new out now fault is p =
      let same = many_is e.line (btree_map_len old.live) fault p in
      subst (λ (x : ReplayFault). TakesTraceEvent {T = Unit {0}} s f before e new out now (Err x)) (sym same)
      (is ∙ p ∙ ap (λ (x : ReplayFault). Some x) same)
