-- In which order a visit prints and calls: what it gives was told before, and a close comes last.
use Rattle.loop_model.specs.Ends.{ModelEnd, model_ends}
use Rattle.std.proofs.Common.{◌≡◌, ℕ, inl, inr, Bool, true, false, ◌||◌, if◌then◌else◌, List, [], ◌∷◌, ◌++◌, length, take, drop, refl, sym, ◌∙◌, ap, subst, subst₂, append-nil, append_assoc, true≢false, take-append-drop, eq-eqb}
use Rattle.std.specs.Prelude.{◌==◌}
use Rattle.std.proofs.lemmas.Bool.{cases_Bool}
use Rattle.link_trait.specs.Wires.{Call, Reading, Gave, NotNow, End, Failed, Reads, Writes, Closes, given_by, given_of}
use Rattle.link_trait.specs.declared.wires.WriteAnswer.{WriteAnswer}
use Rattle.link_trait.specs.declared.wires.WriteAnswer.TheVariants as write
use Rattle.loop_model.specs.Journals.{JournalEntry}
use Rattle.loop_model.specs.Deeds.{LoopDeed, Printing, Calling, entries_in, calls_in, printings}
use Rattle.loop_model.specs.Outs.{next, acts, exactly, first_answer_of}
use Rattle.loop_model.specs.Signs.{entries_parts, calls_parts, printings_entries, printings_calls}
use Rattle.loop_model.specs.Sessions.{Rules, Session, is_released, GivenToSession, Ticks, Ends, Faults, Says, nothing_said, handled, owes_nothing, made}
use Rattle.loop_model.specs.Visits.{most_read, WritingState, Going, PutOff, Failing, after_write, writes_once, writes, Wrote, closed, stays, Visit, Tick, Read, Write, Expire, Met, is_due, fault_unless, flowed, written_unless, session_behind_writing, session_kept_or_closed, rests, came, read_once, rests_behind, served, visited}
use Rattle.loop_model.specs.Parts.{of}
use Rattle.loop_model.specs.Laws.{octets_of_entries, IsBeginning, is_close}
use Rattle.loop_model.proofs.Projections.{of-append}
use Rattle.loop_model.proofs.Steadies.{steady_handled, steady_pours}
use Rattle.loop_model.proofs.Givings.{given_in, octets_of-append, all_given, Q, q_steady}

-- ---- deeds at one connection

abbrev pub given_to : ℕ → List LoopDeed → List ℕ
given_to conn ds = given_of conn (calls_in ds)

abbrev pub told_to : ℕ → List LoopDeed → List ℕ
told_to conn ds = octets_of_entries (of conn (entries_in ds))

pub given_of-append : (conn : ℕ) (cs ds : List Call) → given_of conn (cs ++ ds) ≡ given_of conn cs ++ given_of conn ds
unfolding given_of
given_of-append conn [] ds = refl
given_of-append conn (call ∷ cs) ds = ap (λ z. given_by conn call ++ z) (given_of-append conn cs ds) ∙ sym (append_assoc (given_by conn call) (given_of conn cs) (given_of conn ds))

pub given_parts : (conn : ℕ) (ds es : List LoopDeed) → given_to conn (ds ++ es) ≡ given_to conn ds ++ given_to conn es
given_parts conn ds es = ap (λ z. given_of conn z) (calls_parts ds es) ∙ given_of-append conn (calls_in ds) (calls_in es)

pub told_parts : (conn : ℕ) (ds es : List LoopDeed) → told_to conn (ds ++ es) ≡ told_to conn ds ++ told_to conn es
told_parts conn ds es =
    ap (λ z. octets_of_entries (of conn z)) (entries_parts ds es) ∙ ap octets_of_entries (of-append conn (entries_in ds) (entries_in es))
    ∙ octets_of-append (of conn (entries_in ds)) (of conn (entries_in es))

-- at each place of deeds, behind what was given and told before them
abbrev pub Goes : ℕ → List ℕ → List ℕ → List LoopDeed → Type 0
Goes conn g t [] = IsBeginning g t
Goes conn g t (d ∷ ds) = IsBeginning g t × Goes conn (g ++ given_to conn (d ∷ [])) (t ++ told_to conn (d ∷ [])) ds

goes_as : (conn : ℕ) (g h t u : List ℕ) (ds : List LoopDeed) → g ≡ h → t ≡ u → Goes conn g t ds → Goes conn h u ds
goes_as conn g h t u ds p q r = subst₂ (λ (x y : List ℕ). Goes conn x y ds) p q r

begins_as : (g h t u : List ℕ) → g ≡ h → t ≡ u → IsBeginning g t → IsBeginning h u
begins_as g h t u p q r = subst₂ (λ (x y : List ℕ). IsBeginning x y) p q r

again : (g : List ℕ) (xs ys zs : List ℕ) → zs ≡ xs ++ ys → g ++ zs ≡ (g ++ xs) ++ ys
again g xs ys zs p = ap (λ z. g ++ z) p ∙ sym (append_assoc g xs ys)

pub goes_then : (conn : ℕ) (g t : List ℕ) (ds es : List LoopDeed) → Goes conn g t ds → Goes conn (g ++ given_to conn ds) (t ++ told_to conn ds) es → Goes conn g t (ds ++ es)
unfolding given_of calls_in octets_of_entries of entries_in
goes_then conn g t [] es p q = goes_as conn (g ++ []) g (t ++ []) t es (append-nil g) (append-nil t) q
goes_then conn g t (d ∷ ds) es p q = (
  p.0,
  goes_then conn (g ++ given_to conn (d ∷ [])) (t ++ told_to conn (d ∷ [])) ds es p.1
      (goes_as conn _ _ _ _ es (again g (given_to conn (d ∷ [])) (given_to conn ds) (given_to conn (d ∷ ds)) (given_parts conn (d ∷ []) ds))
      (again t (told_to conn (d ∷ [])) (told_to conn ds) (told_to conn (d ∷ ds)) (told_parts conn (d ∷ []) ds)) q),
)

goes_first : (conn : ℕ) (g t : List ℕ) (ds : List LoopDeed) → Goes conn g t ds → IsBeginning g t
goes_first conn g t [] p = p
goes_first conn g t (d ∷ ds) p = p.0

pub goes_place : (conn : ℕ) (g t : List ℕ) (done rest : List LoopDeed) → Goes conn g t (done ++ rest) → IsBeginning (g ++ given_to conn done) (t ++ told_to conn done)
unfolding given_of calls_in octets_of_entries of entries_in
goes_place conn g t [] rest p = begins_as g (g ++ []) t (t ++ []) (sym (append-nil g)) (sym (append-nil t)) (goes_first conn g t rest p)
goes_place conn g t (d ∷ done) rest p =
    begins_as _ _ _ _ (sym (again g (given_to conn (d ∷ [])) (given_to conn done) (given_to conn (d ∷ done)) (given_parts conn (d ∷ []) done)))
    (sym (again t (told_to conn (d ∷ [])) (told_to conn done) (told_to conn (d ∷ done)) (told_parts conn (d ∷ []) done)))
    (goes_place conn (g ++ given_to conn (d ∷ [])) (t ++ told_to conn (d ∷ [])) done rest p.1)

empty_parts : (xs ys : List ℕ) → xs ++ ys ≡ [] → (xs ≡ []) × (ys ≡ [])
empty_parts [] ys p = (refl, p)
empty_parts (x ∷ xs) ys p = absurd (let q : x ∷ (xs ++ ys) ≡ [] = p in cc q)

-- deeds that neither give nor tell a connection anything
pub nothing_goes : (conn : ℕ) (g t : List ℕ) (ds : List LoopDeed) → given_to conn ds ≡ [] → told_to conn ds ≡ [] → IsBeginning g t → Goes conn g t ds
nothing_goes conn g t [] p q b = b
nothing_goes conn g t (d ∷ ds) p q b =
    let e = empty_parts (given_to conn (d ∷ [])) (given_to conn ds) (sym (given_parts conn (d ∷ []) ds) ∙ p) in
    let f = empty_parts (told_to conn (d ∷ [])) (told_to conn ds) (sym (told_parts conn (d ∷ []) ds) ∙ q) in (
      b,
      nothing_goes conn (g ++ given_to conn (d ∷ [])) (t ++ told_to conn (d ∷ [])) ds e.1 f.1
          (begins_as g _ t _ (sym (ap (λ z. g ++ z) e.0 ∙ append-nil g)) (sym (ap (λ z. t ++ z) f.0 ∙ append-nil t)) b),
    )

begins_more : (g t u : List ℕ) → IsBeginning g t → IsBeginning g (t ++ u)
begins_more g t u b = record { rest = b.rest ++ u; is = sym (append_assoc g b.rest u) ∙ ap (λ z. z ++ u) b.is }

lines_go : (conn : ℕ) (g t : List ℕ) (xs : List JournalEntry) → IsBeginning g t → Goes conn g t (printings xs)
unfolding given_of calls_in
lines_go conn g t [] b = b
lines_go conn g t (x ∷ xs) b = (
  b,
  lines_go conn (g ++ []) (t ++ told_to conn (Printing x ∷ [])) xs
      (subst (λ z. IsBeginning z (t ++ told_to conn (Printing x ∷ []))) (sym (append-nil g)) (begins_more g t (told_to conn (Printing x ∷ [])) b)),
)

-- ---- closes

NoClosing : List LoopDeed → Type 0
NoClosing [] = Unit {0}
NoClosing (Printing x ∷ ds) = NoClosing ds
NoClosing (Calling call ∷ ds) = (is_close call ≡ false) × NoClosing ds

-- nothing follows a close
unfoldable pub EndsAtClose : List LoopDeed → Type 0
EndsAtClose [] = Unit {0}
EndsAtClose (Printing x ∷ ds) = EndsAtClose ds
EndsAtClose (Calling call ∷ ds) = (is_close call ≡ true → ds ≡ []) × EndsAtClose ds

none_closing : (ds es : List LoopDeed) → NoClosing ds → NoClosing es → NoClosing (ds ++ es)
unfolding NoClosing
none_closing [] es p q = q
none_closing (Printing x ∷ ds) es p q = none_closing ds es p q
none_closing (Calling call ∷ ds) es p q = (p.0, none_closing ds es p.1 q)

ends_at : (ds es : List LoopDeed) → NoClosing ds → EndsAtClose es → EndsAtClose (ds ++ es)
unfolding NoClosing EndsAtClose
ends_at [] es p q = q
ends_at (Printing x ∷ ds) es p q = ends_at ds es p q
ends_at (Calling call ∷ ds) es p q = (λ e. absurd (true≢false (sym e ∙ p.0)), ends_at ds es p.1 q)

lines_close_none : (xs : List JournalEntry) → NoClosing (printings xs)
unfolding NoClosing
lines_close_none [] = tt
lines_close_none (x ∷ xs) = lines_close_none xs

-- ---- one session

-- what was told of its connection is what was given to it and a rest, which is what waits, unless it broke off
pub record Holding (n : ℕ) (s : Session ModelEnd) (g t : List ℕ) : Type 0 where
  pub number : s.number ≡ n
  pub rest : List ℕ
  pub is : g ++ rest ≡ t
  pub whole : s.broken ≡ false → rest ≡ s.output

begins_held : (n : ℕ) (s : Session ModelEnd) (g t : List ℕ) → Holding n s g t → IsBeginning g t
begins_held n s g t h = record { rest = h.rest; is = h.is }

holding_as : (n : ℕ) (s : Session ModelEnd) (g h t u : List ℕ) → g ≡ h → t ≡ u → Holding n s g t → Holding n s h u
holding_as n s g h t u p q r = subst₂ (λ (x y : List ℕ). Holding n s x y) p q r

-- a part of a visit, from one state of the session to another
record Works (n : ℕ) (s t : Session ModelEnd) (ds : List LoopDeed) : Type 0 where
  closes : NoClosing ds
  goes : (g u : List ℕ) → Holding n s g u → Goes n g u ds
  holds : (g u : List ℕ) → Holding n s g u → Holding n t (g ++ given_to n ds) (u ++ told_to n ds)

works_none : (n : ℕ) (s : Session ModelEnd) → Works n s s []
unfolding NoClosing given_of calls_in octets_of_entries of entries_in
works_none n s = record {
  closes = tt;
  goes = λ g u h. begins_held n s g u h;
  holds = λ g u h. holding_as n s g (g ++ []) u (u ++ []) (sym (append-nil g)) (sym (append-nil u)) h;
}

-- the connection is noted as made
works_noted : (n : ℕ) (s : Session ModelEnd) → Works n s (made s) []
unfolding NoClosing given_of calls_in octets_of_entries of entries_in
works_noted n s = record {
  closes = tt;
  goes = λ g u h. begins_held n s g u h;
  holds = λ g u h. holding_as n (made s) g (g ++ []) u (u ++ []) (sym (append-nil g)) (sym (append-nil u)) (record { number = h.number; rest = h.rest; is = h.is; whole = h.whole });
}

works_then : (n : ℕ) (s t v : Session ModelEnd) (ds es : List LoopDeed) → Works n s t ds → Works n t v es → Works n s v (ds ++ es)
works_then n s t v ds es p q = record {
  closes = none_closing ds es p.closes q.closes;
  goes = λ g u h. goes_then n g u ds es (p.goes g u h) (q.goes (g ++ given_to n ds) (u ++ told_to n ds) (p.holds g u h));
  holds = λ g u h.
      holding_as n v _ _ _ _ (sym (again g (given_to n ds) (given_to n es) (given_to n (ds ++ es)) (given_parts n ds es)))
      (sym (again u (told_to n ds) (told_to n es) (told_to n (ds ++ es)) (told_parts n ds es)))
      (q.holds (g ++ given_to n ds) (u ++ told_to n ds) (p.holds g u h));
}

-- lines
works_lines : (n : ℕ) (s t : Session ModelEnd) (xs : List JournalEntry) → s.number ≡ n → Q s t xs [] → Works n s t (printings xs)
unfolding given_of given_in
works_lines n s t xs num q =
    let given : given_to n (printings xs) ≡ [] = ap (λ z. given_of n z) (printings_calls xs) in
    let own : of n xs ≡ xs = q.0.entries n ∙ ap (λ (b : Bool). if b then xs else []) (eq-eqb s.number n num) in
    let told : told_to n (printings xs) ≡ octets_of_entries xs = ap (λ z. octets_of_entries (of n z)) (printings_entries xs) ∙ ap octets_of_entries own in
    record {
      closes = lines_close_none xs;
      goes = λ g u h. lines_go n g u xs (begins_held n s g u h);
      holds = λ g u h. record {
        number = q.0.number ∙ num;
        rest = h.rest ++ octets_of_entries xs;
        is =
            ap (λ z. z ++ (h.rest ++ octets_of_entries xs)) (ap (λ z. g ++ z) given ∙ append-nil g) ∙ sym (append_assoc g h.rest (octets_of_entries xs)) ∙ ap (λ z. z ++ octets_of_entries xs) h.is
            ∙ ap (λ z. u ++ z) (sym told);
        whole = λ on.
            let w = q.1.whole on in
            ap (λ z. z ++ octets_of_entries xs) (h.whole w.0) ∙ q.1.is ∙ w.1;
      };
    }

-- a call that gives nothing
works_call : (n : ℕ) (s : Session ModelEnd) (call : Call) → is_close call ≡ false → given_by n call ≡ [] → Works n s s (Calling call ∷ [])
unfolding NoClosing given_of calls_in octets_of_entries of entries_in
works_call n s call p q =
    let given : given_to n (Calling call ∷ []) ≡ [] = ap (λ z. z ++ []) q in
    record {
      closes = (p, tt);
      goes = λ g u h. nothing_goes n g u (Calling call ∷ []) given refl (begins_held n s g u h);
      holds = λ g u h. holding_as n s g _ u _ (sym (ap (λ z. g ++ z) given ∙ append-nil g)) (sym (append-nil u)) h;
    }

-- a write that gives octets
works_wrote : (n : ℕ) (s : Session ModelEnd) (k : ℕ) → s.number ≡ n → s.broken ≡ false → Works n s (record s { output = drop k s.output }) (Calling (Writes s.number s.output (write.Some k)) ∷ [])
unfolding NoClosing given_of calls_in octets_of_entries of entries_in
works_wrote n s k num on =
    let ds : List LoopDeed = Calling (Writes s.number s.output (write.Some k)) ∷ [] in
    let given : given_to n ds ≡ take k s.output = ap (λ (b : Bool). (if b then take k s.output else []) ++ []) (eq-eqb s.number n num) ∙ append-nil (take k s.output) in
    let holds : (g u : List ℕ) → Holding n s g u → Holding n (record s { output = drop k s.output }) (g ++ given_to n ds) (u ++ []) = λ g u h. record {
      number = num;
      rest = drop k s.output;
      is =
          ap (λ z. (g ++ z) ++ drop k s.output) given ∙ append_assoc g (take k s.output) (drop k s.output) ∙ ap (λ z. g ++ z) (take-append-drop k s.output ∙ sym (h.whole on))
          ∙ h.is ∙ sym (append-nil u);
      whole = λ off. refl;
    } in
    record {
      closes = (refl, tt);
      goes = λ g u h. (begins_held n s g u h, begins_held n (record s { output = drop k s.output }) (g ++ given_to n ds) (u ++ []) (holds g u h));
      holds = holds;
    }

works_breaks : (n : ℕ) (s : Session ModelEnd) → Works n s (record s { broken = true }) []
unfolding NoClosing given_of calls_in octets_of_entries of entries_in
works_breaks n s = record {
  closes = tt;
  goes = λ g u h. begins_held n s g u h;
  holds = λ g u h. record {
    number = h.number;
    rest = h.rest;
    is = ap (λ z. z ++ h.rest) (append-nil g) ∙ h.is ∙ sym (append-nil u);
    whole = λ on. absurd (true≢false on);
  };
}

works_answered : (n : ℕ) (a : WriteAnswer) (answers : List WriteAnswer) (s : Session ModelEnd) → s.number ≡ n → s.broken ≡ false
    → ((t : Session ModelEnd) (f : WritingState) → t.number ≡ n → t.broken ≡ false → Works n t (acts writes_once (t, f) answers).state.0 (acts writes_once (t, f) answers).order)
    → Works n s (acts writes_once (after_write a s) answers).state.0 (Calling (Writes s.number s.output a) ∷ (acts writes_once (after_write a s) answers).order)
works_answered n (write.Some k) answers s num on rest =
    let t : Session ModelEnd = record s { output = drop k s.output } in
    works_then n s t _ (Calling (Writes s.number s.output (write.Some k)) ∷ []) (acts writes_once (t, Going) answers).order (works_wrote n s k num on) (rest t Going num on)
works_answered n write.NotNow answers s num on rest =
    works_then n s s _ (Calling (Writes s.number s.output write.NotNow) ∷ []) (acts writes_once (s, PutOff) answers).order (works_call n s (Writes s.number s.output write.NotNow) refl refl)
    (rest s PutOff num on)
works_answered n write.Failed answers s num on rest =
    works_then n s s _ (Calling (Writes s.number s.output write.Failed) ∷ []) (acts writes_once (s, Failing) answers).order (works_call n s (Writes s.number s.output write.Failed) refl refl)
    (rest s Failing num on)

works_acts : (n : ℕ) (answers : List WriteAnswer) (s : Session ModelEnd) (f : WritingState) → s.number ≡ n → s.broken ≡ false
    → Works n s (acts writes_once (s, f) answers).state.0 (acts writes_once (s, f) answers).order
unfolding acts writes_once
works_acts n [] s f num on = works_none n s
works_acts n (a ∷ answers) s Going num on =
    elim (cases_Bool (length s.output == 0)) [
      | inl p ↦ rw p (works_acts n answers s Going num on)
      | inr p ↦ rw p (works_answered n a answers s num on (λ t f num on. works_acts n answers t f num on))
    ]
works_acts n (a ∷ answers) s PutOff num on = works_acts n answers s PutOff num on
works_acts n (a ∷ answers) s Failing num on = works_acts n answers s Failing num on

module _ (r : Rules) (m : ℕ) where
  lines_of : (s : Session ModelEnd) (g : GivenToSession) (says : Says) → Q s (handled model_ends r m s g says).0 (handled model_ends r m s g says).1 []
  lines_of s g says = steady_handled r (λ g. Unit {0}) Q (q_steady r) all_given.usual m s g says tt

  works_unless : (n : ℕ) (b : Bool) (s : Session ModelEnd) (says : Says) → s.number ≡ n → Works n s (fault_unless model_ends b r m s says).0 (printings (fault_unless model_ends b r m s says).1)
  works_unless n true s says num = works_breaks n s
  works_unless n false s says num = works_lines n s (handled model_ends r m s Faults says).0 (handled model_ends r m s Faults says).1 num (lines_of s Faults says)

  works_flowed : (n : ℕ) (s : Session ModelEnd) (f : WritingState) (says : Says) → s.number ≡ n → Works n s (flowed model_ends r m (s, f) says).state (flowed model_ends r m (s, f) says).order
  works_flowed n s Going says num = works_none n s
  works_flowed n s PutOff says num = works_none n s
  works_flowed n s Failing says num = works_unless n (is_released model_ends s) s says num

  written_by : (n : ℕ) (b : Bool) (s : Session ModelEnd) (a : Wrote) → s.number ≡ n → s.broken ≡ b → Works n s (written_unless model_ends b r m s a).state (written_unless model_ends b r m s a).order
  unfolding writes
  written_by n true s a num is = works_none n s
  written_by n false s a num is =
      let w = writes s a.answers in
      let t = works_acts n (exactly (length s.output) write.NotNow a.answers) s Going num is in
      works_then n s w.state.0 (flowed model_ends r m w.state a.says).state w.order (flowed model_ends r m w.state a.says).order t
      (works_flowed n w.state.0 w.state.1 a.says (t.holds [] s.output (record { number = num; rest = s.output; is = refl; whole = λ on. refl })).number)

  works_written : (n : ℕ) (s : Session ModelEnd) (a : Wrote) → s.number ≡ n → Works n s (session_behind_writing model_ends r m s a).state (session_behind_writing model_ends r m s a).order
  unfolding session_behind_writing
  works_written n s a num = written_by n s.broken s a num refl

  -- ---- a visit

  -- at each place what it gives was told, and a close is the last
  pub record Goes_so (n : ℕ) (s : Session ModelEnd) (ds : List LoopDeed) : Type 0 where
    pub ends : EndsAtClose ds
    pub goes : (g u : List ℕ) → Holding n s g u → Goes n g u ds

  so_then : (n : ℕ) (s t : Session ModelEnd) (ds es : List LoopDeed) → Works n s t ds → Goes_so n t es → Goes_so n s (ds ++ es)
  so_then n s t ds es p q = record {
    ends = ends_at ds es p.closes q.ends;
    goes = λ g u h. goes_then n g u ds es (p.goes g u h) (q.goes (g ++ given_to n ds) (u ++ told_to n ds) (p.holds g u h));
  }

  so_stays : (n : ℕ) (s : Session ModelEnd) → Goes_so n s []
  unfolding EndsAtClose
  so_stays n s = record { ends = tt; goes = λ g u h. begins_held n s g u h }

  so_closes : (n : ℕ) (s : Session ModelEnd) → Goes_so n s (Calling (Closes s.number) ∷ [])
  unfolding EndsAtClose given_of calls_in octets_of_entries of entries_in
  so_closes n s = record {
    ends = (λ e. refl, tt);
    goes = λ g u h. nothing_goes n g u (Calling (Closes s.number) ∷ []) refl refl (begins_held n s g u h);
  }

  so_if : (n : ℕ) (s : Session ModelEnd) (b : Bool) → Goes_so n s (if b then closed s else stays s).order
  so_if n s true = so_closes n s
  so_if n s false = so_stays n s

  so_settled : (n : ℕ) (s : Session ModelEnd) → Goes_so n s (session_kept_or_closed model_ends s).order
  unfolding session_kept_or_closed
  so_settled n s = so_if n s (s.broken || owes_nothing model_ends s)

  so_rests : (n : ℕ) (s : Session ModelEnd) (a : Wrote) → s.number ≡ n → Goes_so n s (rests model_ends r m s a).order
  unfolding rests
  so_rests n s a num =
      let w = session_behind_writing model_ends r m s a in
      so_then n s w.state w.order (session_kept_or_closed model_ends w.state).order (works_written n s a num) (so_settled n w.state)

  so_behind : (n : ℕ) (reading : Reading) (s : Session ModelEnd) (a : Wrote) → s.number ≡ n → Goes_so n s (rests_behind model_ends reading r m s a).order
  so_behind n (Gave octets) s a num = so_rests n s a num
  so_behind n NotNow s a num = so_stays n s
  so_behind n End s a num = so_rests n s a num
  so_behind n Failed s a num = so_rests n s a num

  pub so_served : (n : ℕ) (s : Session ModelEnd) (g : GivenToSession) (a : Met) → s.number ≡ n → Goes_so n s (served model_ends r m s g a).order
  unfolding served
  so_served n s g a num =
      let h = handled model_ends r m s g (first_answer_of nothing_said a.says) in
      let q = lines_of s g (first_answer_of nothing_said a.says) in
      so_then n s h.0 (printings h.1) (rests model_ends r m h.0 a.wrote).order (works_lines n s h.0 h.1 num q) (so_rests n h.0 a.wrote (q.0.number ∙ num))

  came_so : (reading : Reading) (s : Session ModelEnd) (says : List Says) → Q s (came model_ends reading r m s says).0 (came model_ends reading r m s says).1 []
  came_so (Gave octets) s says = steady_pours r (λ g. Unit {0}) Q (q_steady r) all_given.usual all_given.hears m s octets says
  came_so NotNow s says = (q_steady r).none s
  came_so End s says = lines_of s Ends (first_answer_of nothing_said says)
  came_so Failed s says = lines_of s Faults (first_answer_of nothing_said says)

  so_read : (n : ℕ) (s : Session ModelEnd) (a : Met) → s.number ≡ n → Goes_so n s (next (read_once model_ends r m s a) (λ t. rests_behind model_ends a.reading r m t a.wrote)).order
  unfolding read_once
  so_read n s a num =
      let call = Reads s.number most_read a.waits a.reading in
      let b = came model_ends a.reading r m s a.says in
      let q = came_so a.reading s a.says in
      so_then n s b.0 (Calling call ∷ printings b.1) (rests_behind model_ends a.reading r m b.0 a.wrote).order
      (works_then n s s b.0 (Calling call ∷ []) (printings b.1) (works_call n s call refl refl) (works_lines n s b.0 b.1 num q)) (so_behind n a.reading b.0 a.wrote (q.0.number ∙ num))

  pub so_visited : (n : ℕ) (visit : Visit) (s : Session ModelEnd) (a : Met) → s.number ≡ n → Goes_so n s (visited model_ends r m visit s a).order
  unfolding visited
  so_visited n Tick s a num =
      elim (cases_Bool (is_due m (model_ends.deadline s.end))) [ inl p ↦ rw p (so_served n s Ticks a num) | inr p ↦ rw p (so_stays n s) ]
  so_visited n Read s a num = elim (cases_Bool (is_released model_ends s)) [ inl p ↦ rw p (so_stays n s) | inr p ↦ rw p (so_then n s (made s) [] _ (works_noted n s) (so_read n (made s) a num)) ]
  so_visited n Write s a num = so_then n s (made s) [] _ (works_noted n s) (so_rests n (made s) a.wrote num)
  so_visited n Expire s a num = so_if n s (is_due m s.closing)
