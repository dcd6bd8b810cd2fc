-- A connection of a relay is accepted.
use Rattle.std.proofs.Common.{◌≡◌, ◌⊎◌, ℕ, ◌==◌, true, List, [], ◌∷◌, ◌++◌, length, None, refl, sym, ap, ◌∙◌, subst, append_assoc, append-nil, inl, inr, true≢false, Result, Ok, Err, ◌≤◌}
use Rattle.std.proofs.lemmas.Bool.{eq-eqb}
use Rattle.std.proofs.lemmas.List.Sums.{fold-append}
use Rattle.std.proofs.lemmas.List.Folds.{list_any-append}
use Rattle.er_base.specs.declared.side.Side.{Side}
use Rattle.er_base.specs.declared.side.Side.TheVariants.{R}
use Rattle.outside.specs.Acts.{Dialled, Called}
use Rattle.outside.specs.Doings.{Told, Did}
use Rattle.outside.specs.Scripts.{printing}
use Rattle.relay_script.specs.declared.script.Script.{Script}
use Rattle.relay_loop.specs.declared.fault.RelayFault.{RelayFault}
use Rattle.relay_loop.specs.declared.link.Link.{Link}
use Rattle.relay_loop.specs.RelayLines.{RelayLine, Opening, SideEnd, text_of_line, told_by_line, opens_in_line, opens_in_lines, ends_in_line, ends_in_lines}
use Rattle.relay_loop.specs.Connections.{Far, Nobody, Unreached, Reached, RelayedConnection, count_of_reached, AreDialledFor}
use Rattle.relay_loop.specs.RelayDeeds.{RelayDeed, Puts, Flushes, Calls, Performs, BreaksBehind, IsLastDone, lines_in, loop_calls_in}
use Rattle.relay_loop.specs.Rings.{behind_deed, connections_in, far_conn, AreInOrder, IsQuiet, IsSafeConnection, AllSafe, IsOwnDeed, SettlesBefore, AreSafe, AllServed, IsPairOf, IsKnown, AllKnown, Differs, AllDiffer, IsLinkOf, Parted, ArePaired, HoldsRelay, IsOfNoLink, StandsRelay, IsAloneFar, Stage, Fresh, Opened, Unanswered, Ended, StandsAt, IsNewest, Readies, Accepts, BreaksAccept, EndsAccept, AllLeft, older_ones}
use Rattle.relay_loop.proofs.Deeds.{performs_none, performs_then, performs_call, performs_flush, performs_lines, breaks_then, breaks_here, loop_calls_append, lines_append, steadily_then}
use Rattle.relay_loop.proofs.LinkGives.{or_second}
use Rattle.relay_loop.proofs.Elsewhere.{visit_opens, untouched_append, untold_append, own_more, settle_more, connections_on, open_still, left_on}
use Rattle.relay_loop.proofs.Tellings.{silent_append}
use Rattle.relay_loop.proofs.RelayRings.{are_safe, known_behind}
use Rattle.relay_loop.proofs.RelayIdles.{IsMute, mute_untouched, mute_untold, all_mute, safe_mute, served_mute, mute_relay, mute_flush, mute_dial, mute_line}

-- ---- the newest socket stays without another side

alone_differs : (e : ℕ) (number : ℕ) (far : Far) (link : Link) → IsAloneFar far → IsLinkOf link number e far ⊎ Differs number e (far_conn e far) link
    → Differs number e e link
alone_differs e number Nobody link alone (inl is) = absurd is
alone_differs e number Nobody link alone (inr d) = d
alone_differs e number (Unreached address) link alone (inl is) = absurd is
alone_differs e number (Unreached address) link alone (inr d) = d
alone_differs e number (Reached address r) link alone h = absurd alone

all_alone : (number e : ℕ) (far : Far) (links : List Link) → IsAloneFar far → Parted number e far links → AllDiffer number e e links
all_alone number e far [] alone parted = tt
all_alone number e far (link ∷ links) alone parted = (alone_differs e number far link alone parted.0, all_alone number e far links alone parted.1)

all_apart : (number e : ℕ) (links : List Link) → AllDiffer number e e links → IsOfNoLink e links
all_apart number e [] differ = tt
all_apart number e (link ∷ links) differ = ((differ.0.e_e, differ.0.e_r), all_apart number e links differ.1)

parted_alone : (number e : ℕ) (far : Far) (links : List Link) → far_conn e far ≡ e → AllDiffer number e e links → Parted number e far links
parted_alone number e far [] same differ = tt
parted_alone number e far (link ∷ links) same differ =
    (inr (subst (λ (k : ℕ). Differs number e k link) (sym same) differ.0), parted_alone number e far links same differ.1)

lone_pair : (e r at : ℕ) (far : Far) → IsAloneFar far → IsPairOf e r at far → ⊥
lone_pair e r at Nobody alone pair = pair
lone_pair e r at (Unreached address) alone pair = pair
lone_pair e r at (Reached address s) alone pair = alone

lone_known : (e r number at : ℕ) (far : Far) (others : List RelayedConnection) → IsAloneFar far
    → IsKnown e r (record { number = number; e = at; r = far } ∷ others) → IsKnown e r others
lone_known e r number at far others alone (inl pair) = absurd (lone_pair e r at far alone pair)
lone_known e r number at far others alone (inr known) = known

all_lone : (number at : ℕ) (far : Far) (others : List RelayedConnection) (links : List Link) → IsAloneFar far
    → AllKnown (record { number = number; e = at; r = far } ∷ others) links → AllKnown others links
all_lone number at far others [] alone known = tt
all_lone number at far others (link ∷ links) alone known =
    (lone_known link.e.0 link.r.0 number at far others alone known.0, all_lone number at far others links alone known.1)

lone_crowd : (number e : ℕ) (far : Far) (others : List RelayedConnection) (count : ℕ) → IsAloneFar far
    → count ≤ count_of_reached (record { number = number; e = e; r = far } ∷ others) → count ≤ count_of_reached others
lone_crowd number e Nobody others count alone few = few
lone_crowd number e (Unreached address) others count alone few = few
lone_crowd number e (Reached address r) others count alone few = absurd alone

-- what the newest is among all
pub record Newest (script : Script) (dial : List ℕ) (number e : ℕ) (far : Far) (others : List RelayedConnection) (done : List RelayDeed) (links : List Link) : Type 0 where
  pub differ : AllDiffer number e e links
  pub order : AreInOrder (record { number = number; e = e; r = far } ∷ others)
  pub paired : ArePaired e links (record { number = number; e = e; r = far } ∷ others)
  pub known : AllKnown others links
  pub served : AllServed script done links others
  pub left : AllLeft done others
  pub dialled : AreDialledFor others
  pub crowd : length links ≤ count_of_reached others
  pub safe : AllSafe script dial done (record { number = number; e = e; r = far } ∷ others)

pub newest_of : (script : Script) (dial : List ℕ) (stage : Stage) (number e : ℕ) (done : List RelayDeed) (now : Told) (links : List Link)
    (n : IsNewest stage number e done now) → HoldsRelay script dial done e links → Newest script dial number e n.far n.others done links
newest_of script dial stage number e done now links n h =
    let paired : ArePaired e links (record { number = number; e = e; r = n.far } ∷ n.others) = subst (λ (c : List RelayedConnection). ArePaired e links c) n.newest h.paired in
    record {
      differ = all_alone number e n.far links n.alone paired.0.parted;
      order = subst AreInOrder n.newest h.in_order;
      paired = paired;
      known = all_lone number e n.far n.others links n.alone (subst (λ (c : List RelayedConnection). AllKnown c links) n.newest h.known);
      left = subst (λ (c : List RelayedConnection). AllLeft done (older_ones c)) n.newest h.left;
      dialled = subst (λ (c : List RelayedConnection). AreDialledFor (older_ones c)) n.newest h.dialled;
      crowd = lone_crowd number e n.far n.others (length links) n.alone (subst (λ (c : List RelayedConnection). length links ≤ count_of_reached c) n.newest h.crowd);
      served = (subst (λ (c : List RelayedConnection). AllServed script done links c) n.newest h.served).1;
      safe = subst (λ (c : List RelayedConnection). AllSafe script dial done c) n.newest h.safe.all;
    }

pub newest_apart : (script : Script) (dial : List ℕ) (stage : Stage) (number e : ℕ) (done : List RelayDeed) (now : Told) (links : List Link)
    → IsNewest stage number e done now → HoldsRelay script dial done e links → IsOfNoLink e links
newest_apart script dial stage number e done now links n h = all_apart number e links (newest_of script dial stage number e done now links n h).differ

pub alone_quiet : (script : Script) (dial : List ℕ) (done : List RelayDeed) (number e : ℕ) (far : Far) → IsAloneFar far → IsSafeConnection script dial done number e far
    → IsQuiet number e done
alone_quiet script dial done number e Nobody alone safe = safe
alone_quiet script dial done number e (Unreached address) alone safe = safe.1.quiet
alone_quiet script dial done number e (Reached address r) alone safe = absurd alone

-- ---- steps before it is closed or another is dialled

pub opening_on : (number : ℕ) (done deeds : List RelayDeed) → opens_in_lines number (lines_in done) ≡ true → opens_in_lines number (lines_in (done ++ deeds)) ≡ true
opening_on number done deeds h =
    ap (λ (o : List RelayLine). opens_in_lines number o) (lines_append done deeds)
    ∙ list_any-append (opens_in_line number) (lines_in done) (lines_in deeds) ∙ rw h refl

ending_on : (number : ℕ) (done deeds : List RelayDeed) → ends_in_lines number R (lines_in done) ≡ true → ends_in_lines number R (lines_in (done ++ deeds)) ≡ true
ending_on number done deeds h =
    ap (λ (o : List RelayLine). ends_in_lines number R o) (lines_append done deeds)
    ∙ list_any-append (ends_in_line number R) (lines_in done) (lines_in deeds) ∙ rw h refl

pub stands_on : (stage : Stage) (number : ℕ) (far : Far) (done deeds : List RelayDeed) → StandsAt stage number far done → StandsAt stage number far (done ++ deeds)
stands_on Fresh number far done deeds h = h
stands_on Opened number far done deeds h = (h.0, opening_on number done deeds h.1)
stands_on Unanswered number far done deeds h = h
stands_on Ended number far done deeds h = (h.0, ending_on number done deeds h.1)

-- a mute deed, which opens no socket
unfoldable pub readies_mute : (script : Script) (dial : List ℕ) (stage behind : Stage) (number e : ℕ) (links : List Link) (waiting left : List ℕ) (before now : Told) (deed : RelayDeed)
    → IsMute deed → ((connections : List RelayedConnection) → behind_deed connections deed ≡ connections)
    → ((connections : List RelayedConnection) → IsOwnDeed dial connections deed) → ((done : List RelayDeed) → SettlesBefore script done deed)
    → loop_calls_in (deed ∷ []) ≡ [] → Performs waiting left before now (deed ∷ []) → now.wires.opened ≡ before.wires.opened
    → ((far : Far) (done : List RelayDeed) → StandsAt stage number far done → StandsAt behind number far (done ++ deed ∷ []))
    → Readies script dial stage behind number e links waiting left before now
readies_mute script dial stage behind number e links waiting left before now deed m still own settled calls performs opened stands = record {
  deeds = deed ∷ [];
  calls_are = calls;
  performs = performs;
  newest = λ done n. record {
    far = n.far;
    others = n.others;
    newest = connections_on done (deed ∷ []) still ∙ n.newest;
    alone = n.alone;
    is = n.is ∙ sym opened;
    unclosed = open_still e done (deed ∷ []) n.unclosed (mute_untouched deed e m).unclosed;
    silent = silent_append e done (deed ∷ []) n.silent (mute_untouched deed e m).silent;
    stands = stands n.far done n.stands;
  };
  holds = λ done n h. mute_relay script dial done deed e links m still (own (connections_in done)) (settled done) h;
  steady = λ done n h. (h.safe, (mute_relay script dial done deed e links m still (own (connections_in done)) (settled done) h).safe);
}

unfoldable pub readies_flush : (script : Script) (dial : List ℕ) (stage : Stage) (number e : ℕ) (links : List Link) (waiting left : List ℕ) (before now : Told)
    → Did before now (printing waiting) → left ≡ [] → Readies script dial stage stage number e links waiting left before now
readies_flush script dial stage number e links waiting left before now did none =
    let performs = performs_flush waiting left before now did none in
    readies_mute script dial stage stage number e links waiting left before now Flushes mute_flush (λ connections. refl) (λ connections. tt) (λ done. tt) refl performs
    (performs.did.wires.opened ∙ visit_opens number e e waiting (Flushes ∷ []) (tt, tt) before.wires.opened)
    (λ far done stands. stands_on stage number far done (Flushes ∷ []) stands)

-- a line of the connection waits
unfoldable pub readies_line : (script : Script) (dial : List ℕ) (stage behind : Stage) (number e : ℕ) (links : List Link) (waiting left : List ℕ) (t : Told) (line : RelayLine)
    → ((other : ℕ) (side : Side) → told_by_line other side line ≡ []) → left ≡ waiting ++ text_of_line line
    → ((far : Far) (done : List RelayDeed) → StandsAt stage number far done → StandsAt behind number far (done ++ Puts line ∷ []))
    → Readies script dial stage behind number e links waiting left t t
readies_line script dial stage behind number e links waiting left t line none is stands =
    readies_mute script dial stage behind number e links waiting left t t (Puts line) (mute_line line none) (λ connections. refl) (λ connections. tt) (λ done. tt) refl
    (performs_lines waiting left (line ∷ []) t (is ∙ ap (λ (o : List ℕ). waiting ++ o) (sym (append-nil (text_of_line line))))) refl stands

-- the first line of it waits
opening_put : (number moment : ℕ) (done : List RelayDeed) → opens_in_lines number (lines_in (done ++ Puts (Opening moment number) ∷ [])) ≡ true
opening_put number moment done =
    let same : (number == number) ≡ true = eq-eqb number number refl in
    ap (λ (o : List RelayLine). opens_in_lines number o) (lines_append done (Puts (Opening moment number) ∷ []))
    ∙ list_any-append (opens_in_line number) (lines_in done) (Opening moment number ∷ []) ∙ or_second (opens_in_lines number (lines_in done)) _ (rw same refl)

pub readies_open : (script : Script) (dial : List ℕ) (moment number e : ℕ) (links : List Link) (waiting left : List ℕ) (t : Told)
    → left ≡ waiting ++ text_of_line (Opening moment number) → Readies script dial Fresh Opened number e links waiting left t t
readies_open script dial moment number e links waiting left t is =
    readies_line script dial Fresh Opened number e links waiting left t (Opening moment number) (λ other side. refl) is
    (λ far done fresh. (fresh, opening_put number moment done))

-- a line tells that nobody could be dialled
ending_put : (number moment : ℕ) (done : List RelayDeed) → ends_in_lines number R (lines_in (done ++ Puts (SideEnd moment number R) ∷ [])) ≡ true
ending_put number moment done =
    let same : (number == number) ≡ true = eq-eqb number number refl in
    ap (λ (o : List RelayLine). ends_in_lines number R o) (lines_append done (Puts (SideEnd moment number R) ∷ []))
    ∙ list_any-append (ends_in_line number R) (lines_in done) (SideEnd moment number R ∷ []) ∙ or_second (ends_in_lines number R (lines_in done)) _ (rw same refl)

pub readies_ended : (script : Script) (dial : List ℕ) (moment number e : ℕ) (links : List Link) (waiting left : List ℕ) (t : Told)
    → left ≡ waiting ++ text_of_line (SideEnd moment number R) → Readies script dial Unanswered Ended number e links waiting left t t
readies_ended script dial moment number e links waiting left t is =
    readies_line script dial Unanswered Ended number e links waiting left t (SideEnd moment number R) (λ other side. refl) is
    (λ far done stands. (stands, ending_put number moment done))

-- none could be dialled for it
pub readies_unreached : (script : Script) (dial : List ℕ) (number e : ℕ) (links : List Link) (waiting : List ℕ) (before now : Told)
    → Did before now (Called (Dialled dial None) ∷ []) → Readies script dial Opened Unanswered number e links waiting waiting before now
readies_unreached script dial number e links waiting before now did =
    let deed : RelayDeed = Calls (Dialled dial None) in
    let m : IsMute deed = mute_dial dial None in
    let behind : (done : List RelayDeed) (n : IsNewest Opened number e done before)
    → connections_in (done ++ deed ∷ []) ≡ record { number = number; e = e; r = Unreached dial } ∷ n.others =
    λ done n. fold-append behind_deed [] done (deed ∷ []) ∙ ap (λ (c : List RelayedConnection). behind_deed c deed) n.newest in
    let own : (done : List RelayDeed) (n : IsNewest Opened number e done before) → IsOwnDeed dial (connections_in done) deed =
    λ done n. subst (λ (c : List RelayedConnection). IsOwnDeed dial c deed) (sym n.newest) (refl, n.stands.0) in
    let holds : (done : List RelayDeed) → IsNewest Opened number e done before → HoldsRelay script dial done e links → HoldsRelay script dial (done ++ deed ∷ []) e links =
    λ done n h.
    let g = newest_of script dial Opened number e done before links n h in
    let count : length (connections_in (done ++ deed ∷ [])) ≡ length (connections_in done) =
    ap (λ (c : List RelayedConnection). length c) (behind done n) ∙ sym (ap (λ (c : List RelayedConnection). length c) n.newest) in
    let safe : AllSafe script dial (done ++ deed ∷ []) (record { number = number; e = e; r = n.far } ∷ n.others) =
    safe_mute script dial done deed (record { number = number; e = e; r = n.far } ∷ n.others) m g.safe in
    record {
      hold = all_mute script done deed links m h.hold;
      below = rw count h.below;
      fresh = λ conn more. untouched_append conn done (deed ∷ []) (h.fresh conn more) (mute_untouched deed conn m);
      untold = rw count (λ other more. untold_append other done (deed ∷ []) (h.untold other more) (mute_untold deed other m));
      in_order = rw (behind done n) (g.order.0, g.order.1);
      paired = rw (behind done n) (record { below = (g.paired.0.below.0, g.paired.0.below.0); parted = parted_alone number e (Unreached dial) links refl g.differ }, g.paired.1);
      known = rw (behind done n) (known_behind (record { number = number; e = e; r = Unreached dial }) n.others links g.known);
      safe = are_safe script dial (done ++ deed ∷ []) _ (behind done n) (
        (
          refl,
          record {
            quiet = alone_quiet script dial (done ++ deed ∷ []) number e n.far n.alone safe.0;
            ended = λ c. absurd (true≢false (sym c ∙ open_still e done (deed ∷ []) n.unclosed refl));
          },
        ),
        safe.1,
      )
          (own_more dial done deed h.safe.own (own done n)) (settle_more script done deed h.safe.waits tt);
      left = rw (behind done n) (left_on done (deed ∷ []) n.others g.left);
      dialled = rw (behind done n) g.dialled;
      crowd = rw (behind done n) g.crowd;
      served = rw (behind done n) (tt, served_mute script done deed links n.others m g.served);
    } in
    record {
      deeds = deed ∷ [];
      performs = performs_call waiting before now (Dialled dial None) did;
      calls_are = refl;
      newest = λ done n. record {
        far = Unreached dial;
        others = n.others;
        newest = behind done n;
        alone = tt;
        is = n.is ∙ sym did.wires.opened;
        unclosed = open_still e done (deed ∷ []) n.unclosed refl;
        silent = silent_append e done (deed ∷ []) n.silent (λ t. refl);
        stands = tt;
      };
      holds = holds;
      steady = λ done n h. (h.safe, (holds done n h).safe);
    }

unfoldable pub readies_then : (script : Script) (dial : List ℕ) (a b c : Stage) (number e : ℕ) (links : List Link) (u v w : List ℕ) (s t x : Told)
    → Readies script dial a b number e links u v s t → Readies script dial b c number e links v w t x → Readies script dial a c number e links u w s x
readies_then script dial a b c number e links u v w s t x p q = record {
  deeds = p.deeds ++ q.deeds;
  performs = performs_then u v w s t x p.deeds q.deeds p.performs q.performs;
  calls_are = loop_calls_append p.deeds q.deeds [] [] p.calls_are q.calls_are;
  newest = λ done n. subst (λ (d : List RelayDeed). IsNewest c number e d x) (append_assoc done p.deeds q.deeds) (q.newest (done ++ p.deeds) (p.newest done n));
  holds = λ done n h.
      subst (λ (d : List RelayDeed). HoldsRelay script dial d e links) (append_assoc done p.deeds q.deeds)
      (q.holds (done ++ p.deeds) (p.newest done n) (p.holds done n h));
  steady = λ done n h.
      steadily_then (AreSafe script dial) done p.deeds q.deeds (p.steady done n h) (q.steady (done ++ p.deeds) (p.newest done n) (p.holds done n h));
}

pub readies_accepts : (script : Script) (dial : List ℕ) (a b : Stage) (number e : ℕ) (links new : List Link) (u v w : List ℕ) (s t x : Told)
    → Readies script dial a b number e links u v s t → Accepts script dial b number e links new v w t x → Accepts script dial a number e links new u w s x
readies_accepts script dial a b number e links new u v w s t x p q = record {
  deeds = p.deeds ++ q.deeds;
  performs = performs_then u v w s t x p.deeds q.deeds p.performs q.performs;
  calls_are = loop_calls_append p.deeds q.deeds [] [] p.calls_are q.calls_are;
  holds = λ done n h.
      subst (λ (d : List RelayDeed). StandsRelay script dial d x number new) (append_assoc done p.deeds q.deeds)
      (q.holds (done ++ p.deeds) (p.newest done n) (p.holds done n h));
  steady = λ done n h.
      steadily_then (AreSafe script dial) done p.deeds q.deeds (p.steady done n h) (q.steady (done ++ p.deeds) (p.newest done n) (p.holds done n h));
}

pub readies_breaks : (fault : RelayFault) (script : Script) (dial : List ℕ) (a b : Stage) (number e : ℕ) (links : List Link) (u v : List ℕ) (s t x : Told)
    → Readies script dial a b number e links u v s t → BreaksAccept fault script dial b number e links v t x → BreaksAccept fault script dial a number e links u s x
readies_breaks fault script dial a b number e links u v s t x p q = record {
  deeds = p.deeds ++ q.deeds;
  breaks = breaks_then fault u v s t x p.deeds q.deeds p.performs q.breaks;
  calls_are = loop_calls_append p.deeds q.deeds [] [] p.calls_are q.calls_are;
  steady = λ done n h.
      steadily_then (AreSafe script dial) done p.deeds q.deeds (p.steady done n h) (q.steady (done ++ p.deeds) (p.newest done n) (p.holds done n h));
}

-- however it ends
pub readies_end : {T : Type 0} (result : Result T RelayFault) (script : Script) (dial : List ℕ) (a b : Stage) (number e : ℕ) (links new : List Link) (u v w : List ℕ)
    (s t x : Told) → Readies script dial a b number e links u v s t → EndsAccept result script dial b number e links new v w t x
    → EndsAccept result script dial a number e links new u w s x
readies_end (Ok value) script dial a b number e links new u v w s t x p q = readies_accepts script dial a b number e links new u v w s t x p q
readies_end (Err fault) script dial a b number e links new u v w s t x p q = readies_breaks fault script dial a b number e links u v s t x p q

-- it breaks off at once
pub accept_breaks : (fault : RelayFault) (script : Script) (dial : List ℕ) (stage : Stage) (number e : ℕ) (links : List Link) (waiting : List ℕ) (before now : Told)
    → BreaksBehind fault waiting before now [] → BreaksAccept fault script dial stage number e links waiting before now
accept_breaks fault script dial stage number e links waiting before now b = record { deeds = []; breaks = b; calls_are = refl; steady = λ done n h. h.safe }

-- behind a step nothing more was done
pub accept_broke : (fault : RelayFault) (script : Script) (dial : List ℕ) (a b : Stage) (number e : ℕ) (links : List Link) (u v : List ℕ) (s t : Told) → IsLastDone fault []
    → Readies script dial a b number e links u v s t → BreaksAccept fault script dial a number e links u s t
accept_broke fault script dial a b number e links u v s t none p =
    record { deeds = p.deeds; breaks = breaks_here fault u v s t p.deeds none p.performs; calls_are = p.calls_are; steady = p.steady }

-- nothing was done
pub accept_at_once : (fault : RelayFault) (script : Script) (dial : List ℕ) (stage : Stage) (number e : ℕ) (links : List Link) (waiting : List ℕ) (t : Told)
    → IsLastDone fault [] → BreaksAccept fault script dial stage number e links waiting t t
accept_at_once fault script dial stage number e links waiting t none =
    accept_breaks fault script dial stage number e links waiting t t (breaks_here fault waiting waiting t t [] none (performs_none waiting t))
