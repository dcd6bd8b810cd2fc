-- A connection that was accepted is turned away, or another was dialled for it.
use Rattle.std.proofs.lemmas.Bool.{eq-eqb}
use Rattle.std.proofs.Common.{◌≡◌, ◌≢◌, ℕ, ◌+◌, ◌<◌, ◌≤◌, true, List, [], ◌∷◌, ◌++◌, length, Some, refl, sym, ap, ◌∙◌, subst, append_assoc, inl, inr, arith, ◌==◌}
use Rattle.std.proofs.lemmas.List.Sums.{fold-append}
use Rattle.er_base.specs.declared.side.Side.{Side}
use Rattle.er_base.specs.declared.side.Side.TheVariants.{R}
use Rattle.link_trait.specs.declared.wires.Conn.{Conn}
use Rattle.outside.specs.Acts.{Dialled, Closed, Called}
use Rattle.outside.specs.Doings.{Told, Did}
use Rattle.outside.specs.Scripts.{printing}
use Rattle.relay_script.specs.declared.script.Script.{Script}
use Rattle.relay_loop.specs.declared.fault.RelayFault.{RelayFault}
use Rattle.relay_loop.specs.declared.link.Link.{Link}
use Rattle.relay_loop.specs.RelayLines.{RelayLine, Opening, SideEnd, Closing, open_line, side_end_line, closed_line, text_of_line, opens_in_lines, closes_in_lines, ends_in_lines}
use Rattle.relay_loop.specs.Connections.{Far, Nobody, Unreached, Reached, RelayedConnection, count_of_reached, AreDialledFor, IsDialledFor}
use Rattle.relay_loop.specs.RelayDeeds.{loop_calls_in, RelayDeed, Puts, Flushes, Calls, Performs, IsLastDone, Steadily, lines_in, lines_written, closes_in}
use Rattle.relay_loop.specs.Links.{KeepsLink, IsUntouched, IsUntold}
use Rattle.relay_loop.specs.Rings.{behind_deed, connections_in, far_conn, AreOlder, AreInOrder, IsQuiet, IsForsaken, IsSafeConnection, AllSafe, IsOwnDeed, AreSafe, IsServed, AllServed, AllKnown, AllDiffer, AllHold, AllBelow, Parted, ArePaired, HoldsRelay, IsAloneFar, Stage, Fresh, Opened, Unanswered, Ended, StandsAt, IsToClose, IsNewest, Accepts, BreaksAccept, IsLeftClosed, AllLeft}
use Rattle.relay_loop.proofs.Deeds.{performs_then, performs_call, breaks_here, flushed, closing_more, opening_more, ending_more, steadily_then, closes_append}
use Rattle.relay_loop.proofs.LinkSafety.{given_still, read_still}
use Rattle.relay_loop.proofs.LinkCalls.{safe_new}
use Rattle.relay_loop.proofs.LinkGives.{closing_written, or_second}
use Rattle.relay_loop.proofs.Elsewhere.{visit_untouched, untouched_append, untold_append, connection_on, own_more, settle_more, connections_on, left_on}
use Rattle.relay_loop.proofs.RelayRings.{all_last, below_last, parted_last, above, kept_on, served_one, served_last, open_end, are_safe, known_behind, known_last, length_last}
use Rattle.relay_loop.proofs.RelayIdles.{mute_untouched, mute_untold, all_mute, safe_mute, mute_dial, served_mute}
use Rattle.relay_loop.proofs.RelayAccepts.{newest_of, alone_quiet, stands_on, readies_mute, readies_flush, readies_line, readies_then}

-- ---- the socket is closed

nothing_told : (e other : ℕ) → IsUntold other (Calls (Closed e) ∷ [])
nothing_told e other = record { of_e = refl; of_r = refl }

closed_elsewhere : (number e conn : ℕ) → conn ≢ e → IsUntouched conn (Calls (Closed e) ∷ [])
closed_elsewhere number e conn differ = visit_untouched number e e conn (Calls (Closed e) ∷ []) (inl refl, tt) differ differ

all_close : (script : Script) (number e : ℕ) (done : List RelayDeed) (links : List Link) → AllDiffer number e e links → AllHold script done links
    → AllHold script (done ++ Calls (Closed e) ∷ []) links
all_close script number e done [] differ hold = tt
all_close script number e done (link ∷ links) differ hold = (
  kept_on script done (Calls (Closed e) ∷ []) link (closed_elsewhere number e link.e.0 (λ same. differ.0.e_e (sym same)))
      (closed_elsewhere number e link.r.0 (λ same. differ.0.e_r (sym same))) (nothing_told e link.number) hold.0,
  (hold.1.0, all_close script number e done links differ.1 hold.1.1),
)

below_differs : (one e : ℕ) → one < e → one ≢ e
below_differs one e less same = let q : ⊥ = omega (arith, less, same) in q

older_close : (script : Script) (dial : List ℕ) (number e : ℕ) (done : List RelayDeed) (others : List RelayedConnection) → AreOlder number e others
    → AllSafe script dial done others → AllSafe script dial (done ++ Calls (Closed e) ∷ []) others
older_close script dial number e done [] older safe = tt
older_close script dial number e done (one ∷ others) older safe = (
  connection_on script dial one.number one.e one.r done (Calls (Closed e) ∷ []) (closed_elsewhere number e one.e (below_differs one.e e older.0.1.0))
      (closed_elsewhere number e (far_conn one.e one.r) (below_differs (far_conn one.e one.r) e older.0.1.1)) (nothing_told e one.number) safe.0,
  older_close script dial number e done others older.1 safe.1,
)

quiet_close : (number e : ℕ) (done : List RelayDeed) → closes_in_lines number (lines_written done) ≡ true → IsQuiet number e done
    → IsQuiet number e (done ++ Calls (Closed e) ∷ [])
quiet_close number e done written q = record {
  unread = read_still e done (Calls (Closed e) ∷ []) refl ∙ q.unread;
  ungiven = given_still e done (Calls (Closed e) ∷ []) refl ∙ q.ungiven;
  closed = λ _. closing_more number done (Calls (Closed e) ∷ []) written;
  untold = untold_append number done (Calls (Closed e) ∷ []) q.untold (nothing_told e number);
}

-- nobody answered, and that was told before
forsaken_close : (number e : ℕ) (done : List RelayDeed) → ends_in_lines number R (lines_written done) ≡ true → IsQuiet number e (done ++ Calls (Closed e) ∷ [])
    → IsForsaken number e (done ++ Calls (Closed e) ∷ [])
forsaken_close number e done ended q = record { quiet = q; ended = λ _. ending_more number R done (Calls (Closed e) ∷ []) ended }

alone_safe : (script : Script) (dial : List ℕ) (done : List RelayDeed) (number e : ℕ) (far : Far) → IsAloneFar far
    → ((address : List ℕ) → far ≡ Unreached address → ends_in_lines number R (lines_written done) ≡ true) → IsSafeConnection script dial done number e far
    → IsQuiet number e (done ++ Calls (Closed e) ∷ []) → IsSafeConnection script dial (done ++ Calls (Closed e) ∷ []) number e far
alone_safe script dial done number e Nobody alone ended before q = q
alone_safe script dial done number e (Unreached address) alone ended before q = (before.0, forsaken_close number e done (ended address refl) q)
alone_safe script dial done number e (Reached address r) alone ended before q = absurd alone

lone_served : (script : Script) (done : List RelayDeed) (links : List Link) (number e : ℕ) (far : Far) → IsAloneFar far → IsServed script done links number e far
lone_served script done links number e Nobody alone = tt
lone_served script done links number e (Unreached address) alone = tt
lone_served script done links number e (Reached address r) alone = absurd alone

older_served : (script : Script) (number e : ℕ) (done : List RelayDeed) (links : List Link) (others : List RelayedConnection) → AreOlder number e others
    → AllServed script done links others → AllServed script (done ++ Calls (Closed e) ∷ []) links others
older_served script number e done links [] older served = tt
older_served script number e done links (one ∷ others) older served = (
  served_one script links done (Calls (Closed e) ∷ []) one.number one.e one.r (closed_elsewhere number e one.e (below_differs one.e e older.0.1.0))
      (closed_elsewhere number e (far_conn one.e one.r) (below_differs (far_conn one.e one.r) e older.0.1.1)) served.0,
  older_served script number e done links others older.1 served.1,
)

close_own : (dial : List ℕ) (number e : ℕ) (far : Far) (others connections : List RelayedConnection) → IsAloneFar far
    → connections ≡ record { number = number; e = e; r = far } ∷ others → IsOwnDeed dial connections (Calls (Closed e))
close_own dial number e Nobody others connections alone is = subst (λ (c : List RelayedConnection). IsOwnDeed dial c (Calls (Closed e))) (sym is) (inl refl)
close_own dial number e (Unreached address) others connections alone is =
    subst (λ (c : List RelayedConnection). IsOwnDeed dial c (Calls (Closed e))) (sym is) (inl refl)
close_own dial number e (Reached address r) others connections alone is = absurd alone

close_relay : (script : Script) (dial : List ℕ) (stage : Stage) (number e : ℕ) (done : List RelayDeed) (now : Told) (links : List Link)
    → closes_in_lines number (lines_written done) ≡ true → (n : IsNewest stage number e done now)
    → ((address : List ℕ) → n.far ≡ Unreached address → ends_in_lines number R (lines_written done) ≡ true) → HoldsRelay script dial done e links
    → HoldsRelay script dial (done ++ Calls (Closed e) ∷ []) e links
close_relay script dial stage number e done now links written n ended h =
    let g = newest_of script dial stage number e done now links n h in
    let deeds : List RelayDeed = Calls (Closed e) ∷ [] in
    let same : connections_in (done ++ deeds) ≡ connections_in done = connections_on done deeds (λ before. refl) in
    record {
      hold = all_close script number e done links g.differ h.hold;
      below = rw same h.below;
      fresh = λ conn more. untouched_append conn done deeds (h.fresh conn more) (closed_elsewhere number e conn (above e conn e more (omega arith)));
      untold = rw same (λ other more. untold_append other done deeds (h.untold other more) (nothing_told e other));
      in_order = rw same h.in_order;
      paired = rw same h.paired;
      known = rw same h.known;
      safe = are_safe script dial (done ++ deeds) _ (same ∙ n.newest) (
        alone_safe script dial done number e n.far n.alone ended g.safe.0
            (quiet_close number e done written (alone_quiet script dial done number e n.far n.alone g.safe.0)),
        older_close script dial number e done n.others g.order.1.0 g.safe.1,
      )
          (own_more dial done (Calls (Closed e)) h.safe.own (close_own dial number e n.far n.others (connections_in done) n.alone n.newest))
          (settle_more script done (Calls (Closed e)) h.safe.waits tt);
      left = rw (same ∙ n.newest) (left_on done deeds n.others g.left);
      dialled = rw (same ∙ n.newest) g.dialled;
      crowd = rw same h.crowd;
      served = rw (same ∙ n.newest) (
        lone_served script (done ++ deeds) links number e n.far n.alone,
        older_served script number e done links n.others g.order.1.0 g.served,
      );
    }

nobody_unreached : (far : Far) (address : List ℕ) → far ≡ Nobody → far ≡ Unreached address → ⊥
nobody_unreached far address one other = let same : Nobody ≡ Unreached address = sym one ∙ other in let q : ⊥ = cc same in q

-- where all lines were written
to_close : (stage : Stage) (number : ℕ) (far : Far) (done : List RelayDeed) (links : List Link) → IsToClose stage links → StandsAt stage number far done
    → lines_in done ≡ lines_written done → (address : List ℕ) → far ≡ Unreached address → ends_in_lines number R (lines_written done) ≡ true
to_close Fresh number far done links close stands all address is = absurd close
to_close Opened number far done links close stands all address is = let is_nobody = stands.0 in absurd (nobody_unreached far address is_nobody is)
to_close Unanswered number far done links close stands all address is = absurd close
to_close Ended number far done links close stands all address is = subst (λ (l : List RelayLine). ends_in_lines number R l ≡ true) all stands.1

length_first : (others : List RelayedConnection) (number e : ℕ) (dial : List ℕ) (r : ℕ)
    → length others + 1 ≡ length (record { number = number; e = e; r = Reached dial r } ∷ others)
length_first others number e dial r = omega arith

count_is : (script : Script) (dial : List ℕ) (stage : Stage) (number e : ℕ) (done : List RelayDeed) (now : Told) (links : List Link)
    (n : IsNewest stage number e done now) → HoldsRelay script dial done e links → number ≡ length (connections_in done)
count_is script dial stage number e done now links n h =
    let g = newest_of script dial stage number e done now links n h in
    let order : number ≡ length n.others + 1 = g.order.0 in
    let count : length (connections_in done) ≡ length n.others + 1 = ap (λ (c : List RelayedConnection). length c) n.newest ∙ omega arith in
    order ∙ sym count

closing_line_text : (waiting : List ℕ) (moment number : ℕ) → waiting ++ closed_line moment number ≡ waiting ++ text_of_line (Closing moment number)
unfolding text_of_line
closing_line_text waiting moment number = refl

closes_own : (e : ℕ) (done : List RelayDeed) → closes_in e (done ++ Calls (Closed e) ∷ []) ≡ true
closes_own e done =
    let same : (e == e) ≡ true = eq-eqb e e refl in closes_append e done (Calls (Closed e) ∷ []) ∙ or_second (closes_in e done) _ (rw same refl)

newest_left : (done : List RelayDeed) (e : ℕ) (far : Far) → IsAloneFar far → closes_in e done ≡ true → IsLeftClosed done e far
newest_left done e Nobody alone closed = closed
newest_left done e (Unreached address) alone closed = closed
newest_left done e (Reached address r) alone closed = absurd alone

-- nobody was dialled where as many as may be are open
closed_dialled : (stage : Stage) (number : ℕ) (far : Far) (others : List RelayedConnection) (done : List RelayDeed) (links : List Link) → IsToClose stage links
    → StandsAt stage number far done → length links ≤ count_of_reached others → IsDialledFor far others
closed_dialled Fresh number far others done links close stands crowd = absurd close
closed_dialled Opened number far others done links close stands crowd =
    subst (λ (f : Far). IsDialledFor f others) (sym stands.0) (omega (arith, close, crowd))
closed_dialled Unanswered number far others done links close stands crowd = absurd close
closed_dialled Ended number Nobody others done links close stands crowd = absurd stands.0
closed_dialled Ended number (Unreached address) others done links close stands crowd = tt
closed_dialled Ended number (Reached address r) others done links close stands crowd = absurd stands.0

-- none is left open
closed_left : (script : Script) (dial : List ℕ) (stage : Stage) (number e : ℕ) (done : List RelayDeed) (now : Told) (links : List Link)
    (n : IsNewest stage number e done now) → HoldsRelay script dial done e links
    → AllLeft (done ++ Calls (Closed e) ∷ []) (connections_in (done ++ Calls (Closed e) ∷ []))
closed_left script dial stage number e done now links n h =
    let g = newest_of script dial stage number e done now links n h in
    let deeds : List RelayDeed = Calls (Closed e) ∷ [] in
    rw (connections_on done deeds (λ before. refl) ∙ n.newest)
    (newest_left (done ++ deeds) e n.far n.alone (closes_own e done), left_on done deeds n.others g.left)

-- the line that tells it is written first
pub turned_away : (script : Script) (dial : List ℕ) (stage : Stage) (moment number e : ℕ) (links : List Link) (waiting lines left : List ℕ) (s t u : Told)
    → IsToClose stage links → lines ≡ waiting ++ closed_line moment number → Did s t (printing lines) → left ≡ [] → Did t u (Called (Closed e) ∷ [])
    → Accepts script dial stage number e links links waiting left s u
unfolding readies_mute readies_flush readies_line readies_then
turned_away script dial stage moment number e links waiting lines left s t u close is wrote none closed =
    let put : RelayDeed = Puts (Closing moment number) in
    let told : List RelayDeed = put ∷ Flushes ∷ [] in
    let last : List RelayDeed = Calls (Closed e) ∷ [] in
    let readies = readies_then script dial stage stage stage number e links waiting lines left s s t
    (readies_line script dial stage stage number e links waiting lines s (Closing moment number) (λ other side. refl) (is ∙ closing_line_text waiting moment number)
    (λ far done stands. stands_on stage number far done (put ∷ []) stands))
    (readies_flush script dial stage number e links lines left s t wrote none) in
    let holds : (done : List RelayDeed) → IsNewest stage number e done s → HoldsRelay script dial done e links → HoldsRelay script dial (done ++ told ++ last) e links =
    λ done n h.
    let all : lines_in (done ++ told) ≡ lines_written (done ++ told) =
    subst (λ (d : List RelayDeed). lines_in d ≡ lines_written d) (append_assoc done (put ∷ []) (Flushes ∷ [])) (flushed (done ++ put ∷ [])) in
    close_relay script dial stage number e (done ++ told) t links (closing_written moment number done) (readies.newest done n)
    (to_close stage number _ (done ++ told) links close (readies.newest done n).stands all) (readies.holds done n h) in
    let same : (done : List RelayDeed) → done ++ told ++ last ≡ done ++ (told ++ last) = λ done. append_assoc done told last in
    record {
      deeds = told ++ last;
      performs = performs_then waiting left left s t u told last readies.performs (performs_call left t u (Closed e) closed);
      calls_are = refl;
      holds = λ done n h.
          let opened : u.wires.opened ≡ t.wires.opened = closed.wires.opened in
          let before = (readies.newest done n).is in
          let g = newest_of script dial stage number e done s links n h in
          record {
            bound = e;
            within = omega (arith, opened, before);
            count = count_is script dial stage number e done s links n h
                ∙ sym (ap (λ (c : List RelayedConnection). length c) (connections_on done (told ++ last) (λ b. refl)));
            dialled = rw (connections_on done (told ++ last) (λ b. refl) ∙ n.newest)
                (closed_dialled stage number n.far n.others done links close n.stands g.crowd, g.dialled);
            left = subst (λ (d : List RelayDeed). AllLeft d (connections_in d)) (same done) (closed_left script dial stage number e (done ++ told) t links (readies.newest done n) (readies.holds done n h));
            holds = subst (λ (d : List RelayDeed). HoldsRelay script dial d e links) (same done) (holds done n h);
          };
      steady = λ done n h.
          steadily_then (AreSafe script dial) done told last (readies.steady done n h) ((readies.holds done n h).safe, (holds done n h).safe);
    }

-- ---- another is dialled

differ_new : (number e r : ℕ) (links : List Link) (count : ℕ) → e < r → AllBelow e count links → AllDiffer number e e links → AllDiffer number e r links
differ_new number e r [] count more below differ = tt
differ_new number e r (link ∷ links) count more below differ = (
  record {
    numbers = differ.0.numbers;
    e_e = differ.0.e_e;
    e_r = differ.0.e_r;
    r_e = above e r link.e.0 more below.0.1.0;
    r_r = above e r link.r.0 more below.0.1.1;
  },
  differ_new number e r links count more below.1 differ.1,
)

below_more : (bound more count : ℕ) (links : List Link) → bound ≤ more → AllBelow bound count links → AllBelow more count links
below_more bound more count [] less below = tt
below_more bound more count (link ∷ links) less below =
    ((below.0.0, (omega (arith, less, below.0.1.0), omega (arith, less, below.0.1.1))), below_more bound more count links less below.1)

pairs_new : (number e r : ℕ) (link : Link) (links : List Link) (others : List RelayedConnection) → link.number ≡ number → link.e.0 ≡ e → link.r.0 ≡ r → e < r
    → AreOlder number e others → ArePaired e links others → ArePaired r (links ++ link ∷ []) others
pairs_new number e r link links [] is_n is_e is_r more older paired = tt
pairs_new number e r link links (one ∷ others) is_n is_e is_r more older paired = (
  record {
    below = (omega (arith, more, paired.0.below.0), omega (arith, more, paired.0.below.1));
    parted = parted_last one.number one.e one.r link links
        (inr (record {
          numbers = λ same. let q : ⊥ = omega (arith, older.0.0, same, is_n) in q;
          e_e = λ same. let q : ⊥ = omega (arith, older.0.1.0, same, is_e) in q;
          e_r = λ same. let q : ⊥ = omega (arith, older.0.1.0, same, is_r, more) in q;
          r_e = λ same. let q : ⊥ = omega (arith, older.0.1.1, same, is_e) in q;
          r_r = λ same. let q : ⊥ = omega (arith, older.0.1.1, same, is_r, more) in q;
        }))
        paired.0.parted;
  },
  pairs_new number e r link links others is_n is_e is_r more older.1 paired.1,
)

parted_new : (number e r : ℕ) (dial : List ℕ) (links : List Link) → AllDiffer number e r links → Parted number e (Reached dial r) links
parted_new number e r dial [] differ = tt
parted_new number e r dial (link ∷ links) differ = (inr differ.0, parted_new number e r dial links differ.1)

-- what is known where one was dialled, and there is no memory for it yet
pub record Reaches (script : Script) (dial : List ℕ) (number e r : ℕ) (done : List RelayDeed) (links : List Link) : Type 0 where
  others : List RelayedConnection
  is : connections_in done ≡ record { number = number; e = e; r = Reached dial r } ∷ others
  hold : AllHold script done links
  below : AllBelow e number links
  differ : AllDiffer number e r links
  fresh : (conn : ℕ) → r < conn → IsUntouched conn done
  at_e : IsUntouched e done
  at_r : IsUntouched r done
  own : IsUntold number done
  untold : (other : ℕ) → number < other → IsUntold other done
  order : AreInOrder (record { number = number; e = e; r = Reached dial r } ∷ others)
  paired : ArePaired e links others
  known : AllKnown others links
  served : AllServed script done links others
  left : AllLeft done others
  dialled : AreDialledFor others
  crowd : length links ≤ count_of_reached others
  safe : AreSafe script dial done

reaches : (script : Script) (dial : List ℕ) (number e r : ℕ) (done : List RelayDeed) (now : Told) (links : List Link) → e < r
    → opens_in_lines number (lines_written done) ≡ true → IsNewest Opened number e done now → HoldsRelay script dial done e links
    → Reaches script dial number e r (done ++ Calls (Dialled dial (Some r)) ∷ []) links
reaches script dial number e r done now links more written n h =
    let g = newest_of script dial Opened number e done now links n h in
    let deed : RelayDeed = Calls (Dialled dial (Some r)) in
    let m = mute_dial dial (Some r) in
    let count = count_is script dial Opened number e done now links n h in
    let is : connections_in (done ++ deed ∷ []) ≡ record { number = number; e = e; r = Reached dial r } ∷ n.others =
    fold-append behind_deed [] done (deed ∷ []) ∙ ap (λ (c : List RelayedConnection). behind_deed c deed) n.newest in
    let q = alone_quiet script dial done number e n.far n.alone g.safe.0 in
    let at_e : IsUntouched e (done ++ deed ∷ []) =
    untouched_append e done (deed ∷ []) (record { unread = q.unread; ungiven = q.ungiven; unclosed = n.unclosed; silent = n.silent }) (mute_untouched deed e m) in
    let at_r : IsUntouched r (done ++ deed ∷ []) = untouched_append r done (deed ∷ []) (h.fresh r more) (mute_untouched deed r m) in
    let own : IsUntold number (done ++ deed ∷ []) = untold_append number done (deed ∷ []) q.untold (mute_untold deed number m) in
    record {
      others = n.others;
      is = is;
      hold = all_mute script done deed links m h.hold;
      below = rw count h.below;
      differ = differ_new number e r links (length (connections_in done)) more h.below g.differ;
      fresh = λ conn above_r. untouched_append conn done (deed ∷ []) (h.fresh conn (omega (arith, more, above_r))) (mute_untouched deed conn m);
      at_e = at_e;
      at_r = at_r;
      own = own;
      untold = λ other less. untold_append other done (deed ∷ []) (h.untold other (omega (arith, less, count))) (mute_untold deed other m);
      order = (g.order.0, g.order.1);
      paired = g.paired.1;
      known = g.known;
      safe = are_safe script dial (done ++ deed ∷ []) _ is (
        (refl, (opening_more number done (deed ∷ []) written, safe_new script number e r (done ++ deed ∷ []) own at_e at_r)),
        safe_mute script dial done deed n.others m g.safe.1,
      )
          (own_more dial done deed h.safe.own (subst (λ (c : List RelayedConnection). IsOwnDeed dial c deed) (sym n.newest) (refl, n.stands.0)))
          (settle_more script done deed h.safe.waits tt);
      served = served_mute script done deed links n.others m g.served;
      left = left_on done (deed ∷ []) n.others g.left;
      dialled = g.dialled;
      crowd = g.crowd;
    }

reached : (script : Script) (dial : List ℕ) (number e r : ℕ) (done : List RelayDeed) (link : Link) (links : List Link) → link.number ≡ number → link.e.0 ≡ e → link.r.0 ≡ r
    → e < r → KeepsLink script done link → Reaches script dial number e r done links → HoldsRelay script dial done r (links ++ link ∷ [])
reached script dial number e r done link links is_n is_e is_r more holds h =
    let count : length (connections_in done) ≡ number =
    ap (λ (c : List RelayedConnection). length c) h.is ∙ sym (h.order.0 ∙ length_first h.others number e dial r) in
    record {
      hold = all_last script done link links holds (rw (is_n, is_e, is_r) h.differ) h.hold;
      below = rw count
          (below_last r number link links (omega (arith, is_n)) (omega (arith, is_e, more)) (omega (arith, is_r))
          (below_more e r number links (omega (arith, more)) h.below));
      fresh = h.fresh;
      untold = rw count h.untold;
      in_order = rw h.is h.order;
      paired = rw h.is (
        record {
          below = (omega (arith, more), omega arith);
          parted = parted_last number e (Reached dial r) link links (inl (is_n, (is_e, is_r))) (parted_new number e r dial links h.differ);
        },
        pairs_new number e r link links h.others is_n is_e is_r more h.order.1.0 h.paired,
      );
      known = rw h.is
          (known_last (record { number = number; e = e; r = Reached dial r } ∷ h.others) link links (inl (sym is_e, sym is_r))
          (known_behind (record { number = number; e = e; r = Reached dial r }) h.others links h.known));
      served = rw h.is (
        inl (open_end number e (Reached dial r) links link (is_n, (is_e, is_r))),
        served_last script links link done h.others h.served,
      );
      left = rw h.is h.left;
      dialled = rw h.is h.dialled;
      crowd = rw h.is (let few = length_last links link in let crowd = h.crowd in omega (arith, few, crowd));
      safe = h.safe;
    }

-- behind the lines that wait
opened_written : (number : ℕ) (done : List RelayDeed) → opens_in_lines number (lines_in (done ++ Flushes ∷ [])) ≡ true
    → opens_in_lines number (lines_written (done ++ Flushes ∷ [])) ≡ true
opened_written number done h = subst (λ (o : List RelayLine). opens_in_lines number o ≡ true) (flushed done) h

-- a dial that reached somebody: what is known of it, behind the lines that were written
pub record DialsTo (script : Script) (dial : List ℕ) (number e r : ℕ) (links : List Link) (waiting : List ℕ) (before now : Told) : Type 0 where
  deeds : List RelayDeed
  performs : Performs waiting [] before now deeds
  calls_are : loop_calls_in deeds ≡ []
  more : (done : List RelayDeed) → IsNewest Opened number e done before → e < r
  reaches : (done : List RelayDeed) → IsNewest Opened number e done before → HoldsRelay script dial done e links → Reaches script dial number e r (done ++ deeds) links
  steady : (done : List RelayDeed) → IsNewest Opened number e done before → HoldsRelay script dial done e links → Steadily (AreSafe script dial) done deeds

pub dials_to : (script : Script) (dial : List ℕ) (number e r : ℕ) (links : List Link) (waiting left : List ℕ) (s t u : Told) → Did s t (printing waiting) → left ≡ []
    → Did t u (Called (Dialled dial (Some r)) ∷ []) → r ≡ t.wires.opened + 1 → DialsTo script dial number e r links waiting s u
unfolding readies_mute readies_flush
dials_to script dial number e r links waiting left s t u wrote none did next =
    let flush = readies_flush script dial Opened number e links waiting [] s t wrote refl in
    let deed : RelayDeed = Calls (Dialled dial (Some r)) in
    let more : (done : List RelayDeed) → IsNewest Opened number e done s → e < r =
    λ done n. let is = (flush.newest done n).is in omega (arith, is, next) in
    let behind : (done : List RelayDeed) → IsNewest Opened number e done s → HoldsRelay script dial done e links
    → Reaches script dial number e r (done ++ Flushes ∷ [] ++ deed ∷ []) links =
    λ done n h.
    reaches script dial number e r (done ++ Flushes ∷ []) t links (more done n) (opened_written number done (flush.newest done n).stands.1) (flush.newest done n)
    (flush.holds done n h) in
    record {
      deeds = Flushes ∷ deed ∷ [];
      performs = performs_then waiting [] [] s t u (Flushes ∷ []) (deed ∷ []) flush.performs (performs_call [] t u (Dialled dial (Some r)) did);
      calls_are = refl;
      more = more;
      reaches = λ done n h.
          subst (λ (d : List RelayDeed). Reaches script dial number e r d links) (append_assoc done (Flushes ∷ []) (deed ∷ [])) (behind done n h);
      steady = λ done n h.
          steadily_then (AreSafe script dial) done (Flushes ∷ []) (deed ∷ []) (flush.steady done n h) ((flush.holds done n h).safe, (behind done n h).safe);
    }

-- memory ran out behind it
pub dial_broke : (fault : RelayFault) (script : Script) (dial : List ℕ) (number e r : ℕ) (links : List Link) (waiting : List ℕ) (s u : Told) → IsLastDone fault []
    → DialsTo script dial number e r links waiting s u → BreaksAccept fault script dial Opened number e links waiting s u
dial_broke fault script dial number e r links waiting s u none d =
    record { deeds = d.deeds; breaks = breaks_here fault waiting [] s u d.deeds none d.performs; calls_are = d.calls_are; steady = d.steady }

pub dial_accepts : (script : Script) (dial : List ℕ) (number : ℕ) (conn dialled : Conn) (link : Link) (links all : List Link) (waiting left : List ℕ) (s t u : Told)
    → Did s t (printing waiting) → left ≡ [] → Did t u (Called (Dialled dial (Some dialled.0)) ∷ []) → dialled.0 ≡ t.wires.opened + 1 → link.number ≡ number → link.e ≡ conn
    → link.r ≡ dialled → all ≡ links ++ link ∷ []
    → ((done : List RelayDeed) → conn.0 ≢ dialled.0 → IsUntold number done → IsUntouched conn.0 done → IsUntouched dialled.0 done → KeepsLink script done link)
    → Accepts script dial Opened number conn.0 links all waiting left s u
dial_accepts script dial number conn dialled link links all waiting left s t u wrote none did next is_n is_e is_r is_all makes =
    let d = dials_to script dial number conn.0 dialled.0 links waiting left s t u wrote none did next in
    let opened : u.wires.opened ≡ t.wires.opened + 1 = did.wires.opened in
    record {
      deeds = d.deeds;
      performs = subst (λ (o : List ℕ). Performs waiting o s u d.deeds) (sym none) d.performs;
      calls_are = d.calls_are;
      holds = λ done n h.
          let more = d.more done n in
          let reach = d.reaches done n h in
          let parted : conn.0 ≢ dialled.0 = λ same. let q : ⊥ = omega (arith, more, same) in q in
          let holds : KeepsLink script (done ++ d.deeds) link = makes (done ++ d.deeds) parted reach.own reach.at_e reach.at_r in
          record {
            bound = dialled.0;
            within = omega (arith, opened, next);
            left = rw reach.is (tt, reach.left);
            dialled = rw reach.is (tt, reach.dialled);
            count = reach.order.0 ∙ length_first reach.others number conn.0 dial dialled.0 ∙ sym (ap (λ (c : List RelayedConnection). length c) reach.is);
            holds = rw is_all
                (reached script dial number conn.0 dialled.0 (done ++ d.deeds) link links is_n (ap (λ (c : Conn). c.0) is_e) (ap (λ (c : Conn). c.0) is_r) more holds reach);
          };
      steady = d.steady;
    }

-- ---- lines

pub closing_line_text_is : (waiting left : List ℕ) (moment number : ℕ) → left ≡ waiting ++ closed_line moment number → left ≡ waiting ++ text_of_line (Closing moment number)
unfolding text_of_line
closing_line_text_is waiting left moment number is = is

pub end_line_text_is : (waiting left : List ℕ) (moment number : ℕ) (side : Side) → left ≡ waiting ++ side_end_line moment number side
    → left ≡ waiting ++ text_of_line (SideEnd moment number side)
unfolding text_of_line
end_line_text_is waiting left moment number side is = is

pub open_line_text_is : (waiting left : List ℕ) (moment number : ℕ) → left ≡ waiting ++ open_line moment number → left ≡ waiting ++ text_of_line (Opening moment number)
unfolding text_of_line
open_line_text_is waiting left moment number is = is
