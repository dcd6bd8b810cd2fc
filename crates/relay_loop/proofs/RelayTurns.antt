-- A relay's turns: what is due and what comes is given.
use Rattle.std.proofs.Common.{◌≡◌, ℕ, ◌+◌, ◌<◌, ◌≤◌, Bool, List, [], ◌∷◌, ◌++◌, length, Option, None, refl, sym, ap, ◌∙◌, subst, append_assoc, inr, true≢false, arith, Result, Ok, Err}
use Rattle.std.proofs.lemmas.List.Sums.{fold-append}
use Rattle.link_trait.specs.declared.wires.Conn.{Conn}
use Rattle.link_trait.specs.declared.wires.Happening.{Happening}
use Rattle.link_trait.specs.declared.wires.Happening.TheVariants as happening
use Rattle.outside.specs.Acts.{Turned, Called, Asked}
use Rattle.outside.specs.Doings.{Told, Did}
use Rattle.relay_script.specs.declared.script.Script.{Script}
use Rattle.relay_loop.specs.declared.fault.RelayFault.{RelayFault}
use Rattle.relay_loop.specs.declared.fault.RelayFault.TheVariants as fault
use Rattle.relay_loop.specs.declared.link.Link.{Link}
use Rattle.relay_loop.specs.Connections.{Nobody, RelayedConnection, AreDialledFor}
use Rattle.relay_loop.specs.RelayDeeds.{RelayDeed, Calls, Asks, Performs, loop_calls_in, Steadily}
use Rattle.relay_loop.specs.Rings.{behind_deed, connections_in, AreOlder, AreInOrder, AreSafe, AllBelow, Parted, ArePaired, HoldsRelay, GoesWithin, BreaksGoing, EndsGoing, StandsRelay, Stage, Fresh, IsNewest, Accepts, BreaksAccept, EndsAccept, Reacts, accepted_behind, TurnsOnce, BreaksTurn, HandlesTurn, AnswersTurn, EndsTurn, AllIdle, AllLeft}
use Rattle.relay_loop.proofs.Deeds.{performs_then, performs_call, performs_ask, breaks_then, loop_calls_append, steadily_then}
use Rattle.relay_loop.proofs.Elsewhere.{untouched_append, untold_append, own_more, settle_more, connections_on, open_still, left_on}
use Rattle.relay_loop.proofs.Tellings.{silent_append}
use Rattle.relay_model.specs.Laws.{ClosedStays}
use Rattle.relay_loop.proofs.RelayRings.{above, are_safe, relay_settled, known_behind}
use Rattle.relay_loop.proofs.RelayIdles.{mute_untouched, mute_untold, all_mute, safe_mute, served_mute, mute_relay, mute_ask, mute_turn}
use Rattle.relay_loop.proofs.RelayAccepts.{newest_apart, stands_on}

-- ---- the clock is asked

pub goes_ask : (script : Script) (dial : List ℕ) (links : List Link) (waiting : List ℕ) (before now : Told) (moment : ℕ) → Did before now (Asked moment ∷ [])
    → GoesWithin script dial links links waiting waiting before now
goes_ask script dial links waiting before now moment did =
    let deed : RelayDeed = Asks moment in
    let m = mute_ask moment in
    let holds : (done : List RelayDeed) (bound : ℕ) → HoldsRelay script dial done bound links → HoldsRelay script dial (done ++ deed ∷ []) bound links =
    λ done bound h. mute_relay script dial done deed bound links m (λ connections. refl) tt tt h in
    record {
      deeds = deed ∷ [];
      performs = performs_ask waiting before now moment did;
      calls_are = refl;
      opened = did.wires.opened;
      same = λ connections. refl;
      apart = λ conn apart. (mute_untouched deed conn m, apart);
      holds = holds;
      steady = λ done bound h. (h.safe, (holds done bound h).safe);
    }

-- ---- what follows a turn goes on within it

stands_goes : (script : Script) (dial : List ℕ) (accepted : ℕ) (old new : List Link) (waiting left : List ℕ) (before now : Told)
    (g : GoesWithin script dial old new waiting left before now) (done : List RelayDeed) → StandsRelay script dial done before accepted old
    → StandsRelay script dial (done ++ g.deeds) now accepted new
stands_goes script dial accepted old new waiting left before now g done s = record {
  bound = s.bound;
  within = let opened = g.opened in let within = s.within in omega (arith, opened, within);
  count = s.count ∙ sym (ap (λ (c : List RelayedConnection). length c) (connections_on done g.deeds g.same));
  left = rw (connections_on done g.deeds g.same) (left_on done g.deeds (connections_in done) s.left);
  dialled = rw (connections_on done g.deeds g.same) s.dialled;
  holds = g.holds done s.bound s.holds;
}

turns_goes : (what : Happening) (script : Script) (dial : List ℕ) (accepted newest : ℕ) (a b c : List Link) (u v w : List ℕ) (s t x : Told)
    → TurnsOnce what script dial accepted newest a b u v s t → GoesWithin script dial b c v w t x → TurnsOnce what script dial accepted newest a c u w s x
turns_goes what script dial accepted newest a b c u v w s t x p g = record {
  deeds = p.deeds ++ g.deeds;
  performs = performs_then u v w s t x p.deeds g.deeds p.performs g.performs;
  until = p.until;
  calls_are = loop_calls_append p.deeds g.deeds (Turned p.until what ∷ []) [] p.calls_are g.calls_are;
  holds = λ done stands.
      subst (λ (d : List RelayDeed). StandsRelay script dial d x newest c) (append_assoc done p.deeds g.deeds)
      (stands_goes script dial newest b c v w t x g (done ++ p.deeds) (p.holds done stands));
  steady = λ done stands.
      let mid = p.holds done stands in
      steadily_then (AreSafe script dial) done p.deeds g.deeds (p.steady done stands) (g.steady (done ++ p.deeds) mid.bound mid.holds);
}

turns_broken : (what : Happening) (fault : RelayFault) (script : Script) (dial : List ℕ) (accepted newest : ℕ) (a b : List Link) (u v : List ℕ) (s t x : Told)
    → TurnsOnce what script dial accepted newest a b u v s t → BreaksGoing fault script dial b v t x → BreaksTurn what fault script dial accepted a u s x
turns_broken what fault script dial accepted newest a b u v s t x p g = record {
  deeds = p.deeds ++ g.deeds;
  breaks = breaks_then fault u v s t x p.deeds g.deeds p.performs g.breaks;
  until = p.until;
  calls_are = loop_calls_append p.deeds g.deeds (Turned p.until what ∷ []) [] p.calls_are g.calls_are;
  steady = λ done stands.
      let mid = p.holds done stands in
      steadily_then (AreSafe script dial) done p.deeds g.deeds (p.steady done stands) (g.steady (done ++ p.deeds) mid.bound mid.holds);
}

turn_ends : {T : Type 0} (result : Result T RelayFault) (what : Happening) (script : Script) (dial : List ℕ) (accepted newest : ℕ) (a b c : List Link)
    (u v w : List ℕ) (s t x : Told) → TurnsOnce what script dial accepted newest a b u v s t → EndsGoing result script dial b c v w t x
    → HandlesTurn result what script dial accepted newest a c u w s x
turn_ends (Ok value) what script dial accepted newest a b c u v w s t x p q = turns_goes what script dial accepted newest a b c u v w s t x p q
turn_ends (Err fault) what script dial accepted newest a b c u v w s t x p q = turns_broken what fault script dial accepted newest a b u v s t x p q

-- ---- a turn by which one is accepted

below_both : (bound more count greater : ℕ) (links : List Link) → bound ≤ more → count ≤ greater → AllBelow bound count links → AllBelow more greater links
below_both bound more count greater [] less fewer below = tt
below_both bound more count greater (link ∷ links) less fewer below = (
  (omega (arith, fewer, below.0.0), (omega (arith, less, below.0.1.0), omega (arith, less, below.0.1.1))),
  below_both bound more count greater links less fewer below.1,
)

older_more : (number greater e : ℕ) (connections : List RelayedConnection) → number ≤ greater → AreOlder number e connections → AreOlder greater e connections
older_more number greater e [] less older = tt
older_more number greater e (one ∷ others) less older = ((omega (arith, less, older.0.0), older.0.1), older_more number greater e others less older.1)

older_of : (bound e : ℕ) (links : List Link) (connections : List RelayedConnection) → bound < e → AreInOrder connections → ArePaired bound links connections
    → AreOlder (length connections + 1) e connections
older_of bound e links [] less order paired = tt
older_of bound e links (one ∷ others) less order paired =
    let number : one.number ≡ length others + 1 = order.0 in
    let longer : length others + 1 ≤ length (one ∷ others) + 1 = omega arith in (
      (omega (arith, number), (omega (arith, less, paired.0.below.0), omega (arith, less, paired.0.below.1))),
      older_more (length others + 1) (length (one ∷ others) + 1) e others longer (older_of bound e links others less order.1.1 paired.1),
    )

parted_fresh : (bound number e count : ℕ) (links : List Link) → bound < e → count < number → AllBelow bound count links → Parted number e Nobody links
parted_fresh bound number e count [] less more below = tt
parted_fresh bound number e count (link ∷ links) less more below = (
  inr (record {
    numbers = above count number link.number more below.0.0;
    e_e = above bound e link.e.0 less below.0.1.0;
    e_r = above bound e link.r.0 less below.0.1.1;
    r_e = above bound e link.e.0 less below.0.1.0;
    r_r = above bound e link.r.0 less below.0.1.1;
  }),
  parted_fresh bound number e count links less more below.1,
)

pairs_more : (bound more : ℕ) (links : List Link) (connections : List RelayedConnection) → bound ≤ more → ArePaired bound links connections → ArePaired more links connections
pairs_more bound more links [] less paired = tt
pairs_more bound more links (one ∷ others) less paired = (
  record { below = (omega (arith, less, paired.0.below.0), omega (arith, less, paired.0.below.1)); parted = paired.0.parted },
  pairs_more bound more links others less paired.1,
)

-- what was taken in, and the clock was asked
pub record TakesIn (what : Happening) (script : Script) (dial : List ℕ) (accepted e : ℕ) (links : List Link) (waiting : List ℕ) (before now : Told) : Type 0 where
  deeds : List RelayDeed
  performs : Performs waiting waiting before now deeds
  until : Option ℕ
  calls_are : loop_calls_in deeds ≡ Turned until what ∷ []
  newest : (done : List RelayDeed) → StandsRelay script dial done before accepted links → IsNewest Fresh (accepted + 1) e (done ++ deeds) now
  holds : (done : List RelayDeed) → StandsRelay script dial done before accepted links → HoldsRelay script dial (done ++ deeds) e links
  steady : (done : List RelayDeed) → StandsRelay script dial done before accepted links → Steadily (AreSafe script dial) done deeds

accepted_relay : ClosedStays → (script : Script) (dial : List ℕ) (until : Option ℕ) (conn : Conn) (done : List RelayDeed) (bound : ℕ) (links : List Link)
    → (until ≡ None → AllIdle links) → AllLeft done (connections_in done) → AreDialledFor (connections_in done) → bound < conn.0
    → HoldsRelay script dial done bound links → HoldsRelay script dial (done ++ Calls (Turned until (happening.Accepted conn)) ∷ []) conn.0 links
accepted_relay stays script dial until conn done bound links idle left dialled less h =
    let deed : RelayDeed = Calls (Turned until (happening.Accepted conn)) in
    let m = mute_turn until (happening.Accepted conn) in
    let before : List RelayedConnection = connections_in done in
    let newest : RelayedConnection = record { number = length before + 1; e = conn.0; r = Nobody } in
    let is : connections_in (done ++ deed ∷ []) ≡ newest ∷ before = fold-append behind_deed [] done (deed ∷ []) in
    let count : length (connections_in (done ++ deed ∷ [])) ≡ length before + 1 = ap (λ (c : List RelayedConnection). length c) is ∙ omega arith in
    let untouched = h.fresh conn.0 less in
    let at_e = untouched_append conn.0 done (deed ∷ []) untouched (mute_untouched deed conn.0 m) in
    record {
      hold = all_mute script done deed links m h.hold;
      below = rw count (below_both bound conn.0 (length before) (length before + 1) links (omega (arith, less)) (omega arith) h.below);
      fresh = λ other more. untouched_append other done (deed ∷ []) (h.fresh other (omega (arith, less, more))) (mute_untouched deed other m);
      untold = rw count (λ other more. untold_append other done (deed ∷ []) (h.untold other (omega (arith, more))) (mute_untold deed other m));
      in_order = rw is (refl, (older_of bound conn.0 links before less h.in_order h.paired, h.in_order));
      paired = rw is (
        record {
          below = (omega arith, omega arith);
          parted = parted_fresh bound (length before + 1) conn.0 (length before) links less (omega arith) h.below;
        },
        pairs_more bound conn.0 links before (omega (arith, less)) h.paired,
      );
      known = rw is (known_behind newest before links h.known);
      safe = are_safe script dial (done ++ deed ∷ []) _ is (
        record {
          unread = at_e.unread;
          ungiven = at_e.ungiven;
          closed = λ c. absurd (true≢false (sym c ∙ at_e.unclosed));
          untold = untold_append (length before + 1) done (deed ∷ []) (h.untold (length before + 1) (omega arith)) (mute_untold deed (length before + 1) m);
        },
        safe_mute script dial done deed before m h.safe.all,
      )
          (own_more dial done deed h.safe.own tt)
          (settle_more script done deed h.safe.waits (relay_settled stays script dial until done bound links idle left dialled h));
      left = rw is (left_on done (deed ∷ []) before left);
      dialled = rw is dialled;
      crowd = rw is h.crowd;
      served = rw is (tt, served_mute script done deed links before m h.served);
    }

pub takes_in : ClosedStays → (script : Script) (dial : List ℕ) (accepted : ℕ) (until : Option ℕ) (conn : Conn) (moment : ℕ) (links : List Link) (waiting : List ℕ)
    (s t u : Told) → (until ≡ None → AllIdle links) → Did s t (Called (Turned until (happening.Accepted conn)) ∷ []) → conn.0 ≡ s.wires.opened + 1 → Did t u (Asked moment ∷ [])
    → TakesIn (happening.Accepted conn) script dial accepted conn.0 links waiting s u
unfolding goes_ask
takes_in stays script dial accepted until conn moment links waiting s t u idle turned number asked =
    let deed : RelayDeed = Calls (Turned until (happening.Accepted conn)) in
    let first : t.wires.opened ≡ s.wires.opened + 1 = turned.wires.opened in
    let second : u.wires.opened ≡ t.wires.opened = asked.wires.opened in
    let ask = goes_ask script dial links waiting t u moment asked in
    let less : (done : List RelayDeed) (stands : StandsRelay script dial done s accepted links) → stands.bound < conn.0 =
    λ done stands. let within = stands.within in omega (arith, within, number) in
    let behind : (done : List RelayDeed) → StandsRelay script dial done s accepted links → HoldsRelay script dial (done ++ deed ∷ []) conn.0 links =
    λ done stands. accepted_relay stays script dial until conn done stands.bound links idle stands.left stands.dialled (less done stands) stands.holds in
    let both : List RelayDeed = deed ∷ Asks moment ∷ [] in
    record {
      deeds = both;
      performs = performs_then waiting waiting waiting s t u (deed ∷ []) (Asks moment ∷ [])
          (performs_call waiting s t (Turned until (happening.Accepted conn)) turned) (performs_ask waiting t u moment asked);
      until = until;
      calls_are = refl;
      newest = λ done stands. record {
        far = Nobody;
        others = connections_in done;
        newest = fold-append behind_deed [] done both
            ∙ ap (λ (n : ℕ). record { number = n + 1; e = conn.0; r = Nobody } ∷ connections_in done) (sym stands.count);
        alone = tt;
        is = omega (arith, number, first, second);
        unclosed = open_still conn.0 done both (stands.holds.fresh conn.0 (less done stands)).unclosed refl;
        silent = silent_append conn.0 done both (stands.holds.fresh conn.0 (less done stands)).silent (λ told. refl);
        stands = refl;
      };
      holds = λ done stands.
          subst (λ (d : List RelayDeed). HoldsRelay script dial d conn.0 links) (append_assoc done (deed ∷ []) (Asks moment ∷ []))
          (ask.holds (done ++ deed ∷ []) conn.0 (behind done stands));
      steady = λ done stands.
          steadily_then (AreSafe script dial) done (deed ∷ []) (Asks moment ∷ []) (stands.holds.safe, (behind done stands).safe)
          (ask.steady (done ++ deed ∷ []) conn.0 (behind done stands));
    }

-- what is due is given between
newest_goes : (script : Script) (dial : List ℕ) (stage : Stage) (number e : ℕ) (done : List RelayDeed) (a b : List Link) (u v : List ℕ) (s t : Told)
    (g : GoesWithin script dial a b u v s t) → IsNewest stage number e done s → HoldsRelay script dial done e a → IsNewest stage number e (done ++ g.deeds) t
newest_goes script dial stage number e done a b u v s t g n h = record {
  far = n.far;
  others = n.others;
  newest = connections_on done g.deeds g.same ∙ n.newest;
  alone = n.alone;
  is = n.is ∙ sym g.opened;
  unclosed = open_still e done g.deeds n.unclosed (g.apart e (newest_apart script dial stage number e done s a n h)).0.unclosed;
  silent = silent_append e done g.deeds n.silent (g.apart e (newest_apart script dial stage number e done s a n h)).0.silent;
  stands = stands_on stage number n.far done g.deeds n.stands;
}

pub turn_accepts : (what : Happening) (script : Script) (dial : List ℕ) (accepted e : ℕ) (a b c : List Link) (u v w : List ℕ) (s t x y : Told)
    → TakesIn what script dial accepted e a u s t → GoesWithin script dial a b u v t x → Accepts script dial Fresh (accepted + 1) e b c v w x y
    → TurnsOnce what script dial accepted (accepted + 1) a c u w s y
turn_accepts what script dial accepted e a b c u v w s t x y p g q = record {
  deeds = p.deeds ++ (g.deeds ++ q.deeds);
  performs = performs_then u u w s t y p.deeds (g.deeds ++ q.deeds) p.performs (performs_then u v w t x y g.deeds q.deeds g.performs q.performs);
  until = p.until;
  calls_are = loop_calls_append p.deeds (g.deeds ++ q.deeds) (Turned p.until what ∷ []) [] p.calls_are
      (loop_calls_append g.deeds q.deeds [] [] g.calls_are q.calls_are);
  holds = λ done stands.
      let n = newest_goes script dial Fresh (accepted + 1) e (done ++ p.deeds) a b u v t x g (p.newest done stands) (p.holds done stands) in
      let h = g.holds (done ++ p.deeds) e (p.holds done stands) in
      subst (λ (d : List RelayDeed). StandsRelay script dial d y (accepted + 1) c)
      (append_assoc (done ++ p.deeds) g.deeds q.deeds ∙ append_assoc done p.deeds (g.deeds ++ q.deeds)) (q.holds (done ++ p.deeds ++ g.deeds) n h);
  steady = λ done stands.
      let n = newest_goes script dial Fresh (accepted + 1) e (done ++ p.deeds) a b u v t x g (p.newest done stands) (p.holds done stands) in
      let h = g.holds (done ++ p.deeds) e (p.holds done stands) in
      steadily_then (AreSafe script dial) done p.deeds (g.deeds ++ q.deeds) (p.steady done stands)
      (steadily_then (AreSafe script dial) (done ++ p.deeds) g.deeds q.deeds (g.steady (done ++ p.deeds) e (p.holds done stands)) (q.steady (done ++ p.deeds ++ g.deeds) n h));
}

accept_broken : (what : Happening) (fault : RelayFault) (script : Script) (dial : List ℕ) (accepted e : ℕ) (a b : List Link) (u v : List ℕ) (s t x y : Told)
    → TakesIn what script dial accepted e a u s t → GoesWithin script dial a b u v t x → BreaksAccept fault script dial Fresh (accepted + 1) e b v x y
    → BreaksTurn what fault script dial accepted a u s y
accept_broken what fault script dial accepted e a b u v s t x y p g q = record {
  deeds = p.deeds ++ (g.deeds ++ q.deeds);
  breaks = breaks_then fault u u s t y p.deeds (g.deeds ++ q.deeds) p.performs (breaks_then fault u v t x y g.deeds q.deeds g.performs q.breaks);
  until = p.until;
  calls_are = loop_calls_append p.deeds (g.deeds ++ q.deeds) (Turned p.until what ∷ []) [] p.calls_are
      (loop_calls_append g.deeds q.deeds [] [] g.calls_are q.calls_are);
  steady = λ done stands.
      let n = newest_goes script dial Fresh (accepted + 1) e (done ++ p.deeds) a b u v t x g (p.newest done stands) (p.holds done stands) in
      let h = g.holds (done ++ p.deeds) e (p.holds done stands) in
      steadily_then (AreSafe script dial) done p.deeds (g.deeds ++ q.deeds) (p.steady done stands)
      (steadily_then (AreSafe script dial) (done ++ p.deeds) g.deeds q.deeds (g.steady (done ++ p.deeds) e (p.holds done stands)) (q.steady (done ++ p.deeds ++ g.deeds) n h));
}

accept_ends : {T : Type 0} (result : Result T RelayFault) (what : Happening) (script : Script) (dial : List ℕ) (accepted e : ℕ) (a b c : List Link) (u v w : List ℕ)
    (s t x y : Told) → TakesIn what script dial accepted e a u s t → GoesWithin script dial a b u v t x → EndsAccept result script dial Fresh (accepted + 1) e b c v w x y
    → HandlesTurn result what script dial accepted (accepted + 1) a c u w s y
accept_ends (Ok value) what script dial accepted e a b c u v w s t x y p g q = turn_accepts what script dial accepted e a b c u v w s t x y p g q
accept_ends (Err fault) what script dial accepted e a b c u v w s t x y p g q = accept_broken what fault script dial accepted e a b u v s t x y p g q

due_broken : (what : Happening) (fault : RelayFault) (script : Script) (dial : List ℕ) (accepted e : ℕ) (a : List Link) (u : List ℕ) (s t x : Told)
    → TakesIn what script dial accepted e a u s t → BreaksGoing fault script dial a u t x → BreaksTurn what fault script dial accepted a u s x
due_broken what fault script dial accepted e a u s t x p g = record {
  deeds = p.deeds ++ g.deeds;
  breaks = breaks_then fault u u s t x p.deeds g.deeds p.performs g.breaks;
  until = p.until;
  calls_are = loop_calls_append p.deeds g.deeds (Turned p.until what ∷ []) [] p.calls_are g.calls_are;
  steady = λ done stands.
      steadily_then (AreSafe script dial) done p.deeds g.deeds (p.steady done stands) (g.steady (done ++ p.deeds) e (p.holds done stands));
}

-- ---- a turn, by what happened

-- by which none is accepted
quiet_turn : ClosedStays → (script : Script) (dial : List ℕ) (accepted : ℕ) (links : List Link) (waiting : List ℕ) (until : Option ℕ) (what : Happening) (moment : ℕ)
    (s t u : Told) → (until ≡ None → AllIdle links)
    → ((connections : List RelayedConnection) → behind_deed connections (Calls (Turned until what)) ≡ connections) → t.wires.opened ≡ s.wires.opened
    → Did s t (Called (Turned until what) ∷ []) → Did t u (Asked moment ∷ []) → TurnsOnce what script dial accepted accepted links links waiting waiting s u
quiet_turn stays script dial accepted links waiting until what moment s t u idle still opened turned asked =
    let deed : RelayDeed = Calls (Turned until what) in
    let holds : (done : List RelayDeed) (stands : StandsRelay script dial done s accepted links) → HoldsRelay script dial (done ++ deed ∷ []) stands.bound links =
    λ done stands.
    mute_relay script dial done deed stands.bound links (mute_turn until what) still tt
    (relay_settled stays script dial until done stands.bound links idle stands.left stands.dialled stands.holds) stands.holds in
    turns_goes what script dial accepted accepted links links links waiting waiting waiting s t u
    (record {
      deeds = deed ∷ [];
      performs = performs_call waiting s t (Turned until what) turned;
      until = until;
      calls_are = refl;
      holds = λ done stands. record {
        bound = stands.bound;
        within = let within = stands.within in omega (arith, opened, within);
        count = stands.count ∙ sym (ap (λ (c : List RelayedConnection). length c) (connections_on done (deed ∷ []) still));
        left = rw (connections_on done (deed ∷ []) still) (left_on done (deed ∷ []) (connections_in done) stands.left);
        dialled = rw (connections_on done (deed ∷ []) still) stands.dialled;
        holds = holds done stands;
      };
      steady = λ done stands. (stands.holds.safe, (holds done stands).safe);
    })
    (goes_ask script dial links waiting t u moment asked)

pub turns : {T : Type 0} → ClosedStays → (result : Result T RelayFault) (script : Script) (dial : List ℕ) (accepted : ℕ) (until : Option ℕ) (what : Happening) (moment : ℕ)
    (a b c : List Link) (u v w : List ℕ) (s t x y z : Told) → (until ≡ None → AllIdle a) → Did s t (Called (Turned until what) ∷ [])
    → ((conn : Conn) → what ≡ happening.Accepted conn → conn.0 ≡ s.wires.opened + 1) → Did t x (Asked moment ∷ []) → GoesWithin script dial a b u v x y
    → Reacts result script dial accepted what b c v w y z → HandlesTurn result what script dial accepted (accepted_behind what accepted) a c u w s z
turns stays result script dial accepted until (happening.Accepted conn) moment a b c u v w s t x y z idle turned number asked due reacts =
    accept_ends result (happening.Accepted conn) script dial accepted conn.0 a b c u v w s x y z (takes_in stays script dial accepted until conn moment a u s t x idle turned (number conn refl) asked) due reacts
turns stays result script dial accepted until (happening.Readable conn) moment a b c u v w s t x y z idle turned number asked due reacts =
    turn_ends result (happening.Readable conn) script dial accepted accepted a b c u v w s y z
    (turns_goes (happening.Readable conn) script dial accepted accepted a a b u u v s x y (quiet_turn stays script dial accepted a u until (happening.Readable conn) moment s t x idle (λ n. refl) turned.wires.opened turned asked) due) reacts
turns stays result script dial accepted until (happening.Writable conn) moment a b c u v w s t x y z idle turned number asked due reacts =
    turn_ends result (happening.Writable conn) script dial accepted accepted a b c u v w s y z
    (turns_goes (happening.Writable conn) script dial accepted accepted a a b u u v s x y (quiet_turn stays script dial accepted a u until (happening.Writable conn) moment s t x idle (λ n. refl) turned.wires.opened turned asked) due) reacts
turns stays result script dial accepted until happening.Quiet moment a b c u v w s t x y z idle turned number asked due reacts =
    turn_ends result happening.Quiet script dial accepted accepted a b c u v w s y z
    (turns_goes happening.Quiet script dial accepted accepted a a b u u v s x y (quiet_turn stays script dial accepted a u until happening.Quiet moment s t x idle (λ n. refl) turned.wires.opened turned asked) due) reacts
turns stays result script dial accepted until happening.Ended moment a b c u v w s t x y z idle turned number asked due reacts =
    turn_ends result happening.Ended script dial accepted accepted a b c u v w s y z
    (turns_goes happening.Ended script dial accepted accepted a a b u u v s x y (quiet_turn stays script dial accepted a u until happening.Ended moment s t x idle (λ n. refl) turned.wires.opened turned asked) due) reacts
turns stays result script dial accepted until happening.Failed moment a b c u v w s t x y z idle turned number asked due reacts =
    turn_ends result happening.Failed script dial accepted accepted a b c u v w s y z
    (turns_goes happening.Failed script dial accepted accepted a a b u u v s x y (quiet_turn stays script dial accepted a u until happening.Failed moment s t x idle (λ n. refl) turned.wires.opened turned asked) due) reacts

-- it broke off as what is due was given
pub turn_due_broken : ClosedStays → (fault : RelayFault) (script : Script) (dial : List ℕ) (accepted : ℕ) (until : Option ℕ) (what : Happening) (moment : ℕ) (a : List Link) (u : List ℕ)
    (s t x y : Told) → (until ≡ None → AllIdle a) → Did s t (Called (Turned until what) ∷ []) → ((conn : Conn) → what ≡ happening.Accepted conn → conn.0 ≡ s.wires.opened + 1)
    → Did t x (Asked moment ∷ []) → BreaksGoing fault script dial a u x y → BreaksTurn what fault script dial accepted a u s y
turn_due_broken stays fault script dial accepted until (happening.Accepted conn) moment a u s t x y idle turned number asked due =
    due_broken (happening.Accepted conn) fault script dial accepted conn.0 a u s x y (takes_in stays script dial accepted until conn moment a u s t x idle turned (number conn refl) asked) due
turn_due_broken stays fault script dial accepted until (happening.Readable conn) moment a u s t x y idle turned number asked due =
    turns_broken (happening.Readable conn) fault script dial accepted accepted a a u u s x y (quiet_turn stays script dial accepted a u until (happening.Readable conn) moment s t x idle (λ n. refl) turned.wires.opened turned asked) due
turn_due_broken stays fault script dial accepted until (happening.Writable conn) moment a u s t x y idle turned number asked due =
    turns_broken (happening.Writable conn) fault script dial accepted accepted a a u u s x y (quiet_turn stays script dial accepted a u until (happening.Writable conn) moment s t x idle (λ n. refl) turned.wires.opened turned asked) due
turn_due_broken stays fault script dial accepted until happening.Quiet moment a u s t x y idle turned number asked due =
    turns_broken happening.Quiet fault script dial accepted accepted a a u u s x y (quiet_turn stays script dial accepted a u until happening.Quiet moment s t x idle (λ n. refl) turned.wires.opened turned asked) due
turn_due_broken stays fault script dial accepted until happening.Ended moment a u s t x y idle turned number asked due =
    turns_broken happening.Ended fault script dial accepted accepted a a u u s x y (quiet_turn stays script dial accepted a u until happening.Ended moment s t x idle (λ n. refl) turned.wires.opened turned asked) due
turn_due_broken stays fault script dial accepted until happening.Failed moment a u s t x y idle turned number asked due =
    turns_broken happening.Failed fault script dial accepted accepted a a u u s x y (quiet_turn stays script dial accepted a u until happening.Failed moment s t x idle (λ n. refl) turned.wires.opened turned asked) due

-- it broke off, but by no fault of the wires
pub turn_breaks : (broke : RelayFault) (what : Happening) (script : Script) (dial : List ℕ) (accepted newest : ℕ) (old new : List Link) (waiting left : List ℕ)
    (before now : Told) → BreaksTurn what broke script dial accepted old waiting before now → EndsTurn (Err broke) script dial accepted newest old new waiting left before now
turn_breaks fault.Wires what script dial accepted newest old new waiting left before now b = absurd b.breaks.is_last
turn_breaks fault.Sink what script dial accepted newest old new waiting left before now b = record { what = what; breaks = b }
turn_breaks (fault.NoMemory want) what script dial accepted newest old new waiting left before now b = record { what = what; breaks = b }

-- however it ends whose last answer is only whether the loop goes on
pub turn_result : (result : Result Bool RelayFault) (what : Happening) (script : Script) (dial : List ℕ) (accepted newest : ℕ) (old new : List Link) (waiting left : List ℕ)
    (before now : Told) → AnswersTurn result what → TurnsOnce what script dial accepted newest old new waiting left before now
    → EndsTurn result script dial accepted newest old new waiting left before now
turn_result (Ok goes) what script dial accepted newest old new waiting left before now is t = record { what = what; followed = is; turns = t }
turn_result (Err broke) what script dial accepted newest old new waiting left before now is t =
    subst (λ (f : RelayFault). EndsTurn (Err f) script dial accepted newest old new waiting left before now) (sym is.0)
    (subst (λ (w : Happening). TurnsOnce w script dial accepted newest old new waiting left before now) is.1 t)

pub newest_at_most : (what : Happening) (accepted : ℕ) → accepted_behind what accepted ≤ accepted + 1
newest_at_most (happening.Accepted conn) accepted = omega arith
newest_at_most (happening.Readable conn) accepted = omega arith
newest_at_most (happening.Writable conn) accepted = omega arith
newest_at_most happening.Quiet accepted = omega arith
newest_at_most happening.Ended accepted = omega arith
newest_at_most happening.Failed accepted = omega arith
