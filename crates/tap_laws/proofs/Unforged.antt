-- Where the connection of an end isn't forged, both ends know its session keys; so what was passed of either side tells its random number.
use Rattle.std.specs.Prelude.{Any}
use Rattle.std.proofs.Common.{◌≡◌, ◌∙◌, ℕ, false, List, [], ◌∷◌, ◌++◌, Option, Some, None, sym, ap, ap₂, subst}
use Rattle.er_base.specs.declared.side.Side.{Side}
use Rattle.er_base.specs.declared.side.Side.TheVariants.{E, R}
use Rattle.des_block.specs.declared.triple_key.TripleKey.{TripleKey}
use Rattle.bit_lists.specs.Bits.{bits}
use Rattle.er_settings.specs.Values.{Settings}
use Rattle.er_tap.specs.declared.tap_line.TapLine.{TapLine}
use Rattle.session_keys.specs.Session.{session_of}
use Rattle.safety_automaton.specs.Safety.{Connection, Phase, session_in}
use Rattle.safety_automaton.specs.Keys.{KmacEntry}
use Rattle.safety_automaton.specs.Laws.{KeysAreOwn, KeysStay}
use Rattle.safety_pair_laws.specs.Openings.{PairOpening, OfKeys, Pair}
use Rattle.safety_pair_laws.specs.Facts.{marked}
use Rattle.safety_pair_laws.specs.Authentic.{Authentic}
use Rattle.er_end_model.specs.Steps.{Finds}
use Rattle.er_end_model.specs.Ends.{Opening, End}
use Rattle.er_end_pair_laws.specs.Openings.{EndLinkOpening}
use Rattle.er_end_pair_laws.specs.Laws.{end_link_after}
use Rattle.drill_model.specs.Outcomes.{Occurrence, facts_in}
use Rattle.drill_model.specs.Ends.{OfStack}
use Rattle.drill_model.specs.Links.{Link, LinkOpening}
use Rattle.drill_model.specs.Worlds.{history_on, world_run}
use Rattle.drill_model.specs.Claims.{LawfulAt, IsLawfulHistory}
use Rattle.drill_laws.specs.Laws.{LawfulAlways}
use Rattle.drill_laws.specs.Stacks.{IsPair, StacksRun, IsTalkOfStacks, StacksTalk, StacksAccept}
use Rattle.tap_model.specs.Hearing.{heard, items}
use Rattle.tap_model.specs.Verdicts.{Read, rb_in, ra_in, random_number_in_item, first_number}
use Rattle.tap_laws.specs.Progress.{FirstAu1, FirstAu2, IsFirstSetUpText, Got, GotsNone, GotsOne, GotsAll, session_got, Stage, Begins, Waits, Speaks, Gone}
use Rattle.tap_laws.specs.Runs.{calling_of, called_of}
use Rattle.tap_laws.specs.LawsBelow.{LawsOfTwoEnds}
use Rattle.tap_laws.specs.OneEnd.{Tells}
use Rattle.tap_laws.specs.Worlds.{IsTapped}
use Rattle.tap_laws.specs.AnyLine.{TellsAtSide, IsConnectionFact, AuditFindsTold, AuditFindsUnforged}
use Rattle.tap_laws.proofs.Agreeing.{HasHead, front_head, head_number}
use Rattle.tap_laws.proofs.Alone.{item_head}
use Rattle.tap_laws.proofs.KeysTell.{DesLaws, keys_tell}
use Rattle.tap_laws.proofs.Pairs.{Known_end, known_e, known_r}
use Rattle.tap_laws.proofs.Stages.{begins_session, waits_session}
use Rattle.tap_laws.proofs.Forging.{told_unforged}
use Rattle.tap_laws.proofs.Talked.{BothKnow, both_know}
use Rattle.tap_laws.proofs.Tapped.{ra_is, rb_is, one_key}

-- ---- the first text of a side that knows session keys

record KeysOfFirst (finds : Finds) (o : Opening) (given : List (List ℕ)) (key : TripleKey) : Type 0 where
  connection : Connection
  first : List ℕ
  head : HasHead first given
  is_first : IsFirstSetUpText finds o connection first
  keys : connection.session ≡ key

some_same : (a b : TripleKey) → Some a ≡ Some b → a ≡ b
some_same a b e = cc

not_none : (x : Option TripleKey) (key : TripleKey) → x ≡ Some key → x ≡ None → ⊥
not_none x key a b = let z : Some key ≡ None = sym a ∙ b in cc

module _ (finds : Finds) (o : Opening) (key : TripleKey) where
  of_got : (front given rest a t : List (List ℕ)) → given ≡ front ++ rest → (got : Got finds o front a t) → session_got finds o front a t got ≡ Some key → KeysOfFirst finds o given key
  of_got front given rest a t is (GotsNone n) k = absurd (let z : None ≡ Some key = k in cc)
  of_got front given rest a t is (GotsOne c n) k =
      record { connection = c; first = n.first; head = front_head n.first front given ([], n.given_is) (rest, is); is_first = n.is_first; keys = some_same c.session key k }
  of_got front given rest a t is (GotsAll c n) k =
      record { connection = c; first = n.first; head = front_head n.first front given (n.second ∷ n.texts, n.given_is) (rest, is); is_first = n.is_first; keys = some_same c.session key k }

  of_stage : (phase : Phase) (g a t : List (List ℕ)) → Stage finds o phase g a t → session_in phase ≡ Some key → KeysOfFirst finds o g key
  of_stage phase g a t (Begins b n) k = absurd (not_none (session_in phase) key k (begins_session o phase b))
  of_stage phase g a t (Waits c w n) k =
      record { connection = c; first = n.first; head = ([], n.given_is); is_first = n.is_first; keys = some_same c.session key (sym (waits_session o c phase w) ∙ k) }
  of_stage phase g a t (Speaks c e n) k =
      record { connection = c; first = n.first; head = (n.second ∷ n.texts, n.given_is); is_first = n.is_first; keys = some_same c.session key (sym (ap session_in e) ∙ k) }
  of_stage phase g a t (Gone release session e front rest is got known_is) k = of_got front g rest a t is got (sym known_is ∙ sym (ap session_in e) ∙ k)

stack_same : (a b : End) → OfStack a ≡ OfStack b → a ≡ b
stack_same a b e = cc

-- the end of this side told a connection that isn't marked as forged
abbrev HasUnforgedConnection : Side → List Occurrence → Type 0
HasUnforgedConnection side history = Any (λ f. (f.side ≡ side) × (f.forged ≡ false) × IsConnectionFact f.fact) (marked (facts_in history))

-- what other crates and laws say
pub record Beside : Type 0 where
  pub des : DesLaws
  pub own : KeysAreOwn
  pub stay : KeysStay
  pub lawful : LawfulAlways
  pub talk : StacksTalk
  pub accept : StacksAccept

-- ---- a link

module _ (low : LawsOfTwoEnds) (beside : Beside) (settings : Settings) (basic : settings.modulo ≡ 8) (l : Link) (history : List Occurrence) (p : IsPair settings l history)
    (keys : List KmacEntry) (lines : List TapLine) (m : ℕ) (t : IsTapped keys lines m l history) where
  abbrev s : EndLinkOpening
  s = p.s

  abbrev e : End
  e = (end_link_after p.s p.steps).e

  abbrev r : End
  r = (end_link_after p.s p.steps).r

  own_basic : s.settings.modulo ≡ 8
  own_basic = ap (λ (x : Settings). x.modulo) p.settings_are ∙ basic

  ke : Known_end s (calling_of s) R e
  ke = known_e low s own_basic e r (low.runs s p.steps)

  kr : Known_end s (called_of s) E r
  kr = known_r low s own_basic e r (low.runs s p.steps)

  abbrev sides : Pair
  sides = record { e = e.core.safe.safety; r = r.core.safe.safety }

  -- both ends, where they know the same keys, were told numbers that agree
  module _ (key : TripleKey) (of_e : session_in e.core.safe.safety.phase ≡ Some key) (of_r : session_in r.core.safe.safety.phase ≡ Some key) where
    fe : KeysOfFirst s.finder (calling_of s) ke.given key
    fe = of_stage s.finder (calling_of s) key e.core.safe.safety.phase ke.given e.core.upper.accepted e.core.upper.sent ke.progress.stage of_e

    fr : KeysOfFirst s.finder (called_of s) kr.given key
    fr = of_stage s.finder (called_of s) key r.core.safe.safety.phase kr.given r.core.upper.accepted r.core.upper.sent kr.progress.stage of_r

    au2 : FirstAu2 s.rbc s.kmac s.rb fe.connection fe.first
    au2 = fe.is_first

    au1 : FirstAu1 s.finder s.rbc s.ra fr.connection fr.first
    au1 = fr.is_first

    same : session_of s.kmac fe.connection.ra s.rb ≡ session_of s.kmac s.ra fr.connection.rb
    same =
        ap (λ (n : ℕ). session_of s.kmac fe.connection.ra n) (sym au2.own) ∙ sym au2.keys ∙ fe.keys ∙ sym fr.keys ∙ au1.keys
        ∙ ap₂ (λ (k : TripleKey) (n : ℕ). session_of k n fr.connection.rb) (one_key settings l history p keys lines m t au1.found.0 fr.connection.peer au1.kmac au1.found.1) au1.own

    numbers : (bits 64 fe.connection.ra ≡ bits 64 s.ra) × (bits 64 s.rb ≡ bits 64 fr.connection.rb)
    numbers = keys_tell beside.des s.kmac fe.connection.ra s.rb s.ra fr.connection.rb same

    r_tells : Tells (first_number ra_in (items (heard R e.stream))) s.ra
    r_tells = record {
      told = fe.connection.ra;
      is = head_number ra_in fe.first (items (heard R e.stream)) (item_head low.one.wrapped R e.stream ke.given e fe.first ke.hears fe.head)
          ∙ ap (λ (z : Read). random_number_in_item ra_in z) au2.read;
      same = numbers.0;
    }

    e_tells : Tells (first_number rb_in (items (heard E r.stream))) s.rb
    e_tells = record {
      told = fr.connection.rb;
      is = head_number rb_in fr.first (items (heard E r.stream)) (item_head low.one.wrapped E r.stream kr.given r fr.first kr.hears fr.head)
          ∙ ap (λ (z : Read). random_number_in_item rb_in z) au1.read;
      same = sym numbers.1;
    }

    tells : (side : Side) → TellsAtSide side t.ra t.rb history
    tells E =
        subst (λ (os : List ℕ). Tells (first_number rb_in (items (heard E os))) t.rb) p.stream_r
        (subst (λ (n : ℕ). Tells (first_number rb_in (items (heard E r.stream))) n) (rb_is settings l history p keys lines m t) e_tells)
    tells R =
        subst (λ (os : List ℕ). Tells (first_number ra_in (items (heard R os))) t.ra) p.stream_e
        (subst (λ (n : ℕ). Tells (first_number ra_in (items (heard R e.stream))) n) (ra_is settings l history p keys lines m t) r_tells)

  by_side : (side : Side) → BothKnow sides side → TellsAtSide side t.ra t.rb history
  by_side E b = tells b.key b.own b.peers E
  by_side R b = tells b.key b.peers b.own R

  pub unforged_tell : (side : Side) → Authentic (OfKeys t.engine t.rbc t.kmac (Some t.kmac) t.ra t.rb) (facts_in history)
      → IsTalkOfStacks (OfKeys t.engine t.rbc t.kmac (Some t.kmac) t.ra t.rb) l history → HasUnforgedConnection side history → TellsAtSide side t.ra t.rb history
  unforged_tell side authentic talk one =
      let opening : PairOpening = OfKeys t.engine t.rbc t.kmac (Some t.kmac) t.ra t.rb in
      let pair : Pair = record { e = talk.e.core.safe.safety; r = talk.r.core.safe.safety } in
      let b : BothKnow pair side = both_know beside.own beside.stay opening (facts_in history) pair talk.talks authentic side one in
      let same_e : talk.e ≡ e = stack_same talk.e e (sym talk.e_is ∙ p.e_is) in
      let same_r : talk.r ≡ r = stack_same talk.r r (sym talk.r_is ∙ p.r_is) in
      let pairs : pair ≡ sides = ap₂ (λ (x y : End). record { e = x.core.safe.safety; r = y.core.safe.safety }) same_e same_r in
      by_side side (subst (λ (x : Pair). BothKnow x side) pairs b)

pub audit_finds_unforged : StacksRun → LawsOfTwoEnds → Beside → AuditFindsTold → AuditFindsUnforged
audit_finds_unforged run low beside told plan steps fit allowed basic n l at keys lines m t side none =
    let history : List Occurrence = history_on n (world_run plan steps).1 in
    let p : IsPair plan.settings l history = run plan steps fit allowed n l at t.engine t.rbc t.kmac (Some t.kmac) t.ra t.rb t.link_is in
    let here : LawfulAt (Some l) history = subst (λ (x : Option Link). LawfulAt x history) at (beside.lawful plan steps n) in
    let authentic : Authentic (OfKeys t.engine t.rbc t.kmac (Some t.kmac) t.ra t.rb) (facts_in history) = subst (λ (x : LinkOpening). IsLawfulHistory x history) t.link_is here in
    let talk = beside.talk plan steps n l at t.engine t.rbc t.kmac (Some t.kmac) t.ra t.rb t.link_is in
    let accepted = beside.accept plan steps n l at t.engine t.rbc t.kmac (Some t.kmac) t.ra t.rb t.link_is side in
    told plan steps fit allowed basic n l at keys lines m t side
    (λ some. unforged_tell low beside plan.settings basic l history p keys lines m t side authentic talk
    (told_unforged t.engine t.rbc t.kmac (Some t.kmac) t.ra t.rb history authentic side (λ nothing. some (accepted ∙ nothing)) none))
