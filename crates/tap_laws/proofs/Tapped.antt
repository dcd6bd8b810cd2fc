-- An audit of a tapped link of a world that keeps its order finds good what its ends accepted.
use Rattle.std.proofs.Common.{◌≡◌, ◌∙◌, ℕ, Bool, true, false, not, List, Option, Some, None, refl, sym, ap, subst}
use Rattle.hdlc_station_model.specs.Lines.{IsPrefix}
use Rattle.std.specs.Prelude.{◌==◌, ◌&&◌, if◌then◌else◌}
use Rattle.std.proofs.lemmas.Bool.{eq-eqb}
use Rattle.er_base.specs.declared.side.Side.{Side}
use Rattle.er_base.specs.declared.side.Side.TheVariants.{E, R}
use Rattle.des_block.specs.declared.triple_key.TripleKey.{TripleKey}
use Rattle.er_settings.specs.Values.{Settings}
use Rattle.er_tap.specs.declared.tap_line.TapLine.{TapLine}
use Rattle.safety_automaton.specs.Keys.{KmacEntry, key_at}
use Rattle.safety_pair_laws.specs.Openings.{OfKeys, key_for}
use Rattle.er_end_pair_laws.specs.Openings.{EndLinkOpening, Agree}
use Rattle.er_end_pair_laws.specs.Links.{EndLink as Pair}
use Rattle.er_end_pair_laws.specs.Laws.{end_link_after}
use Rattle.drill_model.specs.Outcomes.{Occurrence}
use Rattle.drill_model.specs.Links.{Link, OfStacks}
use Rattle.drill_model.specs.Worlds.{history_on, world_run}
use Rattle.drill_model.specs.Kinds.{accepted_by, IsOrderKeeping}
use Rattle.drill_laws.specs.Stacks.{IsPair, StacksRun}
use Rattle.tap_model.specs.Hearing.{heard, items}
use Rattle.tap_model.specs.Lines.{TapOpening, stream_of}
use Rattle.tap_model.specs.Verdicts.{known_of, Judged, judged_from, good_texts}
use Rattle.tap_model.specs.Texts.{judged_at}
use Rattle.tap_laws.specs.Pairs.{FindsAccepted, PairsAudited}
use Rattle.tap_laws.specs.Worlds.{IsTapped, opened_as, IsUnreleased, FindsGood, AuditFindsAccepted}

-- ---- what is judged depends on the numbers, the KMAC and both streams alone

abbrev judged_of : Side → (engine rbc : ℕ) → Option TripleKey → (of_e of_r : List ℕ) → List Judged
judged_of E engine rbc kmac of_e of_r = judged_from (known_of engine rbc kmac (items (heard E of_e)) (items (heard R of_r))) E 0 (items (heard E of_e))
judged_of R engine rbc kmac of_e of_r = judged_from (known_of engine rbc kmac (items (heard E of_e)) (items (heard R of_r))) R 0 (items (heard R of_r))

judged_same : (side : Side) (e e' r r' : ℕ) (k k' : Option TripleKey) (x x' y y' : List ℕ) → e ≡ e' → r ≡ r' → k ≡ k' → x ≡ x' → y ≡ y'
    → judged_of side e r k x y ≡ judged_of side e' r' k' x' y'
judged_same side e e' r r' k k' x x' y y' a b c d f =
    ap (λ (n : ℕ). judged_of side n r k x y) a
    ∙ ap (λ (n : ℕ). judged_of side e' n k x y) b
    ∙ ap (λ (o : Option TripleKey). judged_of side e' r' o x y) c
    ∙ ap (λ (os : List ℕ). judged_of side e' r' k' os y) d
    ∙ ap (λ (os : List ℕ). judged_of side e' r' k' x' os) f

-- ---- the KMAC of a link

own_key : (engine rbc : ℕ) (ke : TripleKey) (kr : Option TripleKey) (ra rb : ℕ) → key_for (OfKeys engine rbc ke kr ra rb) engine rbc ≡ kr
own_key engine rbc ke kr ra rb =
    let e : (engine == engine) ≡ true = eq-eqb engine engine refl in
    let r : (rbc == rbc) ≡ true = eq-eqb rbc rbc refl in
    rw (e, r) refl

not_false : (b : Bool) → not b ≡ false → b ≡ true
not_false true e = refl
not_false false e = absurd cc

-- ---- a link

pub prefix_is : (xs xs' ys ys' : List (List ℕ)) → xs' ≡ xs → ys ≡ ys' → IsPrefix xs ys → IsPrefix xs' ys'
prefix_is xs xs' ys ys' a b h = subst (λ (zs : List (List ℕ)). IsPrefix zs ys') (sym a) (subst (λ (zs : List (List ℕ)). IsPrefix xs zs) b h)

found_key : (b : Bool) (kr : Option TripleKey) (own kmac : TripleKey) → kr ≡ Some own → (if b then kr else None) ≡ Some kmac → kmac ≡ own
found_key true kr own kmac e f = let z : Some own ≡ Some kmac = sym e ∙ f in cc
found_key false kr own kmac e f = absurd cc

module _ (settings : Settings) (l : Link) (history : List Occurrence) (p : IsPair settings l history) (keys : List KmacEntry) (lines : List TapLine) (m : ℕ)
    (t : IsTapped keys lines m l history) where
  abbrev s : EndLinkOpening
  s = p.s

  abbrev ends : Pair
  ends = end_link_after p.s p.steps

  numbers : OfStacks s.engine s.rbc s.kmac p.kr s.ra s.rb ≡ OfStacks t.engine t.rbc t.kmac (Some t.kmac) t.ra t.rb
  numbers = sym p.opening_is ∙ t.link_is

  engine_is : s.engine ≡ t.engine
  engine_is = let e = numbers in cc

  rbc_is : s.rbc ≡ t.rbc
  rbc_is = let e = numbers in cc

  kmac_is : s.kmac ≡ t.kmac
  kmac_is = let e = numbers in cc

  pub ra_is : s.ra ≡ t.ra
  ra_is = let e = numbers in cc

  pub rb_is : s.rb ≡ t.rb
  rb_is = let e = numbers in cc

  kr_is : p.kr ≡ Some s.kmac
  kr_is = let e = numbers in cc

  pub agree : Agree s
  agree now = p.finds now s.engine s.rbc ∙ own_key s.engine s.rbc s.kmac p.kr s.ra s.rb ∙ kr_is

  -- the radio block centre finds no other KMAC for any engine
  pub one_key : (at id : ℕ) (kmac : TripleKey) → s.finder at id s.rbc ≡ Some kmac → kmac ≡ s.kmac
  one_key at id kmac find = found_key ((s.engine == id) && (s.rbc == s.rbc)) p.kr s.kmac kmac kr_is (sym (p.finds at id s.rbc) ∙ find)

  abbrev o : TapOpening
  o = opened_as keys lines m l history t

  judged_is : (side : Side) → judged_of side s.engine s.rbc (Some s.kmac) ends.r.stream ends.e.stream
      ≡ judged_of side t.engine t.rbc (key_at keys t.moment t.engine t.rbc) (stream_of m E lines) (stream_of m R lines)
  judged_is side =
      judged_same side s.engine t.engine s.rbc t.rbc (Some s.kmac) (key_at keys t.moment t.engine t.rbc) ends.r.stream (stream_of m E lines) ends.e.stream (stream_of m R lines)
      engine_is rbc_is (ap Some kmac_is ∙ sym t.found) (p.stream_r ∙ sym t.of_e) (p.stream_e ∙ sym t.of_r)

  pub good_of_e : good_texts (judged_of E s.engine s.rbc (Some s.kmac) ends.r.stream ends.e.stream) ≡ good_texts (judged_at (key_at keys) m o lines E)
  good_of_e = ap good_texts (judged_is E)

  pub good_of_r : good_texts (judged_of R s.engine s.rbc (Some s.kmac) ends.r.stream ends.e.stream) ≡ good_texts (judged_at (key_at keys) m o lines R)
  good_of_r = ap good_texts (judged_is R)

  module _ (audited : PairsAudited) (basic : settings.modulo ≡ 8) (keeping : IsOrderKeeping l.opening history) where
    kept : ends.order_kept ≡ true
    kept = not_false ends.order_kept (sym p.ordered ∙ keeping.ordered)

    finds : FindsAccepted s ends.e ends.r
    finds = audited s p.steps p.fit agree (ap (λ (x : Settings). x.modulo) p.settings_are ∙ basic) kept

    finds_good : FindsGood keys lines m o l history
    finds_good =
        let f = finds in
        record {
          at_r = prefix_is ends.r.core.upper.accepted (accepted_by R history) _ _ p.accepted_r good_of_e f.at_r;
          at_e = prefix_is ends.e.core.upper.accepted (accepted_by E history) _ _ p.accepted_e good_of_r f.at_e;
          all_at_r = λ live. p.accepted_r ∙ f.all_at_r (subst IsUnreleased p.r_is live) ∙ good_of_e;
          all_at_e = λ live. p.accepted_e ∙ f.all_at_e (subst IsUnreleased p.e_is live) ∙ good_of_r;
        }

pub audit_finds_accepted : StacksRun → PairsAudited → AuditFindsAccepted
audit_finds_accepted run audited plan steps fit allowed basic n l at keeping keys lines m t =
    let history : List Occurrence = history_on n (world_run plan steps).1 in
    let p : IsPair plan.settings l history = run plan steps fit allowed n l at t.engine t.rbc t.kmac (Some t.kmac) t.ra t.rb t.link_is in
    finds_good plan.settings l history p keys lines m t audited basic keeping
