-- Of an end beside which what was passed of its own side tells its random number an audit finds good what it accepted, whatever the line did.
use Rattle.std.proofs.Common.{◌≡◌, ◌∙◌, ℕ, false, List, [], Some, Ok, refl, sym, ap, subst}
use Rattle.er_base.specs.declared.side.Side.{Side}
use Rattle.er_base.specs.declared.side.Side.TheVariants.{E, R}
use Rattle.des_block.specs.declared.triple_key.TripleKey.{TripleKey}
use Rattle.er_settings.specs.Values.{Settings}
use Rattle.er_tap.specs.declared.tap_line.TapLine.{TapLine}
use Rattle.sapdu.specs.Spelling.{Au1, read_of}
use Rattle.safety_automaton.specs.Keys.{KmacEntry}
use Rattle.er_end_model.specs.Ends.{End}
use Rattle.er_end_pair_laws.specs.Openings.{EndLinkOpening}
use Rattle.er_end_pair_laws.specs.Laws.{end_link_after}
use Rattle.drill_model.specs.Outcomes.{Occurrence}
use Rattle.drill_model.specs.Links.{Link}
use Rattle.drill_model.specs.Worlds.{history_on, world_run}
use Rattle.drill_model.specs.Kinds.{accepted_by}
use Rattle.drill_model.specs.Hearing.{passed_of}
use Rattle.drill_laws.specs.Stacks.{IsPair, StacksRun}
use Rattle.tap_model.specs.Hearing.{heard, items}
use Rattle.tap_model.specs.Lines.{TapOpening}
use Rattle.tap_model.specs.Verdicts.{rb_in, ra_in, first_number}
use Rattle.tap_laws.specs.Runs.{calling_of, called_of}
use Rattle.tap_laws.specs.LawsBelow.{LawsOfTwoEnds}
use Rattle.tap_laws.specs.OneEnd.{Tells}
use Rattle.tap_laws.specs.Pairs.{known_to}
use Rattle.tap_laws.specs.Worlds.{IsTapped, opened_as, IsUnreleased}
use Rattle.tap_laws.specs.AnyLine.{TellsAtSide, FindsAtSide, AuditFindsTold}
use Rattle.tap_laws.proofs.Finding.{finds_end}
use Rattle.tap_laws.proofs.Agreeing.{HasHead}
use Rattle.tap_laws.proofs.Alone.{agreed_calling, agreed_answering}
use Rattle.tap_laws.proofs.Pairs.{Known_end, known_e, known_r}
use Rattle.tap_laws.proofs.Tapped.{prefix_is, ra_is, rb_is, one_key, good_of_e, good_of_r}

module _ (low : LawsOfTwoEnds) (settings : Settings) (basic : settings.modulo ≡ 8) (l : Link) (history : List Occurrence) (p : IsPair settings l history)
    (keys : List KmacEntry) (lines : List TapLine) (m : ℕ) (t : IsTapped keys lines m l history) where
  abbrev s : EndLinkOpening
  s = p.s

  abbrev e : End
  e = (end_link_after p.s p.steps).e

  abbrev r : End
  r = (end_link_after p.s p.steps).r

  own_basic : s.settings.modulo ≡ 8
  own_basic = ap (λ (x : Settings). x.modulo) p.settings_are ∙ basic

  pub ke : Known_end s (calling_of s) R e
  ke = known_e low s own_basic e r (low.runs s p.steps)

  pub kr : Known_end s (called_of s) E r
  kr = known_r low s own_basic e r (low.runs s p.steps)

  found_is : (at id rb : ℕ) (x : List ℕ) (kmac : TripleKey) → HasHead x kr.given → read_of x ≡ Ok (Au1 id 1 rb, false) → s.finder at id s.rbc ≡ Some kmac → kmac ≡ s.kmac
  found_is at id rb x kmac head read find = one_key settings l history p keys lines m t at id kmac find

  -- the own numbers, of the streams of both ends
  r_told : ((accepted_by R history ≡ [] → ⊥) → TellsAtSide R t.ra t.rb history) → (r.core.upper.accepted ≡ [] → ⊥) → Tells (first_number ra_in (items (heard R e.stream))) s.ra
  r_told tells some =
      let h : Tells (first_number ra_in (items (heard R (passed_of R history)))) t.ra = tells (λ none. some (sym p.accepted_r ∙ none)) in
      subst (λ (os : List ℕ). Tells (first_number ra_in (items (heard R os))) s.ra) (sym p.stream_e)
      (subst (λ (n : ℕ). Tells (first_number ra_in (items (heard R (passed_of R history)))) n) (sym (ra_is settings l history p keys lines m t)) h)

  e_told : ((accepted_by E history ≡ [] → ⊥) → TellsAtSide E t.ra t.rb history) → (e.core.upper.accepted ≡ [] → ⊥) → Tells (first_number rb_in (items (heard E r.stream))) s.rb
  e_told tells some =
      let h : Tells (first_number rb_in (items (heard E (passed_of E history)))) t.rb = tells (λ none. some (sym p.accepted_e ∙ none)) in
      subst (λ (os : List ℕ). Tells (first_number rb_in (items (heard E os))) s.rb) (sym p.stream_r)
      (subst (λ (n : ℕ). Tells (first_number rb_in (items (heard E (passed_of E history)))) n) (sym (rb_is settings l history p keys lines m t)) h)

  abbrev o : TapOpening
  o = opened_as keys lines m l history t

  pub found_at : (side : Side) → ((accepted_by side history ≡ [] → ⊥) → TellsAtSide side t.ra t.rb history) → FindsAtSide keys lines m o l history side
  found_at E tells =
      let agreed =
      agreed_calling low.one.wrapped s.finder s.engine s.rbc s.kmac e.stream r.stream ke.given e s.settings s.engine s.rbc s.kmac s.rb s.moment refl ke.hears (e_told tells) in
      let f = finds_end (known_to s e r) s.finder (calling_of s) refl e.stream ke.given e ke.hears ke.progress ke.is_live agreed in
      let good = good_of_r settings l history p keys lines m t in
      record {
        prefix = prefix_is e.core.upper.accepted (accepted_by E history) _ _ p.accepted_e good f.prefix;
        all = λ live. p.accepted_e ∙ f.all (subst IsUnreleased p.e_is live) ∙ good;
      }
  found_at R tells =
      let agreed =
      agreed_answering low.one.wrapped s.finder s.engine s.rbc s.kmac r.stream e.stream kr.given r s.settings s.rbc s.ra s.moment found_is kr.hears (r_told tells) in
      let f = finds_end (known_to s e r) s.finder (called_of s) refl r.stream kr.given r kr.hears kr.progress kr.is_live agreed in
      let good = good_of_e settings l history p keys lines m t in
      record {
        prefix = prefix_is r.core.upper.accepted (accepted_by R history) _ _ p.accepted_r good f.prefix;
        all = λ live. p.accepted_r ∙ f.all (subst IsUnreleased p.r_is live) ∙ good;
      }

pub audit_finds_told : StacksRun → LawsOfTwoEnds → AuditFindsTold
audit_finds_told run low plan steps fit allowed basic n l at keys lines m t side tells =
    let history : List Occurrence = history_on n (world_run plan steps).1 in
    let p : IsPair plan.settings l history = run plan steps fit allowed n l at t.engine t.rbc t.kmac (Some t.kmac) t.ra t.rb t.link_is in
    found_at low plan.settings basic l history p keys lines m t side tells
