-- An audit of what two ends over two lines were passed, where these keep their order: it finds good what the ends accepted (UNISIG SUBSET-037;
-- this profile).
use Rattle.hdlc_station_model.specs.Lines.{IsPrefix}
use Rattle.std.specs.Prelude.{◌≡◌, true, List, Some, None}
use Rattle.er_base.specs.declared.side.Side.{Side}
use Rattle.er_base.specs.declared.side.Side.TheVariants.{E, R}
use Rattle.er_end_model.specs.Ends.{End}
use Rattle.pair_model.specs.Steps.{PairStep}
use Rattle.er_end_pair_laws.specs.Openings.{EndLinkOpening, Agree}
use Rattle.er_end_pair_laws.specs.Steps.{AllFit}
use Rattle.er_end_pair_laws.specs.Laws.{end_link_after}
use Rattle.tap_model.specs.Hearing.{heard, items}
use Rattle.tap_model.specs.Verdicts.{Known, known_of, Judged, judged_from, good_texts}

-- what is known of the link, of the octets that came to each end
abbrev pub known_to : EndLinkOpening → (e r : End) → Known
known_to s e r = known_of s.engine s.rbc (Some s.kmac) (items (heard E r.stream)) (items (heard R e.stream))

-- what both sides passed, judged
abbrev pub passed_judged : EndLinkOpening → (e r : End) → (side : Side) → List Judged
passed_judged s e r E = judged_from (known_to s e r) E 0 (items (heard E r.stream))
passed_judged s e r R = judged_from (known_to s e r) R 0 (items (heard R e.stream))

-- each end accepted a beginning of the texts of the other side's good DTs, and all of them while it isn't released
pub record FindsAccepted (s : EndLinkOpening) (e r : End) : Type 0 where
  pub at_r : IsPrefix r.core.upper.accepted (good_texts (passed_judged s e r E))
  pub at_e : IsPrefix e.core.upper.accepted (good_texts (passed_judged s e r R))
  pub all_at_r : r.core.released ≡ None → r.core.upper.accepted ≡ good_texts (passed_judged s e r E)
  pub all_at_e : e.core.released ≡ None → e.core.upper.accepted ≡ good_texts (passed_judged s e r R)

abbrev pub PairsAudited : Type 0
PairsAudited =
    (s : EndLinkOpening) (steps : List PairStep) → AllFit steps → Agree s → s.settings.modulo ≡ 8 → (end_link_after s steps).order_kept ≡ true
    → FindsAccepted s (end_link_after s steps).e (end_link_after s steps).r
