-- What an audit finds good of all that an end accepted, where it knows the session keys of that end.
use Rattle.std.proofs.Common.{◌≡◌, ◌∙◌, ℕ, ◌+◌, Bool, List, [], ◌∷◌, ◌++◌, length, drop, Option, Some, None, refl, sym, ap, ap₂, subst, arith, append_assoc, append-nil}
use Rattle.hdlc_station_model.specs.Lines.{IsPrefix}
use Rattle.std.specs.Option.{option_to_list}
use Rattle.std.proofs.Math.Seq.{take-append_seam}
use Rattle.std.proofs.lemmas.List.{take-append-drop}
use Rattle.er_base.specs.declared.side.Side.{Side}
use Rattle.des_block.specs.declared.triple_key.TripleKey.{TripleKey}
use Rattle.safety_automaton.specs.Safety.{Connection, Phase}
use Rattle.safety_automaton.specs.Rules.{IsOpen}
use Rattle.er_end_model.specs.Steps.{Finds}
use Rattle.er_end_model.specs.Ends.{Opening, Call, Answer, End}
use Rattle.tap_model.specs.Hearing.{heard, items}
use Rattle.tap_model.specs.Given.{sender_to, HasHeardStreamTexts}
use Rattle.tap_model.specs.Verdicts.{SafetySession, Known, side_flag, receiver_of, judged_from, good_texts}
use Rattle.tap_laws.specs.Progress.{etcs_number_of_end, flag_to, AreMessages, GotAll, Got, GotsNone, GotsOne, GotsAll, Stage, Begins, Waits, Speaks, Gone, Progresses}
use Rattle.tap_laws.proofs.Judging.{none_judged, first_judged, second_judged, messages_good}

-- these first
abbrev pub IsFront : List (List ℕ) → List (List ℕ) → Type 0
IsFront xs ys = (rest : List (List ℕ)) × (ys ≡ xs ++ rest)

-- where messages were accepted the audit's session has the keys under which they were
abbrev pub Agreed : Known → Finds → Opening → (given accepted : List (List ℕ)) → Type 0
Agreed known finds o given accepted =
    (c : Connection) (front : List (List ℕ)) → IsFront front given → GotAll finds o c front accepted → (accepted ≡ [] → ⊥)
    → (k : SafetySession) × (known.session ≡ Some k) × (k.keys ≡ c.session)

flags_same : (o : Opening) → flag_to o ≡ side_flag (sender_to o)
flags_same (Call settings me peer kmac rb now) = refl
flags_same (Answer settings me ra now) = refl

no_texts : (session : TripleKey) (flag : Bool) (me : ℕ) (texts : List (List ℕ)) → AreMessages session flag me texts [] → texts ≡ []
no_texts session flag me [] h = refl
no_texts session flag me (text ∷ texts) h = absurd h

not_empty : (x : List ℕ) (xs : List (List ℕ)) → x ∷ xs ≡ [] → ⊥
not_empty x xs e = cc

module _ (known : Known) (finds : Finds) (o : Opening) (receiver : receiver_of known (sender_to o) ≡ etcs_number_of_end o) where
  abbrev side : Side
  side = sender_to o

  abbrev good : List (List ℕ) → List (List ℕ)
  good all = good_texts (judged_from known side 0 all)

  -- ---- all that was given up to the last message that was accepted

  -- with the session
  session_good : (c : Connection) (k : SafetySession) → known.session ≡ Some k → k.keys ≡ c.session → (front accepted more : List (List ℕ)) → (got : GotAll finds o c front accepted)
      → good (front ++ more) ≡ accepted ++ good_texts (judged_from known side (2 + length got.texts) more)
  session_good c k known_is keys front accepted more got =
      let e : known ≡ record known { session = Some k } = ap (λ (s : Option SafetySession). record known { session = s }) known_is in
      let texts : List (List ℕ) = got.texts in
      let m : AreMessages k.keys (side_flag side) (receiver_of known side) texts accepted =
      subst (λ (n : ℕ). AreMessages k.keys (side_flag side) n texts accepted) (sym receiver)
      (subst (λ (f : Bool). AreMessages k.keys f (etcs_number_of_end o) texts accepted) (flags_same o)
      (subst (λ (s : TripleKey). AreMessages s (flag_to o) (etcs_number_of_end o) texts accepted) (sym keys) got.messages)) in
      ap (λ (z : List (List ℕ)). good (z ++ more)) got.given_is
      ∙ first_judged known side got.first (got.second ∷ (texts ++ more))
      ∙ second_judged known side got.second (texts ++ more)
      ∙ ap (λ (z : Known). good_texts (judged_from z side 2 (texts ++ more))) e
      ∙ messages_good known k side 2 texts accepted more (omega arith) m
      ∙ ap (λ (z : Known). accepted ++ good_texts (judged_from z side (2 + length texts) more)) (sym e)

  all_front : (c : Connection) (given front accepted more : List (List ℕ)) → IsFront front given → Agreed known finds o given accepted → GotAll finds o c front accepted
      → IsFront accepted (good (front ++ more))
  all_front c given front [] more is agreed got = (good (front ++ more), refl)
  all_front c given front (user ∷ users) more is agreed got =
      let k = agreed c front is got (not_empty user users) in
      (good_texts (judged_from known side (2 + length got.texts) more), session_good c k.0 k.1 k.2 front (user ∷ users) more got)

  all_good : (c : Connection) (front accepted : List (List ℕ)) → Agreed known finds o front accepted → GotAll finds o c front accepted → good (front ++ []) ≡ accepted
  all_good c front [] agreed got =
      ap (λ (z : List (List ℕ)). good (z ++ [])) got.given_is
      ∙ ap (λ (z : List (List ℕ)). good (got.first ∷ got.second ∷ (z ++ []))) (no_texts c.session (flag_to o) (etcs_number_of_end o) got.texts got.messages)
      ∙ first_judged known side got.first (got.second ∷ [])
      ∙ second_judged known side got.second []
      ∙ none_judged known side 2
  all_good c front (user ∷ users) agreed got =
      let k = agreed c front ([], sym (append-nil front)) got (not_empty user users) in
      session_good c k.0 k.1 k.2 front (user ∷ users) [] got
      ∙ ap (λ (z : List (List ℕ)). (user ∷ users) ++ z) (none_judged known side (2 + length got.texts)) ∙ append-nil (user ∷ users)

  -- ---- by how far it is

  nothing_first : (accepted found : List (List ℕ)) → accepted ≡ [] → IsFront accepted found
  nothing_first accepted found e = (found, ap (λ (z : List (List ℕ)). z ++ found) (sym e))

  got_front : (given front accepted sent more : List (List ℕ)) → IsFront front given → Agreed known finds o given accepted → Got finds o front accepted sent
      → IsFront accepted (good (front ++ more))
  got_front given front accepted sent more is agreed (GotsNone n) = nothing_first accepted (good (front ++ more)) n.accepted_is
  got_front given front accepted sent more is agreed (GotsOne c n) = nothing_first accepted (good (front ++ more)) n.accepted_is
  got_front given front accepted sent more is agreed (GotsAll c n) = all_front c given front accepted more is agreed n

  stage_front : (phase : Phase) (given accepted sent more : List (List ℕ)) → Agreed known finds o given accepted → Stage finds o phase given accepted sent
      → IsFront accepted (good (given ++ more))
  stage_front phase given accepted sent more agreed (Begins b n) = nothing_first accepted (good (given ++ more)) n.accepted_is
  stage_front phase given accepted sent more agreed (Waits c w n) = nothing_first accepted (good (given ++ more)) n.accepted_is
  stage_front phase given accepted sent more agreed (Speaks c e n) = all_front c given given accepted more ([], sym (append-nil given)) agreed n
  stage_front phase given accepted sent more agreed (Gone release session e front rest is got known_is) =
      subst (λ (z : List (List ℕ)). IsFront accepted (good z)) (sym (ap (λ (z : List (List ℕ)). z ++ more) is ∙ append_assoc front rest more))
      (got_front given front accepted sent (rest ++ more) (rest, is) agreed got)

  stage_good : (phase : Phase) (given accepted sent : List (List ℕ)) → Agreed known finds o given accepted → IsOpen phase → Stage finds o phase given accepted sent
      → good (given ++ []) ≡ accepted
  stage_good phase given accepted sent agreed live (Begins b n) =
      ap (λ (z : List (List ℕ)). good (z ++ [])) n.given_is ∙ none_judged known side 0 ∙ sym n.accepted_is
  stage_good phase given accepted sent agreed live (Waits c w n) =
      ap (λ (z : List (List ℕ)). good (z ++ [])) n.given_is ∙ first_judged known side n.first [] ∙ none_judged known side 1 ∙ sym n.accepted_is
  stage_good phase given accepted sent agreed live (Speaks c e n) = all_good c given accepted agreed n
  stage_good phase given accepted sent agreed live (Gone release session e front rest is got known_is) =
      absurd (subst (λ (p : Phase). IsOpen p) e live)

  -- ---- an end

  -- what it accepted is a prefix of what is found good, and all of it while it isn't released
  pub record FindsEnd (stream : List ℕ) (z : End) : Type 0 where
    pub prefix : IsPrefix z.core.upper.accepted (good (items (heard side stream)))
    pub all : z.core.released ≡ None → z.core.upper.accepted ≡ good (items (heard side stream))

  pub finds_end : (stream : List ℕ) (given : List (List ℕ)) (z : End) → HasHeardStreamTexts side stream given z → Progresses finds o given z.core
      → (z.core.released ≡ None → IsOpen z.core.safe.safety.phase) → Agreed known finds o given z.core.upper.accepted → FindsEnd stream z
  finds_end stream given z h p live agreed =
      let a : List (List ℕ) = z.core.upper.accepted in
      let texts : List (List ℕ) = (heard side stream).texts in
      let last : List (List ℕ) = option_to_list (heard side stream).parting in
      let rest : List (List ℕ) = drop (length given) texts in
      let whole : texts ++ last ≡ given ++ (rest ++ last) =
      ap (λ (t : List (List ℕ)). t ++ last) (sym (take-append-drop (length given) texts) ∙ ap (λ (t : List (List ℕ)). t ++ rest) (sym h.given)) ∙ append_assoc given rest last in
      let front : IsFront a (good (given ++ (rest ++ last))) = stage_front z.core.safe.safety.phase given a z.core.upper.sent (rest ++ last) agreed p.stage in
      record {
        prefix = subst (λ (t : List (List ℕ)). IsPrefix a (good t)) (sym whole) (subst (λ (t : List (List ℕ)). IsPrefix a t) (sym front.1) (sym (take-append_seam a front.0)));
        all = λ none.
            let e = h.all none in
            sym (ap₂ (λ (t : List (List ℕ)) (l : Option (List ℕ)). good (t ++ option_to_list l)) (sym e.0) e.1
            ∙ stage_good z.core.safe.safety.phase given a z.core.upper.sent agreed (live none) p.stage);
      }
