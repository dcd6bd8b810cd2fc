-- What was told is written, call by call.
use Rattle.std.proofs.Common.{◌≡◌, ℕ, ◌==◌, if◌then◌else◌, Bool, List, [], ◌∷◌, ◌++◌, refl, sym, ap, ◌∙◌, subst, append-nil, true, false, true≢false, fold}
use Rattle.std.proofs.lemmas.Bool.{eq-eqb}
use Rattle.std.proofs.lemmas.List.Concat.{flat_map-append}
use Rattle.std.proofs.lemmas.List.Sums.{fold-append}
use Rattle.link_trait.specs.declared.wires.WriteAnswer.{WriteAnswer}
use Rattle.outside.specs.Acts.{Act, Called, Sent}
use Rattle.outside.specs.Doings.{Told, Did}
use Rattle.outside.specs.Chains.{did_nothing, did_then}
use Rattle.relay_script.specs.declared.script.Script.{Script}
use Rattle.relay_loop.specs.declared.way.Way.{Way}
use Rattle.relay_loop.specs.WaySteps.{WayMoves}
use Rattle.relay_loop.specs.Octets.{octets_taken, given_by_act, given_in_acts}
use Rattle.relay_loop.specs.declared.sending.Flow.{Flow}
use Rattle.relay_loop.specs.declared.sending.Flow.TheVariants as flow
use Rattle.relay_loop.specs.Settled.{SocketTold, told_by_write, told_by_act}
use Rattle.relay_loop.specs.Sending.{AreSendsTo, Flows, Sends}
use Rattle.relay_loop.proofs.WayCalls.{moves_none, moves_then}

pub sends_none : (conn : ℕ) (way : Way) (t : Told) → Sends true flow.Going conn way way t t
sends_none conn way t = record {
  acts = [];
  did = did_nothing t;
  only = tt;
  moves = λ script. moves_none script way;
  is = refl;
  flows = λ told. (refl, (refl, λ f. absurd (true≢false f)));
}

-- all was written
pub sends_going : (closing : Bool) (conn : ℕ) (old new : Way) (before now : Told) → (closing ≡ false → new.lost ≡ false → new.printed.items ≡ [])
    → Sends true flow.Going conn old new before now → Sends closing flow.Going conn old new before now
sends_going closing conn old new before now none s = record {
  acts = s.acts;
  did = s.did;
  only = s.only;
  moves = s.moves;
  is = s.is;
  flows = λ told. let f = s.flows told in (f.0, (f.1.0, none));
}

sends_append : (conn : ℕ) (xs ys : List Act) → AreSendsTo conn xs → AreSendsTo conn ys → AreSendsTo conn (xs ++ ys)
sends_append conn [] ys p q = q
sends_append conn (x ∷ xs) ys p q = (p.0, sends_append conn xs ys p.1 q)

taken_is : (conn : ℕ) (taken : List ℕ) → (if conn == conn then taken else []) ++ [] ≡ taken
taken_is conn taken = let same : (conn == conn) ≡ true = eq-eqb conn conn refl in rw same (append-nil taken)

own_write : (conn : ℕ) (answer : WriteAnswer) (told : SocketTold) → (if conn == conn then told_by_write told answer else told) ≡ told_by_write told answer
own_write conn answer told = let same : (conn == conn) ≡ true = eq-eqb conn conn refl in rw same refl

pub sends_one : (closing : Bool) (how : Flow) (conn : ℕ) (old new : Way) (before now : Told) (piece : List ℕ) (answer : WriteAnswer)
    → Did before now (Called (Sent conn piece answer) ∷ []) → ((script : Script) → WayMoves script [] (octets_taken piece answer) old new)
    → new ≡ record old { printed = new.printed } → ((told : SocketTold) → Flows closing how new told (told_by_write told answer))
    → Sends closing how conn old new before now
sends_one closing how conn old new before now piece answer did moves is flows = record {
  acts = Called (Sent conn piece answer) ∷ [];
  did = did;
  only = (refl, tt);
  moves = λ script. subst (λ (o : List ℕ). WayMoves script [] o old new) (sym (taken_is conn (octets_taken piece answer))) (moves script);
  is = is;
  flows = λ told. subst (λ (t : SocketTold). Flows closing how new told t) (sym (own_write conn answer told)) (flows told);
}

flows_then : (closing : Bool) (how : Flow) (way : Way) (a b c : SocketTold) → b.failed ≡ a.failed → b.ended ≡ a.ended → Flows closing how way b c
    → Flows closing how way a c
flows_then closing flow.Going way a b c failed ended f = (f.0 ∙ failed, (f.1.0 ∙ ended, f.1.1))
flows_then closing flow.PutOff way a b c failed ended f = (f.0 ∙ failed, (f.1.0 ∙ ended, f.1.1))
flows_then closing flow.Failing way a b c failed ended f = f

only_printed : (a b c : Way) → b ≡ record a { printed = b.printed } → c ≡ record b { printed = c.printed } → c ≡ record a { printed = c.printed }
only_printed a b c first second = second ∙ ap (λ (w : Way). record w { printed = c.printed }) first

pub sends_then : (closing : Bool) (how : Flow) (conn : ℕ) (a b c : Way) (s t u : Told) → Sends true flow.Going conn a b s t → Sends closing how conn b c t u
    → Sends closing how conn a c s u
sends_then closing how conn a b c s t u p q = record {
  acts = p.acts ++ q.acts;
  did = did_then s t u p.acts q.acts p.did q.did;
  only = sends_append conn p.acts q.acts p.only q.only;
  moves = λ script.
      subst (λ (o : List ℕ). WayMoves script [] o a c) (sym (flat_map-append (given_by_act conn) p.acts q.acts))
      (moves_then script [] [] (given_in_acts conn p.acts) (given_in_acts conn q.acts) a b c (p.moves script) (q.moves script));
  is = only_printed a b c p.is q.is;
  flows = λ told.
      let mid = fold (told_by_act conn) told p.acts in
      let first = p.flows told in
      subst (λ (t : SocketTold). Flows closing how c told t) (sym (fold-append (told_by_act conn) told p.acts q.acts))
      (flows_then closing how c told mid (fold (told_by_act conn) mid q.acts) first.0 first.1.0 (q.flows mid));
}
