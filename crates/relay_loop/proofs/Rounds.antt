-- A visit round by round: what is due is given, and each side fails once at the most.
use Rattle.std.proofs.Common.{◌≡◌, ◌⊎◌, ℕ, Bool, true, false, List, [], ◌++◌, refl, sym, ap, ◌∙◌, subst, append_assoc, inl, inr, true≢false, Some, None, Result, Ok, Err, OnOk}
use Rattle.er_base.specs.declared.side.Side.{Side}
use Rattle.er_base.specs.declared.side.Side.TheVariants.{E, R}
use Rattle.outside.specs.Doings.{Told}
use Rattle.relay_script.specs.declared.script.Script.{Script}
use Rattle.relay_loop.specs.declared.sending.Flow.{Flow}
use Rattle.relay_loop.specs.declared.sending.Flow.TheVariants as flow
use Rattle.relay_loop.specs.declared.way.Way.{Way}
use Rattle.relay_loop.specs.declared.link.Link.{Link}
use Rattle.relay_loop.specs.Settled.{SocketTold}
use Rattle.relay_loop.specs.WaySteps.{WayMoves}
use Rattle.relay_loop.specs.Sending.{Flows}
use Rattle.relay_loop.specs.Reading.{AreNews, PutsNews}
use Rattle.relay_loop.specs.RelayDeeds.{RelayDeed, deeds_of_lines, Steadily, socket_behind, socket_in}
use Rattle.relay_loop.specs.Giving.{failed_of}
use Rattle.relay_loop.specs.Links.{IsSafe, AreTold, HoldsLink, IsOut, KnowsEnds, RestsWay, Visits, VisitsOn, Settles, LosesWay, FailsWay, FailsLink, LosesOne, FailsRound, StayLost, EndsRound}
use Rattle.relay_loop.proofs.Deeds.{performs_then, performs_lines, closes_lines_nothing, steadily_then, steadily_last}
use Rattle.relay_loop.proofs.LinkSafety.{IsPlain, no_reads_e, no_reads_r}
use Rattle.relay_loop.proofs.WayGoes.{moves_go}
use Rattle.relay_loop.proofs.Tellings.{tells_append, failed_on, ended_on, unfailed_before, out_on}
use Rattle.relay_loop.proofs.LinkCalls.{of_visit_append, along_steady, on_then, link_goes}
use Rattle.relay_loop.proofs.LinkReads.{news_of, news_plain, plain_steady}
use Rattle.relay_loop.proofs.LinkGives.{GivesFirst, fails_told}

-- ---- how two writings went

abbrev IsCalm : Flow → Type 0
IsCalm flow.Going = Unit {0}
IsCalm flow.PutOff = Unit {0}
IsCalm flow.Failing = ⊥

none_calm : (how_r how_e : Flow) → None ≡ failed_of how_r how_e → IsCalm how_r × IsCalm how_e
none_calm flow.Going flow.Going is = (tt, tt)
none_calm flow.Going flow.PutOff is = (tt, tt)
none_calm flow.Going flow.Failing is = absurd cc is
none_calm flow.PutOff flow.Going is = (tt, tt)
none_calm flow.PutOff flow.PutOff is = (tt, tt)
none_calm flow.PutOff flow.Failing is = absurd cc is
none_calm flow.Failing flow.Going is = absurd cc is
none_calm flow.Failing flow.PutOff is = absurd cc is
none_calm flow.Failing flow.Failing is = absurd cc is

failed_e : (how_r how_e : Flow) → Some E ≡ failed_of how_r how_e → how_e ≡ flow.Failing
failed_e flow.Going flow.Going is = absurd cc is
failed_e flow.Going flow.PutOff is = absurd cc is
failed_e flow.Going flow.Failing is = refl
failed_e flow.PutOff flow.Going is = absurd cc is
failed_e flow.PutOff flow.PutOff is = absurd cc is
failed_e flow.PutOff flow.Failing is = refl
failed_e flow.Failing flow.Going is = absurd cc is
failed_e flow.Failing flow.PutOff is = absurd cc is
failed_e flow.Failing flow.Failing is = refl

failed_r : (how_r how_e : Flow) → Some R ≡ failed_of how_r how_e → how_r ≡ flow.Failing
failed_r flow.Going flow.Going is = absurd cc is
failed_r flow.Going flow.PutOff is = absurd cc is
failed_r flow.Going flow.Failing is = absurd cc is
failed_r flow.PutOff flow.Going is = absurd cc is
failed_r flow.PutOff flow.PutOff is = absurd cc is
failed_r flow.PutOff flow.Failing is = absurd cc is
failed_r flow.Failing flow.Going is = refl
failed_r flow.Failing flow.PutOff is = refl
failed_r flow.Failing flow.Failing is = refl

calm_ended : (closing : Bool) (how : Flow) (way : Way) (a b : SocketTold) → IsCalm how → Flows closing how way a b → b.ended ≡ a.ended
calm_ended closing flow.Going way a b calm f = f.1.0
calm_ended closing flow.PutOff way a b calm f = f.1.0
calm_ended closing flow.Failing way a b calm f = absurd calm

calm_printed : (closing : Bool) (how : Flow) (way : Way) (a b : SocketTold) → IsCalm how → Flows closing how way a b → way.lost ≡ false → closing ≡ false
    → (way.printed.items ≡ []) ⊎ (b.full ≡ true)
calm_printed closing flow.Going way a b calm f alive none = inl (f.1.1 none alive)
calm_printed closing flow.PutOff way a b calm f alive none = inr f.1.1
calm_printed closing flow.Failing way a b calm f alive none = absurd calm

-- ---- no write failed

told_as : (conn : ℕ) (done xs : List RelayDeed) → socket_in conn (done ++ xs) ≡ socket_behind conn (socket_in conn done) xs
told_as conn done xs = tells_append conn done xs

pub settles_round : (script : Script) (old new : Link) (waiting left : List ℕ) (before now : Told) → GivesFirst script None old new waiting left before now
    → StayLost old new × Settles script old new waiting left before now
settles_round script old new waiting left before now g =
    let f = g.first in
    let v = f.visits in
    let calm = none_calm g.how_r g.how_e g.side in
    let at_r : (done : List RelayDeed) → HoldsLink script done old → Flows new.from_r.closing g.how_r new.from_e (socket_in old.r.0 done) (socket_in old.r.0 (done ++ v.deeds)) =
    λ done l.
    subst (λ (t : SocketTold). Flows new.from_r.closing g.how_r new.from_e (socket_in old.r.0 done) t) (sym (told_as old.r.0 done v.deeds))
    (f.told_r l.parted (socket_in old.r.0 done)) in
    let at_e : (done : List RelayDeed) → HoldsLink script done old → Flows new.from_e.closing g.how_e new.from_r (socket_in old.e.0 done) (socket_in old.e.0 (done ++ v.deeds)) =
    λ done l.
    subst (λ (t : SocketTold). Flows new.from_e.closing g.how_e new.from_r (socket_in old.e.0 done) t) (sym (told_as old.e.0 done v.deeds))
    (f.told_e l.parted (socket_in old.e.0 done)) in (
      record { e = λ l. f.stays_e.lost ∙ l; r = λ l. f.stays_r.lost ∙ l },
      record {
        visit = record {
          visits = v;
          knows = λ done l k. record {
            e = rw (v.e, v.r)
                (λ ended open_r.
                out_on old.from_e new.from_e old.from_r new.from_r (λ was. f.stays_e.ended ∙ was) f.stays_e.closing f.stays_r.closing
                (k.e (sym (calm_ended _ g.how_e new.from_r _ _ calm.1 (at_e done l)) ∙ ended) (unfailed_before old.r.0 done v.deeds open_r)));
            r = rw (v.e, v.r)
                (λ ended open_e.
                out_on old.from_r new.from_r old.from_e new.from_e (λ was. f.stays_r.ended ∙ was) f.stays_r.closing f.stays_e.closing
                (k.r (sym (calm_ended _ g.how_r new.from_e _ _ calm.0 (at_r done l)) ∙ ended) (unfailed_before old.e.0 done v.deeds open_e)));
          };
        };
        rests = λ done l. record {
          e = rw v.r (record { waits = λ alive none. f.due_e none alive; printed = λ alive none. calm_printed _ g.how_r new.from_e _ _ calm.0 (at_r done l) alive none });
          r = rw v.e (record { waits = λ alive none. f.due_r none alive; printed = λ alive none. calm_printed _ g.how_e new.from_r _ _ calm.1 (at_e done l) alive none });
        };
      },
    )

-- ---- a write failed: what waits for its side goes, and that side ends

abbrev NewsOf : (number : ℕ) → (y z : List ℕ) → PutsNews number y z → List RelayDeed
NewsOf number y z p = deeds_of_lines p.news

fails_visit : (script : Script) (number : ℕ) (old mid new : Link) (x y z : List ℕ) (s t : Told) (v : Visits script old mid x y s t) (p : PutsNews number y z)
    → number ≡ old.number → new ≡ record mid { from_e = new.from_e; from_r = new.from_r } → WayMoves script [] [] mid.from_e new.from_e
    → WayMoves script [] [] mid.from_r new.from_r
    → ((done : List RelayDeed) → HoldsLink script done old → AreTold (done ++ v.deeds ++ NewsOf number y z p) new)
    → ((done : List RelayDeed) → HoldsLink script done old → KnowsEnds (done ++ v.deeds ++ NewsOf number y z p) new) → VisitsOn script old new x z s t
fails_visit script number old mid new x y z s t v p own is moves_e moves_r flags knows =
    let xs : List RelayDeed = NewsOf number y z p in
    let same_n : new.number ≡ mid.number = ap (λ (l : Link). l.number) is in
    let same_e : new.e ≡ mid.e = ap (λ (l : Link). l.e) is in
    let same_r : new.r ≡ mid.r = ap (λ (l : Link). l.r) is in
    let are : AreNews mid.number p.news = subst (λ (n : ℕ). AreNews n p.news) (own ∙ sym v.number) p.are in
    let plain : IsPlain mid.number mid.e.0 mid.r.0 xs = news_plain mid.number mid.e.0 mid.r.0 p.news are in
    let steady : (done : List RelayDeed) → HoldsLink script done old → Steadily (IsSafe script mid.number mid.e.0 mid.r.0) (done ++ v.deeds) xs =
    λ done l.
    plain_steady script mid xs plain (closes_lines_nothing mid.e.0 p.news) (closes_lines_nothing mid.r.0 p.news) (done ++ v.deeds) (v.holds done l) in
    record {
      visits = record {
        deeds = v.deeds ++ xs;
        performs = performs_then x y z s t t v.deeds xs v.performs (performs_lines y z p.news t p.is);
        only = of_visit_append old.number old.e.0 old.r.0 v.deeds xs v.only (news_of old.number old.e.0 old.r.0 number p.news own p.are);
        number = same_n ∙ v.number;
        e = same_e ∙ v.e;
        r = same_r ∙ v.r;
        holds = λ done l.
            subst (λ (d : List RelayDeed). HoldsLink script d new) (append_assoc done v.deeds xs)
            (link_goes script (done ++ v.deeds) xs mid new [] [] [] [] [] [] same_n same_e same_r (no_reads_e mid.e.0 mid.r.0 xs plain.unread) plain.told_e plain.given_r
            (no_reads_r mid.e.0 mid.r.0 xs plain.unread) plain.told_r plain.given_e (moves_go script [] [] mid.from_e new.from_e moves_e)
            (moves_go script [] [] mid.from_r new.from_r moves_r) (steadily_last (IsSafe script mid.number mid.e.0 mid.r.0) (done ++ v.deeds) xs (steady done l))
            (flags done l) (v.holds done l));
        steady = λ done l.
            steadily_then (IsSafe script old.number old.e.0 old.r.0) done v.deeds xs (v.steady done l)
            (along_steady script old mid (done ++ v.deeds) xs v.number v.e v.r (steady done l));
      };
      knows = λ done l k. subst (λ (d : List RelayDeed). KnowsEnds d new) (append_assoc done v.deeds xs) (knows done l);
    }

-- what stays lost, and what is kept as it was told
fails_e : (script : Script) (number : ℕ) (old mid new : Link) (x y z : List ℕ) (s t : Told) (g : GivesFirst script (Some E) old mid x y s t) → number ≡ old.number
    → FailsLink E number mid new y z → StayLost old new × FailsRound script old new x z s t
fails_e script number old mid new x y z s t g own f =
    let v = g.first.visits in
    let xs : List RelayDeed = NewsOf number y z f.puts in
    let loses = f.fails.0 in
    let fails = f.fails.1.0 in
    let e_is : new.e ≡ old.e = ap (λ (l : Link). l.e) f.is ∙ v.e in
    let r_is : new.r ≡ old.r = ap (λ (l : Link). l.r) f.is ∙ v.r in
    let told : (done : List RelayDeed) → HoldsLink script done old
    → ((socket_in old.e.0 (done ++ v.deeds)).failed ≡ true) × (((socket_in old.e.0 (done ++ v.deeds)).ended ≡ true) × (mid.from_r.lost ≡ false)) =
    λ done l.
    subst (λ (w : SocketTold). (w.failed ≡ true) × ((w.ended ≡ true) × (mid.from_r.lost ≡ false))) (sym (told_as old.e.0 done v.deeds))
    (fails_told mid.from_e.closing g.how_e mid.from_r _ _ (failed_e g.how_r g.how_e g.side) (g.first.told_e l.parted (socket_in old.e.0 done))) in
    let failed : (done : List RelayDeed) → HoldsLink script done old → (socket_in new.e.0 (done ++ v.deeds ++ xs)).failed ≡ true =
    λ done l. rw e_is (failed_on old.e.0 (done ++ v.deeds) xs (told done l).0) in
    let flags : (done : List RelayDeed) → HoldsLink script done old → AreTold (done ++ v.deeds ++ xs) new =
    λ done l.
    let m = (v.holds done l).flags in
    record {
      lost_e = λ lost. rw (ap (λ (l : Link). l.r) f.is) (failed_on mid.r.0 (done ++ v.deeds) xs (m.lost_e (sym fails.lost ∙ lost)));
      lost_r = λ lost. failed done l;
      ended_e = λ ended. rw e_is (ended_on old.e.0 (done ++ v.deeds) xs (told done l).1.0);
      ended_r = λ ended. rw (ap (λ (l : Link). l.r) f.is) (ended_on mid.r.0 (done ++ v.deeds) xs (m.ended_r (sym loses.ended ∙ ended)));
    } in (
      record { e = λ lost. fails.lost ∙ (g.first.stays_e.lost ∙ lost); r = λ lost. loses.lost },
      record {
        visit = fails_visit script number old mid new x y z s t v f.puts own f.is (fails.moves script) (loses.moves script) flags
            (λ done l. record { e = λ ended open_r. f.fails.1.1; r = λ ended open_e. absurd (true≢false (sym (failed done l) ∙ open_e)) });
        loses = inr (sym g.first.stays_r.lost ∙ g.first.alive_r (failed_e g.how_r g.how_e g.side), loses.lost);
      },
    )

fails_r : (script : Script) (number : ℕ) (old mid new : Link) (x y z : List ℕ) (s t : Told) (g : GivesFirst script (Some R) old mid x y s t) → number ≡ old.number
    → FailsLink R number mid new y z → StayLost old new × FailsRound script old new x z s t
fails_r script number old mid new x y z s t g own f =
    let v = g.first.visits in
    let xs : List RelayDeed = NewsOf number y z f.puts in
    let loses = f.fails.0 in
    let fails = f.fails.1.0 in
    let r_is : new.r ≡ old.r = ap (λ (l : Link). l.r) f.is ∙ v.r in
    let told : (done : List RelayDeed) → HoldsLink script done old
    → ((socket_in old.r.0 (done ++ v.deeds)).failed ≡ true) × (((socket_in old.r.0 (done ++ v.deeds)).ended ≡ true) × (mid.from_e.lost ≡ false)) =
    λ done l.
    subst (λ (w : SocketTold). (w.failed ≡ true) × ((w.ended ≡ true) × (mid.from_e.lost ≡ false))) (sym (told_as old.r.0 done v.deeds))
    (fails_told mid.from_r.closing g.how_r mid.from_e _ _ (failed_r g.how_r g.how_e g.side) (g.first.told_r l.parted (socket_in old.r.0 done))) in
    let failed : (done : List RelayDeed) → HoldsLink script done old → (socket_in new.r.0 (done ++ v.deeds ++ xs)).failed ≡ true =
    λ done l. rw r_is (failed_on old.r.0 (done ++ v.deeds) xs (told done l).0) in
    let flags : (done : List RelayDeed) → HoldsLink script done old → AreTold (done ++ v.deeds ++ xs) new =
    λ done l.
    let m = (v.holds done l).flags in
    record {
      lost_e = λ lost. failed done l;
      lost_r = λ lost. rw (ap (λ (l : Link). l.e) f.is) (failed_on mid.e.0 (done ++ v.deeds) xs (m.lost_r (sym fails.lost ∙ lost)));
      ended_e = λ ended. rw (ap (λ (l : Link). l.e) f.is) (ended_on mid.e.0 (done ++ v.deeds) xs (m.ended_e (sym loses.ended ∙ ended)));
      ended_r = λ ended. rw r_is (ended_on old.r.0 (done ++ v.deeds) xs (told done l).1.0);
    } in (
      record { e = λ lost. loses.lost; r = λ lost. fails.lost ∙ (g.first.stays_r.lost ∙ lost) },
      record {
        visit = fails_visit script number old mid new x y z s t v f.puts own f.is (loses.moves script) (fails.moves script) flags
            (λ done l. record { e = λ ended open_r. absurd (true≢false (sym (failed done l) ∙ open_r)); r = λ ended open_e. f.fails.1.1 });
        loses = inl (sym g.first.stays_e.lost ∙ g.first.alive_e (failed_r g.how_r g.how_e g.side), loses.lost);
      },
    )

pub fails_round : (script : Script) (side : Side) (number : ℕ) (old mid new : Link) (x y z : List ℕ) (s t : Told) → GivesFirst script (Some side) old mid x y s t
    → number ≡ old.number → FailsLink side number mid new y z → StayLost old new × FailsRound script old new x z s t
fails_round script E number old mid new x y z s t g own f = fails_e script number old mid new x y z s t g own f
fails_round script R number old mid new x y z s t g own f = fails_r script number old mid new x y z s t g own f

-- ---- by the side

closing_out : (failed failed2 other other2 : Way) → (failed.closing ≡ true → failed2.closing ≡ true) → (other.closing ≡ true → other2.closing ≡ true)
    → (failed.closing ≡ true) ⊎ (other.closing ≡ true) → IsOut failed2 other2
closing_out failed failed2 other other2 own back (inl c) = inr (inl (own c))
closing_out failed failed2 other other2 own back (inr c) = inr (inr (back c))

out_by : (closing : Bool) (failed failed2 other other2 : Way) → (closing ≡ true → (failed.closing ≡ true) ⊎ (other.closing ≡ true))
    → (failed.closing ≡ true → failed2.closing ≡ true) → (other.closing ≡ true → other2.closing ≡ true) → (closing ≡ false → failed2.ended ≡ true)
    → IsOut failed2 other2
out_by true failed failed2 other other2 closes own back over = closing_out failed failed2 other other2 own back (closes refl)
out_by false failed failed2 other other2 closes own back over = inl (over refl)

other_first : (a b : Bool) → (a ≡ true) ⊎ (b ≡ true) → (b ≡ true) ⊎ (a ≡ true)
other_first a b (inl h) = inr h
other_first a b (inr h) = inl h

pub fails_link_e : {T N : Type 0} (result : Result T N) (side : Side) (closing : Bool) (number : ℕ) (old : Link) (one other : Way) (waiting left : List ℕ) → side ≡ E
    → (closing ≡ true → (old.from_e.closing ≡ true) ⊎ (old.from_r.closing ≡ true)) → OnOk result (LosesWay old.from_r other)
    → OnOk result (FailsWay old.from_e one) → OnOk result (closing ≡ false → one.ended ≡ true) → OnOk result (PutsNews number waiting left)
    → OnOk result (FailsLink side number old (record old { from_e = one; from_r = other }) waiting left)
fails_link_e (Ok value) side closing number old one other waiting left is closes loses fails over puts =
    subst (λ (s : Side). FailsLink s number old (record old { from_e = one; from_r = other }) waiting left) (sym is)
    (record {
      fails = (loses, (fails, out_by closing old.from_e one old.from_r other closes fails.closing loses.closing over));
      puts = puts;
      is = refl;
    })
fails_link_e (Err fault) side closing number old one other waiting left is closes loses fails over puts = tt

pub fails_link_r : {T N : Type 0} (result : Result T N) (side : Side) (closing : Bool) (number : ℕ) (old : Link) (one other : Way) (waiting left : List ℕ) → side ≡ R
    → (closing ≡ true → (old.from_e.closing ≡ true) ⊎ (old.from_r.closing ≡ true)) → OnOk result (LosesWay old.from_e one)
    → OnOk result (FailsWay old.from_r other) → OnOk result (closing ≡ false → other.ended ≡ true) → OnOk result (PutsNews number waiting left)
    → OnOk result (FailsLink side number old (record old { from_e = one; from_r = other }) waiting left)
fails_link_r (Ok value) side closing number old one other waiting left is closes loses fails over puts =
    subst (λ (s : Side). FailsLink s number old (record old { from_e = one; from_r = other }) waiting left) (sym is)
    (record {
      fails = (
        loses,
        (
          fails,
          out_by closing old.from_r other old.from_e one (λ c. other_first old.from_e.closing old.from_r.closing (closes c)) fails.closing loses.closing over,
        ),
      );
      puts = puts;
      is = refl;
    })
fails_link_r (Err fault) side closing number old one other waiting left is closes loses fails over puts = tt

-- ---- all rounds

pub round_done : (b : Bool) (script : Script) (old new : Link) (waiting left : List ℕ) (before now : Told) → b ≡ false
    → EndsRound (Ok b) script old new waiting left before now → Settles script old new waiting left before now
round_done b script old new waiting left before now is h =
    (subst (λ (c : Bool). EndsRound (Ok c) script old new waiting left before now) is h).1

pub round_fails : (b : Bool) (script : Script) (old new : Link) (waiting left : List ℕ) (before now : Told) → b ≡ true
    → EndsRound (Ok b) script old new waiting left before now → StayLost old new × FailsRound script old new waiting left before now
round_fails b script old new waiting left before now is h = subst (λ (c : Bool). EndsRound (Ok c) script old new waiting left before now) is h

pub round_visit : (b : Bool) (script : Script) (old new : Link) (waiting left : List ℕ) (before now : Told)
    → EndsRound (Ok b) script old new waiting left before now → StayLost old new × VisitsOn script old new waiting left before now
round_visit true script old new waiting left before now h = (h.0, h.1.visit)
round_visit false script old new waiting left before now h = (h.0, h.1.visit)

both_lost : (a b c : Link) → LosesOne a b → StayLost b c → LosesOne b c → (c.from_e.lost ≡ true) × (c.from_r.lost ≡ true)
both_lost a b c (inl one) stay (inl two) = absurd (true≢false (sym one.1 ∙ two.0))
both_lost a b c (inl one) stay (inr two) = (stay.e one.1, two.1)
both_lost a b c (inr one) stay (inl two) = (two.1, stay.r one.1)
both_lost a b c (inr one) stay (inr two) = absurd (true≢false (sym one.1 ∙ two.0))

lost_rests : (to : SocketTold) (way other : Way) → way.lost ≡ true → RestsWay to way other
lost_rests to way other lost = record {
  waits = λ alive _. absurd (true≢false (sym lost ∙ alive));
  printed = λ alive _. absurd (true≢false (sym lost ∙ alive));
}

-- both sides failed, and nothing is given any more
pub rounds_all : (script : Script) (a b c d : Link) (u v w x : List ℕ) (r s t y : Told) → StayLost a b × FailsRound script a b u v r s
    → StayLost b c × FailsRound script b c v w s t → StayLost c d × VisitsOn script c d w x t y → Settles script a d u x r y
rounds_all script a b c d u v w x r s t y one two three =
    let lost = both_lost a b c one.1.loses two.0 two.1.loses in
    record {
      visit = on_then script a b d u v x r s y one.1.visit (on_then script b c d v w x s t y two.1.visit three.1);
      rests = λ done l. record {
        e = lost_rests _ d.from_e d.from_r (three.0.e lost.0);
        r = lost_rests _ d.from_r d.from_e (three.0.r lost.1);
      };
    }
