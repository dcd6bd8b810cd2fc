-- What a transport gives is short, where its settings are the usual ones; and what it takes of octets is made of octets.
use Rattle.std.proofs.Common.{◌≡◌, inl, inr, ◌+◌, ◌-◌, ◌<◌, ◌≤◌, ◌∙◌, ℕ, zero, suc, Bool, true, false, List, [], ◌∷◌, ◌++◌}
use Rattle.std.proofs.Common.{length, drop, Option, Some, None, Ok, Err, refl, sym, ap, subst, arith}
use Rattle.std.specs.Prelude.{nat_lt, if◌then◌else◌}
use Rattle.std.proofs.lemmas.Bool.{cases_Bool}
use Rattle.t70_header.specs.Blocks.{last_block, more_of, content_of_block}
use Rattle.t70_header.specs.Joining as joining
use Rattle.x224_class2.specs.Segments.{Segment, segments_of, messages_behind, messages_in, text_behind, AllCarried}
use Rattle.x224_class2.specs.Tpdus.{GivenTpdu, Cr, Cc, Dr, Dc, octets_given}
use Rattle.x224_class2.specs.Transport.{Transport, TpduTurn, Rest, Opening, Acknowledgement, Data, is_over, after_hand, waiting_count, turn_among, turn_of, tpdu_at}
use Rattle.x224_class2.specs.Transport.{state_behind, with_given, next_tpdu, after_next}
use Rattle.er_end_model.specs.Layers.{octets_due}
use Rattle.loop_recordings.proofs.Lists.{Each, IfSome, each_append, each_drop, each_at}
use Rattle.loop_recordings.proofs.Octets.{Octets}
use Rattle.loop_recordings.proofs.Below.{Below}
use Rattle.loop_recordings.proofs.Lines.{IsBlock}

-- ---- blocks

-- the TPDU that blocks came to, if they did
abbrev pub IfWhole : joining.BlockJoiningResult → Type 0
IfWhole (Ok None) = Unit {0}
IfWhole (Ok (Some tpdu)) = Octets tpdu
IfWhole (Err fault) = Unit {0}

abbrev pub Joined : List ℕ × joining.BlockJoiningResult → Type 0
Joined a = Octets a.0 × IfWhole a.1

pub block_joined : (held block : List ℕ) → Octets held → Octets block → Joined (joining.block_step held block)
block_joined held block h b = by_more (more_of block) refl
  where
    all : Octets (held ++ content_of_block block)
    all = each_append _ held (content_of_block block) h (each_drop _ 2 block b)

    by_more : (more : Option Bool) → more_of block ≡ more → Joined (joining.block_step held block)
    by_more None e = rw e (tt, tt)
    by_more (Some more) e = rw e (elim (cases_Bool (nat_lt 1024 (length (held ++ content_of_block block)))) [
      | inl y ↦ rw y (tt, tt)
      | inr n ↦ rw n (elim (cases_Bool more) [
        | inl y ↦ rw y (all, tt)
        | inr k ↦ rw k (tt, all)
      ])
    ])

-- ---- segments

-- how many of them end a message
abbrev lasts : List Segment → ℕ
lasts [] = 0
lasts ((true, octets) ∷ segments) = suc (lasts segments)
lasts ((false, octets) ∷ segments) = lasts segments

count_messages : (begun : List ℕ) (segments : List Segment) → length (messages_behind begun segments) ≡ lasts segments
count_messages begun [] = refl
count_messages begun ((true, octets) ∷ segments) = ap suc (count_messages [] segments)
count_messages begun ((false, octets) ∷ segments) = count_messages (begun ++ octets) segments

lasts_drop : (n : ℕ) (segments : List Segment) → lasts (drop n segments) ≤ lasts segments
lasts_drop zero segments = omega arith
lasts_drop (suc n) [] = omega arith
lasts_drop (suc n) ((true, octets) ∷ segments) = omega (arith, lasts_drop n segments)
lasts_drop (suc n) ((false, octets) ∷ segments) = lasts_drop n segments

lasts_append : (xs ys : List Segment) → lasts (xs ++ ys) ≡ lasts xs + lasts ys
lasts_append [] ys = omega arith
lasts_append ((true, octets) ∷ xs) ys = omega (arith, lasts_append xs ys)
lasts_append ((false, octets) ∷ xs) ys = lasts_append xs ys

lasts_behind : (n : ℕ) (xs ys : List Segment) → lasts (drop n (xs ++ ys)) ≤ lasts (drop n xs) + lasts ys
lasts_behind zero xs ys = omega (arith, lasts_append xs ys)
lasts_behind (suc n) [] ys = omega (arith, lasts_drop (suc n) ys)
lasts_behind (suc n) (x ∷ xs) ys = lasts_behind n xs ys

lasts_next : (n : ℕ) (segments : List Segment) → lasts (drop (suc n) segments) ≤ lasts (drop n segments)
lasts_next zero segments = lasts_drop 1 segments
lasts_next (suc n) [] = omega arith
lasts_next (suc n) (segment ∷ segments) = lasts_next n segments

-- the user data of a DT of at most 128 octets
abbrev pub IsCut : Segment → Type 0
IsCut segment = length segment.1 ≤ 123

abbrev pub OfOctets : Segment → Type 0
OfOctets segment = Octets segment.1

carried_cut : (n : ℕ) (segments : List Segment) → n ≤ 123 → AllCarried n segments → Each IsCut segments
carried_cut n [] most h = tt
carried_cut n ((last, octets) ∷ segments) most h = (omega (arith, h.1), carried_cut n segments most h.2)

pub text_octets : (begun : List ℕ) (segments : List Segment) → Octets begun → Each OfOctets segments → Octets (text_behind begun segments)
text_octets begun [] b h = b
text_octets begun ((true, octets) ∷ segments) b h = text_octets [] segments tt h.1
text_octets begun ((false, octets) ∷ segments) b h = text_octets (begun ++ octets) segments (each_append _ begun octets b h.0) h.1

-- ---- a transport

abbrev IsUserData : List ℕ → Type 0
IsUserData user = length user ≤ 32

pub record Gives (size : ℕ) (segments : List Segment) (given : ℕ) (due : Option (List ℕ)) (contents : List Segment) : Type 0 where
  pub least : 6 ≤ size
  pub most : size ≤ 128
  pub user : IfSome IsUserData due
  pub cut : Each IsCut segments
  pub few : length (messages_in (drop given segments)) ≤ 16
  pub octets : Each OfOctets contents

abbrev pub GivesOf : Transport → Type 0
GivesOf t = Gives t.size t.segments t.given t.due t.contents

pub due_gives : (t : Transport) (user : List ℕ) → length user ≤ 32 → GivesOf t → Gives t.size t.segments t.given (Some user) t.contents
due_gives t user short h = record { least = h.least; most = h.most; user = short; cut = h.cut; few = h.few; octets = h.octets }

pub hand_gives : Below → (t : Transport) (message : List ℕ) → waiting_count t < 16 → 0 < length message → GivesOf t → GivesOf (after_hand t message)
hand_gives laws t message room some h =
    let new : List Segment = segments_of t.size message in
    let one : lasts new ≡ 1 = sym (count_messages [] new) ∙ ap length (laws.joined t.size message).0 in
    record {
      least = h.least;
      most = h.most;
      user = h.user;
      cut = each_append IsCut t.segments new h.cut (carried_cut (t.size - 5) new (omega (arith, h.most)) (laws.fit t.size message h.least some));
      few =
          omega (arith, room, one, lasts_behind t.given t.segments new, count_messages [] (drop t.given (t.segments ++ new)), count_messages [] (drop t.given t.segments));
      octets = h.octets;
    }

-- ---- what it gives

opening_short : (calls : Bool) (credit size : ℕ) (user : List ℕ) → length user ≤ 32 → length (octets_given (if calls then Cr credit size user else Cc credit size user)) ≤ 128
opening_short true credit size user short = omega arith
opening_short false credit size user short = omega arith

turn_short : (t : Transport) (turn : TpduTurn) → GivesOf t → ((user : List ℕ) → turn ≡ Opening user → length user ≤ 32) → length (octets_due (tpdu_at t turn)) ≤ 128
turn_short t Rest h due = omega arith
turn_short t (Opening user) h due = opening_short t.is_caller t.credit t.size user (due user refl)
turn_short t Acknowledgement h due = omega arith
turn_short t Data h due = let cut = each_at IsCut t.segments t.given (true, []) h.cut (omega arith) in omega (arith, cut)

is_due : (due : Option (List ℕ)) (owed granted : Bool) → IfSome IsUserData due → (user : List ℕ) → turn_among due owed granted ≡ Opening user → length user ≤ 32
is_due (Some other) owed granted h user e = let same : other ≡ user = cc in subst IsUserData same h
is_due None true granted h user e = absurd cc
is_due None false true h user e = absurd cc
is_due None false false h user e = absurd cc

turn_due : (t : Transport) → GivesOf t → (user : List ℕ) → turn_of t ≡ Opening user → length user ≤ 32
turn_due t h user = elim (cases_Bool (is_over t.stage)) [
  | inl y ↦ rw y (λ e. absurd cc)
  | inr n ↦ rw n (is_due t.due _ _ h.user user)
]

pub next_block : (t : Transport) → GivesOf t → IsBlock (last_block (octets_due (next_tpdu t)))
next_block t h = omega (arith, turn_short t (turn_of t) h (turn_due t h))

pub leave_block : (reason : ℕ) (user : List ℕ) → length user ≤ 32 → IsBlock (last_block (octets_given (Dr reason user)))
leave_block reason user short = omega arith

pub confirm_block : IsBlock (last_block (octets_given Dc))
confirm_block = omega arith

-- behind what was given
fewer : (t : Transport) → GivesOf t → length (messages_in (drop (t.given + 1) t.segments)) ≤ 16
fewer t h =
    let same : t.given + 1 ≡ suc t.given = omega arith in
    rw same (omega (arith, h.few, lasts_next t.given t.segments, count_messages [] (drop (suc t.given) t.segments), count_messages [] (drop t.given t.segments)))

turn_gives : (t : Transport) (turn : TpduTurn) (tpdu : Option GivenTpdu) → GivesOf t → GivesOf (with_given (state_behind t turn) tpdu)
turn_gives t Rest None h = h
turn_gives t Rest (Some tpdu) h = h
turn_gives t (Opening user) None h = record { least = h.least; most = h.most; user = tt; cut = h.cut; few = h.few; octets = h.octets }
turn_gives t (Opening user) (Some tpdu) h = record { least = h.least; most = h.most; user = tt; cut = h.cut; few = h.few; octets = h.octets }
turn_gives t Acknowledgement None h = record { least = h.least; most = h.most; user = h.user; cut = h.cut; few = h.few; octets = h.octets }
turn_gives t Acknowledgement (Some tpdu) h = record { least = h.least; most = h.most; user = h.user; cut = h.cut; few = h.few; octets = h.octets }
turn_gives t Data None h = record { least = h.least; most = h.most; user = h.user; cut = h.cut; few = fewer t h; octets = h.octets }
turn_gives t Data (Some tpdu) h = record { least = h.least; most = h.most; user = h.user; cut = h.cut; few = fewer t h; octets = h.octets }

pub next_gives : (t : Transport) → GivesOf t → GivesOf (after_next t)
next_gives t h = turn_gives t (turn_of t) (next_tpdu t) h
