-- Messages that wait: one more, one less.
use Rattle.std.proofs.Common.{◌≡◌, ℕ, ◌+◌, ◌<◌, List, [], ◌∷◌, ◌++◌, length, drop, refl, arith, length-append}
use Rattle.x224_class2.specs.Waiting.{left_of, AreNonempty, IsFirstMessageBegun, AreWaitingMessages}

pub length_left : (n : ℕ) (ms : List (List ℕ)) → length (left_of n ms) ≡ length ms
length_left n [] = refl
length_left n (m ∷ ms) = refl

nonempty_push : (ms : List (List ℕ)) (m : List ℕ) → AreNonempty ms → 0 < length m → AreNonempty (ms ++ m ∷ [])
nonempty_push [] m h some = (some, tt)
nonempty_push (x ∷ ms) m h some = (h.0, nonempty_push ms m h.1 some)

begun_push : (n : ℕ) (ms : List (List ℕ)) (m : List ℕ) → IsFirstMessageBegun n ms → 0 < length m → IsFirstMessageBegun n (ms ++ m ∷ [])
begun_push n [] m h some = omega (arith, h, some)
begun_push n (x ∷ ms) m h some = h

left_push : (n : ℕ) (ms : List (List ℕ)) (m : List ℕ) → IsFirstMessageBegun n ms → left_of n (ms ++ m ∷ []) ≡ left_of n ms ++ m ∷ []
left_push n [] m h = rw h refl
left_push n (x ∷ ms) m h = refl

pub waiting_push : (n : ℕ) (ms : List (List ℕ)) (m : List ℕ) → AreWaitingMessages n ms → length (left_of n ms) < 16 → 0 < length m → AreWaitingMessages n (ms ++ m ∷ [])
waiting_push n ms m w room some = record {
  count = omega (arith, length_left n ms, room, length-append ms (m ∷ []));
  nonempty = nonempty_push ms m w.nonempty some;
  begun = begun_push n ms m w.begun some;
}

pub view_push : (n : ℕ) (ms : List (List ℕ)) (m : List ℕ) → AreWaitingMessages n ms → left_of n (ms ++ m ∷ []) ≡ left_of n ms ++ m ∷ []
view_push n ms m w = left_push n ms m w.begun

behind_first : (ms : List (List ℕ)) → AreNonempty ms → IsFirstMessageBegun 0 ms
behind_first [] h = refl
behind_first (m ∷ ms) h = h.0

pub waiting_pop : (n : ℕ) (ms : List (List ℕ)) → AreWaitingMessages n ms → AreWaitingMessages 0 (drop 1 ms)
waiting_pop n [] w = record { count = w.count; nonempty = tt; begun = refl }
waiting_pop n (m ∷ ms) w = record { count = omega (arith, w.count); nonempty = w.nonempty.1; begun = behind_first ms w.nonempty.1 }
