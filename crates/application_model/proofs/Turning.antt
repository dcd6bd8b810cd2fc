-- What is done in turn, one part behind the other.
use Rattle.std.proofs.Common.{◌≡◌, List, [], ◌∷◌, ◌++◌, Option, Some, None, refl, sym, subst}
use Rattle.application_model.specs.Histories.{ServiceItem}
use Rattle.application_model.specs.Services.{Service, behind_item, behind_items}
use Rattle.application_model.specs.Turns.{Debt, IsOldest, IsDoneInTurn}

pub behind_append : (s : Service) (a b : List ServiceItem) → behind_items s (a ++ b) ≡ behind_items (behind_items s a) b
unfolding behind_items
behind_append s [] b = refl
behind_append s (item ∷ a) b = behind_append (behind_item s item) a b

module _ {D : Type 0} where
  oldest_map : (done : Option D) (owed : List D) (P Q : List D → Type 0) → ((left : List D) → P left → Q left) → IsOldest done owed P → IsOldest done owed Q
  oldest_map None owed P Q each p = each owed p
  oldest_map (Some d) owed P Q each (left, e, p) = (left, e, each left p)

  pub turn_append : (debt : Debt D) (s : Service) (owed : List D) (a b : List ServiceItem) (middle last : List D)
      → IsDoneInTurn debt s owed a middle → IsDoneInTurn debt (behind_items s a) middle b last → IsDoneInTurn debt s owed (a ++ b) last
  unfolding behind_items
  turn_append debt s owed [] b middle last p q = subst (λ (x : List D). IsDoneInTurn debt s x b last) (sym p) q
  turn_append debt s owed (item ∷ a) b middle last p q =
      oldest_map (debt.does item) (debt.grows s item owed) (λ left. IsDoneInTurn debt (behind_item s item) left a middle)
      (λ left. IsDoneInTurn debt (behind_item s item) left (a ++ b) last) (λ left r. turn_append debt (behind_item s item) left a b middle last r q) p

  -- and back
  pub record TurnCut (debt : Debt D) (s : Service) (owed : List D) (a b : List ServiceItem) (last : List D) : Type 0 where
    pub middle : List D
    pub first : IsDoneInTurn debt s owed a middle
    pub rest : IsDoneInTurn debt (behind_items s a) middle b last

  -- where the first item is done, and what is cut behind it
  cut_first : (debt : Debt D) (s : Service) (owed : List D) (item : ServiceItem) (a b : List ServiceItem) (last : List D) (done : Option D) (grown : List D)
      → debt.does item ≡ done → debt.grows s item owed ≡ grown
      → ((left : List D) → IsDoneInTurn debt (behind_item s item) left (a ++ b) last → TurnCut debt (behind_item s item) left a b last)
      → IsOldest done grown (λ left. IsDoneInTurn debt (behind_item s item) left (a ++ b) last) → TurnCut debt s owed (item ∷ a) b last
  unfolding behind_items
  cut_first debt s owed item a b last None grown d g each p =
      let cut = each grown p in
      record { middle = cut.middle; first = rw (d, g) cut.first; rest = cut.rest }
  cut_first debt s owed item a b last (Some done) grown d g each (left, e, p) =
      let cut = each left p in
      record { middle = cut.middle; first = rw (d, g) (left, e, cut.first); rest = cut.rest }

  pub turn_cut : (debt : Debt D) (s : Service) (owed : List D) (a b : List ServiceItem) (last : List D) → IsDoneInTurn debt s owed (a ++ b) last
      → TurnCut debt s owed a b last
  unfolding behind_items
  turn_cut debt s owed [] b last p = record { middle = owed; first = refl; rest = p }
  turn_cut debt s owed (item ∷ a) b last p =
      cut_first debt s owed item a b last (debt.does item) (debt.grows s item owed) refl refl
      (λ left q. turn_cut debt (behind_item s item) left a b last q) p
