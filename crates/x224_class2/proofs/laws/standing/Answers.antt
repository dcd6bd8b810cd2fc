-- The steps on what is kept are the model's.
use Rattle.x224_class2.proofs.Steps.{made_stands, connect_stands, accept_stands, hand_stands, taken_stands, reception_stands, next_stands, counts_stand, next_is_writable}
use Rattle.x224_class2.proofs.laws.standing.Goals as goal

pub returns : goal.returns
returns c = record {
  made = made_stands;
  connect = connect_stands;
  accept = accept_stands;
  hand = hand_stands;
  taken = taken_stands;
  receive = reception_stands c.reading.ensures.in_range;
  next = next_stands;
  counts = counts_stand;
  writable = next_is_writable;
}
