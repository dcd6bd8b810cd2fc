-- Representation: the rules of a verdict one by one; no claim rests on it.
use Rattle.std.specs.Prelude.{◌==◌, Bool, true}
use Rattle.sapdu.specs.Spelling.{SafetyPdu, Au1, Au2, Au3, Ar, Dt, Di}
use Rattle.tap_model.specs.Verdicts.{Known}

-- whether the safety feature is 1, where an SaPDU has one
abbrev pub has_feature : SafetyPdu → Bool
has_feature (Au1 id feature rb) = feature == 1
has_feature (Au2 id feature ra mac) = feature == 1
has_feature (Au3 mac) = true
has_feature (Ar mac) = true
has_feature (Dt user mac) = true
has_feature (Di reason sub) = true

-- whether an SaPDU that names its sender names the link's
abbrev pub has_identity : Known → SafetyPdu → Bool
has_identity known (Au1 id feature rb) = id == known.engine
has_identity known (Au2 id feature ra mac) = id == known.rbc
has_identity known (Au3 mac) = true
has_identity known (Ar mac) = true
has_identity known (Dt user mac) = true
has_identity known (Di reason sub) = true
