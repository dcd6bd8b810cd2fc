-- The words of verdicts (this profile).
use Rattle.std.specs.Prelude.{ℕ, List, codes}
use Rattle.tap_model.specs.declared.audit_verdict.AuditVerdict.{AuditVerdict}
use Rattle.tap_model.specs.declared.audit_verdict.AuditVerdict.TheVariants.{Good, Malformed, Flag, Unexpected, Feature, Identity, NoKey, Mac}

abbrev pub verdict_word : AuditVerdict → List ℕ
verdict_word Good = codes "good"
verdict_word Malformed = codes "malformed"
verdict_word Flag = codes "flag"
verdict_word Unexpected = codes "unexpected"
verdict_word Feature = codes "feature"
verdict_word Identity = codes "identity"
verdict_word NoKey = codes "nokey"
verdict_word Mac = codes "mac"
