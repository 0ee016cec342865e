-- The formulas of an accepted script are within the limits.
use Rattle.std.proofs.Common.{◌≡◌, ℕ, subst}
use Rattle.type_schema.specs.Script.{Script}
use Rattle.form_formula.specs.declared.structure.Signature.{Signature}
use Rattle.check_scripts.specs.Outcomes.{IsOutcome, accepted}
use Rattle.check_scripts.proofs.Agree.{one-signature}
use Rattle.certify_proving.specs.Limits.{AreWithinLimits, IsWithinLimits}

pub accepted_within : (t : Script) (n : ℕ) → IsOutcome t (accepted n) → AreWithinLimits t
accepted_within t n h g of duty listed =
    let same : h.signature ≡ g = one-signature t.start h.signature g h.signature_of of in
    let safe = h.over.1 duty listed in
    subst (λ (k : Signature). IsWithinLimits t k duty) same (record { within = safe.within; shallow_within = safe.shallow_within })
