-- The words of this crate's public contracts.
pub use Rattle.certify_scripts.specs.Certificates.{AreProblemsOf, parts_from, front_of, start, IsCertificate}
pub use Rattle.certify_scripts.specs.Rechecked.{IsBadPart, IsBadEnd, IsBehindEnd, IsReached, IsRecheckedOver, IsRechecked}
pub use Rattle.certify_scripts.specs.Sound.{IsShown, CertifiedAreSecure, Shows}
