-- What is typed is not refused, so that only memory can be wanting.
use Rattle.std.proofs.Common.{◌≡◌, refl, sym, ◌∙◌}
use Rattle.std.specs.Prelude.{◌≢◌, Ok, Err}
use Rattle.type_schema.specs.Schema.{Schema}
use Rattle.type_typing.specs.declared.type_err.TypeErr.{TypeErr}
use Rattle.type_typing.specs.declared.type_err.TypeErr.TheVariants.{Unknown, Twice, WrongType, NotPrincipal, StillUsed, EmptyReason, Expanded, Crowded, OutOfMemory}
use Rattle.type_typing.specs.Outcome.{Checked}

only-memory : (e : TypeErr) → (e ≢ OutOfMemory → ⊥) → e ≡ OutOfMemory
only-memory (Unknown at) never = absurd (never (λ is. cc is))
only-memory (Twice at) never = absurd (never (λ is. cc is))
only-memory (WrongType at) never = absurd (never (λ is. cc is))
only-memory (NotPrincipal at) never = absurd (never (λ is. cc is))
only-memory (StillUsed at by) never = absurd (never (λ is. cc is))
only-memory (EmptyReason at) never = absurd (never (λ is. cc is))
only-memory (Expanded at count) never = absurd (never (λ is. cc is))
only-memory (Crowded at) never = absurd (never (λ is. cc is))
only-memory OutOfMemory never = refl

pub memory-alone : (o : Checked Schema) (e : TypeErr) (s : Schema) → (e ≢ OutOfMemory → o ≡ Err e) → o ≡ Ok s → e ≡ OutOfMemory
memory-alone o e s refused is = only-memory e (λ other. let both : ◌≡◌ {A = Checked Schema} (Ok s) (Err e) = sym is ∙ refused other in cc)
