-- Of what is not told a keeper promises nothing, whatever its answer.
use Rattle.std.specs.Prelude.{⊤, Result, Ok, Err, IfOk, OnOk, OnErr}

pub any-found : {A E : Type 0} (r : Result A E) → IfOk r (λ x. ⊤)
any-found (Ok x) = tt
any-found (Err e) = tt

pub any-done : {A E : Type 0} (r : Result A E) (P : Type 0) → P → OnOk r P
any-done (Ok x) P holds = holds
any-done (Err e) P holds = tt

pub any-kept : {A E : Type 0} (r : Result A E) (P : Type 0) → P → OnErr r P
any-kept (Ok x) P holds = tt
any-kept (Err e) P holds = holds
