-- The schemas of a script: the first is the one that it is typed over, and what holds of all holds of the last.
use Rattle.std.proofs.Common.{◌≡◌, ℕ, zero, suc, ◌<◌, List, [], ◌∷◌, length, ap, sym, arith}
use Rattle.std.specs.Prelude.{Ok, Err, slice_index_or}
use Rattle.std.specs.List.{AllByRecursion}
use Rattle.type_schema.specs.Schema.{Schema}
use Rattle.type_schema.specs.Script.{Script, IsScript, count, schema_at}
use Rattle.type_commands.specs.Scripts.{Stepped, script_from, steps, typed_script, whole_script}
use Rattle.type_scripts.specs.Counted.{counted}
use Rattle.store_apply.specs.Laws.{ScriptsStart}

in-range : {A : Type 0} (P : A → Type 0) (xs : List A) (k : ℕ) (d : A) → AllByRecursion P xs → k < length xs → P (slice_index_or xs k d)
in-range P [] k d all within = absurd (omega arith)
in-range P (x ∷ xs) zero d all within = all.0
in-range P (x ∷ xs) (suc k) d all within = in-range P xs k d all.1 (omega arith)

pub of-last : (P : Schema → Type 0) (t : Script) → IsScript t → AllByRecursion P t.schemas → P (schema_at t (count t))
of-last P t is all = in-range P t.schemas (count t) t.start all (omega (arith, is.schemas))

pub scripts_start : ScriptsStart
unfolding typed_script script_from
scripts_start s script t e = at (steps counted 1 s script.commands) e
  where
    at : (o : Stepped) → whole_script s o ≡ Ok t → schema_at t 0 ≡ s
    at (Ok all) e = let made : script_from s all ≡ t = cc e in ap (λ (z : Script). schema_at z 0) (sym made)
    at (Err x) e = absurd (cc e)
