-- Kinds one by one.
use Rattle.std.proofs.Common.{◌≡◌, ℕ, suc, zero, ◌+◌, Bool, true, false, not, ◌&&◌, refl, ap, sym, ◌∙◌, List, [], ◌∷◌, ◌++◌, map, take, cond, arith, length, ◌≤◌}
use Rattle.std.specs.Prelude.{filter}
use Rattle.std.specs.List.{range_with_len}
use Rattle.std.proofs.lemmas.List.Elements.{filter-append}
use Rattle.std.proofs.lemmas.List.{map-append, take-map}
use Rattle.type_schema.specs.declared.rights.Kind.{Kind}
use Rattle.type_schema.specs.declared.rights.Kind.TheVariants as kind
use Rattle.type_schema.specs.declared.commands.TCommand.{TCommand}
use Rattle.type_schema.specs.declared.commands.TScript.{TScript}
use Rattle.type_schema.specs.SchemaViews.{command_of, script_of}
use Rattle.type_schema.specs.Script.{Script, schema_at, count}
use Rattle.type_schema.specs.Kinds.{is_dropped, kinds_at}
use Rattle.duty_listing.specs.Kinds.{ever_has, statics_from, models_from, kinds_on_the_way, kept_by}

pub range-more : (a n : ℕ) → range_with_len a (n + 1) ≡ range_with_len a n ++ (a + n) ∷ []
range-more a zero = ap (λ i. i ∷ []) (omega arith)
range-more a (suc n) =
    let step : suc n + 1 ≡ suc (n + 1) = omega arith in
    let last : (a + 1) + n ≡ a + suc n = omega arith in
    ap (range_with_len a) step ∙ ap (λ xs. a ∷ xs) (range-more (a + 1) n ∙ ap (λ i. range_with_len (a + 1) n ++ i ∷ []) last)

from-zero : (n : ℕ) → range_with_len 0 (n + 1) ≡ range_with_len 0 n ++ n ∷ []
from-zero n = range-more 0 n ∙ ap (λ i. range_with_len 0 n ++ i ∷ []) (omega arith)

pub statics-more : (p : Kind → Bool) (n : ℕ) → filter p (statics_from 0 (n + 1)) ≡ filter p (statics_from 0 n) ++ filter p (kind.Static n ∷ [])
statics-more p n =
    ap (λ xs. filter p (map (λ n. kind.Static n) xs)) (from-zero n)
    ∙ (ap (λ xs. filter p xs) (map-append (λ n. kind.Static n) (range_with_len 0 n) (n ∷ []))
    ∙ filter-append p (statics_from 0 n) (kind.Static n ∷ []))

pub models-more : (p : Kind → Bool) (n : ℕ) → filter p (models_from 0 (n + 1)) ≡ filter p (models_from 0 n) ++ filter p (kind.Model n ∷ [])
models-more p n =
    ap (λ xs. filter p (map (λ m. kind.Model m) xs)) (from-zero n)
    ∙ (ap (λ xs. filter p xs) (map-append (λ m. kind.Model m) (range_with_len 0 n) (n ∷ []))
    ∙ filter-append p (models_from 0 n) (kind.Model n ∷ []))

filter-twice : {X : Type 0} (p q : X → Bool) (xs : List X) → filter (λ x. p x && q x) xs ≡ filter q (filter p xs)
filter-twice p q [] = refl
filter-twice {X} p q (x ∷ xs) =
    elim (p x) as (λ (t : Bool). cond (t && q x) (x ∷ filter (λ x. p x && q x) xs) (filter (λ x. p x && q x) xs) ≡ filter q (cond t (x ∷ filter p xs) (filter p xs))) [
      | true ↦ ap (λ ys. cond (q x) (x ∷ ys) ys) (filter-twice p q xs)
      | false ↦ filter-twice p q xs
    ]

pub kinds-kept : (t : Script) (k : ℕ) → kept_by (take k t.commands) (kinds_on_the_way t) ≡ kinds_at t k
kinds-kept t k =
    sym (filter-twice (ever_has t) (λ a. not (is_dropped a (take k t.commands)))
    (statics_from 0 (schema_at t (count t)).next_static ++ models_from 0 (schema_at t (count t)).next_model))

pub both-kinds : (p : Kind → Bool) (xs ys : List Kind) → filter p (xs ++ ys) ≡ filter p xs ++ filter p ys
both-kinds p xs ys = filter-append p xs ys

pub kinds-after : (t : TScript) (k : ℕ) (kept all : List Kind) (commands : List TCommand) → commands ≡ take k t.commands
    → kept ≡ kept_by (map command_of commands) all → all ≡ kinds_on_the_way (script_of t) → kept ≡ kinds_at (script_of t) k
kinds-after t k kept all commands c e a =
    e ∙ (ap (λ xs. kept_by (map command_of xs) all) c ∙ (ap (λ xs. kept_by xs all) (sym (take-map command_of k t.commands))
    ∙ (ap (λ xs. kept_by (take k (map command_of t.commands)) xs) a ∙ kinds-kept (script_of t) k)))
