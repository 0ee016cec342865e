-- A schema whose types name its models has a signature.
use Rattle.std.proofs.Common.{◌≡◌, ℕ, suc, ◌<◌, ◌^◌, Bool, true, false, not, ◌&&◌, List, [], ◌∷◌, ◌++◌, length, refl, ap, sym, ◌∙◌, subst, arith, cond}
use Rattle.std.specs.Prelude.{Some, map, filter, flat_map, nat_lt, ◌==◌, is_some, IsTrue}
use Rattle.std.specs.List.{find, list_all, AllByRecursion}
use Rattle.std.proofs.lemmas.Bool.{eq-eqb, lt-ltb}
use Rattle.type_schema.specs.declared.types.TBase.TheVariants as base
use Rattle.type_schema.specs.declared.types.TTy.{TTy}
use Rattle.type_schema.specs.declared.types.TTy.TheVariants.{Plain, Set, Opt}
use Rattle.type_schema.specs.Schema.{FieldInfo, ModelInfo, Schema, model_in}
use Rattle.type_schema.specs.Typing.{HasModel, IsType}
use Rattle.type_schema.specs.Script.{Script, IsScript}
use Rattle.type_schema.specs.Proper.{model_numbers}
use Rattle.data_meaning.proofs.Tests.{and-both}
use Rattle.form_formula.specs.declared.structure.FunSig.{FunSig}
use Rattle.form_formula.specs.declared.structure.SetSig.{SetSig}
use Rattle.form_formula.specs.Signature.{has_range, is_signature}
use Rattle.duty_meaning.specs.Structures.{Place, places_in, is_set, sort_of, range_of, target_of, functions_of, relations_of, function_signature, relation_signature, sorts_of, function_signatures, relation_signatures}
use Rattle.duty_meaning.proofs.Fitting.{sort-within, numbers-length, IsThere, start-places}
use Rattle.duty_numbering.specs.Numbers.{spot_of, Numbers, numbers_of, place_at}
use Rattle.duty_numbering.specs.Signatures.{TypesAreThere, StartTypesAreThere}

length-mapped : {X Y : Type 0} (f : X → Y) (xs : List X) → length (map f xs) ≡ length xs
length-mapped f [] = refl
length-mapped f (x ∷ xs) = ap suc (length-mapped f xs)

all-append : {X : Type 0} (P : X → Type 0) (xs ys : List X) → AllByRecursion P xs → AllByRecursion P ys → AllByRecursion P (xs ++ ys)
all-append P [] ys h k = k
all-append P (x ∷ xs) ys h k = (h.0, all-append P xs ys h.1 k)

all-both : {X : Type 0} (P Q : X → Type 0) (xs : List X) → AllByRecursion P xs → AllByRecursion Q xs → AllByRecursion (λ x. P x × Q x) xs
all-both P Q [] h k = tt
all-both P Q (x ∷ xs) h k = ((h.0, k.0), all-both P Q xs h.1 k.1)

all-weaker : {X : Type 0} (P Q : X → Type 0) → ((x : X) → P x → Q x) → (xs : List X) → AllByRecursion P xs → AllByRecursion Q xs
all-weaker P Q more [] h = tt
all-weaker P Q more (x ∷ xs) h = (more x h.0, all-weaker P Q more xs h.1)

-- each model of a list is found in it
each-model : (models : List ModelInfo) → AllByRecursion (λ (i : ModelInfo). is_some (model_in models i.number) ≡ true) models
each-model [] = tt
each-model (x ∷ models) = (
  ap (λ t. is_some (cond t (Some x) (model_in models x.number))) (eq-eqb x.number x.number refl),
  all-weaker (λ (i : ModelInfo). is_some (model_in models i.number) ≡ true) (λ (i : ModelInfo). is_some (model_in (x ∷ models) i.number) ≡ true)
      (λ i h. elim (x.number == i.number) as (λ (t : Bool). is_some (cond t (Some x) (model_in models i.number)) ≡ true) [ true ↦ refl | false ↦ h ])
      models (each-model models),
)

fields-over : (s : Schema) (m : ℕ) (fields : List FieldInfo) → HasModel s m → AllByRecursion (λ (p : Place). HasModel s p.model) (map (place_at m) fields)
fields-over s m [] h = tt
fields-over s m (f ∷ fields) h = (h, fields-over s m fields h)

places-over : (s : Schema) (models : List ModelInfo) → AllByRecursion (λ (i : ModelInfo). HasModel s i.number) models
    → AllByRecursion (λ (p : Place). HasModel s p.model) (flat_map places_in models)
places-over s [] h = tt
places-over s (i ∷ models) h =
    all-append (λ (p : Place). HasModel s p.model) (places_in i) (flat_map places_in models) (fields-over s i.number i.fields h.0) (places-over s models h.1)

-- what is kept of a list passes, each in its form
kept-pass : {X Y : Type 0} (P : X → Type 0) (keep : X → Bool) (g : X → Y) (test : Y → Bool) → ((x : X) → P x → keep x ≡ true → test (g x) ≡ true)
    → (xs : List X) → AllByRecursion P xs → list_all test (map g (filter keep xs)) ≡ true
kept-pass P keep g test each [] h = refl
kept-pass {X} {Y} P keep g test each (x ∷ xs) h =
    let rest = kept-pass P keep g test each xs h.1 in
    elim (keep x) as (λ (t : Bool). keep x ≡ t → list_all test (map g (cond t (x ∷ filter keep xs) (filter keep xs))) ≡ true) [
      | true ↦ λ here. and-both (test (g x)) (list_all test (map g (filter keep xs))) (each x h.0 here) rest
      | false ↦ λ here. rest
    ] refl

module _ (b : Schema) where
  sort-fits : (m : ℕ) → HasModel b m → nat_lt (sort_of b m) (sorts_of b) ≡ true
  sort-fits m h = lt-ltb (sort_of b m) (sorts_of b) (sort-within b m h)

  range-fits : (ty : TTy) → IsType b ty → has_range (sorts_of b) (range_of b ty) ≡ true
  range-fits (Plain base.Bool) h = refl
  range-fits (Plain base.Int) h = refl
  range-fits (Plain base.Text) h = refl
  range-fits (Plain (base.Id m)) h = sort-fits m h
  range-fits (Set m) h = sort-fits m h
  range-fits (Opt base.Bool) h = refl
  range-fits (Opt base.Int) h = refl
  range-fits (Opt base.Text) h = refl
  range-fits (Opt (base.Id m)) h = sort-fits m h

  target-fits : (ty : TTy) → is_set ty ≡ true → IsType b ty → nat_lt (sort_of b (target_of ty)) (sorts_of b) ≡ true
  target-fits (Plain p) e h = cc
  target-fits (Set m) e h = sort-fits m h
  target-fits (Opt p) e h = cc

  abbrev IsOver : Place → Type 0
  IsOver p = HasModel b p.model × IsType b p.field.ty

  pub signature-fits : TypesAreThere b → length (functions_of b) < 2 ^ 32 → length (relations_of b) < 2 ^ 32
      → is_signature (sorts_of b) (function_signatures b) (relation_signatures b) ≡ true
  signature-fits there few less =
      let places : AllByRecursion IsOver (flat_map places_in b.models)
      = all-both (λ (p : Place). HasModel b p.model) (λ (p : Place). IsType b p.field.ty) (flat_map places_in b.models) (places-over b b.models (each-model b.models)) there in
      let functions : list_all (λ (f : FunSig). nat_lt f.from (sorts_of b) && has_range (sorts_of b) f.to) (function_signatures b) ≡ true
      = kept-pass IsOver (λ (p : Place). not (is_set p.field.ty)) (function_signature b) (λ (f : FunSig). nat_lt f.from (sorts_of b) && has_range (sorts_of b) f.to)
      (λ p h e. and-both (nat_lt (sort_of b p.model) (sorts_of b)) (has_range (sorts_of b) (range_of b p.field.ty)) (sort-fits p.model h.0) (range-fits p.field.ty h.1))
      (flat_map places_in b.models) places in
      let relations : list_all (λ (r : SetSig). nat_lt r.from (sorts_of b) && nat_lt r.to (sorts_of b)) (relation_signatures b) ≡ true
      = kept-pass IsOver (λ (p : Place). is_set p.field.ty) (relation_signature b) (λ (r : SetSig). nat_lt r.from (sorts_of b) && nat_lt r.to (sorts_of b))
      (λ p h e. and-both (nat_lt (sort_of b p.model) (sorts_of b)) (nat_lt (sort_of b (target_of p.field.ty)) (sorts_of b)) (sort-fits p.model h.0) (target-fits p.field.ty e h.1))
      (flat_map places_in b.models) places in
      let short : length (function_signatures b) < 2 ^ 32 = subst (λ n. n < 2 ^ 32) (sym (length-mapped (function_signature b) (functions_of b))) few in
      let brief : length (relation_signatures b) < 2 ^ 32 = subst (λ n. n < 2 ^ 32) (sym (length-mapped (relation_signature b) (relations_of b))) less in
      and-both _ _
      (and-both _ _
      (and-both (nat_lt (length (function_signatures b)) (2 ^ 32)) (nat_lt (length (relation_signatures b)) (2 ^ 32))
      (lt-ltb (length (function_signatures b)) (2 ^ 32) short) (lt-ltb (length (relation_signatures b)) (2 ^ 32) brief))
      functions)
      relations

-- as the parts are made
pub made-fits : (b : Schema) (n : Numbers) (sorts functions relations : ℕ) (funs : List FunSig) (sets : List SetSig) → TypesAreThere b → n ≡ numbers_of b
    → sorts ≡ length n.models → functions ≡ length n.functions → functions < 2 ^ 32 → relations ≡ length n.relations → relations < 2 ^ 32
    → funs ≡ function_signatures b → sets ≡ relation_signatures b → is_signature sorts funs sets ≡ true
made-fits b n sorts functions relations funs sets there is a f few r less e g =
    let count : sorts ≡ sorts_of b = a ∙ (ap (λ (n : Numbers). length n.models) is ∙ numbers-length b.models) in
    let short : length (functions_of b) < 2 ^ 32
    = subst (λ k. k < 2 ^ 32) (f ∙ (ap (λ (n : Numbers). length n.functions) is ∙ length-mapped spot_of (functions_of b))) few in
    let brief : length (relations_of b) < 2 ^ 32
    = subst (λ k. k < 2 ^ 32) (r ∙ (ap (λ (n : Numbers). length n.relations) is ∙ length-mapped spot_of (relations_of b))) less in
    ap (λ k. is_signature k funs sets) count ∙ (ap (λ xs. is_signature (sorts_of b) xs sets) e
    ∙ (ap (λ xs. is_signature (sorts_of b) (function_signatures b) xs) g ∙ signature-fits b there short brief))

pub start_types_are_there : StartTypesAreThere
start_types_are_there t is =
    all-weaker (IsThere t.start) (λ (p : Place). IsType t.start p.field.ty) (λ p h. h.1.0) (flat_map places_in t.start.models) (start-places t is)
