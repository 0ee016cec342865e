-- The cells that are read: one step after another, and loops over filters, items, ids and records.
use Rattle.std.proofs.Common.{◌≡◌, ℕ, ◌≤◌, Bool, true, false, List, [], ◌∷◌, ◌++◌, refl, ap, sym, ◌∙◌, cond, subst, length, map, take, append_assoc}
use Rattle.std.specs.Prelude.{filter, Option, Some, None, Result, Ok, Err, OnOk, if◌then◌else◌}
use Rattle.std.specs.List.{flat_map}
use Rattle.std.specs.Option.{option_map}
use Rattle.std.proofs.lemmas.List.{take_all}
use Rattle.text_tree.specs.declared.exprs.FilterOp.{FilterOp}
use Rattle.type_schema.specs.declared.trees.TExpr.TheOpen.{TFilter-F}
use Rattle.type_schema.specs.declared.trees.TExpr.TheFolds.{fold_out-TFilter}
use Rattle.type_schema.specs.declared.trees.TFilter.{TFilter}
use Rattle.type_schema.specs.Trees.{Expr, SetExpr, Filters, no_filters, filter_and}
use Rattle.type_schema.specs.Views.{ItemsMore, FiltersMore, expr_step, item_step, filter_step, set_step, filter_of}
use Rattle.data_meaning.specs.Database.{Record, Database, records_of, ids_of}
use Rattle.data_records.specs.declared.record.Record as code_record
use Rattle.data_records.specs.Views.{record_data}
use Rattle.data_meaning.specs.Values.{Value, Flag, Num, Str, Id, Ids, Nothing, Just}
use Rattle.data_meaning.specs.declared.cells.Cell.{Cell}
use Rattle.data_meaning.specs.Meaning.{Env, taken_apart}
use Rattle.data_meaning.specs.Touched.{touched, filters_touched}
use Rattle.data_members.specs.Variables.{content_of, first_field, first_value}

abbrev pub cell : ℕ → ℕ → ℕ → Cell
cell m f id = record { model = m; id = id; field = f }

-- the body at each element of the source is what is read of the elements that are in it
pub flat-filtered : {A B : Type 0} (p : A → Bool) (f : A → List B) (xs : List A) → flat_map f (filter p xs) ≡ flat_map (λ x. if p x then f x else []) xs
flat-filtered p f [] = refl
flat-filtered p f (x ∷ xs) =
    elim (p x) as (λ (b : Bool). flat_map f (cond b (x ∷ filter p xs) (filter p xs)) ≡ (if b then f x else []) ++ flat_map (λ y. if p y then f y else []) xs) [
      | true ↦ ap (λ ys. f x ++ ys) (flat-filtered p f xs)
      | false ↦ flat-filtered p f xs
    ]

-- two steps, and more that is told by another equation
pub then-more : {T E : Type 0} (r : Result T E) (old mid new first more all : List Cell) → mid ≡ old ++ first → all ≡ first ++ more → OnOk r (new ≡ mid ++ more) → OnOk r (new ≡ old ++ all)
then-more (Ok x) old mid new first more all one whole h = h ∙ ap (λ cells. cells ++ more) one ∙ append_assoc old first more ∙ ap (λ cells. old ++ cells) (sym whole)
then-more (Err e) old mid new first more all one whole h = tt

pub retold : {T E : Type 0} (r : Result T E) (old new some all : List Cell) → all ≡ some → OnOk r (new ≡ old ++ some) → OnOk r (new ≡ old ++ all)
retold (Ok x) old new some all whole h = h ∙ ap (λ cells. old ++ cells) (sym whole)
retold (Err e) old new some all whole h = tt

cells-seen : (m f : ℕ) (rs : List code_record.Record) → map (cell m f) (map (λ (r : Record). r.id) (map record_data rs)) ≡ map (λ r. cell m f r.id) rs
cells-seen m f [] = refl
cells-seen m f (r ∷ rs) = ap (λ cells. cell m f r.id ∷ cells) (cells-seen m f rs)

-- the field of every record of the model
pub field-done : (d : Database) (m f : ℕ) (old found : List Cell) (rs : List code_record.Record) (i : ℕ)
    → found ≡ old ++ map (λ r. cell m f r.id) (take i rs) → length rs ≤ i → map record_data rs ≡ records_of d m
    → found ≡ old ++ map (cell m f) (ids_of d m)
field-done d m f old found rs i so_far all same =
    so_far ∙ ap (λ us. old ++ map (λ r. cell m f r.id) us) (take_all i rs all) ∙ ap (λ cells. old ++ cells) (sym (cells-seen m f rs))
    ∙ ap (λ us. old ++ map (cell m f) (map (λ (r : Record). r.id) us)) same

-- ---- options taken apart

pub taken-some : {A : Type 0} (v : Value) (none : A) (body : Env → A) (env inner : Env) → Some inner ≡ option_map (λ w. env ++ w ∷ []) (content_of v)
    → body inner ≡ taken_apart v none (λ w. body (env ++ w ∷ []))
taken-some (Flag b) none body env inner h = cc
taken-some (Num n) none body env inner h = cc
taken-some (Str bytes) none body env inner h = cc
taken-some (Id id) none body env inner h = cc
taken-some (Ids ids) none body env inner h = cc
taken-some Nothing none body env inner h = cc
taken-some (Just w) none body env inner h = let same : inner ≡ env ++ w ∷ [] = cc in ap body same

pub taken-none : {A : Type 0} (v : Value) (none : A) (some : Value → A) (env : Env) → None ≡ option_map (λ w. env ++ w ∷ []) (content_of v) → none ≡ taken_apart v none some
taken-none (Flag b) none some env h = refl
taken-none (Num n) none some env h = refl
taken-none (Str bytes) none some env h = refl
taken-none (Id id) none some env h = refl
taken-none (Ids ids) none some env h = refl
taken-none Nothing none some env h = refl
taken-none (Just w) none some env h = cc

module _ {T E X : Type 0} (r : Result T E) (old mid new first none all : List Cell) (body : Env → List Cell) (env : Env) (v : Value) (data_of : X → Env) (o : Option X) where
  pub match-some : (x : X) → mid ≡ old ++ first → option_map data_of o ≡ option_map (λ w. env ++ w ∷ []) (content_of v) → o ≡ Some x
      → all ≡ first ++ taken_apart v none (λ w. body (env ++ w ∷ [])) → OnOk r (new ≡ mid ++ body (data_of x)) → OnOk r (new ≡ old ++ all)
  match-some x one inner is whole h =
      let step : body (data_of x) ≡ taken_apart v none (λ w. body (env ++ w ∷ [])) = taken-some v none body env (data_of x) (ap (option_map data_of) (sym is) ∙ inner) in
      then-more r old mid new first (taken_apart v none (λ w. body (env ++ w ∷ []))) all one whole (subst (λ cells. OnOk r (new ≡ mid ++ cells)) step h)

  pub match-none : mid ≡ old ++ first → option_map data_of o ≡ option_map (λ w. env ++ w ∷ []) (content_of v) → o ≡ None
      → all ≡ first ++ taken_apart v none (λ w. body (env ++ w ∷ [])) → OnOk r (new ≡ mid ++ none) → OnOk r (new ≡ old ++ all)
  match-none one inner is whole h =
      let step : none ≡ taken_apart v none (λ w. body (env ++ w ∷ [])) = taken-none v none (λ w. body (env ++ w ∷ [])) env (ap (option_map data_of) (sym is) ∙ inner) in
      then-more r old mid new first (taken_apart v none (λ w. body (env ++ w ∷ []))) all one whole (subst (λ cells. OnOk r (new ≡ mid ++ cells)) step h)

-- ---- the branch of an `if`, and the body at each record of a source

module _ {T E : Type 0} (r : Result T E) (old mid new first all : List Cell) where
  pub if-read : (left right : List Cell) (b : Bool) → mid ≡ old ++ first → all ≡ first ++ (if b then left else right)
      → OnOk r (new ≡ mid ++ (if b then left else right)) → OnOk r (new ≡ old ++ all)
  if-read left right b one whole h = then-more r old mid new first (if b then left else right) all one whole h

  pub mapped-read : {A : Type 0} (p : A → Bool) (f : A → List Cell) (xs ys : List A) → mid ≡ old ++ first → ys ≡ filter p xs
      → all ≡ first ++ flat_map (λ x. if p x then f x else []) xs → OnOk r (new ≡ mid ++ flat_map f ys) → OnOk r (new ≡ old ++ all)
  mapped-read p f xs ys one found whole h =
      then-more r old mid new first (flat_map (λ x. if p x then f x else []) xs) all one whole
      (subst (λ cells. OnOk r (new ≡ mid ++ cells)) (ap (flat_map f) found ∙ flat-filtered p f xs) h)

-- ---- a filter

pub filter-read : {T E R : Type 0} (r : Result T E) (old mid new first more : List Cell) (tail whole : R → List Cell) → mid ≡ old ++ first
    → ((rest : R) → whole rest ≡ first ++ more ++ tail rest) → OnOk r (new ≡ mid ++ more) → OnOk r ((rest : R) → new ++ tail rest ≡ old ++ whole rest)
filter-read (Ok x) old mid new first more tail whole one all h = λ rest.
    ap (λ u. u ++ tail rest) (h ∙ ap (λ u. u ++ more) one ∙ append_assoc old first more) ∙ append_assoc old (first ++ more) (tail rest) ∙ ap (λ u. old ++ u) (sym (all rest))
filter-read (Err e) old mid new first more tail whole one all h = tt

-- a filter of the code in front of others, by its parts
abbrev HasParts : FiltersMore → Type 0
HasParts more = (op : FilterOp) × (more ≡ filter_and (first_field (more no_filters)) op (first_value (more no_filters)))

level-parts : (level : TFilter-F Expr FiltersMore ItemsMore SetExpr) → HasParts (filter_step level)
level-parts (TFilter-F.Test f op e) = (op, refl)

filter-parts : (filter : TFilter) → HasParts (filter_of filter)
filter-parts filter = subst HasParts (sym (fold_out-TFilter Expr FiltersMore ItemsMore SetExpr expr_step filter_step item_step set_step filter)) (level-parts _)

pub filter-touches : (d : Database) (env : Env) (m : ℕ) (filter : TFilter) (rest : Filters)
    → filters_touched d env m (filter_of filter rest)
    ≡ touched d env (first_value (filter_of filter no_filters)) ++ map (cell m (first_field (filter_of filter no_filters))) (ids_of d m) ++ filters_touched d env m rest
filter-touches d env m filter rest = ap (λ (more : FiltersMore). filters_touched d env m (more rest)) (filter-parts filter).1
