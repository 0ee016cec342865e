-- The text of a witness tells it.
use Rattle.std.proofs.Common.{◌≡◌, ℕ, ◌^◌, ◌<◌, ◌≤◌, Bool, true, false, ◌||◌, List, [], ◌∷◌, ◌++◌, map, refl, sym, ◌∙◌, ap, subst, arith, append_assoc, append-nil, codes, length, length-append}
use Rattle.std.specs.Prelude.{Option, Some, None, is_some, option_and_then, position, ◌==◌}
use Rattle.std.specs.Fmt.{decimal}
use Rattle.std.specs.List.{find, flat_map, list_any, concat, AllByRecursion}
use Rattle.std.specs.Option.{option_map_or}
use Rattle.std.proofs.lemmas.Bool.{eqb-true}
use Rattle.text_ast.specs.Words.{IsName}
use Rattle.type_schema.specs.declared.rights.Right.{Right}
use Rattle.type_schema.specs.declared.rights.Right.TheVariants.{Read, Write, Create, Delete}
use Rattle.type_schema.specs.declared.rights.Target.{Target}
use Rattle.type_schema.specs.declared.rights.Target.TheVariants as on
use Rattle.type_schema.specs.Schema.{StaticInfo, FieldInfo, ModelInfo, Schema, model_of, field_in, field_of, model_of_target}
use Rattle.type_schema.specs.Typing.{HasModel}
use Rattle.type_schema.specs.Commands.{Command, create_model, delete_model, add_static, remove_static, add_principal, add_field, remove_field, update_field, weaken_field, update_model, weaken_model, HasField}
use Rattle.type_schema.specs.Proper.{AreProperFields}
use Rattle.type_schema.specs.Script.{Script, schema_at, created_by, created, count, IsScript}
use Rattle.data_meaning.specs.declared.principals.Principal.{Principal}
use Rattle.data_meaning.specs.declared.principals.Principal.TheVariants.{Static, Rec}
use Rattle.data_meaning.specs.Values.{IsId}
use Rattle.data_meaning.specs.Database.{Database, IsDatabase, IsInOrder}
use Rattle.data_meaning.proofs.Finds.{find-among}
use Rattle.data_meaning.specs.declared.cells.Cell.{Cell}
use Rattle.data_print.specs.Texts.{id_text}
use Rattle.data_print.proofs.Cuts.{cancel, both, front, Stops, decimal-cut, id-cut}
use Rattle.data_print.proofs.TableCuts.{tells}
use Rattle.check_witness.specs.Printed.{statics_by, marked, model_text, static_text, field_text, target_text, right_text, record_name, principal_text, touched_line, database_text, witness_text}
use Rattle.check_witness.specs.Witness.{Witness}
use Rattle.check_witness.proofs.Scripts.{start-fields}
use Rattle.check_report_back.specs.Told.{statics_in, HasNames, IsTargetAt, IsPrincipalIn, IsCellAt, IsWitnessOf, WitnessTextsTell}
use Rattle.check_report_back.proofs.Marks.{Ends, IsBehind, IsCounted, rest, name-cut, marked-cut, place-below}
use Rattle.check_report_back.proofs.Numbered.{counted, same-number, front-distinct, back-distinct, told}

-- ---- lists and options

pub some-of : {A : Type 0} (o : Option A) → is_some o ≡ true → (a : A) × (o ≡ Some a)
some-of None h = cc
some-of (Some a) h = (a, refl)

cancel-right : (a b c : List ℕ) → a ++ c ≡ b ++ c → a ≡ b
cancel-right [] [] c e = refl
cancel-right [] (y ∷ b) c e = absurd (omega (arith, ap length e, length-append b c))
cancel-right (x ∷ a) [] c e = absurd (omega (arith, ap length e, length-append a c))
cancel-right (x ∷ a) (y ∷ b) c e = both x y a b (ap front e) (cancel-right a b c (ap rest e))

id-fits : (n : ℕ) → IsId n → n < 2 ^ 64
id-fits n is = omega (arith, is.1)

-- a blank, a dot, the end of a line
blank : (r : List ℕ) → IsBehind (32 ∷ r)
blank r = record { ends = refl; plain = λ h. absurd (omega (arith, h)); stops = omega arith }

dot : (r : List ℕ) → IsBehind (46 ∷ r)
dot r = record { ends = refl; plain = λ h. absurd (omega (arith, h)); stops = omega arith }

line-end : (r : List ℕ) → IsBehind (10 ∷ r)
line-end r = record { ends = refl; plain = λ h. absurd (omega (arith, h)); stops = omega arith }

-- ---- what a command adds

pub only : (b : Bool) → (b || false) ≡ true → b ≡ true
only true e = refl
only false e = cc

one-model : (c : Command) (m n : ℕ) → list_any (λ (i : ModelInfo). i.number == m) (created_by c) ≡ true → list_any (λ (i : ModelInfo). i.number == n) (created_by c) ≡ true → m ≡ n
one-model (create_model info) m n hm hn = sym (eqb-true info.number m (only (info.number == m) hm)) ∙ eqb-true info.number n (only (info.number == n) hn)
one-model (delete_model k) m n hm hn = cc
one-model (add_static info) m n hm hn = cc
one-model (remove_static k) m n hm hn = cc
one-model (add_principal k) m n hm hn = cc
one-model (add_field k f init) m n hm hn = cc
one-model (remove_field k f) m n hm hn = cc
one-model (update_field k f read write) m n hm hn = cc
one-model (weaken_field k f read write reason) m n hm hn = cc
one-model (update_model k create delete) m n hm hn = cc
one-model (weaken_model k create delete reason) m n hm hn = cc

one-static : (c : Command) (m n : ℕ) → list_any (λ (i : StaticInfo). i.number == m) (statics_by c) ≡ true → list_any (λ (i : StaticInfo). i.number == n) (statics_by c) ≡ true → m ≡ n
one-static (create_model info) m n hm hn = cc
one-static (delete_model k) m n hm hn = cc
one-static (add_static info) m n hm hn = sym (eqb-true info.number m (only (info.number == m) hm)) ∙ eqb-true info.number n (only (info.number == n) hn)
one-static (remove_static k) m n hm hn = cc
one-static (add_principal k) m n hm hn = cc
one-static (add_field k f init) m n hm hn = cc
one-static (remove_field k f) m n hm hn = cc
one-static (update_field k f read write) m n hm hn = cc
one-static (weaken_field k f read write reason) m n hm hn = cc
one-static (update_model k create delete) m n hm hn = cc
one-static (weaken_model k create delete reason) m n hm hn = cc

pub made-all : (commands : List Command) → created commands ≡ flat_map created_by commands
made-all [] = refl
made-all (c ∷ commands) = ap (λ ms. created_by c ++ ms) (made-all commands)

-- ---- words of rights

right-cut : (x y : Right) (r s : List ℕ) → right_text x ++ r ≡ right_text y ++ s → (x ≡ y) × (r ≡ s)
right-cut Read Read r s e = (refl, cancel (codes "read") r s e)
right-cut Read Write r s e = let h : 114 ≡ 119 = ap front e in absurd (omega (arith, h))
right-cut Read Create r s e = let h : 114 ≡ 99 = ap front e in absurd (omega (arith, h))
right-cut Read Delete r s e = let h : 114 ≡ 100 = ap front e in absurd (omega (arith, h))
right-cut Write Read r s e = let h : 119 ≡ 114 = ap front e in absurd (omega (arith, h))
right-cut Write Write r s e = (refl, cancel (codes "write") r s e)
right-cut Write Create r s e = let h : 119 ≡ 99 = ap front e in absurd (omega (arith, h))
right-cut Write Delete r s e = let h : 119 ≡ 100 = ap front e in absurd (omega (arith, h))
right-cut Create Read r s e = let h : 99 ≡ 114 = ap front e in absurd (omega (arith, h))
right-cut Create Write r s e = let h : 99 ≡ 119 = ap front e in absurd (omega (arith, h))
right-cut Create Create r s e = (refl, cancel (codes "create") r s e)
right-cut Create Delete r s e = let h : 99 ≡ 100 = ap front e in absurd (omega (arith, h))
right-cut Delete Read r s e = let h : 100 ≡ 114 = ap front e in absurd (omega (arith, h))
right-cut Delete Write r s e = let h : 100 ≡ 119 = ap front e in absurd (omega (arith, h))
right-cut Delete Create r s e = let h : 100 ≡ 99 = ap front e in absurd (omega (arith, h))
right-cut Delete Delete r s e = (refl, cancel (codes "delete") r s e)

-- ---- how parts stand in a row

two : (a b r : List ℕ) → (a ++ (codes " " ++ (b ++ []))) ++ r ≡ a ++ 32 ∷ (b ++ r)
two a b r = simp (append_assoc, append-nil)

dotted : (a b r : List ℕ) → (codes "field " ++ (a ++ (codes "." ++ (b ++ [])))) ++ r ≡ codes "field " ++ (a ++ 46 ∷ (b ++ r))
dotted a b r = simp (append_assoc, append-nil)

cell-line : (a b r : List ℕ) → (codes "touched " ++ (a ++ (codes " " ++ (b ++ codes "\n")))) ++ r ≡ codes "touched " ++ (a ++ 32 ∷ (b ++ 10 ∷ r))
cell-line a b r = simp append_assoc

lines : (k target right row who cell base : List ℕ)
    → concat (concat (codes "leak " ∷ concat (codes "command " ∷ k ∷ codes " " ∷ target ∷ codes " right " ∷ right ∷ []) ∷ codes "\n" ∷ [])
    ∷ concat (codes "row " ∷ row ∷ codes "\n" ∷ []) ∷ concat (codes "principal " ∷ who ∷ codes "\n" ∷ []) ∷ cell
    ∷ codes "database\n" ∷ base ∷ codes "end\n" ∷ [])
    ≡ codes "leak command " ++ (k ++ 32 ∷ (target ++ (codes " right " ++ (right ++ (codes "\nrow " ++ (row ++ (codes "\nprincipal " ++ (who ++ 10 ∷ (cell ++ (codes "database\n" ++ (base ++ codes "end\n")))))))))))
lines k target right row who cell base = simp (append_assoc, append-nil)

module _ (t : Script) (is : IsScript t) (names : HasNames t) where
  few : length t.commands < 2 ^ 63
  few = omega (arith, is.few)

  start-models : t.start.models ≡ (schema_at t 0).models ++ flat_map created_by t.commands
  start-models = ap (λ (s : Schema). s.models) is.start ∙ ap (λ ms. (schema_at t 0).models ++ ms) (made-all t.commands)

  start-statics : t.start.statics ≡ (schema_at t 0).statics
  start-statics = ap (λ (s : Schema). s.statics) is.start

  model-cut : (m n : ℕ) (r s : List ℕ) → HasModel t.start m → HasModel t.start n → IsBehind r → IsBehind s → model_text t m ++ r ≡ model_text t n ++ s → (m ≡ n) × (r ≡ s)
  model-cut m n r s hm hn br bs e =
      let proper = is.proper 0 (omega arith) in
      let a = some-of (model_of t.start m) hm in
      let b = some-of (model_of t.start n) hn in
      told (λ (i : ModelInfo). i.number) (λ (i : ModelInfo). i.name) created_by one-model (schema_at t 0).models t.commands m n a.0 b.0 r s few
      (back-distinct (map (λ (i : StaticInfo). i.name) (schema_at t 0).statics) (map (λ (i : ModelInfo). i.name) (schema_at t 0).models) proper.names)
      (subst (AllByRecursion (λ (i : ModelInfo). IsName i.name)) start-models names.models)
      (subst (λ ms. find (λ (i : ModelInfo). i.number == m) ms ≡ Some a.0) start-models a.1)
      (subst (λ ms. find (λ (i : ModelInfo). i.number == n) ms ≡ Some b.0) start-models b.1) br bs
      (subst (λ ms.
      marked (option_map_or (λ (i : ModelInfo). i.name) (find (λ (i : ModelInfo). i.number == m) ms) []) (position (λ c. list_any (λ (i : ModelInfo). i.number == m) (created_by c)) t.commands) ++ r
      ≡ marked (option_map_or (λ (i : ModelInfo). i.name) (find (λ (i : ModelInfo). i.number == n) ms) []) (position (λ c. list_any (λ (i : ModelInfo). i.number == n) (created_by c)) t.commands) ++ s)
      start-models e)

  static-cut : (m n : ℕ) (r s : List ℕ) → IsPrincipalIn t (Static m) → IsPrincipalIn t (Static n) → IsBehind r → IsBehind s → static_text t m ++ r ≡ static_text t n ++ s
      → (m ≡ n) × (r ≡ s)
  static-cut m n r s hm hn br bs e =
      let proper = is.proper 0 (omega arith) in
      let a = some-of (find (λ (i : StaticInfo). i.number == m) (statics_in t)) hm in
      let b = some-of (find (λ (i : StaticInfo). i.number == n) (statics_in t)) hn in
      told (λ (i : StaticInfo). i.number) (λ (i : StaticInfo). i.name) statics_by one-static (schema_at t 0).statics t.commands m n a.0 b.0 r s few
      (front-distinct (map (λ (i : StaticInfo). i.name) (schema_at t 0).statics) (map (λ (i : ModelInfo). i.name) (schema_at t 0).models) proper.names)
      (subst (λ ns. AllByRecursion (λ (i : StaticInfo). IsName i.name) (ns ++ flat_map statics_by t.commands)) start-statics names.statics)
      (subst (λ ns. find (λ (i : StaticInfo). i.number == m) (ns ++ flat_map statics_by t.commands) ≡ Some a.0) start-statics a.1)
      (subst (λ ns. find (λ (i : StaticInfo). i.number == n) (ns ++ flat_map statics_by t.commands) ≡ Some b.0) start-statics b.1) br bs
      (subst (λ ns.
      marked (option_map_or (λ (i : StaticInfo). i.name) (find (λ (i : StaticInfo). i.number == m) (ns ++ flat_map statics_by t.commands)) [])
      (position (λ c. list_any (λ (i : StaticInfo). i.number == m) (statics_by c)) t.commands) ++ r
      ≡ marked (option_map_or (λ (i : StaticInfo). i.name) (find (λ (i : StaticInfo). i.number == n) (ns ++ flat_map statics_by t.commands)) [])
      (position (λ c. list_any (λ (i : StaticInfo). i.number == n) (statics_by c)) t.commands) ++ s)
      start-statics e)

  fields-apart : (k m f g : ℕ) (a b : FieldInfo) → k ≤ count t → field_of (schema_at t k) m f ≡ Some a → field_of (schema_at t k) m g ≡ Some b → a.name ≡ b.name → f ≡ g
  fields-apart k m f g a b low ea eb same =
      elim (model_of (schema_at t k) m) as (λ (o : Option ModelInfo). model_of (schema_at t k) m ≡ o
      → option_and_then (λ (i : ModelInfo). field_in i.fields f) o ≡ Some a → option_and_then (λ (i : ModelInfo). field_in i.fields g) o ≡ Some b → f ≡ g) [
        | None ↦ λ found fa fb. cc
        | Some info ↦ λ found fa fb.
            let proper = find-among (AreProperFields (schema_at t k).next_field) (λ (i : ModelInfo). i.number == m) (schema_at t k).models info (is.proper k low).fields found in
            same-number (λ (i : FieldInfo). i.number) (λ (i : FieldInfo). i.name) info.fields f g a b proper.names fa fb same
      ] refl ea eb

  field-cut : (k m f g : ℕ) (r s : List ℕ) → k ≤ count t → HasField (schema_at t k) m f → HasField (schema_at t k) m g → Ends r → Ends s
      → field_text t k m f ++ r ≡ field_text t k m g ++ s → (f ≡ g) × (r ≡ s)
  field-cut k m f g r s low hf hg er es e =
      let a = some-of (field_of (schema_at t k) m f) hf in
      let b = some-of (field_of (schema_at t k) m g) hg in
      let fa : field_text t k m f ≡ a.0.name = ap (λ o. option_map_or (λ (i : FieldInfo). i.name) o []) a.1 in
      let fb : field_text t k m g ≡ b.0.name = ap (λ o. option_map_or (λ (i : FieldInfo). i.name) o []) b.1 in
      let cut = name-cut a.0.name b.0.name r s (names.fields k m f a.0 a.1) (names.fields k m g b.0 b.1) er es (ap (λ z. z ++ r) (sym fa) ∙ e ∙ ap (λ z. z ++ s) fb) in
      (fields-apart k m f g a.0 b.0 low a.1 b.1 cut.0, cut.1)

  target-cut : (k : ℕ) (x y : Target) (r s : List ℕ) → k ≤ count t → IsTargetAt t k x → IsTargetAt t k y → target_text t k x ++ 32 ∷ r ≡ target_text t k y ++ 32 ∷ s → (x ≡ y) × (r ≡ s)
  target-cut k (on.Field m f) (on.Field n g) r s low hx hy e =
      let model = model-cut m n (46 ∷ (field_text t k m f ++ 32 ∷ r)) (46 ∷ (field_text t k n g ++ 32 ∷ s)) hx.0 hy.0 (dot (field_text t k m f ++ 32 ∷ r)) (dot (field_text t k n g ++ 32 ∷ s))
      (cancel (codes "field ") (model_text t m ++ 46 ∷ (field_text t k m f ++ 32 ∷ r)) (model_text t n ++ 46 ∷ (field_text t k n g ++ 32 ∷ s))
      (sym (dotted (model_text t m) (field_text t k m f) (32 ∷ r)) ∙ e ∙ dotted (model_text t n) (field_text t k n g) (32 ∷ s))) in
      let other : HasField (schema_at t k) m g = subst (λ i. HasField (schema_at t k) i g) (sym model.0) hy.1 in
      let field = field-cut k m f g (32 ∷ r) (32 ∷ s) low hx.1 other refl refl
      (cancel (46 ∷ []) (field_text t k m f ++ 32 ∷ r) (field_text t k m g ++ 32 ∷ s)
      (model.1 ∙ ap (λ i. 46 ∷ (field_text t k i g ++ 32 ∷ s)) (sym model.0))) in
      (ap (λ i. on.Field i f) model.0 ∙ ap (on.Field n) field.0, cancel (32 ∷ []) r s field.1)
  target-cut k (on.Field m f) (on.Model n) r s low hx hy e = let h : 102 ≡ 109 = ap front e in absurd (omega (arith, h))
  target-cut k (on.Model m) (on.Field n g) r s low hx hy e = let h : 109 ≡ 102 = ap front e in absurd (omega (arith, h))
  target-cut k (on.Model m) (on.Model n) r s low hx hy e =
      let model = model-cut m n (32 ∷ r) (32 ∷ s) hx hy (blank r) (blank s) (cancel (codes "model ") (model_text t m ++ 32 ∷ r) (model_text t n ++ 32 ∷ s) e) in
      (ap on.Model model.0, cancel (32 ∷ []) r s model.1)

  record-cut : (m n i j : ℕ) (r s : List ℕ) → HasModel t.start m → HasModel t.start n → IsId i → IsId j → Stops r → Stops s → record_name t m i ++ r ≡ record_name t n j ++ s
      → (m ≡ n) × (i ≡ j) × (r ≡ s)
  record-cut m n i j r s hm hn hi hj sr ss e =
      let model = model-cut m n (32 ∷ (id_text i ++ r)) (32 ∷ (id_text j ++ s)) hm hn (blank (id_text i ++ r)) (blank (id_text j ++ s))
      (sym (two (model_text t m) (id_text i) r) ∙ e ∙ two (model_text t n) (id_text j) s) in
      let id = id-cut i j r s (id-fits i hi) (id-fits j hj) sr ss (cancel (32 ∷ []) (id_text i ++ r) (id_text j ++ s) model.1) in
      (model.0, id.0, id.1)

  -- a name with a mark
  model-marked : (m : ℕ) → HasModel t.start m → (x : List ℕ) × (o : Option ℕ) × IsName x × IsCounted o × (model_text t m ≡ marked x o)
  model-marked m h =
      let a = some-of (model_of t.start m) h in
      let place = position (λ c. list_any (λ (i : ModelInfo). i.number == m) (created_by c)) t.commands in (
        a.0.name,
        place,
        find-among (λ (i : ModelInfo). IsName i.name) (λ (i : ModelInfo). i.number == m) t.start.models a.0 names.models a.1,
        counted place (length t.commands) few (λ k at. place-below (λ c. list_any (λ (i : ModelInfo). i.number == m) (created_by c)) t.commands k at),
        ap (λ (o : Option ModelInfo). marked (option_map_or (λ (i : ModelInfo). i.name) o []) place) a.1,
      )

  static-marked : (m : ℕ) → IsPrincipalIn t (Static m) → (x : List ℕ) × (o : Option ℕ) × IsName x × IsCounted o × (static_text t m ≡ marked x o)
  static-marked m h =
      let a = some-of (find (λ (i : StaticInfo). i.number == m) (statics_in t)) h in
      let place = position (λ c. list_any (λ (i : StaticInfo). i.number == m) (statics_by c)) t.commands in (
        a.0.name,
        place,
        find-among (λ (i : StaticInfo). IsName i.name) (λ (i : StaticInfo). i.number == m) (statics_in t) a.0 names.statics a.1,
        counted place (length t.commands) few (λ k at. place-below (λ c. list_any (λ (i : StaticInfo). i.number == m) (statics_by c)) t.commands k at),
        ap (λ (o : Option StaticInfo). marked (option_map_or (λ (i : StaticInfo). i.name) o []) place) a.1,
      )

  -- a static and a record are told apart by what stands behind the name
  static-or-record : (m n j : ℕ) (r s : List ℕ) → IsPrincipalIn t (Static m) → HasModel t.start n → static_text t m ++ 10 ∷ r ≡ record_name t n j ++ 10 ∷ s → ⊥
  static-or-record m n j r s hm hn e =
      let a = static-marked m hm in
      let b = model-marked n hn in
      let cut = marked-cut a.0 b.0 a.1 b.1 (10 ∷ r) (32 ∷ (id_text j ++ 10 ∷ s)) a.2 b.2 a.3 b.3 (line-end r) (blank (id_text j ++ 10 ∷ s))
      (ap (λ z. z ++ 10 ∷ r) (sym a.4) ∙ e ∙ two (model_text t n) (id_text j) (10 ∷ s) ∙ ap (λ z. z ++ 32 ∷ (id_text j ++ 10 ∷ s)) b.4) in
      let h : 10 ≡ 32 = ap front cut.2 in
      absurd (omega (arith, h))

  who-cut : (x y : Principal) (r s : List ℕ) → IsPrincipalIn t x → IsPrincipalIn t y → principal_text t x ++ 10 ∷ r ≡ principal_text t y ++ 10 ∷ s → (x ≡ y) × (r ≡ s)
  who-cut (Static m) (Static n) r s hx hy e =
      let cut = static-cut m n (10 ∷ r) (10 ∷ s) hx hy (line-end r) (line-end s) e in (ap Static cut.0, cancel (10 ∷ []) r s cut.1)
  who-cut (Static m) (Rec n j) r s hx hy e = absurd (static-or-record m n j r s hx hy.0 e)
  who-cut (Rec m i) (Static n) r s hx hy e = absurd (static-or-record n m i s r hy hx.0 (sym e))
  who-cut (Rec m i) (Rec n j) r s hx hy e =
      let cut = record-cut m n i j (10 ∷ r) (10 ∷ s) hx.0 hy.0 hx.1 hy.1 (omega arith) (omega arith) e in
      (ap (λ k. Rec k i) cut.0 ∙ ap (Rec n) cut.1, cancel (10 ∷ []) r s cut.2)

  abbrev a-cell : ℕ → ℕ → ℕ → Cell
  a-cell m i f = record { model = m; id = i; field = f }

  same-cell : (a b : Cell) → a.model ≡ b.model → a.id ≡ b.id → a.field ≡ b.field → a ≡ b
  same-cell a b e f g = ap (λ m. a-cell m a.id a.field) e ∙ ap (λ i. a-cell b.model i a.field) f ∙ ap (a-cell b.model b.id) g

  cell-cut : (k : ℕ) (x y : Option Cell) (r s : List ℕ) → k ≤ count t → IsCellAt t k x → IsCellAt t k y
      → touched_line t k x ++ (codes "database\n" ++ r) ≡ touched_line t k y ++ (codes "database\n" ++ s) → (x ≡ y) × (r ≡ s)
  cell-cut k None None r s low hx hy e = (refl, cancel (codes "database\n") r s e)
  cell-cut k None (Some b) r s low hx hy e = let h : 100 ≡ 116 = ap front e in absurd (omega (arith, h))
  cell-cut k (Some a) None r s low hx hy e = let h : 116 ≡ 100 = ap front e in absurd (omega (arith, h))
  cell-cut k (Some a) (Some b) r s low hx hy e =
      let dr = codes "database\n" ++ r in
      let ds = codes "database\n" ++ s in
      let fa = field_text t k a.model a.field in
      let fb = field_text t k b.model b.field in
      let row = record-cut a.model b.model a.id b.id (32 ∷ (fa ++ 10 ∷ dr)) (32 ∷ (fb ++ 10 ∷ ds)) hx.0 hy.0 hx.2 hy.2 (omega arith) (omega arith)
      (cancel (codes "touched ") (record_name t a.model a.id ++ 32 ∷ (fa ++ 10 ∷ dr)) (record_name t b.model b.id ++ 32 ∷ (fb ++ 10 ∷ ds))
      (sym (cell-line (record_name t a.model a.id) fa dr) ∙ e ∙ cell-line (record_name t b.model b.id) fb ds)) in
      let other : HasField (schema_at t k) a.model b.field = subst (λ i. HasField (schema_at t k) i b.field) (sym row.0) hy.1 in
      let field = field-cut k a.model a.field b.field (10 ∷ dr) (10 ∷ ds) low hx.1 other refl refl
      (cancel (32 ∷ []) (fa ++ 10 ∷ dr) (field_text t k a.model b.field ++ 10 ∷ ds) (row.2 ∙ ap (λ i. 32 ∷ (field_text t k i b.field ++ 10 ∷ ds)) (sym row.0))) in
      (ap Some (same-cell a b row.0 row.1 field.0), cancel (10 ∷ codes "database\n") r s field.1)

  base-told : (d e : Database) → IsDatabase t.start d → IsInOrder t.start d → IsDatabase t.start e → IsInOrder t.start e
      → database_text t d ++ codes "end\n" ≡ database_text t e ++ codes "end\n" → d ≡ e
  base-told d e id od ie oe same =
      tells t.start (λ (m : ModelInfo). model_text t m.number) d e (start-fields t is) id od ie oe (cancel-right (database_text t d) (database_text t e) (codes "end\n") same)

  abbrev a-witness : ℕ → Target → Right → Database → ℕ → Principal → Option Cell → Witness
  a-witness k target right base row who cell = record { command = k; target = target; right = right; base = base; row = row; who = who; cell = cell }

  -- what stands behind the number of the command
  abbrev behind : ℕ → Target → Right → Database → ℕ → Principal → Option Cell → List ℕ
  behind k target right base row who cell =
      target_text t k target ++ (codes " right " ++ (right_text right ++ (codes "\nrow " ++ (record_name t (model_of_target target) row
      ++ (codes "\nprincipal " ++ (principal_text t who ++ 10 ∷ (touched_line t k cell ++ (codes "database\n" ++ (database_text t base ++ codes "end\n")))))))))

  text-of : (w : Witness) → witness_text t w ≡ codes "leak command " ++ (decimal w.command ++ 32 ∷ behind w.command w.target w.right w.base w.row w.who w.cell)
  text-of w =
      lines (decimal w.command) (target_text t w.command w.target) (right_text w.right) (record_name t (model_of_target w.target) w.row) (principal_text t w.who)
      (touched_line t w.command w.cell) (database_text t w.base)

  target-model : (k : ℕ) (x : Target) → IsTargetAt t k x → HasModel t.start (model_of_target x)
  target-model k (on.Field m f) h = h.0
  target-model k (on.Model m) h = h

  parts-told : (k : ℕ) (x y : Target) (p q : Right) (d e : Database) (i j : ℕ) (u v : Principal) (a b : Option Cell) → k ≤ count t
      → IsTargetAt t k x → IsTargetAt t k y → IsDatabase t.start d → IsInOrder t.start d → IsDatabase t.start e → IsInOrder t.start e → IsId i → IsId j
      → IsPrincipalIn t u → IsPrincipalIn t v → IsCellAt t k a → IsCellAt t k b → behind k x p d i u a ≡ behind k y q e j v b
      → a-witness k x p d i u a ≡ a-witness k y q e j v b
  parts-told k x y p q d e i j u v a b low hx hy id od ie oe hi hj hu hv ha hb same =
      let da = codes "database\n" ++ (database_text t d ++ codes "end\n") in
      let db = codes "database\n" ++ (database_text t e ++ codes "end\n") in
      let wa = principal_text t u ++ 10 ∷ (touched_line t k a ++ da) in
      let wb = principal_text t v ++ 10 ∷ (touched_line t k b ++ db) in
      let ra = record_name t (model_of_target x) i ++ (codes "\nprincipal " ++ wa) in
      let rb = record_name t (model_of_target y) j ++ (codes "\nprincipal " ++ wb) in
      let target = target-cut k x y (codes "right " ++ (right_text p ++ (codes "\nrow " ++ ra))) (codes "right " ++ (right_text q ++ (codes "\nrow " ++ rb))) low hx hy same in
      let right = right-cut p q (codes "\nrow " ++ ra) (codes "\nrow " ++ rb)
      (cancel (codes "right ") (right_text p ++ (codes "\nrow " ++ ra)) (right_text q ++ (codes "\nrow " ++ rb)) target.1) in
      let row = record-cut (model_of_target x) (model_of_target y) i j (codes "\nprincipal " ++ wa) (codes "\nprincipal " ++ wb) (target-model k x hx) (target-model k y hy) hi hj
      (omega arith) (omega arith) (cancel (codes "\nrow ") ra rb right.1) in
      let who = who-cut u v (touched_line t k a ++ da) (touched_line t k b ++ db) hu hv (cancel (codes "\nprincipal ") wa wb row.2) in
      let cell = cell-cut k a b (database_text t d ++ codes "end\n") (database_text t e ++ codes "end\n") low ha hb who.1 in
      let base = base-told d e id od ie oe cell.1 in
      ap (λ z. a-witness k z p d i u a) target.0 ∙ ap (λ z. a-witness k y z d i u a) right.0 ∙ ap (λ z. a-witness k y q z i u a) base
      ∙ ap (λ z. a-witness k y q e z u a) row.1 ∙ ap (λ z. a-witness k y q e j z a) who.0 ∙ ap (λ z. a-witness k y q e j v z) cell.0

  tell : (w v : Witness) → IsWitnessOf t w → IsWitnessOf t v → witness_text t w ≡ witness_text t v → w ≡ v
  tell w v iw iv same =
      let bw = behind w.command w.target w.right w.base w.row w.who w.cell in
      let bv = behind v.command v.target v.right v.base v.row v.who v.cell in
      let number = decimal-cut w.command v.command (32 ∷ bw) (32 ∷ bv) (omega (arith, iw.command, is.few)) (omega (arith, iv.command, is.few)) (omega arith) (omega arith)
      (cancel (codes "leak command ") (decimal w.command ++ 32 ∷ bw) (decimal v.command ++ 32 ∷ bv) (sym (text-of w) ∙ same ∙ text-of v)) in
      let back = sym number.0 in
      parts-told w.command w.target v.target w.right v.right w.base v.base w.row v.row w.who v.who w.cell v.cell iw.command
      iw.target (subst (λ k. IsTargetAt t k v.target) back iv.target) iw.base iw.order iv.base iv.order iw.row iv.row iw.who iv.who
      iw.cell (subst (λ k. IsCellAt t k v.cell) back iv.cell)
      (cancel (32 ∷ []) bw bv number.1 ∙ ap (λ k. behind k v.target v.right v.base v.row v.who v.cell) back)
      ∙ ap (λ k. a-witness k v.target v.right v.base v.row v.who v.cell) number.0

pub texts-tell : WitnessTextsTell
texts-tell t is names w v iw iv same = tell t is names w v iw iv same
