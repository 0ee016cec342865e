-- What the printed name of a model, a static or a field tells.
use Rattle.std.proofs.Common.{◌≡◌, ℕ, suc, ◌^◌, ◌<◌, ◌≤◌, Bool, true, List, [], ◌∷◌, ◌++◌, map, refl, ◌∙◌, ap, subst, arith, codes, length, append_assoc, append-nil}
use Rattle.std.specs.Prelude.{Option, Some, None, is_some, option_and_then, position, ◌==◌}
use Rattle.std.specs.Fmt.{decimal}
use Rattle.std.specs.List.{find, flat_map, list_any}
use Rattle.std.specs.Option.{option_map, option_map_or}
use Rattle.std.specs.Str.{bytes_eq}
use Rattle.std.proofs.lemmas.Bool.{eqb-true}
use Rattle.text_ast.specs.Words.{IsName}
use Rattle.type_schema.specs.Schema.{StaticInfo, FieldInfo, ModelInfo, Schema, model_of, field_in, field_of}
use Rattle.type_schema.specs.Typing.{HasModel}
use Rattle.type_schema.specs.Commands.{Command, create_model, delete_model, add_static, remove_static, add_principal, add_field, remove_field, update_field, weaken_field, update_model, weaken_model, HasField}
use Rattle.type_schema.specs.Proper.{AreProperFields}
use Rattle.type_schema.specs.Script.{Script, schema_at, created_by, count, IsScript}
use Rattle.data_meaning.proofs.Finds.{find-among}
use Rattle.data_back.specs.Laws.{EndsNumber, EndsName}
use Rattle.data_back.specs.Reading.{after, word_at, name_at}
use Rattle.data_back.proofs.Printed.{pieces-read}
use Rattle.check_witness.specs.Printed.{statics_by, marked, model_text, static_text, field_text}
use Rattle.check_report_back.specs.Told.{statics_in, HasNames}
use Rattle.check_report_back.proofs.Marks.{IsCounted, place-below, nowhere}
use Rattle.check_report_back.proofs.Numbered.{counted, found-first, none-made, front-distinct, back-distinct}
use Rattle.check_report_back.proofs.WitnessCuts.{some-of, made-all, only}
use Rattle.check_report_back.specs.Back.{model_by, static_by, model_named, static_named, field_named, mark_at, given, field_at}
use Rattle.check_report_back.proofs.Searches.{at-place, by-name}

-- ---- marks

-- what stands behind a name, and behind a mark
pub record Follows (r : List ℕ) : Type 0 where
  pub name : EndsName r
  pub number : EndsNumber r
  pub plain : word_at (codes "@") r ≡ None

pub blank : (r : List ℕ) → Follows (32 ∷ r)
blank r = record { name = refl; number = refl; plain = refl }

pub dot : (r : List ℕ) → Follows (46 ∷ r)
dot r = record { name = refl; number = refl; plain = refl }

pub line-end : (r : List ℕ) → Follows (10 ∷ r)
line-end r = record { name = refl; number = refl; plain = refl }

abbrev mark : Option ℕ → List ℕ
mark None = []
mark (Some k) = codes "@" ++ decimal (suc k)

with-mark : (x : List ℕ) (o : Option ℕ) (r : List ℕ) → marked x o ++ r ≡ x ++ (mark o ++ r)
with-mark x None r = refl
with-mark x (Some k) r = simp (append_assoc, append-nil)

ends-mark : (o : Option ℕ) (r : List ℕ) → Follows r → EndsName (mark o ++ r)
ends-mark None r follows = follows.name
ends-mark (Some k) r follows = refl

mark-read : (o : Option ℕ) (r : List ℕ) → IsCounted o → Follows r → mark_at (mark o ++ r) ≡ Some (option_map suc o, r)
mark-read None r small follows = rw follows.plain refl
mark-read (Some k) r small follows = rw (pieces-read.number (suc k) r small follows.number) refl

-- what is read of a name that is printed: the name and the number, with which it tells a thing
pub record IsNamed (tells : List ℕ → Option ℕ → Option ℕ) (text : List ℕ) (n : ℕ) (r : List ℕ) : Type 0 where
  pub name : List ℕ
  pub number : Option ℕ
  pub behind : List ℕ
  pub first : name_at (text ++ r) ≡ Some (name, behind)
  pub second : mark_at behind ≡ Some (number, r)
  pub told : tells name number ≡ Some n

named : (tells : List ℕ → Option ℕ → Option ℕ) (text x : List ℕ) (o : Option ℕ) (n : ℕ) (r : List ℕ) → text ≡ marked x o → IsName x → IsCounted o → Follows r
    → tells x (option_map suc o) ≡ Some n → IsNamed tells text n r
named tells text x o n r e is small follows told = record {
  name = x;
  number = option_map suc o;
  behind = mark o ++ r;
  first = ap (λ z. name_at (z ++ r)) e ∙ ap name_at (with-mark x o r) ∙ pieces-read.name x (mark o ++ r) is (ends-mark o r follows);
  second = mark-read o r small follows;
  told = told;
}

-- ---- what a command adds

adds-model : (c : Command) (m : ℕ) → list_any (λ (i : ModelInfo). i.number == m) (created_by c) ≡ true → model_by c ≡ Some m
adds-model (create_model info) m h = ap Some (eqb-true info.number m (only (info.number == m) h))
adds-model (delete_model k) m h = cc
adds-model (add_static info) m h = cc
adds-model (remove_static k) m h = cc
adds-model (add_principal k) m h = cc
adds-model (add_field k f init) m h = cc
adds-model (remove_field k f) m h = cc
adds-model (update_field k f read write) m h = cc
adds-model (weaken_field k f read write reason) m h = cc
adds-model (update_model k create delete) m h = cc
adds-model (weaken_model k create delete reason) m h = cc

adds-static : (c : Command) (n : ℕ) → list_any (λ (i : StaticInfo). i.number == n) (statics_by c) ≡ true → static_by c ≡ Some n
adds-static (create_model info) n h = cc
adds-static (delete_model k) n h = cc
adds-static (add_static info) n h = ap Some (eqb-true info.number n (only (info.number == n) h))
adds-static (remove_static k) n h = cc
adds-static (add_principal k) n h = cc
adds-static (add_field k f init) n h = cc
adds-static (remove_field k f) n h = cc
adds-static (update_field k f read write) n h = cc
adds-static (weaken_field k f read write reason) n h = cc
adds-static (update_model k create delete) n h = cc
adds-static (weaken_model k create delete reason) n h = cc

module _ (t : Script) (is : IsScript t) (names : HasNames t) where
  few : length t.commands < 2 ^ 63
  few = omega (arith, is.few)

  start-models : t.start.models ≡ (schema_at t 0).models ++ flat_map created_by t.commands
  start-models = ap (λ (s : Schema). s.models) is.start ∙ ap (λ ms. (schema_at t 0).models ++ ms) (made-all t.commands)

  start-statics : t.start.statics ≡ (schema_at t 0).statics
  start-statics = ap (λ (s : Schema). s.statics) is.start

  -- ---- models

  abbrev creates : ℕ → Command → Bool
  creates m c = list_any (λ (i : ModelInfo). i.number == m) (created_by c)

  model-tells : (m : ℕ) (a : ModelInfo) (o : Option ℕ) → model_of t.start m ≡ Some a → position (creates m) t.commands ≡ o → model_named t a.name (option_map suc o) ≡ Some m
  model-tells m a None found place =
      let proper = is.proper 0 (omega arith) in
      by-name (λ (i : ModelInfo). i.number) (λ (i : ModelInfo). i.name) (schema_at t 0).models m a
      (back-distinct (map (λ (i : StaticInfo). i.name) (schema_at t 0).statics) (map (λ (i : ModelInfo). i.name) (schema_at t 0).models) proper.names)
      (found-first (λ (i : ModelInfo). i.number == m) (schema_at t 0).models (flat_map created_by t.commands) a
      (subst (λ ms. find (λ (i : ModelInfo). i.number == m) ms ≡ Some a) start-models found)
      (none-made (λ (i : ModelInfo). i.number == m) created_by t.commands (nowhere (creates m) t.commands place)))
  model-tells m a (Some k) found place =
      let there = at-place (creates m) t.commands k place in
      ap (option_and_then model_by) there.1 ∙ adds-model there.0 m there.2

  pub model-is-named : (m : ℕ) (r : List ℕ) → HasModel t.start m → Follows r → IsNamed (model_named t) (model_text t m) m r
  model-is-named m r has follows =
      let a = some-of (model_of t.start m) has in
      let place = position (creates m) t.commands in
      named (model_named t) (model_text t m) a.0.name place m r (ap (λ (o : Option ModelInfo). marked (option_map_or (λ (i : ModelInfo). i.name) o []) place) a.1)
      (find-among (λ (i : ModelInfo). IsName i.name) (λ (i : ModelInfo). i.number == m) t.start.models a.0 names.models a.1)
      (counted place (length t.commands) few (λ k at. place-below (creates m) t.commands k at)) follows (model-tells m a.0 place a.1 refl)

  -- ---- statics

  abbrev adds : ℕ → Command → Bool
  adds n c = list_any (λ (i : StaticInfo). i.number == n) (statics_by c)

  static-tells : (n : ℕ) (a : StaticInfo) (o : Option ℕ) → find (λ (i : StaticInfo). i.number == n) (statics_in t) ≡ Some a → position (adds n) t.commands ≡ o
      → static_named t a.name (option_map suc o) ≡ Some n
  static-tells n a None found place =
      let proper = is.proper 0 (omega arith) in
      by-name (λ (i : StaticInfo). i.number) (λ (i : StaticInfo). i.name) (schema_at t 0).statics n a
      (front-distinct (map (λ (i : StaticInfo). i.name) (schema_at t 0).statics) (map (λ (i : ModelInfo). i.name) (schema_at t 0).models) proper.names)
      (found-first (λ (i : StaticInfo). i.number == n) (schema_at t 0).statics (flat_map statics_by t.commands) a
      (subst (λ ns. find (λ (i : StaticInfo). i.number == n) (ns ++ flat_map statics_by t.commands) ≡ Some a) start-statics found)
      (none-made (λ (i : StaticInfo). i.number == n) statics_by t.commands (nowhere (adds n) t.commands place)))
  static-tells n a (Some k) found place =
      let there = at-place (adds n) t.commands k place in
      ap (option_and_then static_by) there.1 ∙ adds-static there.0 n there.2

  pub static-is-named : (n : ℕ) (r : List ℕ) → is_some (find (λ (i : StaticInfo). i.number == n) (statics_in t)) ≡ true → Follows r
      → IsNamed (static_named t) (static_text t n) n r
  static-is-named n r has follows =
      let a = some-of (find (λ (i : StaticInfo). i.number == n) (statics_in t)) has in
      let place = position (adds n) t.commands in
      named (static_named t) (static_text t n) a.0.name place n r (ap (λ (o : Option StaticInfo). marked (option_map_or (λ (i : StaticInfo). i.name) o []) place) a.1)
      (find-among (λ (i : StaticInfo). IsName i.name) (λ (i : StaticInfo). i.number == n) (statics_in t) a.0 names.statics a.1)
      (counted place (length t.commands) few (λ k at. place-below (adds n) t.commands k at)) follows (static-tells n a.0 place a.1 refl)

  -- ---- fields

  field-tells : (k m f : ℕ) (a : FieldInfo) → k ≤ count t → field_of (schema_at t k) m f ≡ Some a → field_named t k m a.name ≡ Some f
  field-tells k m f a low found =
      elim (model_of (schema_at t k) m) as (λ (o : Option ModelInfo). model_of (schema_at t k) m ≡ o → option_and_then (λ (i : ModelInfo). field_in i.fields f) o ≡ Some a
      → option_map (λ (i : FieldInfo). i.number) (option_and_then (λ (i : ModelInfo). find (λ (g : FieldInfo). bytes_eq g.name a.name) i.fields) o) ≡ Some f) [
        | None ↦ λ model e. cc
        | Some info ↦ λ model e.
            let proper = find-among (AreProperFields (schema_at t k).next_field) (λ (i : ModelInfo). i.number == m) (schema_at t k).models info (is.proper k low).fields model in
            by-name (λ (i : FieldInfo). i.number) (λ (i : FieldInfo). i.name) info.fields f a proper.names e
      ] refl found

  pub field-read : (k m f : ℕ) (r : List ℕ) → k ≤ count t → HasField (schema_at t k) m f → EndsName r → field_at t k m (field_text t k m f ++ r) ≡ Some (f, r)
  field-read k m f r low has ends =
      let a = some-of (field_of (schema_at t k) m f) has in
      let text : field_text t k m f ≡ a.0.name = ap (λ (o : Option FieldInfo). option_map_or (λ (i : FieldInfo). i.name) o []) a.1 in
      ap (λ z. field_at t k m (z ++ r)) text
      ∙ ap (after (λ name c. given (field_named t k m name) c)) (pieces-read.name a.0.name r (names.fields k m f a.0 a.1) ends)
      ∙ ap (λ o. given o r) (field-tells k m f a.0 low a.1)
