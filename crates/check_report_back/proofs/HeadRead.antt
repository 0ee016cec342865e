-- The lines before the database are read.
use Rattle.std.proofs.Common.{◌≡◌, ℕ, ◌^◌, ◌<◌, ◌≤◌, true, List, [], ◌∷◌, ◌++◌, refl, ◌∙◌, ap, arith, append_assoc, append-nil, codes}
use Rattle.std.specs.Prelude.{Option, Some, None, nat_lt}
use Rattle.std.specs.Fmt.{decimal}
use Rattle.std.specs.List.{concat}
use Rattle.std.proofs.lemmas.Bool.{lt-ltb}
use Rattle.text_ast.specs.Limits.{most_commands}
use Rattle.type_schema.specs.declared.rights.Right.{Right}
use Rattle.type_schema.specs.declared.rights.Right.TheVariants.{Read, Write, Create, Delete}
use Rattle.type_schema.specs.declared.rights.Target.{Target}
use Rattle.type_schema.specs.declared.rights.Target.TheVariants as on
use Rattle.type_schema.specs.Schema.{model_of_target}
use Rattle.type_schema.specs.Typing.{HasModel}
use Rattle.type_schema.specs.Script.{Script, count, IsScript}
use Rattle.data_meaning.specs.declared.principals.Principal.{Principal}
use Rattle.data_meaning.specs.declared.principals.Principal.TheVariants.{Static, Rec}
use Rattle.data_meaning.specs.Values.{IsId}
use Rattle.data_meaning.specs.declared.cells.Cell.{Cell}
use Rattle.data_print.specs.Texts.{id_text}
use Rattle.data_back.specs.Back.{id_at}
use Rattle.data_back.proofs.ValuesRead.{id-read}
use Rattle.data_back.specs.Laws.{EndsNumber}
use Rattle.data_back.specs.Reading.{Answer, after, choose, word_at}
use Rattle.data_back.proofs.Printed.{pieces-read}
use Rattle.check_witness.specs.Printed.{model_text, field_text, target_text, right_text, record_name, principal_text, touched_line, access_text}
use Rattle.check_report_back.specs.Told.{HasNames, IsTargetAt, IsPrincipalIn, IsCellAt}
use Rattle.check_report_back.specs.declared.heads.Head.{Head}
use Rattle.check_report_back.specs.Back.{model_named, static_named, mark_at, given, right_at, number_at, row_at, line_at, model_at, target_at, access_at, who_at, cell_at, head_at}
use Rattle.check_report_back.proofs.NamesTold.{Follows, blank, dot, line-end, model-is-named, static-is-named, field-read}

id-fits : (n : ℕ) → IsId n → n < 2 ^ 64
id-fits n is = omega (arith, is.1)

right-read : (right : Right) (r : List ℕ) → right_at (right_text right ++ r) ≡ Some (right, r)
right-read Read r = refl
right-read Write r = refl
right-read Create r = refl
right-read Delete r = refl

number-read : (k : ℕ) (r : List ℕ) → k ≤ most_commands → EndsNumber r → number_at (decimal k ++ r) ≡ Some (k, r)
number-read k r few ends =
    let small : nat_lt k (2 ^ 32) ≡ true = lt-ltb k (2 ^ 32) (omega (arith, few)) in
    rw (pieces-read.number k r (omega (arith, few)) ends, small) refl

-- what stands on a line
line-read : {A : Type 0} (words text : List ℕ) (part : List ℕ → Answer A) (x : A) (r : List ℕ) → part (text ++ 10 ∷ r) ≡ Some (x, 10 ∷ r)
    → line_at words part (concat (words ∷ text ∷ codes "\n" ∷ []) ++ r) ≡ Some (x, r)
line-read words text part x r read =
    let whole : concat (words ∷ text ∷ codes "\n" ∷ []) ++ r ≡ words ++ (text ++ 10 ∷ r) = simp append_assoc in
    rw (whole, pieces-read.word words (text ++ 10 ∷ r), read) refl

-- how parts stand in a row
two : (a b r : List ℕ) → (a ++ (codes " " ++ (b ++ []))) ++ r ≡ a ++ 32 ∷ (b ++ r)
two a b r = simp (append_assoc, append-nil)

dotted : (a b r : List ℕ) → (codes "field " ++ (a ++ (codes "." ++ (b ++ [])))) ++ r ≡ codes "field " ++ (a ++ 46 ∷ (b ++ r))
dotted a b r = simp (append_assoc, append-nil)

on-line : (a b r : List ℕ) → (codes "touched " ++ (a ++ (codes " " ++ (b ++ codes "\n")))) ++ r ≡ codes "touched " ++ (a ++ 32 ∷ (b ++ 10 ∷ r))
on-line a b r = simp append_assoc

parts : (k target right r : List ℕ)
    → concat (codes "command " ∷ k ∷ codes " " ∷ target ∷ codes " right " ∷ right ∷ []) ++ r ≡ codes "command " ++ (k ++ 32 ∷ (target ++ (codes " right " ++ (right ++ r))))
parts k target right r = simp (append_assoc, append-nil)

module _ (t : Script) (is : IsScript t) (names : HasNames t) where
  model-read : (m : ℕ) (r : List ℕ) → HasModel t.start m → Follows r → model_at t (model_text t m ++ r) ≡ Some (m, r)
  model-read m r has follows =
      let n = model-is-named t is names m r has follows in
      ap (after (λ name a. after (λ mark b. given (model_named t name mark) b) (mark_at a))) n.first
      ∙ ap (after (λ mark b. given (model_named t n.name mark) b)) n.second ∙ ap (λ o. given o r) n.told

  row-read : (m id : ℕ) (r : List ℕ) → HasModel t.start m → IsId id → EndsNumber r → row_at (record_name t m id ++ r) ≡ Some (id, r)
  row-read m id r has fits ends =
      let behind = 32 ∷ (id_text id ++ r) in
      let n = model-is-named t is names m behind has (blank (id_text id ++ r)) in
      ap row_at (two (model_text t m) (id_text id) r)
      ∙ ap (after (λ _ a. after (λ _ b. after (λ _ c. id_at c) (word_at (codes " ") b)) (mark_at a))) n.first
      ∙ ap (after (λ _ b. after (λ _ c. id_at c) (word_at (codes " ") b))) n.second
      ∙ id-read id r (id-fits id fits) ends

  target-read : (k : ℕ) (target : Target) (r : List ℕ) → k ≤ count t → IsTargetAt t k target → target_at t k (target_text t k target ++ 32 ∷ r) ≡ Some (target, 32 ∷ r)
  target-read k (on.Field m f) r low there =
      let behind = 46 ∷ (field_text t k m f ++ 32 ∷ r) in
      ap (target_at t k) (dotted (model_text t m) (field_text t k m f) (32 ∷ r))
      ∙ rw (model-read m behind there.0 (dot (field_text t k m f ++ 32 ∷ r)), field-read t is names k m f (32 ∷ r) low there.1 refl) refl
  target-read k (on.Model m) r low there = rw (model-read m (32 ∷ r) there (blank r)) refl

  access-read : (k : ℕ) (target : Target) (right : Right) (r : List ℕ) → k ≤ count t → IsTargetAt t k target
      → line_at (codes "leak command ") (access_at t) (concat (codes "leak " ∷ access_text t k target right ∷ codes "\n" ∷ []) ++ r)
      ≡ Some (record { command = k; target = target; right = right }, r)
  access-read k target right r low there =
      let behind = codes "right " ++ (right_text right ++ 10 ∷ r) in
      let inside = decimal k ++ 32 ∷ (target_text t k target ++ 32 ∷ behind) in
      let text : concat (codes "leak " ∷ access_text t k target right ∷ codes "\n" ∷ []) ++ r ≡ codes "leak command " ++ inside = simp (append_assoc, append-nil) in
      let few : k ≤ most_commands = omega (arith, is.few) in
      ap (line_at (codes "leak command ") (access_at t)) text
      ∙ rw (number-read k (32 ∷ (target_text t k target ++ 32 ∷ behind)) few refl, target-read k target behind low there, right-read right (10 ∷ r)) refl

  who-read : (who : Principal) (r : List ℕ) → IsPrincipalIn t who → who_at t (principal_text t who ++ 10 ∷ r) ≡ Some (who, 10 ∷ r)
  who-read (Static n) r there =
      let s = static-is-named t is names n (10 ∷ r) there (line-end r) in
      ap (after (λ name a. after (λ mark b. choose (λ c. after (λ m d. after (λ id e. Some (Rec m id, e)) (id_at d)) (given (model_named t name mark) c))
      (after (λ n c. Some (Static n, c)) (given (static_named t name mark) b)) (word_at (codes " ") b)) (mark_at a))) s.first
      ∙ ap (after (λ mark b. choose (λ c. after (λ m d. after (λ id e. Some (Rec m id, e)) (id_at d)) (given (model_named t s.name mark) c))
      (after (λ n c. Some (Static n, c)) (given (static_named t s.name mark) b)) (word_at (codes " ") b))) s.second
      ∙ ap (λ o. after (λ n c. Some (Static n, c)) (given o (10 ∷ r))) s.told
  who-read (Rec m id) r there =
      let rest = id_text id ++ 10 ∷ r in
      let s = model-is-named t is names m (32 ∷ rest) there.0 (blank rest) in
      ap (who_at t) (two (model_text t m) (id_text id) (10 ∷ r))
      ∙ ap (after (λ name a. after (λ mark b. choose (λ c. after (λ m d. after (λ id e. Some (Rec m id, e)) (id_at d)) (given (model_named t name mark) c))
      (after (λ n c. Some (Static n, c)) (given (static_named t name mark) b)) (word_at (codes " ") b)) (mark_at a))) s.first
      ∙ ap (after (λ mark b. choose (λ c. after (λ m d. after (λ id e. Some (Rec m id, e)) (id_at d)) (given (model_named t s.name mark) c))
      (after (λ n c. Some (Static n, c)) (given (static_named t s.name mark) b)) (word_at (codes " ") b))) s.second
      ∙ ap (λ o. after (λ m d. after (λ id e. Some (Rec m id, e)) (id_at d)) (given o rest)) s.told
      ∙ ap (after (λ id e. Some (Rec m id, e))) (id-read id (10 ∷ r) (id-fits id there.1) refl)

  cell-read : (k : ℕ) (cell : Option Cell) (r : List ℕ) → k ≤ count t → IsCellAt t k cell → cell_at t k (touched_line t k cell ++ (codes "database\n" ++ r)) ≡ Some (cell, codes "database\n" ++ r)
  cell-read k None r low there = refl
  cell-read k (Some cell) r low there =
      let rest = codes "database\n" ++ r in
      let field = field_text t k cell.model cell.field in
      let id = id_text cell.id ++ 32 ∷ (field ++ 10 ∷ rest) in
      let text : touched_line t k (Some cell) ++ rest ≡ codes "touched " ++ (model_text t cell.model ++ 32 ∷ id)
      = on-line (record_name t cell.model cell.id) field rest ∙ ap (λ z. codes "touched " ++ z) (two (model_text t cell.model) (id_text cell.id) (32 ∷ (field ++ 10 ∷ rest))) in
      ap (cell_at t k) text
      ∙ rw (
        model-read cell.model (32 ∷ id) there.0 (blank id),
        id-read cell.id (32 ∷ (field ++ 10 ∷ rest)) (id-fits cell.id there.2) refl,
        field-read t is names k cell.model cell.field (10 ∷ rest) low there.1 refl,
      ) refl

  -- ---- all lines

  target-model : (k : ℕ) (target : Target) → IsTargetAt t k target → HasModel t.start (model_of_target target)
  target-model k (on.Field m f) there = there.0
  target-model k (on.Model m) there = there

  pub head-read : (h : Head) (r : List ℕ) → h.access.command ≤ count t → IsTargetAt t h.access.command h.access.target → IsId h.row → IsPrincipalIn t h.who
      → IsCellAt t h.access.command h.cell
      → head_at t (concat (codes "leak " ∷ access_text t h.access.command h.access.target h.access.right ∷ codes "\n" ∷ [])
      ++ (concat (codes "row " ∷ record_name t (model_of_target h.access.target) h.row ∷ codes "\n" ∷ [])
      ++ (concat (codes "principal " ∷ principal_text t h.who ∷ codes "\n" ∷ [])
      ++ (touched_line t h.access.command h.cell ++ (codes "database\n" ++ r)))))
      ≡ Some (h, codes "database\n" ++ r)
  head-read h r low target fits who cell =
      let fourth = touched_line t h.access.command h.cell ++ (codes "database\n" ++ r) in
      let third = concat (codes "principal " ∷ principal_text t h.who ∷ codes "\n" ∷ []) ++ fourth in
      let second = concat (codes "row " ∷ record_name t (model_of_target h.access.target) h.row ∷ codes "\n" ∷ []) ++ third in
      ap (after (λ access a. after (λ row b. after (λ who c. after (λ cell d. Some (record { access = access; row = row; who = who; cell = cell }, d))
      (cell_at t access.command c)) (line_at (codes "principal ") (who_at t) b)) (line_at (codes "row ") row_at a)))
      (access-read h.access.command h.access.target h.access.right second low target)
      ∙ ap (after (λ row b. after (λ who c. after (λ cell d. Some (record { access = h.access; row = row; who = who; cell = cell }, d))
      (cell_at t h.access.command c)) (line_at (codes "principal ") (who_at t) b)))
      (line-read (codes "row ") (record_name t (model_of_target h.access.target) h.row) row_at h.row third
      (row-read (model_of_target h.access.target) h.row (10 ∷ third) (target-model h.access.command h.access.target target) fits refl))
      ∙ ap (after (λ who c. after (λ cell d. Some (record { access = h.access; row = h.row; who = who; cell = cell }, d)) (cell_at t h.access.command c)))
      (line-read (codes "principal ") (principal_text t h.who) (who_at t) h.who fourth (who-read h.who fourth who))
      ∙ ap (after (λ cell d. Some (record { access = h.access; row = h.row; who = h.who; cell = cell }, d))) (cell-read h.access.command h.cell r low cell)
