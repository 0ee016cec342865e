-- The conditions of `find`, one after another.
use Rattle.std.proofs.Common.{◌≡◌, List, [], ◌∷◌, ◌++◌, append-nil, append_assoc, refl, ap, sym, ◌∙◌}
use Rattle.std.specs.Prelude.{Option, None, Some, Result, Ok, Err}
use Rattle.data_meaning.specs.Values.{Value}
use Rattle.door_meaning.specs.Conditions.{Test, fields_named, tested_value, tests_of}
use Rattle.door_meaning.specs.Names.{field_in_at}
use Rattle.door_meaning.specs.Orders.{finds, goes}
use Rattle.door_meaning.specs.Replies.{Reply, WrongShape, reply_data}
use Rattle.door_requests.specs.declared.requests.Condition.{Condition}
use Rattle.door_judge.specs.declared.halt.Halt.{Halt}
use Rattle.door_judge.specs.declared.halt.Halt.TheVariants.{Replied, OutOfMemory}
use Rattle.door_judge.specs.Coming.{Comes}
use Rattle.door_judge.specs.Tests.{test_named}
use Rattle.type_schema.specs.Schema.{FieldInfo, ModelInfo}

-- those that are done, in front of what a stage comes to
abbrev pub behind : {A : Type 0} → List A → Result (List A) Reply → Result (List A) Reply
behind done r = goes r (λ more. Ok (done ++ more))

-- one in front of what a stage comes to
abbrev first_and : {A : Type 0} → A → Result (List A) Reply → Result (List A) Reply
first_and x r = goes r (λ more. Ok (x ∷ more))

pub behind_none : {A : Type 0} (r : Result (List A) Reply) → r ≡ behind [] r
behind_none (Ok xs) = refl
behind_none (Err e) = refl

pub behind_all : {A : Type 0} (done : List A) → behind done (Ok []) ≡ Ok done
behind_all done = ap Ok (append-nil done)

behind_more : {A : Type 0} (done : List A) (x : A) (r : Result (List A) Reply) → behind done (first_and x r) ≡ behind (done ++ x ∷ []) r
behind_more done x (Ok more) = ap Ok (sym (append_assoc done (x ∷ []) more))
behind_more done x (Err e) = refl

-- ---- fields

module _ (m : ModelInfo) (done : List FieldInfo) (c : Condition) (cs : List Condition) where
  abbrev field_and : Result FieldInfo Reply → Result (List FieldInfo) Reply
  field_and r = behind done (goes r (λ (f : FieldInfo). first_and f (fields_named m cs)))

  pub fields_next : (f : FieldInfo) → field_in_at m c.field ≡ Ok f → behind done (fields_named m (c ∷ cs)) ≡ behind (done ++ f ∷ []) (fields_named m cs)
  fields_next f is = ap field_and is ∙ behind_more done f (fields_named m cs)

  pub fields_stop : (e : Reply) → field_in_at m c.field ≡ Err e → behind done (fields_named m (c ∷ cs)) ≡ Err e
  fields_stop e is = ap field_and is

-- ---- tests

module _ (done : List Test) (f : FieldInfo) (fields : List FieldInfo) (c : Condition) (cs : List Condition) where
  abbrev test_and : Result Test Reply → Result (List Test) Reply
  test_and r = behind done (goes r (λ (t : Test). first_and t (tests_of fields cs)))

  abbrev test_with : Value → Test
  test_with v = record { field = f; op = c.op; value = v }

  -- the stages of one test, as one stage
  as_one : behind done (tests_of (f ∷ fields) (c ∷ cs)) ≡ test_and (test_named f c)
  as_one =
      elim (tested_value c.op f.ty c.value) as (λ (o : Option Value). behind done (goes (finds o (WrongShape f.name)) (λ v. first_and (test_with v) (tests_of fields cs)))
      ≡ test_and (goes (finds o (WrongShape f.name)) (λ v. Ok (test_with v)))) [
        | None ↦ refl
        | Some v ↦ refl
      ]

  pub tests_next : (t : Test) → test_named f c ≡ Ok t → behind done (tests_of (f ∷ fields) (c ∷ cs)) ≡ behind (done ++ t ∷ []) (tests_of fields cs)
  tests_next t is = as_one ∙ ap test_and is ∙ behind_more done t (tests_of fields cs)

  pub tests_stop : (e : Reply) → test_named f c ≡ Err e → behind done (tests_of (f ∷ fields) (c ∷ cs)) ≡ Err e
  tests_stop e is = as_one ∙ ap test_and is

-- what stops one stage stops the whole
pub comes_stop : {A B C D : Type 0} (stage : Result A Reply) (view : B → A) (whole : Result C Reply) (seen : D → C) (e : Halt) → ((reply : Reply) → stage ≡ Err reply → whole ≡ Err reply)
    → Comes stage view (Err e) → Comes whole seen (Err e)
comes_stop stage view whole seen (Replied answer) stops is = stops (reply_data answer) is
comes_stop stage view whole seen OutOfMemory stops is = tt
