-- Commands that leave databases as they are.
use Rattle.std.proofs.Common.{◌≡◌, ℕ, zero, suc, ◌<◌, ◌≤◌, Bool, true, false, ◌||◌, List, [], ◌∷◌, refl, ap, sym, ◌∙◌, arith, map, take}
use Rattle.std.specs.Prelude.{Option, None, Some, slice_get}
use Rattle.std.specs.List.{list_any}
use Rattle.type_schema.specs.declared.commands.TCommand.{TCommand}
use Rattle.type_schema.specs.SchemaViews.{command_of}
use Rattle.type_schema.specs.Commands.{Command, create_model, delete_model, add_static, remove_static, add_principal, add_field, remove_field, update_field, weaken_field, update_model, weaken_model}
use Rattle.type_schema.specs.Script.{Script, command_at}
use Rattle.data_meaning.specs.Database.{Database}
use Rattle.data_meaning.specs.Run.{after_command, after_if_any, run_to}
use Rattle.impact_shrink.specs.Judged.{changes}

left : (c : Command) → changes c ≡ false → (d : Database) → after_command c d ≡ d
left (create_model m) h d = refl
left (delete_model m) h d = absurd cc
left (add_static n) h d = refl
left (remove_static n) h d = refl
left (add_principal m) h d = refl
left (add_field m f init) h d = absurd cc
left (remove_field m f) h d = absurd cc
left (update_field m f read write) h d = refl
left (weaken_field m f read write reason) h d = refl
left (update_model m create delete) h d = refl
left (weaken_model m create delete reason) h d = refl

-- each of the first k
none-before : (cs : List Command) (k j : ℕ) (c : Command) → list_any changes (take k cs) ≡ false → j < k → slice_get cs j ≡ Some c → changes c ≡ false
none-before [] k j c none below at = absurd cc
none-before (x ∷ xs) zero j c none below at = absurd (omega arith)
none-before (x ∷ xs) (suc k) zero c none below at = first (changes x) (list_any changes (take k xs)) (let same : x ≡ c = cc in ap changes (sym same)) none
  where
    first : (a b : Bool) → changes c ≡ a → (a || b) ≡ false → changes c ≡ false
    first true b is h = absurd cc
    first false b is h = is
none-before (x ∷ xs) (suc k) (suc j) c none below at = none-before xs k j c (rest (changes x) (list_any changes (take k xs)) none) (omega arith) at
  where
    rest : (a b : Bool) → (a || b) ≡ false → b ≡ false
    rest true b h = absurd cc
    rest false b h = h

-- the commands of the code
any-taken : (k : ℕ) (cs : List TCommand) → list_any (λ (c : TCommand). changes (command_of c)) (take k cs) ≡ list_any changes (take k (map command_of cs))
any-taken zero cs = refl
any-taken (suc k) [] = refl
any-taken (suc k) (c ∷ cs) = ap (λ b. changes (command_of c) || b) (any-taken k cs)

pub any-taken-as : (r : Bool) (k n : ℕ) (xs ys : List TCommand) → n ≡ k → xs ≡ ys → r ≡ list_any (λ (c : TCommand). changes (command_of c)) (take n xs)
    → r ≡ list_any changes (take k (map command_of ys))
any-taken-as r k n xs ys same those is =
    is ∙ ap (λ m. list_any (λ (c : TCommand). changes (command_of c)) (take m xs)) same
    ∙ ap (λ cs. list_any (λ (c : TCommand). changes (command_of c)) (take k cs)) those ∙ any-taken k ys

-- after as many of them as no one of which changes it, a database is what it was
pub run-left : (t : Script) (k : ℕ) → list_any changes (take k t.commands) ≡ false → (d : Database) → run_to t k d ≡ d
run-left t k none d = up-to k (omega arith)
  where
    one : (j : ℕ) → j < k → (o : Option Command) → slice_get t.commands j ≡ o → (b : Database) → after_if_any o b ≡ b
    one j below None at b = refl
    one j below (Some c) at b = left c (none-before t.commands k j c none below at) b

    up-to : (j : ℕ) → j ≤ k → run_to t j d ≡ d
    up-to zero within = refl
    up-to (suc j) within = one j (omega arith) (command_at t j) refl (run_to t j d) ∙ up-to j (omega arith)
