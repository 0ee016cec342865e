-- The notes of a script, one command after the other.
use Rattle.std.proofs.Common.{◌≡◌, ℕ, zero, suc, ◌+◌, ◌<◌, List, [], ◌∷◌, ◌++◌, refl, ap, sym, ◌∙◌, add-one, arith, drop, get_or, length, map}
use Rattle.std.specs.Prelude.{Some, slice_get, slice_index_or}
use Rattle.std.specs.List.{enumerate_from, flat_map}
use Rattle.std.proofs.lemmas.List.{append_assoc}
use Rattle.type_schema.specs.declared.schemas.Schema as code_schema
use Rattle.type_schema.specs.declared.commands.TCommand.{TCommand}
use Rattle.type_schema.specs.Schema.{Schema}
use Rattle.type_schema.specs.SchemaViews.{command_of, schema_of}
use Rattle.type_schema.specs.Commands.{Command}
use Rattle.type_schema.specs.Script.{Script, command_at, schema_at}
use Rattle.store_keeper.specs.declared.stored.Note.{Note}
use Rattle.store_migrate.proofs.Runs.{command-there}
use Rattle.store_apply.specs.Notes.{new_notes, notes_of}

-- the notes of these commands, the first of which stands behind k others
abbrev notes-from : Script → (version k : ℕ) → List Command → List Note
notes-from t version k commands =
    flat_map (λ (at : ℕ × Command). notes_of (schema_at t at.0) version (at.0 + 1) at.1) (enumerate_from k commands)

-- the notes of the commands behind the first k
abbrev pub notes-left : Script → (version k : ℕ) → List Note
notes-left t version k = notes-from t version k (drop k t.commands)

drop-suc : {A : Type 0} (xs : List A) (k : ℕ) (x : A) → slice_get xs k ≡ Some x → drop k xs ≡ x ∷ drop (suc k) xs
drop-suc [] k x e = absurd (cc e)
drop-suc (y ∷ xs) zero x e = let same : y ≡ x = cc e in ap (λ z. z ∷ xs) same
drop-suc (y ∷ xs) (suc k) x e = drop-suc xs k x e

drop-at : {A : Type 0} (xs : List A) (k : ℕ) (x : A) → slice_get xs k ≡ Some x → drop k xs ≡ x ∷ drop (k + 1) xs
drop-at xs k x e = drop-suc xs k x e ∙ ap (λ n. x ∷ drop n xs) (sym (add-one k))

-- one command further
pub left-more : (t : Script) (version k : ℕ) (c : Command) (start before after : List Note) → command_at t k ≡ Some c → before ++ notes-left t version k ≡ start ++ new_notes t version
    → after ≡ before ++ notes_of (schema_at t k) version (k + 1) c → after ++ notes-left t version (k + 1) ≡ start ++ new_notes t version
left-more t version k c start before after here was is =
    let own = notes_of (schema_at t k) version (k + 1) c in
    ap (λ ns. ns ++ notes-left t version (k + 1)) is
    ∙ append_assoc before own (notes-left t version (k + 1))
    ∙ ap (λ ns. before ++ ns) (sym (ap (λ cs. notes-from t version k cs) (drop-at t.commands k c here)))
    ∙ was

-- ---- what stands at a place of the code's lists

schema-there : (ss : List code_schema.Schema) (k : ℕ) (s : code_schema.Schema) (other : Schema) → k < length ss → schema_of (get_or ss k s) ≡ slice_index_or (map schema_of ss) k other
schema-there [] k s other within = absurd (omega arith)
schema-there (r ∷ ss) zero s other within = refl
schema-there (r ∷ ss) (suc k) s other within = schema-there ss k s other (omega arith)

pub schema-is : (ss seen : List code_schema.Schema) (k : ℕ) (s : code_schema.Schema) (other : Schema) → seen ≡ ss → k < length ss → s ≡ get_or seen k s
    → schema_of s ≡ slice_index_or (map schema_of ss) k other
schema-is ss seen k s other same within is = ap schema_of (is ∙ ap (λ l. get_or l k s) same) ∙ schema-there ss k s other within

pub command-is : (cs seen : List TCommand) (k : ℕ) (c : TCommand) → seen ≡ cs → k < length cs → c ≡ get_or seen k c → slice_get (map command_of cs) k ≡ Some (command_of c)
command-is cs seen k c same within is = command-there cs k c within ∙ ap (λ d. Some (command_of d)) (sym (is ∙ ap (λ l. get_or l k c) same))
