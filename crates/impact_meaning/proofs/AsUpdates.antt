-- A script with its weakenings taken for updates is a script, and runs as before.
use Rattle.std.proofs.Common.{◌≡◌, ℕ, zero, suc, ◌+◌, ◌-◌, ◌<◌, ◌≤◌, Bool, true, false, ◌&&◌, List, [], ◌∷◌, ◌++◌, length, refl, ap, sym, ◌∙◌, subst, arith, Contains}
use Rattle.std.specs.Prelude.{Option, Some, None, map, slice_get, take, not, ◌||◌}
use Rattle.std.specs.List.{list_any}
use Rattle.std.specs.Option.{option_map, option_map_or}
use Rattle.std.proofs.lemmas.List.{length-map, take-map}
use Rattle.std.proofs.lemmas.Option.{slice_get-map}
use Rattle.type_schema.specs.declared.rights.Kind.{Kind}
use Rattle.type_schema.specs.Schema.{ModelInfo, Schema}
use Rattle.type_schema.specs.Commands.{Command, create_model, delete_model, add_static, remove_static, add_principal, add_field, remove_field, update_field, weaken_field, update_model, weaken_model, schema_after, IsCommand}
use Rattle.type_schema.specs.Script.{Script, count, schema_at, command_at, created_by, created, start_of, IsScript}
use Rattle.type_schema.specs.Kinds.{has_kind, same_kind, dropped_by, is_dropped, is_kind_at, kinds_at}
use Rattle.data_meaning.specs.Database.{Database}
use Rattle.data_meaning.specs.Run.{after_command, after_if_any, run_to}
use Rattle.impact_meaning.specs.Undeclared.{as_update, undeclared}
use Rattle.impact_meaning.specs.Laws.{UndeclaredAreScripts}

-- ---- one command

after-same : (s : Schema) (c : Command) → schema_after s (as_update c) ≡ schema_after s c
after-same s (create_model m) = refl
after-same s (delete_model m) = refl
after-same s (add_static n) = refl
after-same s (remove_static n) = refl
after-same s (add_principal m) = refl
after-same s (add_field m f init) = refl
after-same s (remove_field m f) = refl
after-same s (update_field m f read write) = refl
after-same s (weaken_field m f read write reason) = refl
after-same s (update_model m create delete) = refl
after-same s (weaken_model m create delete reason) = refl

command-still : (s : Schema) (c : Command) → IsCommand s c → IsCommand s (as_update c)
command-still s (create_model m) h = h
command-still s (delete_model m) h = h
command-still s (add_static n) h = h
command-still s (remove_static n) h = h
command-still s (add_principal m) h = h
command-still s (add_field m f init) h = h
command-still s (remove_field m f) h = h
command-still s (update_field m f read write) h = h
command-still s (weaken_field m f read write reason) h = (h.0, h.1)
command-still s (update_model m create delete) h = h
command-still s (weaken_model m create delete reason) h = (h.0, h.1)

created-same : (c : Command) → created_by (as_update c) ≡ created_by c
created-same (create_model m) = refl
created-same (delete_model m) = refl
created-same (add_static n) = refl
created-same (remove_static n) = refl
created-same (add_principal m) = refl
created-same (add_field m f init) = refl
created-same (remove_field m f) = refl
created-same (update_field m f read write) = refl
created-same (weaken_field m f read write reason) = refl
created-same (update_model m create delete) = refl
created-same (weaken_model m create delete reason) = refl

run-same : (c : Command) (d : Database) → after_command (as_update c) d ≡ after_command c d
run-same (create_model m) d = refl
run-same (delete_model m) d = refl
run-same (add_static n) d = refl
run-same (remove_static n) d = refl
run-same (add_principal m) d = refl
run-same (add_field m f init) d = refl
run-same (remove_field m f) d = refl
run-same (update_field m f read write) d = refl
run-same (weaken_field m f read write reason) d = refl
run-same (update_model m create delete) d = refl
run-same (weaken_model m create delete reason) d = refl

dropped-same : (c : Command) → dropped_by (as_update c) ≡ dropped_by c
dropped-same (create_model m) = refl
dropped-same (delete_model m) = refl
dropped-same (add_static n) = refl
dropped-same (remove_static n) = refl
dropped-same (add_principal m) = refl
dropped-same (add_field m f init) = refl
dropped-same (remove_field m f) = refl
dropped-same (update_field m f read write) = refl
dropped-same (weaken_field m f read write reason) = refl
dropped-same (update_model m create delete) = refl
dropped-same (weaken_model m create delete reason) = refl

-- ---- lists of commands

all-created : (commands : List Command) → created (map as_update commands) ≡ created commands
all-created [] = refl
all-created (c ∷ commands) =
    ap (λ one. one ++ created (map as_update commands)) (created-same c) ∙ ap (λ rest. created_by c ++ rest) (all-created commands)

all-dropped : (a : Kind) (commands : List Command) → is_dropped a (map as_update commands) ≡ is_dropped a commands
all-dropped a [] = refl
all-dropped a (c ∷ commands) =
    ap (λ o. option_map_or (same_kind a) o false || is_dropped a (map as_update commands)) (dropped-same c)
    ∙ ap (λ b. option_map_or (same_kind a) (dropped_by c) false || b) (all-dropped a commands)

-- ---- the script

module _ (t : Script) where
  pub same-count : count (undeclared t) ≡ count t
  same-count = length-map t.commands as_update

  pub command-so : (k : ℕ) → command_at (undeclared t) k ≡ option_map as_update (command_at t k)
  command-so k = slice_get-map as_update t.commands k

  pub same-run : (k : ℕ) (d : Database) → run_to (undeclared t) k d ≡ run_to t k d
  same-run zero d = refl
  same-run (suc k) d =
      let step : after_if_any (command_at (undeclared t) k) (run_to (undeclared t) k d) ≡ after_if_any (option_map as_update (command_at t k)) (run_to t k d)
      = ap (λ o. after_if_any o (run_to (undeclared t) k d)) (command-so k) ∙ ap (λ e. after_if_any (option_map as_update (command_at t k)) e) (same-run k d) in
      step
      ∙ elim (command_at t k) as (λ (o : Option Command). after_if_any (option_map as_update o) (run_to t k d) ≡ after_if_any o (run_to t k d)) [
        | None ↦ refl
        | Some c ↦ run-same c (run_to t k d)
      ]

  pub same-kinds : (k : ℕ) (a : Kind) → is_kind_at (undeclared t) k a ≡ is_kind_at t k a
  same-kinds k a =
      let dropped : is_dropped a (take k (map as_update t.commands)) ≡ is_dropped a (take k t.commands)
      = ap (is_dropped a) (take-map as_update k t.commands) ∙ all-dropped a (take k t.commands) in
      ap (λ b. list_any (λ s. has_kind s a) t.schemas && not b) dropped

  same-start : start_of t ≡ start_of (undeclared t)
  same-start =
      let over : ℕ → List ModelInfo → Schema = λ n made. record {
        statics = (schema_at t 0).statics;
        models = (schema_at t 0).models ++ made;
        next_static = (schema_at t n).next_static;
        next_model = (schema_at t n).next_model;
        next_field = (schema_at t n).next_field;
        added = [];
        removed = [];
      } in
      sym (ap (λ n. over n (created (map as_update t.commands))) same-count ∙ ap (over (count t)) (all-created t.commands))

  -- the command at a place, of which the other is what it is taken for
  pub command-of : (k : ℕ) (c : Command) → command_at (undeclared t) k ≡ Some c → (b : Command) × (command_at t k ≡ Some b) × (as_update b ≡ c)
  command-of k c h =
      elim (command_at t k) as (λ (o : Option Command). command_at t k ≡ o → option_map as_update o ≡ Some c → (b : Command) × (command_at t k ≡ Some b) × (as_update b ≡ c)) [
        | None ↦ λ here e. cc
        | Some b ↦ λ here e. (b, here, cc)
      ] refl (sym (command-so k) ∙ h)

pub undeclared_scripts : UndeclaredAreScripts
undeclared_scripts t is =
    record {
      few = omega (arith, is.few, same-count t);
      schemas = is.schemas ∙ ap (λ n. n + 1) (sym (same-count t));
      proper = λ k within. is.proper k (subst (λ (n : ℕ). k ≤ n) (same-count t) within);
      commands = λ k c here.
          let one = command-of t k c here in
          subst (λ (b : Command). IsCommand (schema_at t k) b) one.2 (command-still (schema_at t k) one.0 (is.commands k one.0 one.1));
      steps = λ k c here.
          let one = command-of t k c here in
          is.steps k one.0 one.1 ∙ sym (after-same (schema_at t k) one.0) ∙ ap (schema_after (schema_at t k)) one.2;
      nothing_added = is.nothing_added;
      start = is.start ∙ same-start t;
    }
