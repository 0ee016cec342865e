-- Runs of a script, one command after the other.
use Rattle.std.proofs.Common.{◌≡◌, ℕ, zero, suc, ◌+◌, ◌<◌, List, [], ◌∷◌, ◌++◌, refl, ap, sym, ◌∙◌, arith, get_or, length, map, take}
use Rattle.std.specs.Prelude.{Some, slice_get}
use Rattle.std.proofs.lemmas.List.{append-nil, append_assoc, map-append, take_more}
use Rattle.type_schema.specs.declared.commands.TCommand.{TCommand}
use Rattle.type_schema.specs.Schema.{ModelInfo}
use Rattle.type_schema.specs.Commands.{Command}
use Rattle.type_schema.specs.Script.{Script, command_at, created, created_by}
use Rattle.type_schema.specs.SchemaViews.{command_of}
use Rattle.data_meaning.specs.Database.{Database}
use Rattle.data_meaning.specs.Run.{after_command, after_if_any, run_to}
use Rattle.data_records.specs.Inserted.{empty_table}

-- the command at a place
pub command-there : (cs : List TCommand) (k : ℕ) (d : TCommand) → k < length cs → slice_get (map command_of cs) k ≡ Some (command_of (get_or cs k d))
command-there [] k d within = absurd (omega arith)
command-there (c ∷ cs) zero d within = refl
command-there (c ∷ cs) (suc k) d within = command-there cs k d (omega arith)

-- one command further
pub further : (t : Script) (k : ℕ) (c : Command) (start before after : Database) → command_at t k ≡ Some c → before ≡ run_to t k start
    → after ≡ after_command c before → after ≡ run_to t (suc k) start
further t k c start before after here was is = is ∙ ap (after_command c) was ∙ sym (ap (λ o. after_if_any o (run_to t k start)) here)

-- ---- models that commands create

created-append : (cs ds : List Command) → created (cs ++ ds) ≡ created cs ++ created ds
created-append [] ds = refl
created-append (c ∷ cs) ds = ap (λ is. created_by c ++ is) (created-append cs ds) ∙ sym (append_assoc (created_by c) (created cs) (created ds))

pub created-more : (cs : List TCommand) (k : ℕ) (d : TCommand) → k < length cs
    → created (map command_of (take (k + 1) cs)) ≡ created (map command_of (take k cs)) ++ created_by (command_of (get_or cs k d))
created-more cs k d within =
    let front = map command_of (take k cs) in
    let c = command_of (get_or cs k d) in
    ap (λ xs. created (map command_of xs)) (take_more cs k d within)
    ∙ ap created (map-append command_of (take k cs) (get_or cs k d ∷ []))
    ∙ created-append front (c ∷ [])
    ∙ ap (λ is. created front ++ is) (append-nil (created_by c))

-- tables for more of them
pub tables-more : (start before after : Database) (models more all : List ModelInfo) → before ≡ start ++ map empty_table models → after ≡ before ++ map empty_table more
    → all ≡ models ++ more → after ≡ start ++ map empty_table all
tables-more start before after models more all was is joined =
    is ∙ ap (λ d. d ++ map empty_table more) was ∙ append_assoc start (map empty_table models) (map empty_table more)
    ∙ ap (λ d. start ++ d) (sym (map-append empty_table models more)) ∙ ap (λ is. start ++ map empty_table is) (sym joined)
