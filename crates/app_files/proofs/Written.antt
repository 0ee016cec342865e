-- Commands that the grammar spells are written as typing asks, and there are so many at most.
use Rattle.std.proofs.Common.{◌≡◌, ◌≤◌, ◌⊎◌, inl, inr, ℕ, List, [], ◌∷◌, length, refl, ap, sym, ◌∙◌, subst}
use Rattle.std.specs.Prelude.{Option, codes}
use Rattle.std.specs.List.{AllByRecursion}
use Rattle.text_ast.specs.Limits.{most_commands}
use Rattle.text_ast.specs.Pieces.{Piece, pieces_of}
use Rattle.text_tree.specs.declared.policies.Policy.{Policy}
use Rattle.text_tree.specs.declared.commands.Command.{Command}
use Rattle.text_tree.specs.declared.commands.Command.TheVariants as w
use Rattle.text_tree.specs.declared.commands.Script.{Script}
use Rattle.text_tree.specs.Forms.{Spells, SpellsEach, either}
use Rattle.text_tree.specs.Levels.{SpellsPart}
use Rattle.text_tree.specs.ExprGrammar.{Part, tree_of, rule}
use Rattle.text_tree.specs.Grammar.{most_levels, rights, field_right_list, model_right_list, add_field, remove_field, update_field, weaken_field, update_model, weaken_model, model_command, command_form, script_form}
use Rattle.text_tree.specs.Texts.{IsScriptText}
use Rattle.type_commands.specs.CommandLaw.{SomeWritten, IsWritten}
use Rattle.app_files.specs.Typed.{HasText}

pub few_commands : (text : List ℕ) (s : Script) → IsScriptText text s → length s.commands ≤ most_commands
unfolding script_form
few_commands text s (tokens, lexes, (v, is, (each, few))) =
    subst (λ (z : Script). length z.commands ≤ most_commands) (sym is) few

-- ---- policies

-- a command that gives policies gives one
abbrev HasPolicy : Command → Type 0
HasPolicy (w.CreateModel d at) = Unit {0}
HasPolicy (w.DeleteModel model at) = Unit {0}
HasPolicy (w.AddStatic x at) = Unit {0}
HasPolicy (w.RemoveStatic x at) = Unit {0}
HasPolicy (w.AddPrincipal model at) = Unit {0}
HasPolicy (w.AddField model f x init at) = Unit {0}
HasPolicy (w.RemoveField model x at) = Unit {0}
HasPolicy (w.UpdateFieldPolicy model x read write at) = SomeWritten read write
HasPolicy (w.WeakenFieldPolicy model x read write reason at) = SomeWritten read write
HasPolicy (w.UpdatePolicy model create delete at) = SomeWritten create delete
HasPolicy (w.WeakenPolicy model create delete reason at) = SomeWritten create delete

abbrev Parts : (p : Part) → tree_of p → List Piece → Type 0
Parts = SpellsPart rule most_levels

some-given : (one two : List ℕ) (pair : Option Policy × Option Policy) (ls : List Piece) → Spells Parts (rights one two) pair ls → SomeWritten pair.0 pair.1
some-given one two pair ls (x, is, (front, back, glued, opened, (inside, end, parted, inl (v, both, spelled), closed))) =
    subst (λ (z : Option Policy × Option Policy). SomeWritten z.0 z.1) (sym (is ∙ both)) refl
some-given one two pair ls (x, is, (front, back, glued, opened, (inside, end, parted, inr (p, other, spelled), closed))) =
    subst (λ (z : Option Policy × Option Policy). SomeWritten z.0 z.1) (sym (is ∙ other)) refl

update-given : (y : Piece → Command) (model : Piece) (ls : List Piece) → Spells Parts update_field y ls → HasPolicy (y model)
unfolding update_field field_right_list
update-given y model ls (v, is, (p, shape, (front, back, glued, word, (x, inside, (front2, back2, glued2, opened, (middle, end, parted, (front3, back3, glued3, name, (q, kept, (front4, back4, glued4, comma, given))), closed)))))) =
    let some = some-given (codes "read") (codes "write") q.1 back4 given in
    let e : v.1 ≡ q.1 = cc in
    subst (λ (z : Piece → Command). HasPolicy (z model)) (sym is) (subst (λ (z : Option Policy × Option Policy). SomeWritten z.0 z.1) (sym e) some)

weaken-given : (y : Piece → Command) (model : Piece) (ls : List Piece) → Spells Parts weaken_field y ls → HasPolicy (y model)
unfolding weaken_field field_right_list
weaken-given y model ls (v, is, (p, shape, (front, back, glued, word, (x, inside, (front2, back2, glued2, opened, (middle, end, parted, (front3, back3, glued3, name, (front5, back5, glued5, (q, kept, (front4, back4, glued4, comma, given)), reason)), closed)))))) =
    let some = some-given (codes "read") (codes "write") q.1 back4 given in
    let e : v.1.0 ≡ q.1 = cc in
    subst (λ (z : Piece → Command). HasPolicy (z model)) (sym is) (subst (λ (z : Option Policy × Option Policy). SomeWritten z.0 z.1) (sym e) some)

update-model-given : (y : Piece → Command) (model : Piece) (ls : List Piece) → Spells Parts update_model y ls → HasPolicy (y model)
unfolding update_model model_right_list
update-model-given y model ls (v, is, (p, shape, (front, back, glued, word, (x, inside, (front2, back2, glued2, opened, (middle, end, parted, given, closed)))))) =
    let some = some-given (codes "create") (codes "delete") x.1.0 middle given in
    let e : v ≡ x.1.0 = cc in
    subst (λ (z : Piece → Command). HasPolicy (z model)) (sym is) (subst (λ (z : Option Policy × Option Policy). SomeWritten z.0 z.1) (sym e) some)

weaken-model-given : (y : Piece → Command) (model : Piece) (ls : List Piece) → Spells Parts weaken_model y ls → HasPolicy (y model)
unfolding weaken_model model_right_list
weaken-model-given y model ls (v, is, (p, shape, (front, back, glued, word, (x, inside, (front2, back2, glued2, opened, (middle, end, parted, (front3, back3, glued3, given, reason), closed)))))) =
    let some = some-given (codes "create") (codes "delete") x.1.0.0 front3 given in
    let e : v.0 ≡ x.1.0.0 = cc in
    subst (λ (z : Piece → Command). HasPolicy (z model)) (sym is) (subst (λ (z : Option Policy × Option Policy). SomeWritten z.0 z.1) (sym e) some)

model-given : (c : Command) (ls : List Piece) → Spells Parts model_command c ls → HasPolicy c
unfolding model_command add_field remove_field
model-given c ls (v, is, (front, back, glued, upper, (y, second, (front2, back2, glued2, sign, other)))) =
    subst HasPolicy (sym is) (subst (λ (z : Piece → Command). HasPolicy (z v.0)) (sym second) (go other))
  where
    go : Spells Parts (either add_field (either remove_field (either update_field (either weaken_field (either update_model weaken_model))))) y.1 back2 → HasPolicy (y.1 v.0)
    go (inl (u, made, spelled)) = subst (λ (z : Piece → Command). HasPolicy (z v.0)) (sym made) tt
    go (inr (inl (u, made, spelled))) = subst (λ (z : Piece → Command). HasPolicy (z v.0)) (sym made) tt
    go (inr (inr (inl h))) = update-given y.1 v.0 back2 h
    go (inr (inr (inr (inl h)))) = weaken-given y.1 v.0 back2 h
    go (inr (inr (inr (inr (inl h))))) = update-model-given y.1 v.0 back2 h
    go (inr (inr (inr (inr (inr h))))) = weaken-model-given y.1 v.0 back2 h

command-given : (c : Command) (ls : List Piece) → Spells Parts command_form c ls → HasPolicy c
unfolding command_form
command-given c ls (inl (v, is, spelled)) = subst HasPolicy (sym is) tt
command-given c ls (inr (inl (v, is, spelled))) = subst HasPolicy (sym is) tt
command-given c ls (inr (inr (inl (v, is, spelled)))) = subst HasPolicy (sym is) tt
command-given c ls (inr (inr (inr (inl (v, is, spelled))))) = subst HasPolicy (sym is) tt
command-given c ls (inr (inr (inr (inr (inl (v, is, spelled)))))) = subst HasPolicy (sym is) tt
command-given c ls (inr (inr (inr (inr (inr h))))) = model-given c ls h

each-given : (cs : List Command) (ls : List Piece) → SpellsEach (Spells Parts command_form) cs ls → AllByRecursion HasPolicy cs
each-given [] ls h = tt
each-given (c ∷ cs) ls (front, back, glued, one, rest) = (command-given c front one, each-given cs back rest)

-- ---- with the reasons

is-written : (c : Command) → HasPolicy c → HasText c → IsWritten c
is-written (w.CreateModel d at) p t = tt
is-written (w.DeleteModel model at) p t = tt
is-written (w.AddStatic x at) p t = tt
is-written (w.RemoveStatic x at) p t = tt
is-written (w.AddPrincipal model at) p t = tt
is-written (w.AddField model f x init at) p t = tt
is-written (w.RemoveField model x at) p t = tt
is-written (w.UpdateFieldPolicy model x read write at) p t = p
is-written (w.WeakenFieldPolicy model x read write reason at) p t = (p, t)
is-written (w.UpdatePolicy model create delete at) p t = p
is-written (w.WeakenPolicy model create delete reason at) p t = (p, t)

all-written : (cs : List Command) → AllByRecursion HasPolicy cs → AllByRecursion HasText cs → AllByRecursion IsWritten cs
all-written [] p t = tt
all-written (c ∷ cs) p t = (is-written c p.0 t.0, all-written cs p.1 t.1)

pub written : (text : List ℕ) (s : Script) → IsScriptText text s → AllByRecursion HasText s.commands → AllByRecursion IsWritten s.commands
unfolding script_form
written text s (tokens, lexes, (v, is, (each, few))) texts =
    all-written s.commands
    (subst (λ (z : Script). AllByRecursion HasPolicy z.commands) (sym is) (each-given v (pieces_of text tokens) each)) texts
