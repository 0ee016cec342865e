-- What a command is that typing gives: of its form, and of parts that typing gave.
use Rattle.std.proofs.Common.{◌≡◌, ℕ, Bool, true, false, cond, List}
use Rattle.std.specs.Prelude.{Option, Ok, Err}
use Rattle.text_tree.specs.declared.policies.Policy as tree
use Rattle.text_tree.specs.declared.commands.Command as written
use Rattle.text_tree.specs.declared.commands.Command.TheVariants as w
use Rattle.type_schema.specs.Trees.{Policy, Init}
use Rattle.type_schema.specs.Schema.{FieldInfo, ModelInfo, Schema, is_principal_model}
use Rattle.type_schema.specs.Commands.{Command, create_model, delete_model, add_static, remove_static, add_principal, add_field, remove_field, update_field, weaken_field, update_model, weaken_model}
use Rattle.type_typing.specs.declared.type_err.TypeErr.TheVariants.{Twice}
use Rattle.type_specs.specs.Models.{created_model}
use Rattle.type_specs.specs.NewNames.{new_static}
use Rattle.type_specs.specs.Specs.{next_static}
use Rattle.type_commands.specs.declared.thing.Thing.TheVariants as the
use Rattle.type_commands.specs.Resolved.{added_field, added_static, created, field_seen, given, init_over, known_field, known_model, known_static, new_field_in, new_principal, reason_given, removed_field, removed_model, removed_static, resolved, unused, updated_field, updated_model, weakened_field, weakened_model}
use Rattle.type_proper.proofs.Resolves.{bound, ok-same}

module _ (s : Schema) where
  -- two policies that may be given, of a command that is made of them
  abbrev AreGiven : (m : ℕ) (p q : Option tree.Policy) → (made : Option Policy → Option Policy → Command) → Command → Type 0
  AreGiven m p q made command = (r : Option Policy) × (t : Option Policy) × (given s m p ≡ Ok r) × (given s m q ≡ Ok t) × (made r t ≡ command)

  abbrev pub IsMade : written.Command → Command → Type 0
  IsMade (w.CreateModel d at) command = (info : ModelInfo) × (created_model s d ≡ Ok info) × (create_model info ≡ command)
  IsMade (w.DeleteModel model at) command = (m : ℕ) × (delete_model m ≡ command)
  IsMade (w.AddStatic x at) command = (u : Unit {0}) × (new_static s x ≡ Ok u) × (add_static (next_static s x) ≡ command)
  IsMade (w.RemoveStatic x at) command = (n : ℕ) × (remove_static n ≡ command)
  IsMade (w.AddPrincipal model at) command = (m : ℕ) × (add_principal m ≡ command)
  IsMade (w.AddField model f x init at) command =
      (m : ℕ) × (u : Unit {0}) × (field : FieldInfo) × (first : Init) × (new_field_in s m f.name ≡ Ok u) × (add_field m field first ≡ command)
  IsMade (w.RemoveField model x at) command = (m : ℕ) × (f : ℕ) × (remove_field m f ≡ command)
  IsMade (w.UpdateFieldPolicy model x p q at) command = (m : ℕ) × (f : ℕ) × AreGiven m p q (update_field m f) command
  IsMade (w.WeakenFieldPolicy model x p q reason at) command = (m : ℕ) × (f : ℕ) × (text : List ℕ) × AreGiven m p q (λ r t. weaken_field m f r t text) command
  IsMade (w.UpdatePolicy model p q at) command = (m : ℕ) × AreGiven m p q (update_model m) command
  IsMade (w.WeakenPolicy model p q reason at) command = (m : ℕ) × (text : List ℕ) × AreGiven m p q (λ r t. weaken_model m r t text) command

  marked : (b : Bool) (at m : ℕ) (command : Command) → cond b (Err (Twice at)) (Ok (add_principal m)) ≡ Ok command → add_principal m ≡ command
  marked true at m command e = absurd (cc e)
  marked false at m command e = ok-same (add_principal m) command e

  pub is-made : (c : written.Command) (command : Command) → resolved s c ≡ Ok command → IsMade c command
  unfolding resolved created removed_model added_static removed_static new_principal added_field removed_field updated_field weakened_field updated_model weakened_model
  is-made (w.CreateModel d at) command e =
      let (info, goes, is) = bound (created_model s d) (λ (info : ModelInfo). Ok (create_model info)) command e in
      (info, goes, ok-same (create_model info) command is)
  is-made (w.DeleteModel model at) command e =
      let (m, there, e1) = bound (known_model s model) _ command e in
      let (u, none, e2) = bound (unused s (the.Model m) model) _ command e1 in
      (m, ok-same (delete_model m) command e2)
  is-made (w.AddStatic x at) command e =
      let (u, new, e1) = bound (new_static s x) _ command e in
      (u, new, ok-same (add_static (next_static s x)) command e1)
  is-made (w.RemoveStatic x at) command e =
      let (n, there, e1) = bound (known_static s x) _ command e in
      let (u, none, e2) = bound (unused s (the.Static n) x) _ command e1 in
      (n, ok-same (remove_static n) command e2)
  is-made (w.AddPrincipal model at) command e =
      let (m, there, e1) = bound (known_model s model) _ command e in
      (m, marked (is_principal_model s m) model.at m command e1)
  is-made (w.AddField model f x init at) command e =
      let (m, there, e1) = bound (known_model s model) _ command e in
      let (u, new, e2) = bound (new_field_in s m f.name) _ command e1 in
      let (field, seen, e3) = bound (field_seen s m f) _ command e2 in
      let (first, goes, e4) = bound (init_over s m field.ty x init) _ command e3 in
      (m, u, field, first, new, ok-same (add_field m field first) command e4)
  is-made (w.RemoveField model x at) command e =
      let (m, _, e1) = bound (known_model s model) _ command e in
      let (f, there, e2) = bound (known_field s m x) _ command e1 in
      let (u, none, e3) = bound (unused s (the.Field m f) x) _ command e2 in
      (m, f, ok-same (remove_field m f) command e3)
  is-made (w.UpdateFieldPolicy model x p q at) command e =
      let (m, there, e1) = bound (known_model s model) _ command e in
      let (f, _, e2) = bound (known_field s m x) _ command e1 in
      let (r, one, e3) = bound (given s m p) _ command e2 in
      let (t, other, e4) = bound (given s m q) _ command e3 in
      (m, f, (r, t, one, other, ok-same (update_field m f r t) command e4))
  is-made (w.WeakenFieldPolicy model x p q reason at) command e =
      let (m, there, e1) = bound (known_model s model) _ command e in
      let (f, _, e2) = bound (known_field s m x) _ command e1 in
      let (r, one, e3) = bound (given s m p) _ command e2 in
      let (t, other, e4) = bound (given s m q) _ command e3 in
      let (text, _, e5) = bound (reason_given reason) _ command e4 in
      (m, f, text, (r, t, one, other, ok-same (weaken_field m f r t text) command e5))
  is-made (w.UpdatePolicy model p q at) command e =
      let (m, there, e1) = bound (known_model s model) _ command e in
      let (r, one, e2) = bound (given s m p) _ command e1 in
      let (t, other, e3) = bound (given s m q) _ command e2 in
      (m, (r, t, one, other, ok-same (update_model m r t) command e3))
  is-made (w.WeakenPolicy model p q reason at) command e =
      let (m, there, e1) = bound (known_model s model) _ command e in
      let (r, one, e2) = bound (given s m p) _ command e1 in
      let (t, other, e3) = bound (given s m q) _ command e2 in
      let (text, _, e4) = bound (reason_given reason) _ command e3 in
      (m, text, (r, t, one, other, ok-same (weaken_model m r t text) command e4))
