-- Sizes that are within the limit are not refused, and those that are not refused are within it.
use Rattle.std.proofs.Common.{◌≡◌, ℕ, ◌≤◌, Bool, true, false, List, [], ◌∷◌, ◌++◌, length, refl, ap, ◌∙◌, arith, length-append}
use Rattle.std.specs.Prelude.{Ok, Err, leb, max, min, if◌then◌else◌}
use Rattle.std.specs.List.{AllByRecursion, flat_map}
use Rattle.std.proofs.lemmas.Bool.{le-leb, leb-true}
use Rattle.text_tree.specs.declared.models.FieldDef.{FieldDef}
use Rattle.text_tree.specs.declared.models.ModelDef.{ModelDef}
use Rattle.type_schema.specs.Trees.{Policy}
use Rattle.type_schema.specs.Schema.{FieldInfo, ModelInfo, Schema}
use Rattle.type_typing.specs.declared.type_err.TypeErr.TheVariants.{Expanded}
use Rattle.type_typing.specs.Outcome.{Checked, ◌>>=◌}
use Rattle.type_specs.specs.Sizes.{are_small, field_places, field_sizes, is_small, model_places, model_sizes, most_size}
use Rattle.duty_meaning.specs.Formulas.{nothing_written, written_out}
use Rattle.duty_meaning.specs.Sizes.{policy_size, policy_size_over}
use Rattle.type_scripts.specs.Counted.{counted}
use Rattle.type_proper.proofs.Lists.{all-back, all-front}
use Rattle.type_proper.proofs.Resolves.{bound}
use Rattle.type_anew.specs.Room.{FieldIsWithin, ModelIsWithin, PolicyIsWithin}

abbrev pub IsWithin : ℕ → Type 0
IsWithin n = n ≤ most_size

small-one : (n at : ℕ) → IsWithin n → is_small n at ≡ Ok tt
small-one n at is = ap (λ b. if b then Ok tt else Err (Expanded at n)) (le-leb n most_size is)

pub small-all : (sizes places : List ℕ) → AllByRecursion IsWithin sizes → are_small sizes places ≡ Ok tt
small-all [] places all = refl
small-all (n ∷ sizes) [] all = refl
small-all (n ∷ sizes) (at ∷ places) all = ap (λ (o : Checked (Unit {0})). o >>= (λ _. are_small sizes places)) (small-one n at all.0) ∙ small-all sizes places all.1

one-back : (n at : ℕ) (u : Unit {0}) → is_small n at ≡ Ok u → IsWithin n
one-back n at u e = out (leb n most_size) refl e
  where
    out : (b : Bool) → leb n most_size ≡ b → (if b then Ok tt else Err (Expanded at n)) ≡ Ok u → IsWithin n
    out true is e = leb-true n most_size is
    out false is e = absurd (cc e)

-- where each has its place
pub small-back : (sizes places : List ℕ) (u : Unit {0}) → length sizes ≡ length places → are_small sizes places ≡ Ok u → AllByRecursion IsWithin sizes
small-back [] places u long e = tt
small-back (n ∷ sizes) [] u long e = absurd (omega (arith, long))
small-back (n ∷ sizes) (at ∷ places) u long e =
    let (v, one, rest) = bound (is_small n at) (λ _. are_small sizes places) u e in
    (one-back n at v one, small-back sizes places u (omega (arith, long)) rest)

-- ---- policies that are counted

larger-within : (a b : ℕ) → min (max a b) 1000000 ≤ 20000 → b ≤ 20000
larger-within a b le = omega (arith, le)

pub policy-back : (s : Schema) (p : Policy) → IsWithin (policy_size s p) → PolicyIsWithin s p
policy-back s p le = larger-within (policy_size_over s (written_out s s.added) p) (policy_size_over s nothing_written p) le

pub field-back : (s : Schema) (f : FieldInfo) (rest : List ℕ) → AllByRecursion IsWithin (field_sizes counted s f ++ rest) → FieldIsWithin s f
field-back s f rest all = (policy-back s f.read all.0, policy-back s f.write all.1.0)

fields-back : (s : Schema) (fs : List FieldInfo) → AllByRecursion IsWithin (flat_map (field_sizes counted s) fs) → AllByRecursion (FieldIsWithin s) fs
fields-back s [] all = tt
fields-back s (f ∷ fs) all = (field-back s f (flat_map (field_sizes counted s) fs) all, fields-back s fs all.1.1)

pub model-back : (s : Schema) (m : ModelInfo) → AllByRecursion IsWithin (model_sizes counted s m) → ModelIsWithin s m
model-back s m all = (policy-back s m.create all.0, policy-back s m.delete all.1.0, fields-back s m.fields all.1.1)

pub models-back : (s : Schema) (ms : List ModelInfo) → AllByRecursion IsWithin (flat_map (model_sizes counted s) ms) → AllByRecursion (ModelIsWithin s) ms
models-back s [] all = tt
models-back s (m ∷ ms) all = (
  model-back s m (all-front IsWithin (model_sizes counted s m) (flat_map (model_sizes counted s) ms) all),
  models-back s ms (all-back IsWithin (model_sizes counted s m) (flat_map (model_sizes counted s) ms) all),
)

-- ---- each size has its place

fields-placed : (s : Schema) (fs : List FieldInfo) (ds : List FieldDef) → length fs ≡ length ds → length (flat_map (field_sizes counted s) fs) ≡ length (flat_map field_places ds)
fields-placed s [] [] long = refl
fields-placed s [] (d ∷ ds) long = absurd (omega (arith, long))
fields-placed s (f ∷ fs) [] long = absurd (omega (arith, long))
fields-placed s (f ∷ fs) (d ∷ ds) long = let rest = fields-placed s fs ds (omega (arith, long)) in omega (arith, rest)

pub model-placed : (s : Schema) (m : ModelInfo) (d : ModelDef) → length m.fields ≡ length d.fields → length (model_sizes counted s m) ≡ length (model_places d)
model-placed s m d long = let rest = fields-placed s m.fields d.fields long in omega (arith, rest)

-- models and definitions with as many fields
abbrev pub AreAsLong : List ModelInfo → List ModelDef → Type 0
AreAsLong [] [] = Unit {0}
AreAsLong [] (d ∷ ds) = ⊥
AreAsLong (m ∷ ms) [] = ⊥
AreAsLong (m ∷ ms) (d ∷ ds) = (length m.fields ≡ length d.fields) × AreAsLong ms ds

pub models-placed : (s : Schema) (ms : List ModelInfo) (ds : List ModelDef) → AreAsLong ms ds → length (flat_map (model_sizes counted s) ms) ≡ length (flat_map model_places ds)
models-placed s [] [] long = refl
models-placed s [] (d ∷ ds) long = absurd long
models-placed s (m ∷ ms) [] long = absurd long
models-placed s (m ∷ ms) (d ∷ ds) long =
    let one = model-placed s m d long.0 in
    let rest = models-placed s ms ds long.1 in
    let left = length-append (model_sizes counted s m) (flat_map (model_sizes counted s) ms) in
    let right = length-append (model_places d) (flat_map model_places ds) in
    omega (arith, one, rest, left, right)
