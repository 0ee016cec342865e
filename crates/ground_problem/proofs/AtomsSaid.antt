-- What a table says of the atoms of a formula, at the values of its terms.
use Rattle.std.proofs.Common.{◌≡◌, ℕ, zero, suc, ◌+◌, inl, inr, Bool, true, not, refl, sym, ◌∙◌, List, [], ◌∷◌, ◌++◌, Some, length, ap, arith, slice_get, length-append}
use Rattle.std.specs.Prelude.{option_and_then, int_lt, is_some, slice_index_or}
use Rattle.std.specs.Option.{option_map}
use Rattle.form_formula.specs.declared.structure.Range.{Range}
use Rattle.form_formula.specs.declared.structure.Range.TheVariants.{Rec, Num}
use Rattle.form_formula.specs.declared.structure.Signature.{Signature}
use Rattle.form_formula.specs.Over.{IsOver, HasRange}
use Rattle.form_formula.specs.Trees.{Term, Formula, bound, num, str, app, yes, no, equal, less, has, flag, present, negation, both, either, exists, forall}
use Rattle.form_formula.specs.Truth.{are_equal, both_pass, number_of, is_true_value}
use Rattle.form_terms.specs.GroundTerms.{GroundTerm, GroundTerms, constant, skolem, field, and_last, no_terms}
use Rattle.form_terms.specs.Parts.{quantifiers}
use Rattle.form_terms.specs.Reading.{Reads}
use Rattle.form_tables.specs.Vocabulary.{term_at}
use Rattle.form_tables.specs.Table.{Table, holds, is_there, value_at}
use Rattle.ground_instances.specs.GroundAtoms.{named, applied_to, ground_value, holds_at}
use Rattle.ground_instances.specs.Readings.{reading}
use Rattle.ground_instances.proofs.ReadingLaws.{to_reads, from_reads}
use Rattle.ground_problem.specs.Says.{ground_term, value_in, says}

in_scope : (scope : List ℕ) (env : List GroundTerm) (depth sort : ℕ) (d : GroundTerm) → length env ≡ length scope → slice_get scope depth ≡ Some sort
    → slice_get env depth ≡ Some (slice_index_or env depth d)
in_scope [] env depth sort d size e = cc
in_scope (s ∷ scope) [] depth sort d size e = absurd (omega arith)
in_scope (s ∷ scope) (t ∷ env) zero sort d size e = refl
in_scope (s ∷ scope) (t ∷ env) (suc depth) sort d size e = in_scope scope env depth sort d (omega arith) e

module _ (g : Signature) (table : Table) (scope : List ℕ) (env : List GroundTerm) (size : length env ≡ length scope) where
  -- a term that is of a sort is a ground term
  is_named : (t : Term) (sort : ℕ) → HasRange g scope t (Rec sort) → (x : GroundTerm) × (ground_value env t ≡ named x) × (term_at env t ≡ Some x)
  is_named (bound s depth) sort h = (slice_index_or env depth (constant s), refl, in_scope scope env depth s (constant s) size h.0)
  is_named (num n) sort h = cc
  is_named (str t) sort h = cc
  is_named (app k t) sort h =
      let own = is_named t h.0.from h.2 in
      (field k own.0, ap (applied_to k) own.1, ap (option_map (field k)) own.2)

  term_said : (t : Term) (sort : ℕ) → HasRange g scope t (Rec sort) → term_at env t ≡ ground_term (ground_value env t)
  term_said t sort h = let own = is_named t sort h in own.2 ∙ sym (ap ground_term own.1)

  value_said : (t : Term) (range : Range) → HasRange g scope t range → value_at table env t ≡ value_in table (ground_value env t)
  value_said (bound s depth) range h = ap (option_and_then table.value) (in_scope scope env depth s (constant s) size h.0)
  value_said (num n) range h = refl
  value_said (str t) range h = refl
  value_said (app k t) range h =
      let own = is_named t h.0.from h.2 in
      ap (λ o. option_and_then table.value (option_map (field k) o)) own.2 ∙ sym (ap (λ v. value_in table (applied_to k v)) own.1)

  pub atom_said : (a : Formula) → IsOver g scope a → holds table env a ≡ holds_at (says table) env a
  atom_said yes over = refl
  atom_said no over = refl
  atom_said (equal t u) over =
      ap (λ o. both_pass are_equal o (value_at table env u)) (value_said t over.0 over.2)
      ∙ ap (both_pass are_equal (value_in table (ground_value env t))) (value_said u over.0 over.3)
  atom_said (less t u) over =
      ap (λ o. both_pass int_lt (option_and_then number_of o) (option_and_then number_of (value_at table env u))) (value_said t Num over.0)
      ∙ ap (λ o. both_pass int_lt (option_and_then number_of (value_in table (ground_value env t))) (option_and_then number_of o)) (value_said u Num over.1)
  atom_said (has r t u) over =
      ap (λ o. both_pass (table.has r) o (term_at env u)) (term_said t over.0.from over.2)
      ∙ ap (both_pass (table.has r) (ground_term (ground_value env t))) (term_said u over.0.to over.3)
  atom_said (flag k t) over = ap (λ o. is_true_value (option_and_then table.value (option_map (field k) o))) (term_said t over.0.from over.2)
  atom_said (present k t) over = ap (λ o. is_some (option_and_then table.value (option_map (field k) o))) (term_said t over.0.from over.2)
  atom_said (negation a) over = refl
  atom_said (both a b) over = refl
  atom_said (either a b) over = refl
  atom_said (exists sort a) over = refl
  atom_said (forall sort a) over = refl

module _ (g : Signature) (is_there : GroundTerm → Bool) (holds holds' : List GroundTerm → Formula → Bool) (terms : List GroundTerm)
    (atoms : (a : Formula) (scope : List ℕ) (env : List GroundTerm) → IsOver g scope a → length env ≡ length scope → holds env a ≡ holds' env a) where
  more : (scope : List ℕ) (env : List GroundTerm) (sort : ℕ) (t : GroundTerm) → length env ≡ length scope → length (env ++ t ∷ []) ≡ length (scope ++ sort ∷ [])
  more scope env sort t size = omega (arith, size, length-append env (t ∷ []), length-append scope (sort ∷ []))

  -- two readings of atoms that agree
  pub read_also : (a : Formula) (number : ℕ) (scope : List ℕ) (env : List GroundTerm) (args : GroundTerms) → IsOver g scope a → length env ≡ length scope
      → Reads g is_there holds terms number env args a → Reads g is_there holds' terms number env args a
  read_also yes number scope env args over size r = tt
  read_also no number scope env args over size r = r
  read_also (equal t u) number scope env args over size r = sym (atoms (equal t u) scope env over size) ∙ r
  read_also (less t u) number scope env args over size r = sym (atoms (less t u) scope env over size) ∙ r
  read_also (has k t u) number scope env args over size r = sym (atoms (has k t u) scope env over size) ∙ r
  read_also (flag h t) number scope env args over size r = sym (atoms (flag h t) scope env over size) ∙ r
  read_also (present h t) number scope env args over size r = sym (atoms (present h t) scope env over size) ∙ r
  read_also (negation a) number scope env args over size r = ap not (sym (atoms a scope env over size)) ∙ r
  read_also (both a b) number scope env args over size r =
      (read_also a number scope env args over.0 size r.0, read_also b (number + quantifiers a) scope env args over.1 size r.1)
  read_also (either a b) number scope env args over size (inl r) = inl (read_also a number scope env args over.0 size r)
  read_also (either a b) number scope env args over size (inr r) = inr (read_also b (number + quantifiers a) scope env args over.1 size r)
  read_also (exists sort a) number scope env args over size (alive, r) =
      let t : GroundTerm = skolem number sort args in
      (alive, read_also a (number + 1) (scope ++ sort ∷ []) (env ++ t ∷ []) args over.1 (more scope env sort t size) r)
  read_also (forall sort a) number scope env args over size r = λ t listed kind alive.
      read_also a (number + 1) (scope ++ sort ∷ []) (env ++ t ∷ []) (and_last args t) over.1 (more scope env sort t size) (r t listed kind alive)

module _ (g : Signature) (f : Formula) (terms : List GroundTerm) (table : Table) (over : IsOver g [] f) where
  pub reads_said : Reads g (is_there table) (holds table) terms 0 [] no_terms f → Reads g (is_there table) (holds_at (says table)) terms 0 [] no_terms f
  reads_said r =
      read_also g (is_there table) (λ env a. holds table env a) (λ env a. holds_at (says table) env a) terms
      (λ a scope env over size. atom_said g table scope env size a over) f 0 [] [] no_terms over refl r

  pub said_reads : Reads g (is_there table) (holds_at (says table)) terms 0 [] no_terms f → Reads g (is_there table) (holds table) terms 0 [] no_terms f
  said_reads r =
      read_also g (is_there table) (λ env a. holds_at (says table) env a) (λ env a. holds table env a) terms
      (λ a scope env over size. sym (atom_said g table scope env size a over)) f 0 [] [] no_terms over refl r

  pub reads_tested : Reads g (is_there table) (holds table) terms 0 [] no_terms f → reading g terms (is_there table) (says table) 0 [] no_terms f ≡ true
  reads_tested r = from_reads g terms (is_there table) (says table) f 0 [] no_terms (reads_said r)

  pub tested_reads : reading g terms (is_there table) (says table) 0 [] no_terms f ≡ true → Reads g (is_there table) (holds table) terms 0 [] no_terms f
  tested_reads e = said_reads (to_reads g terms (is_there table) (says table) f 0 [] no_terms e)
