-- A consistent table is that of an assignment.
use Rattle.std.proofs.Common.{◌≡◌, false, refl, sym, List, [], ◌++◌, Some, None, Option, cond, ap, subst, Contains}
use Rattle.std.specs.Prelude.{IsTrue, is_some, pos, unwrap_or}
use Rattle.std.specs.List.{list_all}
use Rattle.std.proofs.Math.Path.{fun_ext}
use Rattle.form_formula.specs.declared.structure.Range.{Range}
use Rattle.form_formula.specs.declared.structure.Range.TheVariants as kinds
use Rattle.form_formula.specs.declared.structure.Signature.{Signature}
use Rattle.form_formula.specs.declared.structure.SVal.{SVal}
use Rattle.form_formula.specs.declared.structure.SVal.TheVariants.{Rec, Flag, Num, Str}
use Rattle.form_formula.specs.NormalForm.{IsNormal}
use Rattle.form_formula.specs.Over.{IsOver}
use Rattle.form_formula.specs.Trees.{Formula}
use Rattle.form_terms.specs.GroundTerms.{GroundTerm, no_terms}
use Rattle.form_terms.specs.Passing.{IsSatisfiableOver}
use Rattle.form_terms.specs.Reading.{Reads}
use Rattle.form_tables.specs.Vocabulary.{Vocabulary, IsVocabulary}
use Rattle.form_tables.specs.Table.{Table, holds, is_there}
use Rattle.form_tables.specs.Consistent.{IsConsistent, IsOfRange, range_of}
use Rattle.form_tables.specs.Facts.{Assignment, is_met, table_for}
use Rattle.form_tables.specs.Clauses.{IsTyped, base_clauses, congruence_clauses}
use Rattle.form_tables.proofs.ClausesMet.{append_met, each_met, met_append, met_each}
use Rattle.form_tables.proofs.Clausal.{consistent}
use Rattle.form_tables.proofs.ConsistentMet.{base_met, congruence_met}
use Rattle.form_tables.proofs.Closing.{readable, satisfiable}
use Rattle.form_tables.proofs.MadeStructure.{zero_fits, nothing_is_text}

-- clauses are met where the table is consistent
module _ (g : Signature) (f : Formula) (terms : List GroundTerm) (v : Vocabulary) (a : Assignment) (words : IsVocabulary g f terms v) (typed : IsTyped g v a) where
  abbrev pub AllMet : Type 0
  AllMet = IsTrue (list_all (is_met a) (base_clauses g v ++ congruence_clauses g v))

  pub consistent_from : AllMet → IsConsistent g v (table_for a)
  consistent_from e =
      let (base, congruence) = append_met a (base_clauses g v) (congruence_clauses g v) (met_each a (base_clauses g v ++ congruence_clauses g v) e) in
      consistent g f terms v a words typed base congruence

  pub met_from : IsConsistent g v (table_for a) → AllMet
  met_from fits =
      each_met a (base_clauses g v ++ congruence_clauses g v)
      (met_append a (base_clauses g v) (congruence_clauses g v) (base_met g f terms v a words typed fits) (congruence_met g f terms v a words typed fits))

-- some value of a range
abbrev pub some_value : Option Range → SVal
some_value None = Flag false
some_value (Some (kinds.Rec sort)) = Rec 0
some_value (Some kinds.Flag) = Flag false
some_value (Some kinds.Num) = Num (pos 0)
some_value (Some kinds.Str) = Str []

some_typed : (range : Range) → IsOfRange range (some_value (Some range))
some_typed (kinds.Rec sort) = tt
some_typed kinds.Flag = tt
some_typed kinds.Num = zero_fits
some_typed kinds.Str = nothing_is_text

module _ (g : Signature) (v : Vocabulary) (table : Table) where
  -- the assignment of a table
  abbrev pub given : Assignment
  given = record {
    there = is_there table;
    value = λ t. unwrap_or (table.value t) (some_value (range_of g t));
    has = table.has;
    is_empty = table.is_empty;
  }

  there_again : (o : Option SVal) (x : SVal) → cond (is_some o) (Some (unwrap_or o x)) None ≡ o
  there_again None x = refl
  there_again (Some y) x = refl

  abbrev with_values : (GroundTerm → Option SVal) → Table
  with_values values = record { value = values; has = table.has; is_empty = table.is_empty }

  pub same_table : table_for given ≡ table
  same_table = ap with_values (fun_ext (λ t. there_again (table.value t) (some_value (range_of g t))))

  pub given_typed : IsConsistent g v table → IsTyped g v given
  given_typed fits t range c kind = choose (table.value t) refl
    where
      choose : (o : Option SVal) → table.value t ≡ o → IsOfRange range (unwrap_or o (some_value (range_of g t)))
      choose None e = let P : Option Range → Type 0 = λ o. IsOfRange range (some_value o) in subst P (sym kind) (some_typed range)
      choose (Some x) e = fits.typed t range x c kind e

module _ (g : Signature) (f : Formula) (terms : List GroundTerm) (v : Vocabulary) (over : IsOver g [] f) (normal : IsNormal f) (words : IsVocabulary g f terms v) where
  abbrev IsAssigned : Type 0
  IsAssigned = (a : Assignment) × IsTyped g v a × IsTrue (list_all (is_met a) (base_clauses g v ++ congruence_clauses g v))
      × Reads g (is_there (table_for a)) (holds (table_for a)) terms 0 [] no_terms f

  pub assigned : IsSatisfiableOver g f (Contains terms) → IsAssigned
  assigned s =
      let (table, fits, r) = readable g f terms v over normal words s in
      let a : Assignment = given g v table in
      let P : Table → Type 0 = λ t. IsConsistent g v t in
      let Q : Table → Type 0 = λ t. Reads g (is_there t) (holds t) terms 0 [] no_terms f in
      let back = sym (same_table g v table) in
      let typed = given_typed g v table fits in
      (a, typed, met_from g f terms v a words typed (subst P back fits), subst Q back r)

  pub from_assigned : IsAssigned → IsSatisfiableOver g f (Contains terms)
  from_assigned (a, typed, met, r) = satisfiable g f terms v over normal words (table_for a, consistent_from g f terms v a words typed met, r)
