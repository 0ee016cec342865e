-- A formula is read true over some consistent table just where some structure passes it.
use Rattle.std.proofs.Common.{◌≡◌, ℕ, refl, sym, ◌∙◌, List, [], ◌++◌, Some, None, Option, ap, Contains, map}
use Rattle.std.specs.Prelude.{is_some}
use Rattle.std.specs.List.{flat_map}
use Rattle.std.proofs.lemmas.List.Elements.{Contains-append_left, Contains-append_right}
use Rattle.form_formula.specs.declared.structure.Signature.{Signature}
use Rattle.form_formula.specs.declared.structure.Structure.{Structure}
use Rattle.form_formula.specs.NormalForm.{IsNormal}
use Rattle.form_formula.specs.Over.{IsOver}
use Rattle.form_formula.specs.Trees.{Formula}
use Rattle.form_terms.specs.GroundTerms.{GroundTerm, constant, skolem, field, no_terms, source_of, sort_of}
use Rattle.form_terms.specs.Parts.{Variable}
use Rattle.form_terms.specs.Universe.{variables_of, functions_of, IsAppliedTo}
use Rattle.form_terms.specs.Listing.{arguments, of_source}
use Rattle.form_terms.specs.Structures.{IsStructure}
use Rattle.form_terms.specs.Passing.{Choice, PassesWith, IsSatisfiableOver, element_named}
use Rattle.form_terms.specs.Reading.{Reads, Speaks}
use Rattle.form_terms.proofs.Lists.{flat_map-Contains}
use Rattle.form_terms.proofs.Listed.{to_filter, to_map}
use Rattle.form_terms.proofs.CutFacts.{is_the_number}
use Rattle.form_terms.proofs.Stages.{to_arguments}
use Rattle.form_terms.proofs.Readings.{read_passes, over_reads}
use Rattle.form_tables.specs.Vocabulary.{Vocabulary, IsVocabulary}
use Rattle.form_tables.specs.Table.{Table, holds, is_there}
use Rattle.form_tables.specs.Consistent.{IsConsistent}
use Rattle.form_tables.specs.Made.{made, made_choice, table_of}
use Rattle.form_tables.proofs.Own.{own_table}
use Rattle.form_tables.proofs.Sound.{sound, inside, named_there}
use Rattle.form_tables.proofs.Classes.{at_there}
use Rattle.form_tables.proofs.MadeValues.{element_made}
use Rattle.form_tables.proofs.MadeStructure.{made_structure, made_fits}
use Rattle.form_tables.proofs.MadeAtoms.{atom_made}

-- a list has all that is applied to its terms
module _ (g : Signature) (f : Formula) (over : IsOver g [] f) (terms : List GroundTerm) where
  abbrev fields : List GroundTerm
  fields = flat_map (λ h. map (field h) (of_source g f terms (source_of g h))) (functions_of g f)

  abbrev variables : List GroundTerm
  variables = flat_map (λ a. map (skolem a.number a.sort) (arguments g f terms a.above)) (variables_of g f)

  abbrev spoken : List GroundTerm
  spoken = terms ++ (fields ++ variables)

  in_source : (o : Option ℕ) (t : GroundTerm) → o ≡ sort_of g t → (sort : ℕ) → sort_of g t ≡ Some sort → Contains terms t → Contains (of_source g f terms o) t
  in_source None t e sort kind there = let no' : None ≡ Some sort = e ∙ kind in cc
  in_source (Some n) t e sort kind there = to_filter _ terms t there (is_the_number (sort_of g t) n (sym e))

  applied_spoken : ((t : GroundTerm) → Contains terms t → (sort : ℕ) × (sort_of g t ≡ Some sort)) → (t : GroundTerm) → IsAppliedTo g f (Contains terms) t → Contains spoken t
  applied_spoken sorted (constant sort) h = absurd h
  applied_spoken sorted (skolem number sort ts) (above, own, sorts, each) =
      let a : Variable = record { number = number; sort = sort; above = above } in
      Contains-append_right terms (fields ++ variables) (skolem number sort ts)
      (Contains-append_right fields variables (skolem number sort ts)
      (flat_map-Contains (λ a. map (skolem a.number a.sort) (arguments g f terms a.above)) (variables_of g f) a (skolem number sort ts) own
      (to_map (skolem number sort) (arguments g f terms above) ts (to_arguments g f over terms above ts sorts each))))
  applied_spoken sorted (field h t) (used, source, there) =
      let (sort, kind) = sorted t there in
      Contains-append_right terms (fields ++ variables) (field h t)
      (Contains-append_left fields variables (field h t)
      (flat_map-Contains (λ h. map (field h) (of_source g f terms (source_of g h))) (functions_of g f) h (field h t) used
      (to_map (field h) (of_source g f terms (source_of g h)) t (in_source (source_of g h) t source sort kind there))))

  pub speaks : ((t : GroundTerm) → Contains terms t → (sort : ℕ) × (sort_of g t ≡ Some sort)) → Speaks g f terms spoken
  speaks sorted = record {
    ranged = λ t there. Contains-append_left terms (fields ++ variables) t there;
    applied = applied_spoken sorted;
  }

module _ (g : Signature) (f : Formula) (terms : List GroundTerm) (v : Vocabulary) (over : IsOver g [] f) (normal : IsNormal f) (words : IsVocabulary g f terms v) where
  words_speak : Speaks g f terms (spoken g f over terms)
  words_speak = speaks g f over terms (λ t there. words.sorted t (words.ranged t there))

  -- from a table
  pub made_passes : (table : Table) → IsConsistent g v table → Reads g (is_there table) (holds table) terms 0 [] no_terms f
      → PassesWith g f (Contains terms) (made g v table) (made_choice g v table)
  made_passes table fits r =
      let s : Structure = made g v table in
      let c : Choice = made_choice g v table in
      read_passes g f s c terms (spoken g f over terms) (λ t. is_some (element_named s c t)) (holds (table_of s c)) (own_table g f s c (spoken g f over terms)) words_speak over normal
      (made_fits g f terms v table over words fits)
      (words.decides (is_there table) (λ t. is_some (element_named s c t)) table (table_of s c)
      (λ t there. at_there g f terms v table over words fits t (words.sorted t there).0 there (words.sorted t there).1
      ∙ sym (ap is_some (element_made g f terms v table over words fits t there)))
      (λ a scope env over' above covers. atom_made g f terms v table over words fits scope env above a over' covers) r)

  -- to a table
  pub table_reads : (s : Structure) (c : Choice) → IsStructure g s → PassesWith g f (Contains terms) s c
      → Reads g (is_there (table_of s c)) (holds (table_of s c)) terms 0 [] no_terms f
  table_reads s c structure p =
      words.decides (λ t. is_some (element_named s c t)) (is_there (table_of s c)) (table_of s c) (table_of s c)
      (λ t there. sym (named_there g f s c terms v structure p.choice words t there)) (λ a scope env over' above covers. refl)
      (over_reads g f s c terms (spoken g f over terms) (λ t. is_some (element_named s c t)) (holds (table_of s c)) (own_table g f s c (spoken g f over terms)) words_speak
      (λ t sort x there kind named. inside g f s c terms v structure p.choice words t (words.ranged t there) sort x kind named)
      f 0 [] [] [] [] [] no_terms []
      (record {
        over = over;
        normal = normal;
        inside = λ p here. here;
        atoms = λ b here. here;
        elements = tt;
        sorts = tt;
        listed = tt;
        named = refl;
      })
      p.holds)

  abbrev IsReadable : Type 0
  IsReadable = (table : Table) × IsConsistent g v table × Reads g (is_there table) (holds table) terms 0 [] no_terms f

  pub readable : IsSatisfiableOver g f (Contains terms) → IsReadable
  readable (s, structure, (c, p)) = (table_of s c, sound g f s c terms v structure p.choice words, table_reads s c structure p)

  pub satisfiable : IsReadable → IsSatisfiableOver g f (Contains terms)
  satisfiable (table, fits, r) = (made g v table, made_structure g f terms v table over words fits, (made_choice g v table, made_passes table fits r))
