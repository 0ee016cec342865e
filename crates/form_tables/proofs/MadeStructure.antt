-- The structure of a consistent table is over the signature, and its choice is one of its elements.
use Rattle.std.proofs.Common.{◌≡◌, ℕ, ◌+◌, ◌<◌, Bool, true, false, ◌&&◌, refl, sym, ◌∙◌, List, [], Some, None, Option, length, cond, ap, subst, arith, slice_get, Contains}
use Rattle.std.specs.Prelude.{option_and_then, is_some, ◌==◌, slice_index_or, unwrap_or, nat_lt, pos, FitsSigned}
use Rattle.std.specs.Int.{w64}
use Rattle.std.specs.List.{find, All}
use Rattle.std.specs.Option.{option_map}
use Rattle.std.proofs.lemmas.Bool.{and_parts, eqb-true}
use Rattle.std.proofs.lemmas.List.FromFn.{length-map-range_with_len}
use Rattle.std.proofs.lemmas.Option.{option_and_then_some}
use Rattle.std.proofs.lemmas.Int.{fits_signed_from_abs}
use Rattle.std.proofs.lemmas.Str.{IsUtf8-nil}
use Rattle.text_ast.specs.Words.{IsText}
use Rattle.form_formula.specs.declared.structure.Range.{Range}
use Rattle.form_formula.specs.declared.structure.Range.TheVariants as kinds
use Rattle.form_formula.specs.declared.structure.FunSig.{FunSig}
use Rattle.form_formula.specs.declared.structure.SetSig.{SetSig}
use Rattle.form_formula.specs.declared.structure.Signature.{Signature}
use Rattle.form_formula.specs.declared.structure.SVal.{SVal}
use Rattle.form_formula.specs.declared.structure.SVal.TheVariants.{Rec, Flag, Num, Str}
use Rattle.form_formula.specs.declared.structure.Structure.{Structure}
use Rattle.form_formula.specs.Over.{IsFunction, IsOver}
use Rattle.form_formula.specs.Trees.{Formula}
use Rattle.form_formula.specs.Truth.{size_of}
use Rattle.form_terms.specs.GroundTerms.{GroundTerm, skolem, field, sort_of}
use Rattle.form_terms.specs.Parts.{Variable}
use Rattle.form_terms.specs.Universe.{variables_of}
use Rattle.form_terms.specs.Structures.{IsStructure, IsValueOf, IsEntryOf}
use Rattle.form_terms.specs.Passing.{Choice, IsChoice}
use Rattle.form_terms.proofs.Lists.{find-Contains, cond_true}
use Rattle.form_terms.proofs.Kept.{All-from, enumerated, length-enumerated}
use Rattle.form_terms.proofs.CutStructure.{from_filter}
use Rattle.form_terms.proofs.Typed.{target_at, target_below, source_below}
use Rattle.form_tables.specs.Vocabulary.{Vocabulary, IsVocabulary, told}
use Rattle.form_tables.specs.Table.{Table, is_there}
use Rattle.form_tables.specs.Consistent.{IsConsistent, IsOfRange}
use Rattle.form_tables.specs.Made.{classes, made_size, element, default, made_value, blank, is_at, made_entry, made_function, made_relation, is_variable, made, made_choice}
use Rattle.form_tables.proofs.Positions.{find-passes, below, is_below}
use Rattle.form_tables.proofs.Sound.{is_some_value}
use Rattle.form_tables.proofs.Classes.{at_there, at_within, size_made, place_within, default_within, some_size, some_not_empty}
use Rattle.form_tables.proofs.MadeValues.{found_at, made_row, made_at, variable_at, one_variable}

pub zero_fits : FitsSigned w64 (pos 0)
zero_fits = fits_signed_from_abs w64 (pos 0) (omega arith)

pub nothing_is_text : IsText []
nothing_is_text = record { utf8 = IsUtf8-nil; short = omega arith }

module _ (g : Signature) (f : Formula) (terms : List GroundTerm) (v : Vocabulary) (table : Table)
    (over : IsOver g [] f) (words : IsVocabulary g f terms v) (fits : IsConsistent g v table) where
  abbrev new : Structure
  new = made g v table

  abbrev choice : Choice
  choice = made_choice g v table

  abbrev at : GroundTerm → Option ℕ
  at t = element g v table t

  sort_there : (h : ℕ) (sig : FunSig) (sort : ℕ) → IsFunction g h sig → sig.to ≡ kinds.Rec sort → sort < g.sorts
  sort_there h sig sort there to = target_below g h sort (target_at g h sig sort there to)

  from_there : (h : ℕ) (sig : FunSig) → IsFunction g h sig → sig.from < g.sorts
  from_there h sig there = source_below g h sig.from (ap (option_and_then (λ sig. Some sig.from)) there)

  -- a told value that is moved is one of the structure
  value_fits : (h : ℕ) (t : GroundTerm) (sig : FunSig) (w : SVal) → IsFunction g h sig → Contains (told v) (field h t) → table.value (field h t) ≡ Some w
      → IsValueOf new sig.to (made_value g v table sig.to w)
  value_fits h t sig w there listed e =
      choose sig.to w refl (fits.typed (field h t) sig.to w listed (ap (option_map (λ sig. sig.to)) there) e)
    where
      choose : (to : Range) (w : SVal) → sig.to ≡ to → IsOfRange to w → IsValueOf new to (made_value g v table to w)
      choose (kinds.Rec sort) (Rec k) to h' =
          let less = sort_there h sig sort there to in
          let alive = fits.sorts.inhabited (field h t) sort listed (target_at g h sig sort there to) (ap is_some e) in
          place_within g f terms v table over words fits sort k (some_size g f terms v table over words fits sort less alive)
      choose (kinds.Rec sort) (Flag b) to h' = absurd h'
      choose (kinds.Rec sort) (Num n) to h' = absurd h'
      choose (kinds.Rec sort) (Str t) to h' = absurd h'
      choose kinds.Flag (Rec x) to h' = absurd h'
      choose kinds.Flag (Flag b) to h' = tt
      choose kinds.Flag (Num n) to h' = absurd h'
      choose kinds.Flag (Str t) to h' = absurd h'
      choose kinds.Num (Rec x) to h' = absurd h'
      choose kinds.Num (Flag b) to h' = absurd h'
      choose kinds.Num (Num n) to h' = h'
      choose kinds.Num (Str t) to h' = absurd h'
      choose kinds.Str (Rec x) to h' = absurd h'
      choose kinds.Str (Flag b) to h' = absurd h'
      choose kinds.Str (Num n) to h' = absurd h'
      choose kinds.Str (Str t) to h' = h'

  -- and so is what a total function has by default
  blank_fits : (h : ℕ) (sig : FunSig) → IsFunction g h sig → sig.partial ≡ false → 0 < size_of new sig.from → IsValueOf new sig.to (blank g v table sig.to)
  blank_fits h sig there total some = choose sig.to refl
    where
      choose : (to : Range) → sig.to ≡ to → IsValueOf new to (blank g v table to)
      choose (kinds.Rec sort) to =
          let alive = fits.sorts.followed h sig sort there total to (some_not_empty g f terms v table over words fits sig.from some) in
          default_within g f terms v table over words fits sort (some_size g f terms v table over words fits sort (sort_there h sig sort there to) alive)
      choose kinds.Flag to = tt
      choose kinds.Num to = zero_fits
      choose kinds.Str to = nothing_is_text

  entry_fits : (h : ℕ) (sig : FunSig) (k : ℕ) → IsFunction g h sig → 0 < size_of new sig.from
      → IsEntryOf new sig (made_entry g v table sig (find (is_at g v table h k) (told v)))
  entry_fits h sig k there some = choose (find (is_at g v table h k) (told v)) refl
    where
      by_default : (b : Bool) → sig.partial ≡ b → IsEntryOf new sig (cond b None (Some (blank g v table sig.to)))
      by_default true e = e
      by_default false e = blank_fits h sig there e some

      told_entry : (t : GroundTerm) → Contains (told v) (field h t) → is_there table t ≡ true → (o : Option SVal) → table.value (field h t) ≡ o
          → IsEntryOf new sig (option_map (made_value g v table sig.to) o)
      told_entry t listed alive (Some w) e = value_fits h t sig w there listed e
      told_entry t listed alive None e = absent sig.partial refl
        where
          absent : (b : Bool) → sig.partial ≡ b → b ≡ true
          absent true p = refl
          absent false p = let yes' = fits.functions.total h sig t listed there p alive in let no' : true ≡ false = sym yes' ∙ ap is_some e in cc

      choose : (o : Option GroundTerm) → find (is_at g v table h k) (told v) ≡ o → IsEntryOf new sig (made_entry g v table sig o)
      choose None e = by_default sig.partial refl
      choose (Some u) e =
          let (t, same, value) = found_at g f terms v table over words fits h k u (find-passes (is_at g v table h k) (told v) u e) in
          let P : GroundTerm → Type 0 = λ u. Contains (told v) u in
          let Q : GroundTerm → Type 0 = λ u. IsEntryOf new sig (made_entry g v table sig (Some u)) in
          subst Q (sym same) (told_entry t (subst P same (find-Contains (is_at g v table h k) (told v) u e)) (ap is_some value) (table.value (field h t)) refl)

  abbrev AreWithin : SetSig → ℕ × ℕ → Type 0
  AreWithin sig p = (p.0 < size_of new sig.from) × (p.1 < size_of new sig.to)

  place_fits : (t : GroundTerm) (sort : ℕ) → Contains v.named t → sort_of g t ≡ Some sort → is_there table t ≡ true → unwrap_or (at t) 0 < size_of new sort
  place_fits t sort there kind alive =
      let (x, here) = is_some_value (at t) (sym (at_there g f terms v table over words fits t sort there kind) ∙ alive) in
      let P : Option ℕ → Type 0 = λ o. unwrap_or o 0 < size_of new sort in
      subst P (sym here) (at_within g f terms v table over words fits t sort x there kind here)

  pair_fits : (r : ℕ) (sig : SetSig) → slice_get g.sets r ≡ Some sig → (p : ℕ × ℕ) → Contains (made_relation g v table (r, sig)) p → AreWithin sig p
  pair_fits r sig there p here =
      let (q, listed, passes, e) = from_filter (λ q. (unwrap_or (at q.holder) 0, unwrap_or (at q.member) 0))
      (λ q. (q.relation == r) && table.has q.relation q.holder q.member) v.pairs p here in
      let (a, b) = and_parts (q.relation == r) (table.has q.relation q.holder q.member) passes in
      let (other, other-there, holder-kind, holder-named, member-kind, member-named) = words.related q listed in
      let alive = fits.relations.within q listed b in
      let both : Some other ≡ Some sig = sym other-there ∙ (ap (slice_get g.sets) (eqb-true q.relation r a) ∙ there) in
      let same : other ≡ sig = cc in
      let P : ℕ × ℕ → Type 0 = λ p. AreWithin sig p in
      let Q : SetSig → Type 0 = λ sig. AreWithin sig (unwrap_or (at q.holder) 0, unwrap_or (at q.member) 0) in
      subst P e (subst Q same
      (place_fits q.holder other.from holder-named holder-kind alive.0, place_fits q.member other.to member-named member-kind alive.1))

  pub made_structure : IsStructure g new
  made_structure = record {
    sizes = length-map-range_with_len (made_size g v table) 0 g.sorts;
    functions = length-enumerated (made_function g v table) 0 g.funs;
    relations = length-enumerated (made_relation g v table) 0 g.sets;
    places = λ h sig there.
        ap length (made_row g f terms v table over words fits h sig there)
        ∙ (length-map-range_with_len (λ x. made_entry g v table sig (find (is_at g v table h (slice_index_or (classes g v table sig.from) x 0)) (told v))) 0 (made_size g v table sig.from)
        ∙ sym (size_made g f terms v table over words fits sig.from (from_there h sig there)));
    values = λ h sig x there within.
        let less : x < made_size g v table sig.from = omega (arith, within, size_made g f terms v table over words fits sig.from (from_there h sig there)) in
        let P : Option SVal → Type 0 = λ o. IsEntryOf new sig o in
        subst P (sym (made_at g f terms v table over words fits h sig x there less))
        (entry_fits h sig (slice_index_or (classes g v table sig.from) x 0) there (omega (arith, within)));
    pairs = λ r sig there.
        let start : 0 + r ≡ r = omega arith in
        let row : slice_index_or new.sets r [] ≡ made_relation g v table (r, sig) =
        enumerated (made_relation g v table) 0 r g.sets sig [] there ∙ ap (λ r. made_relation g v table (r, sig)) start in
        let P : List (ℕ × ℕ) → Type 0 = λ ps. All (AreWithin sig) ps in
        subst P (sym row) (All-from (AreWithin sig) (made_relation g v table (r, sig)) (pair_fits r sig there));
  }

  constant_fits : (sort x : ℕ) → choice.constant sort ≡ Some x → x < size_of new sort
  constant_fits sort x e = choose (nat_lt 0 (size_of new sort)) refl e
    where
      choose : (b : Bool) → nat_lt 0 (size_of new sort) ≡ b → cond b (Some (default g v table sort)) None ≡ Some x → x < size_of new sort
      choose true p e =
          let same : default g v table sort ≡ x = cc in
          let P : ℕ → Type 0 = λ x. x < size_of new sort in
          subst P same (default_within g f terms v table over words fits sort (is_below 0 (size_of new sort) p))
      choose false p e = cc

  variable_fits : (a : Variable) (xs : List ℕ) (x : ℕ) → Contains (variables_of g f) a → choice.variable a.number xs ≡ Some x → x < size_of new a.sort
  variable_fits a xs x own e =
      option_and_then_some at (find (is_variable g v table a.number xs) v.named) x e (λ u found value.
      let (sort, us, same, us-at) = variable_at g f terms v table over words fits a.number xs u (find-passes (is_variable g v table a.number xs) v.named u found) in
      let listed = find-Contains (is_variable g v table a.number xs) v.named u found in
      let P : GroundTerm → Type 0 = λ u. Contains v.named u in
      let there : Contains v.named (skolem a.number sort us) = subst P same listed in
      let (above, variable, sorts, each) = words.formed (skolem a.number sort us) there in
      let other : Variable = record { number = a.number; sort = sort; above = above } in
      let one : other ≡ a = one_variable g f terms v table over words fits other a variable own refl in
      let Q : ℕ → Type 0 = λ n. x < size_of new n in
      subst Q (ap (λ a. a.sort) one) (at_within g f terms v table over words fits (skolem a.number sort us) sort x there refl (ap at (sym same) ∙ value)))

  pub made_fits : IsChoice g new f choice
  made_fits = record {
    constants = constant_fits;
    needed = λ sort needed some. (default g v table sort, cond_true (nat_lt 0 (size_of new sort)) _ _ (below 0 (size_of new sort) some));
    variables = variable_fits;
  }
