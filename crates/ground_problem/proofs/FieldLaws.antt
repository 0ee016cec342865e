-- The functions at values of which inputs speak.
use Rattle.std.proofs.Common.{◌≡◌, ℕ, zero, suc, arith, ◌+◌, ◌<◌, ◌∙◌, sym, ap, subst, List, [], ◌∷◌, ◌++◌, length, get_or, take}
use Rattle.std.proofs.lemmas.List.{take_more}
use Rattle.form_terms.specs.GroundTerms.{field}
use Rattle.ground_terms.specs.declared.node.TermNode.{TermNode}
use Rattle.ground_terms.specs.declared.node.TermNode.TheVariants.{Field}
use Rattle.ground_terms.specs.Nodes.{IsAdded, IsOne, Extends, term_part}
use Rattle.ground_terms.proofs.Standing.{extends_both, extends_none, one_kept, term_kept}
use Rattle.ground_instances.specs.declared.input.Value.{Value}
use Rattle.ground_instances.specs.declared.input.Value.TheVariants.{Term, Literal}
use Rattle.ground_instances.specs.declared.input.Input.{Input}
use Rattle.ground_instances.specs.declared.input.Input.TheVariants.{There, Equal, Less, Has, Flag, Present}
use Rattle.ground_instances.specs.Inputs.{AreInputs, IsInput, IsValue}
use Rattle.ground_problem.specs.Inputs.{AddsFields, AreFieldsOf, IsFieldAt, IsFieldOf}

-- inputs of a list
pub input_at : (terms : List TermNode) (is : List Input) (k : ℕ) (d : Input) → k < length is → AreInputs terms is → IsInput terms (get_or is k d)
input_at terms [] k d within h = absurd (omega arith)
input_at terms (i ∷ is) zero d within h = h.0
input_at terms (i ∷ is) (suc k) d within h = input_at terms is k d (omega arith) h.1

value_kept : (old new : List TermNode) (v : Value) → Extends old new → IsValue old v → IsValue new v
value_kept old new (Term id) e h = one_kept old new id e h
value_kept old new (Literal id) e h = tt

pub input_kept : (old new : List TermNode) (i : Input) → Extends old new → IsInput old i → IsInput new i
input_kept old new (There id) e h = one_kept old new id e h
input_kept old new (Equal v w) e h = (value_kept old new v e h.0, value_kept old new w e h.1)
input_kept old new (Less v w) e h = (value_kept old new v e h.0, value_kept old new w e h.1)
input_kept old new (Has r v w) e h = (value_kept old new v e h.0, value_kept old new w e h.1)
input_kept old new (Flag h v) e i = value_kept old new v e i
input_kept old new (Present h v) e i = value_kept old new v e i

-- a function at a term was added
pub field_added : (old new : List TermNode) (h t id : ℕ) → IsAdded old (Field h t) new id → IsOne old t → Extends old new × IsFieldAt new h (Term t) id
field_added old new h t id added one = (
  added.kept,
  (added.kind, ap term_part added.means ∙ ap (field h) (sym (term_kept old new t added.kept one))),
)

field_at_kept : (old new : List TermNode) (h : ℕ) (v : Value) (id : ℕ) → Extends old new → IsValue old v → IsFieldAt old h v id → IsFieldAt new h v id
field_at_kept old new h (Term t) id e one f =
    (one_kept old new id e f.0, term_kept old new id e f.0 ∙ (f.1 ∙ ap (field h) (sym (term_kept old new t e one))))
field_at_kept old new h (Literal t) id e one f = tt

field_kept : (old new : List TermNode) (i : Input) (id : ℕ) → Extends old new → IsInput old i → IsFieldOf old i id → IsFieldOf new i id
field_kept old new (There t) id e one f = tt
field_kept old new (Equal v w) id e one f = tt
field_kept old new (Less v w) id e one f = tt
field_kept old new (Has r v w) id e one f = tt
field_kept old new (Flag h v) id e one f = field_at_kept old new h v id e one f
field_kept old new (Present h v) id e one f = field_at_kept old new h v id e one f

fields_kept : (start old new : List TermNode) (is : List Input) (ids : List ℕ) → Extends start old → Extends old new → AreInputs start is → AreFieldsOf old is ids → AreFieldsOf new is ids
fields_kept start old new [] [] s e one f = tt
fields_kept start old new [] (id ∷ ids) s e one f = absurd f
fields_kept start old new (i ∷ is) [] s e one f = absurd f
fields_kept start old new (i ∷ is) (id ∷ ids) s e one f = (field_kept old new i id e (input_kept start old i s one.0) f.0, fields_kept start old new is ids s e one.1 f.1)

fields_push : (terms : List TermNode) (is : List Input) (ids : List ℕ) (i : Input) (id : ℕ) → AreFieldsOf terms is ids → IsFieldOf terms i id → AreFieldsOf terms (is ++ i ∷ []) (ids ++ id ∷ [])
fields_push terms [] [] i id f one = (one, tt)
fields_push terms [] (k ∷ ids) i id f one = absurd f
fields_push terms (j ∷ is) [] i id f one = absurd f
fields_push terms (j ∷ is) (k ∷ ids) i id f one = (f.0, fields_push terms is ids i id f.1 one)

inputs_take : (terms : List TermNode) (is : List Input) (k : ℕ) → AreInputs terms is → AreInputs terms (take k is)
inputs_take terms is zero h = tt
inputs_take terms [] (suc k) h = tt
inputs_take terms (i ∷ is) (suc k) h = (h.0, inputs_take terms is k h.1)

pub fields_next : (start old new : List TermNode) (is : List Input) (k : ℕ) (d : Input) (ids after : List ℕ) (id : ℕ) → k < length is → AreInputs start is → AddsFields start old (take k is) ids
    → Extends old new × IsFieldOf new (get_or is k d) id → after ≡ ids ++ id ∷ [] → AddsFields start new (take (k + 1) is) after
fields_next start old new is k d ids after id within ones h (e, one) w =
    let P : List Input → Type 0 = λ is. AreFieldsOf new is after in
    let Q : List ℕ → Type 0 = λ ids. AreFieldsOf new (take k is ++ get_or is k d ∷ []) ids in
    record {
      kept = extends_both start old new h.kept e;
      stand =
          subst P (sym (take_more is k d within))
          (subst Q (sym w) (fields_push new (take k is) ids (get_or is k d) id (fields_kept start old new (take k is) ids h.kept e (inputs_take start is k ones) h.stand) one));
    }

pub no_fields : (terms : List TermNode) (ids : List ℕ) → ids ≡ [] → AddsFields terms terms [] ids
no_fields terms ids e = let P : List ℕ → Type 0 = λ ids. AreFieldsOf terms [] ids in record { kept = extends_none terms; stand = subst P (sym e) tt }
