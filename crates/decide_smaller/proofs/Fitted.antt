-- A structure that has what the signature names is one over it.
use Rattle.std.proofs.Common.{◌≡◌, ◌<◌, ℕ, [], None, Option, length, sym, ◌∙◌, ap, subst, get_or}
use Rattle.std.proofs.lemmas.Option.{get_or_from_slice_get, slice_get_within}
use Rattle.form_formula.specs.declared.structure.FunSig.{FunSig}
use Rattle.form_formula.specs.declared.structure.SetSig.{SetSig}
use Rattle.form_formula.specs.declared.structure.Signature.{Signature}
use Rattle.form_formula.specs.declared.structure.Structure.{Structure}
use Rattle.form_formula.specs.declared.structure.SVal.{SVal}
use Rattle.form_formula.specs.Over.{IsFunction}
use Rattle.form_terms.specs.Structures.{IsStructure, size_of}
use Rattle.decide_smaller.specs.Fitting.{IsRelationOf, IsTableOf}

pub fitted : (g : Signature) (s : Structure) → length s.sizes ≡ g.sorts → length s.funs ≡ length g.funs → length s.sets ≡ length g.sets
    → ((h : ℕ) (d : FunSig) → h < length g.funs → IsTableOf s (get_or g.funs h d) (get_or s.funs h []))
    → ((r : ℕ) (d : SetSig) → r < length g.sets → IsRelationOf s (get_or g.sets r d) (get_or s.sets r [])) → IsStructure g s
unfolding IsRelationOf
fitted g s sizes functions relations tables pairs =
    let table : (h : ℕ) (sig : FunSig) → IsFunction g h sig → IsTableOf s sig (get_or s.funs h []) = λ h sig is.
    subst (λ z. IsTableOf s z (get_or s.funs h [])) (get_or_from_slice_get g.funs h sig sig is) (tables h sig (slice_get_within g.funs h sig is)) in
    record {
      sizes = sizes;
      functions = functions;
      relations = relations;
      places = λ h sig is. (table h sig is).long;
      values = λ h sig x is within. (table h sig is).entries x None (subst (λ n. x < n) (sym (table h sig is).long) within);
      pairs = λ r sig is. subst (λ z. IsRelationOf s z (get_or s.sets r [])) (get_or_from_slice_get g.sets r sig sig is) (pairs r sig (slice_get_within g.sets r sig is));
    }
