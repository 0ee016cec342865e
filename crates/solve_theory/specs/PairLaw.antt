-- The law that nothing asserted has a model, for a `Pair`.
use Rattle.std.proofs.Common.{Bool, [], arith}
use Rattle.std.proofs.lemmas.Bool.{and_from}
use Rattle.solve_theory.specs.Models.{HasModel}
use Rattle.solve_theory.specs.Pair.{are_models, meets_own}

-- a model of each theory makes one of the pair
pub empty_has_pair : {M L N R : Type 0} {f : M → Bool} {p : M → L → Bool} {g : N → Bool} {q : N → R → Bool} → HasModel f p [] → HasModel g q [] → HasModel (are_models f g) (meets_own p q) []
empty_has_pair {M} {L} {N} {R} {f} {p} {g} {q} h k = record {
  model = (h.model, k.model);
  fits = record {
    is_model = and_from (f h.model) (g k.model) h.fits.is_model k.fits.is_model;
    meets_each = λ i d l. absurd (omega arith);
  };
}
