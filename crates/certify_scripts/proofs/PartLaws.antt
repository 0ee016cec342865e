-- The parts of obligations, one after another.
use Rattle.std.proofs.Common.{◌≡◌, ℕ, Result, Ok, Err, IfOk, zero, suc, ◌+◌, ◌<◌, ◌≤◌, List, [], ◌∷◌, ◌++◌, inl, inr, length, take, get_or, refl, sym, ◌∙◌, ap, subst, arith}
use Rattle.std.specs.Prelude.{Some, slice_get}
use Rattle.std.proofs.lemmas.List.{take_all}
use Rattle.std.proofs.lemmas.Option.{slice_get-get_or}
use Rattle.type_schema.specs.Script.{Script}
use Rattle.form_formula.specs.NormalForm.{normal_form}
use Rattle.form_formula.specs.declared.structure.Signature.{Signature}
use Rattle.duty_meaning.specs.Duties.{formula_of, obligations_of}
use Rattle.duty_meaning.specs.declared.duty.Duty.{Duty}
use Rattle.certify_clauses.specs.Problem.{Problem}
use Rattle.certify_problem.specs.Grounded.{IsCyclic, IsProblemFor, IsTooLargeBy}
use Rattle.certify_recheck.specs.Due.{Due, ending, heading, lines_of, part}
use Rattle.certify_recheck.specs.Laws.{IsLawfulPart}
use Rattle.certify_recheck.specs.Lines.{lines_at}
use Rattle.certify_recheck.specs.Spots.{IsBadLine, IsPart, Passes}
use Rattle.certify_recheck.specs.declared.spot.Spot.{Spot}
use Rattle.certify_recheck.proofs.Following.{parts_follow}
use Rattle.certify_recheck.proofs.Growing.{parts}
use Rattle.certify_scripts.specs.Certificates.{AreProblemsOf, front_of, parts_from, start}
use Rattle.certify_scripts.specs.Passed.{HasParts, IsOver, IsPartOf, IsPartOver, IsWithin}
use Rattle.certify_scripts.specs.Rechecked.{IsBadPart, IsReached, IsRecheckedOver}
use Rattle.certify_scripts.specs.declared.parts.Part.{Part}
use Rattle.certify_scripts.specs.declared.parts.Part.TheVariants.{Passed, Bad, Cyclic, TooLarge}
use Rattle.certify_scripts.specs.declared.rechecked.Rechecked.TheVariants as rechecked

-- the lines of a part are just what is due where one is
pub part_passes : (text : List ℕ) (from : Spot) (c : Problem) (number : ℕ) (to : Spot) → IsPart text from c number to → Passes text from (part c number ∷ []) to
part_passes text from c number to p =
    let n = length (lines_of p.tree) + 1 in
    let whole : IsLawfulPart c number (lines_at text from.at) n = record {
      tree = p.tree;
      lawful = p.lawful;
      rest = p.rest;
      lines_are = p.lines_are;
      count = refl;
    } in
    record { count = n; met = (parts c number (lines_at text from.at) n).1 whole; spans = p.spans }

pub within_more : (text : List ℕ) (from to : Spot) → IsWithin text from → to.at ≤ length text → to.line + from.at ≤ from.line + to.at → IsWithin text to
within_more text from to h at few = let line = h.line in record { at = at; line = omega arith }

-- what is said of an answer says something else of it
pub ok_too : {T E : Type 0} (r : Result T E) (P Q : T → Type 0) → ((x : T) → P x → Q x) → IfOk r P → IfOk r Q
ok_too (Ok x) P Q h k = h x k
ok_too (Err e) P Q h k = tt

-- one part more
pub parts_push : (n : ℕ) (cs : List Problem) (c : Problem) → parts_from n (cs ++ c ∷ []) ≡ parts_from n cs ++ part c (n + length cs) ∷ []
parts_push n [] c = let none : n ≡ n + 0 = omega arith in ap (λ k. part c k ∷ []) none
parts_push n (x ∷ cs) c =
    let moved : n + 1 + length cs ≡ n + suc (length cs) = omega arith in
    ap (λ ds. part x n ∷ ds) (parts_push (n + 1) cs c ∙ ap (λ k. parts_from (n + 1) cs ++ part c k ∷ []) moved)

module _ (t : Script) (g : Signature) where
  pub problems_long : (ds : List Duty) (cs : List Problem) → AreProblemsOf t g ds cs → length ds ≡ length cs
  problems_long [] [] h = refl
  problems_long [] (c ∷ cs) h = absurd h
  problems_long (d ∷ ds) [] h = absurd h
  problems_long (d ∷ ds) (c ∷ cs) h = ap suc (problems_long ds cs h.1)

  pub problems_push : (ds : List Duty) (cs : List Problem) (n : ℕ) (duty : Duty) (c : Problem) → slice_get ds n ≡ Some duty → AreProblemsOf t g (take n ds) cs
      → IsProblemFor g (formula_of t duty) (normal_form (formula_of t duty)) c → AreProblemsOf t g (take (n + 1) ds) (cs ++ c ∷ [])
  problems_push [] cs n duty c at h is = cc
  problems_push (d ∷ ds) [] zero duty c at h is =
      let same : d ≡ duty = cc in (subst (λ (x : Duty). IsProblemFor g (formula_of t x) (normal_form (formula_of t x)) c) (sym same) is, tt)
  problems_push (d ∷ ds) (x ∷ cs) zero duty c at h is = absurd h
  problems_push (d ∷ ds) [] (suc n) duty c at h is = absurd h
  problems_push (d ∷ ds) (x ∷ cs) (suc n) duty c at h is =
      let next : suc n + 1 ≡ suc (n + 1) = omega arith in
      subst (λ k. AreProblemsOf t g (take k (d ∷ ds)) (x ∷ cs ++ c ∷ [])) (sym next) (h.0, problems_push ds cs n duty c at h.1 is)

  pub take_long : (ds : List Duty) (n : ℕ) (duty : Duty) → slice_get ds n ≡ Some duty → length (take n ds) ≡ n
  take_long [] n duty at = cc
  take_long (d ∷ ds) zero duty at = refl
  take_long (d ∷ ds) (suc n) duty at = ap suc (take_long ds n duty at)

  module _ (text : List ℕ) where
    -- what a part comes to over clauses of the obligation
    pub part_of : (duty : Duty) (number : ℕ) (from : Spot) (c : Problem) (found : Part) → IsProblemFor g (formula_of t duty) (normal_form (formula_of t duty)) c
        → IsPartOver text c number from found → IsPartOf t g text duty number from found
    part_of duty number from c (Passed to) is h = record { problem = c; is = is; over = h }
    part_of duty number from c (Bad line) is h = record { problem = c; is = is; over = h }
    part_of duty number from c (Cyclic of_duty cycle) is h = absurd h
    part_of duty number from c (TooLarge of_duty terms nodes) is h = absurd h

    -- nothing but the first line
    pub begun : (to : Spot) → Passes text start (heading ∷ []) to → IsWithin text to → HasParts t g text 0 to
    begun to h within = record { problems = []; are = tt; passes = h; within = within }

    module _ (n : ℕ) (spot : Spot) (has : HasParts t g text n spot) (duty : Duty) (at : slice_get (obligations_of t) n ≡ Some duty) where
      numbered : 1 + length has.problems ≡ n + 1
      numbered =
          let long = problems_long (take n (obligations_of t)) has.problems has.are in
          let short = take_long (obligations_of t) n duty at in omega (arith, long, short)

      front_push : (c : Problem) → front_of (has.problems ++ c ∷ []) ≡ front_of has.problems ++ part c (n + 1) ∷ []
      front_push c = ap (λ ds. heading ∷ ds) (parts_push 1 has.problems c ∙ ap (λ k. parts_from 1 has.problems ++ part c k ∷ []) numbered)

      pub one_more : (to : Spot) → IsOver t g text duty (n + 1) spot (Passed to) → HasParts t g text (n + 1) to
      one_more to h = record {
        problems = has.problems ++ h.problem ∷ [];
        are = problems_push (obligations_of t) has.problems n duty h.problem at has.are h.is;
        passes = subst (λ (ds : List Due). Passes text start ds to) (sym (front_push h.problem))
            ((parts_follow text start spot (front_of has.problems) (part h.problem (n + 1) ∷ [])).passes has.passes to h.over.0);
        within = h.over.1;
      }

      pub bad_part : (line : ℕ) → IsOver t g text duty (n + 1) spot (Bad line) → IsBadPart t g text line
      bad_part line h = record {
        count = n + 1;
        problems = has.problems ++ h.problem ∷ [];
        are = problems_push (obligations_of t) has.problems n duty h.problem at has.are h.is;
        bad = subst (λ (ds : List Due). IsBadLine text start ds line) (sym (front_push h.problem))
            ((parts_follow text start spot (front_of has.problems) (part h.problem (n + 1) ∷ [])).bad has.passes line h.over);
      }

      pub reached : IsReached t g text duty
      reached = record { place = n; at = at; problems = has.problems; are = has.are; to = spot; passes = has.passes }

      pub cyclic_part : (of_duty : Duty) (cycle : List ℕ) → (of_duty ≡ duty) × IsCyclic g (formula_of t duty) (normal_form (formula_of t duty)) cycle
          → IsRecheckedOver t g text (rechecked.Cyclic of_duty cycle)
      cyclic_part of_duty cycle h =
          subst (λ (d : Duty). IsReached t g text d × IsCyclic g (formula_of t d) (normal_form (formula_of t d)) cycle) (sym h.0) (reached, h.1)

      pub large_part : (of_duty : Duty) (terms nodes : ℕ) → (of_duty ≡ duty) × IsTooLargeBy g (formula_of t duty) (normal_form (formula_of t duty)) terms nodes
          → IsRecheckedOver t g text (rechecked.TooLarge of_duty terms nodes)
      large_part of_duty terms nodes h =
          subst (λ (d : Duty). IsReached t g text d × IsTooLargeBy g (formula_of t d) (normal_form (formula_of t d)) terms nodes) (sym h.0) (reached, h.1)

    -- what was found of the part at a place
    module _ (ds : List Duty) (d : Duty) (n number : ℕ) (spot : Spot) (found : Part) (all : ds ≡ obligations_of t) (lt : n < length ds) (is : number ≡ n + 1) (has : HasParts t g text n spot)
        (h : IsPartOf t g text (get_or ds n d) number spot found) where
      there : slice_get (obligations_of t) n ≡ Some (get_or ds n d)
      there = subst (λ (xs : List Duty). slice_get xs n ≡ Some (get_or ds n d)) all (slice_get-get_or ds n d lt)

      own : IsPartOf t g text (get_or ds n d) (n + 1) spot found
      own = subst (λ k. IsPartOf t g text (get_or ds n d) k spot found) is h

      pub more_at : (to : Spot) → found ≡ Passed to → HasParts t g text (n + 1) to
      more_at to e = one_more n spot has (get_or ds n d) there to (subst (λ (part : Part). IsPartOf t g text (get_or ds n d) (n + 1) spot part) e own)

      pub bad_at : (line : ℕ) → found ≡ Bad line → IsBadPart t g text line
      bad_at line e = bad_part n spot has (get_or ds n d) there line (subst (λ (part : Part). IsPartOf t g text (get_or ds n d) (n + 1) spot part) e own)

      pub cyclic_at : (duty : Duty) (cycle : List ℕ) → found ≡ Cyclic duty cycle → IsRecheckedOver t g text (rechecked.Cyclic duty cycle)
      cyclic_at duty cycle e = cyclic_part n spot has (get_or ds n d) there duty cycle (subst (λ (part : Part). IsPartOf t g text (get_or ds n d) (n + 1) spot part) e own)

      pub large_at : (duty : Duty) (terms nodes : ℕ) → found ≡ TooLarge duty terms nodes → IsRecheckedOver t g text (rechecked.TooLarge duty terms nodes)
      large_at duty terms nodes e = large_part n spot has (get_or ds n d) there duty terms nodes (subst (λ (part : Part). IsPartOf t g text (get_or ds n d) (n + 1) spot part) e own)

    -- the parts of all obligations, and what stands behind them
    pub all_parts : (n : ℕ) (spot : Spot) → length (obligations_of t) ≤ n → HasParts t g text n spot → HasParts t g text (length (obligations_of t)) spot
    all_parts n spot le h = record {
      problems = h.problems;
      are = subst (λ (ds : List Duty). AreProblemsOf t g ds h.problems) (take_all n (obligations_of t) le ∙ sym (take_all (length (obligations_of t)) (obligations_of t) (omega arith))) h.are;
      passes = h.passes;
      within = h.within;
    }

    module _ (from : Spot) (has : HasParts t g text (length (obligations_of t)) from) where
      are_all : AreProblemsOf t g (obligations_of t) has.problems
      are_all = subst (λ (ds : List Duty). AreProblemsOf t g ds has.problems) (take_all (length (obligations_of t)) (obligations_of t) (omega arith)) has.are

      pub bad_end : (line : ℕ) → IsBadLine text from (ending ∷ []) line → IsRecheckedOver t g text (rechecked.BadLine line)
      bad_end line h = inr (inl (record {
        problems = has.problems;
        are = are_all;
        bad = (parts_follow text start from (front_of has.problems) (ending ∷ [])).bad has.passes line h;
      }))

      pub behind_end : (to : Spot) → Passes text from (ending ∷ []) to → to.at < length text → IsRecheckedOver t g text (rechecked.BadLine to.line)
      behind_end to h more = inr (inr (record {
        problems = has.problems;
        are = are_all;
        to = to;
        passes = (parts_follow text start from (front_of has.problems) (ending ∷ [])).passes has.passes to h;
        more = more;
        is = refl;
      }))

      pub certified : (duties : ℕ) (to : Spot) → duties ≡ length (obligations_of t) → Passes text from (ending ∷ []) to → to.at ≡ length text
          → IsRecheckedOver t g text (rechecked.Certified duties)
      certified duties to count h whole = (
        count,
        record {
          problems = has.problems;
          are = are_all;
          to = to;
          passes = (parts_follow text start from (front_of has.problems) (ending ∷ [])).passes has.passes to h;
          whole = whole;
        },
      )
