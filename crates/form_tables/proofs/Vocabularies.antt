-- Each formula has a vocabulary over a list of terms that are formed of each other.
use Rattle.std.proofs.Common.{◌≡◌, ℕ, inl, inr, refl, sym, ◌∙◌, List, [], ◌∷◌, ◌++◌, Some, None, Option, ap, subst, slice_get, Contains}
use Rattle.std.specs.List.{flat_map}
use Rattle.std.specs.Option.{option_map, option_to_list}
use Rattle.std.proofs.lemmas.List.Elements.{Contains-append_cases, Contains-append_left, Contains-append_right}
use Rattle.form_formula.specs.declared.structure.Range.{Range}
use Rattle.form_formula.specs.declared.structure.Range.TheVariants as kinds
use Rattle.form_formula.specs.declared.structure.FunSig.{FunSig}
use Rattle.form_formula.specs.declared.structure.SetSig.{SetSig}
use Rattle.form_formula.specs.declared.structure.Signature.{Signature}
use Rattle.form_formula.specs.Over.{IsOver, HasRange, IsFunction}
use Rattle.form_formula.specs.Trees.{Term, Formula, bound, num, str, app, yes, no, equal, less, has, flag, present, negation, both, either, exists, forall}
use Rattle.form_terms.specs.GroundTerms.{GroundTerm, GroundTerms, constant, skolem, field, no_terms, term_and, sort_of, target_of}
use Rattle.form_terms.specs.Parts.{if_element}
use Rattle.form_terms.specs.Universe.{HasEach}
use Rattle.form_terms.proofs.Lists.{Contains-head, Contains-cons_cases, Contains-none, Contains-flat_map, flat_map-Contains}
use Rattle.form_terms.proofs.Typed.{to_option, from_option, in_element, to_element, target_at}
use Rattle.form_tables.specs.Vocabulary.{AreFormed, only, Vocabulary, Pair, IsVocabulary, IsFormed, IsOther, IsFunctionAt, IsValuedIn, CoversTerm, CoversAtom, term_at}
use Rattle.form_tables.specs.Table.{holds}
use Rattle.form_tables.proofs.Transfer.{AreTerms, read_also}
use Rattle.form_tables.proofs.MadeAtoms.{term_named}
use Rattle.form_tables.proofs.Instances.{Instance, IsGood, instances, names, covers_from, walk}

-- the functions at terms that a term is made of, and those that name elements
abbrev all_in : List GroundTerm → Term → List GroundTerm
all_in env (bound sort depth) = []
all_in env (num n) = []
all_in env (str w) = []
all_in env (app h t) = option_to_list (term_at env (app h t)) ++ all_in env t

abbrev named_in : Signature → List GroundTerm → Term → List GroundTerm
named_in g env (bound sort depth) = []
named_in g env (num n) = []
named_in g env (str w) = []
named_in g env (app h t) = if_element g h (option_to_list (term_at env (app h t))) ++ named_in g env t

abbrev pair_in : ℕ → Option GroundTerm → Option GroundTerm → List Pair
pair_in r None u = []
pair_in r (Some t) None = []
pair_in r (Some t) (Some u) = record { relation = r; holder = t; member = u } ∷ []

-- what an instance speaks of
abbrev named_by : Signature → List GroundTerm → Formula → List GroundTerm
named_by g env yes = []
named_by g env no = []
named_by g env (equal t u) = named_in g env t ++ named_in g env u
named_by g env (less t u) = named_in g env t ++ named_in g env u
named_by g env (has r t u) = named_in g env t ++ named_in g env u
named_by g env (flag h t) = named_in g env t
named_by g env (present h t) = named_in g env t
named_by g env (negation a) = []
named_by g env (both a b) = []
named_by g env (either a b) = []
named_by g env (exists sort a) = []
named_by g env (forall sort a) = []

abbrev others_by : List GroundTerm → Formula → List GroundTerm
others_by env yes = []
others_by env no = []
others_by env (equal t u) = all_in env t ++ all_in env u
others_by env (less t u) = all_in env t ++ all_in env u
others_by env (has r t u) = all_in env t ++ all_in env u
others_by env (flag h t) = all_in env (app h t)
others_by env (present h t) = all_in env (app h t)
others_by env (negation a) = []
others_by env (both a b) = []
others_by env (either a b) = []
others_by env (exists sort a) = []
others_by env (forall sort a) = []

abbrev pairs_by : List GroundTerm → Formula → List Pair
pairs_by env yes = []
pairs_by env no = []
pairs_by env (equal t u) = []
pairs_by env (less t u) = []
pairs_by env (has r t u) = pair_in r (term_at env t) (term_at env u)
pairs_by env (flag h t) = []
pairs_by env (present h t) = []
pairs_by env (negation a) = []
pairs_by env (both a b) = []
pairs_by env (either a b) = []
pairs_by env (exists sort a) = []
pairs_by env (forall sort a) = []

module _ (g : Signature) (f : Formula) (v : Vocabulary) where
  abbrev IsNamed : GroundTerm → Type 0
  IsNamed t = Contains v.named t

  abbrev AllIn : List GroundTerm → List GroundTerm → Type 0
  AllIn xs ys = (t : GroundTerm) → Contains xs t → Contains ys t

  abbrev IsSorted : GroundTerm → Type 0
  IsSorted t = (sort : ℕ) × (sort_of g t ≡ Some sort)

  module _ (scope : List ℕ) (env : List GroundTerm) (above : AreTerms g v.named scope env) where
    -- a record term is a ground term that is named
    record_named : (t : Term) (sort : ℕ) → HasRange g scope t (kinds.Rec sort) → AllIn (named_in g env t) v.named
        → (u : GroundTerm) × (term_at env t ≡ Some u) × (sort_of g u ≡ Some sort) × IsNamed u
    record_named (bound n depth) sort h sub =
        let (u, here, named, kind) = term_named g v.named scope env depth n above h.0 in
        let same : n ≡ sort = cc in
        (u, here, kind ∙ ap (λ n. Some n) same, named)
    record_named (num n) sort h sub = cc
    record_named (str w) sort h sub = cc
    record_named (app h t) sort (sig, there, inner, e) sub =
        let first : List GroundTerm = if_element g h (option_to_list (term_at env (app h t))) in
        let (u, here, kind, named) = record_named t sig.from inner (λ x c. sub x (Contains-append_right first (named_in g env t) x c)) in
        let whole : term_at env (app h t) ≡ Some (field h u) = ap (option_map (field h)) here in
        let target : target_of g h ≡ Some sort = target_at g h sig sort there (sym e) in (
          field h u,
          whole,
          target,
          sub (field h u) (Contains-append_left first (named_in g env t) (field h u)
              (to_element g h sort (option_to_list (term_at env (app h t))) (field h u) target (to_option (term_at env (app h t)) (field h u) whole))),
        )

    function_at : (h : ℕ) (t : Term) (sig : FunSig) → IsFunction g h sig → HasRange g scope t (kinds.Rec sig.from) → AllIn (named_in g env t) v.named
        → (x : GroundTerm) → term_at env (app h t) ≡ Some x → (u : GroundTerm) × (field h u ≡ x) × IsFunctionAt g v h u
    function_at h t sig there inner sub x e =
        let (u, here, kind, named) = record_named t sig.from inner sub in
        let both : Some (field h u) ≡ Some x = sym (ap (option_map (field h)) here) ∙ e in
        (u, cc, (sig, there, kind, named))

    covered : (t : Term) (range : Range) → HasRange g scope t range → AllIn (named_in g env t) v.named → AllIn (all_in env t) v.others → CoversTerm g v env t
    covered (bound n depth) range h sub all = tt
    covered (num n) range h sub all = tt
    covered (str w) range h sub all = tt
    covered (app h t) range (sig, there, inner, e) sub all =
        let first : List GroundTerm = if_element g h (option_to_list (term_at env (app h t))) in
        let own : List GroundTerm = option_to_list (term_at env (app h t)) in
        let sub-inner : AllIn (named_in g env t) v.named = λ x c. sub x (Contains-append_right first (named_in g env t) x c) in (
          covered t (kinds.Rec sig.from) inner sub-inner (λ x c. all x (Contains-append_right own (all_in env t) x c)),
          λ x e.
              let (u, same, at) = function_at h t sig there inner sub-inner x e in
              let kind : sort_of g x ≡ target_of g h = ap (sort_of g) (sym same) in
              let P : Option ℕ → Type 0 = λ o. IsValuedIn g v o x in
              let valued : (o : Option ℕ) → target_of g h ≡ o → IsValuedIn g v o x = λ o. elim o as (λ o. target_of g h ≡ o → IsValuedIn g v o x) [
                | None ↦ λ p. Contains-append_right v.named v.others x (all x (Contains-append_left own (all_in env t) x (to_option (term_at env (app h t)) x e)))
                | Some sort ↦ λ p. sub x (Contains-append_left first (named_in g env t) x (to_element g h sort own x p (to_option (term_at env (app h t)) x e)))
              ] in
              subst P (sym kind) (valued (target_of g h) refl),
        )

    -- named terms are formed, and others are functions
    all_formed : (t : Term) (range : Range) → HasRange g scope t range → AllIn (named_in g env t) v.named → (x : GroundTerm) → Contains (named_in g env t) x
        → (IsFormed g f v x) × IsSorted x
    all_formed (bound n depth) range h sub x c = Contains-none x c
    all_formed (num n) range h sub x c = Contains-none x c
    all_formed (str w) range h sub x c = Contains-none x c
    all_formed (app h t) range (sig, there, inner, e) sub x c =
        let first : List GroundTerm = if_element g h (option_to_list (term_at env (app h t))) in
        let sub-inner : AllIn (named_in g env t) v.named = λ x c. sub x (Contains-append_right first (named_in g env t) x c) in
        elim (Contains-append_cases first (named_in g env t) x c) [
          | inl own ↦
              let (to, target, listed) = in_element g h (option_to_list (term_at env (app h t))) x own in
              let (u, same, at) = function_at h t sig there inner sub-inner x (from_option (term_at env (app h t)) x listed) in
              let P : GroundTerm → Type 0 = λ x. (IsFormed g f v x) × IsSorted x in
              subst P same (at, (to, target))
          | inr later ↦ all_formed t (kinds.Rec sig.from) inner sub-inner x later
        ]

    all_functions : (t : Term) (range : Range) → HasRange g scope t range → AllIn (named_in g env t) v.named → (x : GroundTerm) → Contains (all_in env t) x → IsOther g v x
    all_functions (bound n depth) range h sub x c = Contains-none x c
    all_functions (num n) range h sub x c = Contains-none x c
    all_functions (str w) range h sub x c = Contains-none x c
    all_functions (app h t) range (sig, there, inner, e) sub x c =
        let first : List GroundTerm = if_element g h (option_to_list (term_at env (app h t))) in
        let sub-inner : AllIn (named_in g env t) v.named = λ x c. sub x (Contains-append_right first (named_in g env t) x c) in
        elim (Contains-append_cases (option_to_list (term_at env (app h t))) (all_in env t) x c) [
          | inl own ↦
              let (u, same, at) = function_at h t sig there inner sub-inner x (from_option (term_at env (app h t)) x own) in
              let P : GroundTerm → Type 0 = λ x. IsOther g v x in
              subst P same at
          | inr later ↦ all_functions t (kinds.Rec sig.from) inner sub-inner x later
        ]

    -- two terms of an atom
    module _ (t u : Term) (sub : AllIn (named_in g env t ++ named_in g env u) v.named) where
      left_sub : AllIn (named_in g env t) v.named
      left_sub x c = sub x (Contains-append_left (named_in g env t) (named_in g env u) x c)

      right_sub : AllIn (named_in g env u) v.named
      right_sub x c = sub x (Contains-append_right (named_in g env t) (named_in g env u) x c)

      two_covered : (r k : Range) → HasRange g scope t r → HasRange g scope u k → AllIn (all_in env t ++ all_in env u) v.others → CoversTerm g v env t × CoversTerm g v env u
      two_covered r k p q all = (
        covered t r p left_sub (λ x c. all x (Contains-append_left (all_in env t) (all_in env u) x c)),
        covered u k q right_sub (λ x c. all x (Contains-append_right (all_in env t) (all_in env u) x c)),
      )

      two_formed : (r k : Range) → HasRange g scope t r → HasRange g scope u k → (x : GroundTerm) → Contains (named_in g env t ++ named_in g env u) x → (IsFormed g f v x) × IsSorted x
      two_formed r k p q x c =
          elim (Contains-append_cases (named_in g env t) (named_in g env u) x c) [
            | inl c ↦ all_formed t r p left_sub x c
            | inr c ↦ all_formed u k q right_sub x c
          ]

      two_functions : (r k : Range) → HasRange g scope t r → HasRange g scope u k → (x : GroundTerm) → Contains (all_in env t ++ all_in env u) x → IsOther g v x
      two_functions r k p q x c =
          elim (Contains-append_cases (all_in env t) (all_in env u) x c) [
            | inl c ↦ all_functions t r p left_sub x c
            | inr c ↦ all_functions u k q right_sub x c
          ]

    abbrev IsPair : Pair → Type 0
    IsPair p = (sig : SetSig) × (slice_get g.sets p.relation ≡ Some sig)
        × (sort_of g p.holder ≡ Some sig.from) × IsNamed p.holder × (sort_of g p.member ≡ Some sig.to) × IsNamed p.member

    pair_listed : (r : ℕ) (o q : Option GroundTerm) (x y : GroundTerm) → o ≡ Some x → q ≡ Some y → Contains (pair_in r o q) (record { relation = r; holder = x; member = y })
    pair_listed r None q x y e h = cc
    pair_listed r (Some z) None x y e h = cc
    pair_listed r (Some z) (Some w) x y e h =
        let a : z ≡ x = cc in
        let b : w ≡ y = cc in
        let P : GroundTerm → Type 0 = λ x. Contains (pair_in r (Some z) (Some w)) (record { relation = r; holder = x; member = y }) in
        let Q : GroundTerm → Type 0 = λ y. Contains (pair_in r (Some z) (Some w)) (record { relation = r; holder = z; member = y }) in
        let own : Pair = record { relation = r; holder = z; member = w } in
        subst P a (subst Q b (Contains-head own []))

    pair_from : (r : ℕ) (o q : Option GroundTerm) (p : Pair) → Contains (pair_in r o q) p
        → (x : GroundTerm) × (y : GroundTerm) × (o ≡ Some x) × (q ≡ Some y) × (record { relation = r; holder = x; member = y } ≡ p)
    pair_from r None q p c = Contains-none p c
    pair_from r (Some z) None p c = Contains-none p c
    pair_from r (Some z) (Some w) p c =
        let own : Pair = record { relation = r; holder = z; member = w } in
        elim (Contains-cons_cases own [] p c) [
          | inl e ↦ (z, w, refl, refl, e)
          | inr none ↦ Contains-none p none
        ]

    -- what an atom speaks of
    abbrev Lists : Formula → Type 0
    Lists a = AllIn (named_by g env a) v.named × (AllIn (others_by env a) v.others × ((p : Pair) → Contains (pairs_by env a) p → Contains v.pairs p))

    abbrev IsWhole : Formula → Type 0
    IsWhole a = CoversAtom g v env a × (((x : GroundTerm) → Contains (named_by g env a) x → (IsFormed g f v x) × IsSorted x)
        × (((x : GroundTerm) → Contains (others_by env a) x → IsOther g v x) × ((p : Pair) → Contains (pairs_by env a) p → IsPair p)))

    flag_functions : (h : ℕ) (t : Term) (sig : FunSig) → IsFunction g h sig → HasRange g scope t (kinds.Rec sig.from) → AllIn (named_in g env t) v.named
        → (x : GroundTerm) → Contains (all_in env (app h t)) x → IsOther g v x
    flag_functions h t sig there inner sub x c =
        elim (Contains-append_cases (option_to_list (term_at env (app h t))) (all_in env t) x c) [
          | inl own ↦
              let (u, same, at) = function_at h t sig there inner sub x (from_option (term_at env (app h t)) x own) in
              let P : GroundTerm → Type 0 = λ x. IsOther g v x in
              subst P same at
          | inr later ↦ all_functions t (kinds.Rec sig.from) inner sub x later
        ]

    pub atom_whole : (a : Formula) → IsOver g scope a → Lists a → IsWhole a
    atom_whole yes h l = (tt, (λ x c. Contains-none x c, (λ x c. Contains-none x c, λ p c. Contains-none p c)))
    atom_whole no h l = (tt, (λ x c. Contains-none x c, (λ x c. Contains-none x c, λ p c. Contains-none p c)))
    atom_whole (equal t u) (range, alike, p, q) (sub, (all, pairs)) =
        (two_covered t u sub range range p q all, (two_formed t u sub range range p q, (two_functions t u sub range range p q, λ p c. Contains-none p c)))
    atom_whole (less t u) (p, q) (sub, (all, pairs)) =
        (two_covered t u sub kinds.Num kinds.Num p q all, (two_formed t u sub kinds.Num kinds.Num p q, (two_functions t u sub kinds.Num kinds.Num p q, λ p c. Contains-none p c)))
    atom_whole (has r t u) (sig, there, p, q) (sub, (all, pairs)) =
        let (left, right) = two_covered t u sub (kinds.Rec sig.from) (kinds.Rec sig.to) p q all in
        let (x, x-at, x-kind, x-named) = record_named t sig.from p (left_sub t u sub) in
        let (y, y-at, y-kind, y-named) = record_named u sig.to q (right_sub t u sub) in (
          (left, right, λ x y a b. pairs (record { relation = r; holder = x; member = y }) (pair_listed r (term_at env t) (term_at env u) x y a b)),
          (
            two_formed t u sub (kinds.Rec sig.from) (kinds.Rec sig.to) p q,
            (
              two_functions t u sub (kinds.Rec sig.from) (kinds.Rec sig.to) p q,
              λ pair c.
                  let (z, w, z-at, w-at, e) = pair_from r (term_at env t) (term_at env u) pair c in
                  let a : Some x ≡ Some z = sym x-at ∙ z-at in
                  let b : Some y ≡ Some w = sym y-at ∙ w-at in
                  let same : x ≡ z = cc in
                  let same' : y ≡ w = cc in
                  let P : Pair → Type 0 = λ p. IsPair p in
                  let Q : GroundTerm → Type 0 = λ z. (sort_of g z ≡ Some sig.from) × IsNamed z in
                  let R : GroundTerm → Type 0 = λ w. (sort_of g w ≡ Some sig.to) × IsNamed w in
                  let first = subst Q same (x-kind, x-named) in
                  let second = subst R same' (y-kind, y-named) in
                  subst P e (sig, there, first.0, first.1, second.0, second.1),
            ),
          ),
        )
    atom_whole (flag h t) (sig, there, p, to) (sub, (all, pairs)) = (
      (
        covered t (kinds.Rec sig.from) p sub (λ x c. all x (Contains-append_right (option_to_list (term_at env (app h t))) (all_in env t) x c)),
        λ x e. Contains-append_right v.named v.others x (all x (Contains-append_left (option_to_list (term_at env (app h t))) (all_in env t) x (to_option (term_at env (app h t)) x e))),
      ),
      (all_formed t (kinds.Rec sig.from) p sub, (flag_functions h t sig there p sub, λ p c. Contains-none p c)),
    )
    atom_whole (present h t) (sig, there, p) (sub, (all, pairs)) = (
      (
        covered t (kinds.Rec sig.from) p sub (λ x c. all x (Contains-append_right (option_to_list (term_at env (app h t))) (all_in env t) x c)),
        λ x e. Contains-append_right v.named v.others x (all x (Contains-append_left (option_to_list (term_at env (app h t))) (all_in env t) x (to_option (term_at env (app h t)) x e))),
      ),
      (all_formed t (kinds.Rec sig.from) p sub, (flag_functions h t sig there p sub, λ p c. Contains-none p c)),
    )
    atom_whole (negation a) h l = (tt, (λ x c. Contains-none x c, (λ x c. Contains-none x c, λ p c. Contains-none p c)))
    atom_whole (both a b) h l = (tt, (λ x c. Contains-none x c, (λ x c. Contains-none x c, λ p c. Contains-none p c)))
    atom_whole (either a b) h l = (tt, (λ x c. Contains-none x c, (λ x c. Contains-none x c, λ p c. Contains-none p c)))
    atom_whole (exists sort a) h l = (tt, (λ x c. Contains-none x c, (λ x c. Contains-none x c, λ p c. Contains-none p c)))
    atom_whole (forall sort a) h l = (tt, (λ x c. Contains-none x c, (λ x c. Contains-none x c, λ p c. Contains-none p c)))

-- the vocabulary of a formula over a list of terms
module _ (g : Signature) (f : Formula) (terms : List GroundTerm) where
  abbrev all_instances : List Instance
  all_instances = instances g f terms 0 [] no_terms f

  abbrev all_names : List GroundTerm
  all_names = names g f terms 0 [] no_terms f

  abbrev atom_terms : List GroundTerm
  atom_terms = flat_map (λ i. named_by g i.env i.atom) all_instances

  abbrev pub words : Vocabulary
  words = record {
    named = terms ++ (all_names ++ atom_terms);
    others = flat_map (λ i. others_by i.env i.atom) all_instances;
    pairs = flat_map (λ i. pairs_by i.env i.atom) all_instances;
  }

  ranged_named : (t : GroundTerm) → Contains terms t → Contains words.named t
  ranged_named t c = Contains-append_left terms (all_names ++ atom_terms) t c

  names_named : (t : GroundTerm) → Contains all_names t → Contains words.named t
  names_named t c = Contains-append_right terms (all_names ++ atom_terms) t (Contains-append_left all_names atom_terms t c)

  atoms_named : (i : Instance) (t : GroundTerm) → Contains all_instances i → Contains (named_by g i.env i.atom) t → Contains words.named t
  atoms_named i t c d =
      Contains-append_right terms (all_names ++ atom_terms) t
      (Contains-append_right all_names atom_terms t (flat_map-Contains (λ i. named_by g i.env i.atom) all_instances i t c d))

  module _ (over : IsOver g [] f) (closed : AreFormed g f terms) where
    walked : ((i : Instance) → Contains all_instances i → IsGood g f terms words i)
        × ((t : GroundTerm) → Contains all_names t → (IsFormed g f words t) × ((sort : ℕ) × (sort_of g t ≡ Some sort)))
    walked =
        walk g f terms words ranged_named f 0 [] [] [] [] no_terms
        (record { over = over; inside = λ p c. c; env_terms = tt; sorts = tt; listed = tt }) names_named

    whole : (i : Instance) → (c : Contains all_instances i)
        → IsWhole g f words (walked.0 i c).scope i.env (walked.0 i c).above i.atom
    whole i c =
        let good = walked.0 i c in
        atom_whole g f words good.scope i.env good.above i.atom good.over (
          λ t d. atoms_named i t c d,
          (
            λ t d. flat_map-Contains (λ i. others_by i.env i.atom) all_instances i t c d,
            λ p d. flat_map-Contains (λ i. pairs_by i.env i.atom) all_instances i p c d,
          ),
        )

    -- a term that is formed of some terms is so of more
    more_each : (ts : GroundTerms) → HasEach (Contains terms) ts → HasEach (Contains words.named) ts
    more_each no_terms h = tt
    more_each (term_and t ts) h = (ranged_named t h.0, more_each ts h.1)

    more_formed : (t : GroundTerm) → IsFormed g f (only terms) t → IsFormed g f words t
    more_formed (constant sort) h = h
    more_formed (skolem number sort ts) (above, variable, sorts, each) = (above, variable, sorts, more_each ts each)
    more_formed (field h t) (sig, function, source, named) = (sig, function, source, ranged_named t named)

    abbrev IsFine : GroundTerm → Type 0
    IsFine t = (IsFormed g f words t) × ((sort : ℕ) × (sort_of g t ≡ Some sort))

    fine : (t : GroundTerm) → Contains words.named t → IsFine t
    fine t c =
        elim (Contains-append_cases terms (all_names ++ atom_terms) t c) [
          | inl here ↦ (more_formed t (closed.formed t here), closed.sorted t here)
          | inr rest ↦
              elim (Contains-append_cases all_names atom_terms t rest) [
                | inl here ↦ walked.1 t here
                | inr here ↦
                    let (i, listed, own) = Contains-flat_map (λ i. named_by g i.env i.atom) all_instances t here in
                    (whole i listed).1.0 t own
              ]
        ]

    pub is_vocabulary : IsVocabulary g f terms words
    is_vocabulary = record {
      ranged = ranged_named;
      decides = λ is_there is_there' one two there atoms r.
          read_also g words terms ranged_named is_there is_there' (holds one) (holds two) there atoms f 0 [] [] no_terms over tt
          (covers_from g f terms words f 0 [] no_terms (λ i c. (whole i c).0) names_named) r;
      sorted = λ t c. (fine t c).1;
      formed = λ t c. (fine t c).0;
      functions = λ t c.
          let (i, listed, own) = Contains-flat_map (λ i. others_by i.env i.atom) all_instances t c in
          (whole i listed).1.1.0 t own;
      related = λ p c.
          let (i, listed, own) = Contains-flat_map (λ i. pairs_by i.env i.atom) all_instances p c in
          (whole i listed).1.1.1 p own;
    }
