-- What keeps a search in step: a theory and a trail that go on together.
use Rattle.std.proofs.Common.{◌≡◌, ℕ, ◌<◌, ◌≤◌, ◌-◌, Bool, true, false, cond, List, [], ◌∷◌, ◌++◌, length, take, get_or, Option, Some, None, Result, Ok, Err, OnOk, OnErr, refl, sym, ap, ◌∙◌, arith}
use Rattle.std.specs.Bool.{IsTrue, OnFalse}
use Rattle.std.specs.Option.{option_map, option_to_list, is_some, IfSome}
use Rattle.std.proofs.lemmas.List.{append-nil, length-append, take_at, get_or_append_left}
use Rattle.std.proofs.lemmas.List.Elements.{All-push}
use Rattle.solve_theory.specs.Models.{HasModel}
use Rattle.solve_theory.proofs.Models.{HasModel-front}
use Rattle.solve_solver.specs.declared.literal.PLit.{PLit}
use Rattle.solve_solver.specs.declared.trail.Entry.{Entry}
use Rattle.solve_solver.specs.Clauses.{IsWithin}
use Rattle.solve_solver.specs.ContextView.{ContextView, Lawful, IsContext, IsKeptContext, IsTaken}
use Rattle.solve_solver.specs.Trail.{value_in, Forces, Follows, IsTrail, literal_of, trail_literals, trail_places}
use Rattle.solve_solver.proofs.Entailment.{Follows-fewer}
use Rattle.solve_solver.proofs.Places.{length-trail_places}
use Rattle.solve_solver.proofs.Trails.{length-unset}

length-option_to_list : {X : Type 0} (o : Option X) → length (option_to_list o) ≤ 1
length-option_to_list None = omega arith
length-option_to_list (Some x) = omega arith

pub length-some : {X : Type 0} (o : Option X) → is_some o ≡ true → length (option_to_list o) ≡ 1
length-some None h = cc
length-some (Some x) h = refl

length-trail_literals : {L : Type 0} (atoms : List (Option (L × L))) (es : List Entry) → length (trail_literals atoms es) ≤ length es
length-trail_literals atoms [] = omega arith
length-trail_literals atoms (e ∷ es) =
    let last = option_to_list (literal_of atoms e.literal) in
    omega (arith, length-append (trail_literals atoms es) last, length-option_to_list (literal_of atoms e.literal), length-trail_literals atoms es)

take_front : {X : Type 0} (xs ys : List X) → take (length (xs ++ ys) - length ys) (xs ++ ys) ≡ xs
take_front xs ys = take_at xs ys (length (xs ++ ys) - length ys) (omega (arith, length-append xs ys))

module _ {T M L : Type 0} (literals : T → List L) (capacity : T → ℕ) (takes : T → L → Bool) (models : T → M → Bool) (meets : M → L → Bool) where
  -- the same search with another list at the theory and another trail
  pub IsContext-moved : (s : ContextView T L) (theory : T) (entries : List Entry) → IsContext literals capacity takes models meets s → capacity theory ≡ capacity s.theory → takes theory ≡ takes s.theory → models theory ≡ models s.theory → literals theory ≡ trail_literals s.atoms entries → HasModel (models theory) meets (literals theory) → IsTrail s.vars entries → Follows (Lawful models meets s) entries → IsContext literals capacity takes models meets (record s { theory = theory; entries = entries })
  IsContext-moved s theory entries h same_capacity same_takes same_models in_step has_model trail follows = record {
    in_step = in_step;
    has_model = has_model;
    is_trail = trail;
    follows = rw same_models follows;
    one_each = h.one_each;
    room = rw same_capacity h.room;
    taken = rw same_takes h.taken;
    within = h.within;
  }

  -- a theory whose list has a variable less than set has room
  pub has_room : (s : ContextView T L) (l : PLit) → IsContext literals capacity takes models meets s → l.var < s.vars → value_in s.entries l.var ≡ None → length (literals s.theory) < capacity s.theory
  has_room s l h within unset =
      let short = length-unset s.vars s.entries l h.is_trail within unset in
      let most = length-trail_literals s.atoms s.entries in
      omega (arith, ap length h.in_step, h.room)

  -- it takes the literals of the atoms
  pub is_taken : (s : ContextView T L) (l : PLit) → IsContext literals capacity takes models meets s → l.var < s.vars → IfSome (literal_of s.atoms l) (λ x. IsTrue (takes s.theory x))
  is_taken s l h within = taken_side l.plus (get_or s.atoms l.var None) (h.taken l.var None (omega (arith, h.one_each)))
    where
      taken_side : (plus : Bool) (atom : Option (L × L)) → IsTaken (takes s.theory) atom → IfSome (option_map (λ pair. cond plus pair.0 pair.1) atom) (λ x. IsTrue (takes s.theory x))
      taken_side plus None t = tt
      taken_side true (Some pair) t = t.0
      taken_side false (Some pair) t = t.1

  -- one more literal
  pub IsContext-pushed : (s : ContextView T L) (theory : T) (e : Entry) → IsContext literals capacity takes models meets s → capacity theory ≡ capacity s.theory → takes theory ≡ takes s.theory → models theory ≡ models s.theory → literals theory ≡ literals s.theory ++ option_to_list (literal_of s.atoms e.literal) → HasModel (models s.theory) meets (literals s.theory ++ option_to_list (literal_of s.atoms e.literal)) → e.literal.var < s.vars → value_in s.entries e.literal.var ≡ None → OnFalse e.decided (Forces (Lawful models meets s) s.entries e.literal) → IsContext literals capacity takes models meets (record s { theory = theory; entries = e ∷ s.entries })
  IsContext-pushed s theory e h same_capacity same_takes same_models list has_model within unset forced =
      IsContext-moved s theory (e ∷ s.entries) h same_capacity same_takes same_models
      (list ∙ ap (λ t. t ++ option_to_list (literal_of s.atoms e.literal)) h.in_step)
      (rw (same_models, list) has_model)
      (within, (unset, h.is_trail)) (forced, h.follows)

  -- the latest literal taken back
  pub IsContext-popped : (s : ContextView T L) (theory : T) (e : Entry) (es : List Entry) → IsContext literals capacity takes models meets s → s.entries ≡ e ∷ es → capacity theory ≡ capacity s.theory → takes theory ≡ takes s.theory → models theory ≡ models s.theory → literals theory ≡ take (length (literals s.theory) - length (option_to_list (literal_of s.atoms e.literal))) (literals s.theory) → IsContext literals capacity takes models meets (record s { theory = theory; entries = es })
  IsContext-popped s theory e es h is same_capacity same_takes same_models list =
      let last = option_to_list (literal_of s.atoms e.literal) in
      let whole : literals s.theory ≡ trail_literals s.atoms es ++ last = h.in_step ∙ ap (trail_literals s.atoms) is in
      let left : literals theory ≡ trail_literals s.atoms es = list ∙ ap (λ t. take (length t - length last) t) whole ∙ take_front (trail_literals s.atoms es) last in
      let trail : IsTrail s.vars (e ∷ es) = rw is at h.is_trail in
      let follows : Follows (Lawful models meets s) (e ∷ es) = rw is at h.follows in
      let had : HasModel (models s.theory) meets (trail_literals s.atoms es ++ last) = rw whole at h.has_model in
      IsContext-moved s theory es h same_capacity same_takes same_models left
      (rw (same_models, left) (HasModel-front (models s.theory) meets (trail_literals s.atoms es) last had)) trail.1.1 follows.1

  -- with one more clause fewer assignments are lawful
  lawful_without : (s : ContextView T L) (clause : List PLit) (a : List Bool) → Lawful models meets (record s { clauses = s.clauses ++ clause ∷ [] }) a → Lawful models meets s a
  lawful_without s clause a h = record {
    one_each = h.one_each;
    meets_each = λ k d l. rw (get_or_append_left s.clauses (clause ∷ []) d k l) at (h.meets_each k d (omega (arith, length-append s.clauses (clause ∷ []))));
    has_model = h.has_model;
  }

  IsContext-more : (s : ContextView T L) (clause : List PLit) → IsContext literals capacity takes models meets s → IsWithin s.vars clause → IsContext literals capacity takes models meets (record s { clauses = s.clauses ++ clause ∷ [] })
  IsContext-more s clause h within = record {
    in_step = h.in_step;
    has_model = h.has_model;
    is_trail = h.is_trail;
    follows = Follows-fewer (Lawful models meets s) (Lawful models meets (record s { clauses = s.clauses ++ clause ∷ [] })) (lawful_without s clause) s.entries h.follows;
    one_each = h.one_each;
    room = h.room;
    taken = h.taken;
    within = All-push (IsWithin s.vars) s.clauses clause h.within within;
  }

  -- after a push of a clause that may have wanted memory
  pub IsContext-clause : {A E : Type 0} (r : Result A E) (s : ContextView T L) (clause : List PLit) (clauses : List (List PLit)) → OnOk r (clauses ≡ s.clauses ++ clause ∷ []) → OnErr r (clauses ≡ s.clauses) → IsContext literals capacity takes models meets s → IsWithin s.vars clause → IsContext literals capacity takes models meets (record s { clauses = clauses })
  IsContext-clause (Ok x) s clause clauses ok err h within = rw ok (IsContext-more s clause h within)
  IsContext-clause (Err x) s clause clauses ok err h within = rw err h

  -- the same with the variables of the theory's literals beside it
  pub IsKeptContext-pushed : (s : ContextView T L) (places more : List ℕ) (places_room core_room more_room : ℕ) (theory : T) (e : Entry) → IsKeptContext literals capacity takes models meets s places places_room core_room → IsContext literals capacity takes models meets (record s { theory = theory; entries = e ∷ s.entries }) → more ≡ places ++ option_to_list (option_map (λ _. e.literal.var) (literal_of s.atoms e.literal)) → places_room ≤ more_room → IsKeptContext literals capacity takes models meets (record s { theory = theory; entries = e ∷ s.entries }) more more_room core_room
  IsKeptContext-pushed s places more places_room core_room more_room theory e kept search is wider = record {
    state = search;
    places_in_step = is ∙ ap (λ vs. vs ++ option_to_list (option_map (λ _. e.literal.var) (literal_of s.atoms e.literal))) kept.places_in_step;
    has_places_room = omega (arith, kept.has_places_room);
    has_core_room = kept.has_core_room;
  }

  pub IsKeptContext-popped : (s : ContextView T L) (places less : List ℕ) (places_room core_room less_room : ℕ) (theory : T) (e : Entry) (es : List Entry) → IsKeptContext literals capacity takes models meets s places places_room core_room → IsContext literals capacity takes models meets (record s { theory = theory; entries = es }) → s.entries ≡ e ∷ es → is_some (literal_of s.atoms e.literal) ≡ true → less ≡ take (length places - 1) places → less_room ≡ places_room → IsKeptContext literals capacity takes models meets (record s { theory = theory; entries = es }) less less_room core_room
  IsKeptContext-popped s places less places_room core_room less_room theory e es kept search is some rest same =
      let last = option_to_list (option_map (λ _. e.literal.var) (literal_of s.atoms e.literal)) in
      let whole : places ≡ trail_places s.atoms es ++ last = kept.places_in_step ∙ ap (trail_places s.atoms) is in
      let one : length last ≡ 1 = length-some (option_map (λ _. e.literal.var) (literal_of s.atoms e.literal)) (some_mapped (literal_of s.atoms e.literal) some) in
      record {
        state = search;
        places_in_step = rest ∙ ap (λ n. take (length places - n) places) (sym one) ∙ ap (λ t. take (length t - length last) t) whole ∙ take_front (trail_places s.atoms es) last;
        has_places_room = omega (arith, kept.has_places_room);
        has_core_room = kept.has_core_room;
      }
    where
      some_mapped : (o : Option L) → is_some o ≡ true → is_some (option_map (λ _. e.literal.var) o) ≡ true
      some_mapped None h = h
      some_mapped (Some x) h = refl

  -- the latest literal has no atom
  pub IsKeptContext-plain : (s : ContextView T L) (places : List ℕ) (places_room core_room : ℕ) (e : Entry) (es : List Entry) → IsKeptContext literals capacity takes models meets s places places_room core_room → IsContext literals capacity takes models meets (record s { entries = es }) → s.entries ≡ e ∷ es → is_some (literal_of s.atoms e.literal) ≡ false → IsKeptContext literals capacity takes models meets (record s { entries = es }) places places_room core_room
  IsKeptContext-plain s places places_room core_room e es kept search is none = record {
    state = search;
    places_in_step = kept.places_in_step ∙ ap (trail_places s.atoms) is ∙ no_more (literal_of s.atoms e.literal) none;
    has_places_room = kept.has_places_room;
    has_core_room = kept.has_core_room;
  }
    where
      no_more : (o : Option L) → is_some o ≡ false → trail_places s.atoms es ++ option_to_list (option_map (λ _. e.literal.var) o) ≡ trail_places s.atoms es
      no_more None h = append-nil (trail_places s.atoms es)
      no_more (Some x) h = cc

  pub IsKeptContext-clause : {A E : Type 0} (r : Result A E) (s : ContextView T L) (places : List ℕ) (places_room core_room : ℕ) (clause : List PLit) (clauses : List (List PLit)) → OnOk r (clauses ≡ s.clauses ++ clause ∷ []) → OnErr r (clauses ≡ s.clauses) → IsKeptContext literals capacity takes models meets s places places_room core_room → IsWithin s.vars clause → IsKeptContext literals capacity takes models meets (record s { clauses = clauses }) places places_room core_room
  IsKeptContext-clause r s places places_room core_room clause clauses ok err kept within = record {
    state = IsContext-clause r s clause clauses ok err kept.state within;
    places_in_step = kept.places_in_step;
    has_places_room = kept.has_places_room;
    has_core_room = kept.has_core_room;
  }

  -- nothing is set
  pub IsKeptContext-new : (s : ContextView T L) (places : List ℕ) (places_room core_room : ℕ) → IsContext literals capacity takes models meets s → s.entries ≡ [] → places ≡ [] → places_room ≡ s.vars → core_room ≡ s.vars → IsKeptContext literals capacity takes models meets s places places_room core_room
  IsKeptContext-new s places places_room core_room search unset none room for_core = record {
    state = search;
    places_in_step = none ∙ sym (ap (trail_places s.atoms) unset);
    has_places_room = omega (arith, room);
    has_core_room = omega (arith, for_core);
  }

  -- there is room for one more of the theory's literals, in the list of variables and in a conflict
  pub places_short : (s : ContextView T L) (places : List ℕ) (places_room core_room : ℕ) (l : PLit) → IsKeptContext literals capacity takes models meets s places places_room core_room → l.var < s.vars → value_in s.entries l.var ≡ None → (length places < places_room) × (length (literals s.theory) < core_room)
  places_short s places places_room core_room l kept within unset =
      let short = length-unset s.vars s.entries l kept.state.is_trail within unset in
      let most = length-trail_literals s.atoms s.entries in
      let same = length-trail_places s.vars s.atoms s.entries kept.state.is_trail in
      (omega (arith, ap length kept.places_in_step, same, kept.has_places_room), omega (arith, ap length kept.state.in_step, kept.has_core_room))
