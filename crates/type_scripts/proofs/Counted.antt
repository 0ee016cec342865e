-- Sizes that are counted part by part.
use Rattle.std.proofs.Common.{◌≡◌, ℕ, ◌<◌, ◌≤◌, ◌+◌, suc, List, [], ◌∷◌, ◌++◌, map, length, drop, get_or, refl, sym, ap, ◌∙◌, drop-cons, arith}
use Rattle.std.specs.Prelude.{Ok, Err, Option, option_to_list}
use Rattle.std.proofs.lemmas.List.{map-append, drop_all}
use Rattle.std.specs.List.{flat_map}
use Rattle.type_typing.specs.declared.type_err.TypeErr.{TypeErr}
use Rattle.type_typing.specs.Outcome.{Checked, ◌>>=◌}
use Rattle.type_specs.specs.Sizes.{are_small, is_small}
use Rattle.type_scripts.specs.Counting.{counted_at}

-- no size
pub none_counted : (places : List ℕ) → counted_at [] places ≡ Ok places
unfolding counted_at
none_counted places = refl

-- where no place is left
pub counted_nowhere : (sizes : List ℕ) → counted_at sizes [] ≡ Ok []
unfolding counted_at
counted_nowhere [] = refl
counted_nowhere (size ∷ sizes) = refl

after-fault : (o : Checked (Unit {0})) (a : Checked (List ℕ)) (f : List ℕ → Checked (List ℕ)) → (o >>= (λ _. a)) >>= f ≡ o >>= (λ _. a >>= f)
after-fault (Ok _) a f = refl
after-fault (Err e) a f = refl

-- some sizes, and others after them
pub both_counted : (first rest places : List ℕ) → counted_at (first ++ rest) places ≡ counted_at first places >>= (λ left. counted_at rest left)
unfolding counted_at
both_counted [] rest places = refl
both_counted (size ∷ first) rest [] = sym (counted_nowhere rest)
both_counted (size ∷ first) rest (at ∷ places) =
    ap (λ o. is_small size at >>= (λ _. o)) (both_counted first rest places)
    ∙ sym (after-fault (is_small size at) (counted_at first places) (λ left. counted_at rest left))

-- one size, and others after it
pub next_counted : (size : ℕ) (rest places : List ℕ) → counted_at (size ∷ rest) places ≡ counted_at (size ∷ []) places >>= (λ left. counted_at rest left)
next_counted size rest places = both_counted (size ∷ []) rest places

abbrev pub all_small : List ℕ → Checked (Unit {0})
all_small left = Ok tt

end-fault : (o : Checked (Unit {0})) (a : Checked (List ℕ)) → (o >>= (λ _. a)) >>= all_small ≡ o >>= (λ _. a >>= all_small)
end-fault (Ok _) a = refl
end-fault (Err e) a = refl

-- sizes are small where they are counted with no fault
pub small_counted : (sizes places : List ℕ) → are_small sizes places ≡ counted_at sizes places >>= all_small
unfolding counted_at
small_counted [] places = refl
small_counted (size ∷ sizes) [] = refl
small_counted (size ∷ sizes) (at ∷ places) =
    ap (λ o. is_small size at >>= (λ _. o)) (small_counted sizes places) ∙ sym (end-fault (is_small size at) (counted_at sizes places))

-- the sizes of a field, and of a model, and others after them
pub field_counted : (one other : ℕ) (rest places : List ℕ) → counted_at (one ∷ other ∷ rest) places ≡ counted_at (one ∷ other ∷ []) places >>= (λ left. counted_at rest left)
field_counted one other rest places = both_counted (one ∷ other ∷ []) rest places

pub model_counted : (one other : ℕ) (fields rest places : List ℕ) → counted_at (one ∷ other ∷ (fields ++ rest)) places ≡ counted_at (one ∷ other ∷ fields) places >>= (λ left. counted_at rest left)
model_counted one other fields rest places = both_counted (one ∷ other ∷ fields) rest places

-- two policies that may be given
pub given_counted : {P : Type 0} (size : P → ℕ) (one other : Option P) (places : List ℕ)
    → counted_at (map size (option_to_list one ++ option_to_list other)) places
    ≡ counted_at (map size (option_to_list one)) places >>= (λ left. counted_at (map size (option_to_list other)) left)
given_counted size one other places =
    ap (λ sizes. counted_at sizes places) (map-append size (option_to_list one) (option_to_list other))
    ∙ both_counted (map size (option_to_list one)) (map size (option_to_list other)) places

module _ {A B : Type 0} (g : B → List ℕ) (v : A → B) where
  parts_at : (xs : List A) (i : ℕ) (x : A) (places : List ℕ) → i < length xs → x ≡ get_or xs i x
      → counted_at (flat_map g (map v (drop i xs))) places ≡ counted_at (g (v x)) places >>= (λ left. counted_at (flat_map g (map v (drop (i + 1) xs))) left)
  parts_at xs i x places within at =
      let parts : drop i xs ≡ x ∷ drop (suc i) xs = drop-cons xs i x within ∙ ap (λ (y : A). y ∷ drop (suc i) xs) (sym at) in
      let next : suc i ≡ i + 1 = omega arith in
      ap (λ (rest : List A). counted_at (flat_map g (map v rest)) places) parts
      ∙ ap (λ n. counted_at (g (v x) ++ flat_map g (map v (drop n xs))) places) next
      ∙ both_counted (g (v x)) (flat_map g (map v (drop (i + 1) xs))) places

  -- the part at i is counted
  pub part_counted : (xs : List A) (i : ℕ) (x : A) (places left : List ℕ) (whole : Checked (List ℕ)) → i < length xs → x ≡ get_or xs i x
      → whole ≡ counted_at (flat_map g (map v (drop i xs))) places → counted_at (g (v x)) places ≡ Ok left
      → whole ≡ counted_at (flat_map g (map v (drop (i + 1) xs))) left
  part_counted xs i x places left whole within at so_far part =
      so_far ∙ parts_at xs i x places within at ∙ ap (λ o. o >>= (λ left. counted_at (flat_map g (map v (drop (i + 1) xs))) left)) part

  -- the part at i is at fault
  pub part_at_fault : (xs : List A) (i : ℕ) (x : A) (places : List ℕ) (whole : Checked (List ℕ)) (e : TypeErr) → i < length xs → x ≡ get_or xs i x
      → whole ≡ counted_at (flat_map g (map v (drop i xs))) places → counted_at (g (v x)) places ≡ Err e → whole ≡ Err e
  part_at_fault xs i x places whole e within at so_far part =
      so_far ∙ parts_at xs i x places within at ∙ ap (λ o. o >>= (λ left. counted_at (flat_map g (map v (drop (i + 1) xs))) left)) part

  -- no part is left
  pub parts_counted : (xs : List A) (i : ℕ) (places : List ℕ) (whole : Checked (List ℕ)) → length xs ≤ i
      → whole ≡ counted_at (flat_map g (map v (drop i xs))) places → whole ≡ Ok places
  parts_counted xs i places whole past so_far =
      so_far ∙ ap (λ (rest : List A). counted_at (flat_map g (map v rest)) places) (drop_all i xs past) ∙ none_counted places
