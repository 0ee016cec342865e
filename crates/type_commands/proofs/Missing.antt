-- The first user of a thing, among users in parts.
use Rattle.std.proofs.Common.{◌≡◌, ℕ, ◌<◌, ◌+◌, suc, true, false, cond, List, [], ◌∷◌, ◌++◌, map, length, drop, get_or, refl, sym, ap, ◌∙◌, drop-cons, arith}
use Rattle.std.specs.Prelude.{Option, Some, None, is_some, not, ◌&&◌}
use Rattle.std.specs.List.{find, flat_map}
use Rattle.std.specs.Option.{option_map}
use Rattle.type_typing.specs.declared.type_err.UsedBy.{UsedBy}
use Rattle.type_commands.specs.declared.thing.Thing.{Thing}
use Rattle.type_commands.specs.Users.{User, first_missing, goes_with, named_user, uses}

-- none in the first part
pub none_before : (thing : Thing) (xs ys : List User) → first_missing thing xs ≡ None → first_missing thing (xs ++ ys) ≡ first_missing thing ys
none_before thing [] ys = λ e. refl
none_before thing (x ∷ xs) ys =
    elim (not (goes_with thing x) && uses thing x)
    as (λ b. option_map named_user (cond b (Some x) (find (λ user. not (goes_with thing user) && uses thing user) xs)) ≡ None → option_map named_user (cond b (Some x) (find (λ user. not (goes_with thing user) && uses thing user) (xs ++ ys))) ≡ first_missing thing ys)
    [ true ↦ λ e. absurd (cc e) | false ↦ λ e. none_before thing xs ys e ]

-- one in the first part
pub one_before : (thing : Thing) (xs ys : List User) (by : UsedBy) → first_missing thing xs ≡ Some by → first_missing thing (xs ++ ys) ≡ Some by
one_before thing [] ys by = λ e. absurd (cc e)
one_before thing (x ∷ xs) ys by =
    elim (not (goes_with thing x) && uses thing x)
    as (λ b. option_map named_user (cond b (Some x) (find (λ user. not (goes_with thing user) && uses thing user) xs)) ≡ Some by → option_map named_user (cond b (Some x) (find (λ user. not (goes_with thing user) && uses thing user) (xs ++ ys))) ≡ Some by)
    [ true ↦ λ e. e | false ↦ λ e. one_before thing xs ys by e ]

-- the part at i has the first user
pub user_found : {A B : Type 0} (thing : Thing) (g : B → List User) (v : A → B) (xs : List A) (i : ℕ) (x : A) (whole user : Option UsedBy)
    → whole ≡ first_missing thing (flat_map g (map v (drop i xs))) → i < length xs → x ≡ get_or xs i x → user ≡ first_missing thing (g (v x)) → is_some user ≡ true
    → user ≡ whole
user_found thing g v xs i x whole None so_far within at is some = absurd (cc some)
user_found {A} thing g v xs i x whole (Some by) so_far within at is some =
    let parts : drop i xs ≡ x ∷ drop (suc i) xs = drop-cons xs i x within ∙ ap (λ (y : A). y ∷ drop (suc i) xs) (sym at) in
    sym
    (so_far ∙ ap (λ (rest : List A). first_missing thing (flat_map g (map v rest))) parts
    ∙ one_before thing (g (v x)) (flat_map g (map v (drop (suc i) xs))) by (sym is))

-- the part at i has none
pub none_found : {A B : Type 0} (thing : Thing) (g : B → List User) (v : A → B) (xs : List A) (i : ℕ) (x : A) (whole user : Option UsedBy)
    → whole ≡ first_missing thing (flat_map g (map v (drop i xs))) → i < length xs → x ≡ get_or xs i x → user ≡ first_missing thing (g (v x)) → is_some user ≡ false
    → whole ≡ first_missing thing (flat_map g (map v (drop (i + 1) xs)))
none_found thing g v xs i x whole (Some by) so_far within at is none = absurd (cc none)
none_found {A} thing g v xs i x whole None so_far within at is none =
    let parts : drop i xs ≡ x ∷ drop (suc i) xs = drop-cons xs i x within ∙ ap (λ (y : A). y ∷ drop (suc i) xs) (sym at) in
    let next : suc i ≡ i + 1 = omega arith in
    so_far ∙ ap (λ (rest : List A). first_missing thing (flat_map g (map v rest))) parts
    ∙ none_before thing (g (v x)) (flat_map g (map v (drop (suc i) xs))) (sym is)
    ∙ ap (λ n. first_missing thing (flat_map g (map v (drop n xs)))) next
