-- One more step of a loop.
use Rattle.std.proofs.Common.{◌≡◌, ℕ, zero, suc, ◌+◌, ◌<◌, Bool, true, false, ◌&&◌, ◌||◌, List, [], ◌∷◌, ◌++◌, length, take, map, refl, ap, sym, ◌∙◌, subst, cond, get_or, add-one, add-zero}
use Rattle.std.specs.Prelude.{Option, None, Some, ◌==◌, slice_get, count_by, option_and_then, if◌then◌else◌}
use Rattle.std.specs.List.{AllByRecursion, flat_map}
use Rattle.std.specs.Option.{option_map, option_map_or}
use Rattle.std.proofs.lemmas.List.{append-nil, map-append, take_more}
use Rattle.std.proofs.lemmas.List.Concat.{flat_map-append}
use Rattle.std.proofs.lemmas.List.Sums.{sum_by_push}
use Rattle.std.proofs.lemmas.Option.{slice_get-map, slice_get-get_or}
use Rattle.type_schema.specs.declared.commands.TCommand.{TCommand}
use Rattle.type_schema.specs.declared.commands.TScript.{TScript}
use Rattle.type_schema.specs.Schema.{Added}
use Rattle.type_schema.specs.Commands.{Command}
use Rattle.type_schema.specs.Script.{Script, count, command_at, schema_at, IsScript}
use Rattle.type_schema.specs.SchemaViews.{command_of, script_of}
use Rattle.data_meaning.specs.Database.{Database, IsDatabase, HasNoFurtherTables}
use Rattle.data_meaning.proofs.Carried.{all-append}
use Rattle.online_counted.specs.Counted.{risen}
use Rattle.online_meaning.specs.Deep.{added_by}
use Rattle.online_meaning.specs.Known as known
use Rattle.online_meaning.specs.Marks.{RecordId, any_added, is_among, slow_records}
use Rattle.online_meaning.specs.Rollouts.{added_count}
use Rattle.online_ground.specs.Grounds.{Grounds, AreGrounds, ground_at, value_by, rises, adds_before}
use Rattle.online_ground.proofs.Giving.{next-value}

pub all_more : {A B : Type 0} (P : B → Type 0) (f : A → B) (xs : List A) (i : ℕ) (x : A) → i < length xs → x ≡ get_or xs i x → AllByRecursion P (map f (take i xs)) → P (f x)
    → AllByRecursion P (map f (take (i + 1) xs))
all_more P f xs i x below is all good =
    let more : map f (take (i + 1) xs) ≡ map f (take i xs) ++ f x ∷ []
    = ap (map f) (take_more xs i x below ∙ ap (λ y. take i xs ++ y ∷ []) (sym is)) ∙ map-append f (take i xs) (x ∷ []) in
    subst (AllByRecursion P) (sym more) (all-append P (map f (take i xs)) (f x ∷ []) all (good, tt))

pub command_there : (t : TScript) (k : ℕ) (c : TCommand) → k < length t.commands → c ≡ get_or t.commands k c → command_at (script_of t) k ≡ Some (command_of c)
command_there t k c below is = slice_get-map command_of t.commands k ∙ ap (option_map command_of) (slice_get-get_or t.commands k c below ∙ ap (λ x. Some x) (sym is))

and-true : (b : Bool) → (b && true) ≡ b
and-true true = refl
and-true false = refl

pub slow_next : (t : Script) (m k : ℕ) (c : Command) → command_at t k ≡ Some c
    → any_added t (λ k a. true) m (k + 1) ≡ (any_added t (λ k a. true) m k || option_map_or (λ (a : Added). a.model == m) (added_by c) false)
slow_next t m k c here =
    ap (any_added t (λ k a. true) m) (add-one k)
    ∙ (ap (λ o. any_added t (λ k a. true) m k || option_map_or (λ (a : Added). (a.model == m) && true) o false) (ap (option_and_then added_by) here)
    ∙ ap (λ b. any_added t (λ k a. true) m k || b) (of (added_by c)))
  where
    of : (o : Option Added) → option_map_or (λ (a : Added). (a.model == m) && true) o false ≡ option_map_or (λ (a : Added). a.model == m) o false
    of None = refl
    of (Some a) = and-true (a.model == m)

pub value_next : (t : Script) → IsScript t → (d : Database) → IsDatabase (schema_at t 0) d → HasNoFurtherTables (schema_at t 0) d → (g : Grounds) → AreGrounds t d g → (r : RecordId)
    → is_among r (slow_records t d) ≡ true → (k : ℕ) (c : Command) → command_at t k ≡ Some c
    → known.added_values t d r (k + 1) ≡ known.added_values t d r k ++ value_by c (ground_at g d k) r
value_next t is d over only g ok r slow k c here =
    ap (known.added_values t d r) (add-one k) ∙ ap (λ vs. known.added_values t d r k ++ vs) (sym (next-value t is d over only g ok r slow k c here))

pub flat_take : {A B C : Type 0} (f : B → List C) (g : A → B) (xs : List A) (i : ℕ) (x : A) → i < length xs → x ≡ get_or xs i x
    → flat_map f (map g (take (i + 1) xs)) ≡ flat_map f (map g (take i xs)) ++ f (g x)
flat_take f g xs i x below is =
    ap (λ ys. flat_map f (map g ys)) (take_more xs i x below ∙ ap (λ y. take i xs ++ y ∷ []) (sym is))
    ∙ (ap (flat_map f) (map-append g (take i xs) (x ∷ [])) ∙ (flat_map-append f (map g (take i xs)) (g x ∷ [])
    ∙ ap (λ ys. flat_map f (map g (take i xs)) ++ ys) (append-nil (f (g x)))))

-- ---- how often

pub rise_next : (t : Script) (m k : ℕ) (c : Command) → command_at t k ≡ Some c → (n : ℕ)
    → rises (adds_before t m (k + 1)) n ≡ (if option_map_or (λ (a : Added). a.model == m) (added_by c) false then risen (rises (adds_before t m k) n) else rises (adds_before t m k) n)
rise_next t m k c here n =
    ap (λ i. rises (adds_before t m i) n) (add-one k)
    ∙ (ap (λ o. rises (adds_before t m k + option_map_or (λ (a : Added). cond (a.model == m) 1 0) o 0) n) (ap (option_and_then added_by) here) ∙ of (added_by c))
  where
    of : (o : Option Added) → rises (adds_before t m k + option_map_or (λ (a : Added). cond (a.model == m) 1 0) o 0) n
        ≡ (if option_map_or (λ (a : Added). a.model == m) o false then risen (rises (adds_before t m k) n) else rises (adds_before t m k) n)
    of None = ap (λ i. rises i n) (add-zero (adds_before t m k))
    of (Some a) =
        elim (a.model == m) as (λ (b : Bool). rises (adds_before t m k + cond b 1 0) n ≡ (if b then risen (rises (adds_before t m k) n) else rises (adds_before t m k) n)) [
          | true ↦ ap (λ i. rises i n) (add-one (adds_before t m k))
          | false ↦ ap (λ i. rises i n) (add-zero (adds_before t m k))
        ]

take-full : {A : Type 0} (xs : List A) → take (length xs) xs ≡ xs
take-full [] = refl
take-full (x ∷ xs) = ap (λ ys. x ∷ ys) (take-full xs)

take-next : {A : Type 0} (xs : List A) (i : ℕ) (x : A) → slice_get xs i ≡ Some x → take (suc i) xs ≡ take i xs ++ x ∷ []
take-next [] i x at = cc
take-next (y ∷ ys) zero x at = let same : y ≡ x = cc in ap (λ z. z ∷ []) same
take-next (y ∷ ys) (suc i) x at = ap (λ zs. y ∷ zs) (take-next ys i x at)

take-none : {A : Type 0} (xs : List A) (i : ℕ) → slice_get xs i ≡ None → take (suc i) xs ≡ take i xs
take-none [] zero at = refl
take-none [] (suc i) at = refl
take-none (y ∷ ys) zero at = cc
take-none (y ∷ ys) (suc i) at = ap (λ zs. y ∷ zs) (take-none ys i at)

abbrev adds : ℕ → Command → Bool
adds m c = option_map_or (λ (a : Added). a.model == m) (added_by c) false

abbrev if-own : ℕ → Option Added → ℕ
if-own m o = option_map_or (λ (a : Added). cond (a.model == m) 1 0) o 0

abbrev one-of : Bool → ℕ
one-of b = cond b 1 0

own-one : (m : ℕ) (o : Option Added) → if-own m o ≡ one-of (option_map_or (λ (a : Added). a.model == m) o false)
own-one m None = refl
own-one m (Some a) = refl

module _ (t : Script) (m : ℕ) where
  before-all : (k : ℕ) → adds_before t m k ≡ count_by (adds m) (take k t.commands)
  before-all zero = sym (none-taken t.commands)
    where
      none-taken : (cs : List Command) → count_by (adds m) (take 0 cs) ≡ 0
      none-taken [] = refl
      none-taken (c ∷ cs) = refl
  before-all (suc k) = next (command_at t k) refl (before-all k)
    where
      next : (o : Option Command) → command_at t k ≡ o → adds_before t m k ≡ count_by (adds m) (take k t.commands)
          → adds_before t m k + if-own m (option_and_then added_by o) ≡ count_by (adds m) (take (suc k) t.commands)
      next None here before = add-zero (adds_before t m k) ∙ (before ∙ ap (count_by (adds m)) (sym (take-none t.commands k here)))
      next (Some c) here before =
          ap (λ n. n + if-own m (added_by c)) before ∙ (ap (λ n. count_by (adds m) (take k t.commands) + n) (own-one m (added_by c))
          ∙ (sym (sum_by_push (λ (u : Command). one-of (adds m u)) (take k t.commands) c) ∙ ap (count_by (adds m)) (sym (take-next t.commands k c here))))

  pub adds_all : adds_before t m (count t) ≡ added_count t m
  adds_all = before-all (count t) ∙ ap (count_by (adds m)) (take-full t.commands)
