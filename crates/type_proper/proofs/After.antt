-- The schema after a command is proper, and stays so.
use Rattle.std.proofs.Common.{◌≡◌, ℕ, ◌+◌, ◌<◌, ◌≤◌, Bool, true, false, cond, ◌&&◌, List, [], ◌∷◌, ◌++◌, length, map, refl, sym, ◌∙◌, ap, subst, arith, append_assoc}
use Rattle.std.specs.Prelude.{◌==◌, not, nat_eq, Option, Some, None, IfSome, IsTrue, is_some}
use Rattle.std.specs.List.{AllByRecursion, IsDistinct, find}
use Rattle.std.specs.Str.{bytes_eq}
use Rattle.std.proofs.lemmas.Bool.{eqb-true, eq-eqb}
use Rattle.std.proofs.lemmas.List.{map-append}
use Rattle.std.proofs.lemmas.Slice.Eq.{bytes_eq-Decides}
use Rattle.type_schema.specs.Trees.{Name, Policy}
use Rattle.type_schema.specs.Schema.{StaticInfo, FieldInfo, ModelInfo, Added, Schema, model_of, static_of}
use Rattle.type_schema.specs.Typing.{IsPolicy, IsField, IsModel}
use Rattle.type_schema.specs.Commands.{AreNumberedFrom, change_model, create_model, add_static, schema_after, with_field_policies, with_model_policies}
use Rattle.type_schema.specs.Proper.{AreInOrder, AreNumbers, AreProperFields, IsProper, field_numbers, model_numbers, names_of, static_numbers}
use Rattle.type_commands.specs.declared.thing.Thing.TheVariants as the
use Rattle.type_proper.specs.Shown.{PolicyIsShown}
use Rattle.type_proper.specs.Steady.{FieldIsShown, IsSteady, ModelIsShown, ReadsBelow}
use Rattle.type_proper.proofs.Kept.{Keeps}
use Rattle.type_proper.proofs.Lists.{all-append, all-back, all-both, all-front, all-unmap, all-weaken, distinct-append, distinct-apart, distinct-back, distinct-front, distinct-one, numbers-next, numbers-weaken}
use Rattle.type_proper.proofs.Lookups.{Becomes, find-more, keeps-found, static-free}
use Rattle.type_proper.proofs.Grown.{all-changed, all-fields-changed, changed_to, field-names-changed, field-numbers-changed, given-is, is-changed, model-of-changed, models-grown, names-changed, next-is-free, numbers-changed, policy-grown, types-changed}

-- ---- small facts

pub bytes-sym : (a b : List ℕ) → bytes_eq a b ≡ false → bytes_eq b a ≡ false
bytes-sym a b apart = at (bytes_eq b a) refl
  where
    at : (v : Bool) → bytes_eq b a ≡ v → v ≡ false
    at true e =
        let same : b ≡ a = (bytes_eq-Decides b a).0 e in
        let is : bytes_eq a b ≡ true = (bytes_eq-Decides a b).1 (sym same) in
        absurd (cc (is, apart))
    at false e = refl

pub eq-sym : (m n : ℕ) → (m == n) ≡ false → (n == m) ≡ false
eq-sym m n apart = at (n == m) refl
  where
    at : (v : Bool) → (n == m) ≡ v → v ≡ false
    at true e =
        let same : n ≡ m = eqb-true n m e in
        let is : (m == n) ≡ true = eq-eqb m n (sym same) in
        absurd (cc (is, apart))
    at false e = refl

pub not-true : (b : Bool) → not b ≡ true → b ≡ false
not-true true e = absurd (cc e)
not-true false e = refl

pub and-false : (b : Bool) → (b && false) ≡ false
and-false true = refl
and-false false = refl

pub second-false : (a b : Bool) → (a && b) ≡ false → a ≡ true → b ≡ false
second-false true b e is = e
second-false false b e is = absurd (cc is)

pub proper-weaken : (next more : ℕ) (info : ModelInfo) → next ≤ more → AreProperFields next info → AreProperFields more info
proper-weaken next more info le are = record { numbers = numbers-weaken next more (field_numbers info.fields) le are.numbers; names = are.names }

pub read-weaken : (next more : ℕ) (added : List Added) → next ≤ more → AllByRecursion (ReadsBelow next) added → AllByRecursion (ReadsBelow more) added
read-weaken next more added le all = all-weaken (ReadsBelow next) (ReadsBelow more) (λ a reads. all-weaken _ _ (λ u below. omega (arith, below)) _ reads) added all

pub all-proper-weaken : (next more : ℕ) (ms : List ModelInfo) → next ≤ more → AllByRecursion (AreProperFields next) ms → AllByRecursion (AreProperFields more) ms
all-proper-weaken next more ms le all = all-weaken (AreProperFields next) (AreProperFields more) (λ info are. proper-weaken next more info le are) ms all

-- fields that are numbered on
numbered-below : (n : ℕ) (fields : List FieldInfo) → AreNumberedFrom n fields → AllByRecursion (λ k. k < n + length fields) (field_numbers fields) × AllByRecursion (λ k. n ≤ k) (field_numbers fields)
numbered-below n [] are = (tt, tt)
numbered-below n (f ∷ fields) are =
    let rest = numbered-below (n + 1) fields are.1 in (
      (omega (arith, are.0), all-weaken (λ k. k < (n + 1) + length fields) (λ k. k < n + length (f ∷ fields)) (λ k below. omega arith) (field_numbers fields) rest.0),
      (omega (arith, are.0), all-weaken (λ k. n + 1 ≤ k) (λ k. n ≤ k) (λ k above. omega arith) (field_numbers fields) rest.1),
    )

apart-above : (m n : ℕ) → m < n → nat_eq m n ≡ false
apart-above m n lt = at (m == n) refl
  where
    at : (b : Bool) → (m == n) ≡ b → b ≡ false
    at true e = let same : m ≡ n = eqb-true m n e in absurd (omega arith)
    at false e = refl

numbered-distinct : (n : ℕ) (fields : List FieldInfo) → AreNumberedFrom n fields → IsDistinct nat_eq (field_numbers fields)
unfolding IsDistinct
numbered-distinct n [] are = tt
numbered-distinct n (f ∷ fields) are =
    let rest = numbered-below (n + 1) fields are.1 in
    (all-weaken (λ k. n + 1 ≤ k) (λ k. nat_eq f.number k ≡ false) (λ k above. apart-above f.number k (omega (arith, are.0))) (field_numbers fields) rest.1, numbered-distinct (n + 1) fields are.1)

pub numbered-are : (n : ℕ) (fields : List FieldInfo) → AreNumberedFrom n fields → AreNumbers (n + length fields) (field_numbers fields)
numbered-are n fields are = record { distinct = numbered-distinct n fields are; below = (numbered-below n fields are).0 }

-- ---- the model of a number is the only one

only : (ms : List ModelInfo) (m : ℕ) → IsDistinct nat_eq (model_numbers ms) → AllByRecursion (λ (info : ModelInfo). info.number ≡ m → find (λ (i : ModelInfo). i.number == m) ms ≡ Some info) ms
unfolding IsDistinct
only [] m distinct = tt
only (x ∷ ms) m distinct =
    let apart = all-unmap (λ n. nat_eq x.number n ≡ false) (λ (i : ModelInfo). i.number) ms distinct.0 in
    let later =
    all-both (λ (i : ModelInfo). nat_eq x.number i.number ≡ false) (λ (info : ModelInfo). info.number ≡ m → find (λ (i : ModelInfo). i.number == m) ms ≡ Some info)
    (λ (info : ModelInfo). info.number ≡ m → find (λ (i : ModelInfo). i.number == m) (x ∷ ms) ≡ Some info)
    (λ info off found is.
    let other : (x.number == m) ≡ false = subst (λ n. nat_eq x.number n ≡ false) is off in
    ap (λ b. cond b (Some x) (find (λ (i : ModelInfo). i.number == m) ms)) other ∙ found is) ms apart (only ms m distinct.1) in
    (λ is. ap (λ b. cond b (Some x) (find (λ (i : ModelInfo). i.number == m) ms)) (eq-eqb x.number m is), later)

-- ---- commands that add

module _ (s : Schema) (steady : IsSteady s) where
  abbrev p : IsProper s
  p = steady.proper

  abbrev k : ℕ
  k = s.next_static

  pub gone : static_of s s.next_static ≡ None
  gone = next-is-free s steady.proper

  pub same-model : (n : ℕ) (info : ModelInfo) → Becomes (the.Static s.next_static) n info info
  same-model n info = record { principal = λ h. h; field = λ f t other is. (is, static-free s.next_static t) }

  pub created-steady : (info : ModelInfo) → info.number ≡ s.next_model → AreNumberedFrom s.next_field info.fields → AllByRecursion (λ n. bytes_eq n info.name ≡ false) (names_of s)
      → IsDistinct bytes_eq (map (λ (f : FieldInfo). f.name) info.fields) → IsModel (schema_after s (create_model info)) info → ModelIsShown info → IsSteady (schema_after s (create_model info))
  created-steady info number numbered new differ typed shown =
      let after : Schema = schema_after s (create_model info) in
      let keeps : Keeps (the.Static s.next_static) s after =
      keeps-found (the.Static s.next_static) s after (λ n other has. has)
      (λ n i free is. (i, find-more (λ (j : ModelInfo). j.number == n) s.models (info ∷ []) i is, same-model n i)) in
      let old = models-grown s s.next_static gone after keeps s.models steady.proper.typed steady.shown in
      let le : s.next_field ≤ s.next_field + length info.fields = omega arith in
      let statics : List Name = map (λ (n : StaticInfo). n.name) s.statics in
      let names : names_of after ≡ names_of s ++ info.name ∷ [] =
      ap (λ (ns : List Name). statics ++ ns) (map-append (λ (m : ModelInfo). m.name) s.models (info ∷ [])) ∙ sym (append_assoc statics (map (λ (m : ModelInfo). m.name) s.models) (info.name ∷ [])) in
      let numbers : model_numbers (s.models ++ info ∷ []) ≡ model_numbers s.models ++ s.next_model ∷ [] =
      map-append (λ (m : ModelInfo). m.number) s.models (info ∷ []) ∙ ap (λ n. model_numbers s.models ++ n ∷ []) number in
      record {
        proper = record {
          typed = all-append (IsModel after) s.models (info ∷ []) old (typed, tt);
          names =
              subst (IsDistinct bytes_eq) (sym names)
              (distinct-append bytes_eq (names_of s) (info.name ∷ []) steady.proper.names (distinct-one bytes_eq info.name)
              (all-weaken (λ n. bytes_eq n info.name ≡ false) (λ n. AllByRecursion (λ y. bytes_eq n y ≡ false) (info.name ∷ [])) (λ n h. (h, tt)) (names_of s) new));
          statics = steady.proper.statics;
          models = subst (AreNumbers (s.next_model + 1)) (sym numbers) (numbers-next s.next_model (model_numbers s.models) steady.proper.models);
          fields =
              all-append (AreProperFields (s.next_field + length info.fields)) s.models (info ∷ [])
              (all-proper-weaken s.next_field (s.next_field + length info.fields) s.models le steady.proper.fields)
              (record { numbers = numbered-are s.next_field info.fields numbered; names = differ }, tt);
          added = numbers-weaken s.next_field (s.next_field + length info.fields) (map (λ (a : Added). a.field) s.added) le steady.proper.added;
          order = steady.proper.order;
        };
        shown = all-append ModelIsShown s.models (info ∷ []) steady.shown (shown, tt);
        read = read-weaken s.next_field (s.next_field + length info.fields) s.added le steady.read;
      }

  more-statics : (info : StaticInfo) (n : ℕ) (o : Option StaticInfo) → static_of s n ≡ o → IsTrue (is_some o) → IsTrue (is_some (find (λ (i : StaticInfo). i.number == n) (s.statics ++ info ∷ [])))
  more-statics info n None is has = absurd (cc has)
  more-statics info n (Some x) is has = ap is_some (find-more (λ (i : StaticInfo). i.number == n) s.statics (info ∷ []) x is)

  pub added_static-steady : (info : StaticInfo) → info.number ≡ s.next_static → AllByRecursion (λ n. bytes_eq n info.name ≡ false) (names_of s) → IsSteady (schema_after s (add_static info))
  added_static-steady info number new =
      let after : Schema = schema_after s (add_static info) in
      let keeps : Keeps (the.Static s.next_static) s after =
      keeps-found (the.Static s.next_static) s after (λ n other has. more-statics info n (static_of s n) refl has) (λ n i free is. (i, is, same-model n i)) in
      let statics : List Name = map (λ (n : StaticInfo). n.name) s.statics in
      let models : List Name = map (λ (m : ModelInfo). m.name) s.models in
      let mapped : map (λ (n : StaticInfo). n.name) (s.statics ++ info ∷ []) ≡ statics ++ info.name ∷ [] = map-append (λ (n : StaticInfo). n.name) s.statics (info ∷ []) in
      let front = distinct-append bytes_eq statics (info.name ∷ []) (distinct-front bytes_eq statics models steady.proper.names) (distinct-one bytes_eq info.name)
      (all-weaken (λ n. bytes_eq n info.name ≡ false) (λ n. AllByRecursion (λ y. bytes_eq n y ≡ false) (info.name ∷ [])) (λ n h. (h, tt)) statics (all-front (λ n. bytes_eq n info.name ≡ false) statics models new)) in
      let behind = all-weaken (λ n. bytes_eq n info.name ≡ false) (λ n. bytes_eq info.name n ≡ false) (λ n h. bytes-sym n info.name h) models (all-back (λ n. bytes_eq n info.name ≡ false) statics models new) in
      let apart = all-append (λ x. AllByRecursion (λ y. bytes_eq x y ≡ false) models) statics (info.name ∷ []) (distinct-apart bytes_eq statics models steady.proper.names) (behind, tt) in
      let numbers : static_numbers (s.statics ++ info ∷ []) ≡ static_numbers s.statics ++ s.next_static ∷ [] =
      map-append (λ (n : StaticInfo). n.number) s.statics (info ∷ []) ∙ ap (λ n. static_numbers s.statics ++ n ∷ []) number in
      record {
        proper = record {
          typed = models-grown s s.next_static gone after keeps s.models steady.proper.typed steady.shown;
          names =
              subst (λ (front : List Name). IsDistinct bytes_eq (front ++ models)) (sym mapped)
              (distinct-append bytes_eq (statics ++ info.name ∷ []) models front (distinct-back bytes_eq statics models steady.proper.names) apart);
          statics = subst (AreNumbers (s.next_static + 1)) (sym numbers) (numbers-next s.next_static (static_numbers s.statics) steady.proper.statics);
          models = steady.proper.models;
          fields = steady.proper.fields;
          added = steady.proper.added;
          order = steady.proper.order;
        };
        shown = steady.shown;
        read = steady.read;
      }

  -- ---- commands that change a model

  -- the only model of the number
  abbrev Only : ℕ → ModelInfo → Type 0
  Only m info = info.number ≡ m → model_of s m ≡ Some info

  onlys : (m : ℕ) → AllByRecursion (Only m) s.models
  onlys m = only s.models m steady.proper.models.distinct

  abbrev pub changed : ℕ → (ModelInfo → ModelInfo) → ℕ → List Added → Schema
  changed m change next added = record s { models = change_model m change s.models; next_field = next; added = added }

  module _ (m next : ℕ) (added : List Added) (change : ModelInfo → ModelInfo) (number : (info : ModelInfo) → (change info).number ≡ info.number) where
    pub keeps-changed : ((n : ℕ) (info : ModelInfo) → Becomes (the.Static s.next_static) n info (change info)) → Keeps (the.Static s.next_static) s (changed m change next added)
    keeps-changed becomes =
        keeps-found (the.Static s.next_static) s (changed m change next added) (λ n other has. has)
        (λ n info free is. (
          changed_to m change info,
          model-of-changed m change number s s.models n info is,
          is-changed (λ (i : ModelInfo). Becomes (the.Static s.next_static) n info i) m change info (λ same. becomes n info) (λ other. same-model n info),
        ))

    pub changed-steady : (name : (info : ModelInfo) → (change info).name ≡ info.name) → ((n : ℕ) (info : ModelInfo) → Becomes (the.Static s.next_static) n info (change info)) → s.next_field ≤ next
        → ((info : ModelInfo) → info.number ≡ m → IsModel (changed m change next added) info → IsModel (changed m change next added) (change info))
        → ((info : ModelInfo) → info.number ≡ m → ModelIsShown info → ModelIsShown (change info))
        → ((info : ModelInfo) → info.number ≡ m → model_of s m ≡ Some info → AreProperFields s.next_field info → AreProperFields next (change info))
        → AreNumbers next (map (λ (a : Added). a.field) added) → AreInOrder added → AllByRecursion (ReadsBelow next) added → IsSteady (changed m change next added)
    changed-steady name becomes le typed shown proper numbers order read =
        let after : Schema = changed m change next added in
        let keeps = keeps-changed becomes in
        let old = models-grown s s.next_static gone after keeps s.models steady.proper.typed steady.shown in
        let statics : List Name = map (λ (n : StaticInfo). n.name) s.statics in
        let with_only = all-both (AreProperFields s.next_field) (Only m) (λ info. AreProperFields s.next_field info × Only m info) (λ info one other. (one, other)) s.models steady.proper.fields (onlys m) in
        record {
          proper = record {
            typed = all-changed m change number (IsModel after) (IsModel after) typed (λ info other h. h) s.models old;
            names = subst (λ (models : List Name). IsDistinct bytes_eq (statics ++ models)) (sym (names-changed m change number name s.models)) steady.proper.names;
            statics = steady.proper.statics;
            models = subst (AreNumbers s.next_model) (sym (numbers-changed m change number s.models)) steady.proper.models;
            fields =
                all-changed m change number (λ info. AreProperFields s.next_field info × Only m info) (AreProperFields next) (λ info is h. proper info is (h.1 is) h.0)
                (λ info other h. proper-weaken s.next_field next info le h.0) s.models with_only;
            added = numbers;
            order = order;
          };
          shown = all-changed m change number ModelIsShown ModelIsShown shown (λ info other h. h) s.models steady.shown;
          read = read;
        }

  pub principal-steady : (m : ℕ) → IsSteady (changed m (λ (info : ModelInfo). record info { principal = true }) s.next_field s.added)
  principal-steady m =
      changed-steady m s.next_field s.added (λ (info : ModelInfo). record info { principal = true }) (λ info. refl) (λ info. refl)
      (λ n info. record { principal = λ h. refl; field = λ f t other is. (is, static-free s.next_static t) }) (omega arith)
      (λ info is typed. record { create = typed.create; delete = typed.delete; fields = typed.fields }) (λ info is shown. shown)
      (λ info is there are. record { numbers = are.numbers; names = are.names }) steady.proper.added steady.proper.order steady.read

  pub given-grown : (after : Schema) → Keeps (the.Static s.next_static) s after → (m n : ℕ) → n ≡ m → (given : Option Policy) → IfSome given (IsPolicy s m) → IfSome given PolicyIsShown → IfSome given (IsPolicy after n)
  given-grown after keeps m n is None typed shown = tt
  given-grown after keeps m n is (Some q) typed shown = subst (λ j. IsPolicy after j q) (sym is) (policy-grown s s.next_static gone after keeps m q typed shown)

  -- the model's own policies
  pub policies-steady : (m : ℕ) (create delete : Option Policy) → IfSome create (IsPolicy s m) → IfSome delete (IsPolicy s m) → IfSome create PolicyIsShown → IfSome delete PolicyIsShown
      → IsSteady (changed m (with_model_policies create delete) s.next_field s.added)
  policies-steady m create delete typed-create typed-delete shown-create shown-delete =
      let after : Schema = changed m (with_model_policies create delete) s.next_field s.added in
      let becomes : (n : ℕ) (info : ModelInfo) → Becomes (the.Static s.next_static) n info (with_model_policies create delete info)
      = λ n info. record { principal = λ h. h; field = λ f t other is. (is, static-free s.next_static t) } in
      let keeps = keeps-changed m s.next_field s.added (with_model_policies create delete) (λ info. refl) becomes in
      changed-steady m s.next_field s.added (with_model_policies create delete) (λ info. refl) (λ info. refl) becomes (omega arith)
      (λ info is typed. record {
        create = given-is (IsPolicy after info.number) create info.create (given-grown after keeps m info.number is create typed-create shown-create) typed.create;
        delete = given-is (IsPolicy after info.number) delete info.delete (given-grown after keeps m info.number is delete typed-delete shown-delete) typed.delete;
        fields = typed.fields;
      }) (λ info is shown. (given-is PolicyIsShown create info.create shown-create shown.0, given-is PolicyIsShown delete info.delete shown-delete shown.1, shown.2))
      (λ info is there are. record { numbers = are.numbers; names = are.names }) steady.proper.added steady.proper.order steady.read

  -- the policies of a field
  pub field_policies-steady : (m f : ℕ) (read write : Option Policy) → IfSome read (IsPolicy s m) → IfSome write (IsPolicy s m) → IfSome read PolicyIsShown → IfSome write PolicyIsShown
      → IsSteady (changed m (with_field_policies f read write) s.next_field s.added)
  field_policies-steady m f read write typed-read typed-write shown-read shown-write =
      let after : Schema = changed m (with_field_policies f read write) s.next_field s.added in
      let becomes : (n : ℕ) (info : ModelInfo) → Becomes (the.Static s.next_static) n info (with_field_policies f read write info)
      = λ n info. record { principal = λ h. h; field = λ g t other is. (types-changed f read write info.fields g ∙ is, static-free s.next_static t) } in
      let keeps = keeps-changed m s.next_field s.added (with_field_policies f read write) (λ info. refl) becomes in
      changed-steady m s.next_field s.added (with_field_policies f read write) (λ info. refl) (λ info. refl) becomes (omega arith)
      (λ info is typed. record {
        create = typed.create;
        delete = typed.delete;
        fields =
            all-fields-changed f read write (IsField after info.number)
            (λ g same h. record {
              ty = h.ty;
              read = given-is (IsPolicy after info.number) read g.read (given-grown after keeps m info.number is read typed-read shown-read) h.read;
              write = given-is (IsPolicy after info.number) write g.write (given-grown after keeps m info.number is write typed-write shown-write) h.write;
            }) info.fields typed.fields;
      })
      (λ info is shown. (
        shown.0,
        shown.1,
        all-fields-changed f read write FieldIsShown (λ g same h. (given-is PolicyIsShown read g.read shown-read h.0, given-is PolicyIsShown write g.write shown-write h.1)) info.fields shown.2,
      ))
      (λ info is there are. record {
        numbers = subst (AreNumbers s.next_field) (sym (field-numbers-changed f read write info.fields)) are.numbers;
        names = subst (IsDistinct bytes_eq) (sym (field-names-changed f read write info.fields)) are.names;
      }) steady.proper.added steady.proper.order steady.read
