-- What holds where no part breaks a rule.
use Rattle.std.proofs.Common.{◌≡◌, ◌∙◌, sym, ℕ, ◌+◌, ◌<◌, ◌≤◌, Bool, true, false, ◌&&◌, List, [], ◌∷◌, map, refl, subst}
use Rattle.std.specs.Prelude.{Option, Some, None, nat_lt, nat_le, nat_eq, ◌==◌, if◌then◌else◌}
use Rattle.std.specs.Option.{option_map_or}
use Rattle.std.specs.List.{AllByRecursion, IsDistinct, find, list_any}
use Rattle.std.specs.Str.{bytes_eq}
use Rattle.std.proofs.lemmas.Bool.{ltb-true, leb-true}
use Rattle.type_schema.specs.Schema.{FieldInfo, ModelInfo}
use Rattle.data_meaning.specs.Values.{last_id}
use Rattle.data_meaning.specs.Database.{Record}
use Rattle.data_tree.specs.declared.tables.RecordLit.{RecordLit}
use Rattle.data_tree.specs.declared.tables.TableLit.{TableLit}
use Rattle.data_judge.specs.declared.fault.Fault.TheVariants as fault
use Rattle.data_judge.specs.First.{first_behind, pushed}
use Rattle.data_judge.specs.Faults.{has, row_fault, record_fault, records_fault, with_record, body_fault, table_fault, model_named}
use Rattle.data_judge.specs.Meaning.{record_of, table_for, next_for, records_for, with_number}
use Rattle.data_judge.proofs.Order.{map-map}
use Rattle.data_judge.proofs.Tests.{or-none, both, either-false, chosen-else, chosen-then, has-with}

-- ---- records

-- a record that breaks no rule
pub record IsSound (fields : List FieldInfo) (next : ℕ) (r : RecordLit) : Type 0 where
  pub first : 1 ≤ r.id.number
  pub given : r.id.number < next
  pub row : row_fault fields r.fields r.«end» ≡ None

pub record-sound : (fields : List FieldInfo) (next : ℕ) (seen : List ℕ) (r : RecordLit) → record_fault fields next seen r ≡ None → (has seen r.id.number ≡ false) × IsSound fields next r
record-sound fields next seen r e =
    let inside = nat_le 1 r.id.number && nat_lt r.id.number next in
    let new = chosen-else (has seen r.id.number) (fault.Twice r.id.at) (if inside then row_fault fields r.fields r.«end» else Some (fault.BadId r.id.at)) e in
    let low = chosen-then inside (fault.BadId r.id.at) (row_fault fields r.fields r.«end») new.1 in
    let bounds = both (nat_le 1 r.id.number) (nat_lt r.id.number next) low.0 in
    (new.0, record { first = leb-true 1 r.id.number bounds.0; given = ltb-true r.id.number next bounds.1; row = low.1 })

abbrev pub id_of : RecordLit → ℕ
id_of r = r.id.number

-- records none of which has one of the ids, and of which no two have one id
pub record AreSound (fields : List FieldInfo) (next : ℕ) (seen : List ℕ) (rs : List RecordLit) : Type 0 where
  pub each : AllByRecursion (IsSound fields next) rs
  pub fresh : AllByRecursion (λ (r : RecordLit). has seen r.id.number ≡ false) rs
  pub apart : IsDistinct nat_eq (map id_of rs)

apart-from : (n : ℕ) (seen : List ℕ) (rs : List RecordLit) → AllByRecursion (λ (r : RecordLit). has (with_number seen n) r.id.number ≡ false) rs
    → AllByRecursion (λ k. nat_eq n k ≡ false) (map id_of rs) × AllByRecursion (λ (r : RecordLit). has seen r.id.number ≡ false) rs
apart-from n seen [] all = (tt, tt)
apart-from n seen (r ∷ rs) all =
    let parts = either-false (n == r.id.number) (has seen r.id.number) (sym (has-with seen n r.id.number) ∙ all.0) in
    let later = apart-from n seen rs all.1 in
    ((parts.0, later.0), (parts.1, later.1))

pub records-sound : (fields : List FieldInfo) (next : ℕ) (seen : List ℕ) (rs : List RecordLit) → first_behind (record_fault fields next) with_record seen rs ≡ None → AreSound fields next seen rs
unfolding IsDistinct
records-sound fields next seen [] e = record { each = tt; fresh = tt; apart = tt }
records-sound fields next seen (r ∷ rs) e =
    let parts = or-none (record_fault fields next seen r) (first_behind (record_fault fields next) with_record (with_record seen r) rs) e in
    let one = record-sound fields next seen r parts.0 in
    let later = records-sound fields next (with_record seen r) rs parts.1 in
    let news = apart-from r.id.number seen rs later.fresh in
    record { each = (one.1, later.each); fresh = (one.0, news.1); apart = (news.0, later.apart) }

-- ---- tables

pub record IsSoundTable (fields : List FieldInfo) (t : TableLit) : Type 0 where
  pub first : 1 ≤ t.next.number
  pub last : t.next.number ≤ last_id + 1
  pub records : AreSound fields t.next.number [] t.records

pub body-sound : (fields : List FieldInfo) (t : TableLit) → body_fault fields t ≡ None → IsSoundTable fields t
body-sound fields t e =
    let inside = nat_le 1 t.next.number && nat_le t.next.number (last_id + 1) in
    let low = chosen-then inside (fault.BadId t.next.at) (records_fault fields t.next.number t.records) e in
    let bounds = both (nat_le 1 t.next.number) (nat_le t.next.number (last_id + 1)) low.0 in
    record {
      first = leb-true 1 t.next.number bounds.0;
      last = leb-true t.next.number (last_id + 1) bounds.1;
      records = records-sound fields t.next.number [] t.records low.1;
    }

-- the model of its name, whose table it is
pub record IsNamedIn (models : List ModelInfo) (t : TableLit) : Type 0 where
  pub model : ModelInfo
  pub named : model_named models t.name.name ≡ Some model
  pub sound : IsSoundTable model.fields t

named-sound : (models : List ModelInfo) (t : TableLit) (twice : Bool) (found : Option ModelInfo) → model_named models t.name.name ≡ found
    → option_map_or (λ (m : ModelInfo). if twice then Some (fault.Twice t.name.at) else body_fault m.fields t) found (Some (fault.Unknown t.name.at)) ≡ None → IsNamedIn models t
named-sound models t twice None is e = cc
named-sound models t twice (Some m) is e =
    record { model = m; named = is; sound = body-sound m.fields t (chosen-else twice (fault.Twice t.name.at) (body_fault m.fields t) e).1 }

table-sound : (models : List ModelInfo) (before : List TableLit) (t : TableLit) → table_fault models before t ≡ None → IsNamedIn models t
table-sound models before t e =
    named-sound models t (list_any (λ (u : TableLit). bytes_eq u.name.name t.name.name) before) (model_named models t.name.name) refl e

-- each table that is found is sound
pub found-sound : (models : List ModelInfo) (p : TableLit → Bool) (before ts : List TableLit) → first_behind (table_fault models) pushed before ts ≡ None
    → (t : TableLit) → find p ts ≡ Some t → IsNamedIn models t
found-sound models p before [] e t is = cc
found-sound models p before (u ∷ ts) e t is =
    let parts = or-none (table_fault models before u) (first_behind (table_fault models) pushed (pushed before u) ts) e in
    elim (p u) as (λ (b : Bool). p u ≡ b → IsNamedIn models t) [
      | true ↦ λ yes. (
          let same : Some u ≡ Some t = rw yes at is in
          let one : u ≡ t = cc in
          subst (IsNamedIn models) one (table-sound models before u parts.0))
      | false ↦ λ no. found-sound models p (pushed before u) ts parts.1 t (rw no at is)
    ] refl

-- ---- what is written for a model

pub record IsClean (ts : List TableLit) (m : ModelInfo) : Type 0 where
  pub apart : IsDistinct nat_eq (map (λ (r : Record). r.id) (records_for ts m))
  pub given : AllByRecursion (λ (r : Record). r.id < next_for ts m) (records_for ts m)

given-of : (fields other : List FieldInfo) (next : ℕ) (rs : List RecordLit) → AllByRecursion (IsSound other next) rs → AllByRecursion (λ (r : Record). r.id < next) (map (record_of fields) rs)
given-of fields other next [] all = tt
given-of fields other next (r ∷ rs) all = (all.0.given, given-of fields other next rs all.1)

clean-found : (models : List ModelInfo) (ts : List TableLit) (m : ModelInfo) → first_behind (table_fault models) pushed [] ts ≡ None
    → (found : Option TableLit) → table_for ts m ≡ found → IsClean ts m
unfolding IsDistinct
clean-found models ts m e None is = record {
  apart = rw is tt;
  given = rw is tt;
}
clean-found models ts m e (Some t) is =
    let sound = (found-sound models (λ (t : TableLit). bytes_eq t.name.name m.name) [] ts e t is).sound in
    record {
      apart = rw (is, map-map (record_of m.fields) (λ (r : Record). r.id) t.records) sound.records.apart;
      given = rw is (given-of m.fields _ t.next.number t.records sound.records.each);
    }

pub clean : (models : List ModelInfo) (ts : List TableLit) (m : ModelInfo) → first_behind (table_fault models) pushed [] ts ≡ None → IsClean ts m
clean models ts m e = clean-found models ts m e (table_for ts m) refl
