use Rattle.std.proofs.Common.{rules, ◌≡◌, ◌∙◌, sym, ap, codes, map, Vec, Global}
use Rattle.std.specs.Prelude.{Some, None}
use Rattle.std.proofs.lemmas.Result.{err_from_is_err_and}
use Rattle.type_schema.specs.SchemaViews.{field_info_of}
use Rattle.data_records.specs.declared.record.Record as code_record
use Rattle.data_records.specs.Views.{record_data}
use Rattle.data_back.specs.Reading.{word_at}
use Rattle.data_back.proofs.ScanTurns.{stopped}
use Rattle.data_back.specs.Back.{record_at}
use Rattle.data_back.proofs.Turns.{map_one, last-record, no-brace, no-record, next-record}
use Rattle.data_back.proofs.tables.read_records.Goals as goal

pub returns-in_err-word : goal.returns-in_err-word
returns-in_err-word c =
    let l = c.loop-turn in
    let fields = map field_info_of c.args.fields.now in
    let blank : word_at (codes "  ") l.scanner ≡ None = search rules in
    let same : c.takes.new.self ≡ l.scanner = search rules in
    let p = err_from_is_err_and c.from_residual.result c.from_residual.ensures.1 in
    let was = rw c.in_err-word.was at c.word.ensures in
    rw (p.1, p.2) (stopped (λ (x : Unit {0}). x) (λ (records : Vec code_record.Record Global). map record_data records.items) _ _ _ _ _ was
    (λ none. sym l.invariant ∙ no-brace fields (map record_data l.records.items) l._turn _ l.scanner c.loop-turn-test.true blank (ap (word_at (codes "}\n")) (sym same) ∙ none)))

pub returns-then-not-takes : goal.returns-then-not-takes
returns-then-not-takes c =
    let l = c.loop-turn in
    let fields = map field_info_of c.args.fields.now in
    let blank : word_at (codes "  ") l.scanner ≡ None = search rules in
    let same : c.takes.new.self ≡ l.scanner = search rules in
    let brace : word_at (codes "}\n") l.scanner ≡ Some (tt, c.word.new.self) = ap (word_at (codes "}\n")) (sym same) ∙ c.in_ok-word.ensures in
    sym l.invariant ∙ last-record fields (map record_data l.records.items) l._turn _ l.scanner c.loop-turn-test.true c.word.new.self blank brace

pub returns-in_err-made : goal.returns-in_err-made
returns-in_err-made c =
    let l = c.loop-turn in
    let fields = map field_info_of c.args.fields.now in
    let blank : word_at (codes "  ") l.scanner ≡ Some (tt, c.takes.new.self) = search rules in
    let p = err_from_is_err_and c.from_residual-in_err-made.result c.from_residual-in_err-made.ensures.1 in
    let was = rw c.in_err-made.was at c.read_record.ensures in
    rw (p.1, p.2) (stopped record_data (λ (records : Vec code_record.Record Global). map record_data records.items) _ _ _ _ _ was
    (λ none. sym l.invariant ∙ no-record fields (map record_data l.records.items) l._turn _ l.scanner c.loop-turn-test.true c.takes.new.self blank none))

pub loop-turn-preserved : goal.loop-turn-preserved
loop-turn-preserved c =
    let l = c.loop-turn in
    let fields = map field_info_of c.args.fields.now in
    let blank : word_at (codes "  ") l.scanner ≡ Some (tt, c.takes.new.self) = search rules in
    let read : record_at fields c.takes.new.self ≡ Some (record_data c.in_ok-made.made, c.read_record.new.scanner) = c.in_ok-made.ensures in
    rw c.in_ok-push_record.ensures (rw (map_one record_data l.records.items c.in_ok-made.made)
    (sym (next-record fields (map record_data l.records.items) l._turn _ l.scanner c.loop-turn-test.true c.takes.new.self c.read_record.new.scanner
    (record_data c.in_ok-made.made) blank read) ∙ l.invariant))
