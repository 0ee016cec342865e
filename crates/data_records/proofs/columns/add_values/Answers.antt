use Rattle.std.proofs.Common.{◌≡◌, ◌+◌, ◌++◌, [], ◌∷◌, suc, refl, ap, sym, ◌∙◌, arith, set, length, map}
use Rattle.std.proofs.Math.Seq.{map-set_same}
use Rattle.std.proofs.lemmas.List.{length-append, length-map, map-append}
use Rattle.std.proofs.Math.ListN.{length-set}
use Rattle.data_records.specs.Moved.{with_slots}
use Rattle.data_records.specs.TakenBack.{taken_back}
use Rattle.data_records.specs.Views.{record_data, value_data}
use Rattle.data_records.proofs.Moves.{last-on, none-back, on-error, on-ok, one-on}
use Rattle.data_records.proofs.columns.add_values.Goals as goal

pub loop-value-init : goal.loop-value-init
loop-value-init c =
    let rs = c.args.records.now in
    record {
      within = omega arith;
      on = refl;
      back = none-back (map record_data rs) (length c.args.values.items) (omega (arith, length-map rs record_data));
    }

pub loop-value-preserved : goal.loop-value-preserved
loop-value-preserved c =
    let rs = c.loop-value.records in
    let vs = c.loop-value.values.items in
    let left = c.pop.new.self.items in
    let v = c.in-Some.value in
    let at = c.len-at.result in
    let u = c.push.new.self in
    let d = c.index-records-at.result in
    let all : vs ≡ left ++ v ∷ [] = c.in-Some.ensures.items in
    let more : length vs ≡ length left + 1 = ap length all ∙ length-append left (v ∷ []) in
    let is : at ≡ length left = omega (arith, c.len-at.ensures, c.pop.new.self.ok.0) in
    let seen : at ≡ length (map value_data left) = omega (arith, is, length-map left value_data) in
    let pushed = on-ok c.push.result (sym c.is_err.ensures.value ∙ c.if-is_err.false) c.push.ensures.ok in
    let next : suc at ≡ length vs = omega (arith, more, is) in
    let below = c.loop-value.invariant.within in
    record {
      within = omega (arith, length-set rs at u, below, more);
      on =
          last-on c.args.f (map value_data left) (value_data v) rs at u d seen (omega (arith, below, more, is)) pushed
          ∙ ap (λ ws. with_slots c.args.f ws (map record_data rs)) (sym (ap (map value_data) all ∙ map-append value_data left (v ∷ [])))
          ∙ c.loop-value.invariant.on;
      back =
          ap (λ k. taken_back k (map record_data (set rs at u))) (sym is)
          ∙ one-on rs at c.args.f (value_data v) u d (omega (arith, below, more, is)) pushed
          ∙ ap (λ k. taken_back k (map record_data rs)) next
          ∙ c.loop-value.invariant.back;
    }

pub returns-then-is_err-clause-err : goal.returns-then-is_err-clause-err
returns-then-is_err-clause-err c =
    let rs = c.loop-value.records in
    let vs = c.loop-value.values.items in
    let left = c.pop.new.self.items in
    let v = c.in-Some.value in
    let at = c.len-at.result in
    let all : vs ≡ left ++ v ∷ [] = c.in-Some.ensures.items in
    let more : length vs ≡ length left + 1 = ap length all ∙ length-append left (v ∷ []) in
    let is : at + 1 ≡ length vs = omega (arith, more, c.len-at.ensures, c.pop.new.self.ok.0) in
    let same = on-error c.push.result (sym c.is_err.ensures.value ∙ c.if-is_err.true) c.push.ensures.err in
    c.take_back.ensures
    ∙ ap (taken_back (at + 1)) (map-set_same record_data rs at c.push.new.self c.index-records-at.result same)
    ∙ ap (λ k. taken_back k (map record_data rs)) is
    ∙ c.loop-value.invariant.back
