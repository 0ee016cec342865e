use Rattle.data_judge.proofs.faults.field_fault.Goals as goal

pub returns-then-has_field : goal.returns-then-has_field
returns-then-has_field c =
    let found = rw c.bytes-name.ensures.bytes at c.in-Some.ensures in
    let stood = rw c.bytes-name.ensures.bytes at c.has_field.ensures in
    rw (← found, ← stood, c.if-has_field.true)

pub returns-else-has_field : goal.returns-else-has_field
returns-else-has_field c =
    let found = rw c.bytes-name.ensures.bytes at c.in-Some.ensures in
    let stood = rw c.bytes-name.ensures.bytes at c.has_field.ensures in
    rw (← found, ← stood, c.if-has_field.false) c.value_fault.ensures
