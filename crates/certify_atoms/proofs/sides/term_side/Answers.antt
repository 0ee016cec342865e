use Rattle.std.proofs.Common.{inl, refl, rules}
use Rattle.certify_atoms.proofs.SideLaws.{told_by}
use Rattle.certify_atoms.proofs.sides.term_side.Goals as goal

pub returns-in-Some-Num : goal.returns-in-Some-Num
returns-in-Some-Num c =
    inl (record {
      id = c.args.id;
      value = refl;
      told_there = told_by c.args.reader.signature.now c.args.reader.arena.now c.args.reader.terms.now c.args.reader.words.now c.args.reader.texts.now c.args.id c.in-Some-Num.ensures.one
          (search rules);
      ranged = let range = c.in-Some-Num.ensures.range in let is = c.in-Some-Num.field-0-is in cc;
      behind = refl;
      itself = refl;
    })

pub returns-in-Some-Str : goal.returns-in-Some-Str
returns-in-Some-Str c =
    inl (record {
      value = refl;
      told_there = told_by c.args.reader.signature.now c.args.reader.arena.now c.args.reader.terms.now c.args.reader.words.now c.args.reader.texts.now c.args.id c.in-Some-Str.ensures.one
          (search rules);
      ranged = let range = c.in-Some-Str.ensures.range in let is = c.in-Some-Str.field-0-is in cc;
    })
