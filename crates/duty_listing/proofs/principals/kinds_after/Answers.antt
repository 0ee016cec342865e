use Rattle.std.proofs.Common.{◌≡◌, ◌∙◌, ap, length, take, refl}
use Rattle.duty_listing.proofs.KindLaws.{kinds-after}
use Rattle.duty_listing.proofs.principals.kinds_after.Goals as goal

pub returns : goal.returns
returns c =
    kinds-after c.args.t.now c.args.k c.in_ok-kept.kept.items c.args.all.now _
    (ap (λ xs. take c.args.k xs) c.as_slice-commands.ensures) c.in_ok-kept.ensures c.requires.all
