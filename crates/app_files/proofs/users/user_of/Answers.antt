use Rattle.std.proofs.Common.{◌≡◌, ◌∙◌, sym, ap}
use Rattle.std.specs.Prelude.{Ok}
use Rattle.type_schema.specs.Schema.{Schema}
use Rattle.type_typing.specs.Names.{plain_of}
use Rattle.app_files.specs.Typed.{used_by_text}
use Rattle.app_files.proofs.users.user_of.Goals as goal

pub returns : goal.returns
unfolding plain_of
returns c before reached =
    let both : Ok (plain_of c.in_ok-before.before) ≡ Ok before = sym c.in_ok-before.ensures ∙ reached in
    let same : plain_of c.in_ok-before.before ≡ before = cc in
    rw c.in-StillUsed.is (c.from_vec.ensures ∙ c.in_ok-user.ensures ∙ ap (λ (s : Schema). used_by_text s c.in-StillUsed.by) same)
