-- What a stage of a request comes to.
use Rattle.std.specs.Prelude.{◌≡◌, Result, Ok, Err}
use Rattle.data_meaning.specs.declared.principals.Principal.{Principal}
use Rattle.door_meaning.specs.declared.reply.Reply as code
use Rattle.door_meaning.specs.Replies.{Reply, reply_data}
use Rattle.door_judge.specs.declared.halt.Halt.{Halt}
use Rattle.door_judge.specs.declared.halt.Halt.TheVariants.{Replied, OutOfMemory}

-- It passes on the value that this one stands for, or it has this reply; or there is no memory.
abbrev pub Comes : {A B : Type 0} → Result A Reply → (B → A) → Result B Halt → Type 0
Comes stage view (Ok x) = stage ≡ Ok (view x)
Comes stage view (Err (Replied answer)) = stage ≡ Err (reply_data answer)
Comes stage view (Err OutOfMemory) = Unit {0}

-- It passes on this principal, or it has this reply.
abbrev pub Names : Result Principal Reply → Result Principal code.Reply → Type 0
Names stage (Ok who) = stage ≡ Ok who
Names stage (Err answer) = stage ≡ Err (reply_data answer)
