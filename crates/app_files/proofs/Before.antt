-- The schema before the first bad command of a script.
use Rattle.std.proofs.Common.{◌≡◌, ℕ, zero, suc, ◌+◌, ◌-◌, ◌<◌, ◌≤◌, List, [], ◌∷◌, length, take, refl, sym, ap, ◌∙◌, subst, arith}
use Rattle.std.specs.Prelude.{Result, Ok, Err}
use Rattle.text_tree.specs.declared.commands.Command as written
use Rattle.text_tree.specs.declared.commands.Script as written_script
use Rattle.type_schema.specs.Commands.{Command}
use Rattle.type_schema.specs.Schema.{Schema}
use Rattle.type_typing.specs.declared.type_err.TypeErr.{TypeErr}
use Rattle.type_typing.specs.Outcome.{Checked}
use Rattle.type_specs.specs.InTurn.{in_turn}
use Rattle.type_commands.specs.declared.script_err.ScriptErr.{ScriptErr}
use Rattle.type_commands.specs.declared.script_err.ScriptErr.TheVariants.{Bad}
use Rattle.type_commands.specs.Commands.{typed_command}
use Rattle.type_commands.specs.Scripts.{Steps, Stepped, one_step, then_steps, steps, whole_script, typed_script}
use Rattle.type_scripts.specs.Counted.{counted}
use Rattle.app_files.specs.Typed.{after_command, schema_before}

-- The commands before the one of this number are good, where the first has the number `first`; the schema behind them.
pub record IsReached (s : Schema) (cs : List written.Command) (first k : ℕ) : Type 0 where
  pub counted_from : first ≤ k
  pub within : k - first < length cs
  pub before : Schema
  pub before_is : in_turn after_command s (take (k - first) cs) ≡ Ok before

at_once : (s : Schema) (c : written.Command) (cs : List written.Command) (first k : ℕ) → first ≡ k → IsReached s (c ∷ cs) first k
at_once s c cs first k same =
    let none : k - first ≡ 0 = omega arith in
    record {
      counted_from = omega arith;
      within = omega arith;
      before = s;
      before_is = ap (λ n. in_turn after_command s (take n (c ∷ cs))) none;
    }

one_more : (s : Schema) (c : written.Command) (cs : List written.Command) (first k : ℕ) (step : Schema × Command) → typed_command counted s c ≡ Ok step
    → IsReached step.0 cs (first + 1) k → IsReached s (c ∷ cs) first k
one_more s c cs first k step is later =
    let more : k - first ≡ suc (k - (first + 1)) = omega (arith, later.counted_from) in
    record {
      counted_from = omega (arith, later.counted_from);
      within = omega (arith, later.counted_from, later.within);
      before = later.before;
      before_is = ap (λ n. in_turn after_command s (take n (c ∷ cs))) more ∙ rw is later.before_is;
    }

behind : (s : Schema) (c : written.Command) (cs : List written.Command) (first k : ℕ) (e : TypeErr)
    → ((step : Schema × Command) → steps counted (first + 1) step.0 cs ≡ Err (Bad k e) → IsReached step.0 cs (first + 1) k)
    → (step : Schema × Command) → typed_command counted s c ≡ Ok step → (later : Stepped) → steps counted (first + 1) step.0 cs ≡ later
    → then_steps step later ≡ Err (Bad k e) → IsReached s (c ∷ cs) first k
behind s c cs first k e again step is (Ok later) all h = absurd cc
behind s c cs first k e again step is (Err f) all h = one_more s c cs first k step is (again step (all ∙ h))

from_one : (s : Schema) (c : written.Command) (cs : List written.Command) (first k : ℕ) (e : TypeErr)
    → ((step : Schema × Command) → steps counted (first + 1) step.0 cs ≡ Err (Bad k e) → IsReached step.0 cs (first + 1) k)
    → (typed : Checked (Schema × Command)) → typed_command counted s c ≡ typed → one_step first typed (λ after. steps counted (first + 1) after cs) ≡ Err (Bad k e)
    → IsReached s (c ∷ cs) first k
from_one s c cs first k e again (Ok step) is h = behind s c cs first k e again step is (steps counted (first + 1) step.0 cs) refl h
from_one s c cs first k e again (Err f) is h =
    let same : first ≡ k = cc in
    at_once s c cs first k same

reached : (cs : List written.Command) (s : Schema) (first k : ℕ) (e : TypeErr) → steps counted first s cs ≡ Err (Bad k e) → IsReached s cs first k
unfolding steps
reached [] s first k e h = absurd cc
reached (c ∷ cs) s first k e h =
    from_one s c cs first k e (λ step later. reached cs step.0 (first + 1) k e later) (typed_command counted s c) refl h

-- Where the command is the first bad one, so many stand before it, and a schema is behind them.
pub bad-reached : (s : Schema) (script : written_script.Script) (k : ℕ) (e : TypeErr) → typed_script counted s script ≡ Err (Bad k e) → IsReached s script.commands 1 k
unfolding typed_script
bad-reached s script k e h = go (steps counted 1 s script.commands) refl h
  where
    go : (all : Stepped) → steps counted 1 s script.commands ≡ all → whole_script s all ≡ Err (Bad k e) → IsReached s script.commands 1 k
    go (Ok all) is h = absurd cc
    go (Err f) is h =
        let same : f ≡ Bad k e = cc in
        reached script.commands s 1 k e (is ∙ ap (λ x. Err x) same)
