-- What contracts see of the keepers in memory.
use Rattle.std.specs.Prelude.{ℕ, List, Option, Result, Ok, Err, refl}
use Rattle.std.specs.Coded.{Coded, code_by, coded×, coded_list, coded_option, coded_ℕ}
use Rattle.app_flow.specs.Faults.{next_count}
use Rattle.store_keeper.specs.declared.keeper.KeepCall.{KeepCall}
use Rattle.store_keeper.specs.declared.keeper.KeepErr.{KeepErr}
use Rattle.store_keeper.specs.declared.keeper.KeepErr.TheVariants.{Failed, OutOfMemory}
use Rattle.store_keeper.specs.declared.stored.Stored as code

-- a keeper that fails on purpose: what it holds, which calls fail, its calls, as long as they are told, and how many calls and faults there were
pub record MemKeeperState : Type 0 where
  pub stored : Option code.Stored
  pub failing : List ℕ
  pub calls : Option (List KeepCall)
  pub count : ℕ
  pub faults : ℕ

-- the count of faults after a call
abbrev pub faults_after : {A : Type 0} → Result A KeepErr → ℕ → ℕ
faults_after (Ok answer) faults = faults
faults_after (Err Failed) faults = next_count faults
faults_after (Err OutOfMemory) faults = faults

-- a keeper that never fails: what it holds, and its calls, as long as they are told
pub record SureKeeperState : Type 0 where
  pub stored : Option code.Stored
  pub calls : Option (List KeepCall)

-- ---- by which proofs tell these apart

module _ (stored_code : Coded code.Stored) (call_code : Coded KeepCall) where
  abbrev pub mem_keeper_code : Coded MemKeeperState
  mem_keeper_code =
      code_by (Option code.Stored × (List ℕ × (Option (List KeepCall) × (ℕ × ℕ))))
      (coded× (coded_option stored_code) (coded× (coded_list coded_ℕ) (coded× (coded_option (coded_list call_code)) (coded× coded_ℕ coded_ℕ))))
      (λ k. (k.stored, (k.failing, (k.calls, (k.count, k.faults)))))
      (λ p. record { stored = p.0; failing = p.1.0; calls = p.1.1.0; count = p.1.1.1.0; faults = p.1.1.1.1 }) (λ _. refl)

  abbrev pub sure_keeper_code : Coded SureKeeperState
  sure_keeper_code =
      code_by (Option code.Stored × Option (List KeepCall)) (coded× (coded_option stored_code) (coded_option (coded_list call_code)))
      (λ k. (k.stored, k.calls)) (λ p. record { stored = p.0; calls = p.1 }) (λ _. refl)
