-- The view of a boot of the script that was read.
use Rattle.boot_view.proofs.Common.{◌≡◌, ◌∙◌, ◌+◌, ℕ, suc, refl, ap, length, [], ◌∷◌, sym, subst, List, Option, Some, None, Ok, IfSome, Recorder, text_plan, LogEntry, Calls, Shared, HooksSaw, IsBootFault, RunsOf, Says, HasBooted, IsViewed}
use Rattle.boot_data.specs.declared.boot_plan.BootPlan.{BootPlan}
use Rattle.boot_objects.specs.declared.closing.all.TornDown.{TornDown}
use Rattle.synth_kernel.specs.declared.outcome.Ended.{Ended}
use Rattle.synth_kernel.specs.declared.outcome.BootFault.{BootFault}
use Rattle.synth_kernel.specs.declared.printing.Booted.{Booted}
use Rattle.boot_view.specs.declared.command.Command.{Command}
use Rattle.boot_data.specs.BootPlans.{plan_of}

says_read : (read : Option (List ℕ)) (script : List ℕ) (plan : BootPlan) → IfSome read (λ bytes. text_plan bytes ≡ text_plan script) → Says (Some script) plan → Says read plan
says_read None script plan same says = same
says_read (Some bytes) script plan same says = same ∙ says

-- a boot of the script that was read is a boot of what was read
pub booted_read : {C : Type 0} (ran : RunsOf (Recorder C)) (shown : TornDown → Type 0) (T : Calls (Recorder C)) (made : List (Recorder C) → Type 0) (clock : C) (from : ℕ) (command : Command) (read : Option (List ℕ)) (script report : List ℕ) (booted : Booted (Recorder C))
    → IfSome read (λ bytes. text_plan bytes ≡ text_plan script) → HasBooted ran shown T made clock from command (Some script) report booted → HasBooted ran shown T made clock from command read report booted
booted_read ran shown T made clock from command read script report booted same came = record {
  recorders = came.recorders;
  all_made = came.all_made;
  many = came.many;
  new = came.new;
  boot = record { plan = came.boot.plan; says = says_read read script came.boot.plan same came.boot.says; run = came.boot.run };
}

-- the page of the script that was read is the page of what was read
pub viewed_read : {C : Type 0} (ran : RunsOf (Recorder C)) (shown : TornDown → Type 0) (T : Calls (Recorder C)) (made : List (Recorder C) → Type 0) (gone : Booted (Recorder C) → Type 0) (clock : C) (said : ℕ → Type 0) (command : Command) (read : Option (List ℕ)) (script : List ℕ) (ended : Ended) (page : List ℕ)
    → IfSome read (λ bytes. text_plan bytes ≡ text_plan script) → IsViewed ran shown T made gone clock said command (Some script) ended page → IsViewed ran shown T made gone clock said command read ended page
unfolding booted_read
viewed_read ran shown T made gone clock said command read script ended page same viewed = record {
  from = viewed.from;
  from_said = viewed.from_said;
  booted = viewed.booted;
  report = viewed.report;
  came = booted_read ran shown T made clock viewed.from command read script viewed.report viewed.booted same viewed.came;
  let_go = viewed.let_go;
  ended_is = viewed.ended_is;
  plan = viewed.plan;
  plan_is = viewed.plan_is;
  page_of = viewed.page_of;
}

-- a text is of one plan
pub one_plan : (script : List ℕ) (plan other : BootPlan) → text_plan script ≡ Ok (plan_of plan) → text_plan script ≡ Ok (plan_of other) → plan_of plan ≡ plan_of other
one_plan script plan other a b = let e = sym a ∙ b in cc

-- a fault of the script that was read is a fault of what was read
pub fault_read : (read : Option (List ℕ)) (script : List ℕ) (fault : BootFault) → IfSome read (λ bytes. text_plan bytes ≡ text_plan script) → IsBootFault (text_plan script) fault → IfSome read (λ bytes. IsBootFault (text_plan bytes) fault)
fault_read None script fault same is = same
fault_read (Some bytes) script fault same is = subst (λ said. IsBootFault said fault) (sym same) is

hooks_many : {G : Type 0} (ran : RunsOf G) (T : Calls G) (shared : Shared) (p turns : ℕ) (gates back : List G) (logs : List (List LogEntry)) → HooksSaw ran T shared p turns gates back logs → length back ≡ length gates
hooks_many ran T shared p turns [] [] [] saw = refl
hooks_many ran T shared p turns [] [] (log ∷ logs) saw = absurd saw
hooks_many ran T shared p turns [] (gate' ∷ back) logs saw = absurd saw
hooks_many ran T shared p turns (gate ∷ gates) [] logs saw = absurd saw
hooks_many ran T shared p turns (gate ∷ gates) (gate' ∷ back) [] saw = absurd saw
hooks_many ran T shared p turns (gate ∷ gates) (gate' ∷ back) (log ∷ logs) saw = ap suc (hooks_many ran T shared (p + 1) turns gates back logs saw.1)

-- as many recorders come back as there are processors
pub back_many : {C : Type 0} (ran : RunsOf (Recorder C)) (shown : TornDown → Type 0) (T : Calls (Recorder C)) (made : List (Recorder C) → Type 0) (clock : C) (from : ℕ) (command : Command) (read : Option (List ℕ)) (report : List ℕ) (booted : Booted (Recorder C)) → HasBooted ran shown T made clock from command read report booted → length booted.gates.items ≡ command.processors
back_many ran shown T made clock from command read report booted came =
    let did = came.boot.run.booted.did in
    hooks_many ran T did.shared 0 command.turns came.recorders booted.gates.items came.boot.run.booted.logs did.reported ∙ came.many
