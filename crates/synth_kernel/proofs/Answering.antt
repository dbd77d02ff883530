-- Answers of a boot, from those of its parts.
use Rattle.synth_kernel.proofs.Common.{◌≡◌, ℕ, suc, ◌+◌, List, [], ◌∷◌, length, Option, Some, None, refl, sym, ap, subst, ◌∙◌, AllByRecursion, BootPlan, TornDown, Calls, Shared, Parts, LogEntry, Leaves, HooksSaw, BootWithHooks, ◌==◌, Result, Ok, Err, IfOk, eq-eqb, ne_eqb, Tended, HookedTurns, TendedBy, Ended, IsLogOf, AreLogs, LogsHaveTurns, HookSaw, SawNothing, CameBackPlain, IsRun, Says, IsBoot, ended_in, IfErr, ◌≢◌, LetGo, RunsOf}
use Rattle.std.specs.Option.{is_some}
use Rattle.boot_laws.specs.ClosedTables.{ClosedTables}
use Rattle.turn_io.specs.declared.gate.NoGate.{NoGate}
use Rattle.synth_kernel.specs.declared.printing.Booted.{Booted}
use Rattle.synth_kernel.specs.declared.outcome.BootFault.{BootFault}

-- the answer of a boot alone, after its streams were let go
module _ {G : Type 0} (answer : Result (Booted G) BootFault) (ended : Result Ended BootFault) (is : ended ≡ ended_in answer) where
  ok_alone : (Did : List G → TornDown → BootPlan → ClosedTables → List (List LogEntry) → Type 0) (read : Option (List ℕ)) {O : Type 0} (gone : O → Type 0) (contents : O → Option (List ℕ)) (old : Option (List ℕ)) (end : O) → gone end
      → (answer : Result (Booted G) BootFault) → IfOk answer (λ booted. IsBoot (Did booted.gates.items booted.closed) read booted.ended old (contents end))
      → IfOk (ended_in answer) (λ e. (back : List G) × (closed : TornDown) × LetGo gone (λ last. IsBoot (Did back closed) read e old (contents last)))
  ok_alone Did read gone contents old end went (Ok booted) boot = (booted.gates.items, booted.closed, (end, went, boot))
  ok_alone Did read gone contents old end went (Err fault) boot = tt

  pub let_go_ok : (Did : List G → TornDown → BootPlan → ClosedTables → List (List LogEntry) → Type 0) (read : Option (List ℕ)) {O : Type 0} (gone : O → Type 0) (contents : O → Option (List ℕ)) (old : Option (List ℕ)) (end : O) → gone end
      → IfOk answer (λ booted. IsBoot (Did booted.gates.items booted.closed) read booted.ended old (contents end))
      → IfOk ended (λ e. (back : List G) × (closed : TornDown) × LetGo gone (λ last. IsBoot (Did back closed) read e old (contents last)))
  let_go_ok Did read gone contents old end went boot =
      subst (λ (z : Result Ended BootFault). IfOk z (λ e. (back : List G) × (closed : TornDown) × LetGo gone (λ last. IsBoot (Did back closed) read e old (contents last)))) (sym is) (ok_alone Did read gone contents old end went answer boot)

  fault_alone : (P Q : BootFault → Type 0) → ((fault : BootFault) → P fault → Q fault) → (answer : Result (Booted G) BootFault) → IfErr answer P → IfErr (ended_in answer) Q
  fault_alone P Q more (Ok booted) h = tt
  fault_alone P Q more (Err fault) h = more fault h

  pub let_go_fault : (P Q : BootFault → Type 0) → ((fault : BootFault) → P fault → Q fault) → IfErr answer P → IfErr ended Q
  let_go_fault P Q more h = subst (λ (z : Result Ended BootFault). IfErr z Q) (sym is) (fault_alone P Q more answer h)

  pub same_fault : (P : BootFault → Type 0) → IfErr answer P → IfErr ended P
  same_fault P h = let_go_fault P P (λ fault it. it) h

  pub other_answer : (fault : BootFault) → ended ≢ Err fault → answer ≢ Err fault
  other_answer fault h = λ e. h (is ∙ ap ended_in e)

module _ {G : Type 0} (ran : RunsOf G) (shown : TornDown → Type 0) (T : Calls G) (turns : ℕ) (gates : List G) where
  pub boots : (read : Option (List ℕ)) (answer : Result (Booted G) BootFault) (plan : BootPlan) (old new : Option (List ℕ)) → Says read plan
      → IfOk answer (λ booted. IsRun (BootWithHooks ran shown T turns gates booted.gates.items booted.closed) plan booted.ended old new) → IfOk answer (λ booted. IsBoot (BootWithHooks ran shown T turns gates booted.gates.items booted.closed) read booted.ended old new)
  boots read (Ok booted) plan old new says run = record { plan = plan; says = says; run = run }
  boots read (Err fault) plan old new says run = tt

-- processor 0 tends the alarms, and no other
tends : (p : ℕ) (tended : Option Tended) (old new : Parts) → TendedBy p tended old new → is_some tended ≡ (p == 0)
tends p None old new by = sym (ne_eqb p 0 by.0)
tends p (Some tended) old new by = sym (eq-eqb p 0 by.0)

all_tend : {G : Type 0} (T : Calls G) (shared : Shared) (p number : ℕ) (log : List LogEntry) (old new : Parts) (gate gate' : G) → HookedTurns T shared p number log old new gate gate'
    → AllByRecursion (λ (entry : LogEntry). is_some entry.tended ≡ (p == 0)) log
all_tend T shared p number [] old new gate gate' reported = tt
all_tend T shared p number (entry ∷ log) old new gate gate' reported =
    (tends p entry.tended old reported.2.0 reported.2.1, all_tend T shared p (suc number) log reported.0 new reported.1 gate' reported.4)

-- the facts that remain if the gates and the closed objects are forgotten
module _ {G : Type 0} (ran : RunsOf G) (shown : TornDown → Type 0) (T : Calls G) (turns : ℕ) where
  had_one : (shared : Shared) (p : ℕ) (gate back : G) (log : List LogEntry) → HookSaw ran T shared p turns gate back log → IsLogOf shared.plan p turns log
  had_one shared p gate back log reported = subst (IsLogOf shared.plan p turns) reported.log_is (record {
    many = reported.turned.many;
    tends = all_tend T shared p 0 reported.turned.log reported.old.parts reported.new.parts gate back reported.turned.reported;
    station = reported.new.parts;
    left = reported.turned.leaves reported.fresh;
  })

  had_each : (shared : Shared) (p : ℕ) (gates back : List G) (logs : List (List LogEntry)) → HooksSaw ran T shared p turns gates back logs → (length logs ≡ length gates) × AreLogs shared.plan p turns logs
  had_each shared p [] [] [] all = (refl, tt)
  had_each shared p [] [] (log ∷ logs) all = absurd all
  had_each shared p [] (back ∷ backs) logs all = absurd all
  had_each shared p (gate ∷ gates) [] logs all = absurd all
  had_each shared p (gate ∷ gates) (back ∷ backs) [] all = absurd all
  had_each shared p (gate ∷ gates) (back ∷ backs) (log ∷ logs) all =
      let rest = had_each shared (p + 1) gates backs logs all.1 in (ap suc rest.0, (had_one shared p gate back log all.0, rest.1))

  -- so each processor had its turns
  pub had : (gates back : List G) (ended : TornDown) (plan : BootPlan) (closed : ClosedTables) (logs : List (List LogEntry)) → BootWithHooks ran shown T turns gates back ended plan closed logs → LogsHaveTurns (length gates) turns plan closed logs
  had gates back ended plan closed logs came =
      let each = had_each came.shared 0 gates back logs came.reported in
      record { many = each.0; each = subst (λ (z : BootPlan). AreLogs z 0 turns logs) came.plan_is each.1 }

-- a boot whose gates do nothing
pub plain : (ran : RunsOf NoGate) (shown : TornDown → Type 0) (turns : ℕ) (gates back : List NoGate) (closed : TornDown) (processors : ℕ) (read : Option (List ℕ)) (ended : Ended) (plan : BootPlan) (old new : Option (List ℕ)) → length gates ≡ processors
    → Says read plan → IsRun (BootWithHooks ran shown SawNothing turns gates back closed) plan ended old new → IsBoot (CameBackPlain ran shown processors turns back closed) read ended old new
plain ran shown turns gates back closed processors read ended plan old new many says run = let b = run.booted in record {
  plan = plan;
  says = says;
  run = record {
    report = run.report;
    booted = record { closed = b.closed; logs = b.logs; heard = b.heard; did = record { gates = gates; many = many; came = b.did }; agrees = b.agrees };
    ends = run.ends;
    printed = run.printed;
  };
}

pub plain_ok : (ran : RunsOf NoGate) (shown : TornDown → Type 0) (turns : ℕ) (gates : List NoGate) (processors : ℕ) (read : Option (List ℕ)) (answer : Result (Booted NoGate) BootFault) (plan : BootPlan) (old new : Option (List ℕ)) → length gates ≡ processors → Says read plan
    → IfOk answer (λ booted. IsRun (BootWithHooks ran shown SawNothing turns gates booted.gates.items booted.closed) plan booted.ended old new) → IfOk answer (λ booted. IsBoot (CameBackPlain ran shown processors turns booted.gates.items booted.closed) read booted.ended old new)
plain_ok ran shown turns gates processors read (Ok booted) plan old new many says run = plain ran shown turns gates booted.gates.items booted.closed processors read booted.ended plan old new many says run
plain_ok ran shown turns gates processors read (Err fault) plan old new many says run = tt

pub had_plain : (ran : RunsOf NoGate) (shown : TornDown → Type 0) (processors turns : ℕ) (back : List NoGate) (ended : TornDown) (plan : BootPlan) (closed : ClosedTables) (logs : List (List LogEntry)) → CameBackPlain ran shown processors turns back ended plan closed logs → LogsHaveTurns processors turns plan closed logs
had_plain ran shown processors turns back ended plan closed logs came =
    subst (λ (z : ℕ). LogsHaveTurns z turns plan closed logs) came.many (had ran shown SawNothing turns came.gates back ended plan closed logs came.came)
