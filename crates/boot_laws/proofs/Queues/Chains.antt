-- The closed chains of pumps and switches by the logs.
use Rattle.boot_laws.proofs.Common.{◌≡◌, ℕ, List, length, ap, ◌∙◌, arith, concat, BootPlan, PlannedMover, Home, Account, LogEntry, Done, WorkedTogether, ChainEnded, MoverEnded, total_of, notes_of, MoverAgrees}
use Rattle.boot_laws.specs.ClosedTables as closed
use Rattle.boot_laws.proofs.Totals.{all_of, all_did}
use Rattle.boot_laws.proofs.Turns.{all_work}

pub mover_agrees : (plan : BootPlan) (logs : List (List LogEntry)) (done : Done) → WorkedTogether plan logs done → (number : ℕ) (p : PlannedMover) (home : Home) (m : closed.Chain)
    → ChainEnded home m → MoverEnded number p done.in_all m → MoverAgrees number p.mover m logs
mover_agrees plan logs done w number p home m came e = record {
  its = e.of_plan;
  made = came.of_new;
  kept = came.kept;
  pokes = let none = came.none_left in
      let notes : notes_of m.quaject ≡ length ((total_of logs).chains number).notes = e.ran ∙ (ap (λ (a : Account). length (concat (a.chains number).notes)) (all_did plan logs done w) ∙ (all_work (all_of logs)).alone number) in omega arith;
}
