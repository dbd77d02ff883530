use Rattle.trace_events.proofs.Common.{◌≤◌, ℕ, length, subst, sym, List, OnOk, Kept, kept_in, ThreadTurn, Prints, log_events, numbered_events, passing_events, thread_events, all_thread_turns}
use Rattle.boot_data.specs.declared.plan.PlannedThread.{PlannedThread}
use Rattle.boot_log.specs.Lines.{passings}
use Rattle.trace_events.proofs.Plans.{few_threads}
use Rattle.trace_events.proofs.Printing.{prints_join, then_prints}
use Rattle.trace_events.proofs.Starts.{starts-IsPermutation}
use Rattle.trace_events.proofs.trace.print_events.Goals as goal

pub print_threads-requires : goal.print_threads-requires
print_threads-requires g c = subst (λ (threads : List PlannedThread). length threads ≤ 64) (sym c.as_slice.ensures) (few_threads c.args.plan.now)

pub returns : goal.returns
returns g c =
    let logs : List Kept = kept_in c.args.logs.now in
    let threads = subst (λ (threads : List PlannedThread). Prints (g.W.Write.contents c.print_processors.new.out) (g.W.Write.contents c.print_threads.new.out) (numbered_events thread_events 0 threads)) c.as_slice.ensures c.in_ok-print_threads.ensures in
    let turns = subst (λ (begins : ThreadTurn → ℕ). Prints (g.W.Write.contents c.print_threads.new.out) (g.W.Write.contents c.print_logs.new.out) (numbered_events (log_events c.args.plan.now c.args.from begins) 0 logs))
    (starts-IsPermutation (all_thread_turns c.args.from 0 logs) c.in_ok-turns.turns c.in_ok-turns.ensures) c.in_ok-print_logs.ensures in
    let flows = subst (λ (begins : ThreadTurn → ℕ). OnOk c.print_flows.result (Prints (g.W.Write.contents c.print_logs.new.out) (g.W.Write.contents c.print_flows.new.out) (numbered_events (passing_events begins) 0 (passings c.args.plan.now c.args.from logs))))
    (starts-IsPermutation (all_thread_turns c.args.from 0 logs) c.in_ok-turns.turns c.in_ok-turns.ensures) c.print_flows.ensures in
    let names = prints_join _ _ _ _ _ c.in_ok-print_processors.ensures threads in
    then_prints c.print_flows.result _ _ _ _ _ (prints_join _ _ _ _ _ names turns) flows
