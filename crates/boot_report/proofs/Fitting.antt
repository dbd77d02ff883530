-- What a boot knows at its end gives what a report of it needs besides the numbers.
use Rattle.boot_report.proofs.Common.{◌≡◌, ℕ, ◌+◌, ◌≤◌, true, List, ◌++◌, length, refl, sym, ◌∙◌, subst, arith, Some, slice_get, length-append, length_permutation, slice_get_within, BootPlan, LogEntry, program, ClosedTables, WorkedTogether, ThreadsEnded, ◌&&◌, eqb, eqb-true, eq-eqb, Done, many_more}
use Rattle.std.proofs.lemmas.Bool.{and_parts, and_from}
use Rattle.event_theory.specs.declared.alarm.Alarm.{Alarm}
use Rattle.event_theory.specs.Lawful.{is_alarm}
use Rattle.boot_laws.specs.Agreements.{AlarmsAgree}
use Rattle.boot_laws.specs.ClosedTables as closed
use Rattle.boot_laws.proofs.Threads.{prefix}
use Rattle.thread_table.proofs.Lists.Shuffles.{same_counts}

pub steps_fit : (plan : BootPlan) (logs : List (List LogEntry)) (done : Done) (c : ClosedTables) (thread : ℕ) (t : closed.Thread) → WorkedTogether plan logs done
    → ThreadsEnded done.in_all c → slice_get c.threads thread ≡ Some t → t.steps ≤ length (program plan thread)
steps_fit plan logs done c thread t worked ended at = subst (λ (z : closed.Thread). z.steps ≤ length (program plan thread)) (sym (ended.each thread t at))
    (prefix plan logs done worked c ended thread (let low = slice_get_within c.threads thread t at in let few = ended.few in omega arith))

reports : (a b : Alarm) → is_alarm a b ≡ true → a ≡ b
reports a b same =
    let first = and_parts (eqb a.due b.due && eqb a.element b.element) (eqb a.signal b.signal) same in
    let second = and_parts (eqb a.due b.due) (eqb a.element b.element) first.0 in
    let due : a.due ≡ b.due = eqb-true _ _ second.0 in let element : a.element ≡ b.element = eqb-true _ _ second.1 in
    let signal : a.signal ≡ b.signal = eqb-true _ _ first.1 in
    λ i. record { due = due i; element = element i; signal = signal i }

itself : (a : Alarm) → is_alarm a a ≡ true
itself a = and_from (eqb a.due a.due && eqb a.element a.element) (eqb a.signal a.signal) (and_from (eqb a.due a.due) (eqb a.element a.element) (eq-eqb _ _ refl) (eq-eqb _ _ refl)) (eq-eqb _ _ refl)

pub all_alarms : (plan : BootPlan) (c : ClosedTables) (logs : List (List LogEntry)) → AlarmsAgree plan c logs → length plan.alarms ≡ length c.fired + length c.left
all_alarms plan c logs agrees =
    let shuffle = same_counts is_alarm reports itself plan.alarms (c.fired ++ c.left) (λ a. agrees.each a ∙ sym (many_more (is_alarm a) c.fired c.left)) in
    length_permutation _ _ shuffle ∙ length-append c.fired c.left
