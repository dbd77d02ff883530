use Rattle.trace_events.proofs.Common.{ap, ◌∙◌, ◌++◌, List, ℕ, codes, Appends-trans, on_ok_weaker, kept_in, Json, later_texts, boot_events, process_json}
use Rattle.trace_events.proofs.Documents.{trace_joined}
use Rattle.trace_events.proofs.Printing.{then_appends}
use Rattle.trace_events.proofs.Values.{trace_read}
use Rattle.trace_events.proofs.trace.print_trace.Goals as goal

pub returns-clause-text : goal.returns-clause-text
returns-clause-text g c =
    let events : List Json = boot_events c.args.plan.now c.args.from (kept_in c.args.logs.now) in
    let first = Appends-trans _ _ _ _ _ c.in_ok-print_bytes.ensures c.in_ok-print_bytes-2.ensures in
    let all = Appends-trans _ _ _ _ _ first c.in_ok-print_events.ensures.text in
    let process = c.deref.ensures.value ∙ c.in_ok-text.ensures.is in
    then_appends c.print_bytes-3.result _ _ _ _ _ _ all c.print_bytes-3.ensures
    (ap (λ (text : List ℕ). ((codes "{\"traceEvents\":[" ++ text) ++ later_texts events) ++ codes "],\"displayTimeUnit\":\"ns\"}") process ∙ trace_joined process_json events)

pub returns-clause-value : goal.returns-clause-value
returns-clause-value g c =
    let read = trace_read _ (c.in_ok-text.ensures.numbers, c.in_ok-print_events.ensures.numbers) (c.in_ok-text.ensures.shallow, c.in_ok-print_events.ensures.shallow) in
    on_ok_weaker c.print_bytes-3.result (λ _. read) c.print_bytes-3.ensures
