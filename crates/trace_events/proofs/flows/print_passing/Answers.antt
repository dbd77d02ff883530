use Rattle.trace_events.proofs.Common.{ℕ, ap, subst, ◌∙◌, IsEvent, line_end_json, line_start_json, thread_track}
use Rattle.trace_events.proofs.Printing.{prints_shown, prints_text, then_prints}
use Rattle.trace_events.proofs.flows.print_passing.Goals as goal

pub returns : goal.returns
returns g c =
    let passing = c.args.passing.now in
    let said = c.thread_track-said.ensures ∙ ap thread_track c.number.ensures.value in
    let heard = c.thread_track-heard.ensures ∙ ap thread_track c.number-2.ensures.value in
    let begun = subst (λ (track : ℕ). IsEvent c.in_ok-start.start.items (line_start_json c.args.number track c.start_of-from.result)) said c.in_ok-start.ensures in
    let start = subst (λ (time : ℕ). IsEvent c.in_ok-start.start.items (line_start_json c.args.number (thread_track passing.said.thread) time)) c.start_of-from.ensures begun in
    let placed = subst (λ (track : ℕ). IsEvent c.in_ok-end.end.items (line_end_json c.args.number track c.last_of-until.result)) heard c.in_ok-end.ensures in
    let end = subst (λ (time : ℕ). IsEvent c.in_ok-end.end.items (line_end_json c.args.number (thread_track passing.heard.thread) time)) c.last_of-until.ensures placed in
    then_prints c.print_later-2.result _ _ _ _ _ (prints_shown _ _ _ _ _ start c.deref.ensures.value c.in_ok-print_later.ensures)
    (prints_text c.print_later-2.result _ _ _ _ _ end c.deref-2.ensures.value c.print_later-2.ensures)
