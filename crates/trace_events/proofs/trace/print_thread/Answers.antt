use Rattle.trace_events.proofs.Common.{subst, ap, ◌∙◌, ◌+◌, List, ℕ, codes, heard_text, IsEvent, metadata_json}
use Rattle.trace_events.proofs.Printing.{prints_text}
use Rattle.trace_events.proofs.trace.print_thread.Goals as goal

pub returns : goal.returns
returns g c =
    let name = c.as_str.ensures.value ∙ c.in_ok-label.ensures ∙ ap heard_text c.as_slice.ensures.bytes in
    let event = subst (λ (label : List ℕ). IsEvent c.in_ok-text.text.items (metadata_json (codes "thread_name") (c.args.number + 11) label)) name c.in_ok-text.ensures in
    prints_text c.print_later.result _ _ _ _ _ event c.deref.ensures.value c.print_later.ensures
