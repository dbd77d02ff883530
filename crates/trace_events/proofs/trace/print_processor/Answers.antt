use Rattle.trace_events.proofs.Common.{subst, ◌∙◌, ◌++◌, List, ℕ, codes, decimal, IsEvent, metadata_json}
use Rattle.trace_events.proofs.Printing.{prints_text}
use Rattle.trace_events.proofs.trace.print_processor.Goals as goal

pub returns : goal.returns
returns g c =
    let kind : List ℕ = codes "thread_name" in
    let named = subst (λ (label : List ℕ). IsEvent c.in_ok-text.text.items (metadata_json kind c.processor_track-track.result label)) (c.as_str.ensures.value ∙ c.in_ok-label.ensures) c.in_ok-text.ensures in
    let event = subst (λ (track : ℕ). IsEvent c.in_ok-text.text.items (metadata_json kind track (codes "processor " ++ decimal c.args.processor))) c.processor_track-track.ensures named in
    prints_text c.print_later.result _ _ _ _ _ event c.deref.ensures.value c.print_later.ensures
