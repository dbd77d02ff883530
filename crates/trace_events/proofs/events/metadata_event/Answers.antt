use Rattle.trace_events.proofs.Common.{refl, arith, metadata_json}
use Rattle.trace_events.proofs.Growing.{alone_join, ended_text}
use Rattle.trace_events.proofs.events.metadata_event.Goals as goal

pub returns : goal.returns
returns c =
    let opened = alone_join _ _ _ _ c.in_ok-out.ensures c.in_ok-open_args.ensures in
    let named = alone_join _ _ _ _ opened c.in_ok-put_text.ensures in
    ended_text c.end_args.result _ _ (metadata_json c.args.kind.now c.args.track c.args.label.now) named c.end_args.ensures refl (omega arith)
