use Rattle.std.proofs.Common.{sym, ap, ◌∙◌}
use Rattle.std.specs.Option.{is_some}
use Rattle.thread_table.specs.Handles.{view_of}
use Rattle.thread_table.proofs.Shown.Masks.{one_empty}
use Rattle.bench.proofs.ring.part.Goals as goal

pub split-own-requires-clause-empty : goal.split-own-requires-clause-empty
split-own-requires-clause-empty c =
    one_empty (view_of c.args.hand.now) c.args.processor c.number.result c.number.ensures.value c.number.ensures.within
    (sym c.if-not-serves.ensures) (ap is_some (sym c.on_processor.ensures) ∙ sym c.if-is_some.ensures)
