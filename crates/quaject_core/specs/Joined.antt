-- The effect of a join on the stored data.
use Rattle.std.specs.Prelude.{ℕ}
use Rattle.event_theory.specs.Queues.{renamed}
use Rattle.quaject_core.specs.declared.queueing.Span.{Span}

-- a run after the join of the call `other` to `call`: a run of `other` becomes a run of `call`
abbrev pub renamed_span : ℕ → ℕ → Span → Span
renamed_span call other span = record span { call = renamed call other span.call }
