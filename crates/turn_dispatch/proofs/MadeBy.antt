-- The contribution of one event to a tally.
use Rattle.turn_dispatch.proofs.Common.{MadeEvent, step_by, taking_by, signal_by, delivery_by, retiring_by}
use Rattle.std.specs.Prelude.{ℕ, List}

abbrev pub done_by : MadeEvent → List (ℕ × ℕ)
done_by m = step_by m.event m.number

abbrev pub signalled_by : MadeEvent → List (ℕ × ℕ)
signalled_by m = signal_by m.event

abbrev pub delivered_by : MadeEvent → List (ℕ × List ℕ)
delivered_by m = delivery_by m.event m.signals

abbrev pub retired_by : MadeEvent → List (ℕ × ℕ)
retired_by m = retiring_by m.event m.number

abbrev pub taken_by : MadeEvent → List ℕ
taken_by m = taking_by m.event
