use Rattle.meters.proofs.Common.{◌≡◌, ◌+◌, ◌<◌, ℕ, length, get_or, slots_items}
use Rattle.meters.proofs.close.read_gauges.Given as goal

abbrev pub invariant-loop-gauge : goal.invariant-loop-gauge
invariant-loop-gauge l = record {
  eight : length l.gauges ≡ 8;
  each : (j : ℕ) → j < l.gauge → get_or l.gauges j 0 ≡ get_or (slots_items l.closed.words) (1 + j) 0;
}
