use Rattle.meters.proofs.Common.{◌≡◌, ◌≤◌, List, length, take, Option, slots_items, Alarm, SlotsShow, standing}
use Rattle.meters.proofs.close.read_alarms.Given as goal

abbrev pub invariant-loop-slot : goal.invariant-loop-slot
invariant-loop-slot l = record {
  few : length l.alarms.items ≤ l.slot;
  read : (slots : List (Option Alarm)) → SlotsShow slots (slots_items l.closed.words) → l.alarms.items ≡ standing (take l.slot slots);
}
