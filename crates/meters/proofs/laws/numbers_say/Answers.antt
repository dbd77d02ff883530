use Rattle.meters.proofs.Common.{of_meters}
use Rattle.table_theory.proofs.Saying.{ends_say}
use Rattle.meters.proofs.Lawful.{gauge_says, clock_says, empty_says, taken_says, other_says}
use Rattle.meters.proofs.laws.numbers_say.Goals as goal

pub returns : goal.returns
returns c = record {
  ends = ends_say of_meters;
  gauge = gauge_says;
  clock = clock_says;
  empty = empty_says;
  taken = taken_says;
  other = other_says;
}
