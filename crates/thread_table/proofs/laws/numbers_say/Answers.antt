use Rattle.thread_table.proofs.Events.Saying.{ends_say, head_says, tail_says, places_say, state_says, bits_say, done_says, processor_says}
use Rattle.thread_table.proofs.laws.numbers_say.Goals as goal

pub returns : goal.returns
returns c = record {
  ends = ends_say;
  head = λ first e ring below is r. head_says first e r ring below is;
  tail = λ first e ring below is r. tail_says first e r ring below is;
  place = λ first e ring run below low high is r. places_say first e r ring run below low high is;
  state = λ first e element known is r. state_says first e r element known is;
  bits = bits_say;
  done = λ first e element known is r. done_says first e r element known is;
  processor = λ first e p low is r. processor_says first e r p low is;
}
