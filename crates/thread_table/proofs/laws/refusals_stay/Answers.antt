use Rattle.thread_table.proofs.Common.{[], ◌∷◌, load, tail_word}
use Rattle.thread_table.proofs.Hands.Unchanged.{stays_by, after_stays, take_stays, move_stays, wait_stays, ticket_stays, counts_stay}
use Rattle.thread_table.proofs.laws.refusals_stay.Goals as goal

pub returns : goal.returns
returns c = record {
  looks = stays_by;
  takes = take_stays;
  befores = λ call ring head v w r a. after_stays (load (tail_word ring) a.0 a.1 ∷ []) call ring v w r a.3;
  reached = λ call ring head v w a. stays_by v w _ a.3;
  moves = move_stays;
  waits = wait_stays;
  tickets = ticket_stays;
  starts = λ call element v w r a. stays_by v w _ a.5;
  goes_on = λ call element v w a. stays_by v w _ a.3;
  parks = λ call element v w r a. stays_by v w _ a.5;
  runs = λ call element v w a. stays_by v w _ a.3;
  pendings = λ element mask v w a. stays_by v w _ a.3;
  delivers = λ call element v w r a. stays_by v w _ a.5;
  delivers_none = λ call element v w a. stays_by v w _ a.3;
  counts = counts_stay;
  spent = λ call element v w r a. counts_stay element _ v w a;
}
