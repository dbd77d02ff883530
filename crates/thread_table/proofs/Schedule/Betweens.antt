-- Whatever the rule holds of is a lawful state of the core, shown by the words and the hands.
use Rattle.thread_table.proofs.Common.{◌≡◌, ◌<◌, false, length, subst, arith, Elements, holds, Reaches, first_state, schedule_law, ELEMENTS, Shape, View, WordsShow, Rule, HandIs}
use Rattle.atomic_table.specs.Table as tables
use Rattle.thread_table.specs.Schedules.{state_after, elements_after}
use Rattle.thread_table.specs.Between.{ShowsElements}
use Rattle.thread_table.proofs.Events.Owing.{AllOwned}
use Rattle.thread_table.proofs.Closing.Retiring.{are_retired}
use Rattle.thread_table.proofs.Schedule.Schedules.{elements_of, reached, accounted}

pub shows_elements : (key : Shape) (s : tables.State Unit View) → Rule key s → ShowsElements key s
shows_elements key s k =
    let there : Reaches (first_state ELEMENTS) k.events (state_after k.events) = reached k.events k.allowed in
    let lawful = schedule_law 64 k.events (state_after k.events) there in
    let same : elements_after k.events ≡ (state_after k.events).elements = elements_of k.events in record {
      events = k.events;
      core = state_after k.events;
      reached = there;
      lawful = lawful;
      once = λ element below. lawful.elements.once element (subst (λ (z : Elements). element < length z.threads) same (let n = k.shows.threads in omega arith));
      accounted = accounted k.events k.allowed;
      shown = subst (λ (z : Elements). WordsShow key.first z s.words) same k.shows;
      hands = λ j v at. (subst (HandIs j v) same (k.hands j v at), (k.seen j v at).schedule);
      made = k.made;
      retired = are_retired k.events k.allowed;
      sole = k.sole;
      owned = subst (AllOwned s.views) same k.owned;
      ends = k.ends;
      joined = k.joined;
      joiner = k.joiner;
      are_joins = k.are_joins;
      course = k.order.course;
      no_others = λ call element far. subst (λ (z : Elements). holds call element z ≡ false) same (k.strange call element far);
    }
