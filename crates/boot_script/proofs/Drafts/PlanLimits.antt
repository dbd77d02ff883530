-- The limits of a plan hold of each draft.
use Rattle.boot_script.proofs.Common.{◌≡◌, inl, inr, ℕ, zero, suc, ◌≤◌, ◌+◌, List, [], ◌∷◌, ◌++◌, ◌∙◌, refl, sym, ap, subst, arith, length, length-append, true, Option, Some, None, Result, Ok, Err, nat_tests, nat_le, nat_lt, AllByRecursion, slice_get, Alarm, ScriptFault, Line, Kind, PlannedQueue, PlannedTty, PlannedMover, PlannedThread, Step, Version, Boot, count_of, room_of, with_name, boot_line, says_nothing, at_line, opening_of, Plan, steps_in, steps_at, Draft, first_draft, no_plan, goes_on, typed_in, typed_at, change_at, with_text, with_step, text_room, alarm_room, step_room, add_step, added, line_added, plan_from, plan_only, text_plan, many_of, IsStepOf, IsMoverOf, IsAlarmOf, IsProgramOf, IsTyped, IsPlan, AreInOrder}
use Rattle.boot_script.specs.declared.boot_lines.Line.TheVariants as line
use Rattle.boot_data.specs.declared.kind.Kind.TheVariants as kind
use Rattle.boot_script.proofs.Basics.Bools.{room_ok}
use Rattle.boot_script.proofs.Basics.Binds.{bind_ok, chosen}
use Rattle.boot_script.proofs.Drafts.NamesSoFar.{all_push}
use Rattle.boot_script.proofs.LineWords.Openings.{at_line_ok}
use Rattle.boot_script.proofs.Drafts.PlanGrowth.{Grows, below_more, step_more, mover_more, moved_more, signalled_more, programs_more, GrowsBy, by_one, counted_one, has_room, length_push}
use Rattle.boot_script.proofs.Drafts.SaidRanges.{IsLineOf, line_there}
use Rattle.boot_script.proofs.BootScripts.Spelled.{boot_line_ok}
use Rattle.boot_script.proofs.Drafts.DraftOrder.{IsOrdered, added_in_order}

-- what holds of a draft
pub record IsDraft (d : Draft) : Type 0 where
  pub plan : IsPlan d.plan
  pub counted : (kind : Kind) → count_of kind d.names ≡ many_of d.plan kind

-- a queue more
abbrev with_queue : PlannedQueue → Plan → Plan
with_queue queue plan = record plan { queues = plan.queues ++ queue ∷ [] }

queues_grow : (queue : PlannedQueue) (plan : Plan) → GrowsBy kind.Queue plan (with_queue queue plan)
queues_grow queue plan kind.Queue = length_push plan.queues queue
queues_grow queue plan kind.Tty = omega arith
queues_grow queue plan kind.Mover = omega arith
queues_grow queue plan kind.Gauge = omega arith
queues_grow queue plan kind.Thread = omega arith

queue_fits : (queue : PlannedQueue) (plan : Plan) → IsPlan plan → length plan.queues + 1 ≤ 8 → IsPlan (with_queue queue plan)
queue_fits queue plan h room =
    let grows = by_one kind.Queue plan (with_queue queue plan) (queues_grow queue plan) in
    record {
      queues = omega (arith, length_push plan.queues queue, room);
      ttys = h.ttys;
      movers = h.movers;
      gauges = h.gauges;
      alarms = h.alarms;
      threads = h.threads;
      typed = h.typed;
      moved = moved_more (many_of plan) (many_of (with_queue queue plan)) grows plan.movers h.moved;
      signalled = signalled_more (many_of plan) (many_of (with_queue queue plan)) grows plan.alarms h.signalled;
      programs = programs_more (many_of plan) (many_of (with_queue queue plan)) grows plan.threads h.programs;
    }

queue_kept : (version : Version) (queue : PlannedQueue) (d next : Draft) → IsDraft d → added version (line.Queue queue) d ≡ Ok next → IsDraft next
unfolding added
queue_kept version queue d next h e =
    let plan = with_queue queue d.plan in
    let names = with_name kind.Queue queue.name d.names in
    let grows = queues_grow queue d.plan in
    let a = bind_ok (room_of version kind.Queue d.names) (λ room. Ok (record d { plan = plan; names = names })) next e in
    let same : record d { plan = plan; names = names } ≡ next = cc (a.2) in
    subst IsDraft same (record {
      plan = queue_fits queue d.plan h.plan (has_room version kind.Queue d.names d.plan a.0 (h.counted kind.Queue) a.1);
      counted = counted_one kind.Queue queue.name d.names d.plan plan grows h.counted;
    })

-- a tty more
abbrev with_tty : List ℕ → Plan → Plan
with_tty name plan = record plan { ttys = plan.ttys ++ record { name = name; typed = [] } ∷ [] }

ttys_grow : (name : List ℕ) (plan : Plan) → GrowsBy kind.Tty plan (with_tty name plan)
ttys_grow name plan kind.Queue = omega arith
ttys_grow name plan kind.Tty = length_push plan.ttys (record { name = name; typed = [] })
ttys_grow name plan kind.Mover = omega arith
ttys_grow name plan kind.Gauge = omega arith
ttys_grow name plan kind.Thread = omega arith

tty_fits : (name : List ℕ) (plan : Plan) → IsPlan plan → length plan.ttys + 1 ≤ 2 → IsPlan (with_tty name plan)
tty_fits name plan h room =
    let tty : PlannedTty = record { name = name; typed = [] } in
    let grows = by_one kind.Tty plan (with_tty name plan) (ttys_grow name plan) in
    record {
      queues = h.queues;
      ttys = omega (arith, length_push plan.ttys tty, room);
      movers = h.movers;
      gauges = h.gauges;
      alarms = h.alarms;
      threads = h.threads;
      typed = all_push IsTyped plan.ttys tty h.typed (omega arith);
      moved = moved_more (many_of plan) (many_of (with_tty name plan)) grows plan.movers h.moved;
      signalled = signalled_more (many_of plan) (many_of (with_tty name plan)) grows plan.alarms h.signalled;
      programs = programs_more (many_of plan) (many_of (with_tty name plan)) grows plan.threads h.programs;
    }

tty_kept : (version : Version) (name : List ℕ) (d next : Draft) → IsDraft d → added version (line.Tty name) d ≡ Ok next → IsDraft next
unfolding added
tty_kept version name d next h e =
    let plan = with_tty name d.plan in
    let names = with_name kind.Tty name d.names in
    let grows = ttys_grow name d.plan in
    let a = bind_ok (room_of version kind.Tty d.names) (λ room. Ok (record d { plan = plan; names = names })) next e in
    let same : record d { plan = plan; names = names } ≡ next = cc (a.2) in
    subst IsDraft same (record {
      plan = tty_fits name d.plan h.plan (has_room version kind.Tty d.names d.plan a.0 (h.counted kind.Tty) a.1);
      counted = counted_one kind.Tty name d.names d.plan plan grows h.counted;
    })

-- a pump or switch more
abbrev with_mover : PlannedMover → Plan → Plan
with_mover mover plan = record plan { movers = plan.movers ++ mover ∷ [] }

movers_grow : (mover : PlannedMover) (plan : Plan) → GrowsBy kind.Mover plan (with_mover mover plan)
movers_grow mover plan kind.Queue = omega arith
movers_grow mover plan kind.Tty = omega arith
movers_grow mover plan kind.Mover = length_push plan.movers mover
movers_grow mover plan kind.Gauge = omega arith
movers_grow mover plan kind.Thread = omega arith

mover_fits : (mover : PlannedMover) (plan : Plan) → IsPlan plan → length plan.movers + 1 ≤ 4 → IsMoverOf (many_of plan) mover.mover → IsPlan (with_mover mover plan)
mover_fits mover plan h room said =
    let more = many_of (with_mover mover plan) in
    let grows = by_one kind.Mover plan (with_mover mover plan) (movers_grow mover plan) in
    record {
      queues = h.queues;
      ttys = h.ttys;
      movers = omega (arith, length_push plan.movers mover, room);
      gauges = h.gauges;
      alarms = h.alarms;
      threads = h.threads;
      typed = h.typed;
      moved = all_push (λ planned. IsMoverOf more planned.mover) plan.movers mover (moved_more (many_of plan) more grows plan.movers h.moved) (mover_more (many_of plan) more grows mover.mover said);
      signalled = signalled_more (many_of plan) more grows plan.alarms h.signalled;
      programs = programs_more (many_of plan) more grows plan.threads h.programs;
    }

mover_kept : (version : Version) (mover : PlannedMover) (d next : Draft) → IsDraft d → IsMoverOf (many_of d.plan) mover.mover → added version (line.Mover mover) d ≡ Ok next → IsDraft next
unfolding added
mover_kept version mover d next h said e =
    let plan = with_mover mover d.plan in
    let names = with_name kind.Mover mover.name d.names in
    let grows = movers_grow mover d.plan in
    let a = bind_ok (room_of version kind.Mover d.names) (λ room. Ok (record d { plan = plan; names = names })) next e in
    let same : record d { plan = plan; names = names } ≡ next = cc (a.2) in
    subst IsDraft same (record {
      plan = mover_fits mover d.plan h.plan (has_room version kind.Mover d.names d.plan a.0 (h.counted kind.Mover) a.1) said;
      counted = counted_one kind.Mover mover.name d.names d.plan plan grows h.counted;
    })

-- a gauge more
abbrev with_gauge : List ℕ → Plan → Plan
with_gauge name plan = record plan { gauges = plan.gauges ++ name ∷ [] }

gauges_grow : (name : List ℕ) (plan : Plan) → GrowsBy kind.Gauge plan (with_gauge name plan)
gauges_grow name plan kind.Queue = omega arith
gauges_grow name plan kind.Tty = omega arith
gauges_grow name plan kind.Mover = omega arith
gauges_grow name plan kind.Gauge = length_push plan.gauges name
gauges_grow name plan kind.Thread = omega arith

gauge_fits : (name : List ℕ) (plan : Plan) → IsPlan plan → length plan.gauges + 1 ≤ 8 → IsPlan (with_gauge name plan)
gauge_fits name plan h room =
    let more = many_of (with_gauge name plan) in
    let grows = by_one kind.Gauge plan (with_gauge name plan) (gauges_grow name plan) in
    record {
      queues = h.queues;
      ttys = h.ttys;
      movers = h.movers;
      gauges = omega (arith, length_push plan.gauges name, room);
      alarms = h.alarms;
      threads = h.threads;
      typed = h.typed;
      moved = moved_more (many_of plan) more grows plan.movers h.moved;
      signalled = signalled_more (many_of plan) more grows plan.alarms h.signalled;
      programs = programs_more (many_of plan) more grows plan.threads h.programs;
    }

gauge_kept : (version : Version) (name : List ℕ) (d next : Draft) → IsDraft d → added version (line.Gauge name) d ≡ Ok next → IsDraft next
unfolding added
gauge_kept version name d next h e =
    let plan = with_gauge name d.plan in
    let names = with_name kind.Gauge name d.names in
    let grows = gauges_grow name d.plan in
    let a = bind_ok (room_of version kind.Gauge d.names) (λ room. Ok (record d { plan = plan; names = names })) next e in
    let same : record d { plan = plan; names = names } ≡ next = cc (a.2) in
    subst IsDraft same (record {
      plan = gauge_fits name d.plan h.plan (has_room version kind.Gauge d.names d.plan a.0 (h.counted kind.Gauge) a.1);
      counted = counted_one kind.Gauge name d.names d.plan plan grows h.counted;
    })

-- a thread more
abbrev with_thread : List ℕ → Plan → Plan
with_thread name plan = record plan { threads = plan.threads ++ record { name = name; steps = [] } ∷ [] }

threads_grow : (name : List ℕ) (plan : Plan) → GrowsBy kind.Thread plan (with_thread name plan)
threads_grow name plan kind.Queue = omega arith
threads_grow name plan kind.Tty = omega arith
threads_grow name plan kind.Mover = omega arith
threads_grow name plan kind.Gauge = omega arith
threads_grow name plan kind.Thread = length_push plan.threads (record { name = name; steps = [] })

thread_fits : (name : List ℕ) (plan : Plan) → IsPlan plan → length plan.threads + 1 ≤ 64 → IsPlan (with_thread name plan)
thread_fits name plan h room =
    let thread : PlannedThread = record { name = name; steps = [] } in
    let more = many_of (with_thread name plan) in
    let grows = by_one kind.Thread plan (with_thread name plan) (threads_grow name plan) in
    record {
      queues = h.queues;
      ttys = h.ttys;
      movers = h.movers;
      gauges = h.gauges;
      alarms = h.alarms;
      threads = omega (arith, length_push plan.threads thread, room);
      typed = h.typed;
      moved = moved_more (many_of plan) more grows plan.movers h.moved;
      signalled = signalled_more (many_of plan) more grows plan.alarms h.signalled;
      programs = all_push (IsProgramOf more) plan.threads thread (programs_more (many_of plan) more grows plan.threads h.programs) (omega arith, tt);
    }

thread_kept : (version : Version) (name : List ℕ) (d next : Draft) → IsDraft d → added version (line.Thread name) d ≡ Ok next → IsDraft next
unfolding added
thread_kept version name d next h e =
    let plan = with_thread name d.plan in
    let names = with_name kind.Thread name d.names in
    let grows = threads_grow name d.plan in
    let going = Some (count_of kind.Thread d.names) in
    let a = bind_ok (room_of version kind.Thread d.names) (λ room. Ok (record d { plan = plan; names = names; going = going })) next e in
    let same : record d { plan = plan; names = names; going = going } ≡ next = cc (a.2) in
    subst IsDraft same (record {
      plan = thread_fits name d.plan h.plan (has_room version kind.Thread d.names d.plan a.0 (h.counted kind.Thread) a.1);
      counted = counted_one kind.Thread name d.names d.plan plan grows h.counted;
    })

-- as many of each kind
abbrev Stays : Plan → Plan → Type 0
Stays plan next = (k : Kind) → many_of next k ≡ many_of plan k

no_less : (plan next : Plan) → Stays plan next → Grows (many_of plan) (many_of next)
no_less plan next stays k = omega (arith, stays k)

-- a plan with other names' numbers as they were
plan_changed : (d : Draft) (plan : Plan) (going : Option ℕ) → IsDraft d → Stays d.plan plan → IsPlan plan → IsDraft (record d { plan = plan; going = going })
plan_changed d plan going h stays fits = record {
  plan = fits;
  counted = λ k. h.counted k ∙ sym (stays k);
}

-- an alarm more
abbrev with_alarm : Alarm → Plan → Plan
with_alarm alarm plan = record plan { alarms = plan.alarms ++ alarm ∷ [] }

alarms_stay : (alarm : Alarm) (plan : Plan) → Stays plan (with_alarm alarm plan)
alarms_stay alarm plan kind.Queue = refl
alarms_stay alarm plan kind.Tty = refl
alarms_stay alarm plan kind.Mover = refl
alarms_stay alarm plan kind.Gauge = refl
alarms_stay alarm plan kind.Thread = refl

alarm_fits : (alarm : Alarm) (plan : Plan) → IsPlan plan → length plan.alarms + 1 ≤ 16 → IsAlarmOf (many_of plan) alarm → IsPlan (with_alarm alarm plan)
alarm_fits alarm plan h room said =
    let more = many_of (with_alarm alarm plan) in
    let grows = no_less plan (with_alarm alarm plan) (alarms_stay alarm plan) in
    record {
      queues = h.queues;
      ttys = h.ttys;
      movers = h.movers;
      gauges = h.gauges;
      alarms = omega (arith, length_push plan.alarms alarm, room);
      threads = h.threads;
      typed = h.typed;
      moved = moved_more (many_of plan) more grows plan.movers h.moved;
      signalled = all_push (IsAlarmOf more) plan.alarms alarm (signalled_more (many_of plan) more grows plan.alarms h.signalled) (below_more (many_of plan) more kind.Thread alarm.element grows said);
      programs = programs_more (many_of plan) more grows plan.threads h.programs;
    }

alarm_kept : (version : Version) (alarm : Alarm) (d next : Draft) → IsDraft d → IsAlarmOf (many_of d.plan) alarm → added version (line.Alarm alarm) d ≡ Ok next → IsDraft next
unfolding added
alarm_kept version alarm d next h said e =
    let plan = with_alarm alarm d.plan in
    let a = bind_ok (alarm_room d.plan.alarms) (λ room. Ok (record d { plan = plan })) next e in
    let same : record d { plan = plan } ≡ next = cc (a.2) in
    let test : nat_lt (length d.plan.alarms) 16 ≡ true = room_ok (nat_lt (length d.plan.alarms) 16) _ a.0 a.1 in
    let room : length d.plan.alarms + 1 ≤ 16 = grind (arith, nat_tests) in
    subst IsDraft same (plan_changed d plan d.going h (alarms_stay alarm d.plan) (alarm_fits alarm d.plan h.plan room said))

length_changed : {A : Type 0} (change : A → A) (xs : List A) (place : ℕ) → length (change_at change xs place) ≡ length xs
length_changed change [] place = refl
length_changed change (x ∷ xs) zero = omega arith
length_changed change (x ∷ xs) (suc place) = omega (arith, length_changed change xs place)

-- what holds of all items holds of them with one changed
all_changed : {A : Type 0} (P : A → Type 0) (change : A → A) (xs : List A) (place : ℕ) → AllByRecursion P xs → ((x : A) → slice_get xs place ≡ Some x → P x → P (change x)) → AllByRecursion P (change_at change xs place)
all_changed P change [] place all made = tt
all_changed P change (x ∷ xs) zero all made = (made x refl all.0, all.1)
all_changed P change (x ∷ xs) (suc place) all made = (all.0, all_changed P change xs place all.1 made)

-- more that a device types
abbrev with_typed : ℕ → List ℕ → Plan → Plan
with_typed tty text plan = record plan { ttys = change_at (with_text text) plan.ttys tty }

typed_stays : (tty : ℕ) (text : List ℕ) (plan : Plan) → Stays plan (with_typed tty text plan)
typed_stays tty text plan kind.Queue = refl
typed_stays tty text plan kind.Tty = length_changed (with_text text) plan.ttys tty
typed_stays tty text plan kind.Mover = refl
typed_stays tty text plan kind.Gauge = refl
typed_stays tty text plan kind.Thread = refl

text_fits : (text : List ℕ) (ttys : List PlannedTty) (tty : ℕ) → length (typed_at ttys tty) + length text ≤ 1024 → (x : PlannedTty) → slice_get ttys tty ≡ Some x → IsTyped (with_text text x)
text_fits text ttys tty room x here =
    let typed : length (typed_at ttys tty) ≡ length x.typed = ap (λ found. length (typed_in found)) here in
    omega (arith, length-append x.typed text, typed, room)

typed_fits : (tty : ℕ) (text : List ℕ) (plan : Plan) → IsPlan plan → length (typed_at plan.ttys tty) + length text ≤ 1024 → IsPlan (with_typed tty text plan)
typed_fits tty text plan h room =
    let more = many_of (with_typed tty text plan) in
    let grows = no_less plan (with_typed tty text plan) (typed_stays tty text plan) in
    record {
      queues = h.queues;
      ttys = omega (arith, length_changed (with_text text) plan.ttys tty, h.ttys);
      movers = h.movers;
      gauges = h.gauges;
      alarms = h.alarms;
      threads = h.threads;
      typed = all_changed IsTyped (with_text text) plan.ttys tty h.typed (λ x here k. text_fits text plan.ttys tty room x here);
      moved = moved_more (many_of plan) more grows plan.movers h.moved;
      signalled = signalled_more (many_of plan) more grows plan.alarms h.signalled;
      programs = programs_more (many_of plan) more grows plan.threads h.programs;
    }

types_kept : (version : Version) (tty : ℕ) (text : List ℕ) (d next : Draft) → IsDraft d → added version (line.Types tty text) d ≡ Ok next → IsDraft next
unfolding added
types_kept version tty text d next h e =
    let plan = with_typed tty text d.plan in
    let count = length (typed_at d.plan.ttys tty) + length text in
    let a = bind_ok (text_room count) (λ room. Ok (record d { plan = plan })) next e in
    let same : record d { plan = plan } ≡ next = cc (a.2) in
    let test : nat_le (length (typed_at d.plan.ttys tty) + length text) 1024 ≡ true = room_ok (nat_le count 1024) _ a.0 a.1 in
    let room : length (typed_at d.plan.ttys tty) + length text ≤ 1024 = grind (arith, nat_tests) in
    subst IsDraft same (plan_changed d plan d.going h (typed_stays tty text d.plan) (typed_fits tty text d.plan h.plan room))

-- a step more
abbrev with_program : Step → ℕ → Plan → Plan
with_program one thread plan = record plan { threads = change_at (with_step one) plan.threads thread }

programs_stay : (one : Step) (thread : ℕ) (plan : Plan) → Stays plan (with_program one thread plan)
programs_stay one thread plan kind.Queue = refl
programs_stay one thread plan kind.Tty = refl
programs_stay one thread plan kind.Mover = refl
programs_stay one thread plan kind.Gauge = refl
programs_stay one thread plan kind.Thread = length_changed (with_step one) plan.threads thread

program_fits : (many : Kind → ℕ) (one : Step) (threads : List PlannedThread) (thread : ℕ) → length (steps_at threads thread) + 1 ≤ 64 → IsStepOf many one → (x : PlannedThread) → slice_get threads thread ≡ Some x → IsProgramOf many x → IsProgramOf many (with_step one x)
program_fits many one threads thread room said x here k =
    let steps : length (steps_at threads thread) ≡ length x.steps = ap (λ found. length (steps_in found)) here in
    (omega (arith, length_push x.steps one, steps, room), all_push (IsStepOf many) x.steps one k.1 said)

step_fits : (one : Step) (thread : ℕ) (plan : Plan) → IsPlan plan → length (steps_at plan.threads thread) + 1 ≤ 64 → IsStepOf (many_of plan) one → IsPlan (with_program one thread plan)
step_fits one thread plan h room said =
    let more = many_of (with_program one thread plan) in
    let grows = no_less plan (with_program one thread plan) (programs_stay one thread plan) in
    record {
      queues = h.queues;
      ttys = h.ttys;
      movers = h.movers;
      gauges = h.gauges;
      alarms = h.alarms;
      threads = omega (arith, length_changed (with_step one) plan.threads thread, h.threads);
      typed = h.typed;
      moved = moved_more (many_of plan) more grows plan.movers h.moved;
      signalled = signalled_more (many_of plan) more grows plan.alarms h.signalled;
      programs = all_changed (IsProgramOf more) (with_step one) plan.threads thread (programs_more (many_of plan) more grows plan.threads h.programs)
          (program_fits more one plan.threads thread room (step_more (many_of plan) more grows one said));
    }

step_kept : (one : Step) (going : Option ℕ) (d next : Draft) → IsDraft d → IsStepOf (many_of d.plan) one → add_step one going d ≡ Ok next → IsDraft next
step_kept one None d next h said e = let same : d ≡ next = cc in subst IsDraft same h
step_kept one (Some thread) d next h said e =
    let plan = with_program one thread d.plan in
    let a = bind_ok (step_room (steps_at d.plan.threads thread)) (λ room. Ok (record d { plan = plan })) next e in
    let same : record d { plan = plan } ≡ next = cc (a.2) in
    let test : nat_lt (length (steps_at d.plan.threads thread)) 64 ≡ true = room_ok (nat_lt (length (steps_at d.plan.threads thread)) 64) _ a.0 a.1 in
    let room : length (steps_at d.plan.threads thread) + 1 ≤ 64 = grind (arith, nat_tests) in
    subst IsDraft same (plan_changed d plan d.going h (programs_stay one thread d.plan) (step_fits one thread d.plan h.plan room said))

-- what a line says keeps the limits
added_kept : (version : Version) (said : Line) (d next : Draft) → IsDraft d → IsLineOf (many_of d.plan) said → added version said d ≡ Ok next → IsDraft next
unfolding added
added_kept version (line.Queue queue) d next h said e = queue_kept version queue d next h e
added_kept version (line.Tty name) d next h said e = tty_kept version name d next h e
added_kept version (line.Types tty text) d next h said e = types_kept version tty text d next h e
added_kept version (line.Mover mover) d next h said e = mover_kept version mover d next h said e
added_kept version (line.Gauge name) d next h said e = gauge_kept version name d next h e
added_kept version (line.Alarm alarm) d next h said e = alarm_kept version alarm d next h said e
added_kept version (line.Thread name) d next h said e = thread_kept version name d next h e
added_kept version (line.More thread) d next h said e =
    let same : record d { going = Some thread } ≡ next = cc in
    subst IsDraft same (plan_changed d d.plan (Some thread) h (λ k. refl) h.plan)
added_kept version (line.Step one) d next h said e = step_kept one d.going d next h said e

line_kept : (version : Version) (bytes : List ℕ) (d next : Draft) → IsOrdered d → IsDraft d → line_added version bytes d ≡ Ok next → IsOrdered next × IsDraft next
unfolding line_added
line_kept version bytes d next order h e =
    let going = goes_on d.going in
    let a = bind_ok (boot_line version d.names going bytes) (λ said. added version said d) next e in
    let fits = (boot_line_ok version d.names going bytes a.0 order a.1).0 in
    let there = line_there version d.names going a.0 (many_of d.plan) (λ k. omega (arith, h.counted k)) fits in
    (added_in_order version going a.0 d next order fits a.2, added_kept version a.0 d next h there a.2)

plan_from_kept : (version : Version) (number : ℕ) (lines : List (List ℕ)) (d last : Draft) → IsOrdered d → IsDraft d → plan_from version number lines d ≡ Ok last → IsOrdered last × IsDraft last
unfolding plan_from
plan_from_kept version number [] d last order h e =
    let same : d ≡ last = cc in
    (subst IsOrdered same order, subst IsDraft same h)
plan_from_kept version number (bytes ∷ lines) d last order h e =
    elim (chosen (says_nothing bytes) (plan_from version (number + 1) lines d) _ (Ok last) e) [
      | inl p ↦ plan_from_kept version (number + 1) lines d last order h p.1
      | inr p ↦
          let a = bind_ok (at_line number (line_added version bytes d)) (λ next. plan_from version (number + 1) lines next) last p.1 in
          let k = line_kept version bytes d a.0 order h (at_line_ok number (line_added version bytes d) a.0 a.1) in
          plan_from_kept version (number + 1) lines a.0 last k.0 k.1 a.2
    ]

none_counted : (kind : Kind) → count_of kind [] ≡ many_of no_plan kind
none_counted kind.Queue = refl
none_counted kind.Tty = refl
none_counted kind.Mover = refl
none_counted kind.Gauge = refl
none_counted kind.Thread = refl

nothing_said : IsDraft first_draft
nothing_said = record {
  plan = record {
    queues = omega arith;
    ttys = omega arith;
    movers = omega arith;
    gauges = omega arith;
    alarms = omega arith;
    threads = omega arith;
    typed = tt;
    moved = tt;
    signalled = tt;
    programs = tt;
  };
  counted = none_counted;
}

-- what lines say is within the limits
pub draft_within : (version : Version) (number : ℕ) (lines : List (List ℕ)) (d : Draft) → plan_from version number lines first_draft ≡ Ok d → IsPlan d.plan
draft_within version number lines d h = (plan_from_kept version number lines first_draft d tt nothing_said h).1.plan

-- names are in order after all lines
pub draft_in_order : (version : Version) (number : ℕ) (lines : List (List ℕ)) (d : Draft) → plan_from version number lines first_draft ≡ Ok d → AreInOrder d.names
draft_in_order version number lines d h = (plan_from_kept version number lines first_draft d tt nothing_said h).0

pub plan_only_ok : (said : Result Draft ScriptFault) (plan : Plan) → plan_only said ≡ Ok plan → (d : Draft) × (said ≡ Ok d) × (d.plan ≡ plan)
plan_only_ok (Ok d) plan h = (d, refl, cc)
plan_only_ok (Err fault) plan h = absurd (cc)

-- what a text says is within the limits
pub plan_within : (text : List ℕ) (plan : Plan) → text_plan text ≡ Ok plan → IsPlan plan
unfolding text_plan
plan_within text plan h =
    let o = bind_ok (opening_of Boot text) (λ opening. plan_only (plan_from opening.0 2 opening.1 first_draft)) plan h in
    let p = plan_only_ok (plan_from o.0.0 2 o.0.1 first_draft) plan o.2 in
    subst IsPlan p.2 (draft_within o.0.0 2 o.0.1 p.0 p.1)
