-- The names of a draft stay in order.
use Rattle.boot_script.proofs.Common.{◌≡◌, ℕ, ◌+◌, List, [], ◌∷◌, ◌++◌, refl, subst, length, Bool, Option, Some, None, Ok, Line, Kind, Named, Step, Version, count_of, room_of, with_name, steps_at, Draft, typed_at, change_at, with_text, with_step, text_room, alarm_room, step_room, add_step, added, AreInOrder, IsNew, FitsLine}
use Rattle.boot_script.specs.declared.boot_lines.Line.TheVariants as line
use Rattle.boot_data.specs.declared.kind.Kind.TheVariants as kind
use Rattle.boot_script.proofs.Basics.Binds.{bind_ok}
use Rattle.boot_script.proofs.Drafts.NameOrder.{push_in_order}

-- a new name keeps names in order
named_in_order : (kind : Kind) (name : List ℕ) (names : List Named) → AreInOrder names → IsNew names name → AreInOrder (with_name kind name names)
named_in_order kind name names order new = push_in_order [] names (record { name = name; kind = kind; number = count_of kind names }) order new.0 new.1 refl

-- the names of a draft are in order
abbrev pub IsOrdered : Draft → Type 0
IsOrdered d = AreInOrder d.names

step_in_order : (one : Step) (going : Option ℕ) (d next : Draft) → IsOrdered d → add_step one going d ≡ Ok next → IsOrdered next
step_in_order one None d next order e = let same : d ≡ next = cc in subst IsOrdered same order
step_in_order one (Some thread) d next order e =
    let plan = record d.plan { threads = change_at (with_step one) d.plan.threads thread } in
    let a = bind_ok (step_room (steps_at d.plan.threads thread)) (λ room. Ok (record d { plan = plan })) next e in
    let same : record d { plan = plan } ≡ next = cc (a.2) in
    subst IsOrdered same order

-- what is added keeps names in order
pub added_in_order : (version : Version) (going : Bool) (said : Line) (d next : Draft) → IsOrdered d → FitsLine version d.names going said → added version said d ≡ Ok next → IsOrdered next
unfolding added
added_in_order version going (line.Queue queue) d next order h e =
    let plan = record d.plan { queues = d.plan.queues ++ queue ∷ [] } in
    let names = with_name kind.Queue queue.name d.names in
    let a = bind_ok (room_of version kind.Queue d.names) (λ room. Ok (record d { plan = plan; names = names })) next e in
    let same : record d { plan = plan; names = names } ≡ next = cc (a.2) in
    subst IsOrdered same (named_in_order kind.Queue queue.name d.names order h.0)
added_in_order version going (line.Tty name) d next order h e =
    let plan = record d.plan { ttys = d.plan.ttys ++ record { name = name; typed = [] } ∷ [] } in
    let names = with_name kind.Tty name d.names in
    let a = bind_ok (room_of version kind.Tty d.names) (λ room. Ok (record d { plan = plan; names = names })) next e in
    let same : record d { plan = plan; names = names } ≡ next = cc (a.2) in
    subst IsOrdered same (named_in_order kind.Tty name d.names order h)
added_in_order version going (line.Types tty text) d next order h e =
    let plan = record d.plan { ttys = change_at (with_text text) d.plan.ttys tty } in
    let a = bind_ok (text_room (length (typed_at d.plan.ttys tty) + length text)) (λ room. Ok (record d { plan = plan })) next e in
    let same : record d { plan = plan } ≡ next = cc (a.2) in
    subst IsOrdered same order
added_in_order version going (line.Mover mover) d next order h e =
    let plan = record d.plan { movers = d.plan.movers ++ mover ∷ [] } in
    let names = with_name kind.Mover mover.name d.names in
    let a = bind_ok (room_of version kind.Mover d.names) (λ room. Ok (record d { plan = plan; names = names })) next e in
    let same : record d { plan = plan; names = names } ≡ next = cc (a.2) in
    subst IsOrdered same (named_in_order kind.Mover mover.name d.names order h.0)
added_in_order version going (line.Gauge name) d next order h e =
    let plan = record d.plan { gauges = d.plan.gauges ++ name ∷ [] } in
    let names = with_name kind.Gauge name d.names in
    let a = bind_ok (room_of version kind.Gauge d.names) (λ room. Ok (record d { plan = plan; names = names })) next e in
    let same : record d { plan = plan; names = names } ≡ next = cc (a.2) in
    subst IsOrdered same (named_in_order kind.Gauge name d.names order h)
added_in_order version going (line.Alarm alarm) d next order h e =
    let plan = record d.plan { alarms = d.plan.alarms ++ alarm ∷ [] } in
    let a = bind_ok (alarm_room d.plan.alarms) (λ room. Ok (record d { plan = plan })) next e in
    let same : record d { plan = plan } ≡ next = cc (a.2) in
    subst IsOrdered same order
added_in_order version going (line.Thread name) d next order h e =
    let plan = record d.plan { threads = d.plan.threads ++ record { name = name; steps = [] } ∷ [] } in
    let names = with_name kind.Thread name d.names in
    let thread = Some (count_of kind.Thread d.names) in
    let a = bind_ok (room_of version kind.Thread d.names) (λ room. Ok (record d { plan = plan; names = names; going = thread })) next e in
    let same : record d { plan = plan; names = names; going = thread } ≡ next = cc (a.2) in
    subst IsOrdered same (named_in_order kind.Thread name d.names order h)
added_in_order version going (line.More thread) d next order h e =
    let same : record d { going = Some thread } ≡ next = cc in
    subst IsOrdered same order
added_in_order version going (line.Step one) d next order h e = step_in_order one d.going d next order e
