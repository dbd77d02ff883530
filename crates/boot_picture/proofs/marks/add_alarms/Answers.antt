use Rattle.boot_picture.proofs.Common.{List, subst, sym, Shape, DrawsAbove}
use Rattle.boot_picture.proofs.Clears.{above_then, above_then_text}
use Rattle.boot_picture.proofs.marks.add_alarms.Goals as goal
use Rattle.boot_picture.proofs.marks.add_alarms.Goals.{then-not-is_empty+in_ok-words, else-not-is_empty}
use Rattle.boot_picture.proofs.marks.add_alarms.Goals.{in-Some-Some+then-not-is_empty-2+in_ok-add_alarm, in-Some-Some+else-not-is_empty-2, in-Some+in-None-1, in-None-1}

pub loop-placed-preserved : goal.loop-placed-preserved
loop-placed-preserved c =
    let side = c.args.frame.now.processors in
    let first = c.if-not-is_empty.canvas in
    let so_far = c.loop-placed.invariant in
    let drawn = λ (shapes : List Shape). DrawsAbove side first shapes in
    elim c.match-get.branch [
      | in-Some-Some+then-not-is_empty-2+in_ok-add_alarm w ↦ subst drawn (sym w.canvas-is) (above_then side first c.loop-placed.canvas w.add_alarm.new.canvas so_far w.in_ok-add_alarm.ensures)
      | in-Some-Some+else-not-is_empty-2 w ↦ subst drawn (sym w.canvas-is) so_far
      | in-Some+in-None-1 w ↦ subst drawn (sym w.canvas-is) so_far
      | in-None-1 w ↦ subst drawn (sym w.canvas-is) so_far
    ]

pub returns : goal.returns
returns c =
    let side = c.args.frame.now.processors in
    let old = c.args.canvas.now in
    let drawn = λ (shapes : List Shape). DrawsAbove side old shapes in
    let first : DrawsAbove side old c.if-not-is_empty.canvas = elim c.if-not-is_empty.branch [
      | then-not-is_empty+in_ok-words w ↦ subst drawn (sym w.canvas-is) (above_then_text side old old w.words.new.self _ (λ bottom all. all) w.in_ok-words.ensures (λ top bottom. tt))
      | else-not-is_empty w ↦ subst drawn (sym w.canvas-is) (λ bottom all. all)
    ] in
    above_then side old c.if-not-is_empty.canvas c.loop-placed.canvas first c.loop-placed.invariant
