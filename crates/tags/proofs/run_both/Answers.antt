use Rattle.std.proofs.Common.{rules}
use Rattle.tags.specs.Handles.{view_of}
use Rattle.tags.proofs.Working.{more_less, same_holds}
use Rattle.tags.proofs.run_both.Goals as goal

pub give_back-requires-4 : goal.give_back-requires-4
give_back-requires-4 g c =
    let same = more_less (view_of c.take-3.new.holder) (view_of c.take-4.new.holder) (view_of c.give_back-3.new.holder) c.in-Ok-take-4.fourth c.in-Ok-take-4.ensures.effect.more c.give_back-3.ensures.effect in
    let h = same_holds (view_of c.take-3.new.holder) (view_of c.give_back-3.new.holder) c.in-Ok-take-3.third same c.in-Ok-take-3.ensures.holds in (search rules, (search rules, (c.give_back-3.ensures.pool, h)))
