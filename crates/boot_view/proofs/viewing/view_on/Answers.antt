use Rattle.std.proofs.Common.{rules}
use Rattle.boot_view.proofs.Answering.{viewed_read}
use Rattle.boot_view.proofs.viewing.view_on.Goals as goal

pub returns-in-Ok-clause-ok : goal.returns-in-Ok-clause-ok
returns-in-Ok-clause-ok g c = (
  c.in_ok-ended.page.items,
  viewed_read _ _ _ _ _ _ _ _ (g.I.Read.remaining c.args.reader.now) _ _ _ c.in_ok-filled.ensures.plan c.in_ok-ended.ensures.ok,
  search rules,
)
