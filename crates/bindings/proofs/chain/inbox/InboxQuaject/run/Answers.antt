use Rattle.std.proofs.Common.{sym}
use Rattle.bindings.proofs.Handing.{last_on}
use Rattle.bindings.proofs.chain.inbox.InboxQuaject.run.Goals as goal

pub returns-clause-made : goal.returns-clause-made
returns-clause-made c = λ first notes was. sym (last_on first.note notes c.args.note)
