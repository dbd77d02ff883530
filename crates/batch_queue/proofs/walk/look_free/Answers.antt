use Rattle.batch_queue.proofs.Growing.{grows_trans}
use Rattle.batch_queue.proofs.Common.{arith, false}
use Rattle.batch_queue.proofs.Looking.{exact_look, looked_once, looked_help, none_given, passed_look}
use Rattle.batch_queue.proofs.walk.look_free.Goals as goal

pub returns-then-new-free-clause-trace : goal.returns-then-new-free-clause-trace
returns-then-new-free-clause-trace g c = looked_once _ _ _ _ _ c.load_free-free.ensures.found c.if-new-free.true

pub returns-clause-trace : goal.returns-clause-trace
returns-clause-trace g c = let f = c.if-new-free.false in looked_help _ _ _ _ _ _ _ _ c.load_free-free.ensures.found (omega arith) c.help.ensures.trace

pub returns-clause-result : goal.returns-clause-result
returns-clause-result g c = let f = c.load_free-free.ensures in let g = f.found.grows.freed in let is = f.free.0 in λ still full near. exact_look c.args.room c.args.new _ _ false _ _ _ f.found (c.help.ensures.result still (omega arith))

pub help-requires-clause-started : goal.help-requires-clause-started
help-requires-clause-started g c = none_given _ _ _ c.load_free-free.ensures.found

pub returns-clause-passed : goal.returns-clause-passed
returns-clause-passed g c = λ moved. passed_look _ _ _ _ _ c.load_free-free.ensures.found (c.help.ensures.passed moved)

pub returns-clause-grows : goal.returns-clause-grows
returns-clause-grows g c = grows_trans _ _ _ c.load_free-free.ensures.found.grows c.help.ensures.grows
