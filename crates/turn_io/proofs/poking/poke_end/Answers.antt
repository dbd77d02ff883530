use Rattle.turn_io.proofs.Common.{[], refl, ap, subst, me_of, pact_of}
use Rattle.proc_chain.specs.Answers.{ChainedNow, is_run as chained_run}
use Rattle.proc_chain.specs.Handles.{view_of}
use Rattle.proc_chain.specs.Rules.{suits, makes}
use Rattle.quajects.specs.Anys.{MadeOf, Fits}
use Rattle.quajects.proofs.Noting.{none_lost, is_run, is_left}
use Rattle.turn_io.proofs.poking.poke_end.Goals as goal

pub returns-in-Run-clause-poked : goal.returns-in-Run-clause-poked
returns-in-Run-clause-poked g c = let me = me_of c.args.end.now in let s = c.serve_all-notes.ensures in
    is_run (makes MadeOf (pact_of c.args.chain.now)) (suits Fits (pact_of c.args.chain.now)) me me (me_of c.try_chain-answer.new.end) (me_of c.serve_all-notes.new.end) [] _ _ c.in-Run.turn c.in-Ok.chained c.in-Run.is (none_lost me.0) c.args.end.now.valid c.try_chain-answer.new.end.valid c.in-Ok.ensures.trace c.in-Ok.ensures.effect s.made s.trace s.slot

pub returns-in-Left-clause-poked : goal.returns-in-Left-clause-poked
returns-in-Left-clause-poked g c = let me = me_of c.args.end.now in
    is_left me me (me_of c.try_chain-answer.new.end) [] _ c.in-Ok.chained c.in-Left.is (none_lost me.0) refl (c.in-Ok.ensures.kept (ap chained_run c.in-Left.is)).1 c.in-Ok.ensures.trace

pub returns-in-Err-clause-poked : goal.returns-in-Err-clause-poked
returns-in-Err-clause-poked g c = (c.in-Err.ensures.trace, c.in-Err.ensures.turn.1)

pub returns-in-Run-clause-points : goal.returns-in-Run-clause-points
returns-in-Run-clause-points g c = record {
  tried = c.try_chain-answer.new.end;
  does = (c.in-Run.turn, subst (λ z. ChainedNow (view_of c.args.end.now) 0 z (view_of c.try_chain-answer.new.end)) c.in-Run.is c.in-Ok.ensures.trace);
  at_try = c.at_chain.ensures.shown;
}

pub returns-in-Left-clause-points : goal.returns-in-Left-clause-points
returns-in-Left-clause-points g c = record {
  tried = c.try_chain-answer.new.end;
  does = subst (λ z. ChainedNow (view_of c.args.end.now) 0 z (view_of c.try_chain-answer.new.end)) c.in-Left.is c.in-Ok.ensures.trace;
  at_try = c.at_chain.ensures.shown;
}

pub returns-in-Err-clause-points : goal.returns-in-Err-clause-points
returns-in-Err-clause-points g c = record {
  tried = c.try_chain-answer.new.end;
  does = c.in-Err.ensures.trace;
  at_try = c.at_chain.ensures.shown;
}
