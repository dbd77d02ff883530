use Rattle.quajects.proofs.Common.{rules, [], refl, ◌∙◌, suits, makes, MadeOf, Fits}
use Rattle.proc_chain.specs.Handles.{pact_of, me_of}
use Rattle.quajects.proofs.Noting.{none_lost, tries_more, noted_run, noted_left, noted_spent, noted_full}
use Rattle.quajects.proofs.raw.tell.Goals as goal

pub loop-init : goal.loop-init
loop-init g c = record {
  steps = search rules;
  mine = search rules;
  idle = search rules;
  same = search rules;
  held = refl;
  tried = ([], none_lost (me_of c.args.end.now).0);
}

pub returns-in-Ok-Run-clause-noted : goal.returns-in-Ok-Run-clause-noted
returns-in-Ok-Run-clause-noted g c = let t = c.loop.invariant.tried in let s = c.serve_all-ran.ensures in
    noted_run (makes MadeOf (pact_of c.args.chain.now)) (suits Fits (pact_of c.args.chain.now)) (me_of c.args.end.now) (me_of c.loop.end) (me_of c.try_chain.new.end) (me_of c.serve_all-ran.new.end) t.0 _ _ _ _ c.in-Ok-Run.field-0-is t.1 c.loop.end.valid c.try_chain.new.end.valid c.in-Ok-Run.ensures.trace c.in-Ok-Run.ensures.effect s.made s.trace s.slot

pub returns-in-Ok-Left-clause-noted : goal.returns-in-Ok-Left-clause-noted
returns-in-Ok-Left-clause-noted g c = let l = c.loop.invariant in
    noted_left (makes MadeOf (pact_of c.args.chain.now)) (suits Fits (pact_of c.args.chain.now)) (me_of c.args.end.now) (me_of c.loop.end) (me_of c.try_chain.new.end) l.tried.0 _ _ c.in-Ok-Left.field-0-is l.tried.1 l.held (c.in-Ok-Left.ensures.kept (search rules)).1 c.in-Ok-Left.ensures.trace c.in-Ok-Left.ensures.effect

pub loop-preserved : goal.loop-preserved
loop-preserved g c = let l = c.loop.invariant in record {
  steps = search rules;
  mine = search rules;
  idle = search rules;
  same = search rules;
  held = c.in-Err-Lost.ensures.turn.1 ∙ l.held;
  tried = tries_more _ _ _ l.tried.0 _ _ c.in-Err-Lost.field-0-is l.tried.1 c.in-Err-Lost.ensures.trace;
}

pub returns-in-Err-Spent-clause-noted : goal.returns-in-Err-Spent-clause-noted
returns-in-Err-Spent-clause-noted g c = let l = c.loop.invariant in
    noted_spent (makes MadeOf (pact_of c.args.chain.now)) (suits Fits (pact_of c.args.chain.now)) (me_of c.args.end.now) (me_of c.loop.end) (me_of c.try_chain.new.end) l.tried.0 _ _ c.in-Err-Spent.field-0-is l.tried.1 l.held c.in-Err-Spent.ensures.turn.1 c.in-Err-Spent.ensures.trace

pub returns-in-Err-Full-clause-noted : goal.returns-in-Err-Full-clause-noted
returns-in-Err-Full-clause-noted g c = let l = c.loop.invariant in
    noted_full (makes MadeOf (pact_of c.args.chain.now)) (suits Fits (pact_of c.args.chain.now)) (me_of c.args.end.now) (me_of c.loop.end) (me_of c.try_chain.new.end) l.tried.0 _ _ _ _ c.in-Err-Full.field-0-is l.tried.1 l.held c.in-Err-Full.ensures.turn.1 c.in-Err-Full.ensures.trace
