use Rattle.batch_queue.proofs.Common.{arith, refl, rules, ◌∙◌}
use Rattle.batch_queue.specs.Walks.{LeadsOn}
use Rattle.batch_queue.proofs.Growing.{grows_refl, grows_trans}
use Rattle.batch_queue.proofs.Walking.{still_seated, starts_grows, passed_grows, passed_more, follows_none, follows_more, followed_all, followed_stop, stopped_at, stopped_up}
use Rattle.batch_queue.proofs.walk.walk.Goals.{then-not-leads_on-via-then-not-leads_on, then-not-leads_on-via-else-not-leads_on+then-mark-most}
use Rattle.batch_queue.proofs.walk.walk.Goals as goal

pub loop-at-init : goal.loop-at-init
loop-at-init g c = let b = c.requires.from in record { same = (refl, refl); stays = (refl, refl, c.requires.ruled); grows = grows_refl _; slots = refl; seated = c.requires.queue; on = omega arith; most = b.1; starts = b.2; passed = c.requires.passed; follows = follows_none _ _ _ _ _ }

pub returns-then-not-leads_on-clause-passed : goal.returns-then-not-leads_on-clause-passed
returns-then-not-leads_on-clause-passed g c = let l = c.loop-at.invariant in passed_grows c.args.parity _ _ _ _ c.load_mark-mark.ensures.found.grows l.passed

pub returns-then-not-leads_on-clause-trace : goal.returns-then-not-leads_on-clause-trace
returns-then-not-leads_on-clause-trace g c = let l = c.loop-at.invariant in
    followed_stop _ _ _ _ _ _ _ _ _ l.follows c.load_mark-mark.ensures.found c.loop-at-test.true (elim c.then-not-leads_on.branch [ then-not-leads_on-via-then-not-leads_on w ↦ (let n : (LeadsOn c.args.parity c.loop-at.at c.load_mark-mark.result → ⊥) = search rules in λ on far. n on) | then-not-leads_on-via-else-not-leads_on+then-mark-most w ↦ (let m = w.if-mark-most.true in λ on far. omega arith) ])

pub returns-clause-trace : goal.returns-clause-trace
returns-clause-trace g c = let l = c.loop-at.invariant in let f = c.loop-at-test.false in let m = l.most in followed_all _ _ _ _ _ _ _ l.follows (omega arith)

pub loop-at-preserved : goal.loop-at-preserved
loop-at-preserved g c = let l = c.loop-at.invariant in let f = c.load_mark-mark.ensures.found in let q = c.load_mark-mark.ensures.queue in let far = c.if-mark-most.false in
    let on : LeadsOn c.args.parity c.loop-at.at c.load_mark-mark.result = search rules in
    let seated = still_seated _ _ _ _ l.seated q.0 q.1 in let from = l.on in let past = on.1 in let b = c.requires.from in let b0 = b.0 in record {
      same = (q.0.0 ∙ l.same.0, q.0.1 ∙ l.same.1);
      stays = (q.1.0 ∙ l.stays.0, q.1.1 ∙ l.stays.1, q.1.2);
      grows = grows_trans _ _ _ l.grows f.grows;
      slots = c.load_mark-mark.ensures.slots ∙ l.slots;
      seated = seated;
      on = omega arith;
      most = omega arith;
      starts = starts_grows c.args.parity _ _ _ f.grows l.starts;
      passed = passed_more c.args.parity c.args.room _ _ _ _ _ c.requires.parity (omega arith) l.starts l.passed f seated.rooms on;
      follows = follows_more _ _ _ _ _ _ _ _ _ l.follows f on (omega arith);
    }

pub returns-then-not-leads_on-clause-starts : goal.returns-then-not-leads_on-clause-starts
returns-then-not-leads_on-clause-starts g c = starts_grows c.args.parity _ _ _ c.load_mark-mark.ensures.found.grows c.loop-at.invariant.starts

pub returns-then-not-leads_on-clause-stopped : goal.returns-then-not-leads_on-clause-stopped
returns-then-not-leads_on-clause-stopped g c = let l = c.loop-at.invariant in λ odd all below.
    stopped_at _ _ _ _ _ _ _ _ _ _ odd all l.on c.requires.from.0 l.seated.rooms l.grows l.starts l.passed l.follows c.load_mark-mark.ensures.found (elim c.then-not-leads_on.branch [ then-not-leads_on-via-then-not-leads_on w ↦ (let n : (LeadsOn c.args.parity c.loop-at.at c.load_mark-mark.result → ⊥) = search rules in λ on far. n on) | then-not-leads_on-via-else-not-leads_on+then-mark-most w ↦ (let m = w.if-mark-most.true in λ on far. omega arith) ])

pub returns-then-not-leads_on-clause-stopped_up : goal.returns-then-not-leads_on-clause-stopped_up
returns-then-not-leads_on-clause-stopped_up g c = let l = c.loop-at.invariant in λ even below.
    stopped_up _ _ _ _ _ _ _ _ _ _ even l.on c.requires.from.0 l.seated.rooms l.grows l.passed l.follows c.load_mark-mark.ensures.found (elim c.then-not-leads_on.branch [ then-not-leads_on-via-then-not-leads_on w ↦ (let n : (LeadsOn c.args.parity c.loop-at.at c.load_mark-mark.result → ⊥) = search rules in λ on far. n on) | then-not-leads_on-via-else-not-leads_on+then-mark-most w ↦ (let m = w.if-mark-most.true in λ on far. omega arith) ])

pub returns-clause-stopped_up : goal.returns-clause-stopped_up
returns-clause-stopped_up g c = let f = c.loop-at-test.false in let m = c.loop-at.invariant.most in λ even below. absurd (omega arith)

pub returns-clause-stopped : goal.returns-clause-stopped
returns-clause-stopped g c = let f = c.loop-at-test.false in let m = c.loop-at.invariant.most in λ odd all below. absurd (omega arith)

pub returns-then-not-leads_on-clause-grows : goal.returns-then-not-leads_on-clause-grows
returns-then-not-leads_on-clause-grows g c = grows_trans _ _ _ c.loop-at.invariant.grows c.load_mark-mark.ensures.found.grows
