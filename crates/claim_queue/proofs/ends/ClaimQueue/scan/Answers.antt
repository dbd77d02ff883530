use Rattle.claim_queue.proofs.Common.{rules, sym, ap, subst, ◌∙◌, ◌+◌, ℕ, List, arith, HasFound, IsScanned, IsLine, NoEnd}
use Rattle.claim_queue.proofs.Scanning.{found_look, is_line_end, found_more, scanned_more, stopped, no_end_push, found_small}
use Rattle.claim_queue.proofs.ends.ClaimQueue.scan.Goals as goal

pub returns-then-flag-position-clause-trace : goal.returns-then-flag-position-clause-trace
returns-then-flag-position-clause-trace g c = let l = c.loop-i.invariant in let long = l.long in let below = c.loop-i-test.true in
    (stopped _ _ _ _ _ _ _ _ (omega arith) l.scanned c.load_flag-flag.ensures.found c.if-flag-position.true (c.load_flag-flag.ensures.not_mine c.if-flag-position.true), (l.no_end, omega arith))

pub returns-then-item-eq10-clause-found : goal.returns-then-item-eq10-clause-found
returns-then-item-eq10-clause-found g c = let l = c.loop-i.invariant in let long = l.long in
    subst (HasFound _ _) (sym c.push.ensures.items) (found_more _ _ _ _ _ _ _ _ _ _ (omega arith) l.found c.load_flag-flag.ensures.found c.load_data-item.ensures.found (c.load_flag-flag.ensures.raised c.if-flag-position.false) c.load_data-item.ensures.item)

pub returns-then-item-eq10-clause-trace : goal.returns-then-item-eq10-clause-trace
returns-then-item-eq10-clause-trace g c = let l = c.loop-i.invariant in let long = l.long in let i = sym c.push.ensures.items in (
  subst (λ (z : List ℕ). IsScanned g.row.N c.args.end.now.seat.me.0 c.args.tail z c.load_data-item.new.seat.me.0) i (scanned_more _ _ _ _ _ _ _ _ _ _ (omega arith) l.scanned c.load_flag-flag.ensures.found c.if-flag-position.false c.load_data-item.ensures.found),
  subst (IsLine g.row.N) i (is_line_end _ _ _ l.no_end c.if-item-eq10.true),
)

pub loop-i-preserved : goal.loop-i-preserved
loop-i-preserved g c = let l = c.loop-i.invariant in let long = l.long in let i = sym c.push.ensures.items in record {
  same = search rules;
  found = subst (HasFound _ _) i (found_more _ _ _ _ _ _ _ _ _ _ (omega arith) l.found c.load_flag-flag.ensures.found c.load_data-item.ensures.found (c.load_flag-flag.ensures.raised c.if-flag-position.false) c.load_data-item.ensures.item);
  scanned = subst (λ (z : List ℕ). IsScanned g.row.N c.args.end.now.seat.me.0 c.args.tail z c.load_data-item.new.seat.me.0) i (scanned_more _ _ _ _ _ _ _ _ _ _ (omega arith) l.scanned c.load_flag-flag.ensures.found c.if-flag-position.false c.load_data-item.ensures.found);
  long = c.push.ensures.len ∙ ap (λ (z : ℕ). z + 1) l.long;
  no_end = subst NoEnd i (no_end_push _ _ l.no_end c.if-item-eq10.false);
}

pub returns-then-flag-position-clause-short : goal.returns-then-flag-position-clause-short
returns-then-flag-position-clause-short g c = λ _. found_small _ _ _ _ _ _ c.load_flag-flag.ensures.found (found_look _ _ _ _ _ _ c.load_flag-flag.ensures.found c.loop-i.invariant.found) c.requires.started.1

pub returns-then-flag-position-clause-found : goal.returns-then-flag-position-clause-found
returns-then-flag-position-clause-found g c = found_look _ _ _ _ _ _ c.load_flag-flag.ensures.found c.loop-i.invariant.found
