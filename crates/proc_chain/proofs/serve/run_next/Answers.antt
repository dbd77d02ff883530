use Rattle.proc_chain.proofs.Common.{ℕ, [], ◌∷◌, ap, sym, subst, refl, ◌∙◌, View, suits, makes}
use Rattle.proc_chain.specs.Rounds.{RanNote}
use Rattle.proc_chain.proofs.Finding.{tail_found, looks_found, seen_step, runner_on}
use Rattle.proc_chain.proofs.Rounds.{found_none, up_now, note_now, ran_one, ran_runner}
use Rattle.proc_chain.proofs.serve.run_next.Goals as goal

pub load_place-word-requires-clause-runner : goal.load_place-word-requires-clause-runner
load_place-word-requires-clause-runner g c = let t = c.load-tail.ensures in runner_on (makes g.Q.Quaject.made_by c.args.words.now.key.pact) (suits g.Q.Quaject.fits c.args.words.now.key.pact) c.args.seat.now.me c.load-tail.new.seat.me (looks_found _ _ _ _ t.found).seen t.frame.1.1 (λ i. (t.found.1.made.did i).runner) t.frame.1.0 c.requires.runner

pub load_place-word-requires-clause-tail : goal.load_place-word-requires-clause-tail
load_place-word-requires-clause-tail g c = tail_found _ _ _ c.load-tail.ensures.found

pub store_tail-taken-requires-clause-runner : goal.store_tail-taken-requires-clause-runner
store_tail-taken-requires-clause-runner g c = let t = c.load-tail.ensures in let p = c.load_place-word.ensures in let r = c.requires.runner in let b = p.up c.if-word-tail.false in let r' = runner_on (makes g.Q.Quaject.made_by c.args.words.now.key.pact) (suits g.Q.Quaject.fits c.args.words.now.key.pact) c.args.seat.now.me c.load-tail.new.seat.me (looks_found _ _ _ _ t.found).seen t.frame.1.1 (λ i. (t.found.1.made.did i).runner) t.frame.1.0 r in runner_on (makes g.Q.Quaject.made_by c.args.words.now.key.pact) (suits g.Q.Quaject.fits c.args.words.now.key.pact) c.load-tail.new.seat.me c.load_place-word.new.seat.me (looks_found _ _ _ _ b).seen p.frame.1.1 (λ i. (b.1.made.did i).runner) p.frame.1.0 r'

pub store_tail-taken-requires-clause-raised : goal.store_tail-taken-requires-clause-raised
store_tail-taken-requires-clause-raised g c = let t = c.load-tail.ensures in let p = c.load_place-word.ensures in let r = c.requires.runner in up_now _ _ _ _ _ r.runner r.taken_within t.found (tail_found _ _ _ t.found).0 p.note (p.up c.if-word-tail.false)

pub store_tail-taken-requires-clause-note : goal.store_tail-taken-requires-clause-note
store_tail-taken-requires-clause-note g c = let t = c.load-tail.ensures in let p = c.load_place-word.ensures in let r = c.requires.runner in note_now _ _ _ _ _ r.runner r.taken_within t.found (tail_found _ _ _ t.found).0 p.note (p.up c.if-word-tail.false)

pub returns-then-word-tail-clause-runner : goal.returns-then-word-tail-clause-runner
returns-then-word-tail-clause-runner g c = let t = c.load-tail.ensures in let p = c.load_place-word.ensures in let r = c.requires.runner in let low = (p.low c.if-word-tail.true).2 in let r' = runner_on (makes g.Q.Quaject.made_by c.args.words.now.key.pact) (suits g.Q.Quaject.fits c.args.words.now.key.pact) c.args.seat.now.me c.load-tail.new.seat.me (looks_found _ _ _ _ t.found).seen t.frame.1.1 (λ i. (t.found.1.made.did i).runner) t.frame.1.0 r in runner_on (makes g.Q.Quaject.made_by c.args.words.now.key.pact) (suits g.Q.Quaject.fits c.args.words.now.key.pact) c.load-tail.new.seat.me c.load_place-word.new.seat.me (seen_step _ _ _ _ low.1 refl) p.frame.1.1 (λ i. (low.1.made.did i).runner) p.frame.1.0 r'

pub returns-then-word-tail-clause-ran : goal.returns-then-word-tail-clause-ran
returns-then-word-tail-clause-ran g c = let t = c.load-tail.ensures in let p = c.load_place-word.ensures in let r = c.requires.runner in let low = p.low c.if-word-tail.true in found_none _ _ _ _ _ r.runner r.taken_within t.found t.frame.1.1 low.2 (λ e. c.if-word-tail.true (sym low.1 ∙ e))

pub returns-clause-ran : goal.returns-clause-ran
returns-clause-ran g c = let t = c.load-tail.ensures in let p = c.load_place-word.ensures in let r = c.requires.runner in subst (λ (z : View). RanNote c.args.seat.now.me.0 z) (sym c.run_held.ensures.queue.1) (_, _, _, _, _, ran_one _ _ _ _ _ r.runner r.taken_within t.found (tail_found _ _ _ t.found).0 p.note (p.up c.if-word-tail.false) _ c.store_tail-taken.ensures.took t.frame.1.1 p.frame.1.1)

pub returns-clause-runner : goal.returns-clause-runner
returns-clause-runner g c = let t = c.load-tail.ensures in let p = c.load_place-word.ensures in let r = c.requires.runner in let one = ran_one _ _ _ _ _ r.runner r.taken_within t.found (tail_found _ _ _ t.found).0 p.note (p.up c.if-word-tail.false) _ c.store_tail-taken.ensures.took t.frame.1.1 p.frame.1.1 in
    ran_runner (makes g.Q.Quaject.made_by c.args.words.now.key.pact) (suits g.Q.Quaject.fits c.args.words.now.key.pact) c.args.seat.now.me c.run_held.new.seat.me _ _ c.store_tail-taken.new.seat.me.1 c.run_held.ensures.queue.1 one (ap (λ (z : ℕ). z ∷ []) (sym c.store_tail-taken.ensures.taken.0)) c.store_tail-taken.ensures.frame.1.1 (c.store_tail-taken.ensures.frame.1.0 ∙ (p.frame.1.0 ∙ t.frame.1.0)) r c.run_held.ensures.ran
