use Rattle.claim_queue.proofs.Common.{rules, arith, refl, sym, subst, ◌<◌, ℕ, length, get_or-set_same, length-set, blank, with_stage, places_of, run_of}
use Rattle.claim_queue.proofs.Raising.{places_length, next_place, own_changed, raised_on, others_raised, own_after}
use Rattle.claim_queue.proofs.ends.ClaimQueue.raise_place.Goals as goal

pub store_data-requires-clause-mine : goal.store_data-requires-clause-mine
store_data-requires-clause-mine g c = let xs = c.args.items.now in let r : ℕ = c.args.index in let long = places_length xs r in let below = c.requires.below in (run_of c.args.start xs r, c.requires.owns.0, refl, omega arith, next_place xs r below)

pub store_flag-requires-clause-mine : goal.store_flag-requires-clause-mine
store_flag-requires-clause-mine g c = let xs = c.args.items.now in let r : ℕ = c.args.index in let long = places_length xs r in let below = c.requires.below in let e = run_of c.args.start xs r in let there : r < length (places_of xs r) = omega arith in let f = with_stage e r 1 in
    (_, (f, own_changed c.args.end.now.seat.me.0 c.store_data.new.seat.me.0 e f c.requires.owns.0 refl (c.store_data.ensures.wrote e c.requires.owns.0 refl).3.made.did, refl, subst (λ (z : ℕ). r < z) (sym (length-set (places_of xs r) r _)) there, get_or-set_same (places_of xs r) r _ blank there))

pub returns : goal.returns
returns g c = let own = c.requires.owns.0 in let raised = raised_on g.row.N _ _ _ c.args.start c.args.index c.args.items.now own c.requires.below c.store_data.ensures.wrote c.store_flag.ensures.wrote in record {
  owns = own_after g.row.N _ _ _ _ _ own raised;
  trace = raised;
  frame = others_raised g.row.N _ _ _ _ _ own raised;
  handle = search rules;
}
