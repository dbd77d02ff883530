use Rattle.proc_chain.proofs.Common.{rules, arith, ◌≡◌, raised_word}
use Rattle.proc_chain.proofs.Stepping.{raises_place}
use Rattle.proc_chain.proofs.steps.store_place.Goals as goal

pub store-requires : goal.store-requires
store-requires g c = let m = c.requires.mine in let fits = c.ranges.note.fits in let w = c.raised.ensures in let b = c.bits-word.ensures in
    (search rules, search rules, raises_place _ _ _ _ _ _ _ _ _ m.0 c.requires.live m.1 m.2 m.3 m.4 (search rules) (omega arith) (omega arith))

pub returns-clause-raised : goal.returns-clause-raised
returns-clause-raised g c = λ e has. let w = c.raised.ensures in let b = c.bits-word.ensures in let stored : c.bits-word.result ≡ raised_word c.args.start c.args.note = omega arith in c.store.ensures.2.1 c.args.start c.args.note e c.ranges.note.fits stored c.place_word.ensures has
