use Rattle.synth_kernel.proofs.Common.{◌∷◌, [], length, length-append, Ok, ap, arith, processed_in, served_in}
use Rattle.synth_kernel.proofs.gathering.sort_back.Goals as goal

pub push_reserved-requires : goal.push_reserved-requires
push_reserved-requires g c =
    let room = c.requires.processed in
    let long = length-append c.args.processed.now.items (processed_in (Ok c.args.back ∷ [])) in
    let one = ap (λ z. length (processed_in (Ok z ∷ []))) c.in-Processed.is in
    let len = c.args.processed.now.ok.0 in
    omega arith

pub push_reserved-requires-in-Served : goal.push_reserved-requires-in-Served
push_reserved-requires-in-Served g c =
    let room = c.requires.served in
    let long = length-append c.args.served.now.items (served_in (Ok c.args.back ∷ [])) in
    let one = ap (λ z. length (served_in (Ok z ∷ []))) c.in-Served.is in
    let len = c.args.served.now.ok.0 in
    omega arith
