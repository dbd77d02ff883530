use Rattle.claim_queue.proofs.between.protocol_between_steps.Goals as goal

pub returns : goal.returns
returns g c = λ key state h. h.keeps
