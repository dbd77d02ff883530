use Rattle.bindings.proofs.Calls.{refl, sym, ap, subst, ◌∙◌, Ok, Err, Some, Done, of_kind, chain_in, at_value, unboxed}
use Rattle.bindings.specs.Handles.{Open, held_by, Chain}
use Rattle.bindings.specs.ChainCalls.{WasClosed, runs_none}
use Rattle.bindings.specs.ChainHeld.{Ended}
use Rattle.bindings.proofs.chain.synth_raw_chain_close.Goals as goal

pub returns-in-Ok-clause-closed : goal.returns-in-Ok-clause-closed
returns-in-Ok-clause-closed c = let x = c.in-Some.held.now in let e = c.in-Ok.ended in
    let same = unboxed chain_in (Chain x) refl c.take.ensures.taken (c.take_out-payload.ensures ∙ c.of.ensures) c.unwrap.ensures in
    at_value (λ x. WasClosed x (held_by c.take.new.self) c.args.closed.now (record { put = e.put; run = e.taken }) Done) (ap (of_kind chain_in) c.in-Some.ensures.value)
    (runs_none (sym c.runs.ensures ∙ c.if-runs.false)
    (record { outcome = Ok e; ended = subst (λ h. Ended (Ok e) h) same c.in-Ok.ensures; reports = (refl, c.take.ensures.emptied, (refl, refl)) }))

pub returns-in-Err-clause-closed : goal.returns-in-Err-clause-closed
returns-in-Err-clause-closed c = let x = c.in-Some.held.now in let y = c.in-Err.held in
    let same = unboxed chain_in (Chain x) refl c.take.ensures.taken (c.take_out-payload.ensures ∙ c.of.ensures) c.unwrap.ensures in
    at_value (λ x. WasClosed x (held_by c.put.new.self) c.args.closed.now c.args.closed.now Open) (ap (of_kind chain_in) c.in-Some.ensures.value)
    (runs_none (sym c.runs.ensures ∙ c.if-runs.false)
    (record { outcome = Err y; ended = c.in-Err.ensures ∙ same; reports = (refl, c.put.ensures ∙ ap Some (c.into_box.ensures ∙ c.fill.ensures), refl) }))
