use Rattle.bindings.proofs.Calls.{refl, sym, ap, ◌∙◌, Some, Done, of_kind, chain_in, at_value}
use Rattle.bindings.specs.Codes.{Note, Again}
use Rattle.bindings.specs.ChainCalls.{IsPullCall, runs_notes}
use Rattle.bindings.specs.declared.chain.held.Pulled.TheVariants as pulled
use Rattle.bindings.proofs.chain.synth_raw_chain_next.Goals as goal

pub returns-in-Note-clause-pulled : goal.returns-in-Note-clause-pulled
returns-in-Note-clause-pulled c = at_value (λ x. IsPullCall x c.args.note.now c.in-Note.next (Some c.pull.new.self) Note) (ap (of_kind chain_in) c.in-Some.ensures.value)
    (runs_notes (sym c.runs.ensures ∙ c.if-not-runs.false) c.pull.new.self (pulled.Note c.in-Note.next) refl c.in-Note.ensures (refl, refl))

pub returns-in-Again-clause-pulled : goal.returns-in-Again-clause-pulled
returns-in-Again-clause-pulled c = at_value (λ x. IsPullCall x c.args.note.now c.args.note.now (Some c.pull.new.self) Again) (ap (of_kind chain_in) c.in-Some.ensures.value)
    (runs_notes (sym c.runs.ensures ∙ c.if-not-runs.false) c.pull.new.self pulled.Again refl c.in-Again.ensures (refl, refl))

pub returns-in-Done-clause-pulled : goal.returns-in-Done-clause-pulled
returns-in-Done-clause-pulled c = at_value (λ x. IsPullCall x c.args.note.now c.args.note.now (Some c.pull.new.self) Done) (ap (of_kind chain_in) c.in-Some.ensures.value)
    (runs_notes (sym c.runs.ensures ∙ c.if-not-runs.false) c.pull.new.self pulled.Done refl c.in-Done.ensures (refl, refl))
