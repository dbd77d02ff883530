use Rattle.trace_events.proofs.Common.{subst, ap, append_assoc, ◌∙◌, [], ◌∷◌, ◌++◌, List, ℕ, codes, IfOk, arith, end_object, Named, list_tokens, numbered, IsEvent, turn_json, turn_opening}
use Rattle.trace_events.proofs.Growing.{alone_join, ended_text, turn_closed}
use Rattle.trace_events.proofs.turns.idle_text.Goals as goal

pub returns : goal.returns
returns c =
    let args : List Named = numbered (codes "processor") c.args.processor ∷ numbered (codes "turns") c.args.turns ∷ [] in
    let track = c.processor_track.result in
    let opened = alone_join _ _ _ _ c.in_ok-out.ensures c.in_ok-put_number.ensures in
    let counted = alone_join _ _ _ _ opened c.in_ok-put_number-2.ensures in
    subst (λ (t : ℕ). IfOk c.end_args.result (λ text. IsEvent text.items (turn_json (codes "idle") t c.args.from c.args.until args))) c.processor_track.ensures
    (ended_text c.end_args.result _ _ (turn_json (codes "idle") track c.args.from c.args.until args) counted c.end_args.ensures (ap (λ ts. ts ++ end_object ∷ end_object ∷ []) (append_assoc (turn_opening (codes "idle") track c.args.from c.args.until) (list_tokens (numbered (codes "processor") c.args.processor ∷ [])) (list_tokens (numbered (codes "turns") c.args.turns ∷ []))) ∙ turn_closed (codes "idle") track c.args.from c.args.until args) (omega arith))
