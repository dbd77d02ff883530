use Rattle.trace_events.proofs.Common.{Bool, List, [], ◌∷◌, ℕ, ap, subst, sym, ne_eqb, OnOk, if◌then◌else◌, Json, IsEvent, Prints, missed_json, processor_track}
use Rattle.trace_events.proofs.Printing.{prints_text}
use Rattle.trace_events.proofs.trace.print_missed.Goals as goal

pub returns : goal.returns
returns g c =
    let event : ℕ → Json = λ track. missed_json track c.args.at c.args.processor c.args.missed in
    let shown : Json = event (processor_track c.args.processor) in
    let text = subst (λ (track : ℕ). IsEvent c.in_ok-text.text.items (event track)) c.processor_track.ensures c.in_ok-text.ensures in
    let some = ap (λ (none : Bool). if none then [] else shown ∷ []) (ne_eqb c.args.missed 0 c.if-missed-eq0.false) in
    subst (λ (events : List Json). OnOk c.print_later.result (Prints (g.W.Write.contents c.args.out.now) (g.W.Write.contents c.print_later.new.out) events)) (sym some)
    (prints_text c.print_later.result _ _ _ _ _ text c.deref.ensures.value c.print_later.ensures)
