use Rattle.quaject_core.proofs.Common.{◌≡◌, Some, None, Ok, set, refl, sym, ◌∙◌, arith, slice_get, length-map, elements, thread, none_taken_off, other_put_on, taken_off_ok, taken_off_room}
use Rattle.quaject_core.proofs.Stored.Elements.{read_at}
use Rattle.quaject_core.proofs.elements.StoredElements.take_off.Goals as goal

pub returns-in_default-clause-change : goal.returns-in_default-clause-change
returns-in_default-clause-change c = let seats = c.args.self.now.processors in
    let found = read_at seats c.from-seat.result c.args.processor _ _ (c.from-seat.ensures ∙ c.number.ensures.value) (omega (arith, c.from-seat.ensures, c.number.ensures.within)) refl in
    (refl, none_taken_off c.args.call c.args.processor (elements c.args.self.now) _ found c.in_default.not-Some)

pub returns-then-ne-clause-change : goal.returns-then-ne-clause-change
returns-then-ne-clause-change c = let seats = c.args.self.now.processors in let h = c.in-Some.hold in
    let found : slice_get seats c.args.processor ≡ Some (Some h) = read_at seats c.from-seat.result c.args.processor _ (Some h) (c.from-seat.ensures ∙ c.number.ensures.value) (omega (arith, c.from-seat.ensures, c.number.ensures.within)) c.in-Some.is in
    (refl, other_put_on c.args.call c.args.processor (elements c.args.self.now) h found (sym c.ne.ensures ∙ c.if-ne.true))

pub push-requires : goal.push-requires
push-requires c = let s = elements c.args.self.now in let seats = c.args.self.now.processors in let h = c.in-Some.hold in
    let found : slice_get seats c.args.processor ≡ Some (Some h) = read_at seats c.from-seat.result c.args.processor _ (Some h) (c.from-seat.ensures ∙ c.number.ensures.value) (omega (arith, c.from-seat.ensures, c.number.ensures.within)) c.in-Some.is in
    omega (arith, taken_off_room c.args.call c.args.processor s h c.requires found (sym c.ne.ensures ∙ c.if-ne.false), length-map c.args.self.now.threads.items thread, c.args.self.now.threads.ok, c.args.self.now.all)

pub returns-clause-change : goal.returns-clause-change
returns-clause-change c = let s = elements c.args.self.now in let seats = c.args.self.now.processors in let h = c.in-Some.hold in
    let found : slice_get seats c.args.processor ≡ Some (Some h) = read_at seats c.from-seat.result c.args.processor _ (Some h) (c.from-seat.ensures ∙ c.number.ensures.value) (omega (arith, c.from-seat.ensures, c.number.ensures.within)) c.in-Some.is in
    let seat : c.from-seat.result ≡ c.args.processor = c.from-seat.ensures ∙ c.number.ensures.value in
    taken_off_ok c.args.call c.args.processor s h found (sym c.ne.ensures ∙ c.if-ne.false) ∙ (λ i. Ok (record s { processors = set seats (sym seat i) None; held = sym c.push.ensures i }))
