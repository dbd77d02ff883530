use Rattle.quaject_core.proofs.Common.{◌∙◌, refl, sym, ap, length, option_map, slice_get, slice_get_past, slice_get_read, item_of}
use Rattle.quaject_core.proofs.Stored.Layout.{first_item}
use Rattle.quaject_core.proofs.queueing.StoredQueue.first_left.Goals as goal

pub returns-in_err-place : goal.returns-in_err-place
returns-in_err-place c =
    c.from_residual.ensures ∙ sym (first_item c.args.self.now ∙ ap (option_map item_of) (ap (λ xs. slice_get xs c.args.self.now.taken) (sym c.deref.ensures.value)
    ∙ slice_get_past c.deref.result.now c.args.self.now.taken c.in_err-place.ensures.lookup.3))

pub returns : goal.returns
returns c =
    sym (first_item c.args.self.now ∙ ap (option_map item_of) (ap (λ xs. slice_get xs c.args.self.now.taken) (sym c.deref.ensures.value)
    ∙ slice_get_read c.deref.result.now (length c.deref.result.now) c.args.self.now.taken c.in_ok-place.place.now refl c.in_ok-place.ensures.lookup.3.0 c.in_ok-place.ensures.lookup.1))
