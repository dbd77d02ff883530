use Rattle.quaject_core.proofs.Common.{◌≡◌, ℕ, Bool, ◌||◌, ◌==◌, List, [], ◌∷◌, ◌∙◌, map, length, drop, refl, sym, ap, subst, drop-map, length-map, list_any, flat, left, Laid, item_of, queue, StoredQueue}
use Rattle.quaject_core.proofs.Stored.Layout.{items_laid}
use Rattle.quaject_core.proofs.queueing.StoredQueue.has_left.Goals as goal

list_any-map : {X Y : Type 0} (p : X → Bool) (f : Y → X) (ys : List Y) → list_any p (map f ys) ≡ list_any (λ y. p (f y)) ys
list_any-map p f [] = refl
list_any-map p f (y ∷ ys) = ap (λ b. p (f y) || b) (list_any-map p f ys)

-- an item is left where a place that is left has it
item_left : (stored : StoredQueue) (item : ℕ) → list_any (λ place. place.item == item) (drop stored.taken stored.places.items) ≡ list_any (λ other. other == item) (left (queue stored))
item_left stored item =
    let laid : Laid 0 stored.runs.items (length (map item_of stored.places.items)) = subst (Laid 0 stored.runs.items) (sym (length-map stored.places.items item_of)) stored.laid_out in
    let items : flat (queue stored).history ≡ map item_of stored.places.items = items_laid (map item_of stored.places.items) stored.runs.items laid in
    sym (list_any-map (λ other. other == item) item_of (drop stored.taken stored.places.items))
    ∙ ap (list_any (λ other. other == item)) (sym (drop-map item_of stored.taken stored.places.items) ∙ ap (drop stored.taken) (sym items))

pub returns : goal.returns
returns c = c.has_item.ensures ∙ (ap (list_any (λ place. place.item == c.args.item)) c.rest.ensures ∙ item_left c.args.self.now c.args.item)
