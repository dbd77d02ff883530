-- The text of a trace whose events can be read back is read back as that trace.
use Rattle.trace_events.proofs.Common.{◌≡◌, ◌≤◌, List, [], ◌∷◌, Some, arith, AllByRecursion, Json, document, HasNumbers, ItemsHaveNumbers, depth, items_depth, items_of, trace_json, trace_text}
use Rattle.json.proofs.Printed.Trees.{document-print}

items_have : (events : List Json) → AllByRecursion HasNumbers events → ItemsHaveNumbers (items_of events)
items_have [] h = tt
items_have (event ∷ events) h = (h.0, items_have events h.1)

items_shallow : (events : List Json) → AllByRecursion (λ event. depth event ≤ 2) events → items_depth (items_of events) ≤ 2
items_shallow [] h = omega arith
items_shallow (event ∷ events) h = omega (arith, h.0, items_shallow events h.1)

pub trace_read : (events : List Json) → AllByRecursion HasNumbers events → AllByRecursion (λ event. depth event ≤ 2) events → document (trace_text events) ≡ Some (trace_json events)
unfolding trace_text
trace_read events numbers shallow = document-print (trace_json events) (items_have events numbers, (tt, tt)) (omega (arith, items_shallow events shallow))
