-- A queue grows by each event, and stays lawful.
use Rattle.batch_queue.proofs.Common.{at_snoc, AreIn, BatchState, Becomes, Grows, IsBatch, IsValidStep, Lawful, List, AbsState, Step, [], ap, append-nil, append_assoc, arith, concat, concat-append, dec_lt, dite, drop, inl, inr, items_of, length, length-append, length-set, length-drop, length-take-le, of_batches, phase_at, refl, replicate, subst, suc, sym, take, taking, was_claimed, was_freed, was_given, was_parted, was_published, was_shut, was_taken, with_batch, with_mark, with_phase, with_taken, ℕ, ⊎_elim, ◌*◌, ◌++◌, ◌+◌, ◌%◌, ◌-◌, ◌<◌, ◌∙◌, ◌∷◌, ◌≡◌, ◌≤◌, ◌⊎◌}
use Rattle.batch_queue.proofs.Ranges.{get_after, get_longer, is_in, range_at, range_in, range_length, range_out, replicated}
use Rattle.table_theory.specs.Ledgers.{Reaches, Passes}
use Rattle.table_theory.proofs.Saying as steps
use Rattle.batch_queue.proofs.Grouping.{groups_claimed, groups_taken, solid_more}
use Rattle.batch_queue.proofs.Stops.{edge_if, items_taken, parts_on, stop_claimed, stop_parted}
use Rattle.batch_queue.proofs.Whole.{batch_end, concat_grows, edge_on, last_or, whole_claimed, whole_raised}
use Rattle.batch_queue.specs.Object.{IsStop, IsWithin}
use Rattle.std.proofs.lemmas.List.{take-append-le}

pub grows_refl : (o : BatchState) → Grows o o
grows_refl o = record { room = refl; more = ([], append-nil o.batches); takings = ([], append-nil o.takings); phases = λ i. omega arith; taken = omega arith; freed = omega arith; shut = λ e. e; parted = ([], append-nil o.parted) }

pub grows_trans : (o r t : BatchState) → Grows o r → Grows r t → Grows o t
grows_trans o r t f g = record {
  room = g.room ∙ f.room;
  more = (f.more.0 ++ g.more.0, sym (append_assoc o.batches f.more.0 g.more.0) ∙ (ap (λ (z : List (List ℕ)). z ++ g.more.0) f.more.1 ∙ g.more.1));
  takings = (f.takings.0 ++ g.takings.0, sym (append_assoc o.takings f.takings.0 g.takings.0) ∙ (ap (λ (z : List (List ℕ)). z ++ g.takings.0) f.takings.1 ∙ g.takings.1));
  phases = λ i. let a = f.phases i in let b = g.phases i in omega arith;
  taken = let a = f.taken in let b = g.taken in omega arith;
  freed = let a = f.freed in let b = g.freed in omega arith;
  shut = λ e. g.shut (f.shut e);
  parted = (f.parted.0 ++ g.parted.0, sym (append_assoc o.parted f.parted.0 g.parted.0) ∙ (ap (λ (z : List ℕ). z ++ g.parted.0) f.parted.1 ∙ g.parted.1));
}

pub items_grow : (o r : BatchState) → Grows o r → length (items_of o) ≤ length (items_of r)
items_grow o r g = concat_grows o.batches r.batches g.more.0 g.more.1

pub batch_items : (o : BatchState) (claim : List ℕ) → items_of (with_batch o claim) ≡ items_of o ++ claim
batch_items o claim = concat-append o.batches (claim ∷ []) ∙ ap (λ (z : List ℕ). concat o.batches ++ z) (append-nil claim)

pub claimed_at : (o : BatchState) → Lawful o → (i : ℕ) → 1 ≤ phase_at o i → i < length (items_of o)
claimed_at o l i h = dite (dec_lt i (length o.phases)) (λ y. let long = l.long in omega arith) (λ no. let e = get_after o.phases i (omega arith) in absurd (omega arith))

pub unclaimed_at : (o : BatchState) → Lawful o → (i : ℕ) → length (items_of o) ≤ i → phase_at o i ≡ 0
unclaimed_at o l i h = dite (dec_lt 0 (phase_at o i)) (λ y. let c = claimed_at o l i y in absurd (omega arith)) (λ z. omega arith)

-- what was given back was taken, and what was taken was claimed
pub freed_taken : (o : BatchState) → Lawful o → o.freed ≤ o.taken
freed_taken o l = dite (dec_lt o.taken o.freed) (λ h. let a = l.taken_within o.taken h in let b = l.after o.taken (omega arith) in absurd (omega arith)) (λ n. omega arith)

pub taken_claimed : (o : BatchState) → Lawful o → o.taken ≤ length (items_of o)
taken_claimed o l = dite (dec_lt (length (items_of o)) o.taken) (λ h. let a = l.before (length (items_of o)) h in let b = claimed_at o l (length (items_of o)) (omega arith) in absurd (omega arith)) (λ n. omega arith)

-- positions that are one phase on are no more than were claimed
pub below_head : (o : BatchState) (x a b : ℕ) → Lawful o → 0 < x → AreIn o x a b → a < b → b ≤ length (items_of o)
below_head o x a b l later was less = let c = claimed_at o l (b - 1) (let w = was (b - 1) (omega arith) (omega arith) in omega arith) in omega arith

pub batch_below : (o : BatchState) (a b : ℕ) → IsBatch o.batches a b → b ≤ length (items_of o)
batch_below o a b w = let e = batch_end o.batches a b w in let g = concat_grows e.before o.batches e.rest e.all in let at = e.at in omega arith

-- one phase on
pub phase_grows : (o : BatchState) (a b x : ℕ) → AreIn o x a b → (i : ℕ) → phase_at o i ≤ phase_at (with_phase o a b (suc x)) i
phase_grows o a b x was i = ⊎_elim
    (λ t. dite (dec_lt i (length o.phases))
    (λ y. let e = range_at o.phases a b (suc x) i y t.0 t.1 in let w = was i t.0 t.1 in omega arith)
    (λ no. let e = get_after o.phases i (omega arith) in omega arith))
    (λ out. let e = range_out o.phases a b (suc x) i out in omega arith)
    (is_in a b i)

released_grows : (o : BatchState) (a b x m : ℕ) → AreIn o x a b → Grows o (with_mark (with_phase o a b (suc x)) a m)
released_grows o a b x m was = record { room = refl; more = ([], append-nil o.batches); takings = ([], append-nil o.takings); phases = phase_grows o a b x was; taken = omega arith; freed = omega arith; shut = λ e. e; parted = ([], append-nil o.parted) }

pub becomes_grows : (o r : BatchState) → Becomes o r → Grows o r
becomes_grows o r (was_claimed claim some_item is_open fits e) = subst (Grows o) (sym e) record { room = refl; more = (claim ∷ [], refl); takings = ([], append-nil o.takings); phases = λ i. let e = get_longer o.phases (length claim) i in omega arith; taken = omega arith; freed = omega arith; shut = λ e. e; parted = ([], append-nil o.parted) }
becomes_grows o r (was_published a b less batch was e) = subst (Grows o) (sym e) (released_grows o a b 0 (2 * b) was)
becomes_grows o r (was_taken new less le stop was e) = subst (Grows o) (sym e) record { room = refl; more = ([], append-nil o.batches); takings = (take (new - o.taken) (drop o.taken (items_of o)) ∷ [], refl); phases = phase_grows o o.taken new 1 was; taken = omega arith; freed = omega arith; shut = λ e. e; parted = ([], append-nil o.parted) }
becomes_grows o r (was_given a b less taking was e) = subst (Grows o) (sym e) (released_grows o a b 2 (2 * b + 1) was)
becomes_grows o r (was_freed new less edge was e) = subst (Grows o) (sym e) record { room = refl; more = ([], append-nil o.batches); takings = ([], append-nil o.takings); phases = λ i. omega arith; taken = omega arith; freed = omega arith; shut = λ e. e; parted = ([], append-nil o.parted) }
becomes_grows o r (was_shut e) = subst (Grows o) (sym e) record { room = refl; more = ([], append-nil o.batches); takings = ([], append-nil o.takings); phases = λ i. omega arith; taken = omega arith; freed = omega arith; shut = λ e. refl; parted = ([], append-nil o.parted) }
becomes_grows o r (was_parted p end within e) = subst (Grows o) (sym e) record { room = refl; more = ([], append-nil o.batches); takings = ([], append-nil o.takings); phases = λ i. omega arith; taken = omega arith; freed = omega arith; shut = λ e. e; parted = (p ∷ [], refl) }

released_lawful : (o : BatchState) (a b x m : ℕ) → Lawful o → b ≤ length (items_of o) → AreIn o x a b → (x ≡ 0) ⊎ (x ≡ 2) → (x ≡ 0 → IsBatch o.batches a b) → Lawful (with_mark (with_phase o a b (suc x)) a m)
released_lawful o a b x m l le was kind batch = let g = phase_grows o a b x was in let long = l.long in record {
  some_room = l.some_room;
  long = range_length o.phases a b (suc x) ∙ l.long;
  mark_each = length-set o.marks (a % o.room) m ∙ l.mark_each;
  within = l.within;
  before = λ i h. let n = g i in let y = l.before i h in omega arith;
  after = λ i h. let y = l.after i h in ⊎_elim
      (λ t. let n = range_in o.phases a b (suc x) i (omega arith) t.0 t.1 in let w = was i t.0 t.1 in ⊎_elim (λ z. let z' : x ≡ 0 = z in omega arith) (λ z. let z' : x ≡ 2 = z in absurd (omega arith)) kind)
      (λ out. let n = range_out o.phases a b (suc x) i out in omega arith)
      (is_in a b i);
  taken_within = λ i h. let n = g i in let y = l.taken_within i h in omega arith;
  whole = whole_raised o a b x l.long le was batch l.whole;
  stop = l.stop;
  solid = l.solid;
  solid_takings = l.solid_takings;
  stops = l.stops;
  groups = l.groups;
  parts = parts_on o (with_mark (with_phase o a b (suc x)) a m) (released_grows o a b x m was) refl l.parts;
  taken_is = l.taken_is;
  items = l.items;
  freed_edge = l.freed_edge;
}

pub becomes_lawful : (o r : BatchState) → Lawful o → Becomes o r → Lawful r
becomes_lawful o r l (was_claimed claim some_item is_open fits e) = subst Lawful (sym e) (let is = ap length (batch_items o claim) in let n = length-append (items_of o) claim in let m = length-append o.phases (replicate (length claim) 0) in let z = replicated (length claim) 0 in let long = l.long in record {
  some_room = l.some_room;
  long = omega arith;
  mark_each = l.mark_each;
  within = omega arith;
  before = λ i h. let p = get_longer o.phases (length claim) i in let b = l.before i h in omega arith;
  after = λ i h. let p = get_longer o.phases (length claim) i in let b = l.after i h in omega arith;
  taken_within = λ i h. let p = get_longer o.phases (length claim) i in let b = l.taken_within i h in omega arith;
  whole = whole_claimed o claim (unclaimed_at o l) l.whole;
  stop = stop_claimed o claim o.taken l.stop;
  solid = solid_more o.batches claim some_item l.solid;
  solid_takings = l.solid_takings;
  stops = λ p end b. stop_claimed o claim end (l.stops p end b);
  groups = λ none. groups_claimed o.batches o.takings claim (l.groups none);
  parts = parts_on o (with_batch o claim) (becomes_grows o (with_batch o claim) (was_claimed claim some_item is_open fits refl)) refl l.parts;
  taken_is = l.taken_is;
  items = l.items ∙ sym (ap (take o.taken) (batch_items o claim) ∙ take-append-le o.taken (items_of o) claim (taken_claimed o l));
  freed_edge = l.freed_edge;
})
becomes_lawful o r l (was_published a b less batch was e) = subst Lawful (sym e) (released_lawful o a b 0 (2 * b) l (batch_below o a b batch) was (inl refl) (λ z. batch))
becomes_lawful o r l (was_given a b less taking was e) = subst Lawful (sym e) (released_lawful o a b 2 (2 * b + 1) l (below_head o 2 a b l (omega arith) was less) was (inr refl) (λ z. absurd (omega arith)))
becomes_lawful o r l (was_taken new less le stop was e) = subst Lawful (sym e) (let g = phase_grows o o.taken new 1 was in let long = l.long in let part : List ℕ = take (new - o.taken) (drop o.taken (items_of o)) in record {
  some_room = l.some_room;
  long = range_length o.phases o.taken new 2 ∙ l.long;
  mark_each = l.mark_each;
  within = l.within;
  before = λ i h. dite (dec_lt i o.taken) (λ y. let n = g i in let b = l.before i y in omega arith) (λ no. let n = range_in o.phases o.taken new 2 i (omega arith) (omega arith) h in omega arith);
  after = λ i h. let n = range_out o.phases o.taken new 2 i (λ t. let t1 = t.1 in omega arith) in let y = l.after i (omega arith) in omega arith;
  taken_within = λ i h. let n = g i in let y = l.taken_within i h in omega arith;
  whole = whole_raised o o.taken new 1 l.long le was (λ z. absurd (omega arith)) l.whole;
  stop = stop;
  solid = l.solid;
  solid_takings = solid_more o.takings part (let d = length-drop o.taken (items_of o) in let m = length-take-le (new - o.taken) (drop o.taken (items_of o)) (omega arith) in omega arith) l.solid_takings;
  stops = λ p end b. ⊎_elim
      (λ t. l.stops p end (record { before = b.before; batch = b.batch; rest = t.0; all = t.1; at = b.at; end = b.end }))
      (λ t. subst (IsStop o) (let s = ap (λ (z : List (List ℕ)). length (concat z)) t.0 in let long' = ap length t.1 in let d = length-drop o.taken (items_of o) in let m = length-take-le (new - o.taken) (drop o.taken (items_of o)) (omega arith) in let t = l.taken_is in let a = b.at in let b' = b.end in omega arith) stop)
      (last_or o.takings part b.before b.batch b.rest b.all);
  groups = λ none. groups_taken o.batches o.takings o.taken new (l.groups none) l.taken_is less (edge_if o new none stop);
  parts = parts_on o (with_taken o new) (becomes_grows o (with_taken o new) (was_taken new less le stop was refl)) refl l.parts;
  items = items_taken o.takings (items_of o) o.taken new l.taken_is l.items (omega arith);
  taken_is = ap length (concat-append o.takings (part ∷ [])) ∙ (length-append (concat o.takings) (part ++ []) ∙ (let n = length-append part [] in let d = length-drop o.taken (items_of o) in let m = length-take-le (new - o.taken) (drop o.taken (items_of o)) (omega arith) in let t = l.taken_is in omega arith));
  freed_edge = edge_on o.takings (o.takings ++ part ∷ []) (part ∷ []) o.freed refl l.freed_edge;
})
becomes_lawful o r l (was_freed new less edge was e) = subst Lawful (sym e) record {
  some_room = l.some_room;
  long = l.long;
  mark_each = l.mark_each;
  within = let w = l.within in omega arith;
  before = l.before;
  after = l.after;
  taken_within = λ i h. dite (dec_lt i o.freed) (λ y. l.taken_within i y) (λ no. was i (omega arith) h);
  whole = l.whole;
  stop = l.stop;
  solid = l.solid;
  solid_takings = l.solid_takings;
  stops = l.stops;
  groups = l.groups;
  parts = l.parts;
  taken_is = l.taken_is;
  items = l.items;
  freed_edge = edge;
}
becomes_lawful o r l (was_shut e) = subst Lawful (sym e) record { some_room = l.some_room; long = l.long; mark_each = l.mark_each; within = l.within; before = l.before; after = l.after; taken_within = l.taken_within; whole = l.whole; stop = l.stop; solid = l.solid; solid_takings = l.solid_takings; stops = l.stops; groups = l.groups; parts = l.parts; taken_is = l.taken_is; items = l.items; freed_edge = l.freed_edge }
becomes_lawful o r l (was_parted p end within e) = subst Lawful (sym e) record {
  some_room = l.some_room;
  long = l.long;
  mark_each = length-set o.marks (p % o.room) (2 * end) ∙ l.mark_each;
  within = l.within;
  before = l.before;
  after = l.after;
  taken_within = l.taken_within;
  whole = l.whole;
  stop = stop_parted o p end o.taken l.stop;
  solid = l.solid;
  solid_takings = l.solid_takings;
  stops = λ a b t. stop_parted o p end b (l.stops a b t);
  groups = λ none. absurd (let n = ap length none in let m = length-append o.parted (p ∷ []) in omega arith);
  parts = λ q h. ⊎_elim (λ old. l.parts q (h.0, old)) (λ is. (end, subst (λ (z : ℕ). IsWithin o z end) is within)) (at_snoc o.parted p q h.0 h.1);
  taken_is = l.taken_is;
  items = l.items;
  freed_edge = l.freed_edge;
}

pub real_lawful : (e : Step BatchState) → IsValidStep of_batches e → Lawful e.next.object
real_lawful = steps.real_lawful of_batches (λ o r words shows l b. becomes_lawful o r l b)

pub real_grows : (e : Step BatchState) → IsValidStep of_batches e → Grows e.then.object e.next.object
real_grows = steps.real_goes of_batches Grows grows_refl grows_trans (λ o r words shows b. becomes_grows o r b)

pub reaches_grow : (m n : AbsState BatchState) → Reaches of_batches m n → Grows m.object n.object
reaches_grow = steps.reaches_go of_batches Grows grows_refl grows_trans (λ o r words shows b. becomes_grows o r b)

pub passes_grow : (m n : AbsState BatchState) (entries : List (Step BatchState)) → Passes of_batches m entries n → Grows m.object n.object
passes_grow = steps.passes_go of_batches Grows grows_refl grows_trans (λ o r words shows b. becomes_grows o r b)
