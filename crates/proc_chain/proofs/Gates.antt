-- How the steps change the gate, the runner and what is owed.
use Rattle.proc_chain.proofs.Common.{◌≡◌, ◌≢◌, ℕ, zero, suc, ◌+◌, ◌<◌, ◌≤◌, ◌⊎◌, ⊎_elim, Bool, true, false, true≢false, List, [], ◌∷◌, ◌++◌, map, take, length, get_or, set, sym, refl, ap, ◌∙◌, subst, arith, some, dite, ℕ_discrete, get_elem?, Cell, Batch, Positions, blank, item_of, item_at, Grows, with_take, tail_of, at_set, set_here, set_else, at_longer, at_push, at_below, one_at, View, notes_of, IsSettled, GateShows, SlotShows}
use mathlib.Core.Option.{Option}
use Rattle.proc_chain.specs.Gates.{IsOwed, HasRunner}

pub not_true : (b : Bool) → b ≢ true → b ≡ false
not_true true h = absurd (h refl)
not_true false h = refl

-- each run of one end has a run of the other with its start
abbrev pub Covers : View → View → Type 0
Covers v w = (m : ℕ) (e : Batch) → get_elem? v.own.runs m ≡ some e → (n : ℕ) × (f : Batch) × (get_elem? w.own.runs n ≡ some f) × (f.start ≡ e.start)

pub covers_same : (v w : View) → w.own.runs ≡ v.own.runs → Covers v w
covers_same v w is m e has = (m, e, subst (λ (z : List Batch). get_elem? z m ≡ some e) (sym is) has, refl)

pub covers_more : (v w : View) (l : List Batch) → w.own.runs ≡ v.own.runs ++ l → Covers v w
covers_more v w l is m e has = (m, e, subst (λ (z : List Batch). get_elem? z m ≡ some e) (sym is) (at_longer v.own.runs l m e has), refl)

pub owed_on : (q q' : Positions) (views : List View) (id : ℕ) (v w : View) → get_elem? views id ≡ some v → IsOwed q views → tail_of q' ≡ tail_of q → (v.own.owes ≡ true → w.own.owes ≡ true) → (v.own.owes ≡ true → Covers v w) → IsOwed q' (set views id w)
owed_on q q' views id v w at o tail owes covers = dite (ℕ_discrete o.owner id)
    (λ same. let is : o.view ≡ v = one_at views id o.view v (subst (λ (z : ℕ). get_elem? views z ≡ some o.view) same o.is_view) at in let mine : v.own.owes ≡ true = ap (λ (z : View). z.own.owes) (sym is) ∙ o.owes in
    let r = covers mine o.number o.run (subst (λ (z : View). get_elem? z.own.runs o.number ≡ some o.run) is o.has) in
    record { owner = id; view = w; is_view = set_here views id w (at_below views id v at); owes = owes mine; number = r.0; run = r.1; has = r.2; start = r.3 ∙ (o.start ∙ sym tail) })
    (λ ne. record { owner = o.owner; view = o.view; is_view = set_else views id o.owner w ne ∙ o.is_view; owes = o.owes; number = o.number; run = o.run; has = o.has; start = o.start ∙ sym tail })

was : (views : List View) (id j : ℕ) (v w u : View) → get_elem? views id ≡ some v → w.own.runner ≡ v.own.runner → get_elem? (set views id w) j ≡ some u → u.own.runner ≡ true → (x : View) × (get_elem? views j ≡ some x) × (x.own.runner ≡ true)
was views id j v w u at r has up = ⊎_elim (λ t. (v, subst (λ (z : ℕ). get_elem? views z ≡ some v) (sym t.0) at, sym r ∙ (ap (λ (z : View). z.own.runner) t.1 ∙ up))) (λ t. (u, t.1, up)) (at_set views id j w u has)

runs_set : (views : List View) (id : ℕ) (v w : View) → get_elem? views id ≡ some v → w.own.runner ≡ v.own.runner → HasRunner views → HasRunner (set views id w)
runs_set views id v w at r o = dite (ℕ_discrete o.number id)
    (λ same. let is : o.view ≡ v = one_at views id o.view v (subst (λ (z : ℕ). get_elem? views z ≡ some o.view) same o.is_view) at in
    record { number = id; view = w; is_view = set_here views id w (at_below views id v at); runner = r ∙ (ap (λ (z : View). z.own.runner) (sym is) ∙ o.runner) })
    (λ ne. record { number = o.number; view = o.view; is_view = set_else views id o.number w ne ∙ o.is_view; runner = o.runner })

-- a step that leaves the turn
gated_set : (q q' : Positions) (gate gate' : ℕ) (views : List View) (id : ℕ) (v w : View) → GateShows q gate views → get_elem? views id ≡ some v → w.own.runner ≡ v.own.runner → q'.taken ≡ q.taken → (w.own.runner ≡ true → w.seen.object.queue.taken ≡ q'.taken) → (w.own.runner ≡ true → w.own.taken ≡ v.own.taken)
    → gate' ≤ 2 → (gate' ≢ 0 → gate ≢ 0) → (gate' ≤ 1 → gate' ≡ gate) → (gate' ≡ 1 → w.own.saw ≡ true → (v.own.saw ≡ true) ⊎ IsSettled q' (set views id w)) → (gate' ≤ 1 → IsSettled q views → IsSettled q' (set views id w)) → GateShows q' gate' (set views id w)
gated_set q q' gate gate' views id v w g at r taken sees same bounded up low saw settled = record {
  bounded = bounded;
  runs = λ busy. runs_set views id v w at r (g.runs (up busy));
  still = λ down j u has. let none = g.still (sym (low (omega arith)) ∙ down) in ⊎_elim (λ t. ap (λ (z : View). z.own.runner) (sym t.1) ∙ (r ∙ none id v at)) (λ t. none j u t.1) (at_set views id j w u has);
  sole = λ i j x y has has' up up'. let a = was views id i v w x at r has up in let b = was views id j v w y at r has' up' in g.sole i j a.0 b.0 a.1 b.1 a.2 b.2;
  takes = λ j u has up. ⊎_elim (λ t. subst (λ (z : View). z.seen.object.queue.taken ≡ q'.taken) t.1 (sees (ap (λ (z : View). z.own.runner) t.1 ∙ up))) (λ t. g.takes j u t.1 up ∙ sym taken) (at_set views id j w u has);
  counts = λ j u has up. ⊎_elim (λ t. subst (λ (z : View). z.own.taken ≡ q'.taken) t.1 (let up' = ap (λ (z : View). z.own.runner) t.1 ∙ up in same up' ∙ (g.counts id v at (sym r ∙ up') ∙ sym taken))) (λ t. g.counts j u t.1 up ∙ sym taken) (at_set views id j w u has);
  idle = λ down. settled (omega arith) (g.idle (sym (low (omega arith)) ∙ down));
  seen = λ j u has up sw one. let one' = sym (low (omega arith)) ∙ one in ⊎_elim
      (λ t. ⊎_elim (λ old. settled (omega arith) (g.seen id v at (sym r ∙ (ap (λ (z : View). z.own.runner) t.1 ∙ up)) old one')) (λ now. now) (saw one (ap (λ (z : View). z.own.saw) t.1 ∙ sw)))
      (λ t. settled (omega arith) (g.seen j u t.1 up sw one')) (at_set views id j w u has);
}

-- and the gate
pub gated_same : (q q' : Positions) (gate : ℕ) (views : List View) (id : ℕ) (v w : View) → GateShows q gate views → get_elem? views id ≡ some v → w.own.runner ≡ v.own.runner → q'.taken ≡ q.taken → (w.own.runner ≡ true → w.seen.object.queue.taken ≡ q'.taken) → (w.own.runner ≡ true → w.own.taken ≡ v.own.taken)
    → (w.own.saw ≡ true → (v.own.saw ≡ true) ⊎ IsSettled q' (set views id w)) → (IsSettled q views → IsSettled q' (set views id w)) → GateShows q' gate (set views id w)
gated_same q q' gate views id v w g at r taken sees same saw settled = gated_set q q' gate gate views id v w g at r taken sees same g.bounded (λ up. up) (λ _. refl) (λ _. saw) (λ _. settled)

-- the gate becomes More, if it was not Idle
pub gated_more : (q : Positions) (gate : ℕ) (views : List View) (id : ℕ) (v w : View) → GateShows q gate views → get_elem? views id ≡ some v → gate ≢ 0 → w.own.runner ≡ v.own.runner → w.seen.object.queue.taken ≡ q.taken → w.own.taken ≡ v.own.taken → GateShows q 2 (set views id w)
gated_more q gate views id v w g at up r sees same = gated_set q q gate 2 views id v w g at r refl (λ _. sees) (λ _. same) (omega arith) (λ _. up) (λ e. absurd (omega arith)) (λ e. absurd (omega arith)) (λ e. absurd (omega arith))

-- a step of an end that then alone has the turn, at a gate that is not idle
pub gated_runs : (q' : Positions) (gate' : ℕ) (views : List View) (id : ℕ) (v w : View) → get_elem? views id ≡ some v → ((j : ℕ) (u : View) → get_elem? views j ≡ some u → j ≢ id → u.own.runner ≡ false) → gate' ≢ 0 → gate' ≤ 2
    → w.own.runner ≡ true → w.own.saw ≡ false → w.seen.object.queue.taken ≡ q'.taken → w.own.taken ≡ q'.taken → GateShows q' gate' (set views id w)
gated_runs q' gate' views id v w at others up bounded r no_saw sees count = let mine : (j : ℕ) (u : View) → get_elem? (set views id w) j ≡ some u → u.own.runner ≡ true → (j ≡ id) × (w ≡ u) = λ j u has is. ⊎_elim (λ t. t) (λ t. absurd (true≢false (sym is ∙ others j u t.1 t.0))) (at_set views id j w u has) in record {
  bounded = bounded;
  runs = λ _. record { number = id; view = w; is_view = set_here views id w (at_below views id v at); runner = r };
  still = λ down. absurd (up down);
  sole = λ i j x y has has' is is'. (mine i x has is).0 ∙ sym (mine j y has' is').0;
  takes = λ j u has is. subst (λ (z : View). z.seen.object.queue.taken ≡ q'.taken) (mine j u has is).1 sees;
  counts = λ j u has is. subst (λ (z : View). z.own.taken ≡ q'.taken) (mine j u has is).1 count;
  idle = λ down. absurd (up down);
  seen = λ j u has is sw one. absurd (true≢false (sym sw ∙ (ap (λ (z : View). z.own.saw) (sym (mine j u has is).1) ∙ no_saw)));
}

pub others_still : (q : Positions) (gate : ℕ) (views : List View) (id : ℕ) (v : View) → GateShows q gate views → get_elem? views id ≡ some v → v.own.runner ≡ true → (j : ℕ) (u : View) → get_elem? views j ≡ some u → j ≢ id → u.own.runner ≡ false
others_still q gate views id v g at r j u has ne = not_true u.own.runner (λ is. ne (g.sole j id u v has at is r))

pub gate_up : (q : Positions) (gate : ℕ) (views : List View) (id : ℕ) (v : View) → GateShows q gate views → get_elem? views id ≡ some v → v.own.runner ≡ true → gate ≢ 0
gate_up q gate views id v g at r down = absurd (true≢false (sym r ∙ g.still down id v at))

-- no end has the turn
pub gated_none : (q : Positions) (views : List View) → ((j : ℕ) (u : View) → get_elem? views j ≡ some u → u.own.runner ≡ false) → IsSettled q views → GateShows q 0 views
gated_none q views none settled = record {
  bounded = omega arith;
  runs = λ up. absurd (up refl);
  still = λ _. none;
  sole = λ i j x y has has' is is'. absurd (true≢false (sym is ∙ none i x has));
  takes = λ j u has is. absurd (true≢false (sym is ∙ none j u has));
  counts = λ j u has is. absurd (true≢false (sym is ∙ none j u has));
  idle = λ _. settled;
  seen = λ j u has is. absurd (true≢false (sym is ∙ none j u has));
}

-- the runner leaves, having seen that the first note left was not raised
pub gated_leaves : (q : Positions) (views : List View) (id : ℕ) (v w : View) → GateShows q 1 views → get_elem? views id ≡ some v → v.own.runner ≡ true → v.own.saw ≡ true → w.own.runner ≡ false → w.own.owes ≡ v.own.owes → w.own.runs ≡ v.own.runs → GateShows q 0 (set views id w)
gated_leaves q views id v w g at r sw down owes same = gated_none q (set views id w) (λ j u has. ⊎_elim (λ t. ap (λ (z : View). z.own.runner) (sym t.1) ∙ down) (λ t. others_still q 1 views id v g at r j u t.1 t.0) (at_set views id j w u has))
    (λ up. owed_on q q views id v w at (g.seen id v at r sw refl up) refl (λ h. owes ∙ h) (λ _. covers_same v w same))

-- the views have other numbers, and others are with them that have not the turn
pub gated_as : (q : Positions) (gate : ℕ) (views new : List View) → GateShows q gate views → ((i : ℕ) (u : View) → get_elem? views i ≡ some u → (j : ℕ) × (get_elem? new j ≡ some u)) → (back : (j : ℕ) (u : View) → get_elem? new j ≡ some u → u.own.runner ≡ true → (i : ℕ) × (get_elem? views i ≡ some u))
    → ((i j : ℕ) (x y : View) (has : get_elem? new i ≡ some x) (has' : get_elem? new j ≡ some y) (up : x.own.runner ≡ true) (up' : y.own.runner ≡ true) → (back i x has up).0 ≡ (back j y has' up').0 → i ≡ j) → GateShows q gate new
gated_as q gate views new g to back one = let settled : IsSettled q views → IsSettled q new = λ s up. let o = s up in let m = to o.owner o.view o.is_view in record { owner = m.0; view = o.view; is_view = m.1; owes = o.owes; number = o.number; run = o.run; has = o.has; start = o.start } in record {
  bounded = g.bounded;
  runs = λ up. let o = g.runs up in let m = to o.number o.view o.is_view in record { number = m.0; view = o.view; is_view = m.1; runner = o.runner };
  still = λ down j u has. not_true u.own.runner (λ is. let b = back j u has is in true≢false (sym is ∙ g.still down b.0 u b.1));
  sole = λ i j x y has has' up up'. let a = back i x has up in let b = back j y has' up' in one i j x y has has' up up' (g.sole a.0 b.0 x y a.1 b.1 up up');
  takes = λ j u has up. let b = back j u has up in g.takes b.0 u b.1 up;
  counts = λ j u has up. let b = back j u has up in g.counts b.0 u b.1 up;
  idle = λ down. settled (g.idle down);
  seen = λ j u has up sw run. let b = back j u has up in settled (g.seen b.0 u b.1 up sw run);
}

pub gated_new : (q : Positions) (gate : ℕ) (views : List View) (w : View) → GateShows q gate views → w.own.runner ≡ false → GateShows q gate (views ++ w ∷ [])
gated_new q gate views w g r = gated_as q gate views (views ++ w ∷ []) g (λ i u has. (i, at_longer views (w ∷ []) i u has))
    (λ j u has is. (j, ⊎_elim (λ t. t) (λ t. absurd (true≢false (sym is ∙ (ap (λ (z : View). z.own.runner) (sym t.1) ∙ r)))) (at_push views w u j has))) (λ i j x y has has' up up' same. same)

-- the notes taken
same_items : (n : ℕ) (xs ys : List Cell) → n ≤ length xs → n ≤ length ys → ((i : ℕ) → i < n → (get_or ys i blank).item ≡ (get_or xs i blank).item) → map item_of (take n ys) ≡ map item_of (take n xs)
same_items zero xs ys a b f = refl
same_items (suc n) [] ys a b f = absurd (omega arith)
same_items (suc n) (x ∷ xs) [] a b f = absurd (omega arith)
same_items (suc n) (x ∷ xs) (y ∷ ys) a b f = λ k. f 0 (omega arith) k ∷ same_items n xs ys (omega arith) (omega arith) (λ i h. f (suc i) (omega arith)) k

pub notes_same : (q r : Positions) → Grows q r → r.taken ≡ q.taken → q.taken ≤ length q.places → notes_of r ≡ notes_of q
notes_same q r g is following = let longer = g.longer in ap (λ (n : ℕ). map item_of (take n r.places)) is ∙ same_items q.taken q.places r.places following (omega arith) (λ i h. g.items i (omega arith))

more_items : (n : ℕ) (l : List Cell) → n < length l → map item_of (take (suc n) l) ≡ map item_of (take n l) ++ (get_or l n blank).item ∷ []
more_items n [] h = absurd (omega arith)
more_items zero (x ∷ xs) h = refl
more_items (suc n) (x ∷ xs) h = ap (λ (z : List ℕ). item_of x ∷ z) (more_items n xs (omega arith))

pub notes_take : (q : Positions) → q.taken < length q.places → notes_of (with_take q 1) ≡ notes_of q ++ item_at q q.taken ∷ []
notes_take q h = let e : q.taken + 1 ≡ suc q.taken = omega arith in ap (λ (n : ℕ). map item_of (take n q.places)) e ∙ more_items q.taken q.places h

module _ {Q W : Type 0} (made : W → Q → List ℕ → Type 0) (fits : W → Q → Type 0) (world : W) where
  pub housed_on : (q q' : Positions) (gate : ℕ) (homes : List (Option Q)) → SlotShows made fits world q gate homes → notes_of q' ≡ notes_of q → SlotShows made fits world q' gate homes
  housed_on q q' gate homes h same = record { home = λ down. let x = h.home down in (x.0, x.1, subst (made world x.0) (sym same) x.2, x.3); held = h.held }
