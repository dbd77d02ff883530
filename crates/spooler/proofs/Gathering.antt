-- An end that took in others, one after the other, and what those had put.
use Rattle.spooler.proofs.Common.{Vec, ◌≡◌, ℕ, suc, ◌+◌, ◌<◌, List, [], ◌∷◌, ◌++◌, ◌∙◌, map, length, get_or, refl, sym, ap, arith, append_assoc, append-nil, Batch, joined, total, QueueEnd, View, JoinedBy, view_of, Line, HasPut, Gathered, PutsEach, lines_of}

joined_push : (f : View → List Batch) (us : List View) (u : View) → joined (map f (us ++ u ∷ [])) ≡ joined (map f us) ++ f u
joined_push f [] u = append-nil (f u)
joined_push f (x ∷ us) u = ap (λ (z : List Batch). f x ++ z) (joined_push f us u) ∙ sym (append_assoc (f x) (joined (map f us)) (f u))

total_push : (f : View → ℕ) (us : List View) (u : View) → total f (us ++ u ∷ []) ≡ total f us + f u
total_push f [] u = omega arith
total_push f (x ∷ us) u = let h = total_push f us u in omega arith

pub gathered_none : (v : View) → Gathered v [] v
gathered_none v = record { runs = sym (append-nil v.own.runs); takes = sym (append-nil v.own.takes); share = omega arith }

-- the lists after one end more was taken in
more_lists : (f : View → List Batch) (v w u z : View) (us : List View) → f w ≡ f v ++ joined (map f us) → f z ≡ f w ++ f u → f z ≡ f v ++ joined (map f (us ++ u ∷ []))
more_lists f v w u z us h t = t ∙ (ap (λ (l : List Batch). l ++ f u) h ∙ (append_assoc (f v) (joined (map f us)) (f u) ∙ ap (λ (l : List Batch). f v ++ l) (sym (joined_push f us u))))

pub gathered_more : (v w u z : View) (us : List View) → Gathered v us w → JoinedBy w u z → Gathered v (us ++ u ∷ []) z
gathered_more v w u z us h t = record {
  runs = more_lists (λ (x : View). x.own.runs) v w u z us h.runs (λ i. (t.own i).runs);
  takes = more_lists (λ (x : View). x.own.takes) v w u z us h.takes (λ i. (t.own i).takes);
  share = let s = h.share in let n = total_push (λ (x : View). x.member.share) us u in
      let m : z.member.share ≡ w.member.share + u.member.share = (λ i. (t.member i).share) in omega arith;
}

-- a step that leaves lists and share as they are
pub gathered_same : (v w z : View) (us : List View) → Gathered v us w → z.own.runs ≡ w.own.runs → z.own.takes ≡ w.own.takes → z.member.share ≡ w.member.share → Gathered v us z
gathered_same v w z us h runs takes share = record { runs = runs ∙ h.runs; takes = takes ∙ h.takes; share = share ∙ h.share }

abbrev End : Type 0
End = QueueEnd 64

pub puts_each : (jobs : List (Vec Line)) (ends backs : List End) → length jobs ≡ length ends → length backs ≡ length ends
    → ((i : ℕ) (j : Vec Line) (d : End) → i < length ends → HasPut (lines_of (get_or jobs i j).items) (view_of (get_or ends i d)) (view_of (get_or backs i d)))
    → PutsEach (map (λ (job : Vec Line). lines_of job.items) jobs) (map view_of ends) (map view_of backs)
puts_each [] [] [] m n h = (refl, refl)
puts_each [] [] (b ∷ backs) m n h = absurd (omega arith)
puts_each [] (e ∷ ends) backs m n h = absurd (omega arith)
puts_each (j ∷ jobs) [] backs m n h = absurd (omega arith)
puts_each (j ∷ jobs) (e ∷ ends) [] m n h = absurd (omega arith)
puts_each (j ∷ jobs) (e ∷ ends) (b ∷ backs) m n h = (h 0 j e (omega arith), puts_each jobs ends backs (omega arith) (omega arith) (λ i k d low. h (suc i) k d (omega arith)))
