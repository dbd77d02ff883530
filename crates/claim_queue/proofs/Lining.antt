-- The lines that an end put and took, through each answer of a queue.
use Rattle.claim_queue.proofs.Common.{◌≡◌, ℕ, zero, suc, ◌+◌, ◌≤◌, ◌<◌, List, [], ◌∷◌, ◌++◌, map, length, set, sym, ap, subst, ◌∙◌, ⊎_elim, arith, get_or, map-append, map-set, some, get_elem?, Batch, Part, AllRaised, Distinct, number_of, blank, JoinedBy, at_map, set_again, at_push, ClaimedItems, run_of, Owns, KeepsClaims, line_of, View, run, taking, with_run, Raised, IsPut, TookItems}
use Rattle.table_theory.proofs.Leaving.{fresh_items}
use Rattle.claim_queue.specs.Lines.{SameLines, PutLine, TookLine}
use Rattle.claim_queue.proofs.Answered.{Does, claimed_own, put_own}
use Rattle.claim_queue.proofs.Raising.{run_items, owns_more, owns_after}

-- one run more is one line more
line_more : (v w : View) (e : Batch) (items : List ℕ) → line_of e ≡ items → Does v (with_run v.own e) w → PutLine items v w
line_more v w e items is d = record {
  puts = (λ k. map line_of (d.did k).runs) ∙ (map-append line_of v.own.runs (e ∷ []) ∙ (λ k. map line_of v.own.runs ++ is k ∷ []));
  takes = (λ k. map line_of (d.did k).takes);
  share = ap (λ (z : Part). z.share) d.member;
}

pub claimed_line : (room : ℕ) (v w : View) (start : ℕ) (items : List ℕ) → ClaimedItems room v start items w → PutLine items v w
claimed_line room v w start items h = line_more v w (run start items) items (fresh_items items) (claimed_own room v w start items h)

pub put_line : (room : ℕ) (v w : View) (start : ℕ) (items : List ℕ) → IsPut room v start items w → PutLine items v w
put_line room v w start items h = line_more v w (run_of start items (length items)) items (run_items items (length items)) (put_own room v w start items h)

-- a run that is raised further is the same line
same_line : (l : List Batch) (m : ℕ) (e f : Batch) → get_elem? l m ≡ some e → line_of f ≡ line_of e → map line_of (set l m f) ≡ map line_of l
same_line l m e f has is = map-set line_of l m f ∙ (ap (set (map line_of l) m) is ∙ set_again (map line_of l) m (line_of e) (at_map line_of l m e has))

pub raised_lines : (room : ℕ) (v w : View) (start : ℕ) (items : List ℕ) (i : ℕ) → Owns v start items i → Raised room v start items i w → SameLines v w
raised_lines room v w start items i own (r, is, made) = record {
  puts = (λ k. map line_of (made.did k).runs) ∙ same_line v.own.runs (number_of start v.own.runs) (run_of start items i) (run_of start items (i + 1)) own (run_items items (i + 1) ∙ sym (run_items items i));
  takes = (λ k. map line_of (made.did k).takes);
  share = ap (λ (z : Part). z.share) made.member;
}

pub more_claims : (v w : View) (e : Batch) → Does v (with_run v.own e) w → KeepsClaims v w
more_claims v w e d = owns_more v w (e ∷ []) (λ k. (d.did k).runs)

all_places : (start : ℕ) (xs : List ℕ) (i : ℕ) → i < length (run_of start xs (length xs)).places → 2 ≤ (get_or (run_of start xs (length xs)).places i blank).stage
all_places start [] i h = absurd (omega arith)
all_places start (x ∷ xs) zero h = omega arith
all_places start (x ∷ xs) (suc i) h = all_places start xs i (omega arith)

-- after a put, all runs are raised if they were before
pub raised_put : (room : ℕ) (v w : View) (start : ℕ) (items : List ℕ) → IsPut room v start items w → AllRaised v.own.runs → AllRaised w.own.runs
raised_put room v w start items h old = let d = put_own room v w start items h in let e : Batch = run_of start items (length items) in
    subst AllRaised (λ k. (sym d.did k).runs) (λ m f has i below. ⊎_elim (λ o. old m f o i below) (λ n. subst (λ (z : Batch). 2 ≤ (get_or z.places i blank).stage) n.1 (all_places start items i (subst (λ (z : Batch). i < length z.places) (sym n.1) below))) (at_push v.own.runs e f m has))

-- a taking is one line more
pub took_line : (room : ℕ) (v w : View) (items : List ℕ) → TookItems room v items w → TookLine items v w
took_line room v w items (tail, m, o, scan, are, first, made) = record {
  puts = (λ k. map line_of (made.did k).runs);
  takes = (λ k. map line_of (made.did k).takes) ∙ (map-append line_of v.own.takes (taking o.object (length items) ∷ []) ∙ (λ k. map line_of v.own.takes ++ first k ∷ []));
  share = ap (λ (z : Part). z.share) made.member;
}

-- a join
pub joined_claims : (v u w : View) → JoinedBy v u w → Distinct w.own.runs → KeepsClaims v w × KeepsClaims u w
joined_claims v u w t distinct = (owns_more v w u.own.runs (λ k. (t.own k).runs), owns_after u w v.own.runs (λ k. (t.own k).runs) distinct)
