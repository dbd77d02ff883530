-- An end with the whole share always finds the end of a taking of some items: no other end changes a mark meanwhile.
use Rattle.batch_queue.proofs.Common.{BatchState, EndRecord, IsValidView, IsValidStep, IsWhole, Lawful, List, Performed, MarkSays, AbsState, Step, View, [], ap, append_assoc, arith, items_of, length, load, mark_word, of_batches, refl, subst, sym, tail_word, with_part, ℕ, ⊎_elim, ◌++◌, ◌+◌, ◌/◌, ◌<◌, ◌∙◌, ◌∷◌, ◌≡◌, ◌≤◌}
use Rattle.std.specs.List.{AllByRecursion}
use Rattle.table_theory.specs.Courses.{Continues}
use Rattle.table_theory.proofs.Reaching.{all_after, alone_since}
use Rattle.batch_queue.specs.declared.refusals.TakeRefusal.TheVariants as not_taken
use Rattle.batch_queue.specs.Parts.{LostBy, NoStop, NotPartedBy, PartedBy, PassedStop, Reached, RefusedTakeSome, StopBy, after_walk, all, already, at_tail, changed, given, meanwhile, no_more, not_parted, one_more, parted, passed, with_parts, within}
use Rattle.batch_queue.specs.Takings.{PassedEmpty}
use Rattle.batch_queue.specs.Walks.{IsWalk, LeadsOn, Walk, end_of, walked}
use Rattle.batch_queue.proofs.Growing.{freed_taken, taken_claimed}
use Rattle.batch_queue.proofs.Reporting.{mark_is, tail_says}
use Rattle.batch_queue.proofs.Unrivalled.{followed_stays, passed_empty, take_not_lost}
use Rattle.batch_queue.proofs.Dividing.{none_parted}
use Rattle.std.specs.Prelude.{min}
use Rattle.batch_queue.proofs.Walking.{mark_at, up_claimed}

abbrev Steps : Type 0
Steps = List (Step BatchState)

abbrev Real : Steps → Type 0
Real es = AllByRecursion (IsValidStep of_batches) es

-- what a mark says that was found at this moment
found_says : (a : AbsState BatchState) (p mark : ℕ) → IsValidStep of_batches (load (mark_word a.object.room p) mark a) → a.object.freed ≤ p → p ≤ length (items_of a.object) → p < mark / 2 → MarkSays a.object p mark
found_says a p mark r from to on = mark_at a.object r.words p mark r.lawful r.shows from to (sym r.is) on

-- an even one says that the positions up to its half were claimed
found_up : (a : AbsState BatchState) (p mark : ℕ) → IsValidStep of_batches (load (mark_word a.object.room p) mark a) → a.object.freed ≤ p → p ≤ length (items_of a.object) → LeadsOn 0 p mark → mark / 2 ≤ length (items_of a.object)
found_up a p mark r from to on = up_claimed a.object r.lawful p (mark / 2) to ((found_says a p mark r from to on.1).up on.0)

-- a walk along the marks of this moment goes no further than to the head
walk_up : (a : AbsState BatchState) (most p : ℕ) (walk : Walk) (ys : Steps) (b : AbsState BatchState) → a.object.freed ≤ p → p ≤ length (items_of a.object) → IsWalk 0 most p walk
    → Continues a (walked a.object.room p walk ++ ys) b → Real (walked a.object.room p walk ++ ys) → (p ≤ end_of p walk) × (end_of p walk ≤ length (items_of a.object))
walk_up a most p [] ys b from to is c r = (omega arith, to)
walk_up a most p (f ∷ walk) ys b from to is c r =
    let here = subst (λ (z : AbsState BatchState). IsValidStep of_batches (load (mark_word a.object.room p) f.0 z)) (sym c.0) r.0 in
    let past = is.0.1 in let up = found_up a p f.0 here from to is.0 in
    let rest = walk_up a most (f.0 / 2) walk ys b (omega arith) up is.2 (subst (λ (z : AbsState BatchState). Continues z (walked a.object.room (f.0 / 2) walk ++ ys) b) (sym c.0) c.1) r.1 in
    let low = rest.0 in (omega arith, rest.1)

-- the mark was found at this moment, which the loads left as it was; it is one of a position from the tail on
record AtMark (room tail most at mark : ℕ) (a b : AbsState BatchState) (ys : Steps) : Type 0 where
  on : Continues a ys b
  real : Real ys
  found : IsValidStep of_batches (load (mark_word room at) mark a)
  far : at ≤ tail + most
  low : tail ≤ at
  high : at ≤ length (items_of a.object)

module _ (room tail most : ℕ) (a b : AbsState BatchState) (lawful : Lawful a.object) (rooms : a.object.room ≡ room) (tail_is : tail ≡ a.object.taken) where
  from_free : a.object.freed ≤ tail
  from_free = let f = freed_taken a.object lawful in omega arith

  to_head : tail ≤ length (items_of a.object)
  to_head = let t = taken_claimed a.object lawful in omega arith

  reached_at : (at mark : ℕ) (loads ys : Steps) → Reached room tail most at mark loads → Continues a (loads ++ ys) b → Real (loads ++ ys) → AtMark room tail most at mark a b ys
  reached_at at mark loads ys (at_tail same m is) c r =
      let d = subst (λ (z : Steps). Continues a (z ++ ys) b) is c in let q = subst (λ (z : Steps). Real (z ++ ys)) is r in record {
        on = subst (λ (z : AbsState BatchState). Continues z ys b) (sym d.0) d.1;
        real = q.1;
        found = subst (λ (z : ℕ). IsValidStep of_batches (load (mark_word room z) mark a)) (sym same) (subst (λ (z : AbsState BatchState). IsValidStep of_batches (load (mark_word room tail) mark z)) (sym d.0) q.0);
        far = omega arith;
        low = omega arith;
        high = let h = to_head in omega arith;
      }
  reached_at at mark loads ys (after_walk walk f less m is) c r =
      let last : Steps = load (mark_word room at) mark m ∷ [] in
      let joined : loads ++ ys ≡ walk ++ (last ++ ys) = ap (λ (z : Steps). z ++ ys) is ∙ append_assoc walk last ys in
      let c' : Continues a (walk ++ (last ++ ys)) b = subst (λ (z : Steps). Continues a z b) joined c in let r' : Real (walk ++ (last ++ ys)) = subst Real joined r in
      let d = followed_stays 0 (tail + most) room tail at walk (last ++ ys) a b f c' in let q = all_after (IsValidStep of_batches) walk (last ++ ys) r' in
      let rest : walk ++ (last ++ ys) ≡ walked room tail f.walk ++ (f.stop ++ (last ++ ys)) = ap (λ (z : Steps). z ++ (last ++ ys)) f.loads_are ∙ append_assoc (walked room tail f.walk) f.stop (last ++ ys) in
      let c'' = subst (λ (z : ℕ). Continues a (walked z tail f.walk ++ (f.stop ++ (last ++ ys))) b) (sym rooms) (subst (λ (z : Steps). Continues a z b) rest c') in
      let r'' = subst (λ (z : ℕ). Real (walked z tail f.walk ++ (f.stop ++ (last ++ ys)))) (sym rooms) (subst Real rest r') in
      let up = walk_up a (tail + most) tail f.walk (f.stop ++ (last ++ ys)) b from_free to_head f.leads c'' r'' in let low = up.0 in let high = up.1 in let end = f.end in record {
        on = subst (λ (z : AbsState BatchState). Continues z ys b) (sym d.0) d.1;
        real = q.1;
        found = subst (λ (z : AbsState BatchState). IsValidStep of_batches (load (mark_word room at) mark z)) (sym d.0) q.0;
        far = omega arith;
        low = omega arith;
        high = omega arith;
      }

  -- a position of a batch that is published and not taken is not given back, and its mark is one number
  stop_is_known : (at mark : ℕ) (ys after : Steps) → AtMark room tail most at mark a b (after ++ ys) → LeadsOn 0 at mark → tail + most < mark / 2 → NotPartedBy room (tail + most) after → ⊥
  stop_is_known at mark ys after h on past (given found m odd is) =
      let d = subst (λ (z : Steps). Continues a (z ++ ys) b) is h.on in let q = subst (λ (z : Steps). Real (z ++ ys)) is h.real in
      let f = from_free in let low = h.low in
      let here = subst (λ (z : ℕ). IsValidStep of_batches (load (mark_word z at) mark a)) (sym rooms) h.found in
      let there = subst (λ (z : ℕ). IsValidStep of_batches (load (mark_word z (tail + most)) found a)) (sym rooms) (subst (λ (z : AbsState BatchState). IsValidStep of_batches (load (mark_word room (tail + most)) found z)) (sym d.0) q.0) in
      let up = found_up a at mark here (omega arith) h.high on in
      let says = found_says a (tail + most) found there (omega arith) (omega arith) odd.1 in
      let three = says.back odd.0 (tail + most) (omega arith) odd.1 in let one = lawful.after (tail + most) (omega arith) in omega arith
  stop_is_known at mark ys after h on past (changed first second m n idle ne none is) =
      let d = subst (λ (z : Steps). Continues a (z ++ ys) b) is h.on in let q = subst (λ (z : Steps). Real (z ++ ys)) is h.real in
      let one = subst (λ (z : ℕ). IsValidStep of_batches (load (mark_word z (tail + most)) first a)) (sym rooms) (subst (λ (z : AbsState BatchState). IsValidStep of_batches (load (mark_word room (tail + most)) first z)) (sym d.0) q.0) in
      let two = subst (λ (z : ℕ). IsValidStep of_batches (load (mark_word z (tail + most)) second a)) (sym rooms) (subst (λ (z : AbsState BatchState). IsValidStep of_batches (load (mark_word room (tail + most)) second z)) (sym (d.0 ∙ d.1.0)) q.1.0) in
      ne (mark_is (load (mark_word a.object.room (tail + most)) second a) (tail + most) refl two ∙ sym (mark_is (load (mark_word a.object.room (tail + most)) first a) (tail + most) refl one))

  pub not_lost_by : (now : ℕ) (looks : Steps) → LostBy room tail most now looks → Continues a looks b → Real looks → ⊥
  not_lost_by now looks (passed at mark before again r on past after is) c q =
      let last : Steps = load tail_word now again ∷ [] in
      let h = reached_at at mark before last r (subst (λ (z : Steps). Continues a z b) is c) (subst Real is q) in
      let now_is = tail_says (load tail_word now again) refl h.real.0 in let same = ap (λ (z : AbsState BatchState). z.object.taken) h.on.0 in omega arith
  not_lost_by now looks (not_parted at mark before after again last r on past none is) c q =
      let ys : Steps = load tail_word now last ∷ [] in
      let h = reached_at at mark before (load tail_word tail again ∷ (after ++ ys)) r (subst (λ (z : Steps). Continues a z b) is c) (subst Real is q) in
      stop_is_known at mark ys after record { on = subst (λ (z : AbsState BatchState). Continues z (after ++ ys) b) (sym h.on.0) h.on.1; real = h.real.1; found = h.found; far = h.far; low = h.low; high = h.high } on past none

-- after these entries nothing more is taken
record TailStays (a b : AbsState BatchState) (ys : Steps) : Type 0 where
  then : AbsState BatchState
  on : Continues then ys b
  real : Real ys
  same : then.object.taken ≡ a.object.taken

part_stays : (room p end parts : ℕ) (a b : AbsState BatchState) (after ys : Steps) → PartedBy room p end parts after → Continues a (after ++ ys) b → Real (after ++ ys) → TailStays a b ys
part_stays room p end parts a b after ys (already mark m on none is) c r = let d = subst (λ (z : Steps). Continues a (z ++ ys) b) is c in
    record { then = m; on = d.1; real = (subst (λ (z : Steps). Real (z ++ ys)) is r).1; same = ap (λ (z : AbsState BatchState). z.object.taken) (sym d.0) }
part_stays room p end parts a b after ys (parted mark m n low one is) c r = let d = subst (λ (z : Steps). Continues a (z ++ ys) b) is c in
    record { then = record n { object = with_part n.object p end }; on = d.1.1; real = (subst (λ (z : Steps). Real (z ++ ys)) is r).1.1; same = ap (λ (z : AbsState BatchState). z.object.taken) (sym (d.0 ∙ d.1.0)) }
part_stays room p end parts a b after ys (meanwhile mark found m n low ne on none is) c r = let d = subst (λ (z : Steps). Continues a (z ++ ys) b) is c in
    record { then = n; on = d.1.1; real = (subst (λ (z : Steps). Real (z ++ ys)) is r).1.1; same = ap (λ (z : AbsState BatchState). z.object.taken) (sym (d.0 ∙ d.1.0)) }

module _ (room tail most : ℕ) (a b : AbsState BatchState) (lawful : Lawful a.object) (rooms : a.object.room ≡ room) (tail_is : tail ≡ a.object.taken) (ys : Steps) where
  at_stop : (at mark : ℕ) (loads : Steps) → Reached room tail most at mark loads → Continues a (loads ++ ys) b → Real (loads ++ ys) → TailStays a b ys
  at_stop at mark loads r c q = let h = reached_at room tail most a b lawful rooms tail_is at mark loads ys r c q in record { then = a; on = h.on; real = h.real; same = refl }

  stop_stays : (to parts : ℕ) (looks : Steps) → StopBy room tail most to parts looks → Continues a (looks ++ ys) b → Real (looks ++ ys) → TailStays a b ys
  stop_stays to parts looks (all f is none) c r = record { then = a; on = followed_stays 0 (tail + most) room tail to looks ys a b f c; real = all_after (IsValidStep of_batches) looks ys r; same = refl }
  stop_stays to parts looks (no_more mark r nothing none) c q = at_stop to mark looks r c q
  stop_stays to parts looks (one_more at mark more r on is fits none) c q = at_stop at mark looks r c q
  stop_stays to parts looks (within at mark before after again r on far is by are) c q =
      let tail_again : Step BatchState = load tail_word tail again in
      let joined : looks ++ ys ≡ before ++ (tail_again ∷ (after ++ ys)) = ap (λ (z : Steps). z ++ ys) are ∙ append_assoc before (tail_again ∷ after) ys in
      let h = reached_at room tail most a b lawful rooms tail_is at mark before (tail_again ∷ (after ++ ys)) r (subst (λ (z : Steps). Continues a z b) joined c) (subst Real joined q) in
      let p = part_stays room to (mark / 2) parts again b after ys by h.on.1 h.real.1 in
      record { then = p.then; on = p.on; real = p.real; same = p.same ∙ ap (λ (z : AbsState BatchState). z.object.taken) (sym h.on.0) }

module _ (v w : View) (x : IsValidView of_batches v) (y : IsValidView of_batches w) (whole : IsWhole v.member.share) (room : ℕ) (rooms : v.seen.object.room ≡ room) where
  no_stop : (most now : ℕ) → NoStop (λ parts entries. Performed v entries (with_parts v.own parts) w) room most now → ⊥
  no_stop most now n = let s = alone_since of_batches v w (load tail_word n.tail n.at_tail ∷ n.looks) whole x y n.added.adds in
      not_lost_by room n.tail (min most room) n.at_tail w.seen s.1.0.lawful (ap (λ (z : AbsState BatchState). z.object.room) (sym s.0.0) ∙ rooms) (tail_says (load tail_word n.tail n.at_tail) refl s.1.0) now n.looks n.lost s.0.1 s.1.1

  passed_stop : (most now : ℕ) → PassedStop (λ parts entries. Performed v entries (with_parts v.own parts) w) room most now → ⊥
  passed_stop most now p = let last : Step BatchState = load tail_word now p.at_exchange in let s = alone_since of_batches v w (load tail_word p.tail p.at_tail ∷ (p.looks ++ last ∷ [])) whole x y p.added.adds in
      let tail_is = tail_says (load tail_word p.tail p.at_tail) refl s.1.0 in
      let t = stop_stays room p.tail (min most room) p.at_tail w.seen s.1.0.lawful (ap (λ (z : AbsState BatchState). z.object.room) (sym s.0.0) ∙ rooms) tail_is (last ∷ []) p.to p.parts p.looks p.stops s.0.1 s.1.1 in
      let now_is = tail_says last refl t.real.0 in let same = ap (λ (z : AbsState BatchState). z.object.taken) t.on.0 in let stays = t.same in let past = p.past in omega arith

  pub some_not_lost : (most now : ℕ) → RefusedTakeSome room v most (not_taken.Lost now) w → ⊥
  some_not_lost most now h = ⊎_elim
      (λ t. take_not_lost v w x y whole room most now t.1)
      (λ t. ⊎_elim (λ e. passed_empty v w x y whole room now (subst (λ (z : EndRecord). PassedEmpty (λ entries. Performed v entries z w) room now) (sym (none_parted v.own)) e)) (λ u. ⊎_elim (λ p. passed_stop most now p) (λ n. no_stop most now n) u) t)
      h
