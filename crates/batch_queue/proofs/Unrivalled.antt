-- An end with the whole share steps alone: a number that it found, it finds again.
use Rattle.batch_queue.proofs.Common.{BatchState, Bool, IsValidView, IsValidStep, IsWhole, List, Performed, AbsState, SHUT, Step, View, [], ap, append_assoc, arith, free_word, head_word, items_of, length, load, of_batches, refl, subst, sym, tail_word, true, with_freed, ℕ, ⊎_elim, ◌++◌, ◌+◌, ◌/◌, ◌<◌, ◌∙◌, ◌∷◌, ◌≡◌}
use Rattle.std.proofs.Common.{true≢false}
use Rattle.std.specs.List.{AllByRecursion}
use Rattle.std.specs.Prelude.{min}
use Rattle.table_theory.specs.Courses.{Continues}
use Rattle.table_theory.proofs.Reaching.{all_after, alone_since}
use Rattle.batch_queue.specs.declared.refusals.PutRefusal.TheVariants as not_put
use Rattle.batch_queue.specs.declared.refusals.TakeRefusal.TheVariants as not_taken
use Rattle.batch_queue.specs.Own.{OnlyLoads}
use Rattle.batch_queue.specs.Puts.{FoundOther, LackedRoom, RefusedPut, RefusedSome}
use Rattle.batch_queue.specs.Takings.{PassedEmpty, PassedFound, PassedLong, RefusedTake}
use Rattle.batch_queue.specs.Walks.{FollowedBy, FreeBy, IsHelp, IsStop, Walk, at_mark, at_most, at_once, by_help, exchanged, overtaken, still, walked}
use Rattle.batch_queue.proofs.Heading.{open_head}
use Rattle.batch_queue.proofs.Reporting.{free_says, head_says, tail_says}

abbrev Steps : Type 0
Steps = List (Step BatchState)

-- loads leave the queue as they found it
walked_stays : (room p : ℕ) (walk : Walk) (ys : Steps) (a b : AbsState BatchState) → Continues a (walked room p walk ++ ys) b → Continues a ys b
walked_stays room p [] ys a b c = c
walked_stays room p (f ∷ walk) ys a b c = subst (λ (z : AbsState BatchState). Continues z ys b) (sym c.0) (walked_stays room (f.0 / 2) walk ys f.1 b c.1)

stop_stays : (parity most room p : ℕ) (loads ys : Steps) (a b : AbsState BatchState) → IsStop parity most room p loads → Continues a (loads ++ ys) b → Continues a ys b
stop_stays parity most room p loads ys a b (at_most is no_load) c = subst (λ (z : Steps). Continues a (z ++ ys) b) no_load c
stop_stays parity most room p loads ys a b (at_mark low number m no_lead is) c = let d = subst (λ (z : Steps). Continues a (z ++ ys) b) is c in subst (λ (z : AbsState BatchState). Continues z ys b) (sym d.0) d.1

pub followed_stays : (parity most room from to : ℕ) (loads ys : Steps) (a b : AbsState BatchState) → FollowedBy parity most room from to loads → Continues a (loads ++ ys) b → Continues a ys b
followed_stays parity most room from to loads ys a b f c = stop_stays parity most room to f.stop ys a b f.stops
    (walked_stays room from f.walk (f.stop ++ ys) a b (subst (λ (z : Steps). Continues a z b) (append_assoc (walked room from f.walk) f.stop ys) (subst (λ (z : Steps). Continues a (z ++ ys) b) f.loads_are c)))

-- after these entries nothing more is claimed
record Claims (a b : AbsState BatchState) (ys : Steps) : Type 0 where
  then : AbsState BatchState
  on : Continues then ys b
  same : items_of then.object ≡ items_of a.object

help_claims : (first to found : ℕ) (last : Step BatchState) (ys : Steps) (a b : AbsState BatchState) → IsHelp first to found last → Continues a (last ∷ ys) b → Claims a b ys
help_claims first to found last ys a b (exchanged less is m e) c = let d = subst (λ (z : Step BatchState). Continues a (z ∷ ys) b) e c in record { then = record m { object = with_freed m.object to }; on = d.1; same = ap (λ (z : AbsState BatchState). items_of z.object) (sym d.0) }
help_claims first to found last ys a b (still is same m e) c = let d = subst (λ (z : Step BatchState). Continues a (z ∷ ys) b) e c in record { then = m; on = d.1; same = ap (λ (z : AbsState BatchState). items_of z.object) (sym d.0) }
help_claims first to found last ys a b (overtaken past m e) c = let d = subst (λ (z : Step BatchState). Continues a (z ∷ ys) b) e c in record { then = m; on = d.1; same = ap (λ (z : AbsState BatchState). items_of z.object) (sym d.0) }

looks_claim : (room new free : ℕ) (moved : Bool) (looks ys : Steps) (a b : AbsState BatchState) → FreeBy room new free moved looks → Continues a (looks ++ ys) b → Claims a b ys
looks_claim room new free moved looks ys a b (at_once fits same m e) c = let d = subst (λ (z : Steps). Continues a (z ++ ys) b) e c in record { then = m; on = d.1; same = ap (λ (z : AbsState BatchState). items_of z.object) (sym d.0) }
looks_claim room new free moved looks ys a b (by_help first m help less h e) c = let d = subst (λ (z : Steps). Continues a (z ++ ys) b) e c in
    let on : Continues m ((h.loads ++ h.last ∷ []) ++ ys) b = subst (λ (z : Steps). Continues m (z ++ ys) b) h.entries_are d.1 in
    let l = followed_stays 1 (first + room) room first h.to h.loads (h.last ∷ ys) m b h.followed (subst (λ (z : Steps). Continues m z b) (append_assoc h.loads (h.last ∷ []) ys) on) in
    let r = help_claims first h.to h.found h.last ys m b h.by l in record { then = r.then; on = r.on; same = r.same ∙ ap (λ (z : AbsState BatchState). items_of z.object) (sym d.0) }

-- a free position that was found is not passed by the end's own loads
not_passed : (first to found : ℕ) (last : Step BatchState) (m b : AbsState BatchState) → IsHelp first to found last → first < found → first ≡ m.object.freed → Continues m (last ∷ []) b → IsValidStep of_batches last → ⊥
not_passed first to found last m b (exchanged less is n e) past at c r = omega arith
not_passed first to found last m b (still is same n e) past at c r = omega arith
not_passed first to found last m b (overtaken more n e) past at c r = let d = subst (λ (z : Step BatchState). Continues m (z ∷ []) b) e c in let is = free_says (load free_word found n) refl (subst (IsValidStep of_batches) e r) in let same = ap (λ (z : AbsState BatchState). z.object.freed) d.0 in omega arith

module _ (v w : View) (x : IsValidView of_batches v) (y : IsValidView of_batches w) (whole : IsWhole v.member.share) where
  lacked : (room count least head free : ℕ) → LackedRoom (λ entries. OnlyLoads v entries w) room count least head free true → ⊥
  lacked room count least head free l = let s = alone_since of_batches v w (load head_word head l.at_head ∷ l.looks) whole x y l.added.adds in moved_by l.looks l.at_head l.looked s.0.1 s.1.1
    where
      moved_by : (looks : Steps) (a : AbsState BatchState) → FreeBy room (head + count) free true looks → Continues a looks w.seen → AllByRecursion (IsValidStep of_batches) looks → ⊥
      moved_by looks a (at_once fits same m e) c r = true≢false same
      moved_by looks a (by_help first m help less h e) c r =
          let d = subst (λ (z : Steps). Continues a z w.seen) e c in let q = subst (AllByRecursion (IsValidStep of_batches)) e r in
          let on : Continues m (h.loads ++ h.last ∷ []) w.seen = subst (λ (z : Steps). Continues m z w.seen) h.entries_are d.1 in
          let l = followed_stays 1 (first + room) room first h.to h.loads (h.last ∷ []) m w.seen h.followed on in
          let real = all_after (IsValidStep of_batches) h.loads (h.last ∷ []) (subst (AllByRecursion (IsValidStep of_batches)) h.entries_are q.1) in
          not_passed first h.to h.found h.last m w.seen h.by h.is.1 (free_says (load free_word first m) refl q.0) l real.0

  other : (room count least head now : ℕ) → head < now → now < SHUT → FoundOther (λ entries. OnlyLoads v entries w) room count least head now → ⊥
  other room count least head now less is_open f = let last : Step BatchState = load head_word now f.at_exchange in let s = alone_since of_batches v w (load head_word head f.at_head ∷ (f.looks ++ last ∷ [])) whole x y f.added.adds in
      let c = looks_claim room (head + count) f.free f.moved f.looks (last ∷ []) f.at_head w.seen f.looked s.0.1 in let real = all_after (IsValidStep of_batches) f.looks (last ∷ []) s.1.1 in
      let h = (open_head f.at_head.object.shut (length (items_of f.at_head.object)) head (head_says (load head_word head f.at_head) refl s.1.0).0 (omega arith)).1 in
      let h' = (open_head f.at_exchange.object.shut (length (items_of f.at_exchange.object)) now (head_says last refl real.0).0 is_open).1 in
      let same : length (items_of f.at_exchange.object) ≡ length (items_of f.at_head.object) = ap length (ap (λ (z : AbsState BatchState). items_of z.object) (sym c.on.0) ∙ c.same) in omega arith

  pub put_not_lost : (room count head : ℕ) → RefusedPut room v count (not_put.Lost head) w → ⊥
  put_not_lost room count now (fits, h) = ⊎_elim (λ t. lacked room count count now t.0 t.1) (λ t. other room count count t.0 now t.1 t.2 t.3) h

  pub put_some_not_lost : (room count head : ℕ) → RefusedSome room v count (not_put.Lost head) w → ⊥
  put_some_not_lost room count now (some_item, h) = ⊎_elim (λ t. lacked room (min count room) 1 now t.0 t.1) (λ t. other room (min count room) 1 t.0 now t.1 t.2 t.3) h

  pub passed_empty : (room now : ℕ) → PassedEmpty (λ entries. Performed v entries v.own w) room now → ⊥
  passed_empty room now p = let g = p.glance in let s = alone_since of_batches v w _ whole x y p.added.adds in let t = tail_says (load tail_word g.tail g.at_tail) refl s.1.0 in let t' = tail_says (load tail_word now p.again) refl s.1.1.1.1.0 in
      let same = ap (λ (z : AbsState BatchState). z.object.taken) (s.0.1.0 ∙ (s.0.1.1.0 ∙ s.0.1.1.1.0)) in let past = p.past in omega arith

  passed_long : (room most now : ℕ) → PassedLong (λ entries. Performed v entries v.own w) room most now → ⊥
  passed_long room most now p = let g = p.glance in let s = alone_since of_batches v w _ whole x y p.added.adds in let t = tail_says (load tail_word g.tail g.at_tail) refl s.1.0 in let t' = tail_says (load tail_word now p.again) refl s.1.1.1.0 in
      let same = ap (λ (z : AbsState BatchState). z.object.taken) (s.0.1.0 ∙ s.0.1.1.0) in let past = p.past in omega arith

  passed_found : (room most now : ℕ) → PassedFound (λ entries. Performed v entries v.own w) room most now → ⊥
  passed_found room most now p = let last : Step BatchState = load tail_word now p.at_exchange in let s = alone_since of_batches v w (load tail_word p.tail p.at_tail ∷ (p.loads ++ last ∷ [])) whole x y p.added.adds in
      let c = followed_stays 0 _ room p.tail p.new p.loads (last ∷ []) p.at_tail w.seen p.followed s.0.1 in let real = all_after (IsValidStep of_batches) p.loads (last ∷ []) s.1.1 in
      let t = tail_says (load tail_word p.tail p.at_tail) refl s.1.0 in let t' = tail_says last refl real.0 in let same = ap (λ (z : AbsState BatchState). z.object.taken) c.0 in let past = p.past in omega arith

  pub take_not_lost : (room most tail : ℕ) → RefusedTake room v most (not_taken.Lost tail) w → ⊥
  take_not_lost room most now h = ⊎_elim (λ p. passed_empty room now p) (λ t. ⊎_elim (λ p. passed_long room most now p) (λ p. passed_found room most now p) t) h
