-- What a try to put leaves of a holder.
use Rattle.pool.proofs.Common.{◌≡◌, ℕ, ◌%◌, ◌<◌, ◌≤◌, List, [], ◌∷◌, ◌++◌, map, length, refl, ap, subst, arith, MatchResult, Result, Ok, Err, dite, ℕ_discrete, Batch, ExtendsTrace, Step, PutRefusal, BatchState, head_word, PutLine, SameLines, items_of, View, IsPut, RefusedPut, published, IsFair, HoldsSame, Holds, Released, IsStocked, ListsFirst}
use Rattle.table_theory.specs.Positioned.{item_of}
use Rattle.pool.proofs.Steps.{Put, is_put, refused_put}
use Rattle.pool.proofs.Holding.{Rises, Since, lists_same, put_fair, put_held, put_lists, same_fair, same_held, stocked_long, stocked_since}

pub line_is : (items : List ℕ) → map item_of (map published items) ≡ items
line_is [] = refl
line_is (x ∷ items) = ap (λ (z : List ℕ). x ∷ z) (line_is items)

-- No head that a call has found is below one that the end had seen
abbrev pub HeadsRise : View → View → Type 0
HeadsRise v w = (before after : List (Step BatchState)) (e : Step BatchState) → ExtendsTrace v (before ++ e ∷ after) w → e.word ≡ head_word
    → length (items_of v.seen.object) ≤ e.found % 9223372036854775808

module _ (room count : ℕ) (v w : View) (items : List ℕ) (some : 0 < count) (stocked : IsStocked count v) (rise : HeadsRise v w) where
  abbrev pub Effect : Result ℕ PutRefusal → Type 0
  Effect r = MatchResult r (λ start. PutLine items v w) (λ e. SameLines v w)

  abbrev pub Trace : Result ℕ PutRefusal → Type 0
  Trace r = MatchResult r (λ start. IsPut room v start items w) (λ e. RefusedPut room v (length items) e w)

  -- a batch that is put after the pool's first begins past 0
  past : (start : ℕ) → Put v w start items → 0 < start
  past start p = dite (ℕ_discrete start 0)
      (λ zero_start. absurd (let a = rise [] p.after _ p.adds refl in let b = stocked_long count v stocked in let c = ap (λ (z : ℕ). z % 9223372036854775808) zero_start in omega arith))
      (λ ne. omega arith)

  abbrev batch : ℕ → Batch
  batch start = record { start = start; places = map published items }

  pub release_stocked : (r : Result ℕ PutRefusal) → Trace r → Since v w → Rises → IsStocked count w
  release_stocked (Ok start) t since rises = let d = (is_put room start items v w t).did in stocked_since count v w d.entries d.adds since rises stocked
  release_stocked (Err e) t since rises = let d = refused_put room (length items) v w e t in stocked_since count v w d.entries d.adds since rises stocked

  pub release_lists : (r : Result ℕ PutRefusal) → Trace r → ListsFirst count v → ListsFirst count w
  release_lists (Ok start) t l = let p = is_put room start items v w t in put_lists v w (batch start) items p.did.runs_are (past start p) (line_is items) count l
  release_lists (Err e) t l = lists_same count v w (refused_put room (length items) v w e t).runs_are l

  pub release_fair : (r : Result ℕ PutRefusal) → Effect r → Trace r → Holds v items → IsFair v → IsFair w
  release_fair (Ok start) e t h f = let p = is_put room start items v w t in put_fair v w (batch start) items p.did.runs_are (past start p) (line_is items) e.0.takes p.did.shuts_are h f
  release_fair (Err x) e t h f = let d = refused_put room (length items) v w x t in same_fair v w d.runs_are e.0.takes d.shuts_are f

  pub release_effect : (r : Result ℕ PutRefusal) → Effect r → Trace r → Holds v items → IsFair v → MatchResult r (λ start. Released items v w) (λ e. HoldsSame v w)
  release_effect (Ok start) e t h f = let p = is_put room start items v w t in record { line = e; less = put_held v w (batch start) items p.did.runs_are (past start p) (line_is items) e.0.takes h f }
  release_effect (Err x) e t h f = same_held v w (refused_put room (length items) v w x t).runs_are e.0.takes

  pub release_ok : (r : Result ℕ PutRefusal) (start : ℕ) → r ≡ Ok start → Effect r → Trace r → Holds v items → IsFair v → Released items v w
  release_ok r start is e t h f = subst (λ z. MatchResult z (λ s. Released items v w) (λ e. HoldsSame v w)) is (release_effect r e t h f)
