-- What each table allows its ends alike: a look, an exchange, and the steps on the number of ends.
use Rattle.table_theory.proofs.Common.{◌≡◌, ◌≢◌, ℕ, ◌+◌, ◌-◌, ◌%◌, ◌<◌, ◌≤◌, eqb, List, length, get_or, set, refl, some, get_elem?, AbsState, EndState, ObjectModel, TableInv}
use prog.Atomic.{either}
use Rattle.atomic_table.specs.Table.{State, Me, Act, stepped, keeps, Valid, carried_after, Allows}
use Rattle.atomic_table.proofs.Lists.{exchanged}
use Rattle.table_theory.proofs.Stepping.{looked, upped, downed, stands_look, stands_up, stands_down}

-- What a table's rule says of its object and its ends, and that it is kept by a step that leaves the object as it is, and
-- what the end did
pub record IsTable {S K O : Type 0} (Holds : State S (EndState K O) → Type 0) (T : ObjectModel O) (nothing : K) (first : O) : Type 0 where
  pub now : (s : State S (EndState K O)) → Holds s → AbsState O
  pub stands : (s : State S (EndState K O)) (k : Holds s) → TableInv T nothing first (now s k) s.words s.views
  pub kept : (s : State S (EndState K O)) (k : Holds s) (words : List ℕ) (id number : ℕ) (v w : EndState K O) → get_elem? s.views id ≡ some v → w.own ≡ v.own → w.seen ≡ record (now s k) { ends = number }
      → TableInv T nothing first (record (now s k) { ends = number }) words (set s.views id w)
      → (r : Holds record { words = words; homes = s.homes; views = set s.views id w }) × (w.seen ≡ now (record { words = words; homes = s.homes; views = set s.views id w }) r)
  pub wide : (o : O) (words : List ℕ) → T.Shows o words → T.ends_word < length words
  pub recounted : (o : O) (words : List ℕ) (y : ℕ) → T.Shows o words → T.Shows o (set words T.ends_word y)

module _ {S K O : Type 0} {Holds : State S (EndState K O) → Type 0} {T : ObjectModel O} {nothing : K} {first : O} (t : IsTable Holds T nothing first) (n id : ℕ) (me : Me S (EndState K O)) where
  -- what a step owes if the word becomes y
  abbrev pub Goes : State S (EndState K O) → ℕ → ℕ → (Me S (EndState K O) → Type 0) → Type 0
  Goes s i y P = (w : EndState K O) × (a : Act S) × Valid s.homes me.1 a × Holds (stepped s i y id me.1 w a) × P (w, carried_after me.1 a)

  -- the rule is kept by the step, and the end has seen the object as it then is
  abbrev pub Behind : State S (EndState K O) → ℕ → ℕ → EndState K O → Type 0
  Behind s i y w = (r : Holds record { words = set s.words i y; homes = s.homes; views = set s.views id w }) × (w.seen ≡ t.now (record { words = set s.words i y; homes = s.homes; views = set s.views id w }) r)

  module _ (P : ℕ → Me S (EndState K O) → Type 0) where
    -- whatever the table is, what the step that makes w of the end leaves has this
    abbrev pub StepShows : ℕ → (ℕ → ℕ) → ((s : State S (EndState K O)) (k : Holds s) → get_elem? s.views id ≡ some me.0 → EndState K O) → Type 0
    StepShows i f w = (s : State S (EndState K O)) (k : Holds s) (at : get_elem? s.views id ≡ some me.0) → Behind s i (f (get_or s.words i 0)) (w s k at) → P (get_or s.words i 0) (w s k at, me.1)

    goes_look : (s : State S (EndState K O)) (k : Holds s) (at : get_elem? s.views id ≡ some me.0) (i : ℕ) → 1 ≤ me.0.member.ends
        → (Behind s i (get_or s.words i 0) (looked (t.stands s k) id me.0 at i) → P (get_or s.words i 0) (looked (t.stands s k) id me.0 at i, me.1)) → Goes s i (get_or s.words i 0) (P (get_or s.words i 0))
    goes_look s k at i live p = let w : EndState K O = looked (t.stands s k) id me.0 at i in let r = t.kept s k (set s.words i (get_or s.words i 0)) id (t.now s k).ends me.0 w at refl refl (stands_look (t.stands s k) id me.0 at i live) in (w, keeps, tt, r.0, p r)

    pub looks : (i : ℕ) → 1 ≤ me.0.member.ends → StepShows i (λ x. x) (λ s k at. looked (t.stands s k) id me.0 at i) → Allows Holds n id me i (λ x. x) P
    looks i live p s k _ at _ = goes_look s k at i live (p s k at)

    pub exchanges : (i old new : ℕ) → 1 ≤ me.0.member.ends → ((s : State S (EndState K O)) (k : Holds s) → get_elem? s.views id ≡ some me.0 → get_or s.words i 0 ≡ old → Goes s i new (P (get_or s.words i 0)))
        → ((s : State S (EndState K O)) (k : Holds s) (at : get_elem? s.views id ≡ some me.0) → get_or s.words i 0 ≢ old → Behind s i (get_or s.words i 0) (looked (t.stands s k) id me.0 at i) → P (get_or s.words i 0) (looked (t.stands s k) id me.0 at i, me.1))
        → Allows Holds n id me i (λ x. either (eqb x old) new x) P
    exchanges i old new live hits misses s k _ at _ = exchanged (get_or s.words i 0) old new (λ y. Goes s i y (P (get_or s.words i 0))) (λ hit. hits s k at hit) (λ miss. goes_look s k at i live (misses s k at miss))

    pub ups : me.0.member.ends + 1 ≤ me.0.member.share → StepShows T.ends_word (λ x. (x + 1) % 18446744073709551616) (λ s k at. upped (t.stands s k) id me.0 at) → Allows Holds n id me T.ends_word (λ x. (x + 1) % 18446744073709551616) P
    ups parts p s k _ at _ = let st = t.stands s k in let m : AbsState O = t.now s k in let w : EndState K O = upped st id me.0 at in
        let r = t.kept s k (set s.words T.ends_word ((get_or s.words T.ends_word 0 + 1) % 18446744073709551616)) id (m.ends + 1) me.0 w at refl refl (stands_up st id me.0 at parts (t.wide m.object s.words st.shows) (λ y. t.recounted m.object s.words y st.shows)) in (w, keeps, tt, r.0, p s k at r)

    pub downs : 2 ≤ me.0.member.ends → StepShows T.ends_word (λ x. (x + (18446744073709551616 - 1)) % 18446744073709551616) (λ s k at. downed (t.stands s k) id me.0 at) → Allows Holds n id me T.ends_word (λ x. (x + (18446744073709551616 - 1)) % 18446744073709551616) P
    downs two p s k _ at _ = let st = t.stands s k in let m : AbsState O = t.now s k in let w : EndState K O = downed st id me.0 at in
        let r = t.kept s k (set s.words T.ends_word ((get_or s.words T.ends_word 0 + (18446744073709551616 - 1)) % 18446744073709551616)) id (m.ends - 1) me.0 w at refl refl (stands_down st id me.0 at two (t.wide m.object s.words st.shows) (λ y. t.recounted m.object s.words y st.shows)) in (w, keeps, tt, r.0, p s k at r)
