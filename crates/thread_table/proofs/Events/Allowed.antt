-- Each step that is an event keeps the rule, where the event may be made.
use Rattle.thread_table.proofs.Common.{◌≡◌, ℕ, ◌*◌, ◌%◌, ◌^◌, ◌<◌, eqb, get_or, sym, refl, ap, ◌∙◌, subst, arith, mod-eq_of_lt, pow-lt, none, Me, keeps, Allows, Event, Shape, View, IsActive, Rule}
use prog.Atomic.{either}
use Rattle.atomic_table.specs.Table.{Act, step, stepped, Valid, carried_after}
use Rattle.atomic_table.proofs.Lists.{exchanged}
use Rattle.thread_table.specs.Schedules.{elements_after}
use Rattle.thread_table.specs.Steps.{makes, stores, tries}
use Rattle.thread_table.proofs.Events.Effects.{May, Anything}
use Rattle.thread_table.proofs.Hands.OnlyLoads.{steps_to, now_at, kept_look, looked, stood_look, found_now, ready_of}
use Rattle.thread_table.proofs.Hands.Making.{made}
use Rattle.thread_table.proofs.Hands.Strangers.{others_count}

-- the step, where its call, its event and its word have other names
named : {id word : ℕ} {event : Event} (P : ℕ → Event → ℕ → Type 0) (call place : ℕ) (is_event : Event) → call ≡ id → is_event ≡ event → place ≡ word → P id event word → P call is_event place
named {id} {word} {event} P call place is_event mine is here p = subst (λ (c : ℕ). P c is_event place) (sym mine) (subst (λ (d : Event). P id d place) (sym is) (subst (P id event) (sym here) p))

module _ {key : Shape} {id : ℕ} {me : Me Unit View} {event : Event} {word : ℕ} (live : IsActive me.0) where
  pub makes_it : {next : ℕ → ℕ} → May id me.0 event word Anything next → (n call place : ℕ) (is_event : Event) → call ≡ id → is_event ≡ event → place ≡ word
      → Allows (Rule key) n id me place next (makes call is_event (step n place 0 0 none) me)
  makes_it {next} m n call place is_event mine is here = named (λ c d i. Allows (Rule key) n id me i next (makes c d (step n i 0 0 none) me)) call place is_event mine is here (λ s k many at fits.
      let t = made others_count key s k id me.0 event m.change word (next (get_or s.words word 0)) (get_or s.words word 0) refl at live m.inside m.is m.plain (m.goes key.first (k.first id me.0 at) (elements_after k.events) s.words (ready_of key s k id me.0 at) tt) in
      (t.0, keeps, tt, t.1, (refl, t.2, t.3)))

  pub stores_it : {new : ℕ} → May id me.0 event word Anything (λ x. new) → (n call place : ℕ) (is_event : Event) → call ≡ id → is_event ≡ event → place ≡ word
      → Allows (Rule key) n id me place (λ x. new) (λ found. stores call is_event (step n place 0 0 none) me new)
  stores_it {new} m n call place is_event mine is here = named (λ c d i. Allows (Rule key) n id me i (λ x. new) (λ found. stores c d (step n i 0 0 none) me new)) call place is_event mine is here (λ s k many at fits.
      let t = made others_count key s k id me.0 event m.change word new (get_or s.words word 0) refl at live m.inside m.is m.plain (m.goes key.first (k.first id me.0 at) (elements_after k.events) s.words (ready_of key s k id me.0 at) tt) in
      (t.0, keeps, tt, t.1, (refl, (get_or s.words word 0, t.2), t.3)))

  pub tries_it : {old new : ℕ} → May id me.0 event word (λ x. x ≡ old) (λ x. new) → (n call place : ℕ) (is_event : Event) → call ≡ id → is_event ≡ event → place ≡ word
      → Allows (Rule key) n id me place (λ x. either (eqb x old) new x) (tries call is_event (step n place old new none) me)
  tries_it {old} {new} m n call place is_event mine is here = named (λ c d i. Allows (Rule key) n id me i (λ x. either (eqb x old) new x) (tries c d (step n i old new none) me)) call place is_event mine is here (λ s k many at fits.
      let y : ℕ = get_or s.words word 0 in
      exchanged y old new (λ z. (w : View) × (a : Act Unit) × Valid s.homes me.1 a × Rule key (stepped s word z id me.1 w a) × tries id event (step n word old new none) me y (w, carried_after me.1 a))
      (λ hit. let t = made others_count key s k id me.0 event m.change word new old (sym hit) at live m.inside m.is m.plain (m.goes key.first (k.first id me.0 at) (elements_after k.events) s.words (ready_of key s k id me.0 at) hit) in
      (t.0, keeps, tt, t.1, (refl, ((λ _. t.2), (λ miss. absurd (miss hit))), t.3)))
      (λ miss. (
        looked me.0 word y (steps_to k) (now_at k),
        keeps,
        tt,
        kept_look key s k word id y me.0 refl at live,
        (refl, ((λ hit. absurd (miss hit)), (λ _. found_now key s k word id me.0 at live)), stood_look key s k id word y me.0 at),
      )))

-- a one that is shifted by a signal's number is the signal's bit
pub shifted : (number : ℕ) → number < 16 → 1 * 2 ^ number % 18446744073709551616 ≡ 2 ^ number
shifted number bounded = let fits : 2 ^ number < 2 ^ 64 = pow-lt {i = number} {j = 64} (omega (arith, bounded)) in let one : 1 * 2 ^ number ≡ 2 ^ number = omega arith in
    ap (λ (z : ℕ). z % 18446744073709551616) one ∙ mod-eq_of_lt fits
