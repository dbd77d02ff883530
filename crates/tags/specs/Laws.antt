-- The laws of the protocol of tags.
use Rattle.std.specs.Prelude.{ℕ, List, [], ◌∷◌, ◌++◌, refl}
use Rattle.std.proofs.Common.{sym, ⊎_elim}
use mathlib.Core.Option.{some-ne-none}
use Rattle.table_theory.specs.Protocols.{Placed}
use Rattle.table_theory.proofs.Giving.{fair_joined, fair_taken, none_joined, nothing_given}
use Rattle.table_theory.proofs.Owned.{at_joined}
use Rattle.tags.specs.Lending.{Lends}

pub lends_begins : (count : ℕ) → Lends count [] []
lends_begins count = record {
  first = λ m line at. absurd (some-ne-none line (sym at));
  known = λ x past. refl;
  fair = λ x. nothing_given count x;
}

pub lends_takes : (count : ℕ) (puts taken : List Placed) (line : Placed) → Lends count puts taken
    → Lends count puts (taken ++ line ∷ [])
lends_takes count puts taken line h = record {
  first = h.first;
  known = h.known;
  fair = λ x. fair_taken count x puts taken line (h.fair x);
}

pub lends_joins : (count : ℕ) (puts taken more_puts more_taken : List Placed) → Lends count puts taken
    → Lends count more_puts more_taken → Lends count (puts ++ more_puts) (taken ++ more_taken)
lends_joins count puts taken more_puts more_taken h k = record {
  first = λ m line at. ⊎_elim (λ old. h.first m line old) (λ new. k.first new.0 line new.2)
      (at_joined puts more_puts m line at);
  known = λ x past. none_joined x puts more_puts (h.known x past) (k.known x past);
  fair = λ x. fair_joined count x puts taken more_puts more_taken (h.fair x) (k.fair x);
}
