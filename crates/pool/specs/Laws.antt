-- The laws of the protocol of a pool's queue.
use Rattle.std.specs.Prelude.{ℕ, List, [], ◌∷◌, ◌++◌}
use Rattle.std.proofs.Common.{sym, ⊎_elim}
use mathlib.Core.Option.{some-ne-none}
use Rattle.table_theory.specs.Protocols.{Placed}
use Rattle.table_theory.proofs.Giving.{fair_joined, fair_taken, nothing_given}
use Rattle.table_theory.proofs.Owned.{at_joined}
use Rattle.pool.specs.Lending.{Lends}

pub lends_begins : (first : ℕ) → Lends first [] []
lends_begins first = record {
  stock = λ m line at. absurd (some-ne-none line (sym at));
  fair = λ x. nothing_given first x;
}

pub lends_takes : (first : ℕ) (puts taken : List Placed) (line : Placed) → Lends first puts taken
    → Lends first puts (taken ++ line ∷ [])
lends_takes first puts taken line h = record {
  stock = h.stock;
  fair = λ x. fair_taken first x puts taken line (h.fair x);
}

pub lends_joins : (first : ℕ) (puts taken more_puts more_taken : List Placed) → Lends first puts taken
    → Lends first more_puts more_taken → Lends first (puts ++ more_puts) (taken ++ more_taken)
lends_joins first puts taken more_puts more_taken h k = record {
  stock = λ m line at. ⊎_elim (λ old. h.stock m line old) (λ new. k.stock new.0 line new.2)
      (at_joined puts more_puts m line at);
  fair = λ x. fair_joined first x puts taken more_puts more_taken (h.fair x) (k.fair x);
}
