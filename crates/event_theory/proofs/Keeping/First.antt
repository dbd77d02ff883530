-- The first queues are lawful: the empty one, and the one with all that it may have.
use Rattle.std.proofs.Common.{◌≡◌, ℕ, zero, suc, ◌+◌, ◌<◌, [], ◌∷◌, ◌∙◌, length, map, refl, ap, arith, eqb, nat_lt}
use Rattle.std.proofs.lemmas.List.FromFn.{length-range_with_len, length-map-range_with_len}
use Rattle.std.proofs.lemmas.Bool.{eqb-true, ltb-true}
use Rattle.std.specs.List.{range_with_len}
use Rattle.event_theory.specs.Runs.{Run, flat, run_length}
use Rattle.event_theory.specs.Queues.{left, empty_queue, full_queue}
use Rattle.event_theory.specs.Lawful.{IsLawfulQueue}
use Rattle.event_theory.proofs.Lists.Histories.{both}

pub empty_law : (capacity : ℕ) → IsLawfulQueue (empty_queue capacity)
empty_law capacity = record {
  solid = λ run below. absurd (omega (arith, below));
  within = λ run index h. absurd (cc);
  taken_within = omega arith;
  ready = refl;
  fits = omega arith;
}

-- the run of one item that a full queue begins with
abbrev single : ℕ → Run
single item = record { call = 0; items = item ∷ [] }

flat_singles : (start count : ℕ) → flat (map single (range_with_len start count)) ≡ range_with_len start count
flat_singles start zero = refl
flat_singles start (suc count) = ap (λ xs. start ∷ xs) (flat_singles (start + 1) count)

run_length_singles : (start count run : ℕ) → run < count → run_length (map single (range_with_len start count)) run ≡ 1
run_length_singles start zero run below = absurd (omega (arith, below))
run_length_singles start (suc count) zero below = refl
run_length_singles start (suc count) (suc run) below = run_length_singles (start + 1) count run (omega (arith, below))

pub left_full : (count : ℕ) → left (full_queue count) ≡ range_with_len 0 count
left_full count = flat_singles 0 count

pub full_law : (count : ℕ) → IsLawfulQueue (full_queue count)
full_law count =
    let runs : length (full_queue count).history ≡ count = length-map-range_with_len single 0 count in
    let items : length (left (full_queue count)) ≡ count = ap length (left_full count) ∙ length-range_with_len 0 count in
    record {
      solid = λ run below. rw (run_length_singles 0 count run (omega (arith, below, runs))) (omega arith);
      within = λ run index h.
          let parts = both (nat_lt run count) (eqb index 0) h in
          let first : index ≡ 0 = eqb-true index 0 parts.1 in
          rw (run_length_singles 0 count run (ltb-true run count parts.0)) (omega (arith, first));
      taken_within = omega arith;
      ready = refl;
      fits = omega (arith, items);
    }
