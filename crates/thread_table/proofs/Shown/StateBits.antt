-- Single bits of the state words: one is set, or the signals are cleared.
use Rattle.thread_table.proofs.Common.{◌≡◌, ◌≢◌, ℕ, ◌<◌, ◌^◌, ◌∙◌, ◌⊎◌, inl, inr, Bool, true, false, cond, eqb, sym, ap, arith, eqb_tells, or_lt, bit_at_and, bit_at-lt, pow-lt, bit_at, bit_or, bit_and, with_number, Thread, RINGS, StateShows, bit_of}
use Rattle.std.proofs.lemmas.Nat.{and_le_l}
use Rattle.std.proofs.lemmas.Nat.Bits.{bit_at_mask_below, bit_at_mask_inside}
-- a bit that was set, and the others
pub use Rattle.thread_table.proofs.Shown.Bits.{set_bit_same as bit_set_here, set_bit_other as bit_set_other}

-- a bit inside of a mask stays
bit_kept : (w mask i : ℕ) → bit_at mask i ≡ 1 → bit_at (bit_and w mask) i ≡ bit_at w i
bit_kept w mask i inside = bit_at_and w mask i ∙ omega (arith, inside, bit_at-lt w i)

-- a state word stays small
bit_set_small : (w k : ℕ) → k < RINGS → w < 262144 → bit_or w (2 ^ k) < 262144
bit_set_small w k below bounded = or_lt 18 w (2 ^ k) bounded (pow-lt {i = k} {j = 18} below)

-- the word after the stop bit is set
pub stop_shows : (thread : Thread) (word : ℕ) → StateShows thread word → StateShows (record thread { stop = true }) (bit_or word 65536)
stop_shows thread word shows = record {
  bounded = bit_set_small word 16 (omega arith) shows.bounded;
  pending = λ signal below. bit_set_other word 16 signal (λ e. omega arith) ∙ shows.pending signal below;
  stop = bit_set_here word 16;
  parked = bit_set_other word 16 17 (λ e. omega arith) ∙ shows.parked;
}

signal_by : (word number signal : ℕ) (set : ℕ → Bool) → bit_at word signal ≡ bit_of (set signal)
    → ((eqb signal number ≡ true) × (signal ≡ number)) ⊎ ((eqb signal number ≡ false) × (signal ≢ number))
    → bit_at (bit_or word (2 ^ number)) signal ≡ bit_of (with_number true number set signal)
signal_by word number signal set before (inl same) =
    ap (bit_at (bit_or word (2 ^ number))) same.1
    ∙ (bit_set_here word number ∙ ap (λ b. bit_of (cond b true (set signal))) (sym same.0))
signal_by word number signal set before (inr differ) =
    bit_set_other word number signal differ.1
    ∙ (before ∙ ap (λ b. bit_of (cond b true (set signal))) (sym differ.0))

-- the word after a signal is pending
pub signal_shows : (thread : Thread) (word number : ℕ) → number < 16 → StateShows thread word
    → StateShows (record thread { pending = with_number true number thread.pending }) (bit_or word (2 ^ number))
signal_shows thread word number known shows = record {
  bounded = bit_set_small word number (omega arith) shows.bounded;
  pending = λ signal below. signal_by word number signal thread.pending (shows.pending signal below) (eqb_tells signal number);
  stop = bit_set_other word number 16 (λ e. omega arith) ∙ shows.stop;
  parked = bit_set_other word number 17 (λ e. omega arith) ∙ shows.parked;
}

-- the word after all signals were delivered
pub deliver_shows : (thread : Thread) (word : ℕ) → StateShows thread word → StateShows (record thread { pending = λ signal. false }) (bit_and word 196608)
deliver_shows thread word shows = record {
  bounded = (let old = shows.bounded in omega (arith, and_le_l word 196608));
  pending = λ signal below. bit_at_and word 196608 signal ∙ omega (arith, bit_at_mask_below 16 18 signal below);
  stop = bit_kept word 196608 16 (bit_at_mask_inside 16 18 16 (omega arith) (omega arith)) ∙ shows.stop;
  parked = bit_kept word 196608 17 (bit_at_mask_inside 16 18 17 (omega arith) (omega arith)) ∙ shows.parked;
}
