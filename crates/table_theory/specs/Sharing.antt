-- Each end has a share of its object, in parts. The shares of all ends together are the whole, and each end that exists
-- has a part or more. So one word can count all ends, and an end with the whole is the only one.
use Rattle.std.specs.Prelude.{◌≡◌, ℕ, ◌+◌, ◌-◌, ◌/◌, ◌<◌, ◌≤◌, List, [], ◌∷◌, min}
use mathlib.Core.Option.{some}
use lib.ListN.{get_elem?}
use Rattle.table_theory.specs.declared.shares.TheConstants.{MOST_GIVEN}

-- 2^64 - 1 parts
abbrev pub the_whole : ℕ
the_whole = 18446744073709551615

abbrev pub IsWhole : ℕ → Type 0
IsWhole share = share ≡ the_whole

-- the share that a split gives to the new end: half, and no more than 2^21 parts
abbrev pub given : ℕ → ℕ
given share = min (share / 2) MOST_GIVEN

-- so many parts of the share can be given to a new end: one or more, and one or more are kept
abbrev pub IsPortion : ℕ → ℕ → Type 0
IsPortion parts share = (0 < parts) × (parts < share)

-- the share that a split leaves
abbrev pub kept : ℕ → ℕ
kept share = share - given share

abbrev pub total : {V : Type 0} → (V → ℕ) → List V → ℕ
total f [] = 0
total f (v ∷ vs) = f v + total f vs

-- `count` is the number of ends, whose shares together are the whole. Each end has a part or more; an end that was
-- joined to another counts as none, has no share, and is idle
pub record EndsCounted {V : Type 0} (ends_of share_of : V → ℕ) (IsIdle : V → Type 0) (count : ℕ) (views : List V)
    : Type 0 where
  pub counted : total ends_of views ≡ count
  pub shared : total share_of views ≡ the_whole
  pub within : (j : ℕ) (v : V) → get_elem? views j ≡ some v → ends_of v ≤ share_of v
  pub spent : (j : ℕ) (v : V) → get_elem? views j ≡ some v → ends_of v ≡ 0 → (share_of v ≡ 0) × IsIdle v

-- a number of ends that was found by an end with this share: the number is 1 exactly if the share is the whole
pub record IsCount (share found : ℕ) : Type 0 where
  pub some_end : 0 < found
  pub alone : found ≡ 1 → IsWhole share
  pub whole : IsWhole share → found ≡ 1
