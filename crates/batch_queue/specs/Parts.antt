-- Answers of a taking of up to a given number of items, which may part the last batch.
use Rattle.std.specs.Prelude.{◌≡◌, ◌≢◌, ◌⊎◌, ◌+◌, ◌/◌, ◌<◌, ◌≤◌, ℕ, min, List, [], ◌∷◌, ◌++◌, length, drop}
use Rattle.std.specs.Prelude.{Bool, MatchBool}
use Rattle.atomic_table.specs.Table.{Me}
use Rattle.table_theory.specs.declared.views.AbsState.{AbsState}
use Rattle.table_theory.specs.Ledgers.{Step, load, change, Performed}
use Rattle.table_theory.specs.Lines as lines
use Rattle.batch_queue.specs.declared.refusals.TakeRefusal.{TakeRefusal}
use Rattle.batch_queue.specs.declared.refusals.TakeRefusal.TheVariants.{ShortBuffer, Lost}
use Rattle.batch_queue.specs.declared.rule.BatchState.{BatchState}
use Rattle.batch_queue.specs.declared.rule.EndRecord.{EndRecord}
use Rattle.batch_queue.specs.Client.{WhyNotTaken}
use Rattle.batch_queue.specs.Layout.{tail_word, mark_word}
pub use Rattle.batch_queue.specs.Lines.{AreSome}
use Rattle.batch_queue.specs.Lines.{lines_put, lines_taken, times_parted}
use Rattle.batch_queue.specs.Moments.{AtSomeMoment, MarkChanged}
use Rattle.batch_queue.specs.Object.{phase_at, Grows, IsRest, LacksUpTo, with_back, with_part, with_taken}
use Rattle.batch_queue.specs.Own.{View, with_taking}
use Rattle.batch_queue.specs.Slots.{slots_of}
use Rattle.batch_queue.specs.Steps.{HoldsRange}
use Rattle.batch_queue.specs.Takings.{NoneBy, PassedEmpty, RefusedTake, with_line}
use Rattle.batch_queue.specs.Walks.{LeadsOn, FollowedBy}

-- the record with n more partings of a batch
abbrev pub with_parts : EndRecord → ℕ → EndRecord
with_parts d n = record d { parts = d.parts + n }

-- By what was found, a taking can end at this position, within the batch that ends at `end`. Its mark led on already,
-- or a compare-and-swap changed the mark now, or the mark led on when it was found again. `parts` counts the change
pub data PartedBy (room position end parts : ℕ) (entries : List (Step BatchState)) : Type 0 where
  already : (mark : ℕ) (m : AbsState BatchState) → LeadsOn 0 position mark → parts ≡ 0
      → entries ≡ load (mark_word room position) mark m ∷ [] → PartedBy room position end parts entries
  parted : (mark : ℕ) (m n : AbsState BatchState) → mark / 2 ≤ position → parts ≡ 1
      → entries ≡ load (mark_word room position) mark m
      ∷ change (mark_word room position) mark n (with_part n.object position end) ∷ []
      → PartedBy room position end parts entries
  meanwhile : (mark found : ℕ) (m n : AbsState BatchState) → mark / 2 ≤ position → found ≢ mark
      → LeadsOn 0 position found → parts ≡ 0
      → entries ≡ load (mark_word room position) mark m ∷ load (mark_word room position) found n ∷ []
      → PartedBy room position end parts entries

-- it is not known that a taking can end at this position: its place was given back, or its mark was changed to another
-- number
pub data NotPartedBy (room position : ℕ) (entries : List (Step BatchState)) : Type 0 where
  given : (mark : ℕ) (m : AbsState BatchState) → LeadsOn 1 position mark
      → entries ≡ load (mark_word room position) mark m ∷ [] → NotPartedBy room position entries
  changed : (mark found : ℕ) (m n : AbsState BatchState) → mark / 2 ≤ position → found ≢ mark
      → (LeadsOn 0 position found → ⊥)
      → entries ≡ load (mark_word room position) mark m ∷ load (mark_word room position) found n ∷ []
      → NotPartedBy room position entries

-- the end found that a taking can end at this position (`stop` is true), or that this is not known, by these entries
pub record PartedLook (room position end : ℕ) (stop : Bool) (v w : View) : Type 0 where
  pub entries : List (Step BatchState)
  pub parts : ℕ
  pub by : MatchBool stop (PartedBy room position end parts entries) ((parts ≡ 0) × NotPartedBy room position entries)
  pub made : Performed v entries (with_parts v.own parts) w

-- this mark was found at the position `at`: `at` is the tail, or marks of published batches were followed to it
pub data Reached (room tail most at mark : ℕ) (loads : List (Step BatchState)) : Type 0 where
  at_tail : at ≡ tail → (m : AbsState BatchState) → loads ≡ load (mark_word room tail) mark m ∷ []
      → Reached room tail most at mark loads
  after_walk : (walk : List (Step BatchState)) → FollowedBy 0 (tail + most) room tail at walk → at < tail + most
      → (m : AbsState BatchState) → loads ≡ walk ++ load (mark_word room at) mark m ∷ []
      → Reached room tail most at mark loads

-- The end of a taking of up to `most` items: the limit itself; or where nothing more is published; or the end of a
-- batch that was published meanwhile; or within a batch, after the tail was found unchanged
pub data StopBy (room tail most to parts : ℕ) (loads : List (Step BatchState)) : Type 0 where
  all : FollowedBy 0 (tail + most) room tail to loads → to ≡ tail + most → parts ≡ 0
      → StopBy room tail most to parts loads
  no_more : (mark : ℕ) → Reached room tail most to mark loads → (LeadsOn 0 to mark → ⊥) → parts ≡ 0
      → StopBy room tail most to parts loads
  one_more : (at mark : ℕ) → tail < at → Reached room tail most at mark loads → LeadsOn 0 at mark → to ≡ mark / 2
      → to ≤ tail + most → parts ≡ 0 → StopBy room tail most to parts loads
  within : (at mark : ℕ) (before after : List (Step BatchState)) (again : AbsState BatchState)
      → Reached room tail most at mark before → LeadsOn 0 at mark → tail + most < mark / 2 → to ≡ tail + most
      → PartedBy room to (mark / 2) parts after → loads ≡ before ++ load tail_word tail again ∷ after
      → StopBy room tail most to parts loads

-- No taking ends within the batch that is too long: the tail had moved on when it was found again; or it was not known
-- that a taking can end there (`NotPartedBy`), and the tail was then found once more
pub data LostBy (room tail most now : ℕ) (loads : List (Step BatchState)) : Type 0 where
  passed : (at mark : ℕ) (before : List (Step BatchState)) (again : AbsState BatchState)
      → Reached room tail most at mark before → LeadsOn 0 at mark → tail + most < mark / 2 → tail < now
      → loads ≡ before ++ load tail_word now again ∷ [] → LostBy room tail most now loads
  not_parted : (at mark : ℕ) (before after : List (Step BatchState)) (again last : AbsState BatchState)
      → Reached room tail most at mark before → LeadsOn 0 at mark → tail + most < mark / 2
      → NotPartedBy room (tail + most) after
      → loads ≡ before ++ load tail_word tail again ∷ (after ++ load tail_word now last ∷ [])
      → LostBy room tail most now loads

-- by what an end has found, the positions from the tail to e are published, and those from p on are the rest of a
-- batch; or the tail has passed
abbrev pub FoundRest : View → ℕ → ℕ → ℕ → Type 0
FoundRest v tail p e = (tail < v.seen.object.taken)
    ⊎ (((i : ℕ) → tail ≤ i → i < e → 1 ≤ phase_at v.seen.object i) × IsRest v.seen.object.batches p e)

-- At a moment of the search for the end of a taking, an item up to `to` was not published; or the tail passed `base`
abbrev pub StoppedShort : ℕ → ℕ → View → View → Type 0
StoppedShort base to v w = AtSomeMoment v w (λ o. Grows v.seen.object o × Grows o w.seen.object
    × (w.seen.object.taken ≤ base → LacksUpTo o to))

-- the end found where the taking ends, after it found the mark `first` at the tail
pub record FoundStop (room tail most first to : ℕ) (v w : View) : Type 0 where
  pub loads : List (Step BatchState)
  pub parts : ℕ
  pub by : (m : AbsState BatchState) → StopBy room tail most to parts (load (mark_word room tail) first m ∷ loads)
  pub made : Performed v loads (with_parts v.own parts) w

pub record LostStop (room tail most first now : ℕ) (v w : View) : Type 0 where
  pub loads : List (Step BatchState)
  pub by : (m : AbsState BatchState) → LostBy room tail most now (load (mark_word room tail) first m ∷ loads)
  pub made : Performed v loads v.own w

-- the tail was found unchanged, and then a taking can end at `last`, within the batch that ends at `end`
pub record StoppedWithin (room tail last end : ℕ) (v w : View) : Type 0 where
  pub again : AbsState BatchState
  pub after : List (Step BatchState)
  pub parts : ℕ
  pub by : PartedBy room last end parts after
  pub made : Performed v (load tail_word tail again ∷ after) (with_parts v.own parts) w

-- the tail had moved on; or it was found unchanged, it was not known that a taking can end there, and the tail was
-- found once more
pub data LostWithin (room tail last now : ℕ) (v w : View) : Type 0 where
  passed : tail < now → (again : AbsState BatchState) → Performed v (load tail_word now again ∷ []) v.own w
      → LostWithin room tail last now v w
  not_parted : (again end : AbsState BatchState) (after : List (Step BatchState)) → NotPartedBy room last after
      → Performed v (load tail_word tail again ∷ (after ++ load tail_word now end ∷ [])) v.own w
      → LostWithin room tail last now v w

-- the tail was `now` at a moment of the call: past the earlier tail, or other ends changed the mark of `last`
abbrev pub WhyNoStop : ℕ → ℕ → ℕ → View → View → Type 0
WhyNoStop tail last now v w = AtSomeMoment v w (λ o. (tail < o.taken) × (o.taken ≡ now))
    ⊎ (AtSomeMoment v w (λ o. o.taken ≡ now) × MarkChanged v last w)

-- The tail was loaded, the end of a taking of up to `most` items was found, and then a compare-and-swap moved the tail
-- there. Added says which list has these entries, given the moment of the compare-and-swap and the number of partings
pub record SomeBy (Added : AbsState BatchState → ℕ → List (Step BatchState) → Type 0) (room most tail : ℕ)
    (items : List ℕ) : Type 0 where
  pub some_item : 0 < length items
  pub within : length items ≤ min most room
  pub at_tail : AbsState BatchState
  pub parts : ℕ
  pub looks : List (Step BatchState)
  pub stops : StopBy room tail (min most room) (tail + length items) parts looks
  pub at_taking : AbsState BatchState
  pub first : AreSome at_taking.object items
  pub added : Added at_taking parts (load tail_word tail at_tail
      ∷ (looks ++ change tail_word tail at_taking (with_taken at_taking.object (tail + length items)) ∷ []))

-- the items were taken, and the end holds their slots
pub record HasTakenSome (room most : ℕ) (v : View) (tail : ℕ) (items : List ℕ) (m : Me ℕ View) : Type 0 where
  pub taken : SomeBy (λ at parts entries. Performed v entries
      (with_taking (with_parts v.own parts) at.object (length items)) m.0) room most tail items
  pub start : taken.at_taking.object.taken ≡ tail
  pub range : HoldsRange 2 tail (length items) m.0
  pub slots : m.1 ≡ slots_of room tail items

-- up to `most` items were taken, and after they were read, their places were given back by one store, of the mark of
-- the first
abbrev pub TookSome : ℕ → View → ℕ → List ℕ → View → Type 0
TookSome room v most items w = (tail mark : ℕ) × (m : AbsState BatchState) × SomeBy (λ at parts entries. Performed v
    (entries ++ change (mark_word room tail) mark m (with_back m.object tail (tail + length items)) ∷ [])
    (with_line (with_parts v.own parts) at.object (length items)) w) room most tail items

-- the end of the taking was found, but the compare-and-swap found another tail, past the one loaded
pub record PassedStop (Added : ℕ → List (Step BatchState) → Type 0) (room most now : ℕ) : Type 0 where
  pub tail : ℕ
  pub to : ℕ
  pub at_tail : AbsState BatchState
  pub parts : ℕ
  pub looks : List (Step BatchState)
  pub stops : StopBy room tail (min most room) to parts looks
  pub past : tail < now
  pub at_exchange : AbsState BatchState
  pub added : Added parts (load tail_word tail at_tail ∷ (looks ++ load tail_word now at_exchange ∷ []))

-- the end of the taking was not found
pub record NoStop (Added : ℕ → List (Step BatchState) → Type 0) (room most now : ℕ) : Type 0 where
  pub tail : ℕ
  pub at_tail : AbsState BatchState
  pub looks : List (Step BatchState)
  pub lost : LostBy room tail (min most room) now looks
  pub added : Added 0 (load tail_word tail at_tail ∷ looks)

-- the entries of a refused taking of some items, and how often a batch was parted
abbrev pub RefusedSomeBy : (ℕ → List (Step BatchState) → Type 0) → ℕ → ℕ → TakeRefusal → Type 0
RefusedSomeBy Added room most (Lost now) =
    PassedEmpty (Added 0) room now ⊎ (PassedStop Added room most now ⊎ NoStop Added room most now)
RefusedSomeBy Added room most refusal = NoneBy (Added 0) room refusal

-- the taking of some items was refused; a taking into a buffer without room may be refused as a taking of whole batches
abbrev pub RefusedTakeSome : ℕ → View → ℕ → TakeRefusal → View → Type 0
RefusedTakeSome room v most refusal w = ((most ≡ 0) × RefusedTake room v most refusal w)
    ⊎ RefusedSomeBy (λ parts entries. Performed v entries (with_parts v.own parts) w) room most refusal

-- The meaning of a refused taking of some items. ShortBuffer comes only if the buffer has no room. Lost also comes if
-- other ends changed the mark of the position at which the taking had to end, `most` items past an earlier tail
abbrev pub WhyNotTakenSome : View → ℕ → TakeRefusal → View → Type 0
WhyNotTakenSome v most (ShortBuffer at count) w = (most ≡ 0) × WhyNotTaken v most (ShortBuffer at count) w
WhyNotTakenSome v most (Lost now) w = WhyNotTaken v most (Lost now) w
    ⊎ (AtSomeMoment v w (λ o. o.taken ≡ now) × (last : ℕ)
    × AtSomeMoment v w (λ o. last ≡ o.taken + min most o.room) × MarkChanged v last w)
WhyNotTakenSome v most refusal w = WhyNotTaken v most refusal w

-- the end parted at most one batch more
abbrev pub MayPart : View → View → Type 0
MayPart v w = (times_parted v ≤ times_parted w) × (times_parted w ≤ times_parted v + 1)

-- the first n of the buffer are the items that were taken, as one line; the others stay
pub record FilledSome (n : ℕ) (old new : List ℕ) (v w : View) : Type 0 where
  pub line : List ℕ
  pub some_item : 0 < n
  pub long : length line ≡ n
  pub buffer : new ≡ line ++ drop n old
  pub took : lines.TookLine lines_put lines_taken line v w
  pub parts : MayPart v w

-- the end put nothing and took nothing, and parted at most one batch
abbrev pub SameSome : View → View → Type 0
SameSome v w = lines.SameLines lines_put lines_taken v w × MayPart v w
