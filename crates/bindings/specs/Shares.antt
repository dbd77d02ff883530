-- The share that an end has of its object, and the mark of the object.
use Rattle.std.specs.Prelude.{◌≡◌, ◌≤◌, ◌<◌, ◌+◌, ℕ, ℤ}
use Rattle.table_theory.specs.Sharing.{given, kept, the_whole}
use Rattle.bindings.specs.Codes.{NoShare}
pub use Rattle.bindings.specs.declared.share.Share.{Share}

-- all of the object with this mark
abbrev pub AllOf : ℕ → Share → Type 0
AllOf mark s = (s.mark ≡ mark) × (s.parts ≡ the_whole)

-- the objects have one mark
abbrev pub IsOneMark : Share → Share → Type 0
IsOneMark s t = t.mark ≡ s.mark

-- together the ends have no more parts than one object has
abbrev pub Fit : Share → Share → Type 0
Fit s t = s.parts + t.parts ≤ the_whole

-- together the ends have more parts than one object has
abbrev pub Exceed : Share → Share → Type 0
Exceed s t = the_whole < s.parts + t.parts

-- a part can be given away: there are two or more
abbrev pub HasTwo : Share → Type 0
HasTwo s = 2 ≤ s.parts

-- no part can be given away, and the code is NoShare
abbrev pub HasNoTwo : Share → ℤ → Type 0
HasNoTwo s code = (code ≡ NoShare) × (s.parts < 2)

-- a split left the `kept` parts of s in t, and gave its `given` parts to `born`; the mark is unchanged
abbrev pub WasDivided : Share → Share → Share → Type 0
WasDivided s t born = (t.mark ≡ s.mark) × (born.mark ≡ s.mark) × (born.parts ≡ given s.parts) × (t.parts ≡ kept s.parts)

-- t has the mark of s, and the parts of s and of `other` together
abbrev pub WasJoined : Share → Share → Share → Type 0
WasJoined s t other = (t.mark ≡ s.mark) × (t.parts ≡ s.parts + other.parts)
