-- A value at one queue, and another at all others.
use Rattle.boot_laws.proofs.Common.{◌≡◌, Bool, true, false, refl, if◌then◌else◌, ◌==◌, QueueIndex, Small, Large, only}

if_all : {A : Type 0} (P : A → Type 0) (rest x : A) → P rest → P x → (b : Bool) → P (if b then x else rest)
if_all P rest x r h true = h
if_all P rest x r h false = r

-- what is true of both is true at any queue
pub only_all : {A : Type 0} (P : A → Type 0) (rest x : A) → P rest → P x → (queue index : QueueIndex) → P (only rest queue x index)
only_all P rest x r h (Small a) (Small b) = if_all P rest x r h (b == a)
only_all P rest x r h (Small a) (Large b) = r
only_all P rest x r h (Large a) (Small b) = r
only_all P rest x r h (Large a) (Large b) = if_all P rest x r h (b == a)

if_map : {A B : Type 0} (g : A → B) (rest x : A) (b : Bool) → g (if b then x else rest) ≡ (if b then g x else g rest)
if_map g rest x true = refl
if_map g rest x false = refl

-- seen alike at each queue
pub only_map : {A B : Type 0} (g : A → B) (rest x : A) (queue index : QueueIndex) → g (only rest queue x index) ≡ only (g rest) queue (g x) index
only_map g rest x (Small a) (Small b) = if_map g rest x (b == a)
only_map g rest x (Small a) (Large b) = refl
only_map g rest x (Large a) (Small b) = refl
only_map g rest x (Large a) (Large b) = if_map g rest x (b == a)

if_off : {A : Type 0} (rest x : A) (b : Bool) → (if b then true else false) ≡ false → (if b then x else rest) ≡ rest
if_off rest x true h = absurd (cc)
if_off rest x false h = refl

-- at any other queue it is the rest
pub only_off : {A : Type 0} (rest x : A) (queue index : QueueIndex) → only false queue true index ≡ false → only rest queue x index ≡ rest
only_off rest x (Small a) (Small b) h = if_off rest x (b == a) h
only_off rest x (Small a) (Large b) h = refl
only_off rest x (Large a) (Small b) h = refl
only_off rest x (Large a) (Large b) h = if_off rest x (b == a) h
