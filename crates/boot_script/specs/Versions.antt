-- The versions of both scripts.
use Rattle.std.specs.Prelude.{ℕ, List, Bool, true, false, codes}
use Rattle.boot_script.specs.declared.version.Script.{Script}
use Rattle.boot_script.specs.declared.version.Script.TheVariants.{Events, Boot}
use Rattle.boot_script.specs.declared.version.Version.{Version}
use Rattle.boot_script.specs.declared.version.Version.TheVariants.{One, Two, Three}

-- how many thread elements a version has
abbrev pub elements_of : Version → ℕ
elements_of One = 16
elements_of Two = 16
elements_of Three = 64

-- the number of a version's last element
abbrev pub last_element : Version → ℕ
last_element One = 15
last_element Two = 15
last_element Three = 63

-- the number of a version's last processor
abbrev pub last_processor : Version → ℕ
last_processor One = 3
last_processor Two = 3
last_processor Three = 7

-- the number of a version's last wait queue
abbrev pub last_wait : Version → ℕ
last_wait One = 7
last_wait Two = 7
last_wait Three = 15

-- whether queues can be shut and wait queues notified, as from the second version on
abbrev pub is_later : Version → Bool
is_later One = false
is_later Two = true
is_later Three = true

-- the first line of a script of a version
abbrev pub version_line : Script → Version → List ℕ
version_line Events One = codes "events 1"
version_line Events Two = codes "events 2"
version_line Events Three = codes "events 3"
version_line Boot One = codes "synthesis 1"
version_line Boot Two = codes "synthesis 2"
version_line Boot Three = codes "synthesis 3"
