-- How refusals of scripts are printed.
use Rattle.std.specs.Prelude.{ℕ, List, codes}
use Rattle.boot_script.specs.declared.fault.ScriptRefusal.{ScriptRefusal}
use Rattle.boot_script.specs.declared.fault.ScriptRefusal.TheVariants.{NotVersion, UnknownWord, BadNumber, BadName}
use Rattle.boot_script.specs.declared.fault.ScriptRefusal.TheVariants.{NameTwice, NameUnknown, TooMany, TextTooLong}
use Rattle.boot_script.specs.declared.fault.ScriptRefusal.TheVariants.{NotAscii, OutOfMemory}

-- a refusal's name
abbrev pub script_refusal_name : ScriptRefusal → List ℕ
script_refusal_name NotVersion = codes "NotVersion"
script_refusal_name UnknownWord = codes "UnknownWord"
script_refusal_name BadNumber = codes "BadNumber"
script_refusal_name BadName = codes "BadName"
script_refusal_name NameTwice = codes "NameTwice"
script_refusal_name NameUnknown = codes "NameUnknown"
script_refusal_name TooMany = codes "TooMany"
script_refusal_name TextTooLong = codes "TextTooLong"
script_refusal_name NotAscii = codes "NotAscii"
script_refusal_name OutOfMemory = codes "OutOfMemory"

-- a refusal's number
abbrev pub script_refusal_number : ScriptRefusal → ℕ
script_refusal_number NotVersion = 1
script_refusal_number UnknownWord = 2
script_refusal_number BadNumber = 3
script_refusal_number BadName = 4
script_refusal_number NameTwice = 5
script_refusal_number NameUnknown = 6
script_refusal_number TooMany = 7
script_refusal_number TextTooLong = 8
script_refusal_number NotAscii = 9
script_refusal_number OutOfMemory = 10
