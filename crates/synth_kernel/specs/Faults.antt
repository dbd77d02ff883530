-- The text of a boot fault.
use Rattle.std.specs.Prelude.{ℕ, List, codes}
use Rattle.boot_script.specs.Printed.{fault_text}
use Rattle.synth_kernel.specs.declared.outcome.BootFault.{BootFault}
use Rattle.synth_kernel.specs.declared.outcome.BootFault.TheVariants.{Script, Memory, Read, Write}

-- the text of a fault
abbrev pub boot_fault_text : BootFault → List ℕ
boot_fault_text (Script fault) = fault_text fault
boot_fault_text Memory = codes "no memory"
boot_fault_text Read = codes "read fault"
boot_fault_text Write = codes "write fault"
