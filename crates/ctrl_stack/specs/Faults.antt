-- Why calls fail.
use Rattle.ctrl_stack.specs.declared.stack.StackFault.{StackFault}
use Rattle.ctrl_stack.specs.declared.stack.StackFault.TheVariants.{Mismatch, NoMemory}

-- a mismatch says P; memory may run out at any time
abbrev pub OnFault : StackFault → Type 0 → Type 0
OnFault Mismatch P = P
OnFault NoMemory P = Unit {0}

abbrev pub IsMismatch : StackFault → Type 0
IsMismatch Mismatch = Unit {0}
IsMismatch NoMemory = ⊥
