-- The causes of traps, in words.
use Rattle.std.specs.Prelude.{ℕ, List, codes}
use Rattle.wasm_sem.specs.declared.Trap.{Trap}
use Rattle.wasm_sem.specs.declared.Trap.TheVariants.{Unreachable, DivideByZero, Overflow, OutOfBounds, NoSlot, EmptySlot, WrongType, Depth}

abbrev pub cause_of : Trap → List ℕ
cause_of Unreachable = codes "unreachable"
cause_of DivideByZero = codes "divide by zero"
cause_of Overflow = codes "integer overflow"
cause_of OutOfBounds = codes "out of bounds"
cause_of NoSlot = codes "no slot"
cause_of EmptySlot = codes "empty slot"
cause_of WrongType = codes "wrong type"
cause_of Depth = codes "call depth"
