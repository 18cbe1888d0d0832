-- The locals of a body, and why bytes are no body.
use Rattle.std.specs.Prelude.{ℕ, ◌^◌, ◌<◌, List, Bool}
use Rattle.module_ast.specs.Binary.{GroupNode, IsVec, IsGroup, local_count, is_floating}
use Rattle.code_decode.specs.declared.fault.Fault.{Fault}
use Rattle.code_decode.specs.declared.fault.Fault.TheVariants as faults
use Rattle.code_decode.specs.declared.body.BodyFault.{BodyFault}
use Rattle.code_decode.specs.declared.body.BodyFault.TheVariants.{Malformed, NoMemory}

-- 5.5.13 groups of locals, fewer than 2 ^ 32 together
abbrev pub AreLocals : List ℕ → List GroupNode → Type 0
AreLocals bytes gs = (local_count gs < 2 ^ 32) × IsVec IsGroup bytes gs

-- whether the type of a group is floating-point
abbrev pub group_floats : GroupNode → Bool
group_floats g = is_floating g.ty

-- a fault of a part of a body, as a fault of the body
abbrev pub body_fault : Fault → BodyFault
body_fault faults.Malformed = Malformed
body_fault faults.NoMemory = NoMemory
