-- The blocks and br_tables that a walk over a body finds at each place.
use Rattle.std.specs.Prelude.{ℤ, List, [], ◌∷◌, ◌++◌}
use Rattle.wasm_sem.specs.Types.{Instr}
use Rattle.module_ast.specs.declared.code.Instr.TheVariants as instrs
use Rattle.branch_resolve.specs.declared.Block.{Block}
use Rattle.branch_resolve.specs.declared.place.Opcode.{Opcode}
use Rattle.branch_resolve.specs.declared.place.Opcode.TheVariants.{Acts, Opens, Alternates}
use Rattle.static_info.specs.declared.TableInfo.{TableInfo}

-- the block that begins at an opcode
abbrev pub begun_blocks : Opcode → List Block
begun_blocks (Opens b) = b ∷ []
begun_blocks (Alternates a b then_live) = b ∷ []
begun_blocks _ = []

-- a br_table with its position and its labels, the default last
abbrev pub instr_tables : ℤ → Instr → List TableInfo
instr_tables p (instrs.BrTable ls l) = record { pos = p; labels = ls ++ l ∷ [] } ∷ []
instr_tables p _ = []

abbrev pub opcode_tables : ℤ → Opcode → List TableInfo
opcode_tables p (Acts i) = instr_tables p i.now
opcode_tables p _ = []
