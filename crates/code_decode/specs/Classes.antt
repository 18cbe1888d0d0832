-- What the classes of opcodes stand for.
use Rattle.std.specs.Prelude.{ℕ}
use Rattle.module_ast.specs.declared.ops.MemArg.{MemArg}
use Rattle.module_ast.specs.Structure.{Plain, unreachable, nop, br, br_if, return_, call, drop_, select, local_get, local_set, local_tee, global_get, global_set, load, store, memory_size, memory_grow, num}
use Rattle.module_ast.specs.Binary.Tokens as tokens
use Rattle.module_ast.specs.Binary.{Shape}
use Rattle.code_decode.specs.declared.class.Bare.{Bare}
use Rattle.code_decode.specs.declared.class.Bare.TheVariants as bares
use Rattle.code_decode.specs.declared.class.Indexed.{Indexed}
use Rattle.code_decode.specs.declared.class.Indexed.TheVariants as indexed
use Rattle.code_decode.specs.declared.class.Access.{Access}
use Rattle.code_decode.specs.declared.class.Access.TheVariants as accesses
use Rattle.code_decode.specs.declared.class.Operands.{Operands}
use Rattle.code_decode.specs.declared.class.Operands.TheVariants as operands
use Rattle.code_decode.specs.declared.class.FloatOperands.{FloatOperands}
use Rattle.code_decode.specs.declared.class.FloatOperands.TheVariants as floats
use Rattle.code_decode.specs.declared.class.Opening.{Opening}
use Rattle.code_decode.specs.declared.class.Opening.TheVariants as openings
use Rattle.code_decode.specs.declared.class.Class.{Class}
use Rattle.code_decode.specs.declared.class.Class.TheVariants as classes

-- the instruction of a class
abbrev pub bare_plain : Bare → Plain
bare_plain bares.Unreachable = unreachable
bare_plain bares.Nop = nop
bare_plain bares.Return = return_
bare_plain bares.Drop = drop_
bare_plain bares.Select = select
bare_plain bares.MemorySize = memory_size
bare_plain bares.MemoryGrow = memory_grow
bare_plain (bares.Num op) = num op

abbrev pub index_plain : Indexed → ℕ → Plain
index_plain indexed.Br n = br n
index_plain indexed.BrIf n = br_if n
index_plain indexed.Call n = call n
index_plain indexed.LocalGet n = local_get n
index_plain indexed.LocalSet n = local_set n
index_plain indexed.LocalTee n = local_tee n
index_plain indexed.GlobalGet n = global_get n
index_plain indexed.GlobalSet n = global_set n

abbrev pub access_plain : Access → MemArg → Plain
access_plain (accesses.Load op) m = load op m
access_plain (accesses.Store op) m = store op m

-- what follows the opcode of an instruction of a class
abbrev pub plain_shape : Operands → Shape
plain_shape (operands.Bare b) = tokens.bare (bare_plain b)
plain_shape (operands.Index i) = tokens.index (index_plain i)
plain_shape operands.Table = tokens.table
plain_shape operands.Indirect = tokens.indirect
plain_shape (operands.ZeroByte b) = tokens.zero_byte (bare_plain b)
plain_shape (operands.Arg a) = tokens.arg (access_plain a)
plain_shape operands.Small = tokens.small
plain_shape operands.Wide = tokens.wide

abbrev pub float_shape : FloatOperands → Shape
float_shape floats.Nothing = tokens.float_bare
float_shape floats.Arg = tokens.float_arg
float_shape floats.FourBytes = tokens.float_four
float_shape floats.EightBytes = tokens.float_eight

abbrev pub opening_shape : Opening → Shape
opening_shape openings.Block = tokens.block_s
opening_shape openings.Loop = tokens.loop_s
opening_shape openings.If = tokens.if_s

abbrev pub shape_of : Class → Shape
shape_of classes.Nothing = tokens.nothing
shape_of (classes.Plain o) = plain_shape o
shape_of (classes.Float o) = float_shape o
shape_of (classes.Opens o) = opening_shape o
shape_of classes.Else = tokens.else_s
shape_of classes.End = tokens.end_s
