-- Constant expressions. 3.3.7
use Rattle.std.specs.Prelude.{Option, Some, None}
use Rattle.module_ast.specs.Structure.{Tree, done, plain, Plain, i32_const, i64_const, global_get}
use Rattle.wasm_valid.specs.declared.constants.Constant.{Constant}
use Rattle.wasm_valid.specs.declared.constants.Constant.TheVariants.{I32, I64, Global}

-- the constant that one instruction gives
abbrev pub constant_by : Plain → Option Constant
constant_by (i32_const _) = Some I32
constant_by (i64_const _) = Some I64
constant_by (global_get x) = Some (Global x)
constant_by _ = None

-- the constant that an expression gives, if it is exactly one instruction that gives one
abbrev pub constant_of : Tree → Option Constant
constant_of (plain p done) = constant_by p
constant_of _ = None
