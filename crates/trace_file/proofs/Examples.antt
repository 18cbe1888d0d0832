-- Trace files of few events, byte by byte.
use Rattle.std.proofs.Common.{◌≡◌, [], ◌∷◌, refl}
use Rattle.std.specs.Prelude.{pos, negsuc, Some}
use Rattle.wasm_num.specs.declared.Value.TheVariants.{I32, I64}
use Rattle.wasm_num.specs.declared.NumOp.TheVariants.{I64ExtendI32U}
use Rattle.module_ast.specs.declared.module.Loc.{Loc}
use Rattle.hook_select.specs.declared.Event.TheVariants.{Nop, Const, Unary, IndirectPre, Stray}
use Rattle.trace_file.specs.Files.{trace_bytes}

abbrev at_first : Loc
at_first = record { func = 0; instr = pos 0 }

-- no event
no_event : trace_bytes [] ≡ 0x57 ∷ 0x54 ∷ 0x52 ∷ 0x31 ∷ 0x00 ∷ 0x00 ∷ []
no_event = refl

-- a `nop`: tag 2, function 0, position 0
a_nop : trace_bytes (Nop at_first ∷ []) ≡ 0x57 ∷ 0x54 ∷ 0x52 ∷ 0x31 ∷ 0x02 ∷ 0x00 ∷ 0x00 ∷ 0x00 ∷ 0x01 ∷ []
a_nop = refl

-- `i64.const -2`: tag 10, the place, the type 7E and the value
a_constant : trace_bytes (Const at_first (I64 18446744073709551614) ∷ []) ≡ 0x57 ∷ 0x54 ∷ 0x52 ∷ 0x31 ∷ 0x0A ∷ 0x00 ∷ 0x00 ∷ 0x7E ∷ 0x7E ∷ 0x00 ∷ 0x01 ∷ []
a_constant = refl

-- the opcode AD, an operand of 32 bits and a result of 64
a_conversion : trace_bytes (Unary (record { func = 1; instr = negsuc 0 }) I64ExtendI32U (I32 64) (I64 64) ∷ [])
    ≡ 0x57 ∷ 0x54 ∷ 0x52 ∷ 0x31 ∷ 0x0B ∷ 0x01 ∷ 0x7F ∷ 0xAD ∷ 0x7F ∷ 0xC0 ∷ 0x00 ∷ 0x7E ∷ 0xC0 ∷ 0x00 ∷ 0x00 ∷ 0x01 ∷ []
a_conversion = refl

-- type 3, slot 4, callee 300 behind a byte that says that there is one, and one argument; and a hook call that is not explained
two_events : trace_bytes (IndirectPre at_first 3 4 (Some 300) (I32 5 ∷ []) ∷ Stray 7 ∷ [])
    ≡ 0x57 ∷ 0x54 ∷ 0x52 ∷ 0x31 ∷ 0x16 ∷ 0x00 ∷ 0x00 ∷ 0x03 ∷ 0x04 ∷ 0x01 ∷ 0xAC ∷ 0x02 ∷ 0x01 ∷ 0x7F ∷ 0x05 ∷ 0x19 ∷ 0x07 ∷ 0x00 ∷ 0x02 ∷ []
two_events = refl
