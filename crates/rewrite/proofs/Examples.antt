-- Bodies of small modules with hooks, by their bytes.
use Rattle.std.specs.Prelude.{◌≡◌, ℕ, pos, negsuc, List, [], ◌∷◌, Option, Some, None, option_map, slice_get, take, drop, refl}
use Rattle.wasm_num.specs.declared.ValType.TheVariants.{I32, I64}
use Rattle.wasm_num.specs.declared.NumOp.TheVariants.{I32DivS, I32Sub}
use Rattle.module_ast.specs.declared.code.BlockType.TheVariants.{Empty}
use Rattle.wasm_sem.specs.Types.{FuncType, Body, Module, GroupName, Hooks}
use Rattle.module_ast.specs.Structure.{Tree, done, plain, block, loop, nop, br, br_if, call, drop_, local_get, local_set, local_tee, i32_const, i64_const, num}
use Rattle.module_ast.specs.Binary.{body_bytes}
use Rattle.hook_select.specs.declared.GroupName.TheVariants as groups
use Rattle.hook_select.specs.Groups.{hooks_of, is_among}
use Rattle.hook_select.specs.Selections.{everywhere}
use Rattle.hook_mono.specs.Needed.{import_count, sites, needed_keys}
use Rattle.rewrite.specs.Rewrite.{setting_of, rewritten_body}

-- a module of these types, functions and bodies
abbrev module_of : List FuncType → List ℕ → (start : Option ℕ) → List Body → Module
module_of types funcs start bodies = record {
  types = types;
  imports = [];
  funcs = funcs;
  tables = [];
  memories = [];
  globals = [];
  exports = [];
  start = start;
  elements = [];
  bodies = bodies;
  segments = [];
  customs = [];
}

-- one function without locals
abbrev one : FuncType → Tree → Module
one ty code = module_of (ty ∷ []) (0 ∷ []) None (record { groups = []; code = code } ∷ [])

abbrev nothing : FuncType
nothing = record { params = []; results = [] }

abbrev hooked : Module → Hooks → (defined : ℕ) → Option (List ℕ)
hooked m hooks defined = option_map (λ s. body_bytes (rewritten_body (setting_of hooks (needed_keys m (everywhere hooks)) (import_count m) s))) (slice_get (sites m) defined)

-- the bytes of a body where these groups are selected
abbrev bytes_with : List GroupName → Module → (defined : ℕ) → Option (List ℕ)
bytes_with selected m defined = hooked m (hooks_of (is_among selected)) defined

-- the br gets its hook, the drop behind it none
dead_drop : bytes_with (groups.Drop ∷ groups.Br ∷ []) (one nothing (block Empty (plain (br 0) (plain drop_ done)) done)) 0
    ≡ Some (0x00 ∷ 0x02 ∷ 0x40 ∷ 0x41 ∷ 0x00 ∷ 0x41 ∷ 0x01 ∷ 0x41 ∷ 0x00 ∷ 0x41 ∷ 0x04 ∷ 0x10 ∷ 0x00 ∷ 0x0C ∷ 0x00 ∷ 0x1A ∷ 0x0B ∷ 0x0B ∷ [])
dead_drop = refl

-- the low word of a constant stands before the high word
words : bytes_with (groups.Const ∷ []) (one nothing (plain (i64_const (negsuc 1)) (plain drop_ done))) 0
    ≡ Some (0x00 ∷ 0x42 ∷ 0x7E ∷ 0x41 ∷ 0x00 ∷ 0x41 ∷ 0x00 ∷ 0x41 ∷ 0x7E ∷ 0x41 ∷ 0x7F ∷ 0x10 ∷ 0x00 ∷ 0x1A ∷ 0x0B ∷ [])
words = refl

-- a division keeps both operands and the result in three temporaries
division : bytes_with (groups.Binary ∷ []) (one (record { params = []; results = I32 ∷ [] }) (plain (i32_const (pos 7)) (plain (i32_const (pos 2)) (plain (num I32DivS) done)))) 0
    ≡ Some
    (0x01 ∷ 0x03 ∷ 0x7F ∷ 0x41 ∷ 0x07 ∷ 0x41 ∷ 0x02 ∷ 0x21 ∷ 0x01 ∷ 0x22 ∷ 0x00 ∷ 0x20 ∷ 0x01 ∷ 0x6D ∷ 0x22 ∷ 0x02 ∷ 0x41 ∷ 0x00 ∷ 0x41 ∷ 0x02 ∷ 0x20 ∷ 0x00 ∷ 0x20 ∷ 0x01 ∷ 0x20 ∷ 0x02
    ∷ 0x10 ∷ 0x00 ∷ 0x0B ∷ [])
division = refl

-- the groups of locals get one temporary; the br_if becomes its hook, an `if` with the end of the loop, and itself
abbrev counted : Module
counted = module_of (nothing ∷ []) (0 ∷ []) None
    (record {
      groups = record { count = 1; ty = I32 } ∷ [];
      code = plain (i32_const (pos 3)) (plain (local_set 0)
          (loop Empty (plain (local_get 0) (plain (i32_const (pos 1)) (plain (num I32Sub) (plain (local_tee 0) (plain (br_if 0) done))))) done));
    } ∷ [])

abbrev counted_bytes : Option (List ℕ)
counted_bytes = bytes_with (groups.Begin ∷ groups.End ∷ groups.BrIf ∷ []) counted 0

loop_locals : option_map (take 5) counted_bytes ≡ Some (0x02 ∷ 0x01 ∷ 0x7F ∷ 0x01 ∷ 0x7F ∷ [])
loop_locals = refl

loop_branch : option_map (λ bytes. take 29 (drop 30 bytes)) counted_bytes
    ≡ Some
    (0x22 ∷ 0x01 ∷ 0x41 ∷ 0x00 ∷ 0x41 ∷ 0x07 ∷ 0x41 ∷ 0x00 ∷ 0x41 ∷ 0x02 ∷ 0x20 ∷ 0x01 ∷ 0x10 ∷ 0x02 ∷ 0x20 ∷ 0x01 ∷ 0x04 ∷ 0x40 ∷ 0x41 ∷ 0x00 ∷ 0x41 ∷ 0x08 ∷ 0x41 ∷ 0x02 ∷ 0x10 ∷ 0x03
    ∷ 0x0B ∷ 0x0D ∷ 0x00 ∷ [])
loop_branch = refl

-- arguments are saved, put back and told as words
called : bytes_with (groups.Call ∷ [])
    (module_of (record { params = I32 ∷ I64 ∷ []; results = [] } ∷ nothing ∷ []) (0 ∷ 1 ∷ []) None
    (record { groups = []; code = done } ∷ record { groups = []; code = plain (i32_const (pos 1)) (plain (i64_const (negsuc 0)) (plain (call 0) done)) } ∷ [])) 1
    ≡ Some
    (0x02 ∷ 0x01 ∷ 0x7F ∷ 0x01 ∷ 0x7E ∷ 0x41 ∷ 0x01 ∷ 0x42 ∷ 0x7F ∷ 0x21 ∷ 0x01 ∷ 0x21 ∷ 0x00 ∷ 0x20 ∷ 0x00 ∷ 0x20 ∷ 0x01 ∷ 0x41 ∷ 0x01 ∷ 0x41 ∷ 0x02 ∷ 0x41 ∷ 0x00 ∷ 0x20 ∷ 0x00 ∷ 0x20
    ∷ 0x01 ∷ 0xA7 ∷ 0x20 ∷ 0x01 ∷ 0x42 ∷ 0x20 ∷ 0x88 ∷ 0xA7 ∷ 0x10 ∷ 0x00 ∷ 0x10 ∷ 0x02 ∷ 0x41 ∷ 0x01 ∷ 0x41 ∷ 0x02 ∷ 0x10 ∷ 0x01 ∷ 0x0B ∷ [])
called = refl

-- the start function gets both hooks at its entry
started : bytes_with (groups.Start ∷ groups.Begin ∷ []) (module_of (nothing ∷ []) (0 ∷ []) (Some 0) (record { groups = []; code = plain nop done } ∷ [])) 0
    ≡ Some (0x00 ∷ 0x41 ∷ 0x00 ∷ 0x41 ∷ 0x7F ∷ 0x10 ∷ 0x00 ∷ 0x41 ∷ 0x00 ∷ 0x41 ∷ 0x7F ∷ 0x10 ∷ 0x01 ∷ 0x01 ∷ 0x0B ∷ [])
started = refl
