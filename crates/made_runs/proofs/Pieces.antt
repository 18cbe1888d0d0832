-- Each piece of a made body is passed in few steps, without a trap, and leaves the memory as long as it was; and so a call
-- of a made function returns.
use Rattle.std.proofs.Common.{◌≡◌, ◌∙◌, ℕ, zero, suc, ◌+◌, ◌-◌, ◌*◌, ◌%◌, ◌^◌, ◌<◌, ◌≤◌, ◌==◌, if◌then◌else◌, List, [], ◌∷◌, ◌++◌, length, flat_map, take, drop, pos, Bool, true, false, nat_lt, nat_le, Option, Some, None, slice_get, refl, ap, subst, arith}
use Rattle.std.proofs.Math.Nat.{mul-suc}
use Rattle.std.specs.Int.{w8, w32, w64, from_bool, from_le_bytes, to_le_bytes}
use Rattle.std.proofs.lemmas.List.Elements.{All-from_recursion}
use Rattle.std.specs.Prelude.{slice_index_or}
use Rattle.std.specs.List.{AllByRecursion}
use Rattle.std.proofs.lemmas.Bool.Decides.{nat_tests}
use Rattle.wasm_num.specs.declared.ValType.{ValType}
use Rattle.wasm_num.specs.declared.ValType.TheVariants as types
use Rattle.wasm_sem.specs.Types as sem
use Rattle.wasm_num.specs.declared.Value.TheVariants.{I32, I64}
use Rattle.wasm_num.specs.declared.NumOp.TheVariants.{I32Add, I32Sub, I32Mul, I32And, I32Or, I32Xor, I32Shl, I32ShrS, I32ShrU, I32Rotl, I32Rotr, I32Clz, I32Ctz, I32Popcnt, I64Add, I64Sub, I64Mul, I64And, I64Or, I64Xor, I64Shl, I64ShrS, I64ShrU, I64Rotl, I64Rotr, I64Clz, I64Ctz, I64Popcnt}
use Rattle.module_ast.specs.Memory.{overlay}
use Rattle.module_ast.specs.Places.{Scope, function_scope}
use Rattle.module_ast.specs.Validation.{push}
use Rattle.module_ast.specs.Structure.{Tree, before, code_of, done, onto}
use Rattle.module_ast.specs.declared.code.Instr.{Instr}
use Rattle.module_ast.specs.declared.code.BlockType.TheVariants.{Empty, Value}
use Rattle.module_ast.specs.declared.code.Instr.TheVariants.{Block, Call, CallIndirect, Drop, I32Const, IfElse, LocalGet, LocalSet, MemorySize, Nop, Num, Select}
use Rattle.wasm_num.specs.declared.NumOp.{NumOp}
use Rattle.wasm_sem.specs.declared.Answer.{Answer}
use Rattle.wasm_sem.specs.Execution.{Callee, host, own, Entry, Instance, Phase, Env, Frame, Label, Cont, Configuration, configuration, run, new_frame, with_ops}
use Rattle.wasm_sem.specs.Machine as machine
use Rattle.wasm_sem.proofs.Runs.{run_add}
use Rattle.wasm_sem.proofs.SoundMemory.{overlay_length}
use Rattle.wasm_sem.specs.Store.{modulo}
use Rattle.module_ast.proofs.Each.{all_both}
use Rattle.module_gen.specs.Codes.{condition, constant_of, count_code, load, piece_code, pieces_code, repeat_code, store, table_block}
use Rattle.module_gen.specs.Made.{func_types}
use Rattle.module_gen.specs.Bodies.{body_drawn, call_of, front, func_index, last_part, param_type, type_index}
use Rattle.module_gen.specs.Draws.{Drawn, shown, stepped, of_none, of_one}
use Rattle.module_gen.specs.Pieces.{binary_op, binary_ops, unary_op, unary_ops, piece_of, drawn_piece, drawn_pieces}
use Rattle.module_gen.proofs.MadeLists.{pieces_count, same_type, unary_type}

-- the code of each piece
abbrev binary_code : ValType → (operand : ℕ) → NumOp → List Instr
binary_code ty operand op = LocalGet 0 ∷ constant_of ty operand ∷ Num op ∷ LocalSet 0 ∷ []

abbrev unary_code : NumOp → List Instr
unary_code op = LocalGet 0 ∷ Num op ∷ LocalSet 0 ∷ []

abbrev memory_code : ValType → (address : ℕ) → List Instr
memory_code ty address = I32Const (pos address) ∷ LocalGet 0 ∷ store ty ∷ I32Const (pos address) ∷ load ty ∷ LocalSet 0 ∷ []

abbrev table_code : ValType → List Instr
table_code ty = Block Empty (code_of (table_block ty)) ∷ []

abbrev choice_code : ValType → (if_so if_not : ℕ) → List Instr
choice_code ty if_so if_not =
    condition ty ++ IfElse (Value ty) (code_of (constant_of ty if_so ∷ [])) (code_of (constant_of ty if_not ∷ [])) ∷ LocalSet 0 ∷ []

abbrev pick_code : ValType → (first second : ℕ) → List Instr
pick_code ty first second = constant_of ty first ∷ constant_of ty second ∷ (condition ty ++ Select ∷ Drop ∷ [])

abbrev note_code : (argument : ℕ) → List Instr
note_code argument = I32Const (pos argument) ∷ Call 0 ∷ []

abbrev size_code : List Instr
size_code = MemorySize ∷ Drop ∷ Nop ∷ []

-- a value of a type
abbrev pub value : ValType → ℕ → sem.Value
value types.I32 n = I32 n
value types.I64 n = I64 n

abbrev pub number_of : sem.Value → ℕ
number_of (I32 n) = n
number_of (I64 n) = n

pub onto_append : (xs ys : List Instr) (t : Tree) → onto (xs ++ ys) t ≡ onto xs (onto ys t)
onto_append [] ys t = refl
onto_append (x ∷ xs) ys t = ap (before x) (onto_append xs ys t)

-- what changes in a body: the memory, the global, how many host calls were made, the three locals, and where it stands
pub record Moment : Type 0 where
  pub memory : List ℕ
  pub global : ℕ
  pub hosts : ℕ
  pub param : ℕ
  pub short : ℕ
  pub long : ℕ
  pub pending : ℕ
  pub at : ℕ

-- the memory has one page
abbrev pub IsHome : Moment → Type 0
IsHome m = length m.memory ≡ 65536

-- a made module: the host's function, and its own
module _ (others : List Callee) (hooked : Bool) (limit : ℕ) (calls : List (Option Entry)) (slots : List (Option ℕ)) (phase : Phase) (started : Option Answer)
    (answers : List Answer) where
  abbrev pub inst : Instance
  inst = record {
    types = func_types;
    funcs = host (record { params = types.I32 ∷ []; results = [] }) ∷ others;
    start = None;
    hooked = hooked;
    limit = limit;
    calls = calls;
    hosts = [];
    depth = 10000;
  }

  abbrev pub env : Moment → Env
  env m = record { phase = phase; started = started; answers = answers; store = record { memory = m.memory; globals = I32 m.global ∷ []; slots = slots; hosts = m.hosts } }

  -- a function's frame, behind these labels and frames
  module _ (func : ℕ) (scope : Scope) (arity : ℕ) (cont : Cont) (outer : List Label) (below : List Frame) (ty : ValType) where
    abbrev pub frame : Moment → List sem.Value → Tree → Frame
    frame m ops rest = record {
      func = func;
      locals = value ty m.param ∷ I32 m.short ∷ I64 m.long ∷ [];
      pending = m.pending;
      top = record { scope = scope; arity = arity; cont = cont; ops = ops; at = m.at; rest = rest };
      outer = outer;
    }

    abbrev pub stands : Moment → List sem.Value → Tree → Configuration
    stands m ops rest = configuration (env m) (frame m ops rest ∷ below)

    abbrev moment_of : Configuration → Moment
    moment_of (configuration e []) = record { memory = []; global = 0; hosts = 0; param = 0; short = 0; long = 0; pending = 0; at = 0 }
    moment_of (configuration e (fr ∷ frs)) = record {
      memory = e.store.memory;
      global = number_of (slice_index_or e.store.globals 0 (I32 0));
      hosts = e.store.hosts;
      param = number_of (slice_index_or fr.locals 0 (I32 0));
      short = number_of (slice_index_or fr.locals 1 (I32 0));
      long = number_of (slice_index_or fr.locals 2 (I32 0));
      pending = fr.pending;
      at = fr.top.at;
    }

    -- so many steps lead to what follows, with the operands as they were
    pub record Passes (most : ℕ) (from : Configuration) (ops : List sem.Value) (rest : Tree) : Type 0 where
      pub count : ℕ
      pub few : count ≤ most
      pub after : Moment
      pub home : IsHome after
      pub is : run inst count from ≡ stands after ops rest

    -- these steps do
    abbrev passed : (count most : ℕ) (from : Configuration) (ops : List sem.Value) (rest : Tree) → count ≤ most → IsHome (moment_of (run inst count from))
        → run inst count from ≡ stands (moment_of (run inst count from)) ops rest → Passes most from ops rest
    passed count most from ops rest few home is = record { count = count; few = few; after = moment_of (run inst count from); home = home; is = is }

    -- some steps before
    pub behind : (count most : ℕ) (from mid : Configuration) (ops : List sem.Value) (rest : Tree) → run inst count from ≡ mid → Passes most mid ops rest
        → Passes (count + most) from ops rest
    behind count most from mid ops rest e p = record {
      count = count + p.count;
      few = omega (arith, p.few);
      after = p.after;
      home = p.home;
      is = run_add inst count p.count from ∙ ap (run inst p.count) e ∙ p.is;
    }

    pub more : (most greater : ℕ) (from : Configuration) (ops : List sem.Value) (rest : Tree) → most ≤ greater → Passes most from ops rest → Passes greater from ops rest
    more most greater from ops rest few p = record { count = p.count; few = omega (arith, few, p.few); after = p.after; home = p.home; is = p.is }

    -- a piece is passed
    abbrev pub PassesCode : List Instr → Type 0
    PassesCode code = (m : Moment) → IsHome m → (ops : List sem.Value) (rest : Tree) → Passes 40 (stands m ops (onto code rest)) ops rest

  -- ---- pieces of both types

  module _ (func : ℕ) (scope : Scope) (arity : ℕ) (cont : Cont) (outer : List Label) (below : List Frame) where
    abbrev At : ValType → List Instr → Type 0
    At ty code = PassesCode func scope arity cont outer below ty code

    abbrev from : (ty : ValType) → Moment → List sem.Value → Tree → Configuration
    from ty m ops rest = stands func scope arity cont outer below ty m ops rest

    abbrev steps : (ty : ValType) (count : ℕ) (m : Moment) (code : List Instr) (ops : List sem.Value) (rest : Tree) → count ≤ 40
        → IsHome (moment_of func scope arity cont outer below ty (run inst count (from ty m ops (onto code rest))))
        → run inst count (from ty m ops (onto code rest)) ≡ from ty (moment_of func scope arity cont outer below ty (run inst count (from ty m ops (onto code rest)))) ops rest
        → Passes func scope arity cont outer below ty 40 (from ty m ops (onto code rest)) ops rest
    steps ty count m code ops rest few home is = passed func scope arity cont outer below ty count 40 (from ty m ops (onto code rest)) ops rest few home is

    size_passes : (ty : ValType) → At ty size_code
    size_passes types.I32 m home ops rest = steps types.I32 3 m size_code ops rest (omega arith) home refl
    size_passes types.I64 m home ops rest = steps types.I64 3 m size_code ops rest (omega arith) home refl

    count_passes : (ty : ValType) → At ty count_code
    count_passes types.I32 m home ops rest = steps types.I32 4 m count_code ops rest (omega arith) home refl
    count_passes types.I64 m home ops rest = steps types.I64 4 m count_code ops rest (omega arith) home refl

    note_passes : (ty : ValType) (argument : ℕ) → At ty (note_code argument)
    note_passes types.I32 argument m home ops rest = steps types.I32 2 m (note_code argument) ops rest (omega arith) home refl
    note_passes types.I64 argument m home ops rest = steps types.I64 2 m (note_code argument) ops rest (omega arith) home refl

    pick_passes : (ty : ValType) (first second : ℕ) → At ty (pick_code ty first second)
    pick_passes types.I32 first second m home ops rest = steps types.I32 5 m (pick_code types.I32 first second) ops rest (omega arith) home refl
    pick_passes types.I64 first second m home ops rest = steps types.I64 6 m (pick_code types.I64 first second) ops rest (omega arith) home refl

    -- so many steps lead through a code
    abbrev Leads : (count : ℕ) → ValType → List Instr → Type 0
    Leads count ty code =
        (m : Moment) → IsHome m → (ops : List sem.Value) (rest : Tree)
        → IsHome (moment_of func scope arity cont outer below ty (run inst count (from ty m ops (onto code rest))))
        × (run inst count (from ty m ops (onto code rest))
        ≡ from ty (moment_of func scope arity cont outer below ty (run inst count (from ty m ops (onto code rest)))) ops rest)

    by_steps : (count : ℕ) → count ≤ 40 → (ty : ValType) (code : List Instr) → Leads count ty code → At ty code
    by_steps count few ty code leads m home ops rest =
        let led = leads m home ops rest in steps ty count m code ops rest few led.0 led.1

    binary_steps : (ty : ValType) (operand : ℕ) (op : NumOp) → Leads 4 ty (binary_code ty operand op) → At ty (binary_code ty operand op)
    binary_steps ty operand op leads = by_steps 4 (omega arith) ty (binary_code ty operand op) leads

    unary_steps : (ty : ValType) (op : NumOp) → Leads 3 ty (unary_code op) → At ty (unary_code op)
    unary_steps ty op leads = by_steps 3 (omega arith) ty (unary_code op) leads

    binaries : (ty : ValType) (a : ℕ) → AllByRecursion (λ op. At ty (binary_code ty a op)) (binary_ops ty)
    binaries types.I32 a = (
      binary_steps types.I32 a I32Add (λ m home ops rest. (home, refl)),
      (
        binary_steps types.I32 a I32Sub (λ m home ops rest. (home, refl)),
        (
          binary_steps types.I32 a I32Mul (λ m home ops rest. (home, refl)),
          (
            binary_steps types.I32 a I32And (λ m home ops rest. (home, refl)),
            (
              binary_steps types.I32 a I32Or (λ m home ops rest. (home, refl)),
              (
                binary_steps types.I32 a I32Xor (λ m home ops rest. (home, refl)),
                (
                  binary_steps types.I32 a I32Shl (λ m home ops rest. (home, refl)),
                  (
                    binary_steps types.I32 a I32ShrS (λ m home ops rest. (home, refl)),
                    (
                      binary_steps types.I32 a I32ShrU (λ m home ops rest. (home, refl)),
                      (
                        binary_steps types.I32 a I32Rotl (λ m home ops rest. (home, refl)),
                        (binary_steps types.I32 a I32Rotr (λ m home ops rest. (home, refl)), tt),
                      ),
                    ),
                  ),
                ),
              ),
            ),
          ),
        ),
      ),
    )
    binaries types.I64 a = (
      binary_steps types.I64 a I64Add (λ m home ops rest. (home, refl)),
      (
        binary_steps types.I64 a I64Sub (λ m home ops rest. (home, refl)),
        (
          binary_steps types.I64 a I64Mul (λ m home ops rest. (home, refl)),
          (
            binary_steps types.I64 a I64And (λ m home ops rest. (home, refl)),
            (
              binary_steps types.I64 a I64Or (λ m home ops rest. (home, refl)),
              (
                binary_steps types.I64 a I64Xor (λ m home ops rest. (home, refl)),
                (
                  binary_steps types.I64 a I64Shl (λ m home ops rest. (home, refl)),
                  (
                    binary_steps types.I64 a I64ShrS (λ m home ops rest. (home, refl)),
                    (
                      binary_steps types.I64 a I64ShrU (λ m home ops rest. (home, refl)),
                      (
                        binary_steps types.I64 a I64Rotl (λ m home ops rest. (home, refl)),
                        (binary_steps types.I64 a I64Rotr (λ m home ops rest. (home, refl)), tt),
                      ),
                    ),
                  ),
                ),
              ),
            ),
          ),
        ),
      ),
    )

    unaries : (ty : ValType) → AllByRecursion (λ op. At ty (unary_code op)) (unary_ops ty)
    unaries types.I32 = (
      unary_steps types.I32 I32Clz (λ m home ops rest. (home, refl)),
      (
        unary_steps types.I32 I32Ctz (λ m home ops rest. (home, refl)),
        (unary_steps types.I32 I32Popcnt (λ m home ops rest. (home, refl)), tt),
      ),
    )
    unaries types.I64 = (
      unary_steps types.I64 I64Clz (λ m home ops rest. (home, refl)),
      (
        unary_steps types.I64 I64Ctz (λ m home ops rest. (home, refl)),
        (unary_steps types.I64 I64Popcnt (λ m home ops rest. (home, refl)), tt),
      ),
    )

    -- a loop turns at most four times
    repeat_passes : (ty : ValType) (turns : ℕ) → turns < 4 → At ty (repeat_code (1 + turns))
    repeat_passes types.I32 zero few m home ops rest = steps types.I32 9 m (repeat_code 1) ops rest (omega arith) home refl
    repeat_passes types.I32 (suc zero) few m home ops rest = steps types.I32 15 m (repeat_code 2) ops rest (omega arith) home refl
    repeat_passes types.I32 (suc (suc zero)) few m home ops rest = steps types.I32 21 m (repeat_code 3) ops rest (omega arith) home refl
    repeat_passes types.I32 (suc (suc (suc zero))) few m home ops rest = steps types.I32 27 m (repeat_code 4) ops rest (omega arith) home refl
    repeat_passes types.I64 zero few m home ops rest = steps types.I64 9 m (repeat_code 1) ops rest (omega arith) home refl
    repeat_passes types.I64 (suc zero) few m home ops rest = steps types.I64 15 m (repeat_code 2) ops rest (omega arith) home refl
    repeat_passes types.I64 (suc (suc zero)) few m home ops rest = steps types.I64 21 m (repeat_code 3) ops rest (omega arith) home refl
    repeat_passes types.I64 (suc (suc (suc zero))) few m home ops rest = steps types.I64 27 m (repeat_code 4) ops rest (omega arith) home refl
    repeat_passes ty (suc (suc (suc (suc n)))) few m home ops rest = absurd (omega (arith, few))

    -- with another parameter
    abbrev with_param : Moment → ℕ → Moment
    with_param m x = record m { param = x }

    -- with another number on top of the operands
    abbrev set_top : Configuration → ℕ → Configuration
    set_top (configuration e []) c = configuration e []
    set_top (configuration e (fr ∷ frs)) c = configuration e (record fr { top = record fr.top { ops = I32 c ∷ drop 1 fr.top.ops } } ∷ frs)

    abbrev further : (ty : ValType) (count most : ℕ) (start : Configuration) (ops : List sem.Value) (rest : Tree) → count ≤ most
        → IsHome (moment_of func scope arity cont outer below ty (run inst count start))
        → run inst count start ≡ from ty (moment_of func scope arity cont outer below ty (run inst count start)) ops rest
        → Passes func scope arity cont outer below ty most start ops rest
    further ty count most start ops rest few home is = passed func scope arity cont outer below ty count most start ops rest few home is

    -- a condition leads to one place or the other, whatever the parameter is
    table_by : (x : ℕ) (m : Moment) → IsHome m → (ops : List sem.Value) (rest : Tree)
        → Passes func scope arity cont outer below types.I32 40 (from types.I32 (with_param m x) ops (onto (table_code types.I32) rest)) ops rest
    table_by zero m home ops rest = steps types.I32 6 (with_param m zero) (table_code types.I32) ops rest (omega arith) home refl
    table_by (suc x) m home ops rest = steps types.I32 4 (with_param m (suc x)) (table_code types.I32) ops rest (omega arith) home refl

    table_from : (c : ℕ) (m : Moment) → IsHome m → (ops : List sem.Value) (rest : Tree)
        → Passes func scope arity cont outer below types.I64 36 (set_top (run inst 4 (from types.I64 m ops (onto (table_code types.I64) rest))) c) ops rest
    table_from zero m home ops rest =
        further types.I64 3 36 (set_top (run inst 4 (from types.I64 m ops (onto (table_code types.I64) rest))) zero) ops rest (omega arith) home refl
    table_from (suc c) m home ops rest =
        further types.I64 1 36 (set_top (run inst 4 (from types.I64 m ops (onto (table_code types.I64) rest))) (suc c)) ops rest (omega arith) home refl

    table_passes : (ty : ValType) → At ty (table_code ty)
    table_passes types.I32 m home ops rest = table_by m.param m home ops rest
    table_passes types.I64 m home ops rest =
        behind func scope arity cont outer below types.I64 4 36 (from types.I64 m ops (onto (table_code types.I64) rest))
        (set_top (run inst 4 (from types.I64 m ops (onto (table_code types.I64) rest))) (from_bool (m.param == 0))) ops rest refl
        (table_from (from_bool (m.param == 0)) m home ops rest)

    choice_by : (a b x : ℕ) (m : Moment) → IsHome m → (ops : List sem.Value) (rest : Tree)
        → Passes func scope arity cont outer below types.I32 40 (from types.I32 (with_param m x) ops (onto (choice_code types.I32 a b) rest)) ops rest
    choice_by a b zero m home ops rest = steps types.I32 5 (with_param m zero) (choice_code types.I32 a b) ops rest (omega arith) home refl
    choice_by a b (suc x) m home ops rest = steps types.I32 5 (with_param m (suc x)) (choice_code types.I32 a b) ops rest (omega arith) home refl

    choice_from : (a b c : ℕ) (m : Moment) → IsHome m → (ops : List sem.Value) (rest : Tree)
        → Passes func scope arity cont outer below types.I64 38 (set_top (run inst 2 (from types.I64 m ops (onto (choice_code types.I64 a b) rest))) c) ops rest
    choice_from a b zero m home ops rest =
        further types.I64 4 38 (set_top (run inst 2 (from types.I64 m ops (onto (choice_code types.I64 a b) rest))) zero) ops rest (omega arith) home refl
    choice_from a b (suc c) m home ops rest =
        further types.I64 4 38 (set_top (run inst 2 (from types.I64 m ops (onto (choice_code types.I64 a b) rest))) (suc c)) ops rest (omega arith) home refl

    choice_passes : (ty : ValType) (first second : ℕ) → At ty (choice_code ty first second)
    choice_passes types.I32 a b m home ops rest = choice_by a b m.param m home ops rest
    choice_passes types.I64 a b m home ops rest =
        behind func scope arity cont outer below types.I64 2 38 (from types.I64 m ops (onto (choice_code types.I64 a b) rest))
        (set_top (run inst 2 (from types.I64 m ops (onto (choice_code types.I64 a b) rest))) (from_bool (m.param == 0))) ops rest refl
        (choice_from a b (from_bool (m.param == 0)) m home ops rest)

    -- a value is stored, and a byte of it loaded, within the page
    abbrev stored : (address : ℕ) → List ℕ → List ℕ → List ℕ
    stored address bytes memory = overlay (modulo (pos address) (2 ^ 32) + 0) bytes memory

    abbrev byte_of : (address : ℕ) → List ℕ → ℕ
    byte_of address memory = from_le_bytes w8 (take 1 (drop (modulo (pos address) (2 ^ 32) + 0) memory))

    abbrev behind_store : (address : ℕ) → List ℕ → Moment → Moment
    behind_store address bytes m = record {
      memory = stored address bytes m.memory;
      global = m.global;
      hosts = m.hosts;
      param = byte_of address (stored address bytes m.memory);
      short = m.short;
      long = m.long;
      pending = m.at + 1 + 1 + 1 + 1 + 1;
      at = m.at + 1 + 1 + 1 + 1 + 1 + 1;
    }

    memory_passes : (ty : ValType) (address : ℕ) → address < 60000 → At ty (memory_code ty address)
    memory_passes types.I32 address few m home ops rest =
        let bytes = to_le_bytes w32 m.param in
        let place : modulo (pos address) (2 ^ 32) ≡ address = omega (arith, few) in
        let within : modulo (pos address) (2 ^ 32) + 0 + length bytes ≤ length m.memory = omega (arith, place, few, home) in
        let fits : nat_le (modulo (pos address) (2 ^ 32) + 0 + length bytes) (length m.memory) ≡ true = grind (arith, nat_tests, within) in
        let same : length (stored address bytes m.memory) ≡ length m.memory = overlay_length (modulo (pos address) (2 ^ 32) + 0) bytes m.memory within in
        let there : nat_le (modulo (pos address) (2 ^ 32) + 0 + 1) (length (stored address bytes m.memory)) ≡ true = grind (arith, nat_tests, within, same) in
        record { count = 6; few = omega arith; after = behind_store address bytes m; home = same ∙ home; is = rw (fits, there) refl }
    memory_passes types.I64 address few m home ops rest =
        let bytes = to_le_bytes w64 m.param in
        let place : modulo (pos address) (2 ^ 32) ≡ address = omega (arith, few) in
        let within : modulo (pos address) (2 ^ 32) + 0 + length bytes ≤ length m.memory = omega (arith, place, few, home) in
        let fits : nat_le (modulo (pos address) (2 ^ 32) + 0 + length bytes) (length m.memory) ≡ true = grind (arith, nat_tests, within) in
        let same : length (stored address bytes m.memory) ≡ length m.memory = overlay_length (modulo (pos address) (2 ^ 32) + 0) bytes m.memory within in
        let there : nat_le (modulo (pos address) (2 ^ 32) + 0 + 1) (length (stored address bytes m.memory)) ≡ true = grind (arith, nat_tests, within, same) in
        record { count = 6; few = omega arith; after = behind_store address bytes m; home = same ∙ home; is = rw (fits, there) refl }

    -- ---- a piece that is drawn

    below_bound : (x n : ℕ) → 0 < n → shown x n < n
    below_bound x n h = omega arith

    either : {A : Type 0} (P : A → Type 0) (b : Bool) (u v : Drawn A) → P u.made → P v.made → P (if b then u else v).made
    either P true u v f g = f
    either P false u v f g = g

    binary_passes : (ty : ValType) (a x : ℕ) → At ty (binary_code ty a (binary_op ty (shown x 11)))
    binary_passes types.I32 a x = All-from_recursion (λ op. At types.I32 (binary_code types.I32 a op)) (binary_ops types.I32) (binaries types.I32 a) (shown x 11) I32Add (below_bound x 11 (omega arith))
    binary_passes types.I64 a x = All-from_recursion (λ op. At types.I64 (binary_code types.I64 a op)) (binary_ops types.I64) (binaries types.I64 a) (shown x 11) I32Add (below_bound x 11 (omega arith))

    unary_passes : (ty : ValType) (x : ℕ) → At ty (unary_code (unary_op ty (shown x 3)))
    unary_passes types.I32 x = All-from_recursion (λ op. At types.I32 (unary_code op)) (unary_ops types.I32) (unaries types.I32) (shown x 3) I32Clz (below_bound x 3 (omega arith))
    unary_passes types.I64 x = All-from_recursion (λ op. At types.I64 (unary_code op)) (unary_ops types.I64) (unaries types.I64) (shown x 3) I32Clz (below_bound x 3 (omega arith))

    form_passes : (form : ℕ) (ty : ValType) (x : ℕ) → At ty (piece_code ty (piece_of form ty x).made)
    form_passes form ty x =
        either (λ p. At ty (piece_code ty p)) (form == 0) _ _ (binary_passes ty (shown (stepped x) 1000) (stepped (stepped x)))
        (either (λ p. At ty (piece_code ty p)) (form == 1) _ _ (unary_passes ty (stepped x))
        (either (λ p. At ty (piece_code ty p)) (form == 2) _ _ (memory_passes ty (shown (stepped x) 60000) (below_bound (stepped x) 60000 (omega arith)))
        (either (λ p. At ty (piece_code ty p)) (form == 3) _ _ (repeat_passes ty (shown (stepped x) 4) (below_bound (stepped x) 4 (omega arith)))
        (either (λ p. At ty (piece_code ty p)) (form == 4) _ _ (table_passes ty)
        (either (λ p. At ty (piece_code ty p)) (form == 5) _ _ (choice_passes ty (shown (stepped x) 1000) (shown (stepped (stepped x)) 1000))
        (either (λ p. At ty (piece_code ty p)) (form == 6) _ _ (pick_passes ty (shown (stepped x) 1000) (shown (stepped (stepped x)) 1000))
        (either (λ p. At ty (piece_code ty p)) (form == 7) _ _ (count_passes ty)
        (either (λ p. At ty (piece_code ty p)) (form == 8) _ _ (note_passes ty (shown (stepped x) 1000)) (size_passes ty)))))))))

    drawn_pass : (ty : ValType) (count x : ℕ) → AllByRecursion (λ p. At ty (piece_code ty p)) (drawn_pieces ty count x).made
    drawn_pass ty zero x = tt
    drawn_pass ty (suc count) x =
        let before = drawn_pieces ty count x in
        all_both (λ p. At ty (piece_code ty p)) before.made ((drawn_piece ty before.state).made ∷ []) (drawn_pass ty count x)
        (form_passes (shown (stepped before.state) 10) ty (stepped before.state), tt)

    -- ---- pieces one after the other

    pieces_pass : {A : Type 0} (ty : ValType) (code : A → List Instr) (ps : List A) → AllByRecursion (λ p. At ty (code p)) ps → (m : Moment) → IsHome m
        → (ops : List sem.Value) (rest : Tree)
        → Passes func scope arity cont outer below ty (40 * length ps) (from ty m ops (onto (flat_map code ps) rest)) ops rest
    pieces_pass ty code [] all m home ops rest = record { count = 0; few = omega arith; after = m; home = home; is = refl }
    pieces_pass ty code (p ∷ ps) all m home ops rest =
        let first = all.0 m home ops (onto (flat_map code ps) rest) in
        let others = pieces_pass ty code ps all.1 first.after first.home ops rest in
        record {
          count = first.count + others.count;
          few = omega (arith, first.few, others.few, mul-suc 40 (length ps));
          after = others.after;
          home = others.home;
          is =
              ap (λ t. run inst (first.count + others.count) (from ty m ops t)) (onto_append (code p) (flat_map code ps) rest)
              ∙ run_add inst first.count others.count (from ty m ops (onto (code p) (onto (flat_map code ps) rest)))
              ∙ ap (run inst others.count) first.is ∙ others.is;
        }

    -- all that a body begins with
    pub front_passes : (ty : ValType) (x : ℕ) (m : Moment) → IsHome m → (ops : List sem.Value) (rest : Tree)
        → Passes func scope arity cont outer below ty 1280 (from ty m ops (onto (pieces_code ty (front ty x).made) rest)) ops rest
    front_passes ty x m home ops rest =
        let n = 8 + shown (stepped x) 25 in
        let ps = drawn_pieces ty n (stepped x) in
        let long = pieces_count ty n (stepped x) in
        more func scope arity cont outer below ty (40 * length ps.made) 1280 (from ty m ops (onto (pieces_code ty ps.made) rest)) ops rest (omega (arith, long))
        (pieces_pass ty (piece_code ty) ps.made (drawn_pass ty n (stepped x)) m home ops rest)

  -- ---- functions

  -- what stands when one of its own functions is entered, and when it has returned
  abbrev pub entered : (func : ℕ) → ValType → Tree → Moment → (argument : ℕ) → Frame → List Frame → Configuration
  entered func ty code m argument caller below =
      configuration (env m) (new_frame func (unary_type ty) (types.I32 ∷ types.I64 ∷ []) code (value ty argument ∷ []) ∷ caller ∷ below)

  abbrev pub returned : ValType → Moment → (result : ℕ) → Frame → List Frame → Configuration
  returned ty m result caller below = configuration (env m) (with_ops caller (push (value ty result ∷ []) caller.top.ops) ∷ below)

  pub record Returns (most : ℕ) (from : Configuration) (ty : ValType) (caller : Frame) (below : List Frame) : Type 0 where
    pub count : ℕ
    pub few : count ≤ most
    pub after : Moment
    pub home : IsHome after
    pub result : ℕ
    pub is : run inst count from ≡ returned ty after result caller below

  pub returns_behind : (count most : ℕ) (from mid : Configuration) (ty : ValType) (caller : Frame) (below : List Frame) → run inst count from ≡ mid
      → Returns most mid ty caller below → Returns (count + most) from ty caller below
  returns_behind count most from mid ty caller below e p = record {
    count = count + p.count;
    few = omega (arith, p.few);
    after = p.after;
    home = p.home;
    result = p.result;
    is = run_add inst count p.count from ∙ ap (run inst p.count) e ∙ p.is;
  }

  -- the function of this index has this code
  abbrev pub HasCode : (func : ℕ) → ValType → Tree → Type 0
  HasCode func ty code = slice_get inst.funcs func ≡ Some (own (unary_type ty) (types.I32 ∷ types.I64 ∷ []) code)

  pub returns_then : (a b : ℕ) (from : Configuration) (ty : ValType) (inner : Frame) (inside : List Frame) (caller : Frame) (below : List Frame)
      → (first : Returns a from ty inner inside) → Returns b (returned ty first.after first.result inner inside) ty caller below → Returns (a + b) from ty caller below
  returns_then a b from ty inner inside caller below first p = record {
    count = first.count + p.count;
    few = omega (arith, first.few, p.few);
    after = p.after;
    home = p.home;
    result = p.result;
    is = run_add inst first.count p.count from ∙ ap (run inst p.count) first.is ∙ p.is;
  }

  pub returns_more : (most greater : ℕ) (from : Configuration) (ty : ValType) (caller : Frame) (below : List Frame) → most ≤ greater → Returns most from ty caller below
      → Returns greater from ty caller below
  returns_more most greater from ty caller below few p = record {
    count = p.count;
    few = omega (arith, few, p.few);
    after = p.after;
    home = p.home;
    result = p.result;
    is = p.is;
  }

  -- a function stands before its last part, and waits behind a call in it
  abbrev pub last_at : (func : ℕ) → Scope → ValType → Frame → List Frame → Moment → List Instr → Configuration
  last_at func scope ty caller below m code = stands func scope 1 machine.behind [] (caller ∷ below) ty m [] (onto code done)

  abbrev waiting : (func : ℕ) → Scope → ValType → Frame → List Frame → Moment → Frame
  waiting func scope ty caller below m = frame func scope 1 machine.behind [] (caller ∷ below) ty m [] done

  -- so many instructions further on
  abbrev moved : Moment → (pending at : ℕ) → Moment
  moved m pending at = record m { pending = pending; at = at }

  -- the parameter is the result
  param_returns : (func : ℕ) (scope : Scope) (ty : ValType) (caller : Frame) (below : List Frame) (m : Moment) → IsHome m
      → Returns 2 (last_at func scope ty caller below m (LocalGet 0 ∷ [])) ty caller below
  param_returns func scope ty caller below m home = record { count = 2; few = omega arith; after = m; home = home; result = m.param; is = refl }

  -- or what a call has returned
  result_returns : (func : ℕ) (scope : Scope) (ty : ValType) (caller : Frame) (below : List Frame) (m n : Moment) → IsHome m → (r : ℕ)
      → Returns 1 (returned ty m r (waiting func scope ty caller below n) (caller ∷ below)) ty caller below
  result_returns func scope ty caller below m n home r = record { count = 1; few = omega arith; after = m; home = home; result = r; is = refl }

  -- a function is called by its index
  direct_enters : (func : ℕ) (scope : Scope) (ty : ValType) (caller : Frame) (below : List Frame) (g : ℕ) (code : Tree) → HasCode g ty code
      → nat_lt (length (caller ∷ caller ∷ below)) 10000 ≡ true → (m : Moment)
      → run inst 2 (last_at func scope ty caller below m (LocalGet 0 ∷ Call g ∷ []))
      ≡ entered g ty code m m.param (waiting func scope ty caller below (moved m (m.at + 1) (m.at + 1 + 1))) (caller ∷ below)
  direct_enters func scope ty caller below g code found deep m = rw (found, deep) refl

  -- or through the table
  indirect_enters : (func : ℕ) (scope : Scope) (ty : ValType) (caller : Frame) (below : List Frame) (slot g : ℕ) (code : Tree) → HasCode g ty code
      → slice_get slots (slot % 2 ^ 32) ≡ Some (Some g) → nat_lt (length (caller ∷ caller ∷ below)) 10000 ≡ true → (m : Moment)
      → run inst 3 (last_at func scope ty caller below m (LocalGet 0 ∷ I32Const (pos slot) ∷ CallIndirect (type_index ty) ∷ []))
      ≡ entered g ty code m m.param (waiting func scope ty caller below (moved m (m.at + 1 + 1) (m.at + 1 + 1 + 1))) (caller ∷ below)
  indirect_enters func scope types.I32 caller below slot g code found there deep m = rw (there, found, deep) refl
  indirect_enters func scope types.I64 caller below slot g code found there deep m = rw (there, found, deep) refl

  -- ---- the functions of a made module

  module _ (most : ℕ) (seed : ℕ → ℕ) (few : most < 5000)
      (codes_are : (f : ℕ) → 1 ≤ f → f ≤ most → HasCode f (param_type f) (body_drawn f (seed f)).made.code)
      (slots_are : (f : ℕ) → 3 ≤ f → f ≤ most → slice_get slots (f - 3) ≡ Some (Some (f - 2))) where
    abbrev code_at : ℕ → Tree
    code_at f = (body_drawn f (seed f)).made.code

    -- what a call of it does, from wherever there is room
    abbrev pub FunctionReturns : ℕ → Type 0
    FunctionReturns f =
        (ty : ValType) → param_type f ≡ ty → (m : Moment) → IsHome m → (argument : ℕ) (caller : Frame) (below : List Frame) → length below + f < 9000
        → Returns (1300 * f) (entered f ty (code_at f) m argument caller below) ty caller below

    module _ (f : ℕ) (some : 1 ≤ f) (within : f ≤ most) (sooner : 3 ≤ f → FunctionReturns (f - 2)) (scope : Scope) (m : Moment) (home : IsHome m)
        (caller : Frame) (below : List Frame) (room : length below + f < 9000) where
      abbrev ty : ValType
      ty = param_type f

      -- where a call was entered, the rest follows
      called : (steps : ℕ) (code : List Instr) (n : Moment) → 3 ≤ f → steps ≤ 3
          → run inst steps (last_at f scope ty caller below m code) ≡ entered (f - 2) ty (code_at (f - 2)) m m.param (waiting f scope ty caller below n) (caller ∷ below)
          → Returns (1300 * (f - 2) + 4) (last_at f scope ty caller below m code) ty caller below
      called steps code n three short enters =
          let even : (f - 2) % 2 ≡ f % 2 = omega (arith, three) in
          let inner = waiting f scope ty caller below n in
          let inside = caller ∷ below in
          let first = sooner three ty (same_type (f - 2) f even) m home m.param inner inside (omega (arith, room, three)) in
          let whole = returns_then (1300 * (f - 2)) 1 (entered (f - 2) ty (code_at (f - 2)) m m.param inner inside) ty inner inside caller below first
          (result_returns f scope ty caller below first.after n first.home first.result) in
          returns_more (steps + (1300 * (f - 2) + 1)) (1300 * (f - 2) + 4) (last_at f scope ty caller below m code) ty caller below (omega (arith, short))
          (returns_behind steps (1300 * (f - 2) + 1) (last_at f scope ty caller below m code) (entered (f - 2) ty (code_at (f - 2)) m m.param inner inside) ty caller below enters whole)

      callee : 3 ≤ f → HasCode (f - 2) ty (code_at (f - 2))
      callee three =
          let even : (f - 2) % 2 ≡ f % 2 = omega (arith, three) in
          subst (λ t. HasCode (f - 2) t (code_at (f - 2))) (same_type (f - 2) f even) (codes_are (f - 2) (omega (arith, three)) (omega (arith, within)))

      deep : nat_lt (length (caller ∷ caller ∷ below)) 10000 ≡ true
      deep = grind (arith, nat_tests, room)

      call_returns : (choice : ℕ) → 3 ≤ f → Returns (1300 * (f - 2) + 4) (last_at f scope ty caller below m (call_of f choice)) ty caller below
      call_returns choice three = by (choice == 0)
        where
          by : (b : Bool) → Returns (1300 * (f - 2) + 4)
              (last_at f scope ty caller below m (if b then LocalGet 0 ∷ Call (f - 2) ∷ [] else LocalGet 0 ∷ I32Const (pos (f - 3)) ∷ CallIndirect (func_index f) ∷ [])) ty caller below
          by true =
              called 2 (LocalGet 0 ∷ Call (f - 2) ∷ []) (moved m (m.at + 1) (m.at + 1 + 1)) three (omega arith)
              (direct_enters f scope ty caller below (f - 2) (code_at (f - 2)) (callee three) deep m)
          by false =
              let small : (f - 3) % 2 ^ 32 ≡ f - 3 = omega (arith, within, few) in
              called 3 (LocalGet 0 ∷ I32Const (pos (f - 3)) ∷ CallIndirect (func_index f) ∷ []) (moved m (m.at + 1 + 1) (m.at + 1 + 1 + 1)) three (omega arith)
              (indirect_enters f scope ty caller below (f - 3) (f - 2) (code_at (f - 2)) (callee three) (ap (slice_get slots) small ∙ slots_are f three within) deep m)

      -- the last part of a body
      last_returns : (x : ℕ) → Returns (1300 * (f - 2) + 4) (last_at f scope ty caller below m (last_part f x).made) ty caller below
      last_returns x = by (nat_lt f 3) refl
        where
          by : (b : Bool) → nat_lt f 3 ≡ b → Returns (1300 * (f - 2) + 4) (last_at f scope ty caller below m (if b then of_none (LocalGet 0 ∷ []) x else of_one 2 (call_of f) x).made) ty caller below
          by true e = returns_more 2 (1300 * (f - 2) + 4) (last_at f scope ty caller below m (LocalGet 0 ∷ [])) ty caller below (omega arith) (param_returns f scope ty caller below m home)
          by false e = call_returns (shown (stepped x) 2) (grind (arith, nat_tests, e))

    -- where a function begins
    abbrev begun : Moment → (argument : ℕ) → Moment
    begun m argument = record { memory = m.memory; global = m.global; hosts = m.hosts; param = argument; short = 0; long = 0; pending = 0; at = 0 }

    function_at : (f : ℕ) → 1 ≤ f → f ≤ most → (3 ≤ f → FunctionReturns (f - 2)) → (m : Moment) → IsHome m → (argument : ℕ) (caller : Frame) (below : List Frame)
        → length below + f < 9000 → Returns (1300 * f) (entered f (param_type f) (code_at f) m argument caller below) (param_type f) caller below
    function_at f some within sooner m home argument caller below room =
        let ty = param_type f in
        let y = seed f in
        let scope = function_scope (code_at f) in
        let last = last_part f (front ty y).state in
        let from = begun m argument in
        let p = front_passes f scope 1 machine.behind [] (caller ∷ below) ty y from home [] (onto last.made done) in
        let q = last_returns f some within sooner scope p.after p.home caller below room (front ty y).state in
        record {
          count = p.count + q.count;
          few = omega (arith, p.few, q.few, some);
          after = q.after;
          home = q.home;
          result = q.result;
          is =
              ap (λ t. run inst (p.count + q.count) (stands f scope 1 machine.behind [] (caller ∷ below) ty from [] t)) (onto_append (pieces_code ty (front ty y).made) last.made done)
              ∙ run_add inst p.count q.count (stands f scope 1 machine.behind [] (caller ∷ below) ty from [] (onto (pieces_code ty (front ty y).made) (onto last.made done)))
              ∙ ap (run inst q.count) p.is ∙ q.is;
        }

    pub functions_return : (fuel f : ℕ) → f ≤ fuel → 1 ≤ f → f ≤ most → FunctionReturns f
    functions_return zero f short some within t e m home argument caller below room = absurd (omega (arith, short, some))
    functions_return (suc fuel) f short some within t e m home argument caller below room =
        subst (λ u. Returns (1300 * f) (entered f u (code_at f) m argument caller below) u caller below) e
        (function_at f some within (λ three. functions_return fuel (f - 2) (omega (arith, short, three)) (omega (arith, three)) (omega (arith, within))) m home argument caller below room)
