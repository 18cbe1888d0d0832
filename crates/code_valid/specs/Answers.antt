-- What the calls of the check answer.
use Rattle.std.specs.Prelude.{◌≡◌, Option, Some, None, true, false, List, Result, Ok, Err}
use Rattle.wasm_num.specs.declared.ValType.{ValType}
use Rattle.ctrl_stack.specs.declared.stack.StackFault.{StackFault}
use Rattle.ctrl_stack.specs.declared.stack.StackFault.TheVariants.{Mismatch}
use Rattle.ctrl_stack.specs.declared.stack.StackFault.TheVariants as faults
use Rattle.module_ast.specs.Structure.{Tree}
use Rattle.module_ast.specs.Validation.{Context}
use Rattle.code_valid.specs.declared.invalid.BodyInvalid.{BodyInvalid}
use Rattle.code_valid.specs.declared.invalid.BodyInvalid.TheVariants.{Invalid, NoMemory}
use Rattle.code_valid.specs.Checking.{BlockStack, take_operand, ends_with}
use Rattle.code_valid.specs.Control.{Control, innermost_stack, with_innermost_stack}
use Rattle.code_valid.specs.Survey.{Notes, survey, out_of, out_to}

-- an invalid body says P; memory may run out at any time
abbrev pub OnRefusal : BodyInvalid → Type 0 → Type 0
OnRefusal Invalid P = P
OnRefusal NoMemory P = Unit {0}

abbrev pub OnlyMemory : {A : Type 0} → Result A BodyInvalid → Type 0 → Type 0
OnlyMemory (Ok x) P = P
OnlyMemory (Err e) P = e ≡ NoMemory

abbrev pub invalid_by : StackFault → BodyInvalid
invalid_by Mismatch = Invalid
invalid_by faults.NoMemory = NoMemory

-- the topmost operand is taken, which must be of the type `expected`
abbrev pub Pops : Result (Option ValType) BodyInvalid → (expected : Option ValType) → (old new : Control) → Type 0
Pops (Ok x) expected old new = (b : BlockStack) × (take_operand expected (innermost_stack old) ≡ Some (x, b)) × (new ≡ with_innermost_stack b old)
Pops (Err e) expected old new = (e ≡ Invalid) × (take_operand expected (innermost_stack old) ≡ None)

-- the operands of the innermost block become these
abbrev pub Moves : {A : Type 0} → Result A BodyInvalid → Option BlockStack → (old new : Control) → Type 0
Moves (Ok x) o old new = (b : BlockStack) × (o ≡ Some b) × (new ≡ with_innermost_stack b old)
Moves (Err e) o old new = OnRefusal e (o ≡ None)

-- the innermost block has exactly its results as operands
abbrev pub EndsBlock : {A : Type 0} → Result A BodyInvalid → Control → Type 0
EndsBlock (Ok x) s = ends_with s.innermost.results (Some (innermost_stack s)) ≡ true
EndsBlock (Err e) s = OnRefusal e (ends_with s.innermost.results (Some (innermost_stack s)) ≡ false)

-- ---- with what is noted

-- a sequence was checked, and left these notes
abbrev pub SurveysCode : {A : Type 0} → Result A BodyInvalid → Option (BlockStack × Notes) → (old new : Control) → Notes → Type 0
SurveysCode (Ok x) o old new w = (b : BlockStack) × (o ≡ Some (b, w)) × (new ≡ with_innermost_stack b old)
SurveysCode (Err e) o old new w = OnRefusal e (o ≡ None)

-- one instruction, whatever code is behind it
abbrev pub Steps : {A : Type 0} → Result A BodyInvalid → Context → (Tree → Tree) → (old new : Control) → (before after : Notes) → Type 0
Steps (Ok x) c f old new w v =
    (b : BlockStack) × (new ≡ with_innermost_stack b old) × ((t : Tree) → survey c old.innermost.base (f t) (innermost_stack old) w ≡ survey c old.innermost.base t b v)
Steps (Err e) c f old new w v = OnRefusal e ((t : Tree) → survey c old.innermost.base (f t) (innermost_stack old) w ≡ None)

-- a whole block, from the answer for its body; the code behind it is as live as the code before
abbrev pub Passes : {A : Type 0} → Result A BodyInvalid → List ValType → Option (BlockStack × Notes) → (old new : Control) → (before after : Notes) → Type 0
Passes (Ok x) results o old new w v =
    (b : BlockStack) × (m : Notes) × (o ≡ Some (b, m)) × (ends_with results (Some b) ≡ true) × (new ≡ old) × (v ≡ out_to w.live m)
Passes (Err e) results o old new w v = OnRefusal e ((f : Notes → Option (BlockStack × Notes)) → out_of results f o ≡ None)
