-- The check answers exactly what the rules type, and notes what a typed body has.
use Rattle.std.specs.Prelude.{◌≡◌, ◌↔◌, ℕ, List, [], Some, true}
use Rattle.module_ast.specs.Places.{ends_live, Mark, code_marks, code_height, HasMarks}
use Rattle.wasm_num.specs.declared.ValType.{ValType}
use Rattle.module_ast.specs.Structure.{Tree}
use Rattle.module_ast.specs.Validation.{Context, push, TypesCode}
use Rattle.code_valid.specs.Checking.{BlockStack, check, accepts, marks_of, height_of}
use Rattle.code_valid.specs.Instance.{IsInstance, HasInstance, known_types}

-- the answer of the check admits exactly what the rules reach from the operands that were given
abbrev pub CheckIsExact : Type 0
CheckIsExact =
    (c : Context) (k : Tree) (a : BlockStack) (after : List ValType)
    → ((before : List ValType) × IsInstance a before × TypesCode c k before after) ↔ HasInstance (check c k a) after

abbrev pub AcceptsWhatIsTyped : Type 0
AcceptsWhatIsTyped = (c : Context) (k : Tree) (results : List ValType) → (accepts c k results ≡ true) ↔ TypesCode c k [] (push results [])

abbrev pub TypedHasMarks : Type 0
TypedHasMarks =
    (c : Context) (below p : ℕ) (k : Tree) (before after : List ValType) → TypesCode c k before after
    → HasMarks c below p k before (marks_of c true p k (known_types before)) (height_of c true below k (known_types before))

abbrev pub MarksAreUnique : Type 0
MarksAreUnique =
    (c : Context) (below p : ℕ) (k : Tree) (before : List ValType) (marks : List Mark) (height : ℕ) → HasMarks c below p k before marks height
    → (marks ≡ marks_of c true p k (known_types before)) × (height ≡ height_of c true below k (known_types before))

-- from known operands each type is known up to a live end
abbrev pub LiveTypesAreKnown : Type 0
LiveTypesAreKnown =
    (c : Context) (k : Tree) (before after : List ValType) → TypesCode c k before after → ends_live true k ≡ true
    → check c k (known_types before) ≡ Some (known_types after)

-- typed code has the marks and the height that `Marks` computes, and no others
abbrev pub MarksAreComputed : Type 0
MarksAreComputed =
    (c : Context) (below p : ℕ) (k : Tree) (before after : List ValType) → TypesCode c k before after
    → HasMarks c below p k before (code_marks c p k before) (code_height c below k before)

abbrev pub OnlyComputed : Type 0
OnlyComputed =
    (c : Context) (below p : ℕ) (k : Tree) (before after : List ValType) (marks : List Mark) (height : ℕ)
    → TypesCode c k before after → HasMarks c below p k before marks height
    → (marks ≡ code_marks c p k before) × (height ≡ code_height c below k before)
