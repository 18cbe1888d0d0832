-- 2.5.3 The types of locals, kept as runs of one type.
use Rattle.std.specs.Prelude.{ℕ, ◌-◌, ◌≤◌, List, [], ◌∷◌, ◌++◌, replicate}
use Rattle.wasm_num.specs.declared.ValType.{ValType}
use Rattle.code_valid.specs.declared.locals.Run.{Run}

-- the types of the locals from number `start` on; each run ends behind the one before
abbrev pub types_from : (start : ℕ) → List Run → List ValType
types_from start [] = []
types_from start (r ∷ rs) = replicate (r.end - start) r.ty ++ types_from r.end rs

-- no run ends before it begins
abbrev pub RiseFrom : (start : ℕ) → List Run → Type 0
RiseFrom start [] = Unit {0}
RiseFrom start (r ∷ rs) = (start ≤ r.end) × RiseFrom r.end rs
