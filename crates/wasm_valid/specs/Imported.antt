-- What holds of an import if it is of one kind. 2.5.11
use Rattle.std.specs.Prelude.{ℕ}
use Rattle.module_ast.specs.declared.module.Range.{Range}
use Rattle.module_ast.specs.declared.module.Item.{Item}
use Rattle.module_ast.specs.declared.module.Item.TheVariants as items

abbrev pub IfFunc : Item → (ℕ → Type 0) → Type 0
IfFunc (items.Func ty) P = P ty
IfFunc _ P = Unit {0}

abbrev pub IfTable : Item → (Range → Type 0) → Type 0
IfTable (items.Table r) P = P r
IfTable _ P = Unit {0}

abbrev pub IfMemory : Item → (Range → Type 0) → Type 0
IfMemory (items.Memory r) P = P r
IfMemory _ P = Unit {0}
