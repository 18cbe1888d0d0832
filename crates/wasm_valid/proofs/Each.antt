-- What holds of each import of a kind holds of each entry of its index space.
use Rattle.std.proofs.Common.{◌≡◌, ℕ, Bool, true, false, List, [], ◌∷◌, ◌++◌}
use Rattle.std.specs.Prelude.{All, ◌↔◌, IsTrue}
use Rattle.std.proofs.lemmas.List.Elements.{All-nil, All-cons, All-head, All-tail, All-append}
use Rattle.module_ast.specs.declared.module.Range.{Range}
use Rattle.module_ast.specs.declared.module.Item.{Item}
use Rattle.module_ast.specs.declared.module.Item.TheVariants as items
use Rattle.module_ast.specs.declared.module.Import.{Import}
use Rattle.module_ast.specs.declared.module.Module.{Module}
use Rattle.module_ast.specs.Structure.{imported_funcs, imported_tables, imported_memories, tables_of, memories_of}
use Rattle.wasm_valid.specs.Imported.{IfFunc, IfTable, IfMemory}

-- an import of any kind before others stands for itself: so do all of them
each_by : {X : Type 0} (P : X → Type 0) (If : Import → Type 0) (imported : List Import → List X) → All P (imported []) → ((i : Import) (is : List Import) → (If i × All P (imported is)) ↔ All P (imported (i ∷ is)))
    → (is : List Import) → All If is ↔ All P (imported is)
each_by P If imported none first [] = (λ _. none, λ _. All-nil If)
each_by P If imported none first (i ∷ is) =
    let one = first i is in
    let rest = each_by P If imported none first is in
    (λ h. one.0 (All-head If i is h, rest.0 (All-tail If i is h)), λ h. All-cons If i is (one.1 h).0 (rest.1 (one.1 h).1))

-- an import before others, of any kind
func_first : (P : ℕ → Type 0) (i : Import) (item : Item) (is : List Import) → (let j = record i { item = item } in (IfFunc item P × All P (imported_funcs is)) ↔ All P (imported_funcs (j ∷ is)))
func_first P i (items.Func ty) is = (λ h. All-cons P ty (imported_funcs is) h.0 h.1, λ h. (All-head P ty (imported_funcs is) h, All-tail P ty (imported_funcs is) h))
func_first P i item is = (λ h. h.1, λ h. (tt, h))

pub each_func : (P : ℕ → Type 0) (is : List Import) → All (λ (i : Import). IfFunc i.item P) is ↔ All P (imported_funcs is)
each_func P = each_by P (λ i. IfFunc i.item P) imported_funcs (All-nil P) (λ i is. func_first P i i.item is)

table_first : (P : Range → Type 0) (i : Import) (item : Item) (is : List Import) → (let j = record i { item = item } in (IfTable item P × All P (imported_tables is)) ↔ All P (imported_tables (j ∷ is)))
table_first P i (items.Table r) is = (λ h. All-cons P r (imported_tables is) h.0 h.1, λ h. (All-head P r (imported_tables is) h, All-tail P r (imported_tables is) h))
table_first P i item is = (λ h. h.1, λ h. (tt, h))

pub each_table : (P : Range → Type 0) (is : List Import) → All (λ (i : Import). IfTable i.item P) is ↔ All P (imported_tables is)
each_table P = each_by P (λ i. IfTable i.item P) imported_tables (All-nil P) (λ i is. table_first P i i.item is)

memory_first : (P : Range → Type 0) (i : Import) (item : Item) (is : List Import) → (let j = record i { item = item } in (IfMemory item P × All P (imported_memories is)) ↔ All P (imported_memories (j ∷ is)))
memory_first P i (items.Memory r) is = (λ h. All-cons P r (imported_memories is) h.0 h.1, λ h. (All-head P r (imported_memories is) h, All-tail P r (imported_memories is) h))
memory_first P i item is = (λ h. h.1, λ h. (tt, h))

pub each_memory : (P : Range → Type 0) (is : List Import) → All (λ (i : Import). IfMemory i.item P) is ↔ All P (imported_memories is)
each_memory P = each_by P (λ i. IfMemory i.item P) imported_memories (All-nil P) (λ i is. memory_first P i i.item is)

-- what holds of all of two lists together holds of each
split_all : {X : Type 0} (P : X → Type 0) (xs ys : List X) → All P (xs ++ ys) → All P xs × All P ys
split_all P [] ys h = (All-nil P, h)
split_all P (x ∷ xs) ys h =
    let rest = split_all P xs ys (All-tail P x (xs ++ ys) h) in
    (All-cons P x xs (All-head P x (xs ++ ys) h) rest.0, rest.1)

-- of the imported entries and of the others
pub both_all : {X : Type 0} (P : X → Type 0) (xs ys : List X) → (All P xs × All P ys) ↔ All P (xs ++ ys)
both_all P xs ys = (λ h. All-append P xs ys h.0 h.1, split_all P xs ys)

-- two tests of the imports and of what the module defines, the second tried where the first passes
pub record TestsBoth (first second whole : Type 0) : Type 0 where
  pub passes : (a b : Bool) → a ≡ true → (IsTrue a ↔ first) → (IsTrue b ↔ second) → IsTrue b ↔ whole
  pub fails : (a : Bool) → a ≡ false → (IsTrue a ↔ first) → IsTrue a ↔ whole

tests_both : (first second whole : Type 0) → (first × second) ↔ whole → TestsBoth first second whole
tests_both first second whole joined = record {
  passes = λ a b e p q. (λ t. joined.0 (p.0 e, q.0 t), λ w. q.1 (joined.1 w).1);
  fails = λ a e p. (λ t. absurd (cc), λ w. p.1 (joined.1 w).0);
}

joined : {X : Type 0} (P : X → Type 0) (If : Type 0) (xs ys : List X) → If ↔ All P xs → (If × All P ys) ↔ All P (xs ++ ys)
joined P If xs ys each = let both = both_all P xs ys in (λ h. both.0 (each.0 h.0, h.1), λ h. (each.1 (both.1 h).0, (both.1 h).1))

pub tables_tests : (P : Range → Type 0) (m : Module) → TestsBoth (All (λ (i : Import). IfTable i.item P) m.imports) (All P m.tables) (All P (tables_of m))
tables_tests P m = tests_both (All (λ (i : Import). IfTable i.item P) m.imports) (All P m.tables) (All P (tables_of m)) (joined P _ (imported_tables m.imports) m.tables (each_table P m.imports))

pub memories_tests : (P : Range → Type 0) (m : Module) → TestsBoth (All (λ (i : Import). IfMemory i.item P) m.imports) (All P m.memories) (All P (memories_of m))
memories_tests P m = tests_both (All (λ (i : Import). IfMemory i.item P) m.imports) (All P m.memories) (All P (memories_of m)) (joined P _ (imported_memories m.imports) m.memories (each_memory P m.imports))
