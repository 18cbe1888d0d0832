-- A body and the types of its module have no more bytes than a file.
use Rattle.std.proofs.Common.{◌≡◌, ℕ, zero, suc, ◌+◌, ◌≤◌, List, [], ◌∷◌, length, Some, refl, ap, subst, slice_get, length-append, arith}
use Rattle.std.specs.List.{AllByRecursion}
use Rattle.wasm_sem.specs.Types.{ValType, FuncType, Body, Module}
use Rattle.module_ast.specs.Binary.{val_type_bytes, vec_bytes, items_bytes, func_type_bytes, sized_bytes, body_bytes, module_bytes}
use Rattle.module_ast.specs.Places.{func_type_or}
use Rattle.module_ast.specs.Validation.{IsWhole, longest_file}
use Rattle.module_ast.proofs.Indexed.{in_at, all_in}
use Rattle.module_ast.proofs.Sizes.{item_counts, section_counts, sized_counts, bodies_count}
use Rattle.leb_binary.specs.Shortest.{unsigned_bytes}
use Rattle.hook_mono.specs.Needed.{Site, import_count, site_of, sites_from, sites}
use Rattle.wasm_sem.proofs.Straight.{none_some, some_is}
use Rattle.rewrite.specs.Sizes.{IsNarrow}
use Rattle.rewrite.proofs.Elements.{all_types}

-- a type has a byte for each parameter and result
values_count : (ts : List ValType) → length (items_bytes val_type_bytes ts) ≡ length ts
values_count [] = refl
values_count (t ∷ ts) = ap suc (values_count ts)

type_counts : (t : FuncType) → length t.params + length t.results ≤ length (func_type_bytes t)
type_counts t =
    omega (
      arith,
      length-append (vec_bytes val_type_bytes t.params) (vec_bytes val_type_bytes t.results),
      length-append (unsigned_bytes (length t.params)) (items_bytes val_type_bytes t.params),
      length-append (unsigned_bytes (length t.results)) (items_bytes val_type_bytes t.results),
      values_count t.params,
      values_count t.results,
    )

-- the types of a module have no more bytes than it
types_count : (m : Module) → length (items_bytes func_type_bytes m.types) ≤ length (module_bytes m)
types_count m = let section = section_counts 1 func_type_bytes m.types in grind (arith, length-append)

-- so no type has more parameters and results, and no function more results
few_types : (m : Module) → IsWhole m → AllByRecursion (λ (t : FuncType). length t.params + length t.results ≤ longest_file) m.types
few_types m whole =
    all_in (λ (t : FuncType). length t.params + length t.results ≤ longest_file) m.types
    (λ t h. omega (arith, type_counts t, item_counts func_type_bytes m.types t h, types_count m, whole.size))

few_results : (m : Module) (ty : ℕ) → IsWhole m → length (func_type_or (slice_get m.types ty)).results ≤ longest_file
few_results m ty whole =
    omega (arith, all_types (λ (t : FuncType). length t.params + length t.results ≤ longest_file) m.types ty (omega arith) (few_types m whole))

-- the site of a function is that of its body
record Origin (m : Module) (bs : List Body) (k : ℕ) (s : Site) : Type 0 where
  func : ℕ
  ty : ℕ
  body : Body
  is : site_of m func ty body ≡ s
  there : slice_get bs k ≡ Some body

origin : (m : Module) (f : ℕ) (tys : List ℕ) (bs : List Body) (k : ℕ) (s : Site) → slice_get (sites_from m f tys bs) k ≡ Some s → Origin m bs k s
origin m f [] bs k s e = absurd (none_some e)
origin m f (ty ∷ tys) [] k s e = absurd (none_some e)
origin m f (ty ∷ tys) (b ∷ bs) zero s e = record { func = f; ty = ty; body = b; is = some_is e; there = refl }
origin m f (ty ∷ tys) (b ∷ bs) (suc k) s e =
    let o = origin m (f + 1) tys bs k s e in record { func = o.func; ty = o.ty; body = o.body; is = o.is; there = o.there }

module _ (m : Module) (whole : IsWhole m) (d : ℕ) (s : Site) (e : slice_get (sites m) d ≡ Some s) where
  from : Origin m m.bodies d s
  from = origin m (import_count m) m.funcs m.bodies d s e

  pub site_narrow : IsNarrow longest_file s.context
  site_narrow =
      subst (λ (s : Site). IsNarrow longest_file s.context) from.is (record { types = few_types m whole; results = few_results m from.ty whole })

  pub site_bytes : length (body_bytes s.body) ≤ longest_file
  site_bytes =
      subst (λ (s : Site). length (body_bytes s.body) ≤ longest_file) from.is
      (omega (arith, item_counts (λ b. sized_bytes (body_bytes b)) m.bodies from.body (in_at m.bodies d from.body from.there), sized_counts (body_bytes from.body), bodies_count m, whole.size))
