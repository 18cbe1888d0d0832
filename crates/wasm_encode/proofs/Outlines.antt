-- The bytes of a module in three parts.
use Rattle.std.proofs.Common.{◌≡◌, ◌+◌, ◌≤◌, List, [], ◌∷◌, ◌++◌, length, refl, ap, sym, ◌∙◌, arith, append_assoc, length-append}
use Rattle.leb_binary.specs.Shortest.{unsigned_bytes}
use Rattle.module_ast.specs.declared.module.Body.{Body}
use Rattle.module_ast.specs.declared.module.Module.{Module}
use Rattle.module_ast.specs.Binary.{vec_section, module_bytes}
use Rattle.wasm_encode.specs.Outline.{front_bytes, back_bytes, entry_bytes, entries_bytes, code_head}

-- the section of code: what stands before its entries, and these
pub code_section_is : (bodies : List Body) → vec_section 10 entry_bytes bodies ≡ code_head (length bodies) (length (entries_bytes bodies)) ++ entries_bytes bodies
code_section_is [] = refl
code_section_is (b ∷ bs) =
    let count = unsigned_bytes (length (b ∷ bs)) in
    let rest = entries_bytes (b ∷ bs) in
    ap (λ n. 10 ∷ (unsigned_bytes n ++ (count ++ rest))) (length-append count rest)
    ∙ ap (λ l. 10 ∷ l) (sym (append_assoc (unsigned_bytes (length count + length rest)) count rest))

-- the entries are no more than the section
pub entries_within : (bodies : List Body) → length (entries_bytes bodies) ≤ length (vec_section 10 entry_bytes bodies)
entries_within bodies =
    let entries = entries_bytes bodies in
    let head = code_head (length bodies) (length entries) in
    omega (arith, ap length (code_section_is bodies), length-append head entries)

-- a module: what stands before its code, the section of code, and what stands behind it
pub in_three : (m : Module) → module_bytes m
    ≡ front_bytes m ++ (code_head (length m.bodies) (length (entries_bytes m.bodies)) ++ entries_bytes m.bodies) ++ back_bytes m
in_three m = ap (λ l. front_bytes m ++ l ++ back_bytes m) (code_section_is m.bodies)
