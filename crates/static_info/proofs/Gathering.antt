-- What the places of a walk tell.
--     told_blocks, told_tables      a place tells the same as a value of the program
--     one_more      one place more
use Rattle.std.proofs.Common.{◌≡◌, ℤ, List, [], ◌∷◌, ◌++◌, flat_map, Some, sym, ap, ap₂, ◌∙◌, append_assoc}
use Rattle.module_ast.specs.Lists.{when}
use Rattle.module_ast.specs.Structure.{plain_of, Plain}
use Rattle.module_ast.specs.Places.Positions as positions
use Rattle.wasm_sem.specs.Types.{Instr}
use Rattle.module_ast.specs.declared.code.Instr.TheVariants as instrs
use Rattle.branch_resolve.specs.declared.Block.{Block}
use Rattle.branch_resolve.specs.declared.place.Place.{Place}
use Rattle.branch_resolve.specs.declared.place.Opcode.{Opcode}
use Rattle.branch_resolve.specs.declared.place.Opcode.TheVariants.{Enters, Acts, Opens, Alternates, Closes}
use Rattle.branch_resolve.specs.Walks.{IsOpcodeOf, IsPlaceOf}
use Rattle.static_info.specs.Info.{opened_by, place_blocks, table_of, table_by, place_tables}
use Rattle.static_info.specs.Gathered.{begun_blocks, instr_tables, opcode_tables}

opcode_blocks : (x : positions.Opcode) (y : Opcode) → IsOpcodeOf x y → opened_by x ≡ begun_blocks y
opcode_blocks x Enters e = ap opened_by e
opcode_blocks x (Acts i) (q, e, f) = ap opened_by f
opcode_blocks x (Opens b) (s, e, f) = ap opened_by f ∙ ap (λ (b : Block). b ∷ []) (sym e)
opcode_blocks x (Alternates a b live) (s, t, e, f, g) = ap opened_by g ∙ ap (λ (b : Block). b ∷ []) (sym f)
opcode_blocks x (Closes b) (s, e, f) = ap opened_by f

same_table : (p : ℤ) (c q : Plain) → Some c ≡ Some q → table_of p q ≡ table_of p c
same_table p c q e = let same : c ≡ q = cc in ap (table_of p) (sym same)

some_table : (p : ℤ) (i : Instr) (q : Plain) → plain_of i ≡ Some q → table_of p q ≡ instr_tables p i
some_table p (instrs.Block b a) q e = cc
some_table p (instrs.Loop b a) q e = cc
some_table p (instrs.If b a) q e = cc
some_table p (instrs.IfElse b a c) q e = cc
some_table p i q e = same_table p _ q e

tables_of_opcode : (p : ℤ) (x : positions.Opcode) (y : Opcode) → IsOpcodeOf x y → table_by p x ≡ opcode_tables p y
tables_of_opcode p x Enters e = ap (table_by p) e
tables_of_opcode p x (Acts i) (q, e, f) = ap (table_by p) f ∙ some_table p i.now q e
tables_of_opcode p x (Opens b) (s, e, f) = ap (table_by p) f
tables_of_opcode p x (Alternates a b live) (s, t, e, f, g) = ap (table_by p) g
tables_of_opcode p x (Closes b) (s, e, f) = ap (table_by p) f

pub told_blocks : (x : positions.Place) (y : Place) → IsPlaceOf x y → place_blocks x ≡ when y.live (begun_blocks y.opcode)
told_blocks x y is = ap₂ when is.1 (opcode_blocks x.opcode y.opcode is.2)

pub told_tables : (x : positions.Place) (y : Place) → IsPlaceOf x y → place_tables x ≡ when y.live (opcode_tables y.position y.opcode)
told_tables x y is = ap₂ when is.1 (ap (λ p. table_by p x.opcode) is.0 ∙ tables_of_opcode y.position x.opcode y.opcode is.2)

-- what a place tells is put behind what was told before
pub one_more : {A : Type 0} (told : positions.Place → List A) (x : positions.Place) (left : List positions.Place) (done more new all : List A)
    → done ++ flat_map told (x ∷ left) ≡ all → told x ≡ more → new ≡ done ++ more → new ++ flat_map told left ≡ all
one_more told x left done more new all before tells added =
    ap (λ l. l ++ flat_map told left) added
    ∙ append_assoc done more (flat_map told left)
    ∙ ap (λ l. done ++ (l ++ flat_map told left)) (sym tells)
    ∙ before
