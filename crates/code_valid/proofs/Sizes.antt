-- What is known of each body of a whole module.
--     few_positions      it has at most 2 ^ 28 positions, as each opcode is a byte at least
--     few_locals, flat      its groups declare fewer than 2 ^ 32 locals;  its blocks are nested at most 1,002 deep
use Rattle.std.proofs.Common.{◌≡◌, ℕ, ◌+◌, ◌<◌, ◌≤◌, ◌^◌, ◌++◌, slice_get, Some, map, append_assoc, arith}
use Rattle.std.proofs.lemmas.Option.{slice_get_within, get_or_from_slice_get}
use Rattle.module_ast.specs.declared.module.GlobalDef.{GlobalDef}
use Rattle.module_ast.specs.declared.module.Element.{Element}
use Rattle.module_ast.specs.declared.module.Segment.{Segment}
use Rattle.module_ast.specs.declared.module.Body.{Body}
use Rattle.module_ast.specs.declared.module.Module.{Module}
use Rattle.module_ast.specs.Places.{code_size, code_nesting}
use Rattle.module_ast.specs.Binary.{locals_of}
use Rattle.module_ast.specs.Validation.{IsWhole, deepest, longest_file}
use Rattle.module_ast.proofs.Indexed.{in_at, each_in}
use Rattle.module_ast.proofs.Sizes.{body_within, within_front, within_back, within_all}

pub few_positions : (m : Module) (i : ℕ) (b : Body) → IsWhole m → slice_get m.bodies i ≡ Some b → code_size b.code + 1 ≤ longest_file
few_positions m i b whole is = omega (arith, body_within m b (in_at m.bodies i b is), whole.size)

pub few_locals : (m : Module) (i : ℕ) (b : Body) → IsWhole m → slice_get m.bodies i ≡ Some b → locals_of b.groups < 2 ^ 32
few_locals m i b whole is =
    let bounded = whole.locals i b (slice_get_within m.bodies i b is) in
    rw (get_or_from_slice_get m.bodies i b b is) at bounded

pub flat : (m : Module) (i : ℕ) (b : Body) → IsWhole m → slice_get m.bodies i ≡ Some b → code_nesting b.code ≤ deepest
flat m i b whole is =
    let inits = map (λ (g : GlobalDef). code_nesting g.init) m.globals in
    let offsets = map (λ (e : Element). code_nesting e.offset) m.elements in
    let bodies = map (λ (b : Body). code_nesting b.code) m.bodies in
    let segments = map (λ (d : Segment). code_nesting d.offset) m.segments in
    let behind = within_back deepest (inits ++ offsets) (bodies ++ segments) (rw (append_assoc (inits ++ offsets) bodies segments) at whole.nesting) in
    each_in (λ (b : Body). code_nesting b.code ≤ deepest) m.bodies b (in_at m.bodies i b is) (within_all (λ (b : Body). code_nesting b.code) deepest m.bodies (within_front deepest bodies segments behind))
