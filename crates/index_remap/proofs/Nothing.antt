-- What is remapped where nothing is added stays as it is.
use Rattle.std.proofs.Common.{◌≡◌, ℕ, ◌+◌, ◌<◌, ◌^◌, Bool, true, false, cond, nat_lt, refl, ap, ap₂, ◌∙◌, arith}
use Rattle.module_ast.specs.Structure.{Tree, done, plain, block, loop, if_then, if_else, Plain, call}
use Rattle.index_remap.specs.declared.Remap.{Remap}
use Rattle.index_remap.specs.Remap.{map_plain, map_tree, MapsPlain, Maps}

abbrev pub nothing : Remap
nothing = record { imports = 0; added = 0 }

same_either_way : (b : Bool) (f : ℕ) → cond b f (f + 0) ≡ f
same_either_way true f = refl
same_either_way false f = omega arith

map_plain_nothing : (i : Plain) → map_plain nothing i ≡ i
map_plain_nothing (call f) = ap call (same_either_way (nat_lt f 0) f)
map_plain_nothing i = refl

pub map_tree_nothing : (t : Tree) → map_tree nothing t ≡ t
map_tree_nothing done = refl
map_tree_nothing (plain i k) = ap₂ plain (map_plain_nothing i) (map_tree_nothing k)
map_tree_nothing (block ty body k) = ap₂ (block ty) (map_tree_nothing body) (map_tree_nothing k)
map_tree_nothing (loop ty body k) = ap₂ (loop ty) (map_tree_nothing body) (map_tree_nothing k)
map_tree_nothing (if_then ty body k) = ap₂ (if_then ty) (map_tree_nothing body) (map_tree_nothing k)
map_tree_nothing (if_else ty body other k) =
    ap (λ a. if_else ty a (map_tree nothing other) (map_tree nothing k)) (map_tree_nothing body) ∙ ap₂ (if_else ty body) (map_tree_nothing other) (map_tree_nothing k)

maps_plain_nothing : (i : Plain) → MapsPlain nothing i
maps_plain_nothing (call f) = λ (h : f < 2 ^ 32). omega (arith, h)
maps_plain_nothing i = tt

pub maps_nothing : (t : Tree) → Maps nothing t
maps_nothing done = tt
maps_nothing (plain i k) = (maps_plain_nothing i, maps_nothing k)
maps_nothing (block ty body k) = (maps_nothing body, maps_nothing k)
maps_nothing (loop ty body k) = (maps_nothing body, maps_nothing k)
maps_nothing (if_then ty body k) = (maps_nothing body, maps_nothing k)
maps_nothing (if_else ty body other k) = (maps_nothing body, maps_nothing other, maps_nothing k)
