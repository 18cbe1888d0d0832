-- The indices of functions in an output have 32 bits.
use Rattle.std.proofs.Common.{length, ap, arith}
use Rattle.module_ast.specs.Structure.{funcs_of}
use Rattle.index_remap.specs.declared.Remap.{Remap}
use Rattle.name_map.specs.declared.Locals.{Locals}
use Rattle.name_map.specs.declared.Named.{Named}
use Rattle.wasabi_app.proofs.KeptNames.{few_mapped, maps_below}
use Rattle.wasabi_app.proofs.making.put_names.Goals as goal

pub map_names-requires-clause-functions : goal.map_names-requires-clause-functions
map_names-requires-clause-functions c =
    let m = c.args.subject.now.module.now in
    maps_below (λ (n : Named). n.index) c.args.remap (length (funcs_of m)) c.args.subject.now.names.now.functions c.requires.proper.below
    (omega (arith, ap (λ (r : Remap). r.added) c.requires.remap, few_mapped m c.args.hooks.now c.requires.limits))

pub map_names-requires-clause-locals : goal.map_names-requires-clause-locals
map_names-requires-clause-locals c =
    let m = c.args.subject.now.module.now in
    maps_below (λ (l : Locals). l.func) c.args.remap (length (funcs_of m)) c.args.subject.now.names.now.locals c.requires.proper.owners_below
    (omega (arith, ap (λ (r : Remap). r.added) c.requires.remap, few_mapped m c.args.hooks.now c.requires.limits))
