-- The names of a module, its functions and their locals: those of functions that there are, those in an output, and
-- those of one function.
use Rattle.std.specs.Prelude.{ℕ, List, [], map, filter, filter_map, find, Option, None, option_map, unwrap_or, nat_lt, ◌==◌}
use Rattle.leb_binary.specs.Texts.{Text}
use Rattle.index_remap.specs.declared.Remap.{Remap}
use Rattle.index_remap.specs.Remap.{map_index, unmap_index}
use Rattle.name_map.specs.declared.Named.{Named}
use Rattle.name_map.specs.declared.Locals.{Locals}
use Rattle.name_map.specs.declared.Names.{Names}

abbrev pub no_names : Names
no_names = record { «module» = None; functions = []; locals = [] }

-- the names of the functions of a module that has `functions` of them
abbrev pub known_names : (functions : ℕ) → Names → Names
known_names functions names = record {
  «module» = names.module;
  functions = filter (λ n. nat_lt n.index functions) names.functions;
  locals = filter (λ l. nat_lt l.func functions) names.locals;
}

-- ---- in an output

abbrev pub map_named : Remap → Named → Named
map_named remap n = record n { index = map_index remap n.index }

abbrev pub map_locals : Remap → Locals → Locals
map_locals remap l = record l { func = map_index remap l.func }

abbrev pub map_names : Remap → Names → Names
map_names remap names = record {
  «module» = names.module;
  functions = map (map_named remap) names.functions;
  locals = map (map_locals remap) names.locals;
}

-- back from an output; a hook has no name
abbrev pub unmap_named : Remap → Named → Option Named
unmap_named remap n = option_map (λ i. record n { index = i }) (unmap_index remap n.index)

abbrev pub unmap_locals : Remap → Locals → Option Locals
unmap_locals remap l = option_map (λ i. record l { func = i }) (unmap_index remap l.func)

abbrev pub unmap_names : Remap → Names → Names
unmap_names remap names = record {
  «module» = names.module;
  functions = filter_map (unmap_named remap) names.functions;
  locals = filter_map (unmap_locals remap) names.locals;
}

-- ---- of one function

-- the name of an index
abbrev pub name_at : (index : ℕ) → List Named → Option Text
name_at i ns = option_map (λ n. n.name) (find (λ n. n.index == i) ns)

-- the names of a function's locals
abbrev pub locals_at : (func : ℕ) → List Locals → List Named
locals_at f ls = unwrap_or (option_map (λ l. l.names) (find (λ l. l.func == f) ls)) []
