use Rattle.std.proofs.Common.{sym, ap, ◌∙◌}
use Rattle.wasm_valid.specs.Constants.{constant_of}
use Rattle.wasm_valid.proofs.Initial.{constant_of-many}
use Rattle.run_store.proofs.Alone.{no_offset}
use Rattle.run_store.proofs.opening.offset_of.Goals as goal

pub returns-in_default-2 : goal.returns-in_default-2
returns-in_default-2 c = sym (no_offset c.args.globals.now c.args.offset.now (ap constant_of (sym c.as_slice.ensures) ∙ constant_of-many c.as_slice.result.now c.in_default.len_at_least))
