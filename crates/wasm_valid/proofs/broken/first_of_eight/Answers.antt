use Rattle.std.proofs.Common.{List, [], ◌∷◌, Bool, refl}
use Rattle.wasm_valid.proofs.Firsts.{AreTests, eight, first_found, keeps_none}
use Rattle.wasm_valid.proofs.broken.first_of_eight.Goals as goal

pub returns : goal.returns
returns c =
    let m = c.args.m.now in
    let kept : List Bool = c.keeps_import_types.result ∷ c.keeps_function_types.result ∷ c.keeps_one_table.result ∷ c.keeps_one_memory.result ∷ c.keeps_table_limits.result ∷ c.keeps_memory_pages.result ∷ c.keeps_memory_limits.result ∷ c.keeps_init_constant.result ∷ [] in
    let tests : AreTests m 2 kept eight = (refl, c.keeps_import_types.ensures, (refl, c.keeps_function_types.ensures, (refl, c.keeps_one_table.ensures, (refl, c.keeps_one_memory.ensures, (refl, c.keeps_table_limits.ensures, (refl, c.keeps_memory_pages.ensures, (refl, c.keeps_memory_limits.ensures, (refl, c.keeps_init_constant.ensures, tt)))))))) in
    rw c.first_not_kept.ensures (first_found m 2 kept eight tests (keeps_none m))
