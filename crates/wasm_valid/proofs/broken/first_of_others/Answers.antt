use Rattle.std.proofs.Common.{List, [], ◌∷◌, Bool, refl}
use Rattle.wasm_valid.proofs.Firsts.{AreTests, others, first_found, keeps_whole}
use Rattle.wasm_valid.proofs.broken.first_of_others.Goals as goal

pub returns : goal.returns
returns c =
    let m = c.args.m.now in
    let kept : List Bool = c.keeps_init_global.result ∷ c.keeps_init_type.result ∷ c.keeps_export_indices.result ∷ c.in_ok-keeps_export_names.field-0 ∷ c.keeps_start_index.result ∷ c.keeps_start_type.result ∷ c.keeps_element_tables.result ∷ c.keeps_element_offsets.result ∷ c.keeps_element_funcs.result ∷ c.keeps_segment_memories.result ∷ c.keeps_segment_offsets.result ∷ [] in
    let tests : AreTests m 10 kept others = (refl, c.keeps_init_global.ensures, (refl, c.keeps_init_type.ensures, (refl, c.keeps_export_indices.ensures, (refl, c.in_ok-keeps_export_names.ensures, (refl, c.keeps_start_index.ensures, (refl, c.keeps_start_type.ensures, (refl, c.keeps_element_tables.ensures, (refl, c.keeps_element_offsets.ensures, (refl, c.keeps_element_funcs.ensures, (refl, c.keeps_segment_memories.ensures, (refl, c.keeps_segment_offsets.ensures, tt))))))))))) in
    rw c.first_not_kept.ensures (keeps_whole m _ (first_found m 10 kept others tests c.requires.eight))
