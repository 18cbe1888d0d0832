-- Items are read one after another.
use Rattle.std.proofs.Common.{◌≡◌, ℕ, List, [], ◌∷◌, ◌++◌, map, Option, refl, sym, ap, ◌∙◌, append_assoc}
use Rattle.wasm_sem.specs.Execution.{TraceItem, entry, host_call, event, hook_call}
use Rattle.static_info.specs.declared.Info.{Info}
use Rattle.static_info.specs.Items.{read_entry, read_call, read}

-- what two stretches read as stands one behind the other
pub read_append : (info : Info) (slots : List (Option ℕ)) (xs ys : List TraceItem) → read info slots (xs ++ ys) ≡ read info slots xs ++ read info slots ys
read_append info slots [] ys = refl
read_append info slots (event e ∷ is) ys = read_append info slots is ys
read_append info slots (entry c ∷ is) ys = ap (λ (t : List TraceItem). entry (read_entry info c) ∷ t) (read_append info slots is ys)
read_append info slots (host_call f vs rs ws ∷ is) ys = ap (λ (t : List TraceItem). host_call f vs rs ws ∷ t) (read_append info slots is ys)
read_append info slots (hook_call h ∷ is) ys =
    let told = map event (read_call info slots h) in
    ap (λ (t : List TraceItem). told ++ t) (read_append info slots is ys) ∙ sym (append_assoc told (read info slots is) (read info slots ys))
