-- Locals of a function before they are set.
use Rattle.std.proofs.Common.{◌≡◌, ℕ, zero, suc, ◌+◌, ◌-◌, ◌<◌, List, ◌∷◌, ◌++◌, false, length, take, drop, replicate, get_or, refl, sym, ap, ◌∙◌, arith}
use Rattle.std.proofs.lemmas.Simd.{map-map}
use Rattle.std.proofs.lemmas.List.{map-append, take_all, drop_more}
use Rattle.wasm_sem.specs.Types.{ValType, Value, Group}
use Rattle.module_ast.specs.Validation.{declared_locals}
use Rattle.wasm_sem.specs.Execution.{zero_of, Callee, host, hook, own}
use Rattle.shadow_replay.specs.declared.marked.Marked.{Marked}
use Rattle.shadow_replay.specs.Shadow.{prepared_locals}
use Rattle.shadow_replay.specs.Tainted.{local_marks}
use Rattle.shadow_replay.specs.Stacked.{values_in, marks_in}
use Rattle.shadow_replay.specs.Resolved.{zero_locals, begun_with}

abbrev zero_local : ValType → Marked
zero_local t = record { value = zero_of t; mark = false }

zeros-replicate : (n : ℕ) (t : ValType) → zero_locals (replicate n t) ≡ replicate n (zero_local t)
zeros-replicate zero t = refl
zeros-replicate (suc n) t = ap (λ vs. zero_local t ∷ vs) (zeros-replicate n t)

-- more of one type
pub zeros_more : (old new : List Marked) (grown len count : ℕ) (ty : ValType) (v : Value) → new ≡ take grown old ++ replicate (grown - len) (record { value = v; mark = false }) → grown ≡ len + count → len ≡ length old → v ≡ zero_of ty
    → new ≡ old ++ zero_locals (replicate count ty)
zeros_more old new grown len count ty v h g l e =
    let left : grown - len ≡ count = omega (arith, g) in
    let local : Value → Marked = λ v. record { value = v; mark = false } in
    h ∙ ap (λ xs. xs ++ replicate (grown - len) (local v)) (take_all grown old (omega (arith, g, l)))
    ∙ ap (λ n. old ++ replicate n (local v)) left ∙ ap (λ v. old ++ replicate count (local v)) e ∙ ap (λ vs. old ++ vs) (sym (zeros-replicate count ty))

-- of a group, and of those behind it
pub zeros_group : (gs : List Group) (i : ℕ) (d : Group) → i < length gs
    → zero_locals (declared_locals (drop i gs)) ≡ zero_locals (replicate (get_or gs i d).count (get_or gs i d).ty) ++ zero_locals (declared_locals (drop (i + 1) gs))
zeros_group gs i d h =
    let g = get_or gs i d in ap (λ gs. zero_locals (declared_locals gs)) (drop_more gs i d h) ∙ map-append zero_local (replicate g.count g.ty) (declared_locals (drop (i + 1) gs))

-- what is kept is what the definitions say
pub begun_values : (c : Callee) (ms : List Marked) → values_in (begun_with c ms) ≡ prepared_locals c (values_in ms)
begun_values (own ty locals code) ms = map-append (λ (m : Marked). m.value) ms (zero_locals locals) ∙ ap (λ vs. values_in ms ++ vs) (map-map (λ (m : Marked). m.value) zero_local locals)
begun_values (host ty) ms = refl
begun_values (hook ty) ms = refl

pub begun_marks : (c : Callee) (ms : List Marked) → marks_in (begun_with c ms) ≡ local_marks c (marks_in ms)
begun_marks (own ty locals code) ms = map-append (λ (m : Marked). m.mark) ms (zero_locals locals) ∙ ap (λ ks. marks_in ms ++ ks) (map-map (λ (m : Marked). m.mark) zero_local locals)
begun_marks (host ty) ms = refl
begun_marks (hook ty) ms = refl
