-- Limits, of a module and of what was kept of it.
use Rattle.std.proofs.Common.{◌≡◌, ℕ, ◌<◌, List, [], ◌∷◌, refl, sym, ap, ◌∙◌, subst, arith}
use Rattle.std.specs.Prelude.{map, Some, None, nat_lt}
use Rattle.module_ast.specs.declared.module.Module.{Module}
use Rattle.module_ast.specs.declared.module.Body.{Body}
use Rattle.module_ast.specs.declared.module.GlobalDef.{GlobalDef}
use Rattle.module_ast.specs.declared.module.Element.{Element}
use Rattle.module_ast.specs.declared.module.Segment.{Segment}
use Rattle.module_ast.specs.declared.module.Limits.{Limits}
use Rattle.module_ast.specs.declared.module.Which.{Which}
use Rattle.module_ast.specs.declared.module.Which.TheVariants.{Functions, Types, Parameters, Locals, Nesting}
use Rattle.module_ast.specs.Binary.{locals_of, limited_counts, bound_of, order_of, AreWithin, IsFirstAbove, IsFirstExceeded, IsWithin}
use Rattle.wasm_decode.specs.Forms.{draft_items, first_above}
use Rattle.wasm_decode.specs.Kinds.{global_form, element_form, segment_form, body_form}
use Rattle.wasm_decode.specs.Settled.{without_deep, or_else}
use Rattle.wasm_decode.proofs.Settling.{first_four, none_parts, none_within, some_above, drafted_none, body_groups}

locals_same : (bound : ℕ) (ys : List Body) → map (λ (b : Body). locals_of b.groups) (map (draft_items body_form bound) ys) ≡ map (λ (b : Body). locals_of b.groups) ys
locals_same bound [] = refl
locals_same bound (y ∷ ys) =
    ap (λ n. locals_of n ∷ map (λ (b : Body). locals_of b.groups) (map (draft_items body_form bound) ys)) (body_groups (nat_lt bound (body_form.nests y)) y)
    ∙ ap (λ l. locals_of y.groups ∷ l) (locals_same bound ys)

-- the first four quantities do not depend on code
pub counts_same : (bound : ℕ) (m : Module) (w : Which) → order_of w < 4 → limited_counts (without_deep bound m) w ≡ limited_counts m w
counts_same bound m Locals l = locals_same bound m.bodies
counts_same bound m Nesting l = absurd (omega arith)
counts_same bound m w l = refl

pub within_same : (limits : Limits) (bound : ℕ) (m : Module) → ((w : Which) → order_of w < 4 → AreWithin (bound_of limits w) (limited_counts (without_deep bound m) w)) → (w : Which) → order_of w < 4 → AreWithin (bound_of limits w) (limited_counts m w)
within_same limits bound m h w l = subst (AreWithin (bound_of limits w)) (counts_same bound m w l) (h w l)

pub exceeded_same : (limits : Limits) (bound : ℕ) (m : Module) (w : Which) (v : ℕ) → order_of w < 4 → IsFirstExceeded limits (without_deep bound m) w v → IsFirstExceeded limits m w v
exceeded_same limits bound m w v l h =
    (subst (λ ns. IsFirstAbove (bound_of limits w) ns v) (counts_same bound m w l) h.0, λ e k. subst (AreWithin (bound_of limits e)) (counts_same bound m e (omega arith)) (h.1 e k))

pub nesting_exceeded : (limits : Limits) (m : Module) (v : ℕ) → ((w : Which) → order_of w < 4 → AreWithin (bound_of limits w) (limited_counts m w)) → Some v ≡ first_above limits.nesting (limited_counts m Nesting) → IsFirstExceeded limits m Nesting v
nesting_exceeded limits m v h e = (some_above limits.nesting (limited_counts m Nesting) v (sym e), h)

abbrev with_code : Module → List GlobalDef → List Element → List Body → List Segment → Module
with_code m gs es bs ss = record m { globals = gs; elements = es; bodies = bs; segments = ss }

-- where nothing is too deep, all was kept
pub nothing_deep : (bound : ℕ) (m : Module) → None ≡ first_above bound (limited_counts m Nesting) → without_deep bound m ≡ m
nothing_deep bound m e =
    let a = map global_form.nests m.globals in
    let b = map element_form.nests m.elements in
    let c = map body_form.nests m.bodies in
    let d = map segment_form.nests m.segments in
    let p = none_parts (first_above bound a) (or_else (first_above bound b) (or_else (first_above bound c) (first_above bound d))) (first_four bound a b c d ∙ sym e) in
    let q = none_parts (first_above bound b) (or_else (first_above bound c) (first_above bound d)) p.1 in
    let r = none_parts (first_above bound c) (first_above bound d) q.1 in
    ap (λ v. with_code m v (map (draft_items element_form bound) m.elements) (map (draft_items body_form bound) m.bodies) (map (draft_items segment_form bound) m.segments)) (drafted_none global_form bound m.globals p.0)
    ∙ ap (λ v. with_code m m.globals v (map (draft_items body_form bound) m.bodies) (map (draft_items segment_form bound) m.segments)) (drafted_none element_form bound m.elements q.0)
    ∙ ap (λ v. with_code m m.globals m.elements v (map (draft_items segment_form bound) m.segments)) (drafted_none body_form bound m.bodies r.0)
    ∙ ap (λ v. with_code m m.globals m.elements m.bodies v) (drafted_none segment_form bound m.segments r.1)

pub all_within : (limits : Limits) (m : Module) → ((w : Which) → order_of w < 4 → AreWithin (bound_of limits w) (limited_counts m w)) → None ≡ first_above limits.nesting (limited_counts m Nesting) → IsWithin limits m
all_within limits m h e Functions = h Functions (omega arith)
all_within limits m h e Types = h Types (omega arith)
all_within limits m h e Parameters = h Parameters (omega arith)
all_within limits m h e Locals = h Locals (omega arith)
all_within limits m h e Nesting = none_within limits.nesting (limited_counts m Nesting) (sym e)
