-- The bytes of a module with hooks, part by part.
use Rattle.std.proofs.Common.{◌≡◌, ℕ, zero, suc, ◌+◌, ◌^◌, ◌<◌, ◌≤◌, List, [], ◌++◌, length, map, sym, ap, ◌∙◌, arith, length-append, append_assoc}
use Rattle.std.proofs.lemmas.List.{length-map}
use Rattle.leb_binary.specs.Shortest.{unsigned_bytes}
use Rattle.wasm_sem.specs.Types.{Module, HookKey}
use Rattle.module_ast.specs.Binary.{module_bytes}
use Rattle.module_ast.specs.declared.module.Which.TheVariants.{Types}
use Rattle.index_remap.specs.declared.Remap.{Remap}
use Rattle.wasm_encode.specs.Outline.{front_bytes, back_bytes, entries_bytes, code_head}
use Rattle.wasm_encode.proofs.Outlines.{in_three}
use Rattle.leb_binary.proofs.Lengths.{unsigned_ten}
use Rattle.instrument.specs.Output.{output, output_bytes}
use Rattle.instrument.specs.Plan.{HookPlan, IsPlanned, new_bodies, new_outline, body_length}
use Rattle.instrument.proofs.OutputWithin.{output_is_within}

-- what stands behind the code is no more than its module
pub back_within : (m : Module) → length (back_bytes m) ≤ length (module_bytes m)
back_within m =
    let head = code_head (length m.bodies) (length (entries_bytes m.bodies)) in
    let code = head ++ entries_bytes m.bodies in
    omega (arith, ap length (in_three m), length-append (front_bytes m ++ code) (back_bytes m))

module _ (p : HookPlan) (o : Module) (each : List ℕ) (together : ℕ) (is : o ≡ new_outline p) (sizes : each ≡ map body_length (new_bodies p)) (sum : together ≡ length (entries_bytes (new_bodies p))) where
  -- the parts, one after another
  head_is : code_head (length each) together ≡ code_head (length (new_bodies p)) (length (entries_bytes (new_bodies p)))
  head_is = ap (λ n. code_head n together) (ap length sizes ∙ length-map (new_bodies p) body_length) ∙ ap (code_head (length (new_bodies p))) sum

  -- they are the bytes
  pub planned_bytes : ((front_bytes o ++ code_head (length each) together) ++ entries_bytes (new_bodies p)) ++ back_bytes o ≡ output_bytes p.module p.hooks
  planned_bytes =
      let new = output p.module p.hooks in
      let entries = entries_bytes (new_bodies p) in
      let head = code_head (length (new_bodies p)) (length entries) in
      ap (λ (q : Module). ((front_bytes q ++ code_head (length each) together) ++ entries) ++ back_bytes q) is
      ∙ ap (λ h. ((front_bytes new ++ h) ++ entries) ++ back_bytes new) head_is
      ∙ ap (λ l. l ++ back_bytes new) (append_assoc (front_bytes new) head entries)
      ∙ sym (in_three new)

  -- and so many
  pub planned_length : length (front_bytes o) + (length (code_head (length each) together) + together + length (back_bytes o)) ≡ length (output_bytes p.module p.hooks)
  planned_length =
      let head = code_head (length each) together in
      let entries = entries_bytes (new_bodies p) in
      omega (
        arith,
        ap length planned_bytes,
        length-append ((front_bytes o ++ head) ++ entries) (back_bytes o),
        length-append (front_bytes o ++ head) entries,
        length-append (front_bytes o) head,
        sum,
      )

  pub planned_total : (count rest : ℕ) → count ≡ length (front_bytes o) → rest ≡ length (code_head (length each) together) + together + length (back_bytes o) → count + rest ≡ length (output_bytes p.module p.hooks)
  planned_total count rest c r =
      ap (λ n. n + rest) c ∙ ap (λ n. length (front_bytes o) + n) r ∙ planned_length

  -- what is written in turn
  pub planned_output : (count : ℕ) (start front room head entries out : List ℕ) → start ≡ [] → front ≡ start ++ front_bytes o → room ≡ front → count ≡ length each → head ≡ room ++ code_head count together
      → entries ≡ head ++ entries_bytes (new_bodies p) → out ≡ entries ++ back_bytes o → out ≡ output_bytes p.module p.hooks
  planned_output count start front room head entries out nothing first same counted second third last =
      let begun : room ≡ front_bytes o = same ∙ first ∙ ap (λ l. l ++ front_bytes o) nothing in
      let headed : head ≡ front_bytes o ++ code_head (length each) together = second ∙ ap (λ n. room ++ code_head n together) counted ∙ ap (λ l. l ++ code_head (length each) together) begun in
      last ∙ ap (λ l. l ++ back_bytes o) (third ∙ ap (λ l. l ++ entries_bytes (new_bodies p)) headed) ∙ planned_bytes

  -- what stands behind the code is as it was
  pub planned_back : length (back_bytes o) ≤ length (module_bytes p.module)
  planned_back =
      let same : back_bytes o ≡ back_bytes p.module = ap back_bytes is in
      omega (arith, ap length same, back_within p.module)

-- its types and imports are few
module _ (p : HookPlan) (keys : List HookKey) (remap : Remap) (planned : IsPlanned p keys remap) where
  pub planned_types : length (new_outline p).types ≤ 600000
  planned_types = (output_is_within p.module p.hooks planned.valid planned.limits Types).0

-- what stands before the entries is short
pub head_short : (count size : ℕ) → count < 2 ^ 64 → size < 2 ^ 63 → length (code_head count size) ≤ 21
head_short zero size c s = omega arith
head_short (suc n) size c s =
    let count = unsigned_bytes (suc n) in
    let few = unsigned_ten (suc n) c in
    omega (arith, few, unsigned_ten (length count + size) (omega (arith, few)), length-append (unsigned_bytes (length count + size)) count)

-- what follows the front is not much
pub rest_short : (m o : Module) (count together rest : ℕ) → count < 2 ^ 64 → together < 2 ^ 62 → length (back_bytes o) ≤ length (module_bytes m) → length (module_bytes m) ≤ 2 ^ 24
    → rest ≡ length (code_head count together) + together + length (back_bytes o) → rest < 2 ^ 63
rest_short m o count together rest c t back short e = omega (arith, head_short count together c (omega arith))
