-- What is encoded is decoded again.
use Rattle.std.proofs.Common.{◌≡◌, ℕ, List, [], ◌∷◌, inl, inr, true, false, sym, subst, ◌∙◌, arith}
use Rattle.module_ast.specs.declared.module.Module.{Module}
use Rattle.module_ast.specs.declared.module.Limits.{Limits}
use Rattle.module_ast.specs.declared.module.Which.{Which}
use Rattle.module_ast.specs.Binary.{module_bytes, without_customs, tree_of, section_floats, bound_of, limited_counts, AreWithin, IsWithin, IsFirstAbove, Gram, FileFloats, FileExceeds, Fits}
use Rattle.module_ast.proofs.WrittenModules.{module_spelled}
use Rattle.module_ast.proofs.ModuleTrees.{modules_unique, modules_plain}
use Rattle.code_decode.proofs.Modules.{trees_one, faults_have_no_tree}
use Rattle.wasm_decode.specs.Laws.{EncodedIsDecoded}

-- numbers within a bound have none above it
none_above : (bound : ℕ) (ns : List ℕ) (value : ℕ) → AreWithin bound ns → IsFirstAbove bound ns value → ⊥
none_above bound [] value w h = h
none_above bound (n ∷ ns) value w (inl h) = omega (arith, h.0, w.0)
none_above bound (n ∷ ns) value w (inr h) = none_above bound ns value w.1 h.1

module _ (m : Module) (fits : Fits m) where
  -- the canonical bytes are this module alone
  decoded_one : (decoded : Module) → Gram (module_bytes m) decoded → decoded ≡ without_customs m
  decoded_one decoded h =
      modules_unique decoded (without_customs m) (trees_one (module_bytes m) (tree_of decoded) (tree_of (without_customs m)) h (module_spelled m fits))

  never_floats : (section : ℕ) → FileFloats (module_bytes m) section → ⊥
  never_floats section h =
      let same : h.0 ≡ tree_of (without_customs m) = trees_one (module_bytes m) h.0 (tree_of (without_customs m)) h.2 (module_spelled m fits) in
      let plain : section_floats (tree_of (without_customs m)) h.1 ≡ false = modules_plain (without_customs m) h.1 in
      let floats : section_floats (tree_of (without_customs m)) h.1 ≡ true = subst (λ g. section_floats g h.1 ≡ true) same h.3.0 in
      let both : true ≡ false = sym floats ∙ plain in
      cc

  never_exceeds : (limits : Limits) (which : Which) (value : ℕ) → IsWithin limits (without_customs m) → FileExceeds limits (module_bytes m) which value → ⊥
  never_exceeds limits which value w h =
      let same : h.0 ≡ without_customs m = decoded_one h.0 h.1 in
      none_above (bound_of limits which) (limited_counts (without_customs m) which) value (w which)
      (subst (λ d. IsFirstAbove (bound_of limits which) (limited_counts d which) value) same h.2.0)

pub decoded_again : EncodedIsDecoded
decoded_again m fits = record {
  answer = decoded_one m fits;
  not_malformed = λ section h. faults_have_no_tree (module_bytes m) section (tree_of (without_customs m)) h (module_spelled m fits);
  not_floating = never_floats m fits;
  not_exceeding = never_exceeds m fits;
}
