-- The bytes of a file are of one kind alone.
use Rattle.std.proofs.Common.{◌≡◌, ℕ, inl, inr, List, [], ◌∷◌, sym, subst, arith, true, false}
use Rattle.wasm_sem.specs.Types.{Module, Limits}
use Rattle.module_ast.specs.Binary.{IsFault, Gram, tree_of, section_floats, bound_of, limited_counts, AreWithin, IsFirstAbove}
use Rattle.module_ast.proofs.ModuleTrees.{modules_unique, modules_plain}
use Rattle.code_decode.proofs.Modules.{trees_one, faults_have_no_tree}
use Rattle.module_ast.specs.Validation.{IsValid, IsFirstBroken, IsFirstInvalid, ValidityRule}
use Rattle.app_load.specs.Files.{IsFit, IsNoModule, IsUnfit, IsInvalid}

-- bytes with a fault are no module
pub fault_no_module : (bytes : List ℕ) (section : ℕ) → IsFault bytes section → IsNoModule bytes
fault_no_module bytes section f m is = faults_have_no_tree bytes section m f is

-- bytes are one module of the program
pub one_module : (bytes : List ℕ) (a b : Module) → Gram bytes a → Gram bytes b → a ≡ b
one_module bytes a b g h = modules_unique a b (trees_one bytes (tree_of a) (tree_of b) g h)

-- numbers that are all within a bound have none above it
none_above : (bound : ℕ) (numbers : List ℕ) (value : ℕ) → AreWithin bound numbers → IsFirstAbove bound numbers value → ⊥
none_above bound [] value w f = f
none_above bound (n ∷ ns) value w (inl a) = omega (arith, a.0, w.0)
none_above bound (n ∷ ns) value w (inr a) = none_above bound ns value w.1 a.1

-- bytes of a module within the limits are fit
pub fit_not_unfit : (limits : Limits) (bytes : List ℕ) (m : Module) → IsFit limits bytes m → IsUnfit limits bytes → ⊥
fit_not_unfit limits bytes m fit (inl (section, (t, kind, is, first, e))) =
    let same : t ≡ tree_of m = trees_one bytes t (tree_of m) is fit.spelled in
    let plain : section_floats t kind ≡ false = subst (λ x. section_floats x kind ≡ false) (sym same) (modules_plain m kind) in
    let some : section_floats t kind ≡ true = first.0 in
    cc
fit_not_unfit limits bytes m fit (inr (which, value, (o, is, first))) =
    let same : o ≡ m = one_module bytes o m is fit.spelled in
    none_above (bound_of limits which) (limited_counts m which) value (fit.within which)
    (subst (λ x. IsFirstAbove (bound_of limits which) (limited_counts x which) value) same first.0)

-- an unfit module is a module
pub unfit_not_malformed : (limits : Limits) (bytes : List ℕ) → IsUnfit limits bytes → IsNoModule bytes → ⊥
unfit_not_malformed limits bytes (inl (section, (m, kind, is, first, e))) none = none m is
unfit_not_malformed limits bytes (inr (which, value, (m, is, first))) none = none (tree_of m) is

-- so is one that is fit
pub fit_not_malformed : (limits : Limits) (bytes : List ℕ) (m : Module) → IsFit limits bytes m → IsNoModule bytes → ⊥
fit_not_malformed limits bytes m fit none = none (tree_of m) fit.spelled

-- a valid module is not invalid
pub valid_not_invalid : (limits : Limits) (bytes : List ℕ) (m : Module) → IsFit limits bytes m → IsValid m → IsInvalid limits bytes → ⊥
valid_not_invalid limits bytes m fit valid (o, other, wrong) =
    wrong (subst IsValid (one_module bytes m o fit.spelled other.spelled) valid)

-- a broken rule, or an invalid body, makes a module invalid
pub broken_invalid : (m : Module) (rule : ValidityRule) → IsFirstBroken m rule → IsValid m → ⊥
broken_invalid m rule broken valid = broken.0 (valid.rules rule)

pub body_invalid : (m : Module) (func : ℕ) → IsFirstInvalid m func → IsValid m → ⊥
body_invalid m func first valid = first.4 (valid.bodies first.0)
