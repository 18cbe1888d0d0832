-- The two modules, as their bytes are read, and the script.
use Rattle.std.proofs.Common.{◌≡◌, ℕ, ◌≤◌, ℤ, pos, List, [], All, length, refl, sym, subst, arith}
use Rattle.std.proofs.lemmas.List.Elements.{All-from_recursion}
use Rattle.leb_binary.specs.Leb.{IsInSize}
use Rattle.wasm_sem.specs.Types.{Module}
use Rattle.module_ast.specs.declared.module.Which.TheVariants.{Functions, Locals, Nesting, Parameters, Types}
use Rattle.module_ast.specs.Binary.{module_bytes, Fits, FitsBody, FitsElement, FitsExport, FitsGlobal, FitsImport, FitsIndex, FitsRange, FitsSegment, IsWithin}
use Rattle.module_ast.specs.Validation.{narrow, wide, IsValid, longest_narrow_file}
use Rattle.module_ast.proofs.WrittenModules.{module_spelled}
use Rattle.wasm_sem.specs.declared.HostAnswer.{HostAnswer}
use Rattle.wasm_sem.specs.Execution.{IsFree, IsScriptInRange, IsWriteInRange, Links}
use Rattle.app_load.specs.Files.{IsFit}
use Rattle.app_load.proofs.Files.{one_module}
use Rattle.wasabi_app.specs.Trying.{IsTriable}
use Rattle.app_tests.specs.Storing.{called_once, storing, storing_one, storing_two}

module _ (n : ℤ) (small : IsInSize 32 n) (short : length (module_bytes (storing n)) ≤ 100) where
  pub storing_fits : Fits (storing n)
  storing_fits = record {
    imports = All-from_recursion FitsImport [] tt;
    funcs = All-from_recursion FitsIndex (storing n).funcs (omega arith, tt);
    tables = All-from_recursion FitsRange [] tt;
    memories = All-from_recursion FitsRange (storing n).memories ((omega arith, tt), tt);
    globals = All-from_recursion FitsGlobal [] tt;
    exports = All-from_recursion FitsExport (storing n).exports (omega arith, tt);
    start = tt;
    elements = All-from_recursion FitsElement [] tt;
    bodies = All-from_recursion FitsBody (storing n).bodies (record { locals = omega arith; code = (omega arith, (small, ((omega arith, omega arith), tt))) }, tt);
    segments = All-from_recursion FitsSegment [] tt;
    counts = refl;
    size = omega (arith, short);
  }

  -- its bytes are read as it
  pub read_back : (bytes : List ℕ) (m : Module) → bytes ≡ module_bytes (storing n) → IsFit wide bytes m → m ≡ storing n
  read_back bytes m is fit =
      one_module (module_bytes (storing n)) m (storing n) (subst (λ (b : List ℕ). IsFit wide b m) is fit).spelled (module_spelled (storing n) storing_fits)

short_two : length (module_bytes storing_two) ≤ 100
short_two = omega arith

pub read_one : (bytes : List ℕ) (m : Module) → bytes ≡ module_bytes storing_one → IsFit wide bytes m → m ≡ storing_one
read_one = read_back (pos 1) (omega arith) (omega arith)

pub read_two : (bytes : List ℕ) (m : Module) → bytes ≡ module_bytes storing_two → IsFit wide bytes m → m ≡ storing_two
read_two = read_back (pos 2) (omega arith) short_two

narrow_two : IsWithin narrow storing_two
narrow_two Functions = (omega arith, tt)
narrow_two Types = (omega arith, tt)
narrow_two Parameters = (omega arith, tt)
narrow_two Locals = (omega arith, tt)
narrow_two Nesting = (omega arith, tt)

pub two_narrow : (m : Module) → m ≡ storing_two → IsWithin narrow m
two_narrow m is = subst (IsWithin narrow) (sym is) narrow_two

pub two_short : (m : Module) → m ≡ storing_two → length (module_bytes m) ≤ longest_narrow_file
two_short m is = subst (λ (x : Module). length (module_bytes x) ≤ longest_narrow_file) (sym is) (omega (arith, short_two))

-- it may get hooks
pub two_triable : (m : Module) → m ≡ storing_two → IsValid m → IsFree m → IsTriable m
two_triable m is valid free = record {
  valid = valid;
  limits = two_narrow m is;
  fits = subst Fits (sym is) (storing_fits (pos 2) (omega arith) short_two);
  short = two_short m is;
  free = free;
}

pub once_in_range : IsScriptInRange called_once
once_in_range = record {
  pages = omega arith;
  some_depth = omega arith;
  depth = omega arith;
  some_steps = omega arith;
  steps = omega arith;
  writes = All-from_recursion (λ (a : HostAnswer). All IsWriteInRange a.writes) [] tt;
}

pub one_links : Links storing_one called_once
one_links = refl
